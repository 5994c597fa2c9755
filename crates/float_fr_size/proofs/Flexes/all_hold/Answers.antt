-- `all_hold`: the size holds for every track passed, and the first for which it does not answers. Assumes nothing.
use mathlib.Core.Path.{◌≡◌, sym, ◌∙◌}
use mathlib.Core.Bool.{Bool}
use Prim.Native.Nat.{ℕ}
use native.Mathlib.Omega.{arith}
use lib.Ieee.{Float}
use Rattle.laws.specs.Turns.{every-place-none, every-place-next, every-place-fails}
use Rattle.float_fr_size.specs.declared.Flexes.{Flexes}
use Rattle.float_fr_size.specs.Fr.{holds_for, flex_at}
use Rattle.float_fr_size.specs.Flexes.{over}
use Rattle.float_fr_size.proofs.Flexes.all_hold.Goals as goal

abbrev holds_at : Flexes → Float → Float → ℕ → Bool
holds_at ts fr previous i = holds_for (over flex_at ts i) fr previous

pub loop-i-init : goal.loop-i-init
loop-i-init c = every-place-none _

pub returns-then-not-holds : goal.returns-then-not-holds
returns-then-not-holds c =
    let here = holds_at c.args.self.now c.args.fr c.args.previous in
    let told : c.holds.result ≡ here c.loop-i.i = cc in
    sym (every-place-fails here _ c.loop-i.i (omega arith) (sym told ∙ c.if-not-holds.true))

pub loop-i-preserved : goal.loop-i-preserved
loop-i-preserved c =
    let here = holds_at c.args.self.now c.args.fr c.args.previous in
    let told : c.holds.result ≡ here c.loop-i.i = cc in
    every-place-next here c.loop-i.i c.loop-i.invariant (sym told ∙ c.if-not-holds.false)
