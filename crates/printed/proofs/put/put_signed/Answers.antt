-- `put_signed`: the sign where the number is below 0, then the number without it. Assumes nothing.
use mathlib.Core.Path.{ap, ◌∙◌}
use mathlib.Core.List.{◌++◌}
use Prim.Native.Nat.{ℕ}
use native.Mathlib.Omega.{arith}
use Rattle.printed.specs.Rule.{word, decimal, signed}
use Rattle.printed.proofs.Joined.{putting-then, putting-as}
use Rattle.printed.proofs.Signed.{signed-of-below}
use mir.Syntax.{w32}
use mir.Val.{to_z, of_z}
use mir.Facts.{to_z-of_z}
use Rattle.printed.proofs.put.put_signed.Goals as goal

pub returns-then-n-lt0 : goal.returns-then-n-lt0
returns-then-n-lt0 c =
    putting-as (omega arith) (ap (λ (k : ℕ). word "-" ++ decimal k) (c.from-magnitude.ensures ∙ c.unsigned_abs.ensures.value) ∙ (signed-of-below (to_z w32 (of_z w32 c.args.n)) c.if-n-lt0.true ∙ ap signed (to_z-of_z c.ranges.n)))
    (putting-then (omega (arith, c.requires)) c.put_word-next.ensures c.put_number.ensures)
