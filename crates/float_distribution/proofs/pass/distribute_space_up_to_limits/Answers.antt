-- `distribute_space_up_to_limits`: the passes still to come, of what is left, are all the passes. Assumes nothing.
use mathlib.Core.Path.{◌≡◌, sym, ◌∙◌, ap}
use mathlib.Core.Bool.{false}
use Prim.Native.Nat.{◌-◌, ◌+◌}
use native.Mathlib.Omega.{arith}
use lib.ListN.{length}
use lib.Ieee as Ieee
use lib.Ieee.{Float, binary32}
use Rattle.float_laws.specs.Std.{min_of}
use Rattle.float_distribution.specs.Distribution.{left, stops, passes, one_pass, share_of}
use Rattle.float_distribution.specs.Parts.{in_lists}
use Rattle.float_distribution.proofs.Passes.{go_on}
use Rattle.float_distribution.proofs.pass.distribute_space_up_to_limits.Goals as goal

pub loop-preserved : goal.loop-preserved
loop-preserved c =
    let l = in_lists c.args.parts.now in
    let s = left c.loop.rest c.loop.tracks in
    let most = length c.args.tracks.now + 1 in
    let rest = most - (c.loop.counter + 1) in
    let share : c.f32_min-share.result ≡ share_of l s =
    c.f32_min-share.ensures
    ∙ (λ j. min_of (c.least_room-least.ensures j) (Ieee.div binary32 c.loop.rest (c.proportion_sum-sum.ensures j))) in
    let going : stops l s ≡ false =
    rw (c.if-rest.false, ← c.proportion_sum-sum.ensures) c.if-sum.false in
    ap (passes l rest) (c.one_pass-rest.ensures ∙ ap (λ (x : Float). one_pass l x s) share)
    ∙ sym (go_on l (most - c.loop.counter) rest s (omega arith) going) ∙ c.loop.invariant
