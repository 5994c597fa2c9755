-- `load_limits` stores every limit, front to back. Assumes nothing.
use borrow.Author.Rules.{rules}
use mathlib.Core.Path.{sym, ap, ◌∙◌}
use mathlib.Core.List.{List, [], ◌∷◌}
use Prim.Native.Nat.{◌+◌, ◌≤◌}
use native.Mathlib.Omega.{arith}
use lib.ListN.{length, drop, drop_of_length-le}
use lib.Ieee.{Float, nan}
use Rattle.laws.specs.Walk.{next, store_step, store-end}
use Rattle.laws.specs.Zips.{zip-next, zip-nil-right}
use Rattle.float_maximise.specs.Maximise.{limit_of, limits_of}
use Rattle.float_maximise.proofs.load_limits.Goals as goal

pub loop-i-preserved : goal.loop-i-preserved
loop-i-preserved c =
    store_step c.loop-i.limits c.loop-i.i (λ (_ : List Float). limits_of (drop c.loop-i.i c.args.fits.now) (drop c.loop-i.i c.args.tracks.now)) (λ (_ : List Float). limits_of (drop (c.loop-i.i + 1) c.args.fits.now) (drop (c.loop-i.i + 1) c.args.tracks.now)) _ nan _ (search rules)
    (ap (limits_of (drop c.loop-i.i c.args.fits.now)) (next c.args.tracks.now c.loop-i.i [] (search rules))
    ∙ zip-next limit_of c.args.fits.now c.loop-i.i nan _ _ (search rules)
    ∙ ap (λ (limit : Float). limit ∷ limits_of (drop (c.loop-i.i + 1) c.args.fits.now) (drop (c.loop-i.i + 1) c.args.tracks.now)) (sym c.f32_min.ensures)) c.loop-i.invariant

pub returns : goal.returns
returns c =
    let past : length c.args.tracks.now ≤ c.loop-i.i = omega arith in
    store-end c.loop-i.limits c.loop-i.i (λ (_ : List Float). limits_of (drop c.loop-i.i c.args.fits.now) (drop c.loop-i.i c.args.tracks.now)) _ (search rules)
    (ap (limits_of (drop c.loop-i.i c.args.fits.now)) (drop_of_length-le c.args.tracks.now past) ∙ zip-nil-right limit_of (drop c.loop-i.i c.args.fits.now)) c.loop-i.invariant
