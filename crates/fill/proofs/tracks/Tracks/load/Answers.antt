-- `load` meets its contract: a turn writes one cap, and at the end all are written. Assumes nothing.
use Rattle.std.proofs.Common.{◌+◌, arith}
use Rattle.laws.specs.Walk.{store_step, store-end}
use Rattle.rounds.specs.Rests.{caps}
use Rattle.fill.proofs.Turns.{rest_from, next-cap, no-cap}
use Rattle.fill.proofs.tracks.Tracks.load.Goals as goal

pub loop-i-preserved : goal.loop-i-preserved
loop-i-preserved c =
    let tracks = c.args.self.now in
    let i = c.loop-i.i in
    store_step _ _ (λ _. caps c.args.dots (rest_from tracks i)) (λ _. caps c.args.dots (rest_from tracks (i + 1))) _ 0 _ (omega arith)
    (next-cap tracks i (omega arith) c.args.dots _ c.cap.ensures) c.loop-i.invariant

pub returns : goal.returns
returns c =
    let tracks = c.args.self.now in
    store-end _ _ (λ _. caps c.args.dots (rest_from tracks c.loop-i.i)) _ (omega arith) (no-cap tracks c.loop-i.i (omega arith) c.args.dots) c.loop-i.invariant
