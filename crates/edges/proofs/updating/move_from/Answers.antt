-- `move_from` meets its contract: a turn moves one edge, and at the end all are moved. Assumes nothing.
use Rattle.std.proofs.Common.{refl, ◌<◌, ◌≤◌, length, get_or, map, arith, rules}
use Rattle.laws.specs.Alls.{all-next}
use Rattle.laws.specs.Walk.{store_step, kept}
use Rattle.edges.specs.Rule.{most_edge}
use Rattle.edges.specs.Steps.{moved}
use Rattle.edges.proofs.Changed.{whole-behind}
use Rattle.edges.proofs.updating.move_from.Goals as goal

pub loop-edge-init : goal.loop-edge-init
loop-edge-init c = rw (whole-behind c.args.from c.args.edges.now) (record { room = c.requires.1; moved = refl })

pub overflow_sub-edge : goal.overflow_sub-edge
overflow_sub-edge c = (all-next _ c.loop-edge.edge-items c.loop-edge.edge-index 0 (omega arith) c.loop-edge.invariant.room).0.0

pub overflow_add-edge : goal.overflow_add-edge
overflow_add-edge c =
    let h : moved c.args.old c.args.base (get_or c.loop-edge.edge-items c.loop-edge.edge-index 0) ≤ most_edge =
    (all-next _ c.loop-edge.edge-items c.loop-edge.edge-index 0 (omega arith) c.loop-edge.invariant.room).0.1 in search rules

pub loop-edge-preserved : goal.loop-edge-preserved
loop-edge-preserved c =
    let h : c.loop-edge.edge-index < length c.loop-edge.edge-items = omega arith in
    record {
      room = rw kept (all-next _ c.loop-edge.edge-items c.loop-edge.edge-index 0 h c.loop-edge.invariant.room).1;
      moved = store_step c.loop-edge.edge-items c.loop-edge.edge-index (map (moved c.args.old c.args.base)) (map (moved c.args.old c.args.base)) _ 0 _ h (cc) c.loop-edge.invariant.moved;
    }
