-- `put_edges` meets its contract: a turn writes one edge, and the last is the total. Assumes nothing.
use Rattle.std.proofs.Common.{◌≡◌, ◌+◌, ◌≤◌, length, arith, rules}
use Rattle.edges.specs.Rule.{most_edge}
use Rattle.edges.proofs.Made.{base_at, room-here, room-behind, put-next, put-end}
use Rattle.edges.proofs.making.put_edges.Goals as goal

pub overflow_add-edge : goal.overflow_add-edge
overflow_add-edge c =
    let h : c.loop-t.edge + base_at c.args.places.now c.loop-t.t ≤ most_edge =
    room-here c.args.places.now c.loop-t.t c.loop-t.edge c.loop-t-test.true c.loop-t.invariant.within in search rules

pub loop-t-preserved : goal.loop-t-preserved
loop-t-preserved c = record {
  within = room-behind c.args.places.now c.loop-t.t c.loop-t.edge c.loop-t-test.true c.loop-t.invariant.within;
  put = put-next c.args.places.now c.loop-t.t c.loop-t.edge c.loop-t-test.true c.loop-t.edges _ (omega arith) c.loop-t.invariant.put;
}

pub returns : goal.returns
returns c =
    let e : c.loop-t.t ≡ length c.args.places.now = omega arith in
    rw e at (put-end c.args.places.now c.loop-t.t c.loop-t.edge c.loop-t-test.false c.loop-t.edges c.args.edges.now (omega arith) c.loop-t.invariant.put)
