-- What the loop of `put_edges` keeps true: there is room for what is left, and what is written, and the edges of the rest put over what stands
-- there, are the answer.
use Rattle.std.proofs.Common.{◌≡◌, ◌++◌, take, drop}
use Rattle.laws.specs.Put.{onto}
use Rattle.edges.specs.Rule.{fine, bases_in}
use Rattle.edges.proofs.Made.{edges_from, limits_at}
use Rattle.edges.proofs.making.put_edges.Given as goal

abbrev pub invariant-loop-t : goal.invariant-loop-t
invariant-loop-t l = record {
  within : limits_at (bases_in l.places) l.t l.edge ≡ fine;
  put : take l.t l.edges ++ onto (edges_from l.edge (drop l.t (bases_in l.places))) (drop l.t l.edges) ≡ onto (edges_from 0 (bases_in l.places)) l.initial.edges;
}
