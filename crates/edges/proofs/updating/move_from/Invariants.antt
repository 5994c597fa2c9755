-- What the loop of `move_from` keeps true: what is written, and the rest moved, are the edges behind the place moved, and each of the rest has
-- room to move.
use Rattle.std.proofs.Common.{◌≡◌, ℕ, ◌≤◌, ◌++◌, map, take, drop}
use Rattle.laws.specs.Lists.{All}
use Rattle.edges.specs.Rule.{most_edge}
use Rattle.edges.specs.Steps.{moved}
use Rattle.edges.proofs.updating.move_from.Given as goal

abbrev pub invariant-loop-edge : goal.invariant-loop-edge
invariant-loop-edge l = record {
  room : All (λ (edge : ℕ). (l.old ≤ edge) × (moved l.old l.base edge ≤ most_edge)) (drop l.edge-index l.edge-items);
  moved : take l.edge-index l.edge-items ++ map (moved l.old l.base) (drop l.edge-index l.edge-items) ≡ map (moved l.old l.base) l.initial.edge-items;
}
