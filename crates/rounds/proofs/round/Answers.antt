-- `round` meets its contract: its two ends are the round's two cases. Assumes nothing.
use Rattle.rounds.proofs.RestRounds.{round-odd, round-each}
use Rattle.rounds.proofs.round.Goals as goal

pub returns-then-q-eq0 : goal.returns-then-q-eq0
returns-then-q-eq0 c =
    λ n.
    round-odd _ _ c.args.found c.requires.0 _ n c.if-q-eq0.true c.take_odd.ensures

pub returns : goal.returns
returns c =
    λ n.
    round-each _ _ c.args.found c.requires.0 _ _ n c.if-q-eq0.false c.min-k.ensures c.take_each.ensures
