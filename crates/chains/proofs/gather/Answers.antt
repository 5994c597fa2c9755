-- `gather` takes the items from the last to the first, each in front of its batch. Assumes nothing.
use Rattle.std.proofs.Common.{rules}
use Rattle.chains.proofs.Turns.{chained-start, has-head, chained-before}
use Rattle.chains.proofs.gather.Goals as goal

pub loop-i-init : goal.loop-i-init
loop-i-init c =
    chained-start c.args.tracks.now c.args.items.now c.args.heads.now c.args.nexts.now c.requires.heads-long c.requires.nexts-long
    (c.fill.ensures.after (λ y e. e)) (c.fill-2.ensures.after (λ y e. e))

pub offset_bounds-heads-k : goal.offset_bounds-heads-k
offset_bounds-heads-k c =
    let below = has-head c.args.tracks.now c.args.items.now c.requires.items-fit (search rules) c.loop-i.invariant c.of_row.ensures c.batch_of-k.ensures in
    search rules

pub bounds-heads-k : goal.bounds-heads-k
bounds-heads-k c = has-head c.args.tracks.now c.args.items.now c.requires.items-fit (search rules) c.loop-i.invariant c.of_row.ensures c.batch_of-k.ensures

pub loop-i-preserved : goal.loop-i-preserved
loop-i-preserved c =
    rw (c.replace.ensures.value, c.replace.ensures.after)
    (chained-before c.args.tracks.now c.args.items.now c.requires.items-fit (search rules) c.loop-i.invariant c.of_row.ensures c.batch_of-k.ensures)
