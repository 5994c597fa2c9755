-- `share_out` is a fill: the rests are loaded, the rounds are run, and what was lost is gained. Assumes nothing.
use borrow.Author.Rules.{rules}
use Rattle.letters.proofs.Shared.{share-caps, shared-fits, shared}
use Rattle.letters.proofs.share.share_out.Goals as goal

pub collect-requires : goal.collect-requires
collect-requires c =
    let loaded = share-caps c.args.share c.args.dots c.args.lines.now c.args.gains.now _ c.requires.0.gains-long c.load.ensures in
    (record { few = c.requires.0.few; gains-long = search rules; rests-long = search rules }, shared-fits _ _ _ _ _ _ _ _ loaded c.run_rounds-done.ensures c.requires.1 c.requires.2)

pub returns : goal.returns
returns c =
    let loaded = share-caps c.args.share c.args.dots c.args.lines.now c.args.gains.now _ c.requires.0.gains-long c.load.ensures in
    let all = shared _ _ _ _ _ _ _ _ loaded c.run_rounds-done.ensures _ c.collect.ensures in
    (all.0, all.2)
