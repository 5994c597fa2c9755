-- `prepare` starts the lines, gathers the batches, takes the items in one track and makes the totals. Assumes nothing.
use borrow.Author.Rules.{rules}
use mathlib.Core.Path.{◌≡◌, sym, ap, ◌∙◌, subst}
use mathlib.Core.List.{List, map}
use native.Mathlib.Omega.{arith}
use lib.ListN.{length, length-map}
use Rattle.kinds.specs.Kinds.{track_of, item_of}
use Rattle.lines.specs.declared.measured.Measured.{Measured}
use Rattle.lines.specs.Rule.{singles}
use Rattle.lines.specs.Fits.{LinesFit}
use Rattle.lines.proofs.Fits.{start_fits}
use Rattle.chains.proofs.Batches.{gathered-batches}
use Rattle.content.proofs.Contents.{items-fit-as, prepared}
use Rattle.content.proofs.prepare.Goals as goal

pub singles-requires : goal.singles-requires
singles-requires c =
    let ts = map track_of c.args.tracks.now in
    let long = length-map c.args.tracks.now track_of in
    let back = sym long in
    let all = gathered-batches ts c.args.items.now _ _ (items-fit-as (map item_of c.args.items.now) long c.requires.0.items-fit) (search rules) c.gather.ensures in
    let same : length c.start.new.lines ≡ length ts = search rules in
    (subst LinesFit (sym c.start.ensures) (start_fits ts c.requires.1), rw (c.new.ensures, same) (all.fits 1 (omega arith) (omega arith)).fit)

pub returns : goal.returns
returns c =
    let ts = map track_of c.args.tracks.now in
    let long = length-map c.args.tracks.now track_of in
    (prepared c.args.constraint ts c.args.items.now _ _ (items-fit-as (map item_of c.args.items.now) long c.requires.0.items-fit) (search rules) c.gather.ensures _ _ c.start.ensures (c.singles.ensures.0 ∙ ap (λ (is : List Measured). singles c.args.constraint is c.start.new.lines) c.new.ensures), c.singles.ensures.1, c.gather.ensures, c.tally.ensures)
