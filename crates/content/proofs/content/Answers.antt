-- `content` prepares the lines and spreads the longer spans. Assumes nothing.
use borrow.Author.Rules.{rules}
use mathlib.Core.Path.{◌≡◌, sym, ap, ◌∙◌, subst}
use mathlib.Core.List.{List, map}
use native.Mathlib.Omega.{arith}
use lib.ListN.{length, length-map}
use Rattle.kinds.specs.Kinds.{track_of}
use Rattle.letters.proofs.Shared.{zeros-as}
use Rattle.spans.specs.Work.{Calm}
use Rattle.spans.proofs.Calm.{singles-calm}
use Rattle.spans.proofs.Raised.{batches-on-as}
use Rattle.lines.specs.declared.measured.Measured.{Measured}
use Rattle.content.specs.Store.{spread_lines}
use Rattle.content.proofs.Contents.{content-made, gathered-on}
use Rattle.content.proofs.content.Goals as goal

pub spread-requires : goal.spread-requires
spread-requires c =
    let ts = map track_of c.args.tracks.now in
    let long = length-map c.args.tracks.now track_of in
    let back = sym long in
    let same : length c.prepare.new.lines ≡ length c.args.tracks.now = search rules in (
      record {
        few = omega (arith, c.requires.0);
        fit = c.prepare.ensures.1;
        none = zeros-as {m = length c.args.tracks.now} {n = length c.prepare.new.lines} c.requires.2.none (sym same);
        gains-long = c.requires.2.gains-long ∙ sym same;
        rests-long = c.requires.2.rests-long ∙ sym same;
        totals = c.prepare.ensures.3;
      },
      rw c.new-batches.ensures (batches-on-as _ (same ∙ back) (gathered-on c.args.constraint ts c.args.items.now _ _ c.requires.1.items (search rules) c.prepare.ensures.2)),
      subst Calm (sym c.prepare.ensures.0) (singles-calm c.args.constraint _ ts),
    )

pub returns : goal.returns
returns c =
    let ts = map track_of c.args.tracks.now in
    let long = length-map c.args.tracks.now track_of in
    let back = sym long in
    let same : length c.prepare.new.lines ≡ length c.args.tracks.now = search rules in
    let entry : length c.prepare.new.lines ≡ length c.args.lines.now = search rules in
    (content-made c.args.constraint ts c.args.items.now _ _ c.requires.1.items (search rules) c.prepare.ensures.2 (length c.prepare.new.lines) _ _ (same ∙ back) c.prepare.ensures.0 (c.spread.ensures.0 ∙ ap (λ (bs : List (List Measured)). spread_lines c.args.constraint bs c.prepare.new.lines) c.new-batches.ensures), c.spread.ensures.1, c.prepare.ensures.2, zeros-as {m = length c.prepare.new.lines} {n = length c.args.lines.now} c.spread.ensures.2 entry)
