-- `size` goes through the steps in order. Assumes nothing.
use borrow.Author.Rules.{rules}
use Rattle.spanned.specs.Sound.{ConstraintFits}
use mathlib.Core.Path.{◌≡◌, sym, ap, ◌∙◌}
use mathlib.Core.List.{map}
use native.Mathlib.Omega.{arith}
use lib.ListN.{length, length-map}
use Rattle.kinds.specs.Kinds.{track_of, item_of}
use Rattle.lines.specs.Rule.{measured_items}
use Rattle.lines.specs.Chains.{fr_batch, batch_at}
use Rattle.letters.proofs.Shared.{zeros-as}
use Rattle.chains.proofs.Batches.{gathered-batches, gathered-last}
use Rattle.sizing.proofs.WholeSizing.{bases-fit, maximised-fit, sized}
use Rattle.sizing.proofs.size.Goals as goal

pub maximise-rounds-requires : goal.maximise-rounds-requires
maximise-rounds-requires c =
    let ts = map track_of c.args.tracks.now in
    let long = length-map c.args.tracks.now track_of in
    let same : length c.content.new.lines ≡ length c.args.lines.now = search rules in
    let given : ConstraintFits c.args.constraint = c.requires.0.constraint-fits in
    let expanded : ConstraintFits c.args.expansion = c.requires.0.expansion-fits in
    (record { few = omega arith; bases-fit = bases-fit c.content.new.lines c.content.ensures.1; none = zeros-as {m = length c.args.lines.now} {n = length c.content.new.lines} c.content.ensures.3 (sym same); rests-long = search rules }, search rules)

pub finish-free-requires : goal.finish-free-requires
finish-free-requires c =
    let ts = map track_of c.args.tracks.now in
    let long = length-map c.args.tracks.now track_of in
    let same : length c.content.new.lines ≡ length c.args.lines.now = search rules in
    let is_last : c.fr_batch.result ≡ fr_batch (length ts) = c.fr_batch.ensures ∙ ap fr_batch (sym long) in
    let same2 : length c.maximise-rounds.new.lines ≡ length c.content.new.lines = search rules in
    let batches = gathered-batches ts c.args.items.now _ _ c.requires.0.sound.items (search rules) c.content.ensures.2 in (
      record {
        few = omega arith;
        fit = maximised-fit c.args.constraint ts (measured_items ts (map item_of c.args.items.now)) c.content.new.lines c.maximise-rounds.new.lines _ c.content.ensures.0 c.content.ensures.1 c.maximise-rounds.ensures.0;
        none = zeros-as {m = length c.content.new.lines} {n = length c.maximise-rounds.new.lines} c.maximise-rounds.ensures.1 (sym same2);
        rests-long = search rules;
        held-long = c.requires.1.held-long ∙ sym c.requires.1.of-content.lines_long ∙ sym same ∙ sym same2;
        sizes-long = c.requires.2 ∙ sym c.requires.1.of-content.lines_long ∙ sym same ∙ sym same2;
      },
      rw (c.new-batch.ensures, same2 ∙ same ∙ c.requires.1.of-content.lines_long ∙ sym long) (batches.fits c.fr_batch.result (omega arith) (omega arith)).fit,
      c.requires.0.expansion-fits,
    )

pub returns : goal.returns
returns c =
    let ts = map track_of c.args.tracks.now in
    let long = length-map c.args.tracks.now track_of in
    let same : length c.content.new.lines ≡ length c.args.lines.now = search rules in
    let is_last : c.fr_batch.result ≡ fr_batch (length ts) = c.fr_batch.ensures ∙ ap fr_batch (sym long) in
    let batch = c.new-batch.ensures ∙ ap (batch_at c.args.items.now c.content.new.heads c.content.new.nexts) is_last ∙ gathered-last ts c.args.items.now _ _ c.requires.0.sound.items (search rules) c.content.ensures.2 in
    sized c.args.constraint c.args.expansion c.args.asked ts (map item_of c.args.items.now) c.content.new.lines c.maximise-rounds.new.lines c.new-batch.result c.finish-free.new.sizes c.finish-free.result c.maximise-rounds.result
    c.content.ensures.0 c.maximise-rounds.ensures.0 batch c.finish-free.ensures.0 c.finish-free.ensures.1
