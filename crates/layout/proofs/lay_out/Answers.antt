-- `lay_out` meets its contract: the three cases of `LaidOut`. Assumes nothing.
use borrow.Author.Rules.{rules}
use mathlib.Core.Path.{◌≡◌, sym, ap, ◌∙◌}
use lib.Seq.{length-take-le}
use Rattle.std.specs.Prelude.{Err}
use Rattle.checks.specs.Answer.{fault_of}
use Rattle.layout.specs.declared.refusal.Refusal.TheVariants.{Record}
use Rattle.layout.proofs.LaidOut.{too-few-lent, record-refused, sized, sizable}
use Rattle.layout.proofs.lay_out.Goals as goal

pub returns-then-sizes-count : goal.returns-then-sizes-count
returns-then-sizes-count c = too-few-lent c.args.space c.args.tracks.now c.args.items.now c.args.sizes.now c.if-sizes-count.true

pub returns-in_err-record_fault : goal.returns-in_err-record_fault
returns-in_err-record_fault c =
    let told : c.from_residual.result ≡ Err (Record c.in_err-record_fault.field-0.0) = search rules in
    rw told (record-refused c.args.space c.args.tracks.now c.args.items.now c.args.sizes.now c.if-sizes-count.false c.in_err-record_fault.field-0.0 (sym (ap fault_of c.in_err-record_fault.was) ∙ c.record_fault.ensures))

pub size-sized-requires : goal.size-sized-requires
size-sized-requires c =
    let none = sym c.record_fault.ensures ∙ ap fault_of c.in_ok-record_fault.was in
    (sizable c.args.space c.args.tracks.now c.args.items.now c.args.sizes.now _ c.expansion.ensures c.requires.0 none, c.requires.1, length-take-le _ _ c.if-sizes-count.false)

pub returns : goal.returns
returns c =
    let none = sym c.record_fault.ensures ∙ ap fault_of c.in_ok-record_fault.was in
    sized c.args.space c.args.tracks.now c.args.items.now c.args.sizes.now c.if-sizes-count.false none c.size-sized.result _ _ c.expansion.ensures (c.size-sized.auto.sizes ∙ length-take-le _ _ c.if-sizes-count.false) c.size-sized.ensures
