-- `records_fault` is what is wrong with so many records: it goes on while there is none. Assumes nothing.
use Rattle.std.proofs.Common.{◌≡◌, ◌+◌, ◌-◌, ◌<◌, refl, sym, ◌∙◌, arith}
use Rattle.records.proofs.Looks.{found-first, next-of-fine}
use Rattle.sheet.proofs.Looks.{records-first, records-none}
use Rattle.sheet.proofs.sections.records_fault.Goals as goal

pub returns-in_err-record_fault : goal.returns-in_err-record_fault
returns-in_err-record_fault g c =
    let more : 0 < c.args.count - c.loop.counter = omega arith in
    found-first _ _ c.in_err-record_fault.ensures c.from_residual.ensures.1 _ ∙ sym (records-first g.R.RecordRow.parts c.args.bytes.now _ c.loop.at more) ∙ c.loop.invariant

pub loop-preserved : goal.loop-preserved
loop-preserved g c =
    let parts = g.R.RecordRow.parts in
    let more : 0 < c.args.count - c.loop.counter = omega arith in
    let left : c.args.count - (c.loop.counter + 1) ≡ c.args.count - c.loop.counter - 1 = omega arith in
    rw (left, c.SIZE-at.ensures ∙ g.met.R.RecordRow.size_is) (next-of-fine c.in_ok-record_fault.ensures refl ∙ sym (records-first parts c.args.bytes.now _ c.loop.at more) ∙ c.loop.invariant)

pub returns : goal.returns
returns g c =
    let none : c.args.count - c.loop.counter ≡ 0 = omega arith in
    records-none g.R.RecordRow.parts c.args.bytes.now c.loop.at ∙ (rw none at c.loop.invariant)
