-- `put_section` puts the count and then the rows. Assumes nothing.
use Rattle.std.proofs.Common.{◌+◌, ◌≤◌, refl, length, arith, map}
use Rattle.std.proofs.lemmas.List.{length-map}
use Rattle.laws.specs.Put.{put_then}
use Rattle.sheet.specs.Rule.{rows_bytes, two_bytes}
use Rattle.sheet.proofs.writing.put_section.Goals as goal

pub returns : goal.returns
unfolding two_bytes
returns g c =
    let row = g.R.RecordRow in
    let rows = c.args.rows.now in
    let h : c.args.at ≤ length c.args.bytes.now = omega arith in
    rw (length-map rows row.numbers)
    (put_then c.args.at (c.args.at + 2) (two_bytes (length rows)) (rows_bytes row.parts (map row.numbers rows)) c.args.bytes.now h refl c.put_two.ensures c.put_rows.ensures)
