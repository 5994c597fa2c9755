-- `load_from` reads a sheet that has no fault: the tracks and the items into lent rows, and the space. Assumes nothing.
use Rattle.std.proofs.Common.{◌≤◌, ap, ◌∙◌, length, arith}
use lib.Seq.{length-take-le}
use Rattle.sheet_kinds.specs.Kinds.{space_of}
use Rattle.sheet.specs.Rule.{track_record, item_record}
use Rattle.sheet.proofs.Accepted.{accepted-from}
use Rattle.sheet.proofs.RowLoads.{loaded}
use Rattle.sheet.proofs.ReadCall.{load-done}
use Rattle.sheet.proofs.reading.load_from.Goals as goal

pub tracks_from-tracks_at-requires : goal.tracks_from-tracks_at-requires
tracks_from-tracks_at-requires c = let whole = (accepted-from _ _ c.requires.unfaulted).tracks.count.whole in omega arith

pub items_from-items_at-requires : goal.items_from-items_at-requires
items_from-items_at-requires c = (accepted-from _ _ c.requires.unfaulted).tracks.count.whole

pub two_at-track_count-requires : goal.two_at-track_count-requires
two_at-track_count-requires c = rw c.tracks_from-tracks_at.ensures (accepted-from _ _ c.requires.unfaulted).tracks.count.whole

pub two_at-item_count-requires : goal.two_at-item_count-requires
two_at-item_count-requires c = rw c.items_from-items_at.ensures (accepted-from _ _ c.requires.unfaulted).items.count.whole

pub read_rows-requires : goal.read_rows-requires
read_rows-requires c =
    let few : c.two_at-track_count.result ≤ length c.args.tracks.now = rw (c.two_at-track_count.ensures.0, c.tracks_from-tracks_at.ensures) c.requires.tracks_fit in
    rw (length-take-le c.two_at-track_count.result c.args.tracks.now few, c.two_at-track_count.ensures.0, c.tracks_from-tracks_at.ensures) (accepted-from _ _ c.requires.unfaulted).tracks.ends

pub overflow_add-items_at : goal.overflow_add-items_at
overflow_add-items_at c = let whole = (accepted-from _ _ c.requires.unfaulted).items.count.whole in omega (arith, c.items_from-items_at.ensures)

pub read_rows-requires-2 : goal.read_rows-requires-2
read_rows-requires-2 c =
    let few : c.two_at-item_count.result ≤ length c.args.items.now = rw (c.two_at-item_count.ensures.0, c.items_from-items_at.ensures) c.requires.items_fit in
    rw (length-take-le c.two_at-item_count.result c.args.items.now few, c.two_at-item_count.ensures.0, c.items_from-items_at.ensures) (accepted-from _ _ c.requires.unfaulted).items.ends

pub read-requires : goal.read-requires
read-requires c = let whole = (accepted-from _ _ c.requires.unfaulted).tracks.count.whole in omega arith

pub returns : goal.returns
returns c =
    let few_tracks : c.two_at-track_count.result ≤ length c.args.tracks.now = rw (c.two_at-track_count.ensures.0, c.tracks_from-tracks_at.ensures) c.requires.tracks_fit in
    let few_items : c.two_at-item_count.result ≤ length c.args.items.now = rw (c.two_at-item_count.ensures.0, c.items_from-items_at.ensures) c.requires.items_fit in
    load-done c.args.bytes.now c.args.at c.args.tracks.now c.args.items.now c.requires _ _ _ _ _ _ _
    c.tracks_from-tracks_at.ensures
    c.two_at-track_count.ensures.0
    c.items_from-items_at.ensures
    c.two_at-item_count.ensures.0
    (loaded track_record _ _ _ _ _ few_tracks c.read_rows.ensures)
    (loaded item_record _ _ _ _ _ few_items c.read_rows-2.ensures)
    (c.of_row.ensures ∙ ap space_of c.read.ensures)
