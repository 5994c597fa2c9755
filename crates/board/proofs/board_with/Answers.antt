-- `board_with` meets its contract: the rows read are the sheet's (`ReadBoard`). Assumes nothing.
use borrow.Author.Rules.{rules}
use mathlib.Core.Path.{◌≡◌, refl, sym, ap}
use Rattle.std.specs.Prelude.{Ok, Err}
use Rattle.layout.specs.Answer.{layout_told}
use Rattle.board.specs.declared.refusal.Refusal.TheVariants.{Sheet, Layout}
use Rattle.board.proofs.ReadBoard.{sheet-refused, sheet-refused-own, board-read, board-of-sheet}
use Rattle.board.proofs.board_with.Goals as goal

pub returns-in_err-contents : goal.returns-in_err-contents
returns-in_err-contents c =
    let refusal : c.from_residual.result ≡ Err (Sheet c.in_err-contents.field-0.0) = search rules in
    rw refusal (sheet-refused c.args.bytes.now c.args.tracks.now c.args.items.now c.requires.enough c.read.new.tracks c.read.new.items c.read.result _ c.args.sizes.now c.in_err-contents.was c.read.ensures, sheet-refused-own c.args.bytes.now c.args.tracks.now c.args.items.now c.requires.enough c.read.new.tracks c.read.new.items c.read.result _ c.in_err-contents.was c.read.ensures)

pub lay_out_contents-requires-clause-read : goal.lay_out_contents-requires-clause-read
lay_out_contents-requires-clause-read c =
    let ok = board-read c.args.bytes.now c.args.tracks.now c.args.items.now c.requires.enough c.read.new.tracks c.read.new.items c.read.result _ c.in_ok-contents.was c.read.ensures in
    (ok.few_tracks, ok.rows.track_rows, ok.rows.item_rows)

pub returns-in_err-board : goal.returns-in_err-board
returns-in_err-board c =
    let ok = board-read c.args.bytes.now c.args.tracks.now c.args.items.now c.requires.enough c.read.new.tracks c.read.new.items c.read.result _ c.in_ok-contents.was c.read.ensures in
    let refusal : c.from_residual-in_err-board.result ≡ Err (Layout c.in_err-board.field-0.0) = search rules in
    rw refusal (board-of-sheet _ _ _ _ _ _ _ _ _ ok c.args.sizes.now c.lay_out_contents.result c.lay_out_contents.new.sizes c.lay_out_contents.ensures (Err (Layout c.in_err-board.field-0.0)) (sym (ap layout_told c.in_err-board.was)), refl)

pub returns : goal.returns
returns c =
    let ok = board-read c.args.bytes.now c.args.tracks.now c.args.items.now c.requires.enough c.read.new.tracks c.read.new.items c.read.result _ c.in_ok-contents.was c.read.ensures in
    (board-of-sheet _ _ _ _ _ _ _ _ _ ok c.args.sizes.now c.lay_out_contents.result c.lay_out_contents.new.sizes c.lay_out_contents.ensures (Ok c.in_ok-board.board) (sym (ap layout_told c.in_ok-board.was)), refl)
