-- `with_item` stores the line of the item's track as the item makes it. Assumes nothing.
use borrow.Author.Rules.{rules}
use mathlib.Core.Path.{ap, ap₂, ◌∙◌}
use Prim.Native.Nat.{ℕ, ◌+◌, ◌-◌, ◌<◌, max}
use lib.ListN.{length, get_or}
use Rattle.lines.specs.Rule.{Limit, line}
use Rattle.lines.proofs.NoLine.{no_line}
use Rattle.spans.proofs.OneTrack.{one_line, one-few, one-fits, item-taken}
use Rattle.spans.proofs.one_track.with_item.Goals as goal

pub base_asked-asked-requires : goal.base_asked-asked-requires
base_asked-asked-requires c =
    let h : c.args.item.start < length c.args.lines.now = search rules in
    let n = c.args.item.start + 1 - c.args.item.start in (
      one-few c.args.lines.now c.args.item.start n no_line h (search rules),
      one-fits c.args.lines.now c.args.item.start n no_line h (search rules) c.requires.0,
      one_line c.args.lines.now c.args.item.start n no_line h (search rules),
    )

pub returns : goal.returns
returns c =
    let h : c.args.item.start < length c.args.lines.now = search rules in
    item-taken c.args.constraint c.args.item c.args.lines.now _ no_line
    (ap₂ (λ (n : ℕ) (limit : Limit). line (get_or c.args.lines.now c.args.item.start no_line).track n limit (get_or c.args.lines.now c.args.item.start no_line).growable) (c.max.ensures ∙ ap (max (get_or c.args.lines.now c.args.item.start no_line).base) c.base_asked-asked.ensures) c.limit_asked.ensures)
    h c.requires.0 c.requires.1
