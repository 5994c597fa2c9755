-- `item_fr` searches the part of the store that the item spans. Assumes nothing.
use Rattle.flexible.proofs.Spans.{store-slice-fits}
use Rattle.flexible.proofs.max_content.item_fr.Goals as goal

pub search_over-found-requires : goal.search_over-found-requires
search_over-found-requires c = store-slice-fits c.args.lines.now c.args.held.now c.args.item.start c.args.item.span c.requires.item_fits.within c.requires.store_fits
