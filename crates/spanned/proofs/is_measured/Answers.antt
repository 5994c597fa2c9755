-- `is_measured` looks at the rows that are spanned. Assumes nothing.
use Rattle.std.proofs.Common.{rules, ◌∙◌, tests}
use Rattle.std.proofs.lemmas.Iterator.{YieldsList-from_slice}
use Rattle.std.proofs.lemmas.Iterator.Search.{any_from_yields_List}
use Rattle.kinds.specs.Kinds.{track_of}
use Rattle.spanned.specs.Rule.{is_unfixed, spanned}
use Rattle.spanned.proofs.Rows.{any_spanned}
use Rattle.spanned.proofs.is_measured.Goals as goal

pub returns : goal.returns
returns c =
    any_from_yields_List
    (λ row. is_unfixed (track_of row)) _ _ c.any.result c.any.ensures.ran
    (YieldsList-from_slice (spanned c.args.item c.args.tracks.now) (cc))
    (λ x b q k. search (rules, tests))
    ∙ any_spanned is_unfixed track_of c.args.item c.args.tracks.now
