-- `over_fault`: the space, then the tracks, then the items. Assumes nothing.
use borrow.Author.Rules.{rules}
use borrow.Author.Tests.{tests}
use mathlib.Core.Path.{◌≡◌}
use Rattle.std.proofs.lemmas.Iterator.{YieldsList-from_slice}
use Rattle.std.proofs.lemmas.Iterator.Search.{position_from_yields_List}
use Rattle.kinds.specs.Kinds.{Row, item_of}
use Rattle.sheet_kinds.specs.Kinds.{sheet_track_of}
use Rattle.records.specs.Rule.{fine}
use Rattle.checks.specs.Rule.{track_over, item_over, space_over, lowest_space}
use Rattle.checks.proofs.CheckRow.{found, passed}
use Rattle.checks.proofs.LowestWalk.{lowest-found, lowest-none, item-found, item-none}
use Rattle.checks.proofs.over_fault.Goals as goal

pub returns-in-Some : goal.returns-in-Some
returns-in-Some c =
    let over = λ (row : Row). track_over (sheet_track_of row) in
    let track = position_from_yields_List over _ _ c.position.result c.position.ensures.ran (YieldsList-from_slice c.args.tracks.now cc) (λ x b q k. search (rules, tests)) in
    let space_fine : fine ≡ lowest_space 7 space_over c.args.space = rw (← c.space_over.ensures, c.if-space_over.false) in
    passed _ space_fine (found _ (lowest-found 7 track_over sheet_track_of 1 c.args.tracks.now track c.in-Some.is))

pub returns-in-Some-position : goal.returns-in-Some-position
returns-in-Some-position c =
    let over = λ (row : Row). track_over (sheet_track_of row) in
    let track = position_from_yields_List over _ _ c.position.result c.position.ensures.ran (YieldsList-from_slice c.args.tracks.now cc) (λ x b q k. search (rules, tests)) in
    let space_fine : fine ≡ lowest_space 7 space_over c.args.space = rw (← c.space_over.ensures, c.if-space_over.false) in
    let item = position_from_yields_List (λ (row : Row). item_over (item_of row)) _ _ c.position-2.result c.position-2.ensures.ran (YieldsList-from_slice c.args.items.now cc) (λ x b q k. search (rules, tests)) in
    passed _ space_fine (passed _ (lowest-none 7 track_over sheet_track_of 1 c.args.tracks.now track c.in_default.is) (item-found 7 item_over sheet_track_of c.args.tracks.now c.args.items.now item c.in-Some-position.is))

pub returns : goal.returns
returns c =
    let over = λ (row : Row). track_over (sheet_track_of row) in
    let track = position_from_yields_List over _ _ c.position.result c.position.ensures.ran (YieldsList-from_slice c.args.tracks.now cc) (λ x b q k. search (rules, tests)) in
    let space_fine : fine ≡ lowest_space 7 space_over c.args.space = rw (← c.space_over.ensures, c.if-space_over.false) in
    let item = position_from_yields_List (λ (row : Row). item_over (item_of row)) _ _ c.position-2.result c.position-2.ensures.ran (YieldsList-from_slice c.args.items.now cc) (λ x b q k. search (rules, tests)) in
    passed _ space_fine (passed _ (lowest-none 7 track_over sheet_track_of 1 c.args.tracks.now track c.in_default.is) (item-none 7 item_over sheet_track_of c.args.tracks.now c.args.items.now item c.in_default-position.is))
