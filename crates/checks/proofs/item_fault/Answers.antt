-- `item_fault`: 8, then 9, then 10. Assumes nothing.
use borrow.Author.Rules.{rules}
use borrow.Author.Tests.{tests}
use mathlib.Core.Path.{refl}
use mathlib.Core.List.{map}
use lib.ListN.{length, length-map}
use Rattle.std.proofs.lemmas.Iterator.{YieldsList-from_slice}
use Rattle.std.proofs.lemmas.Iterator.Search.{position_from_yields_List}
use Rattle.kinds.specs.Kinds.{Row, track_of, item_of}
use Rattle.checks.specs.Rule.{is_outside, is_lacking, is_falling, first_of}
use Rattle.checks.proofs.CheckRow.{found, passed}
use Rattle.checks.proofs.LowestWalk.{item-found, item-none}
use Rattle.checks.proofs.item_fault.Goals as goal

pub returns-in-Some : goal.returns-in-Some
unfolding first_of
returns-in-Some c =
    let out = position_from_yields_List (λ (row : Row). is_outside (length (map track_of c.args.tracks.now)) (item_of row)) _ _ c.position.result c.position.ensures.ran (YieldsList-from_slice c.args.items.now cc) (λ x b q k. rw length-map (search (rules, tests))) in
    found _ (item-found 8 (is_outside (length (map track_of c.args.tracks.now))) track_of c.args.tracks.now c.args.items.now out c.in-Some.is)

pub returns-in-Some-position : goal.returns-in-Some-position
unfolding first_of
returns-in-Some-position c =
    let out = position_from_yields_List (λ (row : Row). is_outside (length (map track_of c.args.tracks.now)) (item_of row)) _ _ c.position.result c.position.ensures.ran (YieldsList-from_slice c.args.items.now cc) (λ x b q k. rw length-map (search (rules, tests))) in
    let lack = position_from_yields_List (λ (row : Row). is_lacking (map track_of c.args.tracks.now) (item_of row)) _ _ c.position-2.result c.position-2.ensures.ran (YieldsList-from_slice c.args.items.now cc) (λ x b q k. search (rules, tests)) in
    passed _ (item-none 8 (is_outside (length (map track_of c.args.tracks.now))) track_of c.args.tracks.now c.args.items.now out c.in_default.is) (found _ (item-found 9 (is_lacking (map track_of c.args.tracks.now)) track_of c.args.tracks.now c.args.items.now lack c.in-Some-position.is))

pub returns-in-Some-position-2 : goal.returns-in-Some-position-2
unfolding first_of
returns-in-Some-position-2 c =
    let out = position_from_yields_List (λ (row : Row). is_outside (length (map track_of c.args.tracks.now)) (item_of row)) _ _ c.position.result c.position.ensures.ran (YieldsList-from_slice c.args.items.now cc) (λ x b q k. rw length-map (search (rules, tests))) in
    let lack = position_from_yields_List (λ (row : Row). is_lacking (map track_of c.args.tracks.now) (item_of row)) _ _ c.position-2.result c.position-2.ensures.ran (YieldsList-from_slice c.args.items.now cc) (λ x b q k. search (rules, tests)) in
    let fall = position_from_yields_List (λ (row : Row). is_falling (map track_of c.args.tracks.now) (item_of row)) _ _ c.position-3.result c.position-3.ensures.ran (YieldsList-from_slice c.args.items.now cc) (λ x b q k. search (rules, tests)) in
    passed _ (item-none 8 (is_outside (length (map track_of c.args.tracks.now))) track_of c.args.tracks.now c.args.items.now out c.in_default.is) (passed _ (item-none 9 (is_lacking (map track_of c.args.tracks.now)) track_of c.args.tracks.now c.args.items.now lack c.in_default-position.is) (found _ (item-found 10 (is_falling (map track_of c.args.tracks.now)) track_of c.args.tracks.now c.args.items.now fall c.in-Some-position-2.is)))

pub returns : goal.returns
unfolding first_of
returns c =
    let out = position_from_yields_List (λ (row : Row). is_outside (length (map track_of c.args.tracks.now)) (item_of row)) _ _ c.position.result c.position.ensures.ran (YieldsList-from_slice c.args.items.now cc) (λ x b q k. rw length-map (search (rules, tests))) in
    let lack = position_from_yields_List (λ (row : Row). is_lacking (map track_of c.args.tracks.now) (item_of row)) _ _ c.position-2.result c.position-2.ensures.ran (YieldsList-from_slice c.args.items.now cc) (λ x b q k. search (rules, tests)) in
    let fall = position_from_yields_List (λ (row : Row). is_falling (map track_of c.args.tracks.now) (item_of row)) _ _ c.position-3.result c.position-3.ensures.ran (YieldsList-from_slice c.args.items.now cc) (λ x b q k. search (rules, tests)) in
    passed _ (item-none 8 (is_outside (length (map track_of c.args.tracks.now))) track_of c.args.tracks.now c.args.items.now out c.in_default.is) (passed _ (item-none 9 (is_lacking (map track_of c.args.tracks.now)) track_of c.args.tracks.now c.args.items.now lack c.in_default-position.is) (passed _ (item-none 10 (is_falling (map track_of c.args.tracks.now)) track_of c.args.tracks.now c.args.items.now fall c.in_default-position-2.is) refl))
