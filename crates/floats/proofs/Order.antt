-- The numbers of a call whose lengths fit, as the code looks at them: one test after another, of which the first that refuses is told. Assumes nothing.
use mathlib.Core.Path.{◌≡◌, refl, sym}
use mathlib.Core.Bool.{Bool, true}
use mathlib.Core.List.{List, [], ◌∷◌}
use Prim.Native.Nat.{ℕ, ◌+◌, ◌*◌}
use native.Mathlib.Omega.{arith}
use lib.ListN.{length}
use lib.Ieee.{Float}
use Rattle.std.specs.Prelude.{Option}
use Rattle.laws.specs.Faults.{Fault, fine, first, fine-test}
use Rattle.float_domain.specs.declared.kind.Kind.TheVariants.{Size, Limit, Factor, Proportion}
use Rattle.float_domain.specs.Domain.{given, numbers_of, tracks_numbers, lengths_fit, lengths_fault, outside_from}
use Rattle.float_domain.proofs.Outside.{is-refused, outside-cons, outside-run, length-numbers-of, length-tracks-numbers}
use Rattle.float_track.specs.declared.space.AvailableSpace.{AvailableSpace}
use Rattle.floats.specs.Rule.{size_number, space_number, is_gutter_count, gutter_fault, distribution_fault, fr_fault, maximise_fault, stretch_fault}
use Rattle.floats.proofs.Lengths.{one-length}

-- lengths that are tested and fit
past-lengths : (n : ℕ) (ms : List ℕ) (rest : Fault) → fine ≡ lengths_fault n ms → first (lengths_fault n ms) rest ≡ rest
past-lengths n ms rest fit = rw (← fit) refl

pub gutter-in-order : (inner : Option Float) (known : List Bool) (estimates : List Float)
    → fine ≡ lengths_fault (length known) (length estimates ∷ []) → is_gutter_count (length known) ≡ true
    → gutter_fault inner known estimates ≡ first (outside_from 0 (size_number inner ∷ [])) (outside_from 1 (numbers_of Size estimates))
gutter-in-order inner known estimates fit allowed = rw (past-lengths _ _ _ fit, allowed, outside-cons 0 1 (size_number inner) _ refl) refl

pub distribution-in-order : (space : Float) (rows : List (List Float)) (affected : List Bool) (proportions sizes limits : List Float)
    → fine ≡ lengths_fault (length rows) (length affected ∷ length proportions ∷ length sizes ∷ length limits ∷ [])
    → distribution_fault space rows affected proportions sizes limits
    ≡ first (outside_from 0 (given Size space ∷ []))
    (first (outside_from 1 (tracks_numbers rows))
    (first (outside_from (1 + 5 * length rows) (numbers_of Proportion proportions))
    (first (outside_from (1 + 6 * length rows) (numbers_of Size sizes)) (outside_from (1 + 7 * length rows) (numbers_of Limit limits)))))
distribution-in-order space rows affected proportions sizes limits fit =
    let n = length rows in
    let ms = length affected ∷ length proportions ∷ length sizes ∷ length limits ∷ [] in
    let same = one-length affected proportions sizes limits n (fine-test (lengths_fit n ms) 12 0 (sym fit)) in
    let from-tracks = length-tracks-numbers rows in
    let from-proportions = length-numbers-of Proportion proportions in
    let from-sizes = length-numbers-of Size sizes in
    rw (past-lengths n ms _ fit, outside-cons 0 1 (given Size space) _ refl, outside-run 1 (1 + 5 * n) (tracks_numbers rows) _ (omega arith), outside-run (1 + 5 * n) (1 + 6 * n) (numbers_of Proportion proportions) _ (omega arith), outside-run (1 + 6 * n) (1 + 7 * n) (numbers_of Size sizes) _ (omega arith)) refl

pub fr-in-order : (rows : List (List Float)) (flexible : List Bool) (factors : List Float) (space : Float)
    → fine ≡ lengths_fault (length rows) (length flexible ∷ length factors ∷ [])
    → fr_fault rows flexible factors space
    ≡ first (outside_from 0 (given Size space ∷ []))
    (first (outside_from 1 (tracks_numbers rows)) (outside_from (1 + 5 * length rows) (numbers_of Factor factors)))
fr-in-order rows flexible factors space fit =
    let from-tracks = length-tracks-numbers rows in
    rw (past-lengths _ _ _ fit, outside-cons 0 1 (given Size space) _ refl, outside-run 1 (1 + 5 * length rows) (tracks_numbers rows) _ (omega arith)) refl

pub maximise-in-order : (rows : List (List Float)) (fits : List Float) (space : AvailableSpace)
    → fine ≡ lengths_fault (length rows) (length fits ∷ [])
    → maximise_fault rows fits space
    ≡ first (outside_from 0 (space_number space ∷ []))
    (first (outside_from 1 (tracks_numbers rows)) (outside_from (1 + 5 * length rows) (numbers_of Limit fits)))
maximise-in-order rows fits space fit =
    let from-tracks = length-tracks-numbers rows in
    rw (past-lengths _ _ _ fit, outside-cons 0 1 (space_number space) _ refl, outside-run 1 (1 + 5 * length rows) (tracks_numbers rows) _ (omega arith)) refl

pub stretch-in-order : (rows : List (List Float)) (autos : List Bool) (minimum : Option Float) (space : AvailableSpace)
    → fine ≡ lengths_fault (length rows) (length autos ∷ [])
    → stretch_fault rows autos minimum space
    ≡ first (outside_from 0 (size_number minimum ∷ [])) (first (outside_from 1 (space_number space ∷ [])) (outside_from 2 (tracks_numbers rows)))
stretch-in-order rows autos minimum space fit =
    rw (past-lengths _ _ _ fit, outside-cons 0 1 (size_number minimum) _ refl, outside-cons 1 2 (space_number space) _ refl) refl

-- for the check of the functions that look a call through, with what a refusal says that they hand on
pub ruleset in_order = (is-refused, gutter-in-order, distribution-in-order, fr-in-order, maximise-in-order, stretch-in-order)
