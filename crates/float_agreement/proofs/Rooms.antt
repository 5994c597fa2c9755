-- The sum of the open tracks' proportions and their least room, as turns over the open places; both are clear where a place is open. Assumes nothing.
use mathlib.Core.Path.{◌≡◌, refl, sym, ap, ◌∙◌}
use mathlib.Core.Bool.{Bool, true, false}
use mathlib.Core.List.{List, [], ◌∷◌, map, foldl}
use Prim.Native.Nat.{ℕ, ◌<◌}
use lib.ListN.{length, get_or}
use lib.Ieee.{Float, nan, binary32, add, sub, lt, eq}
use lib.Ieee.Fits.{add-fits, div-fits}
use Rattle.laws.specs.Lists.{All, all-at, in_turn}
use Rattle.laws.specs.Alls.{all-image}
use Rattle.laws.specs.Tests.{never}
use Rattle.float_laws.specs.Numbers.{zero32, minus_zero, infinity}
use Rattle.float_laws.specs.Std.{IsClear, min_of}
use Rattle.float_laws.proofs.Agree.{min-clear, total-min-list-agrees}
use Rattle.float_laws.proofs.Clear.{add-clear, room-share-clear}
use Rattle.laws.specs.Tests.{both_true}
use Rattle.float_distribution.specs.Distribution.{Lists, part_at, track_at, is_open, room_of, proportion_sum, least_room}
use Rattle.float_agreement.specs.Rust.{open_places, least_by_total, rooms_of, rust_least}
use Rattle.float_agreement.proofs.Kept.{HasClearIncrease}
use Rattle.float_agreement.proofs.Named.{infinity-clear}
use Rattle.float_agreement.proofs.Parts.{ClearParts}
use Rattle.float_agreement.proofs.Places.{turns-kept, kept-places}
use Rattle.float_agreement.proofs.Shares.{minus-zero-is-zero}
use Rattle.float_agreement.proofs.Sums.{add-minus-zero-clear}

module _ (l : Lists) (rows : List (List Float)) where
  abbrev open_at : ℕ → Bool
  open_at i = is_open (part_at l i) (track_at rows i)

  abbrev room_at : ℕ → Float
  room_at i = room_of (part_at l i) (track_at rows i)

  abbrev add_at : ℕ → Float → Float
  add_at i sum = add binary32 sum (get_or l.proportions i nan)

  abbrev less_at : ℕ → Float → Float
  less_at i least = min_of (room_at i) least

  sum-by-places : proportion_sum l rows ≡ in_turn add_at (open_places l rows) minus_zero
  sum-by-places = turns-kept open_at add_at (length rows) minus_zero

  least-by-places : least_room l rows ≡ in_turn less_at (open_places l rows) infinity
  least-by-places = turns-kept open_at less_at (length rows) infinity

  -- no open place: the sum is -0.0
  sum-of-no-places : (is : List ℕ) → map room_at is ≡ [] → in_turn add_at is minus_zero ≡ minus_zero
  unfolding in_turn
  sum-of-no-places [] e = refl
  sum-of-no-places (i ∷ is) e = cc

  -- so where the passes go on there is a room, and the Rust's `unwrap` has something to unwrap
  pub some-room : eq (proportion_sum l rows) zero32 ≡ false → rooms_of l rows ≡ [] → ⊥
  some-room h e = never (ap (λ (x : Float). eq x zero32) (sum-by-places ∙ sum-of-no-places (open_places l rows) e) ∙ minus-zero-is-zero) h

  module _ (parts : ClearParts l (length rows)) (increases : All HasClearIncrease rows) where
    abbrev OpenAt : ℕ → Type 0
    OpenAt i = (i < length rows) × (open_at i ≡ true)

    room-clear : (i : ℕ) → OpenAt i → IsClear (room_at i)
    room-clear i h =
        let part = parts i h.0 in
        let size = get_or l.sizes i nan in
        let limit = get_or l.limits i nan in
        let proportion = get_or l.proportions i nan in
        let incurred = get_or (get_or rows i []) 4 nan in (
          div-fits binary32 (sub binary32 (sub binary32 limit size) incurred) proportion,
          room-share-clear size incurred limit proportion part.size-clear (all-at HasClearIncrease rows i [] increases h.0) part.limit-clear part.size-finite part.proportion-finite
              part.proportion-above (both_true (lt (add binary32 size incurred) limit) (get_or l.affected i false) h.1).0,
        )

    sums-clear : (is : List ℕ) (sum : Float) → All OpenAt is → IsClear sum → IsClear (in_turn add_at is sum)
    unfolding in_turn All
    sums-clear [] sum hs p = p
    sums-clear (i ∷ is) sum hs p =
        let proportion = get_or l.proportions i nan in
        sums-clear is (add_at i sum) hs.1 (add-fits binary32 sum proportion, add-clear binary32 sum proportion p.1 (parts i hs.0.0).proportion-clear.1)

    places-sum-clear : (is : List ℕ) → All OpenAt is → eq (in_turn add_at is minus_zero) zero32 ≡ false → IsClear (in_turn add_at is minus_zero)
    unfolding in_turn All
    places-sum-clear [] hs h = never minus-zero-is-zero h
    places-sum-clear (i ∷ is) hs h =
        let proportion = get_or l.proportions i nan in
        sums-clear is (add_at i minus_zero) hs.1 (add-fits binary32 minus_zero proportion, add-minus-zero-clear proportion (parts i hs.0.0).proportion-clear.1)

    places-least-clear : (is : List ℕ) (least : Float) → All OpenAt is → IsClear least → IsClear (in_turn less_at is least)
    unfolding in_turn All
    places-least-clear [] least hs p = p
    places-least-clear (i ∷ is) least hs p = places-least-clear is (less_at i least) hs.1 (min-clear (room_at i) least (room-clear i hs.0) p)

    least-as-fold : (is : List ℕ) (least : Float) → in_turn less_at is least ≡ foldl (λ b x. min_of x b) least (map room_at is)
    unfolding in_turn
    least-as-fold [] least = refl
    least-as-fold (i ∷ is) least = least-as-fold is (less_at i least)

    places-least-agrees : (is : List ℕ) → All OpenAt is → eq (in_turn add_at is minus_zero) zero32 ≡ false → least_by_total (map room_at is) ≡ in_turn less_at is infinity
    unfolding in_turn
    places-least-agrees [] hs h = never minus-zero-is-zero h
    places-least-agrees (i ∷ is) hs h =
        sym (total-min-list-agrees (room_at i) (map room_at is) (all-image IsClear room_at OpenAt room-clear (i ∷ is) hs)) ∙ sym (least-as-fold (i ∷ is) infinity)

    open-all : All OpenAt (open_places l rows)
    open-all = kept-places open_at (length rows)

    pub sum-clear : eq (proportion_sum l rows) zero32 ≡ false → IsClear (proportion_sum l rows)
    sum-clear h = rw sum-by-places (places-sum-clear (open_places l rows) open-all (rw sum-by-places at h))

    pub least-clear : IsClear (least_room l rows)
    least-clear = rw least-by-places (places-least-clear (open_places l rows) infinity open-all infinity-clear)

    pub least-agrees : eq (proportion_sum l rows) zero32 ≡ false → rust_least l rows ≡ least_room l rows
    least-agrees h = places-least-agrees (open_places l rows) open-all (rw sum-by-places at h) ∙ sym least-by-places
