-- The caps of a call's lists, and one track's cap read as its room. Assumes nothing.
use mathlib.Core.Path.{◌≡◌, refl, ap, ◌∙◌}
use mathlib.Core.List.{List, [], ◌∷◌}
use mathlib.Core.Bool.{Bool, true, false, cond}
use Prim.Native.Nat.{ℕ, zero, suc, ◌≤◌, ◌<◌, min, zero-le}
use native.Mathlib.Nat.{le_refl, le_of_suc-le-suc, not-suc-le-zero, min-le_left}
use native.Mathlib.Omega.{arith}
use lib.ListN.{length, get_or}
use Rattle.laws.specs.Tests.{never}
use Rattle.laws.specs.Marks.{bit, number}
use Rattle.fill.specs.Rule.{Track, track_of, tracks_of, room_of, within}
use Rattle.rounds.specs.Rests.{cap_in, cap_of, caps, open_rests}
use Rattle.rounds.proofs.Caps.{caps-length-tracks}
use Rattle.fill.specs.Demand.{OneLength, Allowed, Full, Short}

-- ---- the tracks of a call's lists, and their caps

tracks-length : (as' ls : List Bool) (rs : List ℕ) → OneLength as' ls rs rs → length (tracks_of as' ls rs) ≡ length rs
unfolding tracks_of
tracks-length (a ∷ as') (l ∷ ls) (r ∷ rs) z =
    let pa = z.affected in
    let pl = z.limited in
    ap suc (tracks-length as' ls rs (record { affected = omega arith; limited = omega arith; rooms = refl }))
tracks-length (a ∷ as') (l ∷ ls) [] z = refl
tracks-length (a ∷ as') [] rs z = z.limited
tracks-length [] ls rs z = z.affected

pub caps-length : (dots : ℕ) (as' ls : List Bool) (rs : List ℕ) → OneLength as' ls rs rs → length (caps dots (tracks_of as' ls rs)) ≡ length rs
caps-length dots as' ls rs z = caps-length-tracks dots (tracks_of as' ls rs) ∙ tracks-length as' ls rs z

pub cap-at : (dots : ℕ) (as' ls : List Bool) (rs : List ℕ) (i : ℕ) → OneLength as' ls rs rs → i < length rs
    → get_or (caps dots (tracks_of as' ls rs)) i 0 ≡ cap_of dots (track_of (get_or as' i false) (get_or ls i false) (get_or rs i 0))
unfolding caps tracks_of
cap-at dots (a ∷ as') (l ∷ ls) (r ∷ rs) zero z h = refl
cap-at dots (a ∷ as') (l ∷ ls) (r ∷ rs) (suc i) z h =
    let pa = z.affected in
    let pl = z.limited in
    cap-at dots as' ls rs i (record { affected = omega arith; limited = omega arith; rooms = refl }) (le_of_suc-le-suc h)
cap-at dots (a ∷ as') (l ∷ ls) [] i z h = absurd (not-suc-le-zero h)
cap-at dots (a ∷ as') [] rs i z h = let pl = z.limited in absurd (omega arith)
cap-at dots [] ls rs i z h = let pa = z.affected in absurd (omega arith)

open-cap-le : (dots : ℕ) (t : Track) → min 1 (cap_of dots t) ≤ bit t.affected
open-cap-le dots t = go t.affected
  where
    go : (a : Bool) → min 1 (cond a (cap_in dots t.room) 0) ≤ bit a
    go true = min-le_left 1 _
    go false = le_refl 0

-- no more caps are open than tracks are affected
pub open-caps-le : (dots : ℕ) (as' ls : List Bool) (rs : List ℕ) → open_rests (caps dots (tracks_of as' ls rs)) ≤ number as'
unfolding caps tracks_of open_rests number
open-caps-le dots (a ∷ as') (l ∷ ls) (r ∷ rs) = omega (arith, open-cap-le dots (track_of a l r), open-caps-le dots as' ls rs)
open-caps-le dots (a ∷ as') (l ∷ ls) [] = zero-le
open-caps-le dots (a ∷ as') [] rs = zero-le
open-caps-le dots [] ls rs = zero-le

-- ---- one track: its cap read as its room

pub allowed-of-le-cap : (dots g : ℕ) (a l : Bool) (r : ℕ) → g ≤ cap_of dots (track_of a l r) → Allowed a (room_of l r) g
allowed-of-le-cap dots g true true r h = h
allowed-of-le-cap dots g true false r h = tt
allowed-of-le-cap dots g false l r h = omega arith

pub full-of-eq-cap : (dots g : ℕ) (l : Bool) (r : ℕ) → g < dots → g ≡ cap_of dots (track_of true l r) → Full g (room_of l r)
full-of-eq-cap dots g true r h e = e
full-of-eq-cap dots g false r h e = omega arith

pub lt-cap-of-short : (dots g : ℕ) (l : Bool) (r : ℕ) → g < dots → Short g (room_of l r) → g < cap_of dots (track_of true l r)
lt-cap-of-short dots g true r h s = s
lt-cap-of-short dots g false r h s = h

pub within-le-of-share : (dots g p q : ℕ) (l : Bool) (r : ℕ) → q ≤ dots → (0 < cap_of dots (track_of true l r) → q ≤ p) → min (cap_of dots (track_of true l r)) p ≤ g → within q (room_of l r) ≤ g
within-le-of-share dots g p q true zero d h m = omega arith
within-le-of-share dots g p q true (suc r) d h m = let k : q ≤ p = h (omega arith) in omega arith
within-le-of-share zero g p q false r d h m = omega arith
within-le-of-share (suc dots) g p q false r d h m = let k : q ≤ p = h (omega arith) in omega arith

pub le-room-of-allowed : (a l : Bool) (r g : ℕ) → l ≡ true → Allowed a (room_of l r) g → g ≤ r
le-room-of-allowed true true r g e w = w
le-room-of-allowed true false r g e w = never e refl
le-room-of-allowed false l r g e w = omega arith
