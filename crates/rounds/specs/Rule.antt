-- The fill: handing out dots fairly below limits. This page follows the build paper's paragraph 'Fill' in its words and
-- order. It assumes nothing of the code and it computes.
use Rattle.std.specs.Prelude.{ℕ, ◌+◌, ◌-◌, ◌*◌, ◌/◌, min, Bool, true, false, cond, ◌&&◌, List, [], ◌∷◌, ◌==◌, nat_lt}
use Rattle.laws.specs.Marks.{number}
use Rattle.laws.specs.Runs.{runs}

-- ---- Limits

-- the most tracks of a board, and the most dots of a space or a room
abbrev pub most_tracks : ℕ
most_tracks = 256

abbrev pub most_dots : ℕ
most_dots = 16777215

-- ---- Tracks

-- A track's room: so many dots, or no limit, which is a case of its own and no number.
pub data Room : Type 0 where
  up_to : ℕ → Room
  no_limit : Room

pub record Track : Type 0 where
  pub affected : Bool
  pub room : Room
  pub gain : ℕ

-- The room that a call gives: where a track has no limit, its number is not read.
abbrev pub room_of : Bool → ℕ → Room
room_of true dots = up_to dots
room_of false dots = no_limit

-- A track as a call gives it, before the first round.
abbrev pub track_of : Bool → Bool → ℕ → Track
track_of affected limited room = record { affected = affected; room = room_of limited room; gain = 0 }

unfoldable pub tracks_of : List Bool → List Bool → List ℕ → List Track
tracks_of (a ∷ affected) (l ∷ limited) (r ∷ rooms) = track_of a l r ∷ tracks_of affected limited rooms
tracks_of (a ∷ affected) (l ∷ limited) [] = []
tracks_of (a ∷ affected) [] rooms = []
tracks_of [] limited rooms = []

unfoldable pub gains_of : List Track → List ℕ
gains_of [] = []
gains_of (t ∷ ts) = t.gain ∷ gains_of ts

-- A fill under way: its tracks, the dots that are left, and the rounds so far.
pub record Fill : Type 0 where
  pub tracks : List Track
  pub left : ℕ
  pub rounds : ℕ

abbrev pub fill_of : List Track → ℕ → ℕ → Fill
fill_of ts left rounds = record { tracks = ts; left = left; rounds = rounds }

-- ---- Open tracks: those that are affected and have room

abbrev pub has_room : Room → Bool
has_room (up_to dots) = nat_lt 0 dots
has_room no_limit = true

abbrev pub is_open : Track → Bool
is_open t = t.affected && has_room t.room

-- which tracks are open
unfoldable pub opens : List Track → List Bool
opens [] = []
opens (t ∷ ts) = is_open t ∷ opens ts

-- There is another round while there are dots and open tracks.
unfoldable pub more : Fill → Bool
more f = nat_lt 0 f.left && nat_lt 0 (number (opens f.tracks))

-- the paper's q: dots divided by open tracks, rounded down
abbrev pub quotient : Fill → ℕ
quotient f = f.left / number (opens f.tracks)

-- ---- The odd dots

-- Who takes d odd dots, one each: of the tracks marked open, the first d. Nothing else says it.
unfoldable pub odd_takers : ℕ → List Bool → List Bool
odd_takers d [] = []
odd_takers d (true ∷ os) = nat_lt 0 d ∷ odd_takers (d - 1) os
odd_takers d (false ∷ os) = false ∷ odd_takers d os

-- ---- The share

-- the smaller of two rooms
abbrev pub lower : Room → Room → Room
lower (up_to a) (up_to b) = up_to (min a b)
lower (up_to a) no_limit = up_to a
lower no_limit r = r

-- the least room of the open tracks; no limit where none of them has one
unfoldable pub least_room : List Track → Room
least_room [] = no_limit
least_room (t ∷ ts) = cond (is_open t) (lower t.room (least_room ts)) (least_room ts)

-- the smaller of so many dots and a room
abbrev pub within : ℕ → Room → ℕ
within q (up_to dots) = min q dots
within q no_limit = q

-- what each open track gets: the smaller of q and the least room
abbrev pub share : Fill → ℕ
share f = within (quotient f) (least_room f.tracks)

-- ---- A round

-- a track takes k dots
abbrev pub less : Room → ℕ → Room
less (up_to dots) k = up_to (dots - k)
less no_limit k = no_limit

abbrev pub takes : ℕ → Track → Track
takes k t = record { affected = t.affected; room = less t.room k; gain = t.gain + k }

-- each marked track takes k dots
unfoldable pub hand_out : ℕ → List Bool → List Track → List Track
hand_out k (m ∷ ms) (t ∷ ts) = cond m (takes k t) t ∷ hand_out k ms ts
hand_out k (m ∷ ms) [] = []
hand_out k [] ts = ts

-- One pass. Where q is 0 the odd dots go out, and none are left; else every open track gets the share.
unfoldable pub round : Fill → Fill
round f =
    cond (quotient f == 0)
    (fill_of (hand_out 1 (odd_takers f.left (opens f.tracks)) f.tracks) 0 (f.rounds + 1))
    (fill_of (hand_out (share f) (opens f.tracks) f.tracks) (f.left - share f * number (opens f.tracks)) (f.rounds + 1))

-- ---- The fill

-- Rounds while there are more. A round hands out a dot at least, so there are no more rounds than dots.
unfoldable pub fill : ℕ → List Track → Fill
fill dots ts = runs more round dots (fill_of ts dots 0)

-- The fill of a call's own lists.
abbrev pub fill_lists : ℕ → List Bool → List Bool → List ℕ → Fill
fill_lists dots affected limited rooms = fill dots (tracks_of affected limited rooms)
