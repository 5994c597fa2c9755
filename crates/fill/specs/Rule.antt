-- The fill called by itself: what refuses it, and what it leaves. This page follows the build paper's refusals of a fill. The fill
-- has the page before it, `crates/rounds/specs/Rule.antt`, whose names it hands on. It assumes nothing of the code and it computes.
use Rattle.std.specs.Prelude.{ℕ, suc, ◌+◌, Bool, false, cond, not, ◌&&◌, List, [], ◌∷◌, ltb, leb, eqb, length}
pub use Rattle.rounds.specs.Rule.{most_tracks, most_dots, Room, up_to, no_limit, Track, room_of, track_of, fill_of, has_room, is_open, quotient, lower, within, share, less, takes, fill_lists, Fill}
unfoldable pub use Rattle.rounds.specs.Rule.{tracks_of, gains_of, opens, more, odd_takers, least_room, hand_out, round, fill}

-- What a call tells, in the paper's numbers.
pub data Told : Type 0 where
  filled : (leftover rounds : ℕ) → Told
  refused : (number place : ℕ) → Told

-- What a call leaves: what it tells, and what then stands in the lent gains.
pub record Outcome : Type 0 where
  pub told : Told
  pub gains : List ℕ

abbrev pub outcome : Told → List ℕ → Outcome
outcome told gains = record { told = told; gains = gains }

-- the outcome of a fill that was not refused
abbrev pub filled_outcome : Fill → Outcome
filled_outcome f = outcome (filled f.left f.rounds) (gains_of f.tracks)

-- Unless 12: the four lists are of one length, and not too long. The numbers are their lengths.
abbrev pub lists_fit : ℕ → ℕ → ℕ → ℕ → Bool
lists_fit affected limited rooms gains = leb gains most_tracks && (eqb affected gains && (eqb limited gains && eqb rooms gains))

-- A room that is given can be over the space limit, one that is missing cannot.
abbrev pub room_over : Room → Bool
room_over (up_to dots) = ltb most_dots dots
room_over no_limit = false

-- the first track, affected or not, whose room is over; the number of tracks where there is none
unfoldable pub first_over : List Track → ℕ
first_over [] = 0
first_over (t ∷ ts) = cond (room_over t.room) 0 (suc (first_over ts))

-- 12, then 7 for the dots, at place 0, or for a room, at 1 + track; a refusal leaves the gains as they were.
unfoldable pub fill_call : ℕ → List Bool → List Bool → List ℕ → List ℕ → Outcome
fill_call dots affected limited rooms gains =
    cond (not (lists_fit (length affected) (length limited) (length rooms) (length gains)))
    (outcome (refused 12 0) gains)
    (cond (ltb most_dots dots)
    (outcome (refused 7 0) gains)
    (cond (ltb (first_over (tracks_of affected limited rooms)) (length gains))
    (outcome (refused 7 (1 + first_over (tracks_of affected limited rooms))) gains)
    (filled_outcome (fill_lists dots affected limited rooms))))
