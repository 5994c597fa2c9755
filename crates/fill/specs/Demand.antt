-- Demand 3, the conditions that gains and a leftover keep: each condition by its own name, over the call's own lists.
-- Whoever claims gains of his own claims these; proofs/Demand shows that the fill keeps them and that nothing else does.
-- Assumes nothing.
use Rattle.std.specs.Prelude.{◌≡◌, Bool, true, false, List, ℕ, ◌+◌, ◌≤◌, ◌<◌, length, get_or}
use Rattle.laws.specs.Sums.{sum}
use Rattle.fill.specs.Rule.{Room, up_to, no_limit, room_of}

-- three lists as long as a fourth
pub record OneLength (as' ls : List Bool) (rs gs : List ℕ) : Type 0 where
  pub affected : length as' ≡ length gs
  pub limited : length ls ≡ length gs
  pub rooms : length rs ≡ length gs

-- the gain g against a room: it fits, the track is full, or it is short of its limit, as one without a limit always is
abbrev pub Fits : ℕ → Room → Type 0
Fits g (up_to r) = g ≤ r
Fits g no_limit = Unit

abbrev pub Full : ℕ → Room → Type 0
Full g (up_to r) = g ≡ r
Full g no_limit = ⊥

abbrev pub Short : ℕ → Room → Type 0
Short g (up_to r) = g < r
Short g no_limit = Unit

-- an affected track gains what fits its room, and one that is not affected nothing
abbrev pub Allowed : Bool → Room → ℕ → Type 0
Allowed true r g = Fits g r
Allowed false r g = g ≡ 0

-- the track i is at most one dot behind j, and then only if j is earlier
pub record OneBehind (gains : List ℕ) (i j : ℕ) : Type 0 where
  pub near : get_or gains j 0 ≤ get_or gains i 0 + 1
  pub behind : get_or gains i 0 < get_or gains j 0 → j < i

-- Sum: no dot is lost and none is made.
abbrev pub SumHolds : ℕ → List ℕ → ℕ → Type 0
SumHolds dots gains leftover = sum gains + leftover ≡ dots

-- the room of the track i
abbrev pub room_at : List Bool → List ℕ → ℕ → Room
room_at limited rooms i = room_of (get_or limited i false) (get_or rooms i 0)

module _ (affected limited : List Bool) (rooms gains : List ℕ) where
  -- Room: every gain is one that its track is allowed.
  abbrev pub RoomHolds : Type 0
  RoomHolds = (i : ℕ) → i < length gains → Allowed (get_or affected i false) (room_at limited rooms i) (get_or gains i 0)

  -- Leftover: where dots stay over, every affected track is full.
  abbrev pub LeftoverHolds : ℕ → Type 0
  LeftoverHolds leftover = 0 < leftover → (i : ℕ) → i < length gains → get_or affected i false ≡ true → Full (get_or gains i 0) (room_at limited rooms i)

  -- Fairness: an affected track that could take more is one dot behind another at most, and then an earlier one.
  abbrev pub FairnessHolds : Type 0
  FairnessHolds =
      (i j : ℕ) → i < length gains → j < length gains → get_or affected i false ≡ true → Short (get_or gains i 0) (room_at limited rooms i) → OneBehind gains i j

-- the four conditions together, on lists of one length
pub record FairFill (dots : ℕ) (affected limited : List Bool) (rooms gains : List ℕ) (leftover : ℕ) : Type 0 where
  pub lists : OneLength affected limited rooms gains
  pub total : SumHolds dots gains leftover
  pub room : RoomHolds affected limited rooms gains
  pub spent : LeftoverHolds affected limited rooms gains leftover
  pub fairness : FairnessHolds affected limited rooms gains
