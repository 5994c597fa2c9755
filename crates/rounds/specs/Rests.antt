-- The fill on bare numbers, as the code's walks go. A rest is the room that a track has left: 0 for a track that is not
-- affected, and all the dots for one without a limit, since it never takes more. Nobody has to believe this page:
-- proofs/Tied shows that it gives the published rule's fill. Assumes nothing.
use Rattle.std.specs.Prelude.{ℕ, ◌+◌, ◌-◌, ◌*◌, ◌/◌, min, Bool, cond, ◌&&◌, List, [], ◌∷◌, ◌==◌, nat_lt}
use Rattle.laws.specs.Marks.{bit}
use Rattle.laws.specs.Runs.{runs}
use Rattle.rounds.specs.Rule.{Room, up_to, no_limit, Track, odd_takers}

-- a track's rest at the start, its cap
abbrev pub cap_in : ℕ → Room → ℕ
cap_in dots (up_to room) = room
cap_in dots no_limit = dots

abbrev pub cap_of : ℕ → Track → ℕ
cap_of dots t = cond t.affected (cap_in dots t.room) 0

unfoldable pub caps : ℕ → List Track → List ℕ
caps dots [] = []
caps dots (t ∷ ts) = cap_of dots t ∷ caps dots ts

-- how many rests are open, that is not 0
unfoldable pub open_rests : List ℕ → ℕ
open_rests [] = 0
open_rests (x ∷ xs) = min 1 x + open_rests xs

-- the least of m and the open rests
abbrev pub lowered : ℕ → ℕ → ℕ
lowered m x = cond (x == 0) m (min m x)

unfoldable pub least_rest : ℕ → List ℕ → ℕ
least_rest m [] = m
least_rest m (x ∷ xs) = least_rest (lowered m x) xs

-- each rest loses k, or all that it has
unfoldable pub take_each : ℕ → List ℕ → List ℕ
take_each k [] = []
take_each k (x ∷ xs) = (x - k) ∷ take_each k xs

-- which rests are open
unfoldable pub open_marks : List ℕ → List Bool
open_marks [] = []
open_marks (x ∷ xs) = nat_lt 0 x ∷ open_marks xs

-- each marked rest loses one
unfoldable pub take_marked : List Bool → List ℕ → List ℕ
take_marked (m ∷ ms) (x ∷ xs) = (x - bit m) ∷ take_marked ms xs
take_marked (m ∷ ms) [] = []
take_marked [] xs = xs

-- those that take the odd dots lose one
abbrev pub take_odd : ℕ → List ℕ → List ℕ
take_odd d xs = take_marked (odd_takers d (open_marks xs)) xs

-- a fill under way, by its rests
pub record State : Type 0 where
  pub rests : List ℕ
  pub left : ℕ
  pub rounds : ℕ

abbrev pub state_of : List ℕ → ℕ → ℕ → State
state_of xs left rounds = record { rests = xs; left = left; rounds = rounds }

-- what each open rest loses in a round: the least room is looked for below the dots, since no share is larger
abbrev pub share_of : ℕ → List ℕ → ℕ
share_of left xs = min (left / open_rests xs) (least_rest left xs)

unfoldable pub rest_round : State → State
rest_round s =
    cond (s.left / open_rests s.rests == 0)
    (state_of (take_odd s.left s.rests) 0 (s.rounds + 1))
    (state_of (take_each (share_of s.left s.rests) s.rests) (s.left - share_of s.left s.rests * open_rests s.rests) (s.rounds + 1))

unfoldable pub rest_more : State → Bool
rest_more s = nat_lt 0 s.left && nat_lt 0 (open_rests s.rests)

unfoldable pub fill_rests : ℕ → List ℕ → State
fill_rests dots cs = runs rest_more rest_round dots (state_of cs dots 0)

-- what each track got: what its rest lost
unfoldable pub lost : List ℕ → List ℕ → List ℕ
lost (c ∷ cs) (x ∷ xs) = (c - x) ∷ lost cs xs
lost (c ∷ cs) [] = []
lost [] xs = []
