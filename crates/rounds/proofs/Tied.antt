-- The fill on the rests is the published rule's fill: a track without a limit is one with room for all the dots.
-- Assumes nothing.
use Rattle.std.proofs.Common.{◌≡◌, ℕ, zero, suc, ◌+◌, ◌-◌, ◌*◌, ◌/◌, ◌<◌, ◌≤◌, min, Bool, true, false, cond, ◌&&◌, eqb, ltb, ◌⊎◌, List, [], ◌∷◌, sym, refl, ap, ◌∙◌, ap₂, inl, inr, le_trans, le_refl, mul-le-mul_left, mul-one, div-le_self, arith, ltb-true, lt-ltb, ne_eqb}
use native.Mathlib.Nat.{min-le_left}
use Rattle.laws.specs.Marks.{bit, number}
use Rattle.laws.specs.Runs.{runs-tied}
use Rattle.laws.specs.Lists.{All}
use Rattle.rounds.specs.Rule.{Room, up_to, no_limit, Track, tracks_of, gains_of, has_room, opens, lower, least_room, within, odd_takers, takes, hand_out, Fill, fill_of, round, more, fill, fill_lists}
use Rattle.rounds.specs.Rests.{cap_of, caps, open_rests, lowered, least_rest, take_each, open_marks, take_marked, take_odd, State, state_of, share_of, rest_round, rest_more, fill_rests, lost}
use Rattle.rounds.proofs.OpenMarks.{Among, none, one, number-open, odd-among}
use Rattle.rounds.proofs.RestRounds.{lowered-le, more_left, more-open}
use Rattle.rounds.proofs.Level.{Below, share-below}

-- the rest x of a track, where d dots are left
abbrev pub RestIs : ℕ → Bool → Room → ℕ → Type 0
RestIs d false r x = x ≡ 0
RestIs d true (up_to r) x = x ≡ r
RestIs d true no_limit x = d ≤ x

-- beside each track its cap, which is its gain and its rest, and its rest
pub data Tied (d : ℕ) : List ℕ → List ℕ → List Track → Type 0 where
  nil : Tied d [] [] []
  tie : {c x : ℕ} {t : Track} {cs xs : List ℕ} {ts : List Track} → RestIs d t.affected t.room x → t.gain + x ≡ c → Tied d cs xs ts
      → Tied d (c ∷ cs) (x ∷ xs) (t ∷ ts)

-- ---- what is open

open-same : (d x : ℕ) (a : Bool) (r : Room) → 0 < d → RestIs d a r x → ltb 0 x ≡ (a && has_room r)
open-same d x false r p h = ap (ltb 0) h
open-same d x true (up_to r) p h = ap (ltb 0) h
open-same d x true no_limit p h = lt-ltb 0 x (omega arith)

opens-same : {d : ℕ} {cs xs : List ℕ} {ts : List Track} → 0 < d → Tied d cs xs ts → open_marks xs ≡ opens ts
unfolding open_marks opens
opens-same p nil = refl
opens-same {d} p (tie {x = x} {t = t} h g s) = ap₂ ◌∷◌ (open-same d x t.affected t.room p h) (opens-same p s)

-- ---- the least room

lower-within : (m r : ℕ) (o : Room) → within (min m r) o ≡ within m (lower (up_to r) o)
lower-within m r (up_to s) = omega arith
lower-within m r no_limit = refl

lower-same : (d m x : ℕ) (a : Bool) (r o : Room) → 0 < d → m ≤ d → RestIs d a r x → within (lowered m x) o ≡ within m (cond (a && has_room r) (lower r o) o)
lower-same d m x false r o p l h = ap (λ (k : ℕ). within (lowered m k) o) h
lower-same d m x true (up_to zero) o p l h = ap (λ (k : ℕ). within (lowered m k) o) h
lower-same d m x true (up_to (suc r)) o p l h =
    let n : (x ≡ 0 → ⊥) = λ (z : x ≡ 0). omega arith in
    rw (ne_eqb x 0 n, lt-ltb 0 (suc r) (omega arith), h) (lower-within m (suc r) o)
lower-same d m x true no_limit o p l h = ap (λ (k : ℕ). within k o) (go (eqb x 0))
  where
    go : (b : Bool) → cond b m (min m x) ≡ m
    go true = refl
    go false = omega arith

least-same : {d : ℕ} (m : ℕ) {cs xs : List ℕ} {ts : List Track} → 0 < d → m ≤ d → Tied d cs xs ts → least_rest m xs ≡ within m (least_room ts)
unfolding least_rest least_room
least-same m p l nil = refl
least-same {d} m p l (tie {x = x} {t = t} {ts = ts} h g s) =
    least-same (lowered m x) p (le_trans (lowered-le m x) l) s ∙ lower-same d m x t.affected t.room (least_room ts) p l h

share-within : (q d : ℕ) (o : Room) → q ≤ d → min q (within d o) ≡ within q o
share-within q d (up_to r) l = omega arith
share-within q d no_limit l = omega arith

-- ---- what a round takes

abbrev track_with : Bool → Room → ℕ → Track
track_with a r g = record { affected = a; room = r; gain = g }

-- a track that is tied to its cap c and its rest x
abbrev TiedOne : ℕ → Track → ℕ → ℕ → Type 0
TiedOne d t x c = RestIs d t.affected t.room x × (t.gain + x ≡ c)

-- a share of k, which no open rest lacks
each-one : (d d' k g x c : ℕ) (a : Bool) (r : Room) → k ≤ d → d' ≤ d - k → (x ≡ 0) ⊎ (k ≤ x) → RestIs d a r x → g + x ≡ c
    → TiedOne d' (cond (a && has_room r) (takes k (track_with a r g)) (track_with a r g)) (x - k) c
each-one d d' k g x c false r l m w h e = (omega arith, omega arith)
each-one d d' k g x c true (up_to zero) l m w h e = (omega arith, omega arith)
each-one d d' k g x c true (up_to (suc r)) l m (inl w) h e = absurd (omega arith)
each-one d d' k g x c true (up_to (suc r)) l m (inr w) h e = rw (lt-ltb 0 (suc r) (omega arith)) (omega arith, omega arith)
each-one d d' k g x c true no_limit l m w h e = (omega arith, omega arith)

each-tied : {d : ℕ} (d' k : ℕ) {cs xs : List ℕ} {ts : List Track} → k ≤ d → d' ≤ d - k → Below k xs → Tied d cs xs ts → Tied d' cs (take_each k xs) (hand_out k (opens ts) ts)
unfolding take_each hand_out opens
each-tied d' k l m w nil = nil
each-tied {d} d' k l m w (tie {c = c} {x = x} {t = t} h g s) =
    let v = each-one d d' k t.gain x c t.affected t.room l m w.0 h g in
    tie v.0 v.1 (each-tied d' k l m w.1 s)

-- one dot to a marked track, which is open
marked-one : (d g x c : ℕ) (m a : Bool) (r : Room) → bit m ≤ x → RestIs d a r x → g + x ≡ c
    → TiedOne 0 (cond m (takes 1 (track_with a r g)) (track_with a r g)) (x - bit m) c
marked-one d g x c true false r l h e = absurd (omega arith)
marked-one d g x c true true (up_to r) l h e = (omega arith, omega arith)
marked-one d g x c true true no_limit l h e = (omega arith, omega arith)
marked-one d g x c false false r l h e = (omega arith, omega arith)
marked-one d g x c false true (up_to r) l h e = (omega arith, omega arith)
marked-one d g x c false true no_limit l h e = (omega arith, omega arith)

marked-tied : {d : ℕ} {ms : List Bool} {cs xs : List ℕ} {ts : List Track} → Among ms xs → Tied d cs xs ts → Tied 0 cs (take_marked ms xs) (hand_out 1 ms ts)
unfolding take_marked hand_out
marked-tied none nil = nil
marked-tied {d} (one {m = m} l a) (tie {c = c} {x = x} {t = t} h g s) =
    let v = marked-one d t.gain x c m t.affected t.room l h g in
    tie v.0 v.1 (marked-tied a s)

-- ---- the two fills side by side

pub record Same (cs : List ℕ) (s : State) (f : Fill) : Type 0 where
  pub left : s.left ≡ f.left
  pub rounds : s.rounds ≡ f.rounds
  pub tied : Tied s.left cs s.rests f.tracks

module _ (cs : List ℕ) (s : State) (f : Fill) where
  more_same : Same cs s f → more f ≡ rest_more s
  unfolding more rest_more
  more_same v = rw (← v.left) (go (ltb 0 s.left) refl)
    where
      go : (b : Bool) → ltb 0 s.left ≡ b → (b && ltb 0 (number (opens f.tracks))) ≡ (b && ltb 0 (open_rests s.rests))
      go true e = ap (ltb 0) (ap number (sym (opens-same (ltb-true 0 s.left e) v.tied)) ∙ number-open s.rests)
      go false e = refl

  round_same : rest_more s ≡ true → Same cs s f → Same cs (rest_round s) (round f)
  unfolding round rest_round
  round_same e v =
      let p = more_left s e in
      let o = opens-same p v.tied in
      let q = div-le_self s.left (open_rests s.rests) in
      let l : share_of s.left s.rests ≡ within (s.left / open_rests s.rests) (least_room f.tracks) = ap (min (s.left / open_rests s.rests)) (least-same s.left p (le_refl s.left) v.tied) ∙ share-within _ _ (least_room f.tracks) q in
      rw (← v.left, ← v.rounds, ← o, number-open s.rests, ← l) (go o (eqb (s.left / open_rests s.rests) 0))
    where
      k : ℕ
      k = share_of s.left s.rests

      go : open_marks s.rests ≡ opens f.tracks → (b : Bool)
          → Same cs
          (cond b (state_of (take_odd s.left s.rests) 0 (s.rounds + 1)) (state_of (take_each k s.rests) (s.left - k * open_rests s.rests) (s.rounds + 1)))
          (cond b (fill_of (hand_out 1 (odd_takers s.left (open_marks s.rests)) f.tracks) 0 (s.rounds + 1)) (fill_of (hand_out k (open_marks s.rests) f.tracks) (s.left - k * open_rests s.rests) (s.rounds + 1)))
      go o true = record { left = refl; rounds = refl; tied = marked-tied (odd-among s.left s.rests) v.tied }
      go o false =
          let a : k ≤ k * open_rests s.rests = rw mul-one at (mul-le-mul_left k (more-open s e)) in
          let b : k ≤ s.left = le_trans (min-le_left _ _) (div-le_self s.left (open_rests s.rests)) in
          record { left = refl; rounds = refl; tied = rw o (each-tied _ k b (omega arith) (share-below s.left s.rests) v.tied) }

-- ---- the start and the end

start-one : (d : ℕ) (a : Bool) (r : Room) (g : ℕ) → g ≡ 0 → TiedOne d (track_with a r g) (cap_of d (track_with a r g)) (cap_of d (track_with a r g))
start-one d true (up_to r) g e = (refl, omega arith)
start-one d true no_limit g e = (le_refl d, omega arith)
start-one d false r g e = (refl, omega arith)

-- tracks before the first round
abbrev pub Fresh : List Track → Type 0
Fresh = All (λ (t : Track). t.gain ≡ 0)

start-tied : (d : ℕ) (ts : List Track) → Fresh ts → Tied d (caps d ts) (caps d ts) ts
unfolding caps All
start-tied d [] f = nil
start-tied d (t ∷ ts) f = let v = start-one d t.affected t.room t.gain f.0 in tie v.0 v.1 (start-tied d ts f.1)

lists-fresh : (as' ls : List Bool) (rs : List ℕ) → Fresh (tracks_of as' ls rs)
unfolding tracks_of All
lists-fresh (a ∷ as') (l ∷ ls) (r ∷ rs) = (refl, lists-fresh as' ls rs)
lists-fresh (a ∷ as') (l ∷ ls) [] = tt
lists-fresh (a ∷ as') [] rs = tt
lists-fresh [] ls rs = tt

lost-gains : {d : ℕ} {cs xs : List ℕ} {ts : List Track} → Tied d cs xs ts → lost cs xs ≡ gains_of ts
unfolding lost gains_of
lost-gains nil = refl
lost-gains (tie {c = c} {x = x} {t = t} h g s) = let e : c - x ≡ t.gain = omega arith in ap₂ ◌∷◌ e (lost-gains s)

-- the fill on the rests gives the rule's gains, leftover and rounds, and ends where it ends
pub record Agree (cs : List ℕ) (s : State) (f : Fill) : Type 0 where
  pub gains : lost cs s.rests ≡ gains_of f.tracks
  pub left : s.left ≡ f.left
  pub rounds : s.rounds ≡ f.rounds
  pub more : more f ≡ rest_more s

pub fresh-agrees : (dots : ℕ) (ts : List Track) → Fresh ts → Agree (caps dots ts) (fill_rests dots (caps dots ts)) (fill dots ts)
unfolding fill_rests fill
fresh-agrees dots ts f =
    let cs = caps dots ts in
    let v =
    runs-tied rest_more rest_round more round (Same cs) (more_same cs) (λ s g e. round_same cs s g e) dots (state_of cs dots 0) (fill_of ts dots 0)
    (record { left = refl; rounds = refl; tied = start-tied dots ts f }) in
    record { gains = lost-gains v.tied; left = v.left; rounds = v.rounds; more = more_same cs _ _ v }

pub fill-agrees : (dots : ℕ) (as' ls : List Bool) (rs : List ℕ) → Agree (caps dots (tracks_of as' ls rs)) (fill_rests dots (caps dots (tracks_of as' ls rs))) (fill_lists dots as' ls rs)
fill-agrees dots as' ls rs = fresh-agrees dots (tracks_of as' ls rs) (lists-fresh as' ls rs)
