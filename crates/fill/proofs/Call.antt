-- The call, case by case as the code goes. Assumes nothing.
use Rattle.std.proofs.Common.{◌≡◌, refl, ap, ap₂, Bool, true, false, List, [], ◌∷◌, Result, Ok, Err, ℕ, suc, ◌+◌, ◌≤◌, ◌<◌, arith, ltb, leb, eqb, length, get_or, lt-ltb, le-ltb, leb-true, eqb-true}
use Rattle.std.proofs.lemmas.Result.{err_from_is_err_and}
use Rattle.laws.specs.Tests.{both_true}
use Rattle.fill.specs.Rule.{Track, track_of, tracks_of, most_tracks, most_dots, lists_fit, first_over, Outcome, outcome, filled, refused, filled_outcome, fill, fill_call}
use Rattle.rounds.specs.Rests.{caps, state_of, fill_rests, lost}
use Rattle.fill.specs.Answer.{number_of, place_of, told_by}
use Rattle.fill.specs.Tracks.{in_rule}
use Rattle.fill.specs.declared.tracks.Tracks.{Tracks}
use Rattle.fill.specs.declared.answer.Refusal.{Refusal}
use Rattle.fill.specs.declared.answer.Refusal.TheVariants.{Lists, Dots, Room}
use Rattle.fill.specs.declared.answer.Filled.{Filled}
use Rattle.rounds.proofs.Tied.{fill-agrees}

module _ (dots : ℕ) (as' ls : List Bool) (rs gs : List ℕ) where
  pub call-lists : lists_fit (length as') (length ls) (length rs) (length gs) ≡ false → outcome (refused 12 0) gs ≡ fill_call dots as' ls rs gs
  unfolding fill_call
  call-lists e = rw e

  module _ (fits : lists_fit (length as') (length ls) (length rs) (length gs) ≡ true) where
    pub call-dots : ltb most_dots dots ≡ true → outcome (refused 7 0) gs ≡ fill_call dots as' ls rs gs
    unfolding fill_call
    call-dots e = rw (fits, e)

    module _ (d : ltb most_dots dots ≡ false) (ts : List Track) (are : ts ≡ tracks_of as' ls rs) where
      pub call-room : first_over ts < length gs → outcome (refused 7 (1 + first_over ts)) gs ≡ fill_call dots as' ls rs gs
      unfolding fill_call
      call-room h = rw (fits, d, ← are, lt-ltb _ _ h)

      pub call-filled : length gs ≤ first_over ts → (o : Outcome) → o ≡ filled_outcome (fill dots ts) → o ≡ fill_call dots as' ls rs gs
      unfolding fill_call
      call-filled h o e = rw (fits, d, ← are, le-ltb _ _ h) e

-- the three steps of handing out
pub handed : (dots : ℕ) (ts : Tracks) (cs xs ys : List ℕ) (left n : ℕ) → cs ≡ caps dots (in_rule ts) → fill_rests dots cs ≡ state_of xs left n
    → ys ≡ lost (caps dots (in_rule ts)) xs → outcome (filled left n) ys ≡ filled_outcome (fill dots (in_rule ts))
handed dots ts cs xs ys left n p q r =
    let a = fill-agrees dots ts.affected.now ts.limited.now ts.rooms.now in
    let s : fill_rests dots (caps dots (in_rule ts)) ≡ state_of xs left n = rw p at q in
    rw (← a.gains, ← a.left, ← a.rounds, s, r)

-- ---- the promise leaves one answer, and reads no room that is not given

-- two answers that tell the same are the same
refusal-of : (p q : Refusal) → number_of p ≡ number_of q → place_of p ≡ place_of q → p ≡ q
refusal-of Lists Lists n e = refl
refusal-of Lists Dots n e = absurd (omega arith)
refusal-of Lists (Room t) n e = absurd (omega arith)
refusal-of Dots Lists n e = absurd (omega arith)
refusal-of Dots Dots n e = refl
refusal-of Dots (Room t) n e = absurd (omega arith)
refusal-of (Room s) Lists n e = absurd (omega arith)
refusal-of (Room s) Dots n e = absurd (omega arith)
refusal-of (Room s) (Room t) n e = let h : s ≡ t = omega arith in ap Room h

pub answer-of-told : (a b : Result Filled Refusal) → told_by a ≡ told_by b → a ≡ b
answer-of-told (Ok f) (Ok g) e = let p : f.leftover ≡ g.leftover = cc in let q : f.rounds ≡ g.rounds = cc in ap Ok (ap₂ (λ (l r : ℕ). record { leftover = l; rounds = r }) p q)
answer-of-told (Ok f) (Err q) e = cc
answer-of-told (Err p) (Ok f) e = cc
answer-of-told (Err p) (Err q) e = let n : number_of p ≡ number_of q = cc in let h : place_of p ≡ place_of q = cc in ap Err (refusal-of p q n h)

track-unread : (a l : Bool) (r s : ℕ) → (l ≡ true → r ≡ s) → track_of a l r ≡ track_of a l s
track-unread a true r s h = ap (track_of a true) (h refl)
track-unread a false r s h = refl

tracks-unread : (as' ls : List Bool) (rs ss : List ℕ) → length rs ≡ length ss → ((i : ℕ) → get_or ls i false ≡ true → get_or rs i 0 ≡ get_or ss i 0) → tracks_of as' ls rs ≡ tracks_of as' ls ss
unfolding tracks_of
tracks-unread (a ∷ as') (l ∷ ls) (r ∷ rs) (s ∷ ss) e h = ap₂ ◌∷◌ (track-unread a l r s (h 0)) (tracks-unread as' ls rs ss (omega arith) (λ i. h (suc i)))
tracks-unread (a ∷ as') (l ∷ ls) (r ∷ rs) [] e h = absurd (omega arith)
tracks-unread (a ∷ as') (l ∷ ls) [] (s ∷ ss) e h = absurd (omega arith)
tracks-unread (a ∷ as') (l ∷ ls) [] [] e h = refl
tracks-unread (a ∷ as') [] rs ss e h = refl
tracks-unread [] ls rs ss e h = refl

-- calls that differ only in the rooms of tracks without a limit leave the same
pub call-unread : (dots : ℕ) (as' ls : List Bool) (rs ss gs : List ℕ) → length rs ≡ length ss → ((i : ℕ) → get_or ls i false ≡ true → get_or rs i 0 ≡ get_or ss i 0)
    → fill_call dots as' ls rs gs ≡ fill_call dots as' ls ss gs
unfolding fill_call
call-unread dots as' ls rs ss gs e h = rw (e, tracks-unread as' ls rs ss e h)

-- for the check of `fill`
pub ruleset cases = (call-lists, call-dots, call-room, call-filled, lt-ltb, le-ltb, err_from_is_err_and)
