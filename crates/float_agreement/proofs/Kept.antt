-- What the passes keep: the number of tracks, clear incurred increases, and a space below the infinity. Assumes nothing.
use mathlib.Core.Path.{◌≡◌, refl, sym, ◌∙◌, subst}
use mathlib.Core.Logic.{⊎_elim}
use mathlib.Core.Bool.{Bool, true, false, ◌&&◌}
use mathlib.Core.List.{List, [], ◌∷◌}
use Prim.Native.Nat.{ℕ, zero, suc, ◌≤◌, ◌<◌}
use native.Mathlib.Nat.{le_of_suc-le, le_of_eq}
use lib.Dec.{T}
use lib.ListN.{length, get_or, set, length-set}
use lib.Ieee.{Float, nan, binary32, add, sub, mul, lt, le, fits}
use lib.Ieee.Fits.{add-fits, sub-fits}
use Rattle.laws.specs.Lists.{All, all-at, all_set}
use Rattle.laws.specs.Alls.{all_map}
use Rattle.laws.specs.Tests.{true-or-false}
use Rattle.laws.specs.Turns.{turns}
use Rattle.float_laws.specs.Numbers.{zero32, infinity}
use Rattle.float_laws.specs.Std.{clear, IsClear}
use Rattle.float_laws.proofs.Clear.{clear-of-above-zero, add-clear}
use Rattle.laws.specs.Tests.{both_true}
use Rattle.float_distribution.specs.Distribution.{Lists, Left, left, part_at, track_at, size_now, threshold, takes, grown_by, pass_step, one_pass}
use Rattle.float_agreement.specs.Inputs.{TrackInputs}
use Rattle.float_agreement.proofs.Accepted.{size-clear}
use Rattle.float_agreement.proofs.Differences.{sub-below-infinity}

abbrev pub HasClearIncrease : List Float → Type 0
HasClearIncrease row = IsClear (get_or row 4 nan)

pub record Kept (n : ℕ) (s : Left) : Type 0 where
  pub count : length s.tracks ≡ n
  pub increases : All HasClearIncrease s.tracks
  pub space-fits : T (fits binary32 s.space)
  pub space-below : lt s.space infinity ≡ true

pub kept-at-first : (space : Float) (rows : List (List Float)) → All TrackInputs rows → T (fits binary32 space) → lt space infinity ≡ true → Kept (length rows) (left space rows)
kept-at-first space rows tracks f b = record {
  count = refl;
  increases = all_map TrackInputs HasClearIncrease (λ (row : List Float) (h : TrackInputs row). size-clear (get_or row 4 nan) h.incurred) rows tracks;
  space-fits = f;
  space-below = b;
}

-- the row with another incurred increase
abbrev with_incurred : List Float → Float → List Float
with_incurred row x = get_or row 0 nan ∷ get_or row 1 nan ∷ get_or row 2 nan ∷ get_or row 3 nan ∷ x ∷ []

module _ (l : Lists) (share : Float) (i : ℕ) (s : Left) where
  abbrev row_now : List Float
  row_now = get_or s.tracks i []

  abbrev increase : Float
  increase = mul binary32 share (get_or l.proportions i nan)

  abbrev taken : Bool
  taken = takes (part_at l i) (track_at s.tracks i) increase

  step-taken : taken ≡ true → pass_step l share i s ≡ left (sub binary32 s.space increase) (set s.tracks i (with_incurred row_now (add binary32 (get_or row_now 4 nan) increase)))
  step-taken e = rw (e, grown_by) refl

  step-not-taken : taken ≡ false → pass_step l share i s ≡ left s.space (set s.tracks i (with_incurred row_now (get_or row_now 4 nan)))
  step-not-taken e = rw (e, grown_by) refl

  -- an increase that is taken is above 0.0
  increase-clear : taken ≡ true → clear increase ≡ true
  increase-clear e =
      let fitting = le (add binary32 (size_now (part_at l i) (track_at s.tracks i)) increase) (add binary32 (get_or l.limits i nan) threshold) in
      clear-of-above-zero increase (both_true (lt zero32 increase) fitting (both_true (get_or l.affected i false) (lt zero32 increase && fitting) e).1).0

  kept_set : (n : ℕ) (space x : Float) → Kept n s → IsClear x → T (fits binary32 space) → lt space infinity ≡ true → Kept n (left space (set s.tracks i (with_incurred row_now x)))
  kept_set n space x k c f b = record {
    count = length-set s.tracks i (with_incurred row_now x) ∙ k.count;
    increases = all_set HasClearIncrease s.tracks i (with_incurred row_now x) k.increases c;
    space-fits = f;
    space-below = b;
  }

  kept_step : (n : ℕ) → i < n → Kept n s → Kept n (pass_step l share i s)
  kept_step n h k =
      let before = get_or row_now 4 nan in
      let before-clear : IsClear before = all-at HasClearIncrease s.tracks i [] k.increases (rw k.count h) in
      ⊎_elim
      (λ (e : taken ≡ true).
      subst (Kept n) (sym (step-taken e))
      (kept_set n (sub binary32 s.space increase) (add binary32 before increase) k
      (add-fits binary32 before increase, add-clear binary32 before increase before-clear.1 (increase-clear e))
      (sub-fits binary32 s.space increase) (sub-below-infinity s.space increase k.space-fits k.space-below (increase-clear e))))
      (λ (e : taken ≡ false). subst (Kept n) (sym (step-not-taken e)) (kept_set n s.space before k before-clear k.space-fits k.space-below))
      (true-or-false taken)

module _ (l : Lists) (share : Float) (n : ℕ) where
  kept-turns : (m : ℕ) (s : Left) → m ≤ n → Kept n s → Kept n (turns (pass_step l share) m s)
  unfolding turns
  kept-turns zero s h k = k
  kept-turns (suc m) s h k = kept_step l share m (turns (pass_step l share) m s) n h (kept-turns m s (le_of_suc-le h) k)

  pub kept-one-pass : (s : Left) → Kept n s → Kept n (one_pass l share s)
  kept-one-pass s k = kept-turns (length s.tracks) s (le_of_eq k.count) k
