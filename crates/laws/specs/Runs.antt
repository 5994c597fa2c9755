-- Rounds while there are more of them, and what holds of every such loop. `fuel` bounds the rounds, so that the rule
-- computes; `runs_done` shows when it is enough. Assumes nothing.
use Rattle.std.specs.Prelude.{◌≡◌, Bool, false}
use Rattle.std.proofs.Math.Path.{refl, subst}
use Rattle.std.proofs.Common.{sym, ◌∙◌, le_of_suc-le-suc, not-suc-le-zero}
use Rattle.std.proofs.Math.Logic.{⊎_elim}
use Rattle.std.proofs.Math.Bool.{true}
use Prim.Native.Nat.{ℕ, zero, suc, ◌+◌, ◌≤◌, ◌<◌}
use native.Mathlib.Omega.{arith}
use Rattle.laws.specs.Tests.{true-or-false}

-- while there are more: a round
module _ {S : Type 0} (more : S → Bool) (round : S → S) where
  unfoldable pub runs : ℕ → S → S
  runs zero s = s
  runs (suc fuel) s = elim (more s) [ true ↦ runs fuel (round s) | false ↦ s ]

-- n rounds, whatever there is
module _ {S : Type 0} (round : S → S) where
  unfoldable pub passes : ℕ → S → S
  passes zero s = s
  passes (suc n) s = passes n (round s)

module _ {S : Type 0} (more : S → Bool) (round : S → S) where
  pub runs-more : (fuel : ℕ) (s : S) → more s ≡ true → runs more round (suc fuel) s ≡ runs more round fuel (round s)
  unfolding runs
  runs-more fuel s e = rw (e, runs)

  pub runs-stop : (fuel : ℕ) (s : S) → more s ≡ false → runs more round fuel s ≡ s
  unfolding runs
  runs-stop zero s e = refl
  runs-stop (suc fuel) s e = rw (e, runs)

  -- what each round keeps, the rounds keep
  pub runs-keep : (P : S → Type 0) → ((s : S) → more s ≡ true → P s → P (round s)) → (fuel : ℕ) (s : S) → P s → P (runs more round fuel s)
  unfolding runs
  runs-keep P step zero s p = p
  runs-keep P step (suc fuel) s p =
      ⊎_elim
      (λ e. subst P (sym (runs-more fuel s e)) (runs-keep P step fuel (round s) (step s e p)))
      (λ e. subst P (sym (runs-stop (suc fuel) s e)) p)
      (true-or-false (more s))

  -- where a number falls with each round, fuel of that number is enough: no more rounds are left at the end
  pub runs_done : (size : S → ℕ) → ((s : S) → more s ≡ true → size (round s) < size s) → (fuel : ℕ) (s : S) → size s ≤ fuel → more (runs more round fuel s) ≡ false
  unfolding runs
  runs_done size falls zero s h = ⊎_elim (λ (e : more s ≡ true). let l = falls s e in absurd (omega arith)) (λ e. e) (true-or-false (more s))
  runs_done size falls (suc fuel) s h =
      ⊎_elim
      (λ (e : more s ≡ true). let l = falls s e in rw (runs-more fuel s e) (runs_done size falls fuel (round s) (omega arith)))
      (λ (e : more s ≡ false). rw (runs-stop (suc fuel) s e) e)
      (true-or-false (more s))

-- t is what n rounds make of s, and before each of them there were more
pub record Passed {S : Type 0} (more : S → Bool) (round : S → S) (s t : S) (n : ℕ) : Type 0 where
  pub is : t ≡ passes round n s
  pub each : (m : ℕ) → m < n → more (passes round m s) ≡ true

module _ {S : Type 0} (more : S → Bool) (round : S → S) where
  passed_none : (s : S) → Passed more round s s 0
  unfolding passes
  passed_none s = record { is = refl; each = λ m h. absurd (not-suc-le-zero h) }

  passed-more : (s t : S) (n : ℕ) → more s ≡ true → Passed more round (round s) t n → Passed more round s t (suc n)
  unfolding passes
  passed-more s t n e p = record { is = p.is; each = before }
    where
      before : (m : ℕ) → m < suc n → more (passes round m s) ≡ true
      before zero h = e
      before (suc m) h = p.each m (le_of_suc-le-suc h)

  -- a counter that each round raises by one has risen by the rounds
  pub runs-passed : (count : S → ℕ) → ((s : S) → count (round s) ≡ count s + 1) → (fuel : ℕ) (s : S)
      → (n : ℕ) × (count (runs more round fuel s) ≡ count s + n) × Passed more round s (runs more round fuel s) n
  unfolding runs
  runs-passed count rises zero s = (0, omega arith, passed_none s)
  runs-passed count rises (suc fuel) s =
      ⊎_elim
      (λ (e : more s ≡ true).
      let p = runs-passed count rises fuel (round s) in
      let r = rises s in
      rw (runs-more more round fuel s e) (suc p.0, omega (arith, p.1), passed-more s _ p.0 e p.2))
      (λ (e : more s ≡ false). rw (runs-stop more round (suc fuel) s e) (0, omega arith, passed_none s))
      (true-or-false (more s))

-- two loops side by side: what ties their states is kept, where they end together
module _ {S T : Type 0} (more : S → Bool) (round : S → S) (more' : T → Bool) (round' : T → T) (R : S → T → Type 0)
    (ends : (s : S) (t : T) → R s t → more' t ≡ more s) (step : (s : S) (t : T) → more s ≡ true → R s t → R (round s) (round' t)) where
  pub runs-tied : (fuel : ℕ) (s : S) (t : T) → R s t → R (runs more round fuel s) (runs more' round' fuel t)
  unfolding runs
  runs-tied zero s t r = r
  runs-tied (suc fuel) s t r =
      ⊎_elim
      (λ e. rw (runs-more more round fuel s e, runs-more more' round' fuel t (ends s t r ∙ e)) (runs-tied fuel (round s) (round' t) (step s t e r)))
      (λ e. rw (runs-stop more round (suc fuel) s e, runs-stop more' round' (suc fuel) t (ends s t r ∙ e)) r)
      (true-or-false (more s))
