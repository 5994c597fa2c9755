-- Steps told their number, one after another: what a loop over places does. Assumes nothing.
use Rattle.std.specs.Prelude.{◌≡◌, Bool, true, false, ◌&&◌}
use Rattle.std.proofs.Math.Path.{refl}
use Rattle.std.proofs.Common.{◌∙◌, ap, not-suc-le-zero, arith}
use Rattle.std.proofs.Math.Logic.{⊎_elim}
use Rattle.std.proofs.Math.Bool.{and-false}
use Prim.Native.Nat.{ℕ, zero, suc, ◌+◌, ◌≤◌, ◌<◌}
use Rattle.std.proofs.Math.Numerals.{add-one}
use Rattle.laws.specs.Tests.{lt-or-ge}

module _ {S : Type 0} (step : ℕ → S → S) where
  -- steps 0, 1, .. up to but not including n
  unfoldable pub turns : ℕ → S → S
  turns zero s = s
  turns (suc n) s = step n (turns n s)

module _ {S : Type 0} (step : ℕ → S → S) where
  pub turns-none : (s : S) → s ≡ turns step 0 s
  unfolding turns
  turns-none s = refl

  pub turns_next : (n : ℕ) (s : S) → step n (turns step n s) ≡ turns step (n + 1) s
  unfolding turns
  turns_next n s = rw add-one refl

  -- what a loop holds after i rounds is i turns: one round more, and the last
  pub turns-round : (i : ℕ) (s now after : S) → after ≡ step i now → now ≡ turns step i s → after ≡ turns step (i + 1) s
  turns-round i s now after e p = e ∙ ap (step i) p ∙ turns_next i s

  pub turns-end : (i n : ℕ) (s now : S) → i ≡ n → now ≡ turns step i s → now ≡ turns step n s
  turns-end i n s now e p = p ∙ ap (λ (k : ℕ). turns step k s) e

module _ (holds : ℕ → Bool) where
  -- it holds at each place up to but not including n
  unfoldable pub every_place : ℕ → Bool
  every_place zero = true
  every_place (suc n) = every_place n && holds n

module _ (holds : ℕ → Bool) where
  pub every-place-none : every_place holds 0 ≡ true
  unfolding every_place
  every-place-none = refl

  pub every-place-next : (n : ℕ) → every_place holds n ≡ true → holds n ≡ true → every_place holds (n + 1) ≡ true
  unfolding every_place
  every-place-next n before here = rw add-one (rw (before, here) refl)

  fails-last : (n i : ℕ) → i ≡ n → holds i ≡ false → (every_place holds n && holds n) ≡ false
  fails-last n i same here = rw (← same) (rw here (and-false (every_place holds i)))

  pub every-place-fails : (n i : ℕ) → i < n → holds i ≡ false → every_place holds n ≡ false
  unfolding every_place
  every-place-fails zero i below here = absurd (not-suc-le-zero below)
  every-place-fails (suc n) i below here =
      ⊎_elim (λ (less : i < n). rw (every-place-fails n i less here) refl) (λ (past : n ≤ i). fails-last n i (omega arith) here) (lt-or-ge i n)
