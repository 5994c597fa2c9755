-- Turns that only some places take are turns over the list of those places, each of them below the count and open. Assumes nothing.
use mathlib.Core.Path.{◌≡◌, refl, sym, ap, ◌∙◌}
use mathlib.Core.Bool.{Bool, true, false, cond}
use mathlib.Core.List.{List, [], ◌∷◌, ◌++◌}
use Prim.Native.Nat.{ℕ, zero, suc, ◌+◌, ◌<◌}
use native.Mathlib.Nat.{add-zero, zero-add}
use native.Mathlib.Omega.{arith}
use Rattle.laws.specs.Lists.{keep, up_from, in_turn, All, in-turn-append}
use Rattle.laws.specs.Turns.{turns}

up-from-last : (k n : ℕ) → up_from k (suc n) ≡ up_from k n ++ ((k + n) ∷ [])
unfolding up_from
up-from-last k zero = ap (λ (j : ℕ). j ∷ []) (sym (add-zero k))
up-from-last k (suc n) = ap (k ∷◌) (up-from-last (k + 1) n ∙ ap (λ (j : ℕ). up_from (k + 1) n ++ (j ∷ [])) (omega arith))

up-from-below : (k n m : ℕ) → k + n ≡ m → All (λ (i : ℕ). i < m) (up_from k n)
unfolding up_from All
up-from-below k zero m e = tt
up-from-below k (suc n) m e = (omega (arith, e), up-from-below (k + 1) n m (omega (arith, e)))

module _ (p : ℕ → Bool) where
  keep_append : (xs ys : List ℕ) → keep p (xs ++ ys) ≡ keep p xs ++ keep p ys
  unfolding keep
  keep_append [] ys = refl
  keep_append (x ∷ xs) ys = ap (λ (zs : List ℕ). cond (p x) (x ∷ zs) zs) (keep_append xs ys) ∙ out (p x)
    where
      out : (b : Bool) → cond b (x ∷ (keep p xs ++ keep p ys)) (keep p xs ++ keep p ys) ≡ cond b (x ∷ keep p xs) (keep p xs) ++ keep p ys
      out true = refl
      out false = refl

  keep_all : (P : ℕ → Type 0) (xs : List ℕ) → All P xs → All (λ (i : ℕ). P i × (p i ≡ true)) (keep p xs)
  unfolding keep All
  keep_all P [] ps = tt
  keep_all P (x ∷ xs) ps = go (p x) refl (keep_all P xs ps.1)
    where
      go : (b : Bool) → p x ≡ b → All (λ (i : ℕ). P i × (p i ≡ true)) (keep p xs) → All (λ (i : ℕ). P i × (p i ≡ true)) (cond b (x ∷ keep p xs) (keep p xs))
      go true e rest = ((ps.0, e), rest)
      go false e rest = rest

  pub kept-places : (n : ℕ) → All (λ (i : ℕ). (i < n) × (p i ≡ true)) (keep p (up_from 0 n))
  kept-places n = keep_all (λ (i : ℕ). i < n) (up_from 0 n) (up-from-below 0 n n (zero-add n))

  module _ {S : Type 0} (g : ℕ → S → S) where
    in-turn-one : (n : ℕ) (s : S) → in_turn g (keep p (n ∷ [])) s ≡ cond (p n) (g n s) s
    unfolding in_turn keep
    in-turn-one n s = go (p n)
      where
        go : (b : Bool) → in_turn g (cond b (n ∷ []) []) s ≡ cond b (g n s) s
        go true = refl
        go false = refl

    in-turn-none : (s : S) → s ≡ in_turn g (keep p (up_from 0 0)) s
    unfolding in_turn keep up_from
    in-turn-none s = refl

    pub turns-kept : (n : ℕ) (s : S) → turns (λ (i : ℕ) (t : S). cond (p i) (g i t) t) n s ≡ in_turn g (keep p (up_from 0 n)) s
    unfolding turns
    turns-kept zero s = in-turn-none s
    turns-kept (suc n) s =
        let before = keep p (up_from 0 n) in
        let step : S → S = λ (t : S). cond (p n) (g n t) t in
        ap step (turns-kept n s)
        ∙ sym (in-turn-one n (in_turn g before s))
        ∙ sym (in-turn-append g before (keep p (n ∷ [])) s)
        ∙ ap (λ (xs : List ℕ). in_turn g xs s) (sym (keep_append (up_from 0 n) (n ∷ [])) ∙ ap (keep p) (ap (λ (j : ℕ). up_from 0 n ++ (j ∷ [])) (sym (zero-add n)) ∙ sym (up-from-last 0 n)))
