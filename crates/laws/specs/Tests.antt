-- A test as one of its two answers, with what the answer says. Assumes nothing.
use Rattle.std.specs.Prelude.{◌≡◌, refl, ◌⊎◌, Bool, true, false, ◌&&◌, ℕ, ◌+◌, ◌-◌, ◌≤◌, ◌<◌, ltb, leb}
use Rattle.std.proofs.Common.{sym, ◌∙◌, inl, inr, ⊎_elim, true≢false, arith, ltb-true, ltb-false, le-leb}
use Rattle.std.proofs.lemmas.Bool.{lt-leb}

pub true-or-false : (b : Bool) → (b ≡ true) ⊎ (b ≡ false)
true-or-false true = inl refl
true-or-false false = inr refl

-- no test has both answers
pub never : {X : Type 0} {b : Bool} → b ≡ true → b ≡ false → X
never p q = absurd (true≢false (sym p ∙ q))

pub lt-or-ge : (a b : ℕ) → (a < b) ⊎ (b ≤ a)
lt-or-ge a b = go (ltb a b) refl
  where
    go : (t : Bool) → ltb a b ≡ t → (a < b) ⊎ (b ≤ a)
    go true e = inl (ltb-true a b e)
    go false e = inr (ltb-false a b e)

-- what is left of b behind a is enough for c just where a and c together are within b
pub leb-sub : (a b c : ℕ) → a ≤ b → leb c (b - a) ≡ leb (a + c) b
leb-sub a b c h =
    ⊎_elim
    (λ (l : (b - a) < c). lt-leb c (b - a) l ∙ sym (lt-leb (a + c) b (omega arith)))
    (λ (l : c ≤ (b - a)). le-leb c (b - a) l ∙ sym (le-leb (a + c) b (omega arith)))
    (lt-or-ge (b - a) c)

-- both hold
pub both_true : (a b : Bool) → (a && b) ≡ true → (a ≡ true) × (b ≡ true)
both_true true b e = (refl, e)
both_true false b e = never e refl
