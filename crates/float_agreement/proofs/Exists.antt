-- There is a minimum and a maximum that keep Rust's documentation of every two floats, so the theorems speak of something. Assumes nothing.
use mathlib.Core.Path.{◌≡◌, refl, ap, ◌∙◌}
use mathlib.Core.Logic.{◌⊎◌, inl, inr}
use mathlib.Core.Bool.{Bool, true, false, cond, false≢true}
use Prim.Native.Nat.{ℕ, ◌*◌}
use native.Mathlib.Nat.{le_of_lt}
use lib.Ieee.{Float, nan, inf, fin, up, down, below, lt, eq, is_nan}
use borrow.Author.Tests.{le-ltb, ltb-true}
use Rattle.float_agreement.specs.Rust.{IsRustMin, IsRustMax}

-- ---- of two floats one at most is below the other

below-asymm : (s : Bool) (a : ℕ) (t : Bool) (b : ℕ) → below s a t b ≡ true → below t b s a ≡ false
below-asymm false a false b h = le-ltb b a (le_of_lt (ltb-true a b h))
below-asymm false a true b h = absurd (false≢true h)
below-asymm true a false b h = refl
below-asymm true a true b h = le-ltb a b (le_of_lt (ltb-true b a h))

lt_asymm : (x y : Float) → lt x y ≡ true → lt y x ≡ false
unfolding lt
lt_asymm nan y h = absurd (false≢true h)
lt_asymm (inf s) nan h = absurd (false≢true h)
lt_asymm (inf true) (inf true) h = absurd (false≢true h)
lt_asymm (inf true) (inf false) h = refl
lt_asymm (inf false) (inf t) h = absurd (false≢true h)
lt_asymm (inf true) (fin t n d) h = refl
lt_asymm (inf false) (fin t n d) h = absurd (false≢true h)
lt_asymm (fin s m e) nan h = absurd (false≢true h)
lt_asymm (fin s m e) (inf true) h = absurd (false≢true h)
lt_asymm (fin s m e) (inf false) h = refl
lt_asymm (fin s m e) (fin t n d) h = below-asymm s (m * up e * down d) t (n * up d * down e) h

-- ---- a choice: what is no NaN, then the one that a test names, and the second one otherwise

abbrev chosen : (Float → Float → Bool) → Float → Float → Float
chosen test a b = cond (is_nan a) b (cond (is_nan b) a (cond (test a b) a b))

nan-first : (test : Float → Float → Bool) (a b : Float) → is_nan a ≡ true → chosen test a b ≡ b
nan-first test a b e = ap (λ (t : Bool). cond t b (cond (is_nan b) a (cond (test a b) a b))) e

nan-second : (test : Float → Float → Bool) (a b : Float) → is_nan b ≡ true → chosen test a b ≡ a
unfolding is_nan
nan-second test nan nan e = refl
nan-second test nan (inf t) e = absurd (false≢true e)
nan-second test nan (fin t n d) e = absurd (false≢true e)
nan-second test (inf s) b e = ap (λ (t : Bool). cond t (inf s) (cond (test (inf s) b) (inf s) b)) e
nan-second test (fin s m d) b e = ap (λ (t : Bool). cond t (fin s m d) (cond (test (fin s m d) b) (fin s m d) b)) e

one_of_two : (test : Float → Float → Bool) (a b : Float) → (chosen test a b ≡ a) ⊎ (chosen test a b ≡ b)
one_of_two test a b = go (is_nan a) (is_nan b) (test a b)
  where
    go : (s t u : Bool) → (cond s b (cond t a (cond u a b)) ≡ a) ⊎ (cond s b (cond t a (cond u a b)) ≡ b)
    go true t u = inr refl
    go false true u = inl refl
    go false false true = inl refl
    go false false false = inr refl

-- neither of two that compare is a NaN
lt-no-nan : (a b : Float) → lt a b ≡ true → (is_nan a ≡ false) × (is_nan b ≡ false)
unfolding lt is_nan
lt-no-nan nan b h = absurd (false≢true h)
lt-no-nan (inf s) nan h = absurd (false≢true h)
lt-no-nan (inf s) (inf t) h = (refl, refl)
lt-no-nan (inf s) (fin t n d) h = (refl, refl)
lt-no-nan (fin s m e) nan h = absurd (false≢true h)
lt-no-nan (fin s m e) (inf t) h = (refl, refl)
lt-no-nan (fin s m e) (fin t n d) h = (refl, refl)

by-test : (test : Float → Float → Bool) (a b : Float) (u : Bool) → (is_nan a ≡ false) × (is_nan b ≡ false) → test a b ≡ u → chosen test a b ≡ cond u a b
by-test test a b u h e =
    ap (λ (t : Bool). cond t b (cond (is_nan b) a (cond (test a b) a b))) h.0
    ∙ ap (λ (t : Bool). cond t a (cond (test a b) a b)) h.1
    ∙ ap (λ (t : Bool). cond t a b) e

swapped : {A B : Type 0} → A × B → B × A
swapped p = (p.1, p.0)

-- ---- the two

abbrev pub some_min : Float → Float → Float
some_min a b = chosen lt a b

abbrev pub some_max : Float → Float → Float
some_max a b = chosen (λ (x y : Float). lt y x) a b

pub some-min-is : IsRustMin some_min
some-min-is a b = record {
  first-nan = nan-first lt a b;
  second-nan = nan-second lt a b;
  first-less = λ (h : lt a b ≡ true). by-test lt a b true (lt-no-nan a b h) h;
  second-less = λ (h : lt b a ≡ true). by-test lt a b false (swapped (lt-no-nan b a h)) (lt_asymm b a h);
  equal = λ (h : eq a b ≡ true). one_of_two lt a b;
}

pub some-max-is : IsRustMax some_max
some-max-is a b = record {
  first-nan = nan-first (λ (x y : Float). lt y x) a b;
  second-nan = nan-second (λ (x y : Float). lt y x) a b;
  first-less = λ (h : lt a b ≡ true). by-test (λ (x y : Float). lt y x) a b false (lt-no-nan a b h) (lt_asymm a b h);
  second-less = λ (h : lt b a ≡ true). by-test (λ (x y : Float). lt y x) a b true (swapped (lt-no-nan b a h)) h;
  equal = λ (h : eq a b ≡ true). one_of_two (λ (x y : Float). lt y x) a b;
}
