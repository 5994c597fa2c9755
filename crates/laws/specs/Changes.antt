-- What a change at a place keeps, and what steps keep that are taken one after another. Assumes nothing.
use Rattle.std.specs.Prelude.{◌≡◌, refl, ℕ, zero, suc, length}
use Rattle.std.proofs.Common.{ap, ◌∙◌}
use mathlib.Core.List.{List, [], ◌∷◌}
use Rattle.laws.specs.Lists.{All, change_at, in_turn}

pub all-change : {A : Type 0} (P : A → Type 0) (f : A → A) → ((x : A) → P x → P (f x)) → (i : ℕ) (xs : List A) → All P xs → All P (change_at i f xs)
unfolding All change_at
all-change P f keeps i [] a = a
all-change P f keeps zero (x ∷ xs) a = (keeps x a.0, a.1)
all-change P f keeps (suc i) (x ∷ xs) a = (a.0, all-change P f keeps i xs a.1)

pub length-change : {A : Type 0} (i : ℕ) (f : A → A) (xs : List A) → length (change_at i f xs) ≡ length xs
unfolding change_at
length-change i f [] = refl
length-change zero f (x ∷ xs) = refl
length-change (suc i) f (x ∷ xs) = ap suc (length-change i f xs)

module _ {A S : Type 0} (P : S → Type 0) (f : A → S → S) where
  -- where each step keeps it
  pub in-turn-keeps : ((a : A) (s : S) → P s → P (f a s)) → (xs : List A) (s : S) → P s → P (in_turn f xs s)
  unfolding in_turn
  in-turn-keeps keeps [] s p = p
  in-turn-keeps keeps (x ∷ xs) s p = in-turn-keeps keeps xs (f x s) (keeps x s p)

  -- where each step of such an x keeps it, and all of them are such
  pub in-turn-keeps-all : (Q : A → Type 0) → ((a : A) (s : S) → Q a → P s → P (f a s)) → (xs : List A) (s : S) → All Q xs → P s → P (in_turn f xs s)
  unfolding in_turn All
  in-turn-keeps-all Q keeps [] s qs p = p
  in-turn-keeps-all Q keeps (x ∷ xs) s qs p = in-turn-keeps-all Q keeps xs (f x s) qs.1 (keeps x s qs.0 p)

-- no step makes a list longer or shorter
pub in-turn-long : {A B : Type 0} (f : A → List B → List B) → ((a : A) (s : List B) → length (f a s) ≡ length s) → (xs : List A) (s : List B) → length (in_turn f xs s) ≡ length s
in-turn-long f long xs s = in-turn-keeps (λ (t : List _). length t ≡ length s) f (λ a t e. long a t ∙ e) xs s refl
