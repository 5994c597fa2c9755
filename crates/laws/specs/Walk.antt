-- A loop that walks a list from the front, with i as the next place: what it has still to read is `drop i l`, and what it
-- has written is `take i l`. Assumes nothing.
use Rattle.std.specs.Prelude.{◌≡◌, List, [], ◌∷◌, ◌++◌, ℕ, ◌+◌, ◌≤◌, ◌<◌, length, get_or, take, drop, set}
use mathlib.Core.Path.{sym, ap, ◌∙◌}
use lib.Seq.{get_or-drop, drop-drop}
use native.Mathlib.Nat.{add-zero}
use Rattle.std.proofs.Common.{append_assoc, append-nil, add-one, arith, drop_of_length-le, drop-cons, take-suc-set, drop-set-lt, take_all}

module _ {A : Type 0} where
  -- one more is read
  pub next : (l : List A) (i : ℕ) (d : A) → i < length l → drop i l ≡ get_or l i d ∷ drop (i + 1) l
  next l i d h = rw (add-one, drop-cons l i d)

  -- a store at i makes the written part one longer
  pub written : (l : List A) (i : ℕ) (v : A) (t : List A) → i < length l → take (i + 1) (set l i v) ++ t ≡ take i l ++ (v ∷ t)
  written l i v t h = rw (add-one, take-suc-set, append_assoc)

  -- and leaves what is still to read
  pub kept : (l : List A) (i : ℕ) (v : A) → drop (i + 1) (set l i v) ≡ drop (i + 1) l
  kept l i v = drop-set-lt (i + 1) l i v (omega arith)

  module _ (l : List A) (i : ℕ) where
    -- A turn that stores v, where w is what the whole walk makes, F what it makes of the rest before this turn, and G after it.
    pub store_step : (F G : List A → List A) (v d : A) (w : List A) → i < length l
        → F (get_or l i d ∷ drop (i + 1) l) ≡ v ∷ G (drop (i + 1) l) → take i l ++ F (drop i l) ≡ w
        → take (i + 1) (set l i v) ++ G (drop (i + 1) (set l i v)) ≡ w
    store_step F G v d w h e p = rw (written, kept, ← p, next l i d, e)

    -- the walk's end
    pub store-end : (F : List A → List A) (w : List A) → length l ≤ i → F [] ≡ [] → take i l ++ F (drop i l) ≡ w → l ≡ w
    store-end F w h e p = rw (drop_of_length-le l, e, take_all, append-nil) at p

-- lists that are the same from the place i on
module _ {A : Type 0} (xs ys : List A) (i : ℕ) (e : drop i xs ≡ drop i ys) where
  pub same_here : (d : A) → get_or xs i d ≡ get_or ys i d
  same_here d =
      let a : get_or (drop i xs) 0 d ≡ get_or xs i d = get_or-drop i xs 0 d ∙ ap (λ (k : ℕ). get_or xs k d) (add-zero i) in
      let b : get_or (drop i ys) 0 d ≡ get_or ys i d = get_or-drop i ys 0 d ∙ ap (λ (k : ℕ). get_or ys k d) (add-zero i) in
      sym a ∙ ap (λ (zs : List A). get_or zs 0 d) e ∙ b

  pub same_next : (v : A) → drop (i + 1) (set xs i v) ≡ drop (i + 1) ys
  same_next v = kept xs i v ∙ sym (drop-drop 1 i xs) ∙ ap (drop 1) e ∙ drop-drop 1 i ys
