-- Elements put into a list at a place, over those that stand there. Assumes nothing.
use Rattle.std.specs.Prelude.{◌≡◌, ℕ, ◌+◌, ◌≤◌, ◌<◌, List, [], ◌∷◌, ◌++◌, length, take, drop, set}
use Rattle.std.proofs.Common.{sym, ap, ◌∙◌, add_assoc, add-zero, zero-add, add-one, arith, append_assoc, length-append, length-drop, take-append-drop, drop-drop, length-take-le}
use Rattle.std.proofs.lemmas.List.{set_split}
use Rattle.std.proofs.Math.Seq.{take-append_seam, drop-append-add}

-- the first places of what was lent are these, the others keep what they hold
abbrev pub onto : {A : Type 0} → List A → List A → List A
onto new lent = new ++ drop (length new) lent

abbrev pub put : {A : Type 0} → ℕ → List A → List A → List A
put at new l = take at l ++ (new ++ drop (at + length new) l)

module _ {A : Type 0} where
  -- a store puts one element
  pub set-is-put : (l : List A) (i : ℕ) (v : A) → i < length l → set l i v ≡ put i (v ∷ []) l
  set-is-put l i v h = rw (add-one, set_split)

  pub put-none : (place : ℕ) (l : List A) → put place [] l ≡ l
  put-none place l = rw (add-zero, take-append-drop)

  -- at the front, they stand before what they leave
  pub put_front : (new l : List A) → put 0 new l ≡ new ++ drop (length new) l
  put_front new l = rw zero-add

  pub length-put : (place : ℕ) (new l : List A) → place + length new ≤ length l → length (put place new l) ≡ length l
  length-put place new l h =
      let h' : place ≤ length l = omega arith in
      simp (length-append, length-drop, length-take-le place l h') (omega arith)

  put-at-seam : (p q more : List A) → put (length p) more (p ++ q) ≡ p ++ (more ++ drop (length more) q)
  put-at-seam p q more = rw (take-append_seam, drop-append-add)

  -- those put behind others are put with them
  pub put-behind : (place next : ℕ) (new more l : List A) → place ≤ length l → next ≡ place + length new
      → put next more (put place new l) ≡ put place (new ++ more) l
  put-behind place next new more l h e =
      let n : next ≡ length (take place l ++ new) =
      e ∙ ap (λ (k : ℕ). k + length new) (sym (length-take-le place l h)) ∙ sym (length-append (take place l) new) in
      rw (← append_assoc (take place l) new (drop (place + length new) l), n, put-at-seam, drop-drop, length-append, ← add_assoc) (simp append_assoc)

  -- the same of lists that are known by what was put into them
  pub put_then : (place next : ℕ) (new more l : List A) {m n : List A} → place ≤ length l → next ≡ place + length new
      → m ≡ put place new l → n ≡ put next more m → n ≡ put place (new ++ more) l
  put_then place next new more l h e p q = q ∙ ap (put next more) p ∙ put-behind place next new more l h e
