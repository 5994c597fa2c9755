-- What a look for faults learns of the rows' lengths: where it finds none, the length of each. Assumes nothing.
use mathlib.Core.Path.{◌≡◌}
use Prim.Native.Nat.{ℕ, zero, suc, ◌+◌}
use native.Mathlib.Nat.{not-suc-le-zero, le_of_suc-le-suc}
use mathlib.Core.List.{List, [], ◌∷◌}
use Rattle.laws.specs.Faults.{fine-both}
use Rattle.rows.specs.Shapes.{EachLong}
use Rattle.rows.proofs.Stands.{long-first, long-next}
use Rattle.sheet.specs.Rule.{Part, Row, record_size, fine, row_fault}
use Rattle.sheet.specs.Content.{rows_fault, LookedAt}

module _ (n : ℕ) (parts : List Part) where
  pub looked-of-long : (rows : List Row) (p : ℕ) → EachLong n rows → LookedAt n parts rows p
  unfolding LookedAt
  looked-of-long [] p e = tt
  looked-of-long (row ∷ rows) p e = (long-first n row rows e, λ f. looked-of-long rows (p + record_size parts) (long-next n row rows e))

  pub long-of-looked : (rows : List Row) (p : ℕ) → LookedAt n parts rows p → rows_fault parts rows p ≡ fine → EachLong n rows
  unfolding LookedAt rows_fault
  long-of-looked [] p l e i h = absurd (not-suc-le-zero h)
  long-of-looked (row ∷ rows) p l e zero h = l.0
  long-of-looked (row ∷ rows) p l e (suc i) h =
      let f = fine-both (row_fault parts row p) _ e in
      long-of-looked rows (p + record_size parts) (l.1 f.0) f.1 i (le_of_suc-le-suc h)
