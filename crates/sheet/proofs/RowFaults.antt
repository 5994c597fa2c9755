-- The faults that rows can have are numbered 3 to 5. Assumes nothing.
use mathlib.Core.Path.{◌≡◌}
use mathlib.Core.Bool.{Bool, true, false, cond}
use Prim.Native.Nat.{ℕ, ◌+◌, ◌≤◌}
use native.Mathlib.Omega.{arith}
use mathlib.Core.List.{List, [], ◌∷◌}
use lib.Dec.{leb, eqb}
use lib.ListN.{length}
use Rattle.laws.specs.Lists.{among}
use Rattle.rounds.specs.Rule.{most_tracks}
use Rattle.sheet.specs.Rule.{Part, tagged, mark, pair, Row, Tags, Fault, fine, fault, first, unless, tagged_fault, row_fault, record_size, track_record, item_record, most_items, tracks_at}
use Rattle.sheet.specs.Content.{rows_fault, items_after, content_fault}

pub OfRows : Fault → Type 0
OfRows fine = Unit
OfRows (fault number place) = (3 ≤ number) × (number ≤ 5)

pub number-of-rows : (f : Fault) (number place : ℕ) → OfRows f → f ≡ fault number place → (3 ≤ number) × (number ≤ 5)
unfolding OfRows
number-of-rows fine number place h e = let z : ◌≡◌ {A = ℕ} 0 1 = cc in absurd (omega arith)
number-of-rows (fault n p) number place h e = let q : n ≡ number = cc in omega arith

of-fine : OfRows fine
unfolding OfRows
of-fine = tt

of-first : (f g : Fault) → OfRows f → OfRows g → OfRows (first f g)
unfolding OfRows
of-first fine g h k = k
of-first (fault n p) g h k = h

of-unless : (t : Bool) (number place : ℕ) → 3 ≤ number → number ≤ 5 → OfRows (unless t (fault number place))
unfolding OfRows
of-unless true number place h k = tt
of-unless false number place h k = (h, k)

of-tagged : (tags : Tags) (tag n p : ℕ) → OfRows (tagged_fault tags tag n p)
unfolding OfRows tagged_fault
of-tagged tags tag n p = go (among tags.carrying tag) (among tags.bare tag)
  where
    go : (c b : Bool) → OfRows (cond c fine (cond b (unless (eqb n 0) (fault 5 (p + 1))) (fault 4 p)))
    go true b = tt
    go false true = of-unless (eqb n 0) 5 (p + 1) (omega arith) (omega arith)
    go false false = omega arith

of_row : (parts : List Part) (row : Row) (p : ℕ) → OfRows (row_fault parts row p)
unfolding row_fault
of_row [] row p = of-fine
of_row (tagged tags ∷ parts) [] p = of-fine
of_row (tagged tags ∷ parts) (tag ∷ []) p = of-fine
of_row (tagged tags ∷ parts) (tag ∷ n ∷ row) p = of-first _ _ (of-tagged tags tag n p) (of_row parts row (p + 5))
of_row (mark listed ∷ parts) [] p = of-fine
of_row (mark listed ∷ parts) (n ∷ row) p = of-first _ _ (of-unless (among listed n) 4 p (omega arith) (omega arith)) (of_row parts row (p + 1))
of_row (pair ∷ parts) [] p = of-fine
of_row (pair ∷ parts) (n ∷ row) p = of_row parts row (p + 4)

of-rows : (parts : List Part) (rows : List Row) (p : ℕ) → OfRows (rows_fault parts rows p)
unfolding rows_fault
of-rows parts [] p = of-fine
of-rows parts (row ∷ rows) p = of-first _ _ (of_row parts row p) (of-rows parts rows (p + record_size parts))

pub of-sheet : (parts : List Part) (space : Row) (p : ℕ) (tracks items : List Row) → OfRows (first (row_fault parts space p) (content_fault tracks items))
of-sheet parts space p tracks items =
    let after = items_after (length tracks) in
    of-first (row_fault parts space p) _ (of_row parts space p)
    (of-first _ _
    (of-first _ _ (of-unless (leb (length tracks) most_tracks) 3 tracks_at (omega arith) (omega arith)) (of-rows track_record tracks (tracks_at + 2)))
    (of-first _ _ (of-unless (leb (length items) most_items) 3 after (omega arith) (omega arith)) (of-rows item_record items (after + 2))))
