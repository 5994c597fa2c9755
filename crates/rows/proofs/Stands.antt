-- What stands in bytes at a place. Where the bytes of a number, a record or several records stand, that is read; and what is
-- read stands there. Stated once, over any record. Assumes nothing.
use mathlib.Core.Path.{◌≡◌, refl, sym, ap, ap₂, ◌∙◌}
use Prim.Native.Nat.{ℕ, zero, suc, ◌+◌, ◌-◌, ◌*◌, ◌/◌, ◌%◌, ◌≤◌, suc-le-suc}
use native.Mathlib.Nat.{mod-add-div, add-zero, not-suc-le-zero, le_of_suc-le-suc}
use native.Mathlib.Omega.{arith}
use mathlib.Core.List.{List, [], ◌∷◌, ◌++◌, append_assoc, append-nil}
use lib.ListN.{length, get_or, drop, length-append, length-drop}
use lib.Seq.{drop-append_seam, drop-drop, get_or-drop}
use Rattle.laws.specs.Walk.{next}
use Rattle.records.specs.Rule.{byte_at, two_at, four_at, two_bytes, four_bytes, Part, tagged, mark, pair, record_size, Row, row_at, row_bytes, rows_at, rows_bytes}
use Rattle.rows.specs.Shapes.{width, AreBytes, EachLong}
use Rattle.records.proofs.LittleEndian.{two_bytes-of-bytes, four_bytes-of-halves, length-two_bytes, length-four_bytes}

-- from place p on there is w, and then the rest
pub record Stands (bytes : List ℕ) (p : ℕ) (w rest : List ℕ) : Type 0 where
  pub within : p ≤ length bytes
  pub is : drop p bytes ≡ w ++ rest

-- ---- parts of what stands

module _ {bytes : List ℕ} {p : ℕ} where
  -- what stands ends within the bytes
  pub stands-end : {w rest : List ℕ} → Stands bytes p w rest → p + length w ≤ length bytes
  stands-end {w} {rest} s =
      let h = s.within in
      let e : length bytes - p ≡ length w + length rest = sym (length-drop p bytes) ∙ ap length s.is ∙ length-append w rest in
      omega arith

  pub stands-rest : {w rest : List ℕ} → Stands bytes p w rest → drop (p + length w) bytes ≡ rest
  stands-rest {w} {rest} s = sym (drop-drop (length w) p bytes) ∙ ap (drop (length w)) s.is ∙ drop-append_seam w rest

  module _ (a b : List ℕ) {rest : List ℕ} where
    pub stands-front : Stands bytes p (a ++ b) rest → Stands bytes p a (b ++ rest)
    stands-front s = record { within = s.within; is = s.is ∙ append_assoc a b rest }

    -- behind the front
    pub stands-next : (q : ℕ) → q ≡ p + length a → Stands bytes p (a ++ b) rest → Stands bytes q b rest
    stands-next q e s = rw e (record { within = stands-end (stands-front s); is = stands-rest (stands-front s) })

    -- two things, the second from where the first ends
    pub stands-join : {q : ℕ} → Stands bytes p a (drop q bytes) → Stands bytes q b rest → Stands bytes p (a ++ b) rest
    stands-join s t = record { within = s.within; is = s.is ∙ ap (a ++◌) t.is ∙ sym (append_assoc a b rest) }

-- with nothing behind it, it is all
pub stands-whole : {bytes w rest : List ℕ} → Stands bytes 0 w rest → rest ≡ [] → bytes ≡ w
stands-whole {bytes} {w} s e = s.is ∙ ap (w ++◌) e ∙ append-nil w

-- ---- numbers that stand are read

module _ {bytes : List ℕ} {p : ℕ} where
  stands-get : {w rest : List ℕ} → Stands bytes p w rest → (i : ℕ) → byte_at bytes (p + i) ≡ get_or (w ++ rest) i 0
  stands-get s i = sym (get_or-drop p bytes i 0) ∙ ap (λ (l : List ℕ). get_or l i 0) s.is

  pub byte-read : {b : ℕ} {w rest : List ℕ} → Stands bytes p (b ∷ w) rest → byte_at bytes p ≡ b
  byte-read s = rw add-zero at (stands-get s 0)

  pub two-read : {n : ℕ} {rest : List ℕ} → Stands bytes p (two_bytes n) rest → two_at bytes p ≡ n
  unfolding two_bytes
  two-read {n} s = ap₂ (λ (x y : ℕ). x + 256 * y) (byte-read s) (stands-get s 1) ∙ mod-add-div n 256

pub four-read : {bytes : List ℕ} {p n : ℕ} {rest : List ℕ} → Stands bytes p (four_bytes n) rest → four_at bytes p ≡ n
unfolding four_bytes
four-read {bytes} {p} {n} s =
    let lower = two_bytes (n % 65536) in
    let upper = two_bytes (n / 65536) in
    ap₂ (λ (x y : ℕ). x + 65536 * y) (two-read (stands-front lower upper s)) (two-read (stands-next lower upper (p + 2) (ap (p +◌) (sym (length-two_bytes (n % 65536)))) s))
    ∙ mod-add-div n 65536

-- ---- records that stand are read

pub length-row_bytes : (parts : List Part) (row : Row) → length row ≡ width parts → length (row_bytes parts row) ≡ record_size parts
unfolding width row_bytes record_size
length-row_bytes [] row e = refl
length-row_bytes (tagged tags ∷ parts) [] e = absurd (omega arith)
length-row_bytes (tagged tags ∷ parts) (tag ∷ []) e = absurd (omega arith)
length-row_bytes (tagged tags ∷ parts) (tag ∷ n ∷ row) e = rw (length-append, length-four_bytes, length-row_bytes parts row (omega arith)) (omega arith)
length-row_bytes (mark listed ∷ parts) [] e = absurd (omega arith)
length-row_bytes (mark listed ∷ parts) (n ∷ row) e = rw (length-row_bytes parts row (omega arith)) (omega arith)
length-row_bytes (pair ∷ parts) [] e = absurd (omega arith)
length-row_bytes (pair ∷ parts) (n ∷ row) e = rw (length-append, length-four_bytes, length-row_bytes parts row (omega arith))

pub row_read : {bytes rest : List ℕ} (parts : List Part) (row : Row) (p : ℕ) → length row ≡ width parts → Stands bytes p (row_bytes parts row) rest → row_at parts bytes p ≡ row
unfolding width row_bytes row_at
row_read [] [] p e s = refl
row_read [] (n ∷ row) p e s = absurd (omega arith)
row_read (tagged tags ∷ parts) [] p e s = absurd (omega arith)
row_read (tagged tags ∷ parts) (tag ∷ []) p e s = absurd (omega arith)
row_read (tagged tags ∷ parts) (tag ∷ n ∷ row) p e s =
    let t = stands-next (tag ∷ []) (four_bytes n ++ row_bytes parts row) (p + 1) refl s in
    let u = stands-next (four_bytes n) (row_bytes parts row) (p + 5) (rw length-four_bytes (omega arith)) t in
    rw (byte-read s, four-read (stands-front (four_bytes n) (row_bytes parts row) t), row_read parts row (p + 5) (omega arith) u)
row_read (mark listed ∷ parts) [] p e s = absurd (omega arith)
row_read (mark listed ∷ parts) (n ∷ row) p e s =
    let t = stands-next (n ∷ []) (row_bytes parts row) (p + 1) refl s in
    rw (byte-read s, row_read parts row (p + 1) (omega arith) t)
row_read (pair ∷ parts) [] p e s = absurd (omega arith)
row_read (pair ∷ parts) (n ∷ row) p e s =
    let t = stands-next (four_bytes n) (row_bytes parts row) (p + 4) (rw length-four_bytes) s in
    rw (four-read (stands-front (four_bytes n) (row_bytes parts row) s), row_read parts row (p + 4) (omega arith) t)

-- ---- several records, one after another

pub long-first : (k : ℕ) (row : Row) (rows : List Row) → EachLong k (row ∷ rows) → length row ≡ k
long-first k row rows e = e 0 (omega arith)

pub long-next : (k : ℕ) (row : Row) (rows : List Row) → EachLong k (row ∷ rows) → EachLong k rows
long-next k row rows e i h = e (suc i) (suc-le-suc h)

module _ (parts : List Part) where
  pub length-rows_bytes : (rows : List Row) → EachLong (width parts) rows → length (rows_bytes parts rows) ≡ length rows * record_size parts
  unfolding rows_bytes
  length-rows_bytes [] e = omega arith
  length-rows_bytes (row ∷ rows) e = rw (length-append, length-row_bytes parts row (long-first _ row rows e), length-rows_bytes rows (long-next _ row rows e)) (omega arith)

  module _ {bytes rest : List ℕ} (row : Row) (rows : List Row) (p : ℕ) (s : Stands bytes p (rows_bytes parts (row ∷ rows)) rest) where
    pub rows-first : Stands bytes p (row_bytes parts row) (rows_bytes parts rows ++ rest)
    unfolding rows_bytes
    rows-first = stands-front (row_bytes parts row) (rows_bytes parts rows) s

    -- behind the first record
    pub rows_next : length row ≡ width parts → Stands bytes (p + record_size parts) (rows_bytes parts rows) rest
    unfolding rows_bytes
    rows_next e = stands-next (row_bytes parts row) (rows_bytes parts rows) _ (ap (p +◌) (sym (length-row_bytes parts row e))) s

  pub rows-read : {bytes rest : List ℕ} (rows : List Row) (p : ℕ) → EachLong (width parts) rows → Stands bytes p (rows_bytes parts rows) rest → rows_at parts bytes (length rows) p ≡ rows
  unfolding rows_at
  rows-read [] p e s = refl
  rows-read (row ∷ rows) p e s =
      let h = long-first _ row rows e in
      ap₂ ◌∷◌ (row_read parts row p h (rows-first row rows p s)) (rows-read rows (p + record_size parts) (long-next _ row rows e) (rows_next row rows p s h))

-- ---- what is read has the record's width

pub width-row_at : (parts : List Part) (bytes : List ℕ) (p : ℕ) → length (row_at parts bytes p) ≡ width parts
unfolding width row_at
width-row_at [] bytes p = refl
width-row_at (tagged tags ∷ parts) bytes p = rw (width-row_at parts bytes (p + 5)) (omega arith)
width-row_at (mark listed ∷ parts) bytes p = rw (width-row_at parts bytes (p + 1)) (omega arith)
width-row_at (pair ∷ parts) bytes p = rw (width-row_at parts bytes (p + 4)) (omega arith)

module _ (parts : List Part) (bytes : List ℕ) where
  pub length-rows_at : (n p : ℕ) → length (rows_at parts bytes n p) ≡ n
  unfolding rows_at
  length-rows_at zero p = refl
  length-rows_at (suc n) p = ap suc (length-rows_at n (p + record_size parts))

  pub width-rows_at : (n p : ℕ) → EachLong (width parts) (rows_at parts bytes n p)
  unfolding rows_at
  width-rows_at zero p i h = absurd (not-suc-le-zero h)
  width-rows_at (suc n) p zero h = width-row_at parts bytes p
  width-rows_at (suc n) p (suc i) h = width-rows_at n (p + record_size parts) i (le_of_suc-le-suc h)

-- ---- what is read stands there

module _ {bytes : List ℕ} {p : ℕ} where
  -- the same end, said otherwise
  pub stands-to : {w : List ℕ} (q r : ℕ) → q ≡ r → Stands bytes p w (drop q bytes) → Stands bytes p w (drop r bytes)
  stands-to q r e s = rw e at s

module _ {bytes : List ℕ} (small : AreBytes bytes) where
  pub byte-stands : (p : ℕ) → p + 1 ≤ length bytes → Stands bytes p (byte_at bytes p ∷ []) (drop (p + 1) bytes)
  byte-stands p h = record { within = omega arith; is = next bytes p 0 (omega arith) }

  pub two-stands : (p : ℕ) → p + 2 ≤ length bytes → Stands bytes p (two_bytes (two_at bytes p)) (drop (p + 2) bytes)
  two-stands p h =
      let upper = stands-to (p + 1 + 1) (p + 2) (omega arith) (byte-stands (p + 1) (omega arith)) in
      rw (two_bytes-of-bytes (byte_at bytes p) (byte_at bytes (p + 1)) (small p)) (stands-join (byte_at bytes p ∷ []) _ (byte-stands p (omega arith)) upper)

  pub four-stands : (p : ℕ) → p + 4 ≤ length bytes → Stands bytes p (four_bytes (four_at bytes p)) (drop (p + 4) bytes)
  four-stands p h =
      let upper = stands-to (p + 2 + 2) (p + 4) (omega arith) (two-stands (p + 2) (omega arith)) in
      rw (four_bytes-of-halves (two_at bytes p) (two_at bytes (p + 2)) (omega (arith, small p, small (p + 1)))) (stands-join _ _ (two-stands p (omega arith)) upper)

  pub row-stands : (parts : List Part) (p : ℕ) → p + record_size parts ≤ length bytes → Stands bytes p (row_bytes parts (row_at parts bytes p)) (drop (p + record_size parts) bytes)
  unfolding record_size row_bytes row_at
  row-stands [] p h = record { within = omega arith; is = rw add-zero }
  row-stands (tagged tags ∷ parts) p h =
      let n = stands-to (p + 1 + 4) (p + 5) (omega arith) (four-stands (p + 1) (omega arith)) in
      let behind = stands-to (p + 5 + record_size parts) (p + (5 + record_size parts)) (omega arith) (row-stands parts (p + 5) (omega arith)) in
      stands-join (byte_at bytes p ∷ []) _ (byte-stands p (omega arith)) (stands-join _ _ n behind)
  row-stands (mark listed ∷ parts) p h =
      let behind = stands-to (p + 1 + record_size parts) (p + (1 + record_size parts)) (omega arith) (row-stands parts (p + 1) (omega arith)) in
      stands-join (byte_at bytes p ∷ []) _ (byte-stands p (omega arith)) behind
  row-stands (pair ∷ parts) p h =
      let behind = stands-to (p + 4 + record_size parts) (p + (4 + record_size parts)) (omega arith) (row-stands parts (p + 4) (omega arith)) in
      stands-join _ _ (four-stands p (omega arith)) behind

  pub rows-stand : (parts : List Part) (n p : ℕ) → p + n * record_size parts ≤ length bytes
      → Stands bytes p (rows_bytes parts (rows_at parts bytes n p)) (drop (p + n * record_size parts) bytes)
  unfolding rows_bytes rows_at
  rows-stand parts zero p h = let e : p ≡ p + zero * record_size parts = omega arith in record { within = omega arith; is = rw (← e) }
  rows-stand parts (suc n) p h =
      let size = record_size parts in
      let behind = stands-to (p + size + n * size) (p + suc n * size) (omega arith) (rows-stand parts n (p + size) (omega arith)) in
      stands-join _ _ (row-stands parts p (omega arith)) behind
