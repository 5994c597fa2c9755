-- Records read one after another into lent rows: what holds while so many of them have been read. Over any record, once.
-- Assumes nothing.
use mathlib.Core.Path.{◌≡◌, sym, ap, ◌∙◌}
use Prim.Native.Nat.{ℕ, suc, ◌+◌, ◌-◌, ◌*◌, ◌≤◌, ◌<◌}
use native.Mathlib.Nat.{suc-mul}
use native.Mathlib.Omega.{arith}
use mathlib.Core.List.{List, ◌∷◌, ◌++◌, append-nil}
use lib.ListN.{length, take, drop, set, length-set}
use lib.Seq.{take_all, length-take-le}
use Rattle.std.specs.Prelude.{map}
use Rattle.std.proofs.lemmas.List.{map-id}
use Rattle.rows.proofs.Stands.{length-rows_at}
use Rattle.laws.specs.Walk.{written}
use Rattle.sheet.specs.Rule.{Part, Row, record_size, row_at, rows_at, onto}

module _ (parts : List Part) (bytes : List ℕ) (from count : ℕ) where
  -- i of so many records have been read, and the next stands at `place`
  pub record Loading (rows : List Row) (place i : ℕ) : Type 0 where
    pub long : length rows ≡ count
    pub whole : place + (count - i) * record_size parts ≤ length bytes
    pub is : take i rows ++ rows_at parts bytes (count - i) place ≡ rows_at parts bytes count from

  module _ (rows : List Row) (place i : ℕ) (l : Loading rows place i) (more : i < count) where
    left : ℕ
    left = count - (i + 1)

    one_more : count - i ≡ suc left
    unfolding left
    one_more = omega arith

    rest-whole : place + (left * record_size parts + record_size parts) ≤ length bytes
    rest-whole = rw (one_more, suc-mul) at l.whole

    pub loading-turn : (row : Row) → row ≡ row_at parts bytes place → Loading (set rows i row) (place + record_size parts) (i + 1)
    unfolding rows_at left
    loading-turn row e =
        let h = rest-whole in
        let within : i < length rows = omega (arith, l.long) in
        record {
          long = length-set rows i row ∙ l.long;
          whole = omega arith;
          is =
              written rows i row _ within
              ∙ ap (λ (r : Row). take i rows ++ (r ∷ rows_at parts bytes left (place + record_size parts))) e
              ∙ ap (λ (n : ℕ). take i rows ++ rows_at parts bytes n place) (sym one_more)
              ∙ l.is;
        }

  pub loading-end : (rows : List Row) (place i : ℕ) → Loading rows place i → i ≡ count → rows ≡ rows_at parts bytes count from
  unfolding rows_at
  loading-end rows place i l h =
      let none : count - i ≡ 0 = omega arith in
      let all : length rows ≤ i = omega (arith, l.long) in
      rw (none, take_all, append-nil) at l.is

-- so many rows of those that were lent were read
pub loaded : (parts : List Part) (bytes : List ℕ) (from n : ℕ) (lent new : List Row) → n ≤ length lent → map (λ (row : Row). row) new ≡ rows_at parts bytes (length (take n lent)) from
    → new ++ drop n lent ≡ onto (rows_at parts bytes n from) lent
loaded parts bytes from n lent new h e =
    let read : new ≡ rows_at parts bytes n from = sym (map-id new) ∙ e ∙ ap (λ (k : ℕ). rows_at parts bytes k from) (length-take-le n lent h) in
    rw (read, length-rows_at parts bytes n from)
