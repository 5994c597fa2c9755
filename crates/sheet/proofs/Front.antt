-- What decides a sheet's answer is in its first longest + 1 bytes: no sheet without fault is longer than `longest`, and of bytes that are
-- longer the fault lies within those. Assumes nothing.
use mathlib.Core.Path.{◌≡◌, refl, sym, ap, ap₂, ◌∙◌}
use mathlib.Core.Logic.{⊎_elim}
use mathlib.Core.Bool.{true}
use Prim.Native.Nat.{ℕ, ◌+◌, ◌*◌, ◌≤◌, ◌<◌}
use native.Mathlib.Omega.{arith}
use mathlib.Core.List.{List}
use lib.Dec.{leb, eqb}
use lib.ListN.{length, take}
use lib.Seq.{take_all, length-take-le, get_or-take}
use borrow.Author.Tests.{leb-true, lt-leb, eqb-true}
use Rattle.rounds.specs.Rule.{most_tracks}
use Rattle.laws.specs.Tests.{lt-or-ge}
use Rattle.laws.specs.Faults.{first-where}
use Rattle.sheet.specs.Rule.{Row, byte_at, two_at, record_size, item_record, Fault, fine, fault, first, section_fault, space_section, track_section, item_section, most_items, tracks_at, items_at, sheet_end, over_fault, sheet_fault, longest, read_call}
use Rattle.sheet.proofs.Accepted.{accepted, section-fine, fault-in-order}
use Rattle.sheet.proofs.Same.{two-same, items-at-same, section-same}

pub accepted-length-le : (bytes : List ℕ) → sheet_fault bytes ≡ fine → length bytes ≤ longest
unfolding record_size
accepted-length-le bytes e = let a = accepted bytes e in omega (arith, a.from.few_tracks, a.from.few_items, a.none_over)

-- ---- bytes over the longest that agree so far have one fault

module _ (b c : List ℕ) (same : (i : ℕ) → i < longest → byte_at b i ≡ byte_at c i) (over_b : longest < length b) (over_c : longest < length c) where
  in_b : longest ≤ length b
  in_b = omega arith

  in_c : longest ≤ length c
  in_c = omega arith

  space-same : section_fault space_section b 0 ≡ section_fault space_section c 0
  unfolding record_size
  space-same = section-same b c longest same in_b in_c space_section 0 (omega arith) (λ (a : eqb (two_at b 0) 1 ≡ true). omega (arith, eqb-true))

  tracks_same : section_fault track_section b tracks_at ≡ section_fault track_section c tracks_at
  unfolding record_size
  tracks_same = section-same b c longest same in_b in_c track_section tracks_at (omega arith) (λ (a : leb (two_at b tracks_at) most_tracks ≡ true). omega (arith, leb-true))

  module _ (few : two_at b tracks_at ≤ most_tracks) where
    items-same : section_fault item_section b (items_at b) ≡ section_fault item_section c (items_at c)
    unfolding record_size
    items-same =
        section-same b c longest same in_b in_c item_section (items_at b) (omega arith) (λ (a : leb (two_at b (items_at b)) most_items ≡ true). omega (arith, leb-true))
        ∙ ap (section_fault item_section c) (items-at-same b c longest same (omega arith))

    -- 2: both go on behind the end that the counts say
    over-same : two_at b (items_at b) ≤ most_items → over_fault b (sheet_end b) ≡ over_fault c (sheet_end c)
    unfolding record_size
    over-same few_items =
        let at = items-at-same b c longest same (omega arith) in
        let count : two_at b (items_at b) ≡ two_at c (items_at c) = two-same b c longest same (items_at b) (omega arith) ∙ ap (two_at c) at in
        let end : sheet_end b ≡ sheet_end c = ap₂ (λ (p k : ℕ). p + 2 + k * record_size item_record) at count in
        let within : sheet_end b ≤ longest = omega arith in
        rw (lt-leb (length b) (sheet_end b) (omega arith), lt-leb (length c) (sheet_end c) (omega arith), end)

  fault-same : sheet_fault b ≡ sheet_fault c
  fault-same =
      fault-in-order b
      ∙ first-where (section_fault space_section b 0)
      (λ s.
      first-where (section_fault track_section b tracks_at)
      (λ t.
      let few = leb-true _ _ (section-fine track_section b tracks_at t).count.allowed in
      first-where (section_fault item_section b (items_at b)) (λ i. over-same few (leb-true _ _ (section-fine item_section b (items_at b) i).count.allowed))
      ∙ ap (λ (f : Fault). first f (over_fault c (sheet_end c))) (items-same few))
      ∙ ap (λ (f : Fault). first f (first (section_fault item_section c (items_at c)) (over_fault c (sheet_end c)))) tracks_same)
      ∙ ap (λ (f : Fault). first f (first (section_fault track_section c tracks_at) (first (section_fault item_section c (items_at c)) (over_fault c (sheet_end c))))) space-same
      ∙ sym (fault-in-order c)

-- ---- the front of bytes

module _ (bytes : List ℕ) where
  pub fault-of-front : sheet_fault (take (longest + 1) bytes) ≡ sheet_fault bytes
  fault-of-front =
      ⊎_elim
      (λ (h : longest + 1 < length bytes).
      let long = length-take-le (longest + 1) bytes (omega arith) in
      fault-same (take (longest + 1) bytes) bytes (λ i l. get_or-take (longest + 1) bytes i 0 (omega arith)) (omega arith) (omega arith))
      (λ (h : length bytes ≤ longest + 1). ap sheet_fault (take_all (longest + 1) bytes h))
      (lt-or-ge (longest + 1) (length bytes))

  -- what goes by a sheet's fault first, and by the sheet only where there is none, is decided there
  pub decided-by-front : {A : Type 0} (call : List ℕ → A) → ((b c : List ℕ) (number place : ℕ) → sheet_fault b ≡ fault number place → sheet_fault c ≡ fault number place → call b ≡ call c)
      → call (take (longest + 1) bytes) ≡ call bytes
  decided-by-front call refused = go (sheet_fault bytes) refl
    where
      go : (f : Fault) → sheet_fault bytes ≡ f → call (take (longest + 1) bytes) ≡ call bytes
      go fine e = let h = accepted-length-le bytes e in ap call (take_all (longest + 1) bytes (omega arith))
      go (fault number place) e = refused (take (longest + 1) bytes) bytes number place (fault-of-front ∙ e) e

pub read-of-front : (bytes : List ℕ) (tracks items : List Row) → read_call (take (longest + 1) bytes) tracks items ≡ read_call bytes tracks items
unfolding read_call
read-of-front bytes tracks items = decided-by-front bytes (λ (b : List ℕ). read_call b tracks items) (λ b c number place e f. rw (e, f))
