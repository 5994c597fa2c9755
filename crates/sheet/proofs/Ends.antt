-- Where a sheet ends: at the length of its bytes, whatever follows them; found from the three counts, with no look behind the
-- last of them. Assumes nothing.
use mathlib.Core.Path.{◌≡◌, sym, ap, ◌∙◌}
use Prim.Native.Nat.{ℕ, ◌+◌, ◌*◌, ◌≤◌, ◌<◌}
use native.Mathlib.Omega.{arith}
use mathlib.Core.List.{List, ◌++◌}
use lib.Dec.{leb, eqb}
use lib.ListN.{length, take, length-append, get_or-append}
use lib.Seq.{length-take-le, get_or-take}
use borrow.Author.Tests.{le-leb}
use Rattle.rounds.specs.Rule.{most_tracks}
use Rattle.sheet.specs.Rule.{byte_at, two_at, fine, fault, first, unless, record_size, track_record, item_record, most_items, tracks_at, items_at, sheet_end, sheet_fault, EndTold, end_at, end_as, end_from_call, end_call}
use Rattle.sheet.proofs.Looks.{whole-fine}
use Rattle.sheet.proofs.Accepted.{accepted}
use Rattle.sheet.proofs.Same.{two-same, items-at-same}

pub accepted-ends : (bytes : List ℕ) → sheet_fault bytes ≡ fine → sheet_end bytes ≡ length bytes
accepted-ends bytes e = let a = accepted bytes e in omega (arith, a.from.items.ends, a.none_over)

-- ---- the end from the counts of spaces, tracks and items

by_counts : (spaces tracks items : ℕ) → EndTold
by_counts spaces tracks items =
    let behind = tracks_at + 2 + tracks * record_size track_record in
    end_as
    (first (unless (eqb spaces 1) (fault 3 0)) (first (unless (leb tracks most_tracks) (fault 3 tracks_at)) (unless (leb items most_items) (fault 3 behind))))
    (behind + 2 + items * record_size item_record)

end-by-counts : (bytes : List ℕ) → items_at bytes + 2 ≤ length bytes → end_call bytes ≡ by_counts (two_at bytes 0) (two_at bytes tracks_at) (two_at bytes (items_at bytes))
unfolding end_from_call by_counts
end-by-counts bytes h = rw (whole-fine bytes 2 (omega arith), whole-fine bytes (tracks_at + 2) (omega arith), whole-fine bytes (items_at bytes + 2) h)

-- ---- bytes that agree up to the last count have one end

module _ (b c : List ℕ) (whole : items_at b + 2 ≤ length b) (enough : items_at b + 2 ≤ length c) (same : (i : ℕ) → i < items_at b + 2 → byte_at b i ≡ byte_at c i) where
  end_same : end_call b ≡ end_call c
  end_same =
      let up_to = items_at b + 2 in
      let i = items-at-same b c up_to same (omega arith) in
      let counts : by_counts (two_at b 0) (two_at b tracks_at) (two_at b (items_at b)) ≡ by_counts (two_at c 0) (two_at c tracks_at) (two_at c (items_at c)) =
      cc (two-same b c up_to same 0 (omega arith), two-same b c up_to same tracks_at (omega arith), two-same b c up_to same (items_at b) (omega arith), ap (two_at c) i) in
      end-by-counts b whole ∙ counts ∙ sym (end-by-counts c (rw (← i) enough))

end-alone : (bytes : List ℕ) → sheet_fault bytes ≡ fine → end_call bytes ≡ end_at (length bytes)
unfolding by_counts
end-alone bytes e =
    let a = accepted bytes e in
    end-by-counts bytes a.from.items.count.whole
    ∙ rw (a.from.one_space, le-leb (two_at bytes tracks_at) most_tracks a.from.few_tracks, le-leb (two_at bytes (items_at bytes)) most_items a.from.few_items) (ap end_at (accepted-ends bytes e))

-- a sheet at the front of a longer run
pub end-of-accepted : (bytes : List ℕ) → sheet_fault bytes ≡ fine → (more : List ℕ) → end_call (bytes ++ more) ≡ end_at (length bytes)
end-of-accepted bytes e more =
    let whole = (accepted bytes e).from.items.count.whole in
    sym (end_same bytes (bytes ++ more) whole (rw length-append (omega arith)) (λ i h. sym (get_or-append bytes more 0 i (omega arith)))) ∙ end-alone bytes e

pub end-reads-no-further : (bytes more : List ℕ) → items_at bytes + 2 ≤ length bytes → end_call (take (items_at bytes + 2) bytes ++ more) ≡ end_call bytes
end-reads-no-further bytes more h =
    let n = length-take-le (items_at bytes + 2) bytes h in
    sym
    (end_same bytes (take (items_at bytes + 2) bytes ++ more) h (rw length-append (omega arith))
    (λ i l. sym (get_or-append (take (items_at bytes + 2) bytes) more 0 i (omega arith) ∙ get_or-take (items_at bytes + 2) bytes i 0 l)))
