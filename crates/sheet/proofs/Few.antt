-- What few counts give to who lends rows. Assumes nothing.
use mathlib.Core.Path.{◌≡◌}
use mathlib.Core.Bool.{true}
use mathlib.Core.List.{List}
use Prim.Native.Nat.{ℕ, ◌+◌, ◌≤◌}
use lib.Dec.{leb}
use lib.ListN.{length}
use borrow.Author.Tests.{leb-true}
use Rattle.laws.specs.Tests.{both_true}
use Rattle.sheet.specs.Rule.{two_at, tracks_at, items_at}
use Rattle.sheet.specs.Few.{says_few}

module _ (bytes : List ℕ) (tracks items : ℕ) where
  -- few counts are few
  pub few-counts : says_few bytes tracks items ≡ true → (two_at bytes tracks_at ≤ tracks) × (two_at bytes (items_at bytes) ≤ items)
  few-counts e =
      let first = both_true (leb (two_at bytes tracks_at) tracks) _ (both_true (leb (tracks_at + 2) (length bytes)) _ e).1 in
      let last = (both_true (leb (items_at bytes + 2) (length bytes)) _ first.1).1 in
      (leb-true (two_at bytes tracks_at) tracks first.0, leb-true (two_at bytes (items_at bytes)) items last)
