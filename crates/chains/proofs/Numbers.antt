-- The number of an item's batch, by its tests. Assumes nothing.
use mathlib.Core.Path.{◌≡◌, refl}
use mathlib.Core.Bool.{Bool, true, false, cond, not, ◌&&◌}
use mathlib.Core.List.{List}
use Prim.Native.Nat.{ℕ, ◌+◌, ◌≤◌, ◌<◌}
use native.Mathlib.Omega.{arith}
use lib.Dec.{eqb}
use lib.ListN.{length}
use borrow.Author.Tests.{eqb-true}
use Rattle.kinds.specs.declared.track.Track.{Track}
use Rattle.kinds.specs.declared.item.Item.{Item}
use Rattle.spanned.specs.Rule.{is_measured, crosses_fr, lacks_contribution}
use Rattle.spanned.specs.Sound.{ItemFits}
use Rattle.lines.specs.Chains.{fr_batch, batches}
use Rattle.chains.specs.Batches.{batch_of}

-- its number by its three tests
abbrev pub numbered : (tracks : ℕ) (measured lacking on_fr : Bool) (span : ℕ) → ℕ
numbered tracks measured lacking on_fr span = cond (measured && not lacking) (cond on_fr (fr_batch tracks) span) 0

module _ (ts : List Track) (i : Item) where
  -- every number has its head
  pub batch-of-lt : (n : ℕ) → n ≡ length ts → ItemFits n i → batch_of ts i < batches (length ts)
  unfolding batch_of
  batch-of-lt n h fits = go (is_measured ts i) (lacks_contribution i) (crosses_fr ts i) i.start i.span fits.0
    where
      go : (m l f : Bool) (start span : ℕ) → start + span ≤ n → numbered (length ts) m l f span < batches (length ts)
      go true true f start span w = omega arith
      go true false true start span w = omega arith
      go true false false start span w = omega arith
      go false l f start span w = omega arith

  -- an item of a batch, but the first, is complete
  pub gives-of-batch : (k : ℕ) → 0 < k → eqb (batch_of ts i) k ≡ true → lacks_contribution i ≡ false
  unfolding batch_of
  gives-of-batch k h e = go (is_measured ts i) (lacks_contribution i) (eqb-true (batch_of ts i) k e)
    where
      go : (m l : Bool) → numbered (length ts) m l (crosses_fr ts i) i.span ≡ k → l ≡ false
      go true true e = absurd (omega arith)
      go false true e = absurd (omega arith)
      go m false e = refl
