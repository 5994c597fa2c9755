-- An item in a row: it changes nothing where it lacks a contribution, else it takes its turn. Assumes nothing.
use mathlib.Core.Path.{◌≡◌, refl, sym, ap, ◌∙◌}
use mathlib.Core.Bool.{Bool, true, false, ◌||◌}
use mathlib.Core.List.{List, [], ◌∷◌}
use Prim.Native.Nat.{ℕ}
use native.Mathlib.Omega.{arith}
use Rattle.std.specs.Prelude.{None, Some}
use Rattle.laws.specs.Lists.{All, some, in_turn}
use Rattle.kinds.specs.Kinds.{Row, item_of, amount_number, amount_at, Amount}
use Rattle.kinds.specs.declared.item.ContributionKind.TheVariants as kind
use Rattle.kinds.specs.declared.item.Item.{Item}
use Rattle.spanned.specs.Rule.{is_absent, lacks_contribution}
use Rattle.lines.specs.declared.measured.Measured.{Measured}
use Rattle.lines.specs.Rule.{complete_of, complete}
use Rattle.lines.specs.Parts.{measured_of}
use Rattle.lines.specs.Fits.{MeasuredFits, MeasuredFit}

-- ---- An item is complete just where it lacks nothing

-- one of three is absent
abbrev pub lacks : Amount → Amount → Amount → Bool
lacks a b c = is_absent a || (is_absent b || (is_absent c || false))

module _ (start span : ℕ) where
  none-of-lacking : (a b c : Amount) → lacks a b c ≡ true → complete_of start span a b c ≡ []
  none-of-lacking (Some x) (Some y) (Some z) e = let z : ◌≡◌ {A = ℕ} 0 1 = cc in absurd (omega arith)
  none-of-lacking (Some x) (Some y) None e = refl
  none-of-lacking (Some x) None c e = refl
  none-of-lacking None b c e = refl

  one-of-whole : (a b c : Amount) → lacks a b c ≡ false
      → complete_of start span a b c ≡ record { start = start; span = span; row = amount_number a ∷ amount_number b ∷ amount_number c ∷ [] } ∷ []
  one-of-whole (Some x) (Some y) (Some z) e = refl
  one-of-whole (Some x) (Some y) None e = let z : ◌≡◌ {A = ℕ} 0 1 = cc in absurd (omega arith)
  one-of-whole (Some x) None c e = let z : ◌≡◌ {A = ℕ} 0 1 = cc in absurd (omega arith)
  one-of-whole None b c e = let z : ◌≡◌ {A = ℕ} 0 1 = cc in absurd (omega arith)

module _ (i : Item) where
  pub complete-none : lacks_contribution i ≡ true → complete i ≡ []
  unfolding some
  complete-none e = none-of-lacking i.start i.span (amount_at i kind.Minimum) (amount_at i kind.MinContent) (amount_at i kind.MaxContent) e

  pub complete-one : lacks_contribution i ≡ false → complete i ≡ measured_of i ∷ []
  unfolding some
  complete-one e = one-of-whole i.start i.span (amount_at i kind.Minimum) (amount_at i kind.MinContent) (amount_at i kind.MaxContent) e

-- ---- The item that was read from a row

module _ (i : Item) (row : Row) (read : i ≡ item_of row) where
  of_row : {ms : List Measured} → complete i ≡ ms → complete (item_of row) ≡ ms
  of_row e = ap (λ (j : Item). complete j) (sym read) ∙ e

  module _ {S : Type 0} (f : Measured → S → S) (s : S) where
    pub part_left : lacks_contribution i ≡ true → s ≡ in_turn f (complete (item_of row)) s
    unfolding in_turn
    part_left lacking = ap (λ (is : List Measured). in_turn f is s) (sym (of_row (complete-none i lacking)))

  pub part-fits : lacks_contribution i ≡ false → (m : Measured) → m ≡ measured_of i → (n : ℕ) → MeasuredFit n (complete (item_of row)) → MeasuredFits n m
  unfolding All
  part-fits whole m e n f = rw e (rw (of_row (complete-one i whole)) at f).0
