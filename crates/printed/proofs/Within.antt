-- A text that was printed stands within the lent bytes. Assumes nothing.
use mathlib.Core.Path.{◌≡◌, sym, ap, ◌∙◌}
use mathlib.Core.Bool.{Bool, true, false, cond}
use mathlib.Core.List.{List}
use Prim.Native.Nat.{ℕ, ◌≤◌}
use native.Mathlib.Omega.{arith}
use lib.Dec.{ltb}
use lib.ListN.{length, length-append}
use Rattle.sheet.specs.Rule.{onto}
use Rattle.printed.specs.Rule.{PrintTold, printed, no_room, PrintOutcome, print_outcome, sheet_text, most_text, print_call, message_text, fits_message, message_call}
use Rattle.printed.specs.Answer.{print_leaves}
use Rattle.std.specs.Prelude.{Option, Some}

abbrev length_told : PrintTold → ℕ
length_told (printed n) = n
length_told no_room = 0

abbrev Fitting : PrintOutcome → Type 0
Fitting o = length_told o.told ≤ length o.bytes

text-fits : (text lent : List ℕ) → Fitting (print_outcome (printed (length text)) (onto text lent))
text-fits text lent = rw length-append (omega arith)

none-fits : (lent : List ℕ) → Fitting (print_outcome no_room lent)
none-fits lent = omega arith

-- no room, or the text; and the other way round
refused-or-fits : (b : Bool) (text lent : List ℕ) → Fitting (cond b (print_outcome no_room lent) (print_outcome (printed (length text)) (onto text lent)))
refused-or-fits true text lent = none-fits lent
refused-or-fits false text lent = text-fits text lent

fits-or-refused : (b : Bool) (text lent : List ℕ) → Fitting (cond b (print_outcome (printed (length text)) (onto text lent)) (print_outcome no_room lent))
fits-or-refused true text lent = text-fits text lent
fits-or-refused false text lent = none-fits lent

module _ (a : Option ℕ) (n : ℕ) (after : List ℕ) (is : a ≡ Some n) where
  fits_told : (o : PrintOutcome) → print_leaves a after ≡ o → Fitting o → n ≤ length after
  fits_told o e x =
      let told : length_told o.told ≡ n = ap (λ (q : PrintOutcome). length_told q.told) (sym e) ∙ ap (λ (b : Option ℕ). length_told (print_leaves b after).told) is in
      let bytes : length o.bytes ≡ length after = ap (λ (q : PrintOutcome). length q.bytes) (sym e) in
      omega arith

  pub sheet-within : (bytes lent : List ℕ) → print_leaves a after ≡ print_call bytes lent → n ≤ length after
  unfolding print_call
  sheet-within bytes lent e = fits_told (print_call bytes lent) e (refused-or-fits (ltb (length lent) most_text) (sheet_text bytes) lent)

  pub message-within : (name words lent : List ℕ) → print_leaves a after ≡ message_call name words lent → n ≤ length after
  unfolding message_call
  message-within name words lent e = fits_told (message_call name words lent) e (fits-or-refused (fits_message (length name) (length words) (length lent)) (message_text name words) lent)
