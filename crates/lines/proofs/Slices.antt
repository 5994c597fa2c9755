-- A slice of the lines, as an item spans it: that it fits, and its name by its two ends. Assumes nothing.
use mathlib.Core.Path.{◌≡◌, ap}
use mathlib.Core.List.{List}
use Prim.Native.Nat.{ℕ, ◌+◌, ◌-◌}
use native.Mathlib.Nat.{add-sub_cancel_left}
use lib.ListN.{take, drop}
use Rattle.laws.specs.Alls.{all_take, all_drop}
use Rattle.lines.specs.declared.line.Line.{Line}
use Rattle.lines.specs.declared.measured.Measured.{Measured}
use Rattle.lines.specs.Rule.{spanned}
use Rattle.lines.specs.Fits.{LineFits, LinesFit}

pub slice_fits : (start span : ℕ) (ls : List Line) → LinesFit ls → LinesFit (take span (drop start ls))
slice_fits start span ls a = all_take LineFits span (drop start ls) (all_drop LineFits start ls a)

pub slice-is-spanned : (i : Measured) (ls : List Line) → take (i.start + i.span - i.start) (drop i.start ls) ≡ spanned i ls
slice-is-spanned i ls = ap (λ (k : ℕ). take k (drop i.start ls)) (add-sub_cancel_left i.start i.span)
