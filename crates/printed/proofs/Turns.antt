-- A turn of the loop over the tracks: one line more. Assumes nothing.
use mathlib.Core.Path.{◌≡◌, sym, ap, ◌∙◌}
use mathlib.Core.List.{List, [], ◌∷◌, ◌++◌, append_assoc, append-nil}
use Prim.Native.Nat.{ℕ, ◌+◌, ◌<◌}
use native.Mathlib.Nat.{add-zero}
use native.Mathlib.Numerals.{add-one}
use native.Mathlib.Omega.{arith}
use lib.ListN.{length, get_or, take}
use lib.Seq.{take-suc, length-take-le}
use Rattle.kinds.specs.Kinds.{Row}
use Rattle.printed.specs.Rule.{track_line, track_lines}

line_after : (t : ℕ) (lines : List Row) (place : Row) → track_lines t (lines ++ (place ∷ [])) ≡ track_lines t lines ++ track_line (t + length lines) place
unfolding track_lines
line_after t [] place = rw append-nil (ap (λ (k : ℕ). track_line k place) (sym (add-zero t)))
line_after t (l ∷ lines) place =
    ap (λ (rest : List ℕ). track_line t l ++ rest) (line_after (t + 1) lines place)
    ∙ sym (append_assoc (track_line t l) (track_lines (t + 1) lines) (track_line (t + 1 + length lines) place))
    ∙ ap (λ (k : ℕ). track_line t l ++ track_lines (t + 1) lines ++ track_line k place) (omega arith)

-- the line of track t behind those of the tracks before it
pub lines-turn : (sizes : List Row) (t : ℕ) → t < length sizes → track_lines 0 (take t sizes) ++ track_line t (get_or sizes t []) ≡ track_lines 0 (take (t + 1) sizes)
lines-turn sizes t l =
    sym (line_after 0 (take t sizes) (get_or sizes t []) ∙ ap (λ (k : ℕ). track_lines 0 (take t sizes) ++ track_line k (get_or sizes t [])) (omega (arith, length-take-le t sizes (omega arith))))
    ∙ ap (track_lines 0) (sym (rw (add-one, take-suc sizes t [])))
