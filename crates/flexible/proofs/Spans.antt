-- The part of the store that an item spans. Assumes nothing.
use mathlib.Core.Bool.{Bool}
use mathlib.Core.List.{List}
use Prim.Native.Nat.{ℕ, ◌+◌, ◌-◌, ◌≤◌}
use native.Mathlib.Omega.{arith}
use lib.ListN.{length, take, drop, length-take, length-drop}
use Rattle.lines.specs.declared.line.Line.{Line}
use Rattle.lines.proofs.Slices.{slice_fits}
use Rattle.flexible.specs.Flexes.{StoreFits}

pub store-slice-fits : (lines : List Line) (held : List Bool) (a n : ℕ) → a + n ≤ length lines → StoreFits lines held
    → StoreFits (take (a + n - a) (drop a lines)) (take (a + n - a) (drop a held))
store-slice-fits lines held a n h s =
    let e = s.one-length in
    let m = s.few in
    record {
      one-length = simp (length-take, length-drop, e);
      few = simp (length-take, length-drop) (omega arith);
      fits = slice_fits a (a + n - a) lines s.fits;
    }
