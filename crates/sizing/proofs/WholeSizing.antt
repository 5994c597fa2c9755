-- The whole sizing, put together from its steps. Assumes nothing.
use mathlib.Core.Path.{◌≡◌, sym, ap, ap₂, ◌∙◌, subst}
use mathlib.Core.Bool.{Bool}
use mathlib.Core.List.{List, map}
use Prim.Native.Nat.{ℕ, ◌≤◌}
use native.Mathlib.Omega.{arith}
use Rattle.laws.specs.Lists.{keep}
use Rattle.laws.specs.Alls.{all_map}
use Rattle.kinds.specs.Kinds.{Row}
use Rattle.kinds.specs.declared.constraint.Constraint.{Constraint}
use Rattle.kinds.specs.declared.track.Track.{Track}
use Rattle.kinds.specs.declared.item.Item.{Item}
use Rattle.lines.specs.declared.line.Line.{Line}
use Rattle.lines.specs.declared.measured.Measured.{Measured}
use Rattle.lines.specs.Rule.{measured_items, on_fr, content, Maximised, maximise, FreeTold, free_of, sizes_of, Board, board_after, finish, size}
use Rattle.lines.specs.Fits.{LineFits, LinesFit}
use Rattle.lines.proofs.Maximise.{Limited, missing-limited, maximise-fits}
use Rattle.sizing.specs.Size.{free_told, maximised, most_base, BasesFit, finished_lines}
use Rattle.std.specs.Prelude.{ℤ, Option}
use Rattle.sizing.proofs.Finished.{finished-is}

pub bases-fit : (ls : List Line) → LinesFit ls → BasesFit ls
bases-fit ls f = all_map LineFits (λ (l : Line). l.base ≤ most_base) (λ l g. let b = g.base in omega arith) ls f

content-limited : (c : Constraint) (ts : List Track) (is : List Measured) → Limited (content c ts is)
unfolding content
content-limited c ts is = missing-limited _

-- after step 5, where ls are the lines after step 4
pub maximised-fit : (c : Constraint) (ts : List Track) (is : List Measured) (ls out : List Line) (rounds : ℕ) → ls ≡ content c ts is → LinesFit ls
    → maximised out rounds ≡ maximise c ls → LinesFit out
maximised-fit c ts is ls out rounds e f m =
    subst LinesFit (sym (ap (λ (r : Maximised). r.lines) m)) (maximise-fits c ls f (subst Limited (sym e) (content-limited c ts is)))

-- a board by what is told of it
abbrev told : ℕ → List Row → FreeTold → Board
told n ps d = record { sizes = ps; free = d; rounds = n }

pub sized : (c e : Constraint) (asked : Bool) (ts : List Track) (is : List Item) (ls out : List Line) (batch : List Measured) (sizes : List Row) (free : Option ℤ) (rounds : ℕ)
    → ls ≡ content c ts (measured_items ts is) → maximised out rounds ≡ maximise c ls → batch ≡ keep (on_fr ts) (measured_items ts is)
    → free_told free ≡ free_of e (finished_lines e asked batch out) → sizes ≡ map sizes_of (finished_lines e asked batch out)
    → told rounds sizes (free_told free) ≡ size c e asked ts is
unfolding size
sized c e asked ts is ls out batch sizes free rounds q m b f p =
    let done : finished_lines e asked batch out ≡ finish e asked ts (measured_items ts is) out = ap (λ (k : List Measured). finished_lines e asked k out) b ∙ finished-is e asked ts (measured_items ts is) out in
    ap₂ (told rounds) (p ∙ ap (map sizes_of) done) (f ∙ ap (free_of e) done)
    ∙ ap (board_after e asked ts (measured_items ts is)) (m ∙ ap (maximise c) q)
