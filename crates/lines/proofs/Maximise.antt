-- Step 5 keeps lines that fit, where no limit is missing: no base passes its limit. Assumes nothing.
use mathlib.Core.Path.{◌≡◌, refl}
use mathlib.Core.Bool.{false}
use mathlib.Core.List.{List, [], ◌∷◌, map, zip_with}
use Prim.Native.Nat.{ℕ, suc, ◌+◌, ◌≤◌}
use native.Mathlib.Omega.{arith}
use lib.ListN.{get_or}
use Rattle.laws.specs.Lists.{All}
use Rattle.laws.specs.Alls.{all-image, image-all}
use Rattle.laws.specs.Tests.{never}
use Rattle.rounds.specs.Rule.{fill}
use Rattle.rounds.specs.Rule as fill
use Rattle.rounds.specs.Rests.{cap_in, caps}
use Rattle.rounds.proofs.Tied.{Fresh}
use Rattle.rounds.proofs.Fresh.{gain-le-cap}
use Rattle.kinds.specs.declared.constraint.Constraint.{Constraint}
use Rattle.kinds.specs.declared.constraint.Constraint.TheVariants.{Definite, MinContent, MaxContent}
use Rattle.spanned.specs.Rule.{most_size}
use Rattle.std.specs.Prelude.{Some, None}
use Rattle.lines.specs.declared.line.Line.{Line}
use Rattle.lines.specs.Rule.{Limit, is_none, cut_limit, room_to, limit_size, argument, with_base, with_limit, grown_base, maximise_track, filled_lines, missing, maximise}
use Rattle.kinds.specs.Kinds.{amount_number}
use Rattle.lines.specs.Fits.{LineFits, LinesFit}
use Rattle.lines.proofs.Fits.{limit-size-le}

-- no limit is missing
abbrev pub Limited : List Line → Type 0
Limited = All (λ (l : Line). is_none l.limit ≡ false)

pub missing-limited : (ls : List Line) → Limited (missing ls)
unfolding missing
missing-limited ls = image-all (λ (l : Line). is_none l.limit ≡ false) (λ (l : Line). with_limit l (Some (limit_size l))) (λ l. refl) ls

-- the room of a base ends at the limit
room-le : (dots base g : ℕ) (limit argument : Limit) → is_none limit ≡ false → base ≤ most_size → amount_number limit ≤ most_size
    → g ≤ cap_in dots (room_to (cut_limit limit argument) base) → base + g ≤ most_size
room-le dots base g None a e b m h = never refl e
room-le dots base g (Some n) None e b m h = omega arith
room-le dots base g (Some n) (Some k) e b m h = omega arith

-- before the first round
pub maximise-fresh : (ls : List Line) → Fresh (map maximise_track ls)
maximise-fresh ls = image-all (λ (t : fill.Track). t.gain ≡ 0) maximise_track (λ l. refl) ls

grown-fit : (dots : ℕ) (ls : List Line) (gs : List ℕ) → ((i : ℕ) → get_or gs i 0 ≤ get_or (caps dots (map maximise_track ls)) i 0)
    → LinesFit ls → Limited ls → LinesFit (zip_with grown_base ls gs)
unfolding All zip_with caps
grown-fit dots [] gs h f m = tt
grown-fit dots (l ∷ ls) [] h f m = tt
grown-fit dots (l ∷ ls) (g ∷ gs) h f m = (
  record { track = f.0.track; base = room-le dots l.base g l.limit (argument l) m.0 f.0.base f.0.limit (h 0); limit = f.0.limit },
  grown-fit dots ls gs (λ (i : ℕ). h (suc i)) f.1 m.1,
)

filled-fit : (dots : ℕ) (ls : List Line) → LinesFit ls → Limited ls → LinesFit (filled_lines ls (fill dots (map maximise_track ls)))
filled-fit dots ls f m = grown-fit dots ls _ (gain-le-cap dots (map maximise_track ls) (maximise-fresh ls)) f m

to-limits-fit : (ls : List Line) → LinesFit ls → LinesFit (map (λ (l : Line). with_base l (limit_size l)) ls)
to-limits-fit ls f = all-image LineFits (λ (l : Line). with_base l (limit_size l)) LineFits (λ l g. record { track = g.track; base = limit-size-le l g; limit = g.limit }) ls f

pub maximise-fits : (c : Constraint) (ls : List Line) → LinesFit ls → Limited ls → LinesFit (maximise c ls).lines
unfolding maximise
maximise-fits (Definite n) ls f m = filled-fit _ ls f m
maximise-fits MinContent ls f m = filled-fit 0 ls f m
maximise-fits MaxContent ls f m = to-limits-fit ls f
