-- Dots filled into lines whose increases are all 0: the increases are the gains of the fill, and the steps 5 and 7 are such
-- fills. Assumes nothing.
use mathlib.Core.Path.{◌≡◌, refl, ap, ap₂, ◌∙◌}
use mathlib.Core.Bool.{Bool, true, false, not}
use mathlib.Core.List.{List, map, zip_with}
use mathlib.Core.Logic.{◌≢◌}
use Prim.Native.Nat.{ℕ, ◌+◌, ◌-◌, ◌≤◌, ◌<◌}
use native.Mathlib.Omega.{arith}
use lib.ListN.{length, get_or, replicate, length-replicate}
use Rattle.laws.specs.Tests.{never}
use Rattle.laws.specs.Lists.{all-at, length-zip}
use Rattle.rounds.specs.Rule.{most_dots, gains_of, Fill, fill}
use Rattle.rounds.proofs.Fresh.{gain-add-left-le, length-gains}
use Rattle.kinds.specs.declared.constraint.Constraint.{Constraint}
use Rattle.kinds.specs.declared.constraint.Constraint.TheVariants.{Definite, MinContent, MaxContent}
use Rattle.lines.specs.declared.line.Line.{Line}
use Rattle.lines.specs.Rule.{bases, grown_base, filled_lines, more_gains, maximise_track, maximise, stretch_track, stretched}
use Rattle.letters.specs.declared.share.Share.{Share}
use Rattle.letters.specs.declared.share.Share.TheVariants.{Maximise, Stretch}
use Rattle.letters.specs.Letters.{most}
use Rattle.letters.specs.Shares.{share_track, share_tracks}
use Rattle.letters.proofs.Shared.{share-fresh, zeros-more, tracks-of-zeros}
use Rattle.sizing.specs.Size.{most_base, BasesFit, maximised}

-- ---- one fill

-- one zero a line
pub zeros-long : (n : ℕ) (zs : List ℕ) → zs ≡ replicate n 0 → length zs ≡ n
zeros-long n zs z = ap length z ∙ length-replicate n 0

module _ (share : Share) (dots : ℕ) (lines : List Line) (zs : List ℕ) (z : zs ≡ replicate (length lines) 0) where
  -- what the share fills
  abbrev pub shared_fill : Fill
  shared_fill = fill dots (share_tracks share lines zs)

  length-shared : length (gains_of shared_fill.tracks) ≡ length lines
  unfolding share_tracks
  length-shared =
      length-gains dots (share_tracks share lines zs) (share-fresh share lines zs)
      ∙ length-zip (share_track share) lines zs (zeros-long (length lines) zs z)

  module _ (gs : List ℕ) (shared : gs ≡ more_gains zs shared_fill) where
    pub shared-gains : gs ≡ gains_of shared_fill.tracks
    shared-gains = shared ∙ ap (λ (ys : List ℕ). zip_with ◌+◌ ys (gains_of shared_fill.tracks)) z ∙ zeros-more (length lines) _ length-shared

    pub shared_long : length gs ≡ length lines
    shared_long = ap length shared-gains ∙ length-shared

    -- a base and its gain are within 32 bits
    pub shared-fits : dots ≤ most_dots → BasesFit lines → (i : ℕ) (d : Line) → i < length lines → (get_or lines i d).base + get_or gs i 0 ≤ most
    shared-fits few b i d h =
        let base : (get_or lines i d).base ≤ most_base = all-at (λ (l : Line). l.base ≤ most_base) lines i d b h in
        let gain = gain-add-left-le dots (share_tracks share lines zs) (share-fresh share lines zs) i in
        let same : get_or gs i 0 ≡ get_or (gains_of shared_fill.tracks) i 0 = ap (λ (ys : List ℕ). get_or ys i 0) shared-gains in
        omega arith

    pub shared-lines : (ks : List Line) → ks ≡ zip_with grown_base lines gs → ks ≡ filled_lines lines shared_fill
    shared-lines ks e = e ∙ ap (zip_with grown_base lines) shared-gains

-- ---- the tracks of steps 5 and 7

module _ (lines : List Line) (zs : List ℕ) (z : zs ≡ replicate (length lines) 0) where
  maximise-fill : (dots : ℕ) → fill dots (share_tracks Maximise lines zs) ≡ fill dots (map maximise_track lines)
  maximise-fill dots =
      ap (λ (ys : List ℕ). fill dots (share_tracks Maximise lines ys)) z
      ∙ ap (fill dots) (tracks-of-zeros Maximise lines)

  stretch-fill : (dots : ℕ) → fill dots (share_tracks Stretch lines zs) ≡ fill dots (map stretch_track lines)
  stretch-fill dots =
      ap (λ (ys : List ℕ). fill dots (share_tracks Stretch lines ys)) z
      ∙ ap (fill dots) (tracks-of-zeros Stretch lines)

  module _ (n total dots : ℕ) (whole : total ≡ bases lines) (free : dots ≡ n - total) where
    free-dots : dots ≡ n - bases lines
    free-dots = free ∙ ap (λ (t : ℕ). n - t) whole

    -- step 5 in a definite space
    pub maximise-definite : (ks : List Line) (rounds : ℕ) → ks ≡ filled_lines lines (fill dots (share_tracks Maximise lines zs))
        → rounds ≡ (fill dots (share_tracks Maximise lines zs)).rounds → maximised ks rounds ≡ maximise (Definite n) lines
    unfolding maximise
    maximise-definite ks rounds e r =
        ap₂ maximised e r
        ∙ ap (λ (f : Fill). maximised (filled_lines lines f) f.rounds) (maximise-fill dots ∙ ap (λ (d : ℕ). fill d (map maximise_track lines)) free-dots)

    -- step 7 in a definite space
    pub stretch-definite : (ks : List Line) → ks ≡ filled_lines lines (fill dots (share_tracks Stretch lines zs))
        → ks ≡ stretched true (Definite n) lines
    unfolding stretched
    stretch-definite ks e =
        e ∙ ap (filled_lines lines) (stretch-fill dots ∙ ap (λ (d : ℕ). fill d (map stretch_track lines)) free-dots)

  -- step 5 in a min-content space: no dots
  pub maximise-min-content : (ks : List Line) (rounds : ℕ) → ks ≡ filled_lines lines (fill 0 (share_tracks Maximise lines zs))
      → rounds ≡ (fill 0 (share_tracks Maximise lines zs)).rounds → maximised ks rounds ≡ maximise MinContent lines
  unfolding maximise
  maximise-min-content ks rounds e r = ap₂ maximised e r ∙ ap (λ (f : Fill). maximised (filled_lines lines f) f.rounds) (maximise-fill 0)

-- ---- step 7 changes nothing where it is not asked for, nor in a space that is not definite

pub stretch-not-asked : (asked : Bool) (e : Constraint) (ls : List Line) → not asked ≡ true → ls ≡ stretched asked e ls
unfolding stretched
stretch-not-asked false e ls h = refl
stretch-not-asked true e ls h = never h refl

-- in a space that is not definite
pub stretch-elsewhere : (asked : Bool) (e : Constraint) (ls : List Line) → ((n : ℕ) → e ≢ Definite n) → ls ≡ stretched asked e ls
unfolding stretched
stretch-elsewhere asked (Definite n) ls other = absurd (other n refl)
stretch-elsewhere false MinContent ls other = refl
stretch-elsewhere true MinContent ls other = refl
stretch-elsewhere false MaxContent ls other = refl
stretch-elsewhere true MaxContent ls other = refl
