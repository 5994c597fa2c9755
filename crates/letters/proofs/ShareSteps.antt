-- A turn and the end of each loop of a share, said of lists. Assumes nothing.
use mathlib.Core.Path.{◌≡◌, refl}
use mathlib.Core.Bool.{Bool}
use mathlib.Core.List.{List, [], ◌∷◌, map, zip_with}
use Prim.Native.Nat.{ℕ, zero, suc, ◌+◌, ◌-◌, ◌≤◌, ◌<◌}
use native.Mathlib.Nat.{le_of_suc-le-suc, not-suc-le-zero}
use lib.ListN.{length, get_or, drop, drop_of_length-le}
use Rattle.laws.specs.Walk.{next}
use Rattle.rounds.specs.Rule as fill
use Rattle.rounds.specs.Rests.{cap_of, caps, lost}
use Rattle.lines.specs.declared.line.Line.{Line}
use Rattle.lines.specs.Rule as rule
use Rattle.letters.specs.declared.share.Share.{Share}
use Rattle.letters.specs.Shares.{share_track, share_tracks, rest_of, rest_tracks}

-- ---- a share that does not read the gains

module _ (track : Line → fill.Track) (dots : ℕ) (lines : List Line) where
  -- the caps of the lines' tracks from the place i on
  abbrev pub caps_from : ℕ → List ℕ
  caps_from i = caps dots (map track (drop i lines))

  pub caps-step : (i : ℕ) (d : Line) (v : ℕ) → i < length lines → v ≡ cap_of dots (track (get_or lines i d)) → caps_from i ≡ v ∷ caps_from (i + 1)
  unfolding caps
  caps-step i d v h e = rw (next lines i d h, e) refl

  pub caps-end : (i : ℕ) → length lines ≤ i → caps_from i ≡ []
  unfolding caps
  caps-end i h = rw (drop_of_length-le lines h) refl

module _ (share : Share) (dots : ℕ) (lines : List Line) where
  -- what is gained from the place i on
  abbrev pub gained_from : List ℕ → ℕ → List ℕ → List ℕ
  gained_from rests i gains = zip_with ◌+◌ gains (lost (caps dots (share_tracks share (drop i lines) gains)) (drop i rests))

  pub gained-step : (rests : List ℕ) (i : ℕ) (d : Line) (x v : ℕ) (xs : List ℕ) → i < length lines → i < length rests → v ≡ x + (cap_of dots (share_track share (get_or lines i d) x) - get_or rests i 0)
      → gained_from rests i (x ∷ xs) ≡ v ∷ gained_from rests (i + 1) xs
  unfolding caps share_tracks zip_with lost
  gained-step rests i d x v xs h r e = rw (next lines i d h, next rests i 0 r, e) refl

  pub gained-nil : (rests : List ℕ) (i : ℕ) → gained_from rests i [] ≡ []
  unfolding zip_with
  gained-nil rests i = refl

-- what the track at the place i lost
pub lost-at : (share : Share) (dots : ℕ) (lines : List Line) (gains rests : List ℕ) (i : ℕ) (d : Line) → i < length lines → i < length gains → i < length rests
    → get_or (lost (caps dots (share_tracks share lines gains)) rests) i 0 ≡ cap_of dots (share_track share (get_or lines i d) (get_or gains i 0)) - get_or rests i 0
unfolding caps share_tracks zip_with lost
lost-at share dots [] gains rests i d h g r = absurd (not-suc-le-zero h)
lost-at share dots (line ∷ lines) [] rests i d h g r = absurd (not-suc-le-zero g)
lost-at share dots (line ∷ lines) (x ∷ gains) [] i d h g r = absurd (not-suc-le-zero r)
lost-at share dots (line ∷ lines) (x ∷ gains) (y ∷ rests) zero d h g r = refl
lost-at share dots (line ∷ lines) (x ∷ gains) (y ∷ rests) (suc i) d h g r = lost-at share dots lines gains rests i d (le_of_suc-le-suc h) (le_of_suc-le-suc g) (le_of_suc-le-suc r)

-- ---- what remains

module _ (letter : rule.Letter) (takers_only : Bool) (dots : ℕ) (lines : List Line) where
  -- the caps from the place i on
  abbrev pub rest_caps_from : List ℕ → ℕ → List ℕ
  rest_caps_from gains i = caps dots (rest_tracks letter takers_only (drop i lines) (drop i gains))

  pub rest-caps-step : (gains : List ℕ) (i : ℕ) (d : Line) (v : ℕ) → i < length lines → i < length gains
      → v ≡ cap_of dots (rest_of letter takers_only (get_or lines i d) (get_or gains i 0))
      → rest_caps_from gains i ≡ v ∷ rest_caps_from gains (i + 1)
  unfolding caps rest_tracks zip_with
  rest-caps-step gains i d v h g e = rw (next lines i d h, next gains i 0 g, e) refl

  pub rest-caps-end : (gains : List ℕ) (i : ℕ) → length lines ≤ i → rest_caps_from gains i ≡ []
  unfolding caps rest_tracks zip_with
  rest-caps-end gains i h = rw (drop_of_length-le lines h) refl

  -- the gains from the place i on, with the caps on top
  abbrev pub capped_from : ℕ → List ℕ → List ℕ
  capped_from i gains = zip_with ◌+◌ gains (caps dots (rest_tracks letter takers_only (drop i lines) gains))

  pub capped-step : (i : ℕ) (d : Line) (x v : ℕ) (xs : List ℕ) → i < length lines → v ≡ x + cap_of dots (rest_of letter takers_only (get_or lines i d) x)
      → capped_from i (x ∷ xs) ≡ v ∷ capped_from (i + 1) xs
  unfolding caps rest_tracks zip_with
  capped-step i d x v xs h e = rw (next lines i d h, e) refl

  pub capped-nil : (i : ℕ) → capped_from i [] ≡ []
  unfolding zip_with
  capped-nil i = refl

-- ---- what was taken

module _ (rests : List ℕ) (i : ℕ) where
  -- what the rests from the place i on lost of their caps
  abbrev pub lost_from : List ℕ → List ℕ
  lost_from cs = lost cs (drop i rests)

  pub lost-nil : lost_from [] ≡ []
  unfolding lost
  lost-nil = refl

pub lost-step : (rests : List ℕ) (i x v : ℕ) (xs : List ℕ) → i < length rests → v ≡ x - get_or rests i 0
    → lost_from rests i (x ∷ xs) ≡ v ∷ lost_from rests (i + 1) xs
unfolding lost
lost-step rests i x v xs h e = rw (next rests i 0 h, e) refl
