-- What the code's shares make of a line: a track in a fill, as the rule has it; and what a share asks of its scratch. Assumes nothing.
use Rattle.std.specs.Prelude.{◌≡◌, ℕ, ◌+◌, ◌≤◌, Bool, not, ◌&&◌, ◌||◌, length, get_or}
use mathlib.Core.List.{List, map, zip_with}
use Rattle.rounds.specs.Rule.{most_tracks, most_dots, Fill, fill}
use Rattle.rounds.specs.Rule as fill
use Rattle.rounds.specs.Rests.{caps, lost}
use Rattle.lines.specs.declared.line.Line.{Line}
use Rattle.lines.specs.ByFactor.{unlimited}
use Rattle.lines.specs.Rule.{in_fill, first_track, maximise_track, stretch_track, affects_fr}
use Rattle.lines.specs.Rule as rule
use Rattle.letters.specs.declared.letter.Letter.{Letter}
use Rattle.letters.specs.Letters.{letter_of, most}
use Rattle.letters.specs.declared.share.Share.{Share}
use Rattle.letters.specs.declared.share.Share.TheVariants.{Maximise, Stretch, Plain}

-- an affected track that takes what remains
abbrev pub is_taker : rule.Letter → Line → Bool
is_taker letter l = letter.affected l && letter.takes l

-- a track in the share of what remains; where it is for takers only, the others are left out
abbrev pub rest_of : rule.Letter → Bool → Line → ℕ → fill.Track
rest_of letter takers_only l gain = in_fill (letter.affected l && (letter.takes l || not takers_only)) (letter.rest_room l gain)

unfoldable pub rest_tracks : rule.Letter → Bool → List Line → List ℕ → List fill.Track
rest_tracks letter takers_only ls gains = zip_with (rest_of letter takers_only) ls gains

abbrev pub track_in : Share → Line → fill.Track
track_in Maximise l = maximise_track l
track_in Stretch l = stretch_track l
track_in (Plain letter) l = unlimited (affects_fr (letter_of letter) l)

-- whatever gain the line has
abbrev pub share_track : Share → Line → ℕ → fill.Track
share_track share l gain = track_in share l

unfoldable pub share_tracks : Share → List Line → List ℕ → List fill.Track
share_tracks share ls gains = zip_with (share_track share) ls gains

-- ---- The shares of a letter: the first, and that of what remains

abbrev pub first_caps : Letter → ℕ → List Line → List ℕ
first_caps letter dots lines = caps dots (map (first_track (letter_of letter)) lines)

abbrev pub first_fill : Letter → ℕ → List Line → Fill
first_fill letter dots lines = fill dots (map (first_track (letter_of letter)) lines)

abbrev pub rest_caps : Letter → Bool → ℕ → List Line → List ℕ → List ℕ
rest_caps letter takers_only dots lines gains = caps dots (rest_tracks (letter_of letter) takers_only lines gains)

abbrev pub rest_fill : Letter → Bool → ℕ → List Line → List ℕ → Fill
rest_fill letter takers_only dots lines gains = fill dots (rest_tracks (letter_of letter) takers_only lines gains)

-- ---- The shares by one fill alone

abbrev pub share_fill : Share → ℕ → List Line → List ℕ → Fill
share_fill share dots lines gains = fill dots (share_tracks share lines gains)

-- what each rest has lost of its cap
abbrev pub taken : Share → ℕ → List Line → List ℕ → List ℕ → List ℕ
taken share dots lines gains rests = lost (caps dots (share_tracks share lines gains)) rests

-- ---- The scratch: a gain and a rest beside each line, of lines that are not too many

pub record Scratch (lines : List Line) (gains rests : List ℕ) : Type 0 where
  pub few : length lines ≤ most_tracks
  pub gains-long : length gains ≡ length lines
  pub rests-long : length rests ≡ length lines

-- gains that dots can still be added to
abbrev pub GainsFit : List ℕ → Type 0
GainsFit gains = (i : ℕ) → get_or gains i 0 ≤ most_dots

-- and what was taken can be added to them
abbrev pub TakenFits : Share → ℕ → List Line → List ℕ → List ℕ → Type 0
TakenFits share dots lines gains rests = (i : ℕ) → get_or gains i 0 + get_or (taken share dots lines gains rests) i 0 ≤ most
