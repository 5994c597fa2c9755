-- The code's answer in the words of the rule, by the paper's numbers. Assumes nothing.
use Rattle.std.specs.Prelude.{Result, Ok, Err, ℕ, ◌+◌, ◌≤◌, Bool, List, length}
use Rattle.fill.specs.Rule.{most_tracks, Told, filled, refused, Outcome, outcome}
use Rattle.fill.specs.Demand.{OneLength}
use Rattle.fill.specs.declared.answer.Refusal.{Refusal}
use Rattle.fill.specs.declared.answer.Refusal.TheVariants.{Lists, Dots, Room}
use Rattle.fill.specs.declared.answer.Filled.{Filled}

-- The paper's number of each refusal, and its place.
abbrev pub number_of : Refusal → ℕ
number_of Lists = 12
number_of Dots = 7
number_of (Room track) = 7

abbrev pub place_of : Refusal → ℕ
place_of Lists = 0
place_of Dots = 0
place_of (Room track) = 1 + track

-- What each answer tells.
abbrev pub told_by : Result Filled Refusal → Told
told_by (Ok done) = filled done.leftover done.rounds
told_by (Err refusal) = refused (number_of refusal) (place_of refusal)

-- What the call left: its answer, and the gains behind it.
abbrev pub leaves : Result Filled Refusal → List ℕ → Outcome
leaves answer gains = outcome (told_by answer) gains

-- the lists of a call that is not refused by 12
pub record ListsFit (as' ls : List Bool) (rs gs : List ℕ) : Type 0 where
  pub same : OneLength as' ls rs gs
  pub few : length gs ≤ most_tracks
