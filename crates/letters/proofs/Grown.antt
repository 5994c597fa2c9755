-- What a letter makes of one line, case by case: the room of a limit, a limit that has grown, and who takes what remains.
-- Assumes nothing.
use mathlib.Core.Path.{◌≡◌, refl}
use mathlib.Core.Bool.{Bool, true, not, ◌&&◌, ◌||◌, or-false}
use Prim.Native.Nat.{ℕ, ◌+◌, ◌≤◌}
use Rattle.std.specs.Prelude.{Some, None}
use Rattle.lines.specs.declared.line.Line.{Line}
use Rattle.lines.specs.Rule.{limit_size}
use Rattle.letters.specs.Letters.{most}

-- where some take what remains, those; else all affected
pub rest-of-takers_only : (affected takes takers_only : Bool) → takers_only ≡ true → (affected && takes) ≡ (affected && (takes || not takers_only))
rest-of-takers_only affected takes takers_only e = rw (e, or-false takes) refl

-- and what it asks of the sum
module _ (l k : Line) (increase : ℕ) (same : l ≡ k) where
  pub none-fits : l.limit ≡ None → limit_size k + increase ≤ most → l.base + increase ≤ most
  none-fits e h = rw (← same, e) at h

  pub some_fits : (n : ℕ) → l.limit ≡ Some n → limit_size k + increase ≤ most → n + increase ≤ most
  some_fits n e h = rw (← same, e) at h
