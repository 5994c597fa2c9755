-- `passes`, one pass at a time. Assumes nothing.
use mathlib.Core.Path.{◌≡◌, refl}
use mathlib.Core.Bool.{true, false}
use Prim.Native.Nat.{ℕ, zero, suc}
use Rattle.laws.specs.Turns.{turns-none, turns-round}
use Rattle.float_distribution.specs.Distribution.{Lists, Left, stops, passes, one_pass, share_of}

module _ (l : Lists) where
  pub stop-here : (m : ℕ) (s : Left) → stops l s ≡ true → passes l m s ≡ s
  unfolding passes
  stop-here zero s e = refl
  stop-here (suc m) s e = rw (passes, e)

  pub go_on : (m n : ℕ) (s : Left) → m ≡ suc n → stops l s ≡ false → passes l m s ≡ passes l n (one_pass l (share_of l s) s)
  unfolding passes
  go_on m n s h e = rw (h, passes, e)

  pub passes_none : (m : ℕ) (s : Left) → m ≡ 0 → passes l m s ≡ s
  unfolding passes
  passes_none m s h = rw h

-- for the check of `distribute_space_up_to_limits`
pub ruleset by_pass = (stop-here, passes_none)

-- and of `one_pass`
pub ruleset by_turn = (turns-none, turns-round)
