-- The passes keep the number of rows. Assumes nothing.
use mathlib.Core.Path.{◌≡◌, refl, ◌∙◌}
use mathlib.Core.Bool.{Bool, true, false}
use Prim.Native.Nat.{ℕ, zero, suc}
use lib.Ieee.{Float}
use lib.ListN.{length, length-set}
use Rattle.laws.specs.Turns.{turns}
use Rattle.float_track.specs.Track.{row_of}
use Rattle.float_distribution.specs.Distribution.{Lists, Left, part_at, track_at, grown, stops, passes, pass_step, one_pass, share_of}

-- two of one length: either has it
length-either : (b : Bool) (s t : Left) → length t.tracks ≡ length s.tracks
    → length (elim b as (λ _. Left) [ true ↦ s | false ↦ t ]).tracks ≡ length s.tracks
length-either true s t e = refl
length-either false s t e = e

module _ (l : Lists) where
  length-turns : (share : Float) (n : ℕ) (s : Left) → length (turns (pass_step l share) n s).tracks ≡ length s.tracks
  unfolding turns
  length-turns share zero s = refl
  length-turns share (suc n) s =
      let t = turns (pass_step l share) n s in
      let row = row_of (grown (part_at l n) (track_at t.tracks n) share t.space).track in
      length-set t.tracks n row ∙ length-turns share n s

  pub length-one-pass : (share : Float) (s : Left) → length (one_pass l share s).tracks ≡ length s.tracks
  length-one-pass share s = length-turns share (length s.tracks) s

  pub length-passes : (n : ℕ) (s : Left) → length (passes l n s).tracks ≡ length s.tracks
  unfolding passes
  length-passes zero s = refl
  length-passes (suc n) s =
      let t = one_pass l (share_of l s) s in
      length-either (stops l s) s (passes l n t) (length-passes n t ∙ length-one-pass (share_of l s) s)
