-- What the passes make of the tracks, with the lists named by what was loaded into them. Assumes nothing.
use mathlib.Core.Path.{◌≡◌, ap, ◌∙◌}
use mathlib.Core.Bool.{true}
use mathlib.Core.List.{List, map}
use Prim.Native.Nat.{◌+◌, ◌≤◌}
use lib.ListN.{length, take, replicate}
use lib.Ieee.{Float}
use Rattle.laws.specs.Store.{take-replicate}
use Rattle.float_laws.specs.Numbers.{one32, most_tracks}
use Rattle.float_track.specs.Track.{base_size}
use Rattle.float_distribution.specs.Distribution.{Lists, Left, lists, left, passes}
use Rattle.float_maximise.specs.Maximise.{limits_of, filled_up}

module _ (free : Float) (fits : List Float) (rows : List (List Float)) where
  -- of each store, the front that is as long as the tracks
  pub filled-up : (l : Lists) (ss ls : List Float) (rest : Float) (out : List (List Float)) → length rows ≤ most_tracks
      → l ≡ lists (take (length rows) (replicate most_tracks true)) (take (length rows) (replicate most_tracks one32)) ss ls
      → ss ≡ map base_size rows → ls ≡ limits_of fits rows
      → left rest out ≡ passes l (length rows + 1) (left free rows) → out ≡ filled_up free fits rows
  filled-up l ss ls rest out few fronts loaded limited passed =
      let growing = fronts ∙ (λ j. lists (take-replicate (length rows) most_tracks true few j) (take-replicate (length rows) most_tracks one32 few j) (loaded j) (limited j)) in
      ap (λ (x : Left). x.tracks) passed ∙ ap (λ (x : Lists). (passes x (length rows + 1) (left free rows)).tracks) growing
