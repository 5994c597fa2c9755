-- A board tells sizes for each track: no step adds a line or takes one away. Assumes nothing.
use mathlib.Core.Path.{◌≡◌, refl, ◌∙◌}
use mathlib.Core.Bool.{Bool, true, false}
use mathlib.Core.List.{List, [], ◌∷◌, map}
use Prim.Native.Nat.{ℕ, ◌-◌}
use lib.ListN.{length, length-map}
use Rattle.laws.specs.Lists.{up_from, keep, in_turn, length-zip}
use Rattle.laws.specs.Alls.{image-all}
use Rattle.laws.specs.Changes.{in-turn-long}
use Rattle.rounds.specs.Rule.{gains_of, fill}
use Rattle.rounds.specs.Rule as fill
use Rattle.rounds.proofs.Fresh.{length-gains}
use Rattle.kinds.specs.declared.item.Item.{Item}
use Rattle.kinds.specs.declared.constraint.Constraint.{Constraint}
use Rattle.kinds.specs.declared.constraint.Constraint.TheVariants.{Definite, MinContent, MaxContent}
use Rattle.kinds.specs.declared.track.Track.{Track}
use Rattle.lines.specs.declared.line.Line.{Line}
use Rattle.std.specs.Prelude.{Some}
use Rattle.lines.specs.declared.measured.Measured.{Measured}
use Rattle.lines.specs.Rule.{Sharing, Letter, with_base, with_limit, limit_size, bases, measured_items, on_fr, settled, start_line, start, in_one_track, singles, grown_base, base_letters, letters, shares, shares_by_factor, raise, batched, in_span, longer, last_batch, missing, content, filled_lines, maximise_track, maximise, stretch_track, stretched, fr_for, finish, sizes_of, size}
use Rattle.lines.proofs.Fits.{length-take-singles}
use Rattle.lines.proofs.Increases.{length-raise}
use Rattle.flexible.proofs.Expanded.{length-expand}

-- ---- steps 1 to 4

length-batched : (share : Sharing) (steps : List Letter) (c : Constraint) (batch : List Measured) (ls : List Line) → length (batched share steps c batch ls) ≡ length ls
unfolding batched
length-batched share steps c [] ls = refl
length-batched share steps c (i ∷ is) ls = in-turn-long (raise share c (i ∷ is)) (λ (letter : Letter) (on : List Line). length-raise share letter c (i ∷ is) on) steps ls

length-content : (c : Constraint) (ts : List Track) (is : List Measured) → length (content c ts is) ≡ length ts
unfolding content missing last_batch longer singles start
length-content c ts is =
    length-map (last_batch c ts is (longer c ts is (singles c (keep (in_one_track ts) is) (start ts)))) (λ (l : Line). with_limit l (Some (limit_size l)))
    ∙ length-batched shares_by_factor (base_letters c) c (keep (on_fr ts) is) (longer c ts is (singles c (keep (in_one_track ts) is) (start ts)))
    ∙ in-turn-long (λ (n : ℕ). batched shares (letters c) c (keep (in_span ts n) is)) (λ (n : ℕ). length-batched shares (letters c) c (keep (in_span ts n) is)) (up_from 2 (length ts - 1)) (singles c (keep (in_one_track ts) is) (start ts))
    ∙ length-map (in_turn _ (keep (in_one_track ts) is) (start ts)) settled
    ∙ length-take-singles c 0 (keep (in_one_track ts) is) (start ts)
    ∙ length-map ts start_line

-- ---- steps 5 to 7

length-filled : (dots : ℕ) (track : Line → fill.Track) → ((l : Line) → (track l).gain ≡ 0) → (ls : List Line) → length (filled_lines ls (fill dots (map track ls))) ≡ length ls
length-filled dots track none ls =
    length-zip grown_base ls (gains_of (fill dots (map track ls)).tracks)
    (length-gains dots (map track ls) (image-all (λ (t : fill.Track). t.gain ≡ 0) track none ls) ∙ length-map ls track)

length-maximise : (c : Constraint) (ls : List Line) → length (maximise c ls).lines ≡ length ls
unfolding maximise
length-maximise (Definite n) ls = length-filled (n - bases ls) maximise_track (λ l. refl) ls
length-maximise MinContent ls = length-filled 0 maximise_track (λ l. refl) ls
length-maximise MaxContent ls = length-map ls (λ (l : Line). with_base l (limit_size l))

length-stretched : (asked : Bool) (e : Constraint) (ls : List Line) → length (stretched asked e ls) ≡ length ls
unfolding stretched
length-stretched false e ls = refl
length-stretched true (Definite n) ls = length-filled (n - bases ls) stretch_track (λ l. refl) ls
length-stretched true MinContent ls = refl
length-stretched true MaxContent ls = refl

length-finish : (e : Constraint) (asked : Bool) (ts : List Track) (is : List Measured) (ls : List Line) → length (finish e asked ts is ls) ≡ length ls
unfolding finish
length-finish e asked ts is ls = length-stretched asked e _ ∙ length-expand (fr_for e ts is ls) ls

-- ---- the board

pub length-size : (c e : Constraint) (asked : Bool) (ts : List Track) (is : List Item) → length (size c e asked ts is).sizes ≡ length ts
unfolding size
length-size c e asked ts is =
    let ms = measured_items ts is in
    let ls = content c ts ms in
    length-map (finish e asked ts ms (maximise c ls).lines) sizes_of
    ∙ length-finish e asked ts ms (maximise c ls).lines
    ∙ length-maximise c ls
    ∙ length-content c ts ms
