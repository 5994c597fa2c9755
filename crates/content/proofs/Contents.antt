-- Steps 1 to 4 as the code goes about them, batches by their chains, are the rule's. Assumes nothing.
use mathlib.Core.Path.{◌≡◌, refl, sym, ap, ap₂, ◌∙◌, subst}
use mathlib.Core.List.{List, [], map}
use Prim.Native.Nat.{ℕ, zero, suc, ◌+◌, ◌-◌, ◌≤◌, ◌<◌}
use native.Mathlib.Omega.{arith}
use lib.ListN.{length, get_or, length-map}
use Rattle.std.proofs.lemmas.List.{get_or-map}
use Rattle.laws.specs.Lists.{All, keep, in_turn, up_from}
use Rattle.kinds.specs.Kinds.{Row, item_of}
use Rattle.kinds.specs.declared.constraint.Constraint.{Constraint}
use Rattle.kinds.specs.declared.track.Track.{Track}
use Rattle.kinds.specs.declared.item.Item.{Item}
use Rattle.spanned.specs.Sound.{ItemFits}
use Rattle.lines.specs.declared.line.Line.{Line}
use Rattle.lines.specs.declared.measured.Measured.{Measured}
use Rattle.lines.specs.Rule.{measured_items, in_one_track, on_fr, in_span, start, singles, longer, last_batch, missing, content}
use Rattle.lines.specs.Fits.{LinesFit}
use Rattle.lines.specs.Chains.{chained, batches_of, fr_batch, batches}
use Rattle.lines.proofs.Fits.{missing-fit}
use Rattle.letters.specs.declared.batch.Batch.TheVariants.{OfSpan, Last}
use Rattle.letters.specs.Batches.{batched_in}
use Rattle.chains.specs.Batches.{Gathered}
use Rattle.chains.proofs.Batches.{gathered-one, gathered-span, gathered-last, gathered-batches}
use Rattle.spans.specs.Work.{BatchesOn}

pub items-fit-as : {m n : ℕ} (is : List Item) → m ≡ n → All (ItemFits n) is → All (ItemFits m) is
items-fit-as is e f = rw e f

-- the last batch, then limits that are missing
pub spread-made : (c : Constraint) (last : List Measured) (longer' batched' out w : List Line) → longer' ≡ w → batched' ≡ batched_in Last c last longer' → LinesFit batched'
    → out ≡ missing batched' → (out ≡ missing (batched_in Last c last w)) × LinesFit out
spread-made c last longer' batched' out w l b f o =
    (o ∙ ap missing (b ∙ ap (batched_in Last c last) l), subst LinesFit (sym o) (missing-fit batched' f))

-- two walks over the same numbers
up_same : {S : Type 0} (f g : ℕ → S → S) (k n : ℕ) (s : S) → ((j : ℕ) → k ≤ j → j < k + n → f j ≡ g j) → in_turn f (up_from k n) s ≡ in_turn g (up_from k n) s
unfolding in_turn up_from
up_same f g k zero s h = refl
up_same {S} f g k (suc n) s h =
    ap (λ (t : S). in_turn f (up_from (k + 1) n) t) (ap (λ (q : S → S). q s) (h k (omega arith) (omega arith)))
    ∙ up_same f g (k + 1) n (g k s) (λ j a b. h j (omega arith) (omega arith))

module _ (c : Constraint) (ts : List Track) (rows : List Row) (heads nexts : List ℕ) (fits : All (ItemFits (length ts)) (map item_of rows))
    (all : length heads ≡ batches (length ts)) (g : Gathered ts rows heads nexts) where
  abbrev items : List Measured
  items = measured_items ts (map item_of rows)

  pub prepared : (ls out : List Line) → ls ≡ start ts → out ≡ singles c (chained rows nexts (get_or heads 1 0)) ls → out ≡ singles c (keep (in_one_track ts) items) (start ts)
  prepared ls out s o = o ∙ ap₂ (singles c) (gathered-one ts rows heads nexts fits all g) s

  -- the batches by number
  abbrev bs : List (List Measured)
  bs = batches_of rows heads nexts

  batch_is : (k : ℕ) → k < batches (length ts) → get_or bs k [] ≡ chained rows nexts (get_or heads k 0)
  batch_is k h = get_or-map (chained rows nexts) heads k 0 [] (omega arith)

  pub gathered-on : BatchesOn (length ts) bs
  gathered-on = record {
    long = length-map heads (chained rows nexts) ∙ all;
    fit = λ k h l. rw (batch_is k l) ((gathered-batches ts rows heads nexts fits all g).fits k h l).fit;
  }

  pub content-made : (n : ℕ) (ls out : List Line) → n ≡ length ts → ls ≡ singles c (keep (in_one_track ts) items) (start ts)
      → out ≡ missing (batched_in Last c (get_or bs (fr_batch n) []) (in_turn (λ (k : ℕ). batched_in OfSpan c (get_or bs k [])) (up_from 2 (n - 1)) ls))
      → out ≡ content c ts items
  unfolding content longer last_batch
  content-made n ls out e l o =
      o
      ∙ ap (λ (is : List Measured). missing (batched_in Last c is (in_turn (λ (k : ℕ). batched_in OfSpan c (get_or bs k [])) (up_from 2 (n - 1)) ls))) (ap (λ (k : ℕ). get_or bs (fr_batch k) []) e ∙ batch_is (fr_batch (length ts)) (omega arith) ∙ gathered-last ts rows heads nexts fits all g)
      ∙ ap (λ (ms : List Line). missing (batched_in Last c (keep (on_fr ts) items) ms))
      (ap₂ (λ (m : ℕ) (ms : List Line). in_turn (λ (k : ℕ). batched_in OfSpan c (get_or bs k [])) (up_from 2 (m - 1)) ms) e l
      ∙ up_same (λ (k : ℕ). batched_in OfSpan c (get_or bs k [])) (λ (k : ℕ). batched_in OfSpan c (keep (in_span ts k) items)) 2 (length ts - 1) (singles c (keep (in_one_track ts) items) (start ts))
      (λ j a b. ap (batched_in OfSpan c) (batch_is j (omega arith) ∙ gathered-span ts rows heads nexts fits all g j (omega arith) (omega arith))))
