-- Gathered batches in the words of the rule: the chain of a span names the measured items of that span, the last one those on an
-- fr track, and each chain is fit to be walked. Assumes nothing.
use mathlib.Core.Path.{◌≡◌, refl, sym, ap, ◌∙◌}
use mathlib.Core.Bool.{Bool, true, false, cond, ◌&&◌}
use mathlib.Core.List.{List, [], ◌∷◌, ◌++◌, map, flat_map}
use Prim.Native.Nat.{ℕ, ◌+◌, ◌≤◌, ◌<◌}
use native.Mathlib.Omega.{arith}
use lib.Dec.{eqb}
use lib.ListN.{length, get_or, take, drop}
use borrow.Author.Tests.{eq-eqb, ne_eqb}
use Rattle.std.specs.Prelude.{None, Some}
use Rattle.laws.specs.Lists.{All, keep, some}
use Rattle.kinds.specs.Kinds.{Row, item_of, amount_number, kind_index, amount_at, Amount}
use Rattle.kinds.specs.declared.track.Track.{Track}
use Rattle.kinds.specs.declared.item.ContributionKind.{ContributionKind}
use Rattle.kinds.specs.declared.item.ContributionKind.TheVariants as kind
use Rattle.kinds.specs.declared.item.Item.{Item}
use Rattle.spanned.specs.Rule.{is_fr, is_measured, crosses_fr, most_contribution}
use Rattle.spanned.specs.Sound.{ItemFits}
use Rattle.lines.specs.declared.measured.Measured.{Measured}
use Rattle.lines.specs.Rule.{complete_of, complete, measured_items, on_fr, in_span, in_one_track}
use Rattle.lines.specs.Fits.{MeasuredFits, MeasuredFit}
use Rattle.lines.specs.Parts.{measured_of}
use Rattle.lines.specs.Chains.{chain, part_at, chained, ChainFits, Whole, fr_batch, batches, BatchesFit}
use Rattle.lines.proofs.Parted.{lacks, complete-one}
use Rattle.lines.proofs.Chains.{chain_next, chained-next}
use Rattle.chains.specs.Batches.{batch_of, in_batch, chain_items, Gathered}
use Rattle.chains.proofs.Numbers.{numbered, gives-of-batch}

-- ---- Lists that are kept, and lists of lists

module _ {A : Type 0} (P : A → Type 0) (p : A → Bool) where
  -- what holds of all holds of those that are kept
  pub keep_all : (xs : List A) → All P xs → All P (keep p xs)
  unfolding All keep
  keep_all [] a = tt
  keep_all (x ∷ xs) a = go (p x) (keep_all xs a.1)
    where
      go : (b : Bool) → All P (keep p xs) → All P (cond b (x ∷ keep p xs) (keep p xs))
      go true rest = (a.0, rest)
      go false rest = rest

module _ {A : Type 0} (p : A → Bool) where
  -- who is kept has passed
  passes-of-keep : (xs : List A) → All (λ (x : A). p x ≡ true) (keep p xs)
  unfolding All keep
  passes-of-keep [] = tt
  passes-of-keep (x ∷ xs) = go (p x) refl (passes-of-keep xs)
    where
      go : (b : Bool) → p x ≡ b → All (λ (y : A). p y ≡ true) (keep p xs) → All (λ (y : A). p y ≡ true) (cond b (x ∷ keep p xs) (keep p xs))
      go true e rest = (e, rest)
      go false e rest = rest

  keep_append : (xs ys : List A) → keep p (xs ++ ys) ≡ keep p xs ++ keep p ys
  unfolding keep
  keep_append [] ys = refl
  keep_append (x ∷ xs) ys = rw (keep_append xs ys) (go (p x))
    where
      go : (b : Bool) → cond b (x ∷ (keep p xs ++ keep p ys)) (keep p xs ++ keep p ys) ≡ cond b (x ∷ keep p xs) (keep p xs) ++ keep p ys
      go true = refl
      go false = refl

module _ {A B : Type 0} (f : A → List B) where
  flat_map_map : {C : Type 0} (g : C → A) (xs : List C) → flat_map f (map g xs) ≡ flat_map (λ (x : C). f (g x)) xs
  unfolding flat_map
  flat_map_map g [] = refl
  flat_map_map g (x ∷ xs) = ap (f (g x) ++◌) (flat_map_map g xs)

  -- one that is kept gives its part, the others nothing
  flat-map-keep : (p : A → Bool) (x : A) (xs : List A) → flat_map f (keep p (x ∷ xs)) ≡ cond (p x) (f x) [] ++ flat_map f (keep p xs)
  unfolding flat_map keep
  flat-map-keep p x xs = go (p x)
    where
      go : (b : Bool) → flat_map f (cond b (x ∷ keep p xs) (keep p xs)) ≡ cond b (f x) [] ++ flat_map f (keep p xs)
      go true = refl
      go false = refl

  no-flat-map : (p q : A → Bool) (r : B → Bool) → flat_map f (keep p []) ≡ keep r (flat_map f (keep q []))
  unfolding flat_map keep
  no-flat-map p q r = refl

  -- a test before and a test behind, where they agree on each one
  flat-map-tests : (P : A → Type 0) (p q : A → Bool) (r : B → Bool) → ((x : A) → P x → cond (p x) (f x) [] ≡ keep r (cond (q x) (f x) []))
      → (xs : List A) → All P xs → flat_map f (keep p xs) ≡ keep r (flat_map f (keep q xs))
  unfolding All
  flat-map-tests P p q r same [] a = no-flat-map p q r
  flat-map-tests P p q r same (x ∷ xs) a =
      rw (flat-map-keep p x xs, flat-map-keep q x xs, keep_append r (cond (q x) (f x) []) (flat_map f (keep q xs)), same x a.0, flat-map-tests P p q r same xs a.1) refl

  all-flat-map : (P : A → Type 0) (Q : B → Type 0) → ((x : A) → P x → All Q (f x)) → (xs : List A) → All P xs → All Q (flat_map f xs)
  unfolding All flat_map
  all-flat-map P Q each [] a = tt
  all-flat-map P Q each (x ∷ xs) a = join (f x) (flat_map f xs) (each x a.0) (all-flat-map P Q each xs a.1)
    where
      join : (ys zs : List B) → All Q ys → All Q zs → All Q (ys ++ zs)
      join [] zs b d = d
      join (y ∷ ys) zs b d = (b.0, join ys zs b.1 d)

-- ---- One item: its batch keeps it just where it is measured and complete, and is what the batch asks for

nothing : {A : Type 0} (r : A → Bool) (p q : Bool) → cond p [] [] ≡ keep r (cond q [] [])
unfolding keep
nothing r true true = refl
nothing r true false = refl
nothing r false true = refl
nothing r false false = refl

-- by its start and span, its amounts and its tests: it is measured, and it crosses an fr track
module _ (ts : List Track) (start span : ℕ) where
  at-span : (k : ℕ) → 0 < k → k ≤ length ts + 1 → (a b c : Amount) (m f : Bool) → some is_fr (take span (drop start ts)) ≡ f
      → cond (eqb (numbered (length ts) m (lacks a b c) f span) k) (complete_of start span a b c) [] ≡ keep (in_span ts k) (cond m (complete_of start span a b c) [])
  unfolding keep
  at-span k h l (Some x) (Some y) (Some z) true true e = rw (e, ne_eqb (fr_batch (length ts)) k (λ (d : fr_batch (length ts) ≡ k). omega arith)) (go (eqb span k))
    where
      one : List Measured
      one = record { start = start; span = span; row = x ∷ y ∷ z ∷ [] } ∷ []

      go : (b : Bool) → [] ≡ cond (b && false) one []
      go true = refl
      go false = refl
  at-span k h l (Some x) (Some y) (Some z) true false e = rw e (go (eqb span k))
    where
      one : List Measured
      one = record { start = start; span = span; row = x ∷ y ∷ z ∷ [] } ∷ []

      go : (b : Bool) → cond b one [] ≡ cond (b && true) one []
      go true = refl
      go false = refl
  at-span k h l (Some x) (Some y) (Some z) false f e = rw (ne_eqb 0 k (λ (d : 0 ≡ k). omega arith)) refl
  at-span k h l (Some x) (Some y) None m f e = nothing (in_span ts k) (eqb (numbered (length ts) m true f span) k) m
  at-span k h l (Some x) None c m f e = nothing (in_span ts k) (eqb (numbered (length ts) m true f span) k) m
  at-span k h l None b c m f e = nothing (in_span ts k) (eqb (numbered (length ts) m true f span) k) m

  at_last : span ≤ length ts → (a b c : Amount) (m f : Bool) → some is_fr (take span (drop start ts)) ≡ f
      → cond (eqb (numbered (length ts) m (lacks a b c) f span) (fr_batch (length ts))) (complete_of start span a b c) [] ≡ keep (on_fr ts) (cond m (complete_of start span a b c) [])
  unfolding keep
  at_last h (Some x) (Some y) (Some z) true true e = rw (e, eq-eqb (fr_batch (length ts)) (fr_batch (length ts)) refl) refl
  at_last h (Some x) (Some y) (Some z) true false e = rw (e, ne_eqb span (fr_batch (length ts)) (λ (d : span ≡ fr_batch (length ts)). omega arith)) refl
  at_last h (Some x) (Some y) (Some z) false f e = rw (ne_eqb 0 (fr_batch (length ts)) (λ (d : 0 ≡ fr_batch (length ts)). omega arith)) refl
  at_last h (Some x) (Some y) None m f e = nothing (on_fr ts) (eqb (numbered (length ts) m true f span) (fr_batch (length ts))) m
  at_last h (Some x) None c m f e = nothing (on_fr ts) (eqb (numbered (length ts) m true f span) (fr_batch (length ts))) m
  at_last h None b c m f e = nothing (on_fr ts) (eqb (numbered (length ts) m true f span) (fr_batch (length ts))) m

module _ (ts : List Track) (i : Item) where
  item-at-span : (k : ℕ) → 0 < k → k ≤ length ts + 1 → cond (in_batch ts k i) (complete i) [] ≡ keep (in_span ts k) (cond (is_measured ts i) (complete i) [])
  unfolding batch_of some
  item-at-span k h l =
      at-span ts i.start i.span k h l (amount_at i kind.Minimum) (amount_at i kind.MinContent) (amount_at i kind.MaxContent) (is_measured ts i) (crosses_fr ts i) refl

  item-at-last : i.span ≤ length ts → cond (in_batch ts (fr_batch (length ts)) i) (complete i) [] ≡ keep (on_fr ts) (cond (is_measured ts i) (complete i) [])
  unfolding batch_of some
  item-at-last h =
      at_last ts i.start i.span h (amount_at i kind.Minimum) (amount_at i kind.MinContent) (amount_at i kind.MaxContent) (is_measured ts i) (crosses_fr ts i) refl

-- ---- What every measured item keeps

three : (x y z : ℕ) {m : ℕ} → x ≤ m → y ≤ m → z ≤ m → (k : ContributionKind) → get_or (x ∷ y ∷ z ∷ []) (kind_index k) 0 ≤ m
three x y z f g h kind.Minimum = f
three x y z f g h kind.MinContent = g
three x y z f g h kind.MaxContent = h

module _ (n : ℕ) where
  complete-fits : (start span : ℕ) (a b c : Amount) → start + span ≤ n → 0 < span
      → amount_number a ≤ most_contribution → amount_number b ≤ most_contribution → amount_number c ≤ most_contribution
      → MeasuredFit n (complete_of start span a b c)
  unfolding All
  complete-fits start span (Some x) (Some y) (Some z) w s f g h = (record { within = w; spans = s; contributions = three x y z f g h }, tt)
  complete-fits start span (Some x) (Some y) None w s f g h = tt
  complete-fits start span (Some x) None c w s f g h = tt
  complete-fits start span None b c w s f g h = tt

  part-fits : (i : Item) → ItemFits n i → MeasuredFit n (complete i)
  part-fits i f =
      complete-fits i.start i.span (amount_at i kind.Minimum) (amount_at i kind.MinContent) (amount_at i kind.MaxContent)
      f.0 f.1 (f.2 kind.Minimum) (f.2 kind.MinContent) (f.2 kind.MaxContent)

  -- of all items of a sheet; the batches have it each by itself (`gathered-batches`)
  pub measured-fit : (ts : List Track) (is : List Item) → All (ItemFits n) is → MeasuredFit n (measured_items ts is)
  unfolding measured_items
  measured-fit ts is a = all-flat-map complete (ItemFits n) (MeasuredFits n) part-fits (keep (is_measured ts) is) (keep_all (ItemFits n) (is_measured ts) is a)

-- ---- The batches, gathered

chained-items : (rows : List Row) (nexts : List ℕ) (first : ℕ) → chained rows nexts first ≡ flat_map complete (chain_items rows nexts first)
unfolding chained chain_items
chained-items rows nexts first = sym (flat_map_map complete (λ (j : ℕ). item_of (get_or rows j [])) (chain nexts first))

module _ (ts : List Track) (rows : List Row) (heads nexts : List ℕ)
    (fits : All (ItemFits (length ts)) (map item_of rows))
    (all : length heads ≡ batches (length ts)) (g : Gathered ts rows heads nexts) where
  -- a batch's chain names the parts of its items
  batch-chain : (k : ℕ) → k < batches (length ts) → chained rows nexts (get_or heads k 0) ≡ flat_map complete (keep (in_batch ts k) (map item_of rows))
  batch-chain k l = chained-items rows nexts (get_or heads k 0) ∙ ap (flat_map complete) (g.batch k (omega arith))

  pub gathered-span : (k : ℕ) → 0 < k → k ≤ length ts + 1 → chained rows nexts (get_or heads k 0) ≡ keep (in_span ts k) (measured_items ts (map item_of rows))
  unfolding measured_items
  gathered-span k h l =
      batch-chain k (omega arith)
      ∙ flat-map-tests complete (ItemFits (length ts)) (in_batch ts k) (is_measured ts) (in_span ts k)
      (λ (i : Item) (f : ItemFits (length ts) i). item-at-span ts i k h l)
      (map item_of rows) fits

  pub gathered-one : chained rows nexts (get_or heads 1 0) ≡ keep (in_one_track ts) (measured_items ts (map item_of rows))
  gathered-one = gathered-span 1 (omega arith) (omega arith)

  pub gathered-last : chained rows nexts (get_or heads (fr_batch (length ts)) 0) ≡ keep (on_fr ts) (measured_items ts (map item_of rows))
  unfolding measured_items
  gathered-last =
      batch-chain (fr_batch (length ts)) (omega arith)
      ∙ flat-map-tests complete (ItemFits (length ts)) (in_batch ts (fr_batch (length ts))) (is_measured ts) (on_fr ts)
      (λ (i : Item) (f : ItemFits (length ts) i). item-at-last ts i (omega (arith, f.0)))
      (map item_of rows) fits

  batch-fits : (k : ℕ) → 0 < k → k < batches (length ts) → ChainFits (length ts) rows nexts (get_or heads k 0)
  batch-fits k h l = record {
    long = g.long;
    rising = g.rising;
    fit = rw (batch-chain k l)
        (all-flat-map complete (ItemFits (length ts)) (MeasuredFits (length ts)) (part-fits (length ts)) (keep (in_batch ts k) (map item_of rows))
        (keep_all (ItemFits (length ts)) (in_batch ts k) (map item_of rows) fits));
  }

  batch-whole : (k : ℕ) → 0 < k → k < batches (length ts) → Whole rows nexts (get_or heads k 0)
  unfolding All chain_items
  batch-whole k h l inside =
      (measured_of (item_of (get_or rows (get_or heads k 0) [])), chained rows nexts (get_or nexts (get_or heads k 0) 0), chained-next rows nexts (get_or heads k 0) g.rising short ∙ ap (◌++ chained rows nexts (get_or nexts (get_or heads k 0) 0)) whole)
    where
      short : get_or heads k 0 < length nexts
      short = omega (arith, g.long)

      head-passes : All (λ (i : Item). in_batch ts k i ≡ true) (chain_items rows nexts (get_or heads k 0))
      head-passes = rw (g.batch k (omega arith)) (passes-of-keep (in_batch ts k) (map item_of rows))

      passes : in_batch ts k (item_of (get_or rows (get_or heads k 0) [])) ≡ true
      passes = (rw (chain_next nexts (get_or heads k 0) g.rising short) at head-passes).0

      whole : part_at rows (get_or heads k 0) ≡ measured_of (item_of (get_or rows (get_or heads k 0) [])) ∷ []
      whole = complete-one (item_of (get_or rows (get_or heads k 0) [])) (gives-of-batch ts (item_of (get_or rows (get_or heads k 0) [])) k h passes)

  pub gathered-batches : BatchesFit (length ts) rows heads nexts
  gathered-batches = record { heads-long = all; fits = batch-fits; whole = batch-whole }
