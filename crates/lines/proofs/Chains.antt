-- A chain item by item: where it ends, and what it is before each step; and a walk over the items. Assumes nothing.
use mathlib.Core.Path.{◌≡◌, refl, ap, sym, ◌∙◌}
use mathlib.Core.Logic.{⊎_elim}
use mathlib.Core.List.{List, [], ◌∷◌, ◌++◌, flat_map}
use Prim.Native.Nat.{ℕ, zero, suc, ◌-◌, ◌≤◌, ◌<◌}
use native.Mathlib.Omega.{arith}
use lib.ListN.{length, get_or}
use borrow.Author.Tests.{lt-ltb, le-ltb}
use Rattle.laws.specs.Tests.{lt-or-ge}
use Rattle.laws.specs.Lists.{All, in_turn}
use Rattle.kinds.specs.Kinds.{Row, item_of}
use Rattle.kinds.specs.declared.item.Item.{Item}
use Rattle.lines.specs.declared.measured.Measured.{Measured}
use Rattle.lines.specs.Rule.{complete}
use Rattle.lines.specs.Chains.{Rising, chain_from, chain, part_at, chained}

-- past the items there is nothing
chain_from-end : (steps : ℕ) (nexts : List ℕ) (i : ℕ) → length nexts ≤ i → chain_from steps nexts i ≡ []
unfolding chain_from
chain_from-end zero nexts i h = refl
chain_from-end (suc steps) nexts i h = rw (le-ltb i (length nexts) h) refl

-- steps beyond those that are left change nothing
chain_from-enough : (steps more : ℕ) (nexts : List ℕ) (i : ℕ) → Rising nexts → length nexts - i ≤ steps → length nexts - i ≤ more → chain_from steps nexts i ≡ chain_from more nexts i
unfolding chain_from
chain_from-enough zero more nexts i r h k = sym (chain_from-end more nexts i (omega arith))
chain_from-enough (suc steps) zero nexts i r h k = chain_from-end (suc steps) nexts i (omega arith)
chain_from-enough (suc steps) (suc more) nexts i r h k =
    ⊎_elim
    (λ (l : i < length nexts).
    let up = r i l in
    rw (lt-ltb i (length nexts) l) (ap (i ∷◌) (chain_from-enough steps more nexts (get_or nexts i 0) r (omega arith) (omega arith))))
    (λ (l : length nexts ≤ i). rw (le-ltb i (length nexts) l) refl)
    (lt-or-ge i (length nexts))

pub chain-end : (nexts : List ℕ) (i : ℕ) → length nexts ≤ i → chain nexts i ≡ []
chain-end nexts i h = chain_from-end (length nexts) nexts i h

pub chain_next : (nexts : List ℕ) (i : ℕ) → Rising nexts → i < length nexts → chain nexts i ≡ i ∷ chain nexts (get_or nexts i 0)
unfolding chain_from
chain_next nexts i r h = go (length nexts) refl
  where
    go : (n : ℕ) → length nexts ≡ n → chain_from n nexts i ≡ i ∷ chain_from n nexts (get_or nexts i 0)
    go zero e = absurd (omega arith)
    go (suc n) e =
        let up = r i h in
        rw (lt-ltb i (length nexts) h) (ap (i ∷◌) (chain_from-enough n (suc n) nexts (get_or nexts i 0) r (omega arith) (omega arith)))

pub chained-end : (rows : List Row) (nexts : List ℕ) (i : ℕ) → length nexts ≤ i → chained rows nexts i ≡ []
unfolding chained flat_map
chained-end rows nexts i h = rw (chain-end nexts i h) refl

pub chained-next : (rows : List Row) (nexts : List ℕ) (i : ℕ) → Rising nexts → i < length nexts → chained rows nexts i ≡ part_at rows i ++ chained rows nexts (get_or nexts i 0)
unfolding chained flat_map
chained-next rows nexts i r h = rw (chain_next nexts i r h) refl

-- the item at i comes first where it takes part
module _ (rows : List Row) (nexts : List ℕ) (i : ℕ) (r : Rising nexts) (h : i < length nexts) (item : Item) (read : item ≡ item_of (get_or rows i [])) where
  pub chained-step : (ms : List Measured) → ms ≡ complete item → chained rows nexts i ≡ ms ++ chained rows nexts (get_or nexts i 0)
  chained-step ms e =
      chained-next rows nexts i r h
      ∙ ap (◌++ chained rows nexts (get_or nexts i 0)) (sym (e ∙ ap (λ (j : Item). complete j) read))

-- ---- A walk over items, or whatever stands in a list, one after another: w is what the whole walk makes of s

module _ {A : Type 0} (items rest : List A) (item : A) (e : items ≡ item ∷ rest) where
  pub walk_turn : {S : Type 0} (f : A → S → S) (s s' w : S) → in_turn f items s ≡ w → s' ≡ f item s → in_turn f rest s' ≡ w
  unfolding in_turn
  walk_turn f s s' w p t = rw t (rw e at p)

  -- what holds of the items holds of the first, and of the rest
  pub all_first : (P : A → Type 0) → All P items → P item
  unfolding All
  all_first P a = (rw e at a).0

  pub all_rest : (P : A → Type 0) → All P items → All P rest
  unfolding All
  all_rest P a = (rw e at a).1

-- at the end nothing is left to walk
pub walk_end : {A S : Type 0} (items : List A) (f : A → S → S) (s w : S) → items ≡ [] → in_turn f items s ≡ w → s ≡ w
unfolding in_turn
walk_end items f s w h p = rw h at p
