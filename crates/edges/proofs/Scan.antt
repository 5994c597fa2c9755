-- What the full scan finds in a list that passes the check. Assumes nothing.
use mathlib.Core.Path.{◌≡◌, refl, ap, ◌∙◌}
use mathlib.Core.Logic.{⊎_elim}
use mathlib.Core.Bool.{Bool, true, false, cond, and-false}
use mathlib.Core.List.{List, [], ◌∷◌}
use Prim.Native.Nat.{ℕ, zero, suc, ◌+◌, ◌-◌, ◌/◌, ◌≤◌, ◌<◌}
use native.Mathlib.Nat.{le_of_suc-le-suc, not-suc-le-zero}
use native.Mathlib.Numerals.{add-one}
use native.Mathlib.Omega.{arith}
use lib.Dec.{leb, ltb}
use lib.ListN.{length, get_or}
use borrow.Author.Tests.{lt-ltb, le-ltb, lt-leb, le-leb}
use Rattle.std.specs.Prelude.{Option, Ok}
use Rattle.std.specs.Bool.{then_some}
use Rattle.laws.specs.Tests.{lt-or-ge}
use Rattle.edges.specs.Rule.{fine, fault, fall_fault, edges_fault, track, no_track, holds, scan_from, scan, lookup_call, lookup_refused}
use Rattle.edges.specs.Answer.{lookup_told}
use Rattle.edges.specs.Steps.{LastUpTo}
use Rattle.edges.proofs.Falls.{fall-fine, behind-fine, rises-from, rises}

-- ---- whether a track holds a dot

pub holds-within : (edge next dot : ℕ) → edge ≤ dot → dot < next → holds edge next dot ≡ true
holds-within edge next dot l h = rw (le-leb edge dot l, lt-ltb dot next h)

pub holds-not-past : (edge next dot : ℕ) → next ≤ dot → holds edge next dot ≡ false
holds-not-past edge next dot h = rw (le-ltb dot next h, and-false)

-- ---- the scan

found_from : (k edge place : ℕ) (behind : List ℕ) (dot t : ℕ) → fall_fault place edge behind ≡ fine → t < length behind
    → get_or (edge ∷ behind) t 0 ≤ dot → dot < get_or behind t 0 → scan_from k edge behind dot ≡ track (k + t)
unfolding scan_from
found_from k edge place [] dot t f h l m = absurd (not-suc-le-zero h)
found_from k edge place (next ∷ behind) dot zero f h l m = let e : k + 0 ≡ k = omega arith in rw (holds-within edge next dot l m, e)
found_from k edge place (next ∷ behind) dot (suc t) f h l m =
    let rest = (fall-fine place edge next behind f).1 in
    let before : next ≤ get_or (next ∷ behind) t 0 = rises-from (place + 1) next behind rest 0 t (omega arith) (omega arith) in
    let e : (k + 1) + t ≡ k + suc t = omega arith in
    rw (holds-not-past edge next dot (omega (arith, before, l))) (found_from (k + 1) next (place + 1) behind dot t rest (le_of_suc-le-suc h) l m ∙ ap track e)

none_from : (k edge : ℕ) (behind : List ℕ) (dot : ℕ) → ((j : ℕ) → j < length behind → get_or behind j 0 ≤ dot) → scan_from k edge behind dot ≡ no_track
unfolding scan_from
none_from k edge [] dot l = refl
none_from k edge (next ∷ behind) dot l = rw (holds-not-past edge next dot (l 0 (omega arith))) (none_from (k + 1) next behind dot (λ (j : ℕ) (h : j < length behind). l (suc j) (omega arith)))

pub record Narrowed (es : List ℕ) (dot at count : ℕ) : Type 0 where
  pub some : 0 < count
  pub within : at + count ≤ length es
  pub reached : get_or es at 0 ≤ dot
  pub past : at + count < length es → dot < get_or es (at + count) 0

module _ (es : List ℕ) (dot : ℕ) (f : edges_fault es ≡ fine) where
  -- the track whose edge is not past the dot, and the next one is
  pub scan-found : (t : ℕ) → t + 1 < length es → get_or es t 0 ≤ dot → dot < get_or es (t + 1) 0 → scan es dot ≡ track t
  scan-found = go es f
    where
      go : (es : List ℕ) → edges_fault es ≡ fine → (t : ℕ) → t + 1 < length es → get_or es t 0 ≤ dot → dot < get_or es (t + 1) 0 → scan es dot ≡ track t
      go [] f t h l m = absurd (not-suc-le-zero h)
      go (edge ∷ behind) f t h l m =
          let e : 0 + t ≡ t = omega arith in
          found_from 0 edge 1 behind dot t (behind-fine edge behind f) (omega arith) l (rw add-one at m) ∙ ap track e

  -- none where no edge is past it
  pub scan-none : (last : ℕ) → last + 1 ≡ length es → get_or es last 0 ≤ dot → scan es dot ≡ no_track
  scan-none last e l = go es f e l
    where
      go : (es : List ℕ) → edges_fault es ≡ fine → last + 1 ≡ length es → get_or es last 0 ≤ dot → scan es dot ≡ no_track
      go [] f e l = refl
      go (edge ∷ behind) f e l =
          none_from 0 edge behind dot (λ (j : ℕ) (h : j < length behind). let up = rises (edge ∷ behind) f (suc j) last (omega arith) (omega arith) in omega (arith, up, l))

  -- ---- narrowing: `at` is not past the dot, and what lies `count` behind it is

  module _ (at count half : ℕ) (e : half ≡ count / 2) (more : 1 < count) (n : Narrowed es dot at count) where
    pub narrowed-turn : (at' : ℕ) → at' ≡ cond (leb (get_or es (at + half) 0) dot) (at + half) at → Narrowed es dot at' (count - half)
    narrowed-turn at' p =
        let twice : half + half ≤ count = omega (arith, e) in
        let w = n.within in
        ⊎_elim
        (λ (l : dot < get_or es (at + half) 0).
        let q : at' ≡ at = p ∙ ap (λ (b : Bool). cond b (at + half) at) (lt-leb (get_or es (at + half) 0) dot l) in
        rw q
        (record {
          some = omega (arith, twice);
          within = omega (arith, w);
          reached = n.reached;
          past = λ (h : at + (count - half) < length es).
              let up = rises es f (at + half) (at + (count - half)) (omega (arith, twice)) h in omega (arith, up, l);
        }))
        (λ (l : get_or es (at + half) 0 ≤ dot).
        let q : at' ≡ at + half = p ∙ ap (λ (b : Bool). cond b (at + half) at) (le-leb (get_or es (at + half) 0) dot l) in
        let same : (at + half) + (count - half) ≡ at + count = omega (arith, twice) in
        rw q (record { some = omega (arith, twice); within = rw same w; reached = l; past = rw same n.past }))
        (lt-or-ge dot (get_or es (at + half) 0))

  -- ---- the lookup: the last edge that is not past the dot is a track's, or the total

  module _ (last : ℕ) (u : LastUpTo es dot last) where
    pub lookup-last : (found : Option ℕ) → found ≡ then_some (ltb last (length es - 1)) last → lookup_told (Ok found) ≡ lookup_call es dot
    unfolding lookup_call
    lookup-last found e =
        let w = u.within in
        ⊎_elim
        (λ (h : last < length es - 1). let n : last + 1 < length es = omega arith in rw (e, lt-ltb last (length es - 1) h, f, scan-found last n u.reached (u.past n)))
        (λ (h : length es - 1 ≤ last). let n : last + 1 ≡ length es = omega (arith, w) in rw (e, le-ltb last (length es - 1) h, f, scan-none last n u.reached))
        (lt-or-ge last (length es - 1))

-- a list that is refused
pub lookup-unsorted : (es : List ℕ) (dot number place : ℕ) → fault number place ≡ edges_fault es → lookup_refused number place ≡ lookup_call es dot
unfolding lookup_call
lookup-unsorted es dot number place e = rw (← e)
