-- Shares that give nothing: there are no dots, or no line is affected. Assumes nothing.
use mathlib.Core.Path.{◌≡◌, refl, sym, ap, ap₂, ◌∙◌}
use mathlib.Core.Bool.{Bool, true, false, ◌||◌, and-false, true≢false}
use mathlib.Core.List.{List, [], ◌∷◌, map, zip_with}
use Prim.Native.Nat.{ℕ, ◌+◌}
use native.Mathlib.Nat.{add-zero}
use lib.Dec.{ltb}
use lib.ListN.{length, replicate, length-map}
use Rattle.laws.specs.Lists.{some, All, length-zip}
use Rattle.laws.specs.Marks.{number}
use Rattle.laws.specs.Runs.{runs-stop}
use Rattle.rounds.specs.Rule.{Track, gains_of, opens, more, round, Fill, fill_of, fill}
use Rattle.rounds.proofs.Tied.{Fresh}
use Rattle.rounds.proofs.Fresh.{length-gains}
use Rattle.lines.specs.declared.line.Line.{Line}
use Rattle.lines.specs.Rule.{first_track, rest_track, more_gains, share_rest, shares}
use Rattle.lines.specs.Rule as rule
use Rattle.letters.proofs.Shared.{first_fill, first-fresh, zip-fresh}

-- ---- a fill without a round

more-zeros : (gains : List ℕ) → zip_with ◌+◌ gains (replicate (length gains) 0) ≡ gains
unfolding zip_with
more-zeros [] = refl
more-zeros (g ∷ gains) = ap₂ ◌∷◌ (add-zero g) (more-zeros gains)

fresh-gains : (ts : List Track) → Fresh ts → gains_of ts ≡ replicate (length ts) 0
unfolding gains_of All
fresh-gains [] f = refl
fresh-gains (t ∷ ts) f = ap₂ ◌∷◌ f.0 (fresh-gains ts f.1)

module _ (dots : ℕ) (ts : List Track) (f : Fresh ts) (idle : more (fill_of ts dots 0) ≡ false) where
  idle-fill : fill dots ts ≡ fill_of ts dots 0
  unfolding fill
  idle-fill = runs-stop more round dots (fill_of ts dots 0) idle

  idle-gains : gains_of (fill dots ts).tracks ≡ replicate (length ts) 0
  idle-gains = ap (λ (s : Fill). gains_of s.tracks) idle-fill ∙ fresh-gains ts f

  idle-more : (gains : List ℕ) → length ts ≡ length gains → more_gains gains (fill dots ts) ≡ gains
  idle-more gains e = ap (zip_with ◌+◌ gains) (idle-gains ∙ ap (λ (n : ℕ). replicate n 0) e) ∙ more-zeros gains

-- without dots there is no round
no-dots : (ts : List Track) → more (fill_of ts 0 0) ≡ false
unfolding more
no-dots ts = refl

-- ---- tracks that are not affected

abbrev Unaffected : List Track → Type 0
Unaffected = All (λ (t : Track). t.affected ≡ false)

none_open : (ts : List Track) → Unaffected ts → number (opens ts) ≡ 0
unfolding number opens All
none_open [] u = refl
none_open (t ∷ ts) u = rw (u.0, none_open ts u.1) refl

unaffected-idle : (dots : ℕ) (ts : List Track) → Unaffected ts → more (fill_of ts dots 0) ≡ false
unfolding more
unaffected-idle dots ts u = rw (none_open ts u) (and-false (ltb 0 dots))

-- two marks that are both off
pub or-neither : (a b : Bool) → (a || b) ≡ false → (a ≡ false) × (b ≡ false)
or-neither false b e = (refl, e)
or-neither true b e = absurd (true≢false e)

-- ---- the shares of a letter

module _ (letter : rule.Letter) where
  pub length-first : (extra : ℕ) (ls : List Line) → length (gains_of (first_fill letter extra ls).tracks) ≡ length ls
  length-first extra ls = length-gains extra (map (first_track letter) ls) (first-fresh letter ls) ∙ length-map ls (first_track letter)

  -- what remains is shared without a round
  idle-rest : (left : ℕ) (ls : List Line) (gs : List ℕ) → length gs ≡ length ls
      → more (fill_of (zip_with (rest_track letter ls) ls gs) left 0) ≡ false → share_rest letter ls gs left ≡ gs
  idle-rest left ls gs long idle =
      idle-more left (zip_with (rest_track letter ls) ls gs) (zip-fresh (rest_track letter ls) (λ (l : Line) (g : ℕ). refl) ls gs) idle gs
      (length-zip (rest_track letter ls) ls gs long ∙ sym long)

  -- nothing remains: the first share is all
  pub first_alone : (extra : ℕ) (ls : List Line) (gs : List ℕ) (left : ℕ)
      → (gs ≡ gains_of (first_fill letter extra ls).tracks) × (left ≡ (first_fill letter extra ls).left) → left ≡ 0
      → gs ≡ shares letter extra ls
  unfolding shares
  first_alone extra ls gs left first none =
      sym (idle-rest 0 ls gs (ap length first.0 ∙ length-first extra ls) (no-dots (zip_with (rest_track letter ls) ls gs)))
      ∙ ap₂ (share_rest letter ls) first.0 (sym none ∙ first.1)

  -- neither share has a round
  idle-shares : (extra : ℕ) (ls : List Line) → more (fill_of (map (first_track letter) ls) extra 0) ≡ false
      → ((gs : List ℕ) → more (fill_of (zip_with (rest_track letter ls) ls gs) extra 0) ≡ false)
      → shares letter extra ls ≡ replicate (length ls) 0
  unfolding shares
  idle-shares extra ls first rest =
      let ts = map (first_track letter) ls in
      let gs = gains_of (first_fill letter extra ls).tracks in
      ap (share_rest letter ls gs) (ap (λ (s : Fill). s.left) (idle-fill extra ts (first-fresh letter ls) first))
      ∙ idle-rest extra ls gs (length-first extra ls) (rest gs)
      ∙ idle-gains extra ts (first-fresh letter ls) first
      ∙ ap (λ (n : ℕ). replicate n 0) (length-map ls (first_track letter))

  pub shares-none : (ls : List Line) → shares letter 0 ls ≡ replicate (length ls) 0
  shares-none ls = idle-shares 0 ls (no-dots (map (first_track letter) ls)) (λ (gs : List ℕ). no-dots (zip_with (rest_track letter ls) ls gs))

  first-unaffected : (ls : List Line) → some letter.affected ls ≡ false → Unaffected (map (first_track letter) ls)
  unfolding some All
  first-unaffected [] e = tt
  first-unaffected (l ∷ ls) e = let n = or-neither (letter.affected l) (some letter.affected ls) e in (n.0, first-unaffected ls n.1)

  rest-unaffected : (on ls : List Line) (gs : List ℕ) → some letter.affected ls ≡ false → Unaffected (zip_with (rest_track letter on) ls gs)
  unfolding some All zip_with
  rest-unaffected on [] gs e = tt
  rest-unaffected on (l ∷ ls) [] e = tt
  rest-unaffected on (l ∷ ls) (g ∷ gs) e =
      let n = or-neither (letter.affected l) (some letter.affected ls) e in
      (rw n.0 refl, rest-unaffected on ls gs n.1)

  pub shares-unaffected : (extra : ℕ) (ls : List Line) → some letter.affected ls ≡ false
      → shares letter extra ls ≡ replicate (length ls) 0
  shares-unaffected extra ls e =
      idle-shares extra ls (unaffected-idle extra _ (first-unaffected ls e))
      (λ (gs : List ℕ). unaffected-idle extra _ (rest-unaffected ls ls gs e))
