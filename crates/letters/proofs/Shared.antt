-- A share is a fill of tracks before their first round, and the two shares of a letter are the rule's. Assumes nothing.
use mathlib.Core.Path.{◌≡◌, refl, sym, ap, ap₂, ◌∙◌}
use mathlib.Core.Bool.{Bool, true, false, cond}
use mathlib.Core.List.{List, [], ◌∷◌, map, zip_with}
use Prim.Native.Nat.{ℕ, zero, suc, ◌+◌, ◌-◌, ◌≤◌, zero-le}
use native.Mathlib.Nat.{zero-add}
use native.Mathlib.Omega.{arith}
use lib.ListN.{length, get_or, replicate}
use Rattle.laws.specs.Lists.{some, All}
use Rattle.laws.specs.Alls.{image-all}
use Rattle.laws.specs.Marks.{bit}
use Rattle.rounds.specs.Rule.{most_dots, gains_of, Fill, fill}
use Rattle.rounds.specs.Rule as fill
use Rattle.rounds.specs.Rests.{cap_in, cap_of, caps, take_each, take_marked, lost, State, state_of, fill_rests}
use Rattle.rounds.proofs.OpenMarks.{Among, one, odd-among}
use Rattle.rounds.proofs.Level.{fill-level}
use Rattle.rounds.proofs.Tied.{Fresh}
use Rattle.rounds.proofs.Fresh.{gain-add-left-le, lost-is-gains, left-is-left, rounds-are-rounds}
use Rattle.kinds.specs.Kinds.{maximum_number, amount_number}
use Rattle.kinds.specs.declared.track.Maximum.{Maximum}
use Rattle.kinds.specs.declared.track.Maximum.TheVariants as maximum
use Rattle.spanned.specs.Rule.{most_size}
use Rattle.spanned.specs.Sound.{most_of}
use Rattle.std.specs.Prelude.{Some, None}
use Rattle.lines.specs.declared.line.Line.{Line}
use Rattle.lines.specs.Rule.{Limit, argument_of, argument, room_to, limit_size, first_track, more_gains, shares}
use Rattle.lines.specs.Rule as rule
use Rattle.lines.specs.Fits.{LineFits}
use Rattle.letters.specs.declared.letter.Letter.{Letter}
use Rattle.letters.specs.declared.letter.Letter.TheVariants.{A, B, C, D, E, F}
use Rattle.letters.specs.declared.share.Share.{Share}
use Rattle.letters.specs.declared.share.Share.TheVariants.{Maximise, Stretch, Plain}
use Rattle.letters.specs.Letters.{letter_of, most}
use Rattle.letters.specs.Shares.{track_in, share_track, share_tracks, is_taker, rest_of, rest_tracks}

-- ---- tracks before their first round

pub zip-fresh : (f : Line → ℕ → fill.Track) → ((l : Line) (g : ℕ) → (f l g).gain ≡ 0) → (ls : List Line) (gains : List ℕ) → Fresh (zip_with f ls gains)
unfolding zip_with All
zip-fresh f z [] gains = tt
zip-fresh f z (l ∷ ls) [] = tt
zip-fresh f z (l ∷ ls) (g ∷ gains) = (z l g, zip-fresh f z ls gains)

share-gain : (share : Share) (l : Line) (g : ℕ) → (share_track share l g).gain ≡ 0
share-gain Maximise l g = refl
share-gain Stretch l g = refl
share-gain (Plain letter) l g = refl

pub share-fresh : (share : Share) (ls : List Line) (gains : List ℕ) → Fresh (share_tracks share ls gains)
unfolding share_tracks
share-fresh share ls gains = zip-fresh (share_track share) (share-gain share) ls gains

-- each line has its track, whatever its gain
share-is-map : (share : Share) (ls : List Line) (gains : List ℕ) → length gains ≡ length ls → share_tracks share ls gains ≡ map (track_in share) ls
unfolding share_tracks zip_with
share-is-map share [] gains e = refl
share-is-map share (l ∷ ls) [] e = absurd (omega arith)
share-is-map share (l ∷ ls) (g ∷ gains) e = ap (track_in share l ∷◌) (share-is-map share ls gains (omega arith))

-- so the caps of the lines are those of the share
pub share-caps : (share : Share) (dots : ℕ) (lines : List Line) (gains rs : List ℕ) → length gains ≡ length lines
    → rs ≡ caps dots (map (track_in share) lines) → rs ≡ caps dots (share_tracks share lines gains)
share-caps share dots lines gains rs long loaded = loaded ∙ ap (caps dots) (sym (share-is-map share lines gains long))

-- ---- one share: the rests rs are loaded, the rounds leave xs of them, and what they lost is gained

module _ (share : Share) (dots : ℕ) (ls : List Line) (gains rs xs : List ℕ) (left rounds : ℕ)
    (loaded : rs ≡ caps dots (share_tracks share ls gains)) (ran : fill_rests dots rs ≡ state_of xs left rounds) where
  filled : fill_rests dots (caps dots (share_tracks share ls gains)) ≡ state_of xs left rounds
  filled = ap (fill_rests dots) (sym loaded) ∙ ran

  shared-lost : lost (caps dots (share_tracks share ls gains)) xs ≡ gains_of (fill dots (share_tracks share ls gains)).tracks
  shared-lost = lost-is-gains dots (share_tracks share ls gains) (share-fresh share ls gains) xs left rounds filled

  -- a gain on top of another is within 32 bits
  pub shared-fits : dots ≤ most_dots → ((i : ℕ) → get_or gains i 0 ≤ most_dots)
      → (i : ℕ) → get_or gains i 0 + get_or (lost (caps dots (share_tracks share ls gains)) xs) i 0 ≤ most
  shared-fits d g i =
      let e : get_or (lost (caps dots (share_tracks share ls gains)) xs) i 0 ≡ get_or (gains_of (fill dots (share_tracks share ls gains)).tracks) i 0 = ap (λ (ys : List ℕ). get_or ys i 0) shared-lost in
      let h = gain-add-left-le dots (share_tracks share ls gains) (share-fresh share ls gains) i in
      let k = g i in
      omega arith

  pub shared : (gs : List ℕ) → gs ≡ zip_with ◌+◌ gains (lost (caps dots (share_tracks share ls gains)) xs)
      → (gs ≡ more_gains gains (fill dots (share_tracks share ls gains)))
      × (left ≡ (fill dots (share_tracks share ls gains)).left)
      × (rounds ≡ (fill dots (share_tracks share ls gains)).rounds)
  shared gs e = (
    e ∙ ap (zip_with ◌+◌ gains) shared-lost,
    left-is-left dots (share_tracks share ls gains) (share-fresh share ls gains) xs left rounds filled,
    rounds-are-rounds dots (share_tracks share ls gains) (share-fresh share ls gains) xs left rounds filled,
  )

-- ---- a share on top of no gains

-- as many as there are of something else
pub zeros-as : {m n : ℕ} {zs : List ℕ} → zs ≡ replicate m 0 → m ≡ n → zs ≡ replicate n 0
zeros-as z e = z ∙ ap (λ (k : ℕ). replicate k 0) e

pub zeros-more : (n : ℕ) (gs : List ℕ) → length gs ≡ n → zip_with ◌+◌ (replicate n 0) gs ≡ gs
unfolding zip_with
zeros-more zero [] e = refl
zeros-more zero (g ∷ gs) e = absurd (omega arith)
zeros-more (suc n) [] e = refl
zeros-more (suc n) (g ∷ gs) e = ap₂ ◌∷◌ (zero-add g) (zeros-more n gs (omega arith))

pub tracks-of-zeros : (share : Share) (ls : List Line) → share_tracks share ls (replicate (length ls) 0) ≡ map (λ (l : Line). share_track share l 0) ls
unfolding share_tracks zip_with
tracks-of-zeros share [] = refl
tracks-of-zeros share (l ∷ ls) = ap (share_track share l 0 ∷◌) (tracks-of-zeros share ls)

-- ---- the first share of a letter

abbrev pub first_fill : rule.Letter → ℕ → List Line → Fill
first_fill letter extra ls = fill extra (map (first_track letter) ls)

pub first-fresh : (letter : rule.Letter) (ls : List Line) → Fresh (map (first_track letter) ls)
first-fresh letter ls = image-all (λ (t : fill.Track). t.gain ≡ 0) (first_track letter) (λ l. refl) ls

-- the caps cs are loaded into the rests rs as well, the rounds leave xs of these, and what they lost is gained
pub first-shared : (letter : rule.Letter) (extra : ℕ) (ls : List Line) (cs rs xs gs : List ℕ) (left rounds : ℕ)
    → cs ≡ caps extra (map (first_track letter) ls) → rs ≡ caps extra (map (first_track letter) ls)
    → fill_rests extra rs ≡ state_of xs left rounds → gs ≡ lost cs xs
    → (gs ≡ gains_of (first_fill letter extra ls).tracks) × (left ≡ (first_fill letter extra ls).left)
first-shared letter extra ls cs rs xs gs left rounds kept loaded ran taken =
    let ts = map (first_track letter) ls in
    let fresh = first-fresh letter ls in
    let filled = ap (fill_rests extra) (sym loaded) ∙ ran in (
      taken ∙ ap (λ (ys : List ℕ). lost ys xs) kept ∙ lost-is-gains extra ts fresh xs left rounds filled,
      left-is-left extra ts fresh xs left rounds filled,
    )

-- ---- what remains

pub rest-fresh : (letter : rule.Letter) (takers_only : Bool) (ls : List Line) (gains : List ℕ) → Fresh (rest_tracks letter takers_only ls gains)
unfolding rest_tracks
rest-fresh letter takers_only ls gains = zip-fresh (rest_of letter takers_only) (λ l g. refl) ls gains

-- a rest is within its cap, so it can be taken off the gain that has the cap on top
taken-off : (level : ℕ) (gains cs : List ℕ) {ms : List Bool} → Among ms (take_each level cs)
    → lost (zip_with ◌+◌ gains cs) (take_marked ms (take_each level cs)) ≡ zip_with ◌+◌ gains (lost cs (take_marked ms (take_each level cs)))
unfolding zip_with lost take_marked take_each
taken-off level [] cs a = refl
taken-off level (g ∷ gains) [] a = refl
taken-off level (g ∷ gains) (c ∷ cs) (one {m = m} h a) =
    let e : g + c - (c - level - bit m) ≡ g + (c - (c - level - bit m)) = omega arith in
    ap₂ ◌∷◌ e (taken-off level gains cs a)

filled_off : (dots : ℕ) (gains cs xs : List ℕ) (left rounds : ℕ) → fill_rests dots cs ≡ state_of xs left rounds
    → lost (zip_with ◌+◌ gains cs) xs ≡ zip_with ◌+◌ gains (lost cs xs)
filled_off dots gains cs xs left rounds ran =
    let v = fill-level dots cs in
    let is = ap (λ (s : State). s.rests) (sym ran) ∙ v.is in
    rw is (taken-off v.level gains cs (odd-among v.odd (take_each v.level cs)))

-- the caps are loaded into the rests rs and on top of the gains, which are then cs; the rounds leave xs of the rests, and these
-- are taken off
pub rest-shared : (letter : rule.Letter) (takers_only : Bool) (dots : ℕ) (ls : List Line) (gains cs rs xs gs : List ℕ) (left rounds : ℕ)
    → cs ≡ zip_with ◌+◌ gains (caps dots (rest_tracks letter takers_only ls gains)) → rs ≡ caps dots (rest_tracks letter takers_only ls gains)
    → fill_rests dots rs ≡ state_of xs left rounds → gs ≡ lost cs xs
    → gs ≡ more_gains gains (fill dots (rest_tracks letter takers_only ls gains))
rest-shared letter takers_only dots ls gains cs rs xs gs left rounds kept loaded ran taken =
    let ts = rest_tracks letter takers_only ls gains in
    let filled = ap (fill_rests dots) (sym loaded) ∙ ran in
    taken
    ∙ ap (λ (ys : List ℕ). lost ys xs) kept
    ∙ filled_off dots gains (caps dots ts) xs left rounds filled
    ∙ ap (zip_with ◌+◌ gains) (lost-is-gains dots ts (rest-fresh letter takers_only ls gains) xs left rounds filled)

-- no cap is above the most dots: an argument is a size
argument-le : (m : Maximum) → maximum_number m ≤ most_of m → amount_number (argument_of m) ≤ most_size
argument-le (maximum.Fixed n) h = zero-le
argument-le maximum.Auto h = zero-le
argument-le maximum.MinContent h = zero-le
argument-le maximum.MaxContent h = zero-le
argument-le (maximum.FitContent n) h = h
argument-le (maximum.Fr n) h = zero-le

room-le : (dots size : ℕ) (limit : Limit) → dots ≤ most_dots → amount_number limit ≤ most_size → cap_in dots (room_to limit size) ≤ most_dots
room-le dots size None d h = d
room-le dots size (Some n) d h = omega arith

rest-room-le : (letter : Letter) (dots gain : ℕ) (l : Line) → dots ≤ most_dots → LineFits l → cap_in dots ((letter_of letter).rest_room l gain) ≤ most_dots
rest-room-le A dots gain l d f = d
rest-room-le B dots gain l d f = d
rest-room-le C dots gain l d f = d
rest-room-le D dots gain l d f = d
rest-room-le E dots gain l d f = room-le dots (limit_size l + gain) (argument l) d (argument-le l.track.maximum f.track.1)
rest-room-le F dots gain l d f = room-le dots (limit_size l + gain) (argument l) d (argument-le l.track.maximum f.track.1)

cond-le : (b : Bool) (n k : ℕ) → n ≤ k → cond b n 0 ≤ k
cond-le true n k h = h
cond-le false n k h = zero-le

pub rest-cap-le : (letter : Letter) (takers_only : Bool) (dots gain : ℕ) (l : Line) → dots ≤ most_dots → LineFits l
    → cap_of dots (rest_of (letter_of letter) takers_only l gain) ≤ most_dots
rest-cap-le letter takers_only dots gain l d f =
    let t = rest_of (letter_of letter) takers_only l gain in
    cond-le t.affected (cap_in dots t.room) most_dots (rest-room-le letter dots gain l d f)

-- ---- both shares of a letter

module _ (letter : Letter) (extra : ℕ) (ls : List Line) (gs : List ℕ) (left : ℕ)
    (first : (gs ≡ gains_of (first_fill (letter_of letter) extra ls).tracks) × (left ≡ (first_fill (letter_of letter) extra ls).left)) where
  -- a gain of the first share, and what is left of it, are no more than the dots
  pub first-le : (i : ℕ) → get_or gs i 0 + left ≤ extra
  first-le i = rw (first.0, first.1) (gain-add-left-le extra (map (first_track (letter_of letter)) ls) (first-fresh (letter_of letter) ls) i)

  pub both-shares : (takers_only : Bool) (hs : List ℕ) → takers_only ≡ some (is_taker (letter_of letter)) ls → hs ≡ more_gains gs (fill left (rest_tracks (letter_of letter) takers_only ls gs))
      → hs ≡ shares (letter_of letter) extra ls
  unfolding shares rest_tracks
  both-shares takers_only hs n e =
      e
      ∙ ap (λ (b : Bool). more_gains gs (fill left (rest_tracks (letter_of letter) b ls gs))) n
      ∙ ap₂ (λ (ys : List ℕ) (d : ℕ). more_gains ys (fill d (rest_tracks (letter_of letter) (some (is_taker (letter_of letter)) ls) ls ys))) first.0 first.1
