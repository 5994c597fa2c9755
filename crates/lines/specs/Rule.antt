-- Sizing in dots: steps 1 to 7 and the board they give. This page follows the build paper's 'Sizing in dots' paragraph by
-- paragraph; the fill is the fill's own rule, and the share by factor and the fr search have their pages beside this one. It assumes
-- nothing of the code and it computes. What the letters call kinds 1 to 6 are the sheet's tags.
use Rattle.std.specs.Prelude.{ℕ, ◌+◌, ◌-◌, ◌*◌, ◌/◌, min, max, Bool, true, false, cond, not, ◌&&◌, ◌||◌, ltb, eqb, length, get_or, take, drop, replicate, ℤ, Option, Some, None}
use mathlib.Core.List.{List, [], ◌∷◌, ◌++◌, map, zip_with, flat_map}
use Rattle.std.proofs.Math.IntN.{sub_ℕ}
use Rattle.laws.specs.Lists.{among, up_from, keep, some, every, change_at, in_turn, larger_from}
use Rattle.laws.specs.Sums.{sum}
use Rattle.rounds.specs.Rule.{Room, up_to, no_limit, Fill, fill, gains_of}
use Rattle.rounds.specs.Rule as fill
use Rattle.kinds.specs.Kinds.{minimum_tag, maximum_tag, maximum_number, kind_index, amount_at, Amount}
use Rattle.kinds.specs.declared.constraint.Constraint.{Constraint}
use Rattle.kinds.specs.declared.constraint.Constraint.TheVariants.{Definite, MinContent, MaxContent}
use Rattle.kinds.specs.declared.track.Minimum.{Minimum}
use Rattle.kinds.specs.declared.track.Minimum.TheVariants as minimum
use Rattle.kinds.specs.declared.track.Maximum.{Maximum}
use Rattle.kinds.specs.declared.track.Maximum.TheVariants as maximum
use Rattle.kinds.specs.declared.track.Track.{Track}
use Rattle.kinds.specs.declared.item.ContributionKind.{ContributionKind}
use Rattle.kinds.specs.declared.item.ContributionKind.TheVariants as kind
use Rattle.kinds.specs.declared.item.Item.{Item}
use Rattle.spanned.specs.Rule.{is_fr, is_measured}
use Rattle.lines.specs.declared.line.Line.{Line}
use Rattle.lines.specs.declared.measured.Measured.{Measured}
use Rattle.lines.specs.declared.fr.Fr.{Fr}
use Rattle.lines.specs.ByFactor.{share_by_factor}
use Rattle.lines.specs.Fr.{fr_of, no_fr, larger_fr, Flex, search}

-- ---- Lines: a track at work has a base size and a growth limit, and its limit may be infinitely growable

-- a growth limit is so many dots, or none, which is a case of its own and no number
abbrev pub Limit : Type 0
Limit = Option ℕ

abbrev pub line : Track → ℕ → Limit → Bool → Line
line track base limit growable = record { track = track; base = base; limit = limit; growable = growable }

abbrev pub with_base : Line → ℕ → Line
with_base l base = line l.track base l.limit l.growable

abbrev pub with_limit : Line → Limit → Line
with_limit l limit = line l.track l.base limit l.growable

-- its minimum kind, or its maximum kind, is one of these
abbrev pub min_in : List ℕ → Line → Bool
min_in kinds l = among kinds (minimum_tag l.track.minimum)

abbrev pub max_in : List ℕ → Line → Bool
max_in kinds l = among kinds (maximum_tag l.track.maximum)

-- the number of its maximum: a size, an argument, or a factor in thousandths
abbrev pub number : Line → ℕ
number l = maximum_number l.track.maximum

-- the argument of a fit-content maximum, else none
abbrev pub argument_of : Maximum → Limit
argument_of (maximum.Fixed n) = None
argument_of maximum.Auto = None
argument_of maximum.MinContent = None
argument_of maximum.MaxContent = None
argument_of (maximum.FitContent n) = Some n
argument_of (maximum.Fr n) = None

abbrev pub argument : Line → Limit
argument l = argument_of l.track.maximum

abbrev pub is_none : Limit → Bool
is_none None = true
is_none (Some n) = false

-- a size cut to a limit, and a limit cut to another
abbrev pub cut : Limit → ℕ → ℕ
cut None n = n
cut (Some m) n = min m n

abbrev pub cut_limit : Limit → Limit → Limit
cut_limit limit None = limit
cut_limit limit (Some n) = Some (cut limit n)

-- the room from a size up to a limit, at least 0
abbrev pub room_to : Limit → ℕ → Room
room_to None size = no_limit
room_to (Some n) size = up_to (n - size)

-- a limit as a size: none counts as base
abbrev pub or_base : Limit → ℕ → ℕ
or_base None base = base
or_base (Some n) base = n

abbrev pub limit_size : Line → ℕ
limit_size l = or_base l.limit l.base

unfoldable pub bases : List Line → ℕ
bases ls = sum (map (λ (l : Line). l.base) ls)

-- ---- Items: those that are measured take part, with the row of three contributions that refusal 9 makes sure of

-- the contribution of a kind
abbrev pub contribution_at : Measured → ContributionKind → ℕ
contribution_at i k = get_or i.row (kind_index k) 0

abbrev pub complete_of : ℕ → ℕ → Amount → Amount → Amount → List Measured
complete_of start span (Some a) (Some b) (Some c) = record { start = start; span = span; row = a ∷ b ∷ c ∷ [] } ∷ []
complete_of start span (Some a) (Some b) None = []
complete_of start span (Some a) None third = []
complete_of start span None second third = []

abbrev pub complete : Item → List Measured
complete i = complete_of i.start i.span (amount_at i kind.Minimum) (amount_at i kind.MinContent) (amount_at i kind.MaxContent)

unfoldable pub measured_items : List Track → List Item → List Measured
measured_items ts is = flat_map complete (keep (is_measured ts) is)

-- the tracks, or the lines, that it spans
abbrev pub spanned : {A : Type 0} → Measured → List A → List A
spanned i ts = take i.span (drop i.start ts)

abbrev pub on_fr : List Track → Measured → Bool
on_fr ts i = some is_fr (spanned i ts)

-- ---- 1. Start

abbrev pub start_base : Minimum → ℕ
start_base (minimum.Fixed n) = n
start_base minimum.Auto = 0
start_base minimum.MinContent = 0
start_base minimum.MaxContent = 0

abbrev pub start_limit : Maximum → Limit
start_limit (maximum.Fixed n) = Some n
start_limit maximum.Auto = None
start_limit maximum.MinContent = None
start_limit maximum.MaxContent = None
start_limit (maximum.FitContent n) = None
start_limit (maximum.Fr n) = None

-- a limit below base becomes base
abbrev pub at_least : ℕ → Limit → Limit
at_least base None = None
at_least base (Some n) = Some (max base n)

abbrev pub settled : Line → Line
settled l = with_limit l (at_least l.base l.limit)

abbrev pub start_line : Track → Line
start_line t = settled (line t (start_base t.minimum) (start_limit t.maximum) false)

unfoldable pub start : List Track → List Line
start ts = map start_line ts

-- ---- 2. Items in one track, not fr

-- the sum of the spanned maxima when all are fixed or fit-content
abbrev pub maxima : List Line → Limit
maxima ls = cond (every (max_in (1 ∷ 5 ∷ [])) ls) (Some (sum (map number ls))) None

-- limited: cut to that sum, then raised to the minimum contribution
abbrev pub limited : ℕ → Measured → List Line → ℕ
limited n i ls = max (contribution_at i kind.Minimum) (cut (maxima ls) n)

-- for auto: the minimum contribution, or under a min- or max-content constraint the limited min-content one
abbrev pub for_auto : Constraint → Measured → List Line → ℕ
for_auto (Definite n) i ls = contribution_at i kind.Minimum
for_auto MinContent i ls = limited (contribution_at i kind.MinContent) i ls
for_auto MaxContent i ls = limited (contribution_at i kind.MinContent) i ls

-- what an item asks of its track's base, by minimum kind
abbrev pub base_asked : Constraint → Measured → Line → Minimum → ℕ
base_asked c i l (minimum.Fixed n) = 0
base_asked c i l minimum.Auto = for_auto c i (l ∷ [])
base_asked c i l minimum.MinContent = contribution_at i kind.MinContent
base_asked c i l minimum.MaxContent = contribution_at i kind.MaxContent

-- the larger of a limit and a number; none gives way
abbrev pub limit_with : ℕ → Limit → Limit
limit_with n None = Some n
limit_with n (Some m) = Some (max n m)

-- what an item makes of its track's limit, by maximum kind
abbrev pub limit_asked : Measured → Limit → Maximum → Limit
limit_asked i limit (maximum.Fixed n) = limit
limit_asked i limit maximum.Auto = limit_with (contribution_at i kind.MaxContent) limit
limit_asked i limit maximum.MinContent = limit_with (contribution_at i kind.MinContent) limit
limit_asked i limit maximum.MaxContent = limit_with (contribution_at i kind.MaxContent) limit
limit_asked i limit (maximum.FitContent n) = limit_with (min n (contribution_at i kind.MaxContent)) limit
limit_asked i limit (maximum.Fr n) = limit

abbrev pub with_item : Constraint → Measured → Line → Line
with_item c i l = line l.track (max l.base (base_asked c i l l.track.minimum)) (limit_asked i l.limit l.track.maximum) l.growable

abbrev pub with_item_at : Constraint → Measured → List Line → List Line
with_item_at c i ls = change_at i.start (with_item c i) ls

abbrev pub in_one_track : List Track → Measured → Bool
in_one_track ts i = eqb i.span 1 && not (on_fr ts i)

-- largest by largest, then a limit below base becomes base
unfoldable pub singles : Constraint → List Measured → List Line → List Line
singles c is ls = map settled (in_turn (with_item_at c) is ls)

-- ---- 3. Longer spans

-- A lettered step: what an item contributes, the size that this is measured against, which tracks are affected, their
-- room, which of them take what remains, their room then, and what an increase makes of a line.
pub record Letter : Type 0 where
  pub contribution : Constraint → Measured → List Line → ℕ
  pub present : Line → ℕ
  pub affected : Line → Bool
  pub room : Line → Room
  pub takes : Line → Bool
  pub rest_room : Line → ℕ → Room
  pub grown : Line → ℕ → Line

-- bases: room runs up to the growth limit, cut to a fit-content argument
abbrev pub base_room : Line → Room
base_room l = room_to (cut_limit l.limit (argument l)) l.base

abbrev pub grown_base : Line → ℕ → Line
grown_base l increase = with_base l (l.base + increase)

-- a letter that raises the bases of these minima; what remains goes, without limits, to these maxima, or if none to all
abbrev pub raises_bases : (Constraint → Measured → List Line → ℕ) → List ℕ → List ℕ → (Line → ℕ → Line) → Letter
raises_bases contribution minima maxima grown =
    record {
      contribution = contribution;
      present = λ (l : Line). l.base;
      affected = min_in minima;
      room = base_room;
      takes = max_in maxima;
      rest_room = λ (l : Line) (gain : ℕ). no_limit;
      grown = grown;
    }

-- limits: those with none or infinitely growable take any amount, others have no room; a fit-content limit has room only
-- up to the larger of its argument and its present size
abbrev pub limit_room : Line → Room
limit_room l = cond (is_none l.limit || l.growable) (room_to (argument l) (limit_size l)) (up_to 0)

-- a limit of none becomes base plus increase if the increase is above 0
abbrev pub limit_plus : ℕ → ℕ → Limit → Limit
limit_plus base increase None = cond (ltb 0 increase) (Some (base + increase)) None
limit_plus base increase (Some n) = Some (n + increase)

-- where the letter marks, a limit that went from none to a number is infinitely growable
abbrev pub grown_limit : Bool → Line → ℕ → Line
grown_limit marks l increase = line l.track l.base (limit_plus l.base increase l.limit) (marks && (is_none l.limit && ltb 0 increase))

-- a letter that raises the limits of these maxima; if dots remain all affected share them
abbrev pub raises_limits : Bool → (Measured → ℕ) → List ℕ → Letter
raises_limits marks contribution maxima =
    record {
      contribution = λ (c : Constraint) (i : Measured) (on : List Line). contribution i;
      present = limit_size;
      affected = max_in maxima;
      room = limit_room;
      takes = λ (l : Line). true;
      rest_room = λ (l : Line) (gain : ℕ). room_to (argument l) (limit_size l + gain);
      grown = grown_limit marks;
    }

-- (a) intrinsic minima, contributions as for auto in 2
abbrev pub letter_a : Letter
letter_a = raises_bases for_auto (2 ∷ 3 ∷ 4 ∷ []) (2 ∷ 3 ∷ 4 ∷ []) grown_base

-- (b) minima 3 and 4, min-content
abbrev pub letter_b : Letter
letter_b = raises_bases (λ (c : Constraint) (i : Measured) (on : List Line). contribution_at i kind.MinContent) (3 ∷ 4 ∷ []) (2 ∷ 3 ∷ 4 ∷ []) grown_base

-- (c) minima 2 and 4, limited max-content
abbrev pub letter_c : Letter
letter_c = raises_bases (λ (c : Constraint) (i : Measured). limited (contribution_at i kind.MaxContent) i) (2 ∷ 4 ∷ []) (2 ∷ 4 ∷ []) grown_base

-- (d) minimum 4, max-content; then limit below base becomes base
abbrev pub letter_d : Letter
letter_d =
    raises_bases (λ (c : Constraint) (i : Measured) (on : List Line). contribution_at i kind.MaxContent) (4 ∷ []) (2 ∷ 4 ∷ [])
    (λ (l : Line) (increase : ℕ). settled (grown_base l increase))

-- (e) limits of intrinsic maxima, min-content; it marks
abbrev pub letter_e : Letter
letter_e = raises_limits true (λ (i : Measured). contribution_at i kind.MinContent) (2 ∷ 3 ∷ 4 ∷ 5 ∷ [])

-- (f) limits of maxima 2, 4, 5, max-content; no mark outlives it
abbrev pub letter_f : Letter
letter_f = raises_limits false (λ (i : Measured). contribution_at i kind.MaxContent) (2 ∷ 4 ∷ 5 ∷ [])

-- (a) to (d), which raise bases: (c) under max-content only
abbrev pub base_letters : Constraint → List Letter
base_letters (Definite n) = letter_a ∷ letter_b ∷ letter_d ∷ []
base_letters MinContent = letter_a ∷ letter_b ∷ letter_d ∷ []
base_letters MaxContent = letter_a ∷ letter_b ∷ letter_c ∷ letter_d ∷ []

-- and then (e) and (f), which raise limits
abbrev pub letters : Constraint → List Letter
letters c = base_letters c ++ (letter_e ∷ letter_f ∷ [])

-- a track in a fill
abbrev pub in_fill : Bool → Room → fill.Track
in_fill affected room = record { affected = affected; room = room; gain = 0 }

-- the first share: affected tracks, each with its room
abbrev pub first_track : Letter → Line → fill.Track
first_track letter l = in_fill (letter.affected l) (letter.room l)

-- what remains goes to the affected tracks that take it, or if there are none to all affected; a track has its gain already
abbrev pub takes_rest : Letter → List Line → Line → Bool
takes_rest letter on l = letter.affected l && (letter.takes l || not (some (λ (k : Line). letter.affected k && letter.takes k) on))

abbrev pub rest_track : Letter → List Line → Line → ℕ → fill.Track
rest_track letter on l gain = in_fill (takes_rest letter on l) (letter.rest_room l gain)

-- the gains after a fill, on top of those before it
abbrev pub more_gains : List ℕ → Fill → List ℕ
more_gains gains f = zip_with ◌+◌ gains (gains_of f.tracks)

abbrev pub share_rest : Letter → List Line → List ℕ → ℕ → List ℕ
share_rest letter on gains left = more_gains gains (fill left (zip_with (rest_track letter on) on gains))

unfoldable pub shares : Letter → ℕ → List Line → List ℕ
shares letter extra on =
    share_rest letter on (gains_of (fill extra (map (first_track letter) on)).tracks) (fill extra (map (first_track letter) on)).left

-- per item, extra = contribution minus the spanned sizes, at least 0
abbrev pub extra_of : Letter → Constraint → Measured → List Line → ℕ
extra_of letter c i on = letter.contribution c i on - sum (map letter.present on)

-- how a batch shares the extra dots among the lines that an item spans
abbrev pub Sharing : Type 0
Sharing = Letter → ℕ → List Line → List ℕ

unfoldable pub gains_by : Sharing → Letter → Constraint → Measured → List Line → List ℕ
gains_by share letter c i on = share letter (extra_of letter c i on) on

-- each track's increase is the largest any one item gave it
abbrev pub increased_by : Sharing → Letter → Constraint → List Line → Measured → List ℕ → List ℕ
increased_by share letter c ls i = larger_from i.start (gains_by share letter c i (spanned i ls))

unfoldable pub increases : Sharing → Letter → Constraint → List Measured → List Line → List ℕ
increases share letter c batch ls = in_turn (increased_by share letter c ls) batch (replicate (length ls) 0)

-- increases are applied at the end of each lettered step
unfoldable pub raise : Sharing → Constraint → List Measured → Letter → List Line → List Line
raise share c batch letter ls = zip_with letter.grown ls (increases share letter c batch ls)

-- one batch, by its letters; without items it changes nothing
unfoldable pub batched : Sharing → List Letter → Constraint → List Measured → List Line → List Line
batched share steps c [] ls = ls
batched share steps c (i ∷ is) ls = in_turn (raise share c (i ∷ is)) steps ls

-- batch by batch in rising span
abbrev pub in_span : List Track → ℕ → Measured → Bool
in_span ts n i = eqb i.span n && not (on_fr ts i)

unfoldable pub longer : Constraint → List Track → List Measured → List Line → List Line
longer c ts is ls = in_turn (λ (n : ℕ). batched shares (letters c) c (keep (in_span ts n) is)) (up_from 2 (length ts - 1)) ls

-- All items that cross an fr track form the one last batch, whatever their span. It may raise only affected fr tracks, and extra dots go by
-- factor; (e) and (f) of this batch change nothing.
abbrev pub affects_fr : Letter → Line → Bool
affects_fr letter l = letter.affected l && is_fr l.track

unfoldable pub shares_by_factor : Letter → ℕ → List Line → List ℕ
shares_by_factor letter extra on = share_by_factor extra (map (affects_fr letter) on) (map number on)

unfoldable pub last_batch : Constraint → List Track → List Measured → List Line → List Line
last_batch c ts is ls = batched shares_by_factor (base_letters c) c (keep (on_fr ts) is) ls

-- ---- 4. Missing limits become base

unfoldable pub missing : List Line → List Line
missing ls = map (λ (l : Line). with_limit l (Some (limit_size l))) ls

-- steps 1 to 4
unfoldable pub content : Constraint → List Track → List Measured → List Line
content c ts is = missing (last_batch c ts is (longer c ts is (singles c (keep (in_one_track ts) is) (start ts))))

-- ---- 5. Maximise

-- the lines after this step, and its rounds
pub record Maximised : Type 0 where
  pub lines : List Line
  pub rounds : ℕ

abbrev pub filled_lines : List Line → Fill → List Line
filled_lines ls f = zip_with grown_base ls (gains_of f.tracks)

abbrev pub filled_to : List Line → Fill → Maximised
filled_to ls f = record { lines = filled_lines ls f; rounds = f.rounds }

-- room up to the limit cut to a fit-content argument, never below 0
abbrev pub maximise_track : Line → fill.Track
maximise_track l = in_fill true (base_room l)

-- free is definite space minus bases, at least 0; min-content: 0; max-content: every base becomes its limit
unfoldable pub maximise : Constraint → List Line → Maximised
maximise (Definite n) ls = filled_to ls (fill (n - bases ls) (map maximise_track ls))
maximise MinContent ls = filled_to ls (fill 0 (map maximise_track ls))
maximise MaxContent ls = record { lines = map (λ (l : Line). with_base l (limit_size l)) ls; rounds = 0 }

-- ---- 6. Flexible, by the expansion space, of which `crates/sheet_kinds/specs/Rule.antt` says what it is

-- the fr search over these lines: all but the fr tracks are held inflexible from the start
abbrev pub flex_of : Line → Flex
flex_of l = record { size = l.base; factor = number l; held = not (is_fr l.track) }

unfoldable pub search_over : ℕ → List Line → Fr
search_over space ls = search (length ls) space (map flex_of ls)

-- base divided by the larger of factor and 1 for each fr track, the largest of them
abbrev pub base_fr : Line → Fr → Fr
base_fr l fr = larger_fr (fr_of l.base (max 1000 (number l))) fr

unfoldable pub bases_fr : List Line → Fr
bases_fr ls = in_turn base_fr (keep (λ (l : Line). is_fr l.track) ls) no_fr

-- for each item that crosses an fr track, the search over all tracks it spans, inflexible ones included, to its max-content contribution
abbrev pub item_fr : List Line → Measured → Fr → Fr
item_fr ls i fr = larger_fr (search_over (contribution_at i kind.MaxContent) (spanned i ls)) fr

unfoldable pub max_content_fr : List Track → List Measured → List Line → Fr
max_content_fr ts is ls = in_turn (item_fr ls) (keep (on_fr ts) is) (bases_fr ls)

-- min-content, or definite with free space 0 or less: no growth
unfoldable pub fr_for : Constraint → List Track → List Measured → List Line → Fr
fr_for (Definite n) ts is ls = cond (ltb (bases ls) n) (search_over n ls) no_fr
fr_for MinContent ts is ls = no_fr
fr_for MaxContent ts is ls = max_content_fr ts is ls

-- an fr track becomes the larger of base and factor times fr, rounded down
abbrev pub flexed : Fr → Line → Line
flexed fr l = with_base l (cond (is_fr l.track) (max l.base (number l * fr.dots / fr.per)) l.base)

unfoldable pub expand : Fr → List Line → List Line
expand fr ls = map (flexed fr) ls

-- ---- 7. Stretch: if asked and expansion space is definite with dots free, tracks of auto maximum share them, no limits

abbrev pub stretch_track : Line → fill.Track
stretch_track l = in_fill (max_in (2 ∷ []) l) no_limit

unfoldable pub stretched : Bool → Constraint → List Line → List Line
stretched false e ls = ls
stretched true (Definite n) ls = filled_lines ls (fill (n - bases ls) (map stretch_track ls))
stretched true MinContent ls = ls
stretched true MaxContent ls = ls

-- ---- The board

-- the signed difference between expansion space and the sum of sizes, or none if not definite
pub data FreeTold : Type 0 where
  none : FreeTold
  dots : ℤ → FreeTold

abbrev pub free_of : Constraint → List Line → FreeTold
free_of (Definite n) ls = dots (sub_ℕ n (bases ls))
free_of MinContent ls = none
free_of MaxContent ls = none

-- what is told of a track: its base and its limit
abbrev pub sizes_of : Line → List ℕ
sizes_of l = l.base ∷ limit_size l ∷ []

pub record Board : Type 0 where
  pub sizes : List (List ℕ)
  pub free : FreeTold
  pub rounds : ℕ

abbrev pub board_of : Constraint → ℕ → List Line → Board
board_of e rounds ls = record { sizes = map sizes_of ls; free = free_of e ls; rounds = rounds }

-- steps 6 and 7, in an expansion space, stretched if asked
unfoldable pub finish : (expansion : Constraint) (asked : Bool) → List Track → List Measured → List Line → List Line
finish e asked ts is ls = stretched asked e (expand (fr_for e ts is ls) ls)

-- the whole, from the constraint, the expansion space and whether to stretch; rounds are those of step 5
abbrev pub board_after : (expansion : Constraint) (asked : Bool) → List Track → List Measured → Maximised → Board
board_after e asked ts is m = board_of e m.rounds (finish e asked ts is m.lines)

unfoldable pub size : (constraint expansion : Constraint) (asked : Bool) → List Track → List Item → Board
size c e asked ts is = board_after e asked ts (measured_items ts is) (maximise c (content c ts (measured_items ts is)))
