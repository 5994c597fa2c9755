-- The build paper's marked examples, W1 to W12: one table, whose claim the checker computes (proofs/Marked.antt). Assumes nothing: each row
-- is held against the published rules of the fill, of the sizing as a layout hands it its space and tracks, and of the board as
-- called with bytes.
use Rattle.std.specs.Prelude.{ℕ, Bool, true, false, ◌&&◌, eqb, ℤ, pos, negsuc, Some}
use mathlib.Core.List.{List, [], ◌∷◌, ◌++◌, flat_map, zip_with}
use Rattle.laws.specs.Marks.{number}
use Rattle.laws.specs.Runs.{runs}
use Rattle.laws.specs.Sums.{sum}
use Rattle.laws.specs.Lists.{among, up_from, keep, some, every, change_at, in_turn, larger, larger_from}
use Rattle.rounds.specs.Rule.{Room, up_to, no_limit, Track, gains_of, opens, least_room, odd_takers, hand_out, Fill, round, more, fill}
use Rattle.sheet.specs.Rule.{row_at, rows_at, record_size, tagged_fault, row_fault, records_fault, fault_from, sheet_from, sheet_fault}
use Rattle.checks.specs.Rule.{lowest, first_of, record_fault}
use Rattle.layout.specs.Rule.{BoardTold, BoardOutcome, layout_sizes, layout_call}
use Rattle.board.specs.Rule.{board_call}
use Rattle.kinds.specs.Kinds as kinds
use Rattle.kinds.specs.declared.constraint.Constraint.TheVariants.{Definite}
use Rattle.sheet_kinds.specs.declared.axis.Axis.TheVariants.{Inline}
use Rattle.sheet_kinds.specs.declared.space.Space.{Space}
use Rattle.sheet_kinds.specs.declared.track.SheetMinimum.TheVariants as minimum
use Rattle.sheet_kinds.specs.declared.track.SheetMaximum.TheVariants as maximum
use Rattle.sheet_kinds.specs.declared.track.SheetTrack.{SheetTrack}
use Rattle.sheet_kinds.specs.Kinds as sheet
use Rattle.kinds.specs.declared.item.Item.{Item}
use Rattle.lines.specs.Fr.{fr_now, search}
use Rattle.lines.specs.Rule.{FreeTold, none, dots, Board, bases, measured_items, start, singles, shares, gains_by, increases, raise, batched, longer, last_batch, missing, content, maximise, search_over, bases_fr, max_content_fr, fr_for, expand, stretched, finish, size}

-- ---- Rows of the fill

-- an affected track with this room, and one that is not affected
abbrev pub track : Room → Track
track room = record { affected = true; room = room; gain = 0 }

abbrev pub idle : Room → Track
idle room = record { affected = false; room = room; gain = 0 }

-- ---- Rows of the sizing

-- definite 100 with inner size 100, in the inline axis
abbrev pub hundred : Bool → Space
hundred stretch = sheet.space (Definite 100) (Some 100) stretch Inline

-- an fr track with this base, its factor in thousandths
abbrev pub fr_track : ℕ → ℕ → SheetTrack
fr_track base factor = sheet.sheet_track (minimum.Fixed base) (maximum.Fr factor)

abbrev pub auto_track : SheetTrack
auto_track = sheet.sheet_track minimum.Auto maximum.Auto

-- across both of two tracks
abbrev pub across : ℕ → ℕ → ℕ → Item
across a b c = kinds.item 0 2 (Some a ∷ Some b ∷ Some c ∷ [])

-- A row: a fill's dots and tracks, then the gains, the leftover and the rounds that the paper marks; or a board, then its
-- bases and its limits, the free space and the rounds; or a sheet's bytes, then the same.
pub data Example : Type 0 where
  filling : (dots : ℕ) (tracks : List Track) (gains : List ℕ) (left rounds : ℕ) → Example
  sizing : (space : Space) (tracks : List SheetTrack) (items : List Item) (sizes : List (List ℕ)) (free : ℤ) (rounds : ℕ) → Example
  board : (bytes : List ℕ) (sizes : List (List ℕ)) (free : ℤ) (rounds : ℕ) → Example

abbrev pub w1 : Example
w1 = filling 7 (track (up_to 10) ∷ track (up_to 10) ∷ track (up_to 10) ∷ []) (3 ∷ 2 ∷ 2 ∷ []) 0 2

abbrev pub w2 : Example
w2 = filling 10 (track (up_to 1) ∷ track (up_to 5) ∷ track no_limit ∷ []) (1 ∷ 5 ∷ 4 ∷ []) 0 3

abbrev pub w3 : Example
w3 = filling 9 (track (up_to 2) ∷ track (up_to 3) ∷ []) (2 ∷ 3 ∷ []) 4 2

abbrev pub w4 : Example
w4 = filling 0 (track (up_to 4) ∷ track no_limit ∷ []) (0 ∷ 0 ∷ []) 0 0

abbrev pub w5 : Example
w5 = filling 5 (idle (up_to 4) ∷ idle no_limit ∷ []) (0 ∷ 0 ∷ []) 5 0

abbrev pub w6 : Example
w6 = filling 3 (track (up_to 0) ∷ track (up_to 4) ∷ []) (0 ∷ 3 ∷ []) 0 1

abbrev pub w7 : Example
w7 = sizing (hundred false) (fr_track 0 1000 ∷ fr_track 0 2000 ∷ []) [] ((33 ∷ 0 ∷ []) ∷ (66 ∷ 0 ∷ []) ∷ []) (pos 1) 0

abbrev pub w8 : Example
w8 = sizing (hundred false) (fr_track 60 1000 ∷ fr_track 0 1000 ∷ []) [] ((60 ∷ 60 ∷ []) ∷ (40 ∷ 0 ∷ []) ∷ []) (pos 0) 0

abbrev pub w9 : Example
w9 = sizing (hundred false) (fr_track 0 500 ∷ []) [] ((50 ∷ 0 ∷ []) ∷ []) (pos 50) 0

abbrev pub w10 : Example
w10 = sizing (hundred false) (auto_track ∷ auto_track ∷ []) (across 11 11 20 ∷ []) ((11 ∷ 11 ∷ []) ∷ (9 ∷ 9 ∷ []) ∷ []) (pos 80) 2

abbrev pub w11 : Example
w11 = sizing (hundred true) (auto_track ∷ auto_track ∷ []) (across 11 11 20 ∷ []) ((51 ∷ 11 ∷ []) ∷ (49 ∷ 9 ∷ []) ∷ []) (pos 0) 2

-- the 47 bytes: the space, a track whose minimum is auto and whose maximum is fixed at 0, and an item of 30, 30, 30
abbrev pub w12 : Example
w12 =
    board
    (1 ∷ 0 ∷ 1 ∷ 100 ∷ 0 ∷ 0 ∷ 0 ∷ 1 ∷ 100 ∷ 0 ∷ 0 ∷ 0 ∷ 0 ∷ 0 ∷ 1 ∷ 0 ∷ 2 ∷ 0 ∷ 0 ∷ 0 ∷ 0 ∷ 1 ∷ 0 ∷ 0 ∷ 0 ∷ 0
    ∷ 1 ∷ 0 ∷ 0 ∷ 0 ∷ 1 ∷ 0 ∷ 1 ∷ 30 ∷ 0 ∷ 0 ∷ 0 ∷ 1 ∷ 30 ∷ 0 ∷ 0 ∷ 0 ∷ 1 ∷ 30 ∷ 0 ∷ 0 ∷ 0 ∷ [])
    ((30 ∷ 30 ∷ []) ∷ [])
    (pos 70)
    0

abbrev pub table : List Example
table = w1 ∷ w2 ∷ w3 ∷ w4 ∷ w5 ∷ w6 ∷ w7 ∷ w8 ∷ w9 ∷ w10 ∷ w11 ∷ w12 ∷ []

-- ---- Whether a row holds

abbrev pub same_numbers : List ℕ → List ℕ → Bool
same_numbers [] [] = true
same_numbers [] (y ∷ ys) = false
same_numbers (x ∷ xs) [] = false
same_numbers (x ∷ xs) (y ∷ ys) = eqb x y && same_numbers xs ys

abbrev pub same_rows : List (List ℕ) → List (List ℕ) → Bool
same_rows [] [] = true
same_rows [] (y ∷ ys) = false
same_rows (x ∷ xs) [] = false
same_rows (x ∷ xs) (y ∷ ys) = same_numbers x y && same_rows xs ys

abbrev pub same_integer : ℤ → ℤ → Bool
same_integer (pos a) (pos b) = eqb a b
same_integer (pos a) (negsuc b) = false
same_integer (negsuc a) (pos b) = false
same_integer (negsuc a) (negsuc b) = eqb a b

abbrev pub same_free : FreeTold → ℤ → Bool
same_free none d = false
same_free (dots a) d = same_integer a d

abbrev pub same_fill : Fill → List ℕ → ℕ → ℕ → Bool
same_fill f gains left rounds = same_numbers (gains_of f.tracks) gains && eqb f.left left && eqb f.rounds rounds

abbrev pub same_board : Board → List (List ℕ) → ℤ → ℕ → Bool
same_board b sizes free rounds = same_rows b.sizes sizes && same_free b.free free && eqb b.rounds rounds

-- what the call leaves, where one place more than the tracks is lent: that one keeps what it holds
abbrev pub lent : List (List ℕ)
lent = (7 ∷ 8 ∷ []) ∷ (5 ∷ 6 ∷ []) ∷ []

abbrev pub same_told : BoardTold → ℤ → ℕ → Bool
same_told (BoardTold.board tracks f n) free rounds = eqb tracks 1 && same_free f free && eqb n rounds
same_told (BoardTold.refused number place) free rounds = false

abbrev pub same_outcome : BoardOutcome → List (List ℕ) → ℤ → ℕ → Bool
same_outcome o sizes free rounds = same_told o.told free rounds && same_rows o.sizes (sizes ++ ((5 ∷ 6 ∷ []) ∷ []))

abbrev pub holds : Example → Bool
holds (filling n tracks gains left rounds) = same_fill (fill n tracks) gains left rounds
holds (sizing space tracks items sizes free rounds) = same_board (layout_sizes space tracks items) sizes free rounds
holds (board bytes sizes free rounds) = same_outcome (board_call bytes lent) sizes free rounds

-- every row holds
unfoldable pub all_hold : List Example → Bool
unfolding number runs gains_of opens least_room odd_takers hand_out round more fill sum among up_from keep some every change_at in_turn larger larger_from zip_with flat_map fr_now search bases measured_items start singles shares gains_by increases raise batched longer last_batch missing content maximise search_over bases_fr max_content_fr fr_for expand stretched finish size row_at rows_at record_size tagged_fault row_fault records_fault fault_from sheet_from sheet_fault lowest first_of record_fault layout_call board_call
all_hold [] = true
all_hold (e ∷ es) = holds e && all_hold es
