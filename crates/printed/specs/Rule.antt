-- What the reader prints: an answer as lines of text, in ASCII. This page follows the build paper's section 'What the reader prints' in its
-- words and order, then the call that makes the text, and a name as it stands in a message. It assumes nothing of the code and it computes.
use Rattle.std.specs.Prelude.{ℕ, zero, suc, ◌+◌, ◌*◌, ◌/◌, ◌%◌, Bool, cond, not, ◌&&◌, ltb, leb, eqb, length, take, get_or, replicate, ℤ, pos, negsuc}
use Prim.Native.String.{String}
use Prim.Native.String as Text
use Prim.Native.Char.{code}
use mathlib.Core.List.{List, [], ◌∷◌, ◌++◌, flat_map}
use Rattle.kinds.specs.Kinds.{Row}
use Rattle.rounds.specs.Rule.{most_tracks}
use Rattle.sheet.specs.Rule.{onto}
use Rattle.lines.specs.Rule.{FreeTold, none, dots}
use Rattle.board.specs.Rule.{BoardTold, board, refused, BoardOutcome, board_call}

-- ---- Words and numbers

-- the bytes of a word
abbrev pub word : String → List ℕ
word Text.[] = []
word (Text.◌∷◌ c w) = code c ∷ word w

abbrev pub digit : ℕ → ℕ
digit d = 48 + d

-- decimal digits, the most significant first; a number above 0 has no more of them than it counts, so that counting down ends nothing early
unfoldable pub decimal_from : ℕ → ℕ → List ℕ
decimal_from zero n = digit n ∷ []
decimal_from (suc most) n = cond (ltb n 10) (digit n ∷ []) (decimal_from most (n / 10) ++ (digit (n % 10) ∷ []))

abbrev pub decimal : ℕ → List ℕ
decimal n = decimal_from n n

-- the sign stands before a number below 0
abbrev pub signed : ℤ → List ℕ
signed (pos n) = decimal n
signed (negsuc n) = word "-" ++ decimal (suc n)

-- ---- An answer

-- the longest of each: a number of 64 bits, one with a sign or a byte behind it, and the lines
abbrev pub most_digits : ℕ
most_digits = 20

abbrev pub most_cell : ℕ
most_cell = 21

abbrev pub most_board_line : ℕ
most_board_line = 83

abbrev pub most_track_line : ℕ
most_track_line = 63

abbrev pub most_refusal_line : ℕ
most_refusal_line = 53

-- the signed difference, or `none` if not definite
abbrev pub free_text : FreeTold → List ℕ
free_text none = word "none"
free_text (dots z) = signed z

-- the first line: tracks, free space, rounds
abbrev pub board_line : ℕ → FreeTold → ℕ → List ℕ
board_line tracks free rounds =
    word "tracks " ++ (decimal tracks ++ (word " free " ++ (free_text free ++ (word " rounds " ++ (decimal rounds ++ word "\n")))))

-- a line for each track: its number, its base and its limit
abbrev pub track_line : ℕ → Row → List ℕ
track_line t row = decimal t ++ (word " " ++ (decimal (get_or row 0 0) ++ (word " " ++ (decimal (get_or row 1 0) ++ word "\n"))))

-- those from track t on
unfoldable pub track_lines : ℕ → List Row → List ℕ
track_lines t [] = []
track_lines t (row ∷ sizes) = track_line t row ++ track_lines (t + 1) sizes

-- a refusal prints one line
abbrev pub refusal_line : ℕ → ℕ → List ℕ
refusal_line number place = word "refused " ++ (decimal number ++ (word " at " ++ (decimal place ++ word "\n")))

-- what is printed of an answer; the tracks' sizes are the first ones
abbrev pub answer_text : BoardTold → List Row → List ℕ
answer_text (board tracks free rounds) sizes = board_line tracks free rounds ++ track_lines 0 (take tracks sizes)
answer_text (refused number place) sizes = refusal_line number place

abbrev pub outcome_text : BoardOutcome → List ℕ
outcome_text o = answer_text o.told o.sizes

-- ---- The text of a sheet: its board is sized in sizes of the program's own, as many as a board has tracks at most

abbrev pub own_sizes : List Row
own_sizes = replicate most_tracks (0 ∷ 0 ∷ [])

abbrev pub sheet_text : List ℕ → List ℕ
sheet_text bytes = outcome_text (board_call bytes own_sizes)

-- What a call leaves: the text's length, or that there is no room for it; and what stands in the lent bytes after it.
pub data PrintTold : Type 0 where
  printed : (length : ℕ) → PrintTold
  no_room : PrintTold

pub record PrintOutcome : Type 0 where
  pub told : PrintTold
  pub bytes : List ℕ

abbrev pub print_outcome : PrintTold → List ℕ → PrintOutcome
print_outcome told bytes = record { told = told; bytes = bytes }

-- as many bytes as any text takes
abbrev pub most_text : ℕ
most_text = most_board_line + most_track_line * most_tracks

unfoldable pub print_call : List ℕ → List ℕ → PrintOutcome
print_call bytes lent =
    cond (ltb (length lent) most_text) (print_outcome no_room lent)
    (print_outcome (printed (length (sheet_text bytes))) (onto (sheet_text bytes) lent))

-- ---- A message of the reader: one line, whatever the name in it

-- a byte of a name that stands as it is: 32 or above, but no 127, no quote and no backslash
abbrev pub is_plain : ℕ → Bool
is_plain b = leb 32 b && (not (eqb b 127) && (not (eqb b 39) && not (eqb b 92)))

abbrev pub hex_digit : ℕ → ℕ
hex_digit d = cond (ltb d 10) (48 + d) (87 + d)

-- any other is shown by two hex digits
abbrev pub shown : ℕ → List ℕ
shown b = cond (is_plain b) (b ∷ []) (word "\\x" ++ (hex_digit (b / 16) ∷ hex_digit (b % 16) ∷ []))

abbrev pub quoted : List ℕ → List ℕ
quoted name = word "'" ++ (flat_map shown name ++ word "'")

abbrev pub message_text : List ℕ → List ℕ → List ℕ
message_text name words = word "reader: " ++ (quoted name ++ words)

-- the reader's own name and two quotes, around the rest
abbrev pub most_frame : ℕ
most_frame = 10

-- a name of 4,096 bytes and words of 128 at most, and room for any such message
abbrev pub most_name : ℕ
most_name = 4096

abbrev pub most_words : ℕ
most_words = 128

abbrev pub most_message : ℕ
most_message = most_frame + 4 * most_name + most_words

abbrev pub fits_message : ℕ → ℕ → ℕ → Bool
fits_message name words lent = leb name most_name && (leb words most_words && leb most_message lent)

unfoldable pub message_call : List ℕ → List ℕ → List ℕ → PrintOutcome
message_call name words lent =
    cond (fits_message (length name) (length words) (length lent))
    (print_outcome (printed (length (message_text name words))) (onto (message_text name words) lent))
    (print_outcome no_room lent)
