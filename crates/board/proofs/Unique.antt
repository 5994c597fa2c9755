-- Answers of a board that tell the same are the same: from what it tells, an answer can be made again, its 6 by the board's own
-- name. Assumes nothing.
use mathlib.Core.Path.{◌≡◌, refl, sym, ap, ◌∙◌}
use mathlib.Core.Bool.{cond}
use Prim.Native.Nat.{ℕ}
use lib.Dec.{eqb}
use Rattle.lines.specs.Rule.{FreeTold, none, dots}
use Rattle.records.specs.declared.refusal.Refusal.TheVariants as sheet
use Rattle.checks.specs.declared.refusal.Refusal.TheVariants as checks
use Rattle.sizing.specs.Size.{free_told}
use Rattle.std.specs.Prelude.{ℤ, Option, Some, None, Result, Ok, Err}
use Rattle.layout.specs.declared.Board.{Board}
use Rattle.board.specs.Rule.{BoardTold, board, refused}
use Rattle.board.specs.Answer.{number_of, place_of, board_told, own, own_answer}
use Rattle.board.specs.declared.refusal.Refusal.{Refusal}
use Rattle.layout.specs.declared.refusal.Refusal.TheVariants.{LentTooShort, Record}
use Rattle.board.specs.declared.refusal.Refusal.TheVariants.{Sheet, Layout}

-- ---- a refusal, from its number and place

refusal_of : (number place : ℕ) → Refusal
refusal_of number place =
    cond (eqb number 1) (Sheet (sheet.Short place))
    (cond (eqb number 2) (Sheet (sheet.BytesOver place))
    (cond (eqb number 3) (Sheet (sheet.Count place))
    (cond (eqb number 4) (Sheet (sheet.Tag place))
    (cond (eqb number 5) (Sheet (sheet.StrayNumber place))
    (cond (eqb number 6) (Layout LentTooShort)
    (cond (eqb number 7) (Layout (Record (checks.NumberOver place)))
    (cond (eqb number 8) (Layout (Record (checks.OutsideTracks place)))
    (cond (eqb number 9) (Layout (Record (checks.ContributionMissing place))) (Layout (Record (checks.RowFalls place)))))))))))

refusal-again : (r : Refusal) → refusal_of (number_of r) (place_of r) ≡ own r
unfolding refusal_of
refusal-again (Sheet (sheet.Short place)) = refl
refusal-again (Sheet (sheet.BytesOver place)) = refl
refusal-again (Sheet (sheet.Count place)) = refl
refusal-again (Sheet (sheet.Tag place)) = refl
refusal-again (Sheet (sheet.StrayNumber place)) = refl
refusal-again (Sheet sheet.LentTooShort) = refl
refusal-again (Layout LentTooShort) = refl
refusal-again (Layout (Record (checks.NumberOver place))) = refl
refusal-again (Layout (Record (checks.OutsideTracks place))) = refl
refusal-again (Layout (Record (checks.ContributionMissing place))) = refl
refusal-again (Layout (Record (checks.RowFalls place))) = refl

-- ---- an answer, from what it tells

free_again : FreeTold → Option ℤ
free_again none = None
free_again (dots n) = Some n

free-again : (f : Option ℤ) → free_again (free_told f) ≡ f
unfolding free_again
free-again None = refl
free-again (Some n) = refl

answer_again : BoardTold → Result Board Refusal
answer_again (board tracks told rounds) = Ok (record { tracks = tracks; free = free_again told; rounds = rounds })
answer_again (refused number place) = Err (refusal_of number place)

answer-again : (a : Result Board Refusal) → answer_again (board_told a) ≡ own_answer a
unfolding answer_again
answer-again (Ok b) = ap (λ (f : Option ℤ). Ok (record { tracks = b.tracks; free = f; rounds = b.rounds })) (free-again b.free)
answer-again (Err refusal) = ap Err (refusal-again refusal)

-- so a promise kept decides the answer
pub answer-of-told : (a b : Result Board Refusal) → own_answer a ≡ a → own_answer b ≡ b → board_told a ≡ board_told b → a ≡ b
answer-of-told a b oa ob e = sym oa ∙ sym (answer-again a) ∙ ap answer_again e ∙ answer-again b ∙ ob
