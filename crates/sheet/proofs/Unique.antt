-- Answers that tell the same are the same: from what it tells, an answer can be made again. Assumes nothing.
use mathlib.Core.Path.{◌≡◌, refl, sym, ap, ◌∙◌}
use mathlib.Core.Bool.{cond}
use Prim.Native.Nat.{ℕ}
use lib.Dec.{eqb}
use Rattle.std.specs.Prelude.{Result, Ok, Err}
use Rattle.records.specs.Answer.{number_of, place_of}
use Rattle.records.specs.declared.refusal.Refusal.{Refusal}
use Rattle.records.specs.declared.refusal.Refusal.TheVariants.{Short, BytesOver, Count, Tag, StrayNumber, LentTooShort}
use Rattle.rows.proofs.KindRows.{space-of-row}
use Rattle.sheet.specs.Rule.{ReadTold, sheet_read, read_refused, WriteTold, sheet_written, write_refused, EndTold, end_at, end_refused}
use Rattle.sheet_kinds.specs.Kinds.{space_of}
use Rattle.sheet.specs.declared.reading.Contents.{Contents}
use Rattle.sheet.specs.Answer.{read_told, write_told, end_told}
use Rattle.sheet_kinds.specs.declared.space.Space.{Space}

-- what can be made again is told apart
same-of-made-again : {A B : Type 0} (f : A → B) (g : B → A) → ((a : A) → g (f a) ≡ a) → (a b : A) → f a ≡ f b → a ≡ b
same-of-made-again f g back a b e = sym (back a) ∙ ap g e ∙ back b

-- ---- a refusal, from its number and place

refusal_of : (number place : ℕ) → Refusal
refusal_of number place =
    cond (eqb number 1) (Short place)
    (cond (eqb number 2) (BytesOver place)
    (cond (eqb number 3) (Count place)
    (cond (eqb number 4) (Tag place)
    (cond (eqb number 5) (StrayNumber place) LentTooShort))))

refusal-again : (r : Refusal) → refusal_of (number_of r) (place_of r) ≡ r
unfolding refusal_of
refusal-again (Short place) = refl
refusal-again (BytesOver place) = refl
refusal-again (Count place) = refl
refusal-again (Tag place) = refl
refusal-again (StrayNumber place) = refl
refusal-again LentTooShort = refl

-- ---- an answer, from what it tells

read_again : ReadTold → Result Contents Refusal
read_again (sheet_read row tracks items) = Ok (record { space = space_of row; tracks = tracks; items = items })
read_again (read_refused number place) = Err (refusal_of number place)

read-again : (a : Result Contents Refusal) → read_again (read_told a) ≡ a
unfolding read_again
read-again (Ok contents) = ap (λ (s : Space). Ok (record { space = s; tracks = contents.tracks; items = contents.items })) (space-of-row contents.space)
read-again (Err refusal) = ap (λ (r : Refusal). Err r) (refusal-again refusal)

pub read-answer-of-told : (a b : Result Contents Refusal) → read_told a ≡ read_told b → a ≡ b
read-answer-of-told = same-of-made-again read_told read_again read-again

write_again : WriteTold → Result ℕ Refusal
write_again (sheet_written size) = Ok size
write_again (write_refused number place) = Err (refusal_of number place)

write-again : (a : Result ℕ Refusal) → write_again (write_told a) ≡ a
unfolding write_again
write-again (Ok size) = refl
write-again (Err refusal) = ap (λ (r : Refusal). Err r) (refusal-again refusal)

pub write-answer-of-told : (a b : Result ℕ Refusal) → write_told a ≡ write_told b → a ≡ b
write-answer-of-told = same-of-made-again write_told write_again write-again

end_again : EndTold → Result ℕ Refusal
end_again (end_at place) = Ok place
end_again (end_refused number place) = Err (refusal_of number place)

end-again : (a : Result ℕ Refusal) → end_again (end_told a) ≡ a
unfolding end_again
end-again (Ok place) = refl
end-again (Err refusal) = ap (λ (r : Refusal). Err r) (refusal-again refusal)

pub end-answer-of-told : (a b : Result ℕ Refusal) → end_told a ≡ end_told b → a ≡ b
end-answer-of-told = same-of-made-again end_told end_again end-again
