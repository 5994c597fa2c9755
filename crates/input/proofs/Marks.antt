-- Where a text is cut before the first place of a mark, the mark stands nowhere in what is before it.
use Rattle.std.proofs.Common.{◌≡◌, ℕ, ◌+◌, ◌<◌, List, ◌++◌, length, take, drop, arith, ap, ◌∙◌, append_assoc, length-append}
use Rattle.std.specs.Str.Pattern.{LacksTextAt}
use Rattle.std.proofs.lemmas.List.{take-append-drop, length-take}
use Rattle.std.proofs.Math.Seq.{drop-append_seam}

-- the text, as what is before the mark, the mark, and the rest
spread : (mark text : List ℕ) (i : ℕ) (before after : List ℕ) → take i text ≡ before ++ (mark ++ after) → text ≡ before ++ (mark ++ (after ++ drop i text))
spread mark text i before after e =
    let whole : (before ++ (mark ++ after)) ++ drop i text ≡ text = rw (← e) (take-append-drop i text) in
    let other : (before ++ (mark ++ after)) ++ drop i text ≡ before ++ (mark ++ (after ++ drop i text)) = simp append_assoc in
    cc

pub unmarked_before : (mark text : List ℕ) (i : ℕ) → 0 < length mark → ((k : ℕ) → k < i → LacksTextAt mark text k) → (before after : List ℕ) → take i text ≡ before ++ (mark ++ after) → ⊥
unmarked_before mark text i some lacks before after e =
    let there : drop (length before) text ≡ mark ++ (after ++ drop i text) = ap (drop (length before)) (spread mark text i before after e) ∙ drop-append_seam before (mark ++ (after ++ drop i text)) in
    let size : length (take i text) ≡ length before + (length mark + length after) = rw e (simp (length-append {A = ℕ})) in
    lacks (length before) (omega (arith, size, length-take i text)) (after ++ drop i text) there
