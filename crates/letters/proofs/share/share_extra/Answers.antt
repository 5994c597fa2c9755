-- `share_extra` is a first share, and a share of what is left of it, unless that is nothing. Assumes nothing.
use borrow.Author.Rules.{rules}
use Prim.Native.Nat.{ℕ}
use native.Mathlib.Omega.{arith}
use Rattle.letters.specs.Letters.{letter_of}
use Rattle.letters.proofs.Shared.{first-le, both-shares}
use Rattle.letters.proofs.Nothing.{first_alone}
use Rattle.letters.proofs.share.share_extra.Goals as goal

pub returns-then-left-eq0 : goal.returns-then-left-eq0
returns-then-left-eq0 c = first_alone (letter_of c.args.letter) c.args.extra c.args.lines.now _ _ c.share_first-left.ensures c.if-left-eq0.true

pub share_rest-requires : goal.share_rest-requires
share_rest-requires c =
    let le = first-le c.args.letter c.args.extra c.args.lines.now _ _ c.share_first-left.ensures in
    (record { few = c.requires.0.few; gains-long = search rules; rests-long = search rules }, omega (arith, le 0), λ (i : ℕ). omega (arith, le i), c.requires.2)

pub returns : goal.returns
returns c = both-shares c.args.letter c.args.extra c.args.lines.now _ _ c.share_first-left.ensures _ _ c.some_taker-takers_only.ensures c.share_rest.ensures
