-- Pieces put one behind another are put as one piece. Assumes nothing.
use mathlib.Core.Path.{◌≡◌, refl, sym, ◌∙◌, subst}
use mathlib.Core.List.{List, [], ◌++◌}
use Prim.Native.Nat.{ℕ, ◌+◌, ◌≤◌}
use native.Mathlib.Omega.{arith}
use lib.ListN.{length, length-append}
use Rattle.laws.specs.Put.{put_then, put-none}
use Rattle.printed.specs.Putting.{Putting}

pub putting-then : {n m at mid next : ℕ} {p q a b c : List ℕ} → at ≤ length a → Putting n at p a b mid → Putting m mid q b c next → Putting (n + m) at (p ++ q) a c next
putting-then {n} {m} {at} {mid} {next} {p} {q} {a} {b} {c} h x y =
    let e = x.behind in
    let f = y.behind in
    let few-x = x.few in
    let few-y = y.few in
    record {
      stands = put_then at mid p q a h e x.stands y.stands;
      behind = omega (arith, length-append p q);
      few = omega arith;
      kept = y.kept ∙ x.kept;
    }

-- nothing, put anywhere
pub putting-none : (at : ℕ) (a : List ℕ) → Putting 0 at [] a a at
putting-none at a = record { stands = sym (put-none at a); behind = omega arith; few = omega arith; kept = refl }

-- the same piece, said in another way and with more room
pub putting-as : {n m at next : ℕ} {p q a b : List ℕ} → n ≤ m → p ≡ q → Putting n at p a b next → Putting m at q a b next
putting-as {n} {m} {at} {next} {p} {q} {a} {b} l e x = subst (λ (z : List ℕ). Putting m at z a b next) e (wider x)
  where
    wider : Putting n at p a b next → Putting m at p a b next
    wider x = let few-x = x.few in record { stands = x.stands; behind = x.behind; few = omega arith; kept = x.kept }
