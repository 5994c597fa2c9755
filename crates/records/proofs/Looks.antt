-- A look front to back that ends at the first fault: what `?` returns of it, and what a look that went on says. Assumes nothing.
use Rattle.std.proofs.Common.{◌≡◌, Result}
use Rattle.std.specs.Result.{IsErrAnd}
use Rattle.std.proofs.lemmas.Result.{err_from_is_err_and}
use Rattle.records.specs.Rule.{Fault, fine, first}
use Rattle.records.specs.Answer.{fault_of, refusal_fault}
use Rattle.records.specs.declared.refusal.Refusal.{Refusal}

-- f was found, so what would come next does not matter
pub found-first : {f : Fault} (r : Result Unit Refusal) (e : Refusal) → refusal_fault e ≡ f → IsErrAnd r (λ o. o ≡ e) → (g : Fault) → fault_of r ≡ first f g
found-first {f} r e is told g = let p = err_from_is_err_and r told in rw (p.1, p.2, ← is)

-- nothing was found in f, so what comes next is the answer
pub next-of-fine : {f x g : Fault} → fine ≡ f → x ≡ g → x ≡ first f g
next-of-fine is e = rw (← is) e
