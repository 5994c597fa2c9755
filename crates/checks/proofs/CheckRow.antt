-- A row of checks as the code makes it: one after another, until one of them finds a fault. Assumes nothing.
use mathlib.Core.Path.{◌≡◌}
use Prim.Native.Nat.{ℕ}
use Rattle.sheet_kinds.proofs.Resolved.{rows-resolved}
use Rattle.records.specs.Rule.{Fault, fine, fault, first}

module _ {a : Fault} (rest : Fault) where
  pub found : {number place : ℕ} → fault number place ≡ a → fault number place ≡ first a rest
  found e = rw (← e)

  pub passed : {x : Fault} → fine ≡ a → x ≡ rest → x ≡ first a rest
  passed e p = rw (← e) p

-- for the check of `record_fault`
pub ruleset row = (found, passed, rows-resolved)
