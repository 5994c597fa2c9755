-- `fr_fault`: where it finds nothing, the inputs are met. Assumes nothing.
use native.Mathlib.Omega.{arith}
use Rattle.float_domain.proofs.F32.{f32-of-fits, f32-of-slice}
use Rattle.floats.proofs.Order.{in_order}
use Rattle.floats.proofs.Rust.{fr-inputs}
use Rattle.floats.proofs.searching.fr_fault.Goals as goal

pub returns-clause-inputs : goal.returns-clause-inputs
returns-clause-inputs c = fr-inputs _ _ _ _ c.in_ok-tracks_fault.ensures.all (f32-of-slice _ c.type_inv.factors) (f32-of-fits _ c.well_formed.1.1.1.0.1) (grind (arith, in_order))
