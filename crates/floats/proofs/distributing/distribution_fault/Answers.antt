-- `distribution_fault`: where it finds nothing, the inputs are met. Assumes nothing.
use native.Mathlib.Omega.{arith}
use Rattle.float_domain.proofs.F32.{f32-of-fits, f32-of-slice}
use Rattle.floats.proofs.Order.{in_order}
use Rattle.floats.proofs.Rust.{distribution-inputs}
use Rattle.floats.proofs.distributing.distribution_fault.Goals as goal

pub returns-clause-inputs : goal.returns-clause-inputs
returns-clause-inputs c = distribution-inputs _ _ _ _ _ _ (f32-of-fits _ c.well_formed.0.1) c.in_ok-tracks_fault.ensures.all (f32-of-slice _ c.type_inv.proportions) (f32-of-slice _ c.type_inv.sizes) (f32-of-slice _ c.type_inv.limits) (grind (arith, in_order))
