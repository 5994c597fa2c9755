-- `gutter_fault`: where it finds nothing, the inputs are met. Assumes nothing.
use native.Mathlib.Omega.{arith}
use Rattle.float_domain.proofs.F32.{f32-of-size, f32-of-slice}
use Rattle.floats.proofs.Order.{in_order}
use Rattle.floats.proofs.Rust.{gutter-inputs}
use Rattle.floats.proofs.adjusting.gutter_fault.Goals as goal

pub returns-clause-inputs : goal.returns-clause-inputs
returns-clause-inputs c = gutter-inputs _ _ _ (f32-of-size _ _ c.well_formed.0) (f32-of-slice _ c.type_inv.estimates) (grind (arith, in_order))
