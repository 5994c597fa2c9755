-- `maximise_fault`: where it finds nothing, the inputs are met. Assumes nothing.
use native.Mathlib.Omega.{arith}
use Rattle.float_domain.proofs.F32.{f32-of-slice}
use Rattle.floats.proofs.Order.{in_order}
use Rattle.floats.proofs.Rust.{maximise-inputs}
use Rattle.floats.proofs.maximising.maximise_fault.Goals as goal

pub returns-clause-inputs : goal.returns-clause-inputs
returns-clause-inputs c = maximise-inputs _ _ c.args.space c.in_ok-tracks_fault.ensures.all (f32-of-slice _ c.type_inv.fits) (grind (arith, in_order))
