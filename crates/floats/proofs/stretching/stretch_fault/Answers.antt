-- `stretch_fault`: where it finds nothing, the inputs are met. Assumes nothing.
use native.Mathlib.Omega.{arith}
use Rattle.float_domain.proofs.F32.{f32-of-size, f32-of-space}
use Rattle.floats.proofs.Order.{in_order}
use Rattle.floats.proofs.Rust.{stretch-inputs}
use Rattle.floats.proofs.stretching.stretch_fault.Goals as goal

pub returns-clause-inputs : goal.returns-clause-inputs
returns-clause-inputs c = stretch-inputs _ _ _ _ c.in_ok-tracks_fault.ensures.all (f32-of-size _ _ c.well_formed.1.1.0) (f32-of-space _ _ c.well_formed.1.1.1.0) (grind (arith, in_order))
