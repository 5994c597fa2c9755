-- `numbers::float_of` meets its contract: 0.0 / 0.0 is the float of every NaN's pattern. Assumes nothing.
use Rattle.float_vectors.proofs.Floats.{nan-of-bits, no-nan-bits}
use Rattle.float_vectors.proofs.numbers.float_of.Goals as goal

pub returns-then-bits-gt-INFINITY_BITS : goal.returns-then-bits-gt-INFINITY_BITS
returns-then-bits-gt-INFINITY_BITS c = nan-of-bits _ c.if-bits-gt-INFINITY_BITS.true

pub float_from_bits-result : goal.float_from_bits-result
float_from_bits-result c = no-nan-bits _ c.if-bits-gt-INFINITY_BITS.false
