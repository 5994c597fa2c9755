-- `numbers::bits` meets its contract: every NaN has the one pattern. Assumes nothing.
use Rattle.float_vectors.proofs.Floats.{bits-of-ne, no-nan-of-ne}
use Rattle.float_vectors.proofs.numbers.bits.Goals as goal

pub returns-then-x : goal.returns-then-x
returns-then-x c = bits-of-ne _ c.if-x.true

pub float_to_bits-result : goal.float_to_bits-result
float_to_bits-result c = no-nan-of-ne _ c.if-x.false
