-- `put_two` puts a number's two bytes, the lower one first. Assumes nothing.
use mathlib.Core.Path.{refl}
use mathlib.Core.List.{[], ◌∷◌}
use Prim.Native.Nat.{◌≤◌, ◌%◌, ◌/◌}
use native.Mathlib.Omega.{arith}
use lib.ListN.{length}
use Rattle.laws.specs.Put.{put_then}
use Rattle.records.specs.Rule.{two_bytes}
use Rattle.records.proofs.numbers.put_two.Goals as goal

pub returns : goal.returns
unfolding two_bytes
returns c =
    let h : c.args.at ≤ length c.args.bytes.now = omega arith in
    put_then c.args.at _ (c.args.n % 256 ∷ []) (c.args.n / 256 ∷ []) c.args.bytes.now h refl c.put_byte.ensures c.put_byte-2.ensures
