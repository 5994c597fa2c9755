-- `put_four` puts a number's four bytes, the lower half first. Assumes nothing.
use mathlib.Core.Path.{refl}
use Prim.Native.Nat.{◌≤◌, ◌%◌, ◌/◌}
use native.Mathlib.Omega.{arith}
use lib.ListN.{length}
use Rattle.laws.specs.Put.{put_then}
use Rattle.records.specs.Rule.{two_bytes, four_bytes}
use Rattle.records.proofs.numbers.put_four.Goals as goal

pub returns : goal.returns
unfolding two_bytes four_bytes
returns c =
    let h : c.args.at ≤ length c.args.bytes.now = omega arith in
    put_then c.args.at _ (two_bytes (c.args.n % 65536)) (two_bytes (c.args.n / 65536)) c.args.bytes.now h refl c.put_two.ensures c.put_two-2.ensures
