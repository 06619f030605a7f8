use Rattle.std.proofs.Common.{◌^◌, ◌<◌, arith}
use lib.Bits.{bit_xor, xor_lt}
use Rattle.sheets.specs.Sheets.{width}
use Rattle.scales.specs.Distances.{differ_at}
use Rattle.sheets.specs.laws.Counting.{ones_where}
use Rattle.scales.specs.laws.Counts.{has_xor}
use Rattle.scales.proofs.distance.Distance.cost.Goals as goal

pub returns : goal.returns
returns c =
    let z = c.args.sheet in
    let house = c.args.self.now.house in
    let u : z < 2 ^ width = omega arith in
    let v : house < 2 ^ width = omega arith in
    ones_where (bit_xor z house) (differ_at z house) (xor_lt width z house u v) (λ i lt. has_xor z house i)
