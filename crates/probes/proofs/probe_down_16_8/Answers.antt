-- `probes::probe_down_16_8` is safe: its outputs begin before the samples end. Assumes nothing.
use Rattle.std.proofs.Common.{arith}
use Rattle.probes.proofs.probe_down_16_8.Goals as goal

pub down-requires : goal.down-requires
down-requires c = (
  record {
    some = omega arith;
    few = omega arith;
    few_out = omega arith;
    moves = omega arith;
    small = omega arith;
    reach = omega arith;
  },
  omega arith,
  omega arith,
)
