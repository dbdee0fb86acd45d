-- `line::stream::piece` meets its contract: a call within its buffers, which keeps the pair. Assumes nothing.
use native.Mathlib.Omega.{arith}
use lib.Seq.{length-take-le}
use Rattle.resampler.specs.Record.{pair_of}
use Rattle.resampler.proofs.Laws.Pairs.{small}
use Rattle.line.proofs.stream.piece.Goals as goal

pub call-called-requires : goal.call-called-requires
call-called-requires c =
    let s = small (pair_of c.args.line.«record») c.args.line.pair in
    record {
      pair = c.args.line.pair;
      few = omega (arith, c.in_ok-n.ensures, c.requires, length-take-le c.in_ok-n.n c.read_full.new.to, c.read_full.auto.to);
      fits = omega arith;
    }
