-- `line::stream::turn` meets its contract: 100 ms of any rate fit the buffer. Assumes nothing.
use mathlib.Core.Path.{sym}
use native.Mathlib.Omega.{arith}
use lib.Seq.{length-take-le}
use Rattle.resampler.specs.Record.{pair_of}
use Rattle.resampler.proofs.Laws.Pairs.{small}
use Rattle.line.proofs.stream.turn.Goals as goal

pub slice_bounds-input-end : goal.slice_bounds-input-end
slice_bounds-input-end c = let s = small (pair_of c.args.line.«record») c.args.line.pair in omega arith

pub slice_bounds-piece-end : goal.slice_bounds-piece-end
slice_bounds-piece-end c = sym (length-take-le _ _ (let s = small (pair_of c.args.line.«record») c.args.line.pair in omega arith))

pub piece-requires : goal.piece-requires
piece-requires c = length-take-le _ _ (let s = small (pair_of c.args.line.«record») c.args.line.pair in omega arith)
