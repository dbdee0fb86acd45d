-- `resampler::resuming::record_in` meets its contract: each array is read from its place.
-- Assumes nothing.
use mathlib.Core.Path.{◌∙◌}
use lib.ListN.{length}
use Rattle.little_endian.specs.Bytes.{word_of, read_by}
use Rattle.resampler.specs.Record.{fresh, keeping, record_of}
use Rattle.resampler.specs.Block.{record_in}
use Rattle.resampler.proofs.resuming.record_in.Goals as goal

pub returns : goal.returns
unfolding record_in fresh keeping record_of
returns c =
    let b = c.args.block.now in
    let s = c.fresh-s.ensures in
    let doubler = c.words_at.ensures ∙ (λ i. read_by (word_of 4) 4 4 (length (s i).doubler) b) in
    let samples = c.words_at-2.ensures ∙ (λ i. read_by (word_of 2) 2 28 (length (s i).samples) b) in
    let ar2 = c.words_at-3.ensures ∙ (λ i. read_by (word_of 4) 4 44 (length (s i).ar2) b) in
    let fir = c.words_at-4.ensures ∙ (λ i. read_by (word_of 4) 4 52 (length (s i).fir) b) in
    let delay = c.words_at-5.ensures ∙ (λ i. read_by (word_of 2) 2 196 (length (s i).delay) b) in
    λ i. record {
      direction = (s i).direction;
      inKhz = (s i).inKhz;
      outKhz = (s i).outKhz;
      doubler = doubler i;
      samples = samples i;
      ar2 = ar2 i;
      fir = fir i;
      delay = delay i;
    }
