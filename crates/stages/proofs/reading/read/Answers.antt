-- `stages::reading::read` meets its contract: what is narrowed are the outputs at the buffer's front.
-- Assumes nothing.
use Rattle.std.proofs.Common.{arith, ◌≡◌, ◌∙◌, ap, length, take, drop, replicate, map, List, ◌++◌, ℕ, ◌*◌}
use Rattle.std.proofs.lemmas.List.{length-take-le, length-replicate}
use lib.IntN.{ℤ, pos}
use lib.Seq.{take_at}
use Rattle.fixed.specs.Fixed.{narrowed}
use Rattle.filters.specs.Reader.{read as reading}
use Rattle.stages.specs.Outcome.{over}
use Rattle.stages.proofs.Laws.Reading.{read-map, read_length}
use Rattle.stages.proofs.reading.read.Goals as goal

pub sums-requires-clause-begins_inside : goal.sums-requires-clause-begins_inside
sums-requires-clause-begins_inside g c =
    let size : length (take c.args.n (replicate g.row.MOST (pos 0))) ≡ c.args.n = length-take-le c.args.n _ (omega (arith, length-replicate g.row.MOST (pos 0))) in
    (c.requires.begins_inside.0, omega (arith, ap (λ (k : ℕ). k * c.args.increment) size, c.requires.begins_inside.1))

pub returns : goal.returns
returns g c =
    let n = c.args.n in
    let f = g.R.Reader.reading c.args.reader.now in
    let outputs = reading f c.args.increment n c.args.buf.now in
    let size : length (take n (replicate g.row.MOST (pos 0))) ≡ n = length-take-le n _ (omega (arith, length-replicate g.row.MOST (pos 0))) in
    let sums : c.sums.new.out ≡ outputs = rw size at c.sums.ensures in
    let front : take n (c.sums.new.out ++ drop n (replicate g.row.MOST (pos 0))) ≡ outputs =
    rw sums (take_at outputs _ n (read_length f c.args.increment n c.args.buf.now)) in
    c.narrow.ensures
    ∙ ap (λ (ys : List ℤ). over (map (narrowed c.args.bits) ys) c.args.out.now) front
    ∙ ap (λ (ys : List ℤ). over ys c.args.out.now) (read-map (narrowed c.args.bits) f c.args.increment n c.args.buf.now)
