-- A batch of a down filter meets its contract: the buffer's front is the carried words and what AR2 makes of the input, what is read
-- from it are the outputs, and as many words as the order are carried on.
-- Assumes nothing.
use Rattle.std.proofs.Common.{arith, ◌≡◌, ℕ, ◌∙◌, ap, List, length, length-append, take, ◌++◌, ◌+◌, ◌*◌, ◌-◌}
use Rattle.std.proofs.lemmas.List.{length-take-le}
use lib.IntN.{ℤ}
use Rattle.filters.specs.Lists.{padded}
use Rattle.filters.specs.Reader.{read, outputs}
use Rattle.filters.specs.Stage.Ar2.{ar2}
use Rattle.filters.specs.Stage.DownFir.{filter_of, fir, down_fir, down_batch, down_fir_carried}
use Rattle.filters.proofs.Laws.Lengths.{ar2-length}
use Rattle.filters.proofs.Laws.Lists.{last-part}
use Rattle.stages.specs.Outcome.{over}
use Rattle.stages.proofs.Laws.Loop.{over-front}
use Rattle.stages.proofs.Laws.Reading.{whole-reach}
use Rattle.stages.proofs.down_fir.LoweringStage.part.Goals as goal

both-length : (order : ℕ) (cs a words xs : List ℤ) → length (take order words) ≡ order → length (take order words ++ ar2 cs a xs) ≡ order + length xs
both-length order cs a words xs h = length-append (take order words) (ar2 cs a xs) ∙ omega (arith, ar2-length cs a xs)

pub read-requires-clause-begins_inside : goal.read-requires-clause-begins_inside
read-requires-clause-begins_inside c =
    let f = c.args.self.now.filter in
    let w = c.args.words in
    let xs = c.args.input.now in
    let n = length xs in
    let r = c.args.self.now.rates in
    let most = f.fitting.most in
    let live = length-take-le f.order w.fir (omega (arith, c.well_formed)) in
    let both = both-length f.order f.coefs.now w.ar2 w.fir xs live in
    let size = ap length (over-front (take f.order w.fir ++ ar2 f.coefs.now w.ar2 xs) _ (f.order + n) both c.fill-ar2.ensures.filled) ∙ both in
    let e : f.order + n - f.order ≡ n = omega arith in
    let one : 1 * r.inKhz ≡ r.inKhz = omega arith in
    let same : 1 * n ≡ n = omega arith in
    rw (size, e) (omega arith, rw same at (whole-reach 1 r n (rw one c.args.self.now.steady) c.requires.0 c.requires.1))

pub returns-clause-staged : goal.returns-clause-staged
unfolding down_batch down_fir down_fir_carried
returns-clause-staged c =
    let f = c.args.self.now.filter in
    let w = c.args.words in
    let xs = c.args.input.now in
    let n = length xs in
    let r = c.args.self.now.rates in
    let g = filter_of f.order f.coefs.now in
    let all = take f.order w.fir ++ ar2 f.coefs.now w.ar2 xs in
    let most = f.fitting.most in
    let live = length-take-le f.order w.fir (omega (arith, c.well_formed)) in
    let both = both-length f.order f.coefs.now w.ar2 w.fir xs live in
    let front = over-front all _ (f.order + n) both c.fill-ar2.ensures.filled in
    let words = c.carried-fir.ensures ∙ ap (padded 36) (last-part f.order n all _ both front) in
    record {
      filled = c.read.ensures
          ∙ ap (λ (b : List ℤ). over (read (fir g) r.increment (outputs r n) b) c.args.out.now) front;
      carried = λ i. record { ar2 = c.fill-ar2.ensures.carried i; fir = words i };
    }
