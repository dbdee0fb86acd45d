-- `filters::taps::three_inward` meets its contract: each product is the next of the definition's sum.
-- Assumes nothing.
use Rattle.std.proofs.Common.{rules, arith, ◌≡◌, ◌∙◌, sym, ◌+◌, length, drop}
use lib.IntN.{pos, ◌+ℤ◌}
use Rattle.fixed.specs.Fixed.{wrapped, times}
use Rattle.filters.specs.Lists.{◌!◌}
use Rattle.filters.specs.Reader.{sum, small?}
use Rattle.filters.specs.Stage.DownFir.{outer_sums}
use Rattle.filters.proofs.Laws.Lengths.{outer_sums-length}
use Rattle.filters.proofs.Laws.Dot.{sum-next}
use Rattle.filters.proofs.Laws.Taps.{every-at}
use Rattle.filters.proofs.taps.three_inward.Goals as goal

pub more-a-requires : goal.more-a-requires
more-a-requires c = let fits = every-at small? c.args.taps.now c.args.k (pos 0) c.requires.2 (omega arith) in search rules

pub more-b-requires : goal.more-b-requires
more-b-requires c = let fits = every-at small? c.args.taps.now (c.args.k + 1) (pos 0) c.requires.2 (omega arith) in search rules

pub more-requires : goal.more-requires
more-requires c = let fits = every-at small? c.args.taps.now (c.args.k + 2) (pos 0) c.requires.2 (omega arith) in search rules

pub returns : goal.returns
returns c =
    let taps = c.args.taps.now in
    let ys = c.args.ys.now in
    let k = c.args.k in
    let outer = outer_sums (length ys) ys in
    let n = outer_sums-length (length ys) ys in
    let a : c.more-a.result ≡ wrapped (c.args.acc +ℤ times (taps ! k) (outer ! k)) = search rules in
    let b : c.more-b.result ≡ wrapped (c.more-a.result +ℤ times (taps ! (k + 1)) (outer ! (k + 1))) = search rules in
    let e : c.more.result ≡ wrapped (c.more-b.result +ℤ times (taps ! (k + 2)) (outer ! (k + 2))) = search rules in
    let one = sum-next times c.args.acc taps outer k (pos 0) (pos 0) (omega arith) (omega arith) in
    let two = sum-next times c.more-a.result taps outer (k + 1) (pos 0) (pos 0) (omega arith) (omega arith) in
    let three = sum-next times c.more-b.result taps outer (k + 2) (pos 0) (pos 0) (omega arith) (omega arith) in
    let k2 : k + 1 + 1 ≡ k + 2 = omega arith in
    let k3 : k + 2 + 1 ≡ k + 3 = omega arith in
    let all : sum times c.more.result (drop (k + 3) taps) (drop (k + 3) outer) ≡ sum times c.args.acc (drop k taps) (drop k outer) =
    sym (one ∙ (λ i. sum times (sym a i) (drop (k + 1) taps) (drop (k + 1) outer))
    ∙ two ∙ (λ i. sum times (sym b i) (drop (k2 i) taps) (drop (k2 i) outer))
    ∙ three ∙ (λ i. sum times (sym e i) (drop (k3 i) taps) (drop (k3 i) outer))) in
    search rules
