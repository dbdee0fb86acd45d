-- `stages::ar2::silk_resampler_private_AR2` meets its contract: what is filtered, followed by what the samples left make, is the whole.
-- Assumes nothing.
use Rattle.std.proofs.Common.{rules, arith, ◌≡◌, ◌∙◌, length, drop, ◌*◌, ◌+◌, ◌-◌, ◌%◌, ◌<◌, refl, sym, ap, List, ◌∷◌, ◌++◌, [], ℤ, ℕ}
use mir.Val.{to_z, of_z}
use mir.Syntax.{w32}
use lib.Seq.{drop-drop}
use Rattle.filters.specs.Lists.{◌!◌, tabulate}
use Rattle.fixed.specs.Ar2.{ar2_out, ar2_next, ar2_after}
use Rattle.filters.specs.Stage.Ar2.{ar2, ar2_end}
use Rattle.filters.proofs.Laws.Lists.{spelt}
use Rattle.stages.proofs.Laws.Loop.{length-zero, run-left, run-turn, run_end}
use Rattle.stages.proofs.ar2.silk_resampler_private_AR2.Goals as goal

pub loop-k-preserved : goal.loop-k-preserved
unfolding ar2_next tabulate
loop-k-preserved c =
    let A = c.args.AQ14.now in
    let s = c.in-Some.ensures.steps in
    let xs = c.in-Some.xs.now in
    let k = c.loop-k.k-iterator.count in
    let rest = c.next.new.self.iter.rest.now in
    let inv = c.loop-k.invariant in
    let w = to_z w32 c.loop-k.s0-bits ∷ to_z w32 c.loop-k.s1-bits ∷ [] in
    let after = c.moved.result in
    let all-words = spelt 2 after (omega (arith, c.well_formed)) in
    let two : c.loop-k.k-iterator.iter.rest.now ≡ xs ! 0 ∷ xs ! 1 ∷ rest = s.0.1.0 ∙ ap (λ (t : List ℤ). t ++ rest) (spelt 2 xs (s.0.1.1 ∙ inv.0)) in
    let out : to_z w32 (of_z w32 c.filtered-first.result) ≡ ar2_out w (xs ! 0) = search rules in
    let words : c.moved-between.result ≡ ar2_after A w (ar2_out w (xs ! 0)) = search rules in
    let out-2 : to_z w32 (of_z w32 c.filtered-second.result) ≡ ar2_out c.moved-between.result (xs ! 1) = search rules in
    let words-2 : to_z w32 (of_z w32 (after ! 0)) ∷ to_z w32 (of_z w32 (after ! 1)) ∷ [] ≡ ar2_after A c.moved-between.result (ar2_out c.moved-between.result (xs ! 1)) = search rules in
    let one = run-turn ar2_out (ar2_next A) c.args.state c.args.input.now c.args.outQ8.now two inv.2 out words in
    let both = run-turn ar2_out (ar2_next A) c.args.state c.args.input.now c.args.outQ8.now refl one out-2 words-2 in
    let on : 2 * k + 1 + 1 ≡ 2 * (k + 1) = omega arith in
    let e : 2 * k + 2 ≡ 2 * (k + 1) = omega arith in
    let left : rest ≡ drop (2 * (k + 1)) c.args.input.now = ap (drop 2) (sym two ∙ inv.1) ∙ rw e at (drop-drop 2 (2 * k) c.args.input.now) in
    (s.0.0 ∙ inv.0, rw s.2 left, rw (s.1, s.2, ← on) both)

-- fewer than two are left: they are the remainder
left-over : (xs : List ℤ) (k : ℕ) {n : ℕ} {left last : List ℤ} → left ≡ drop (2 * k) xs → 2 * k + length left ≡ length xs
    → length left < n → n ≡ 2 → last ≡ drop (length xs - length xs % 2) xs → left ≡ last
left-over xs k is l few two e = let from : length xs - length xs % 2 ≡ 2 * k = omega arith in is ∙ sym (rw from at e)

pub returns-then-last-lt1 : goal.returns-then-last-lt1
unfolding ar2 ar2_end
returns-then-last-lt1 c =
    let none : length c.remainder-last.result.now < 1 = search rules in
    let inv = c.loop-k.invariant in
    let l = run-left ar2_out (ar2_next c.args.AQ14.now) c.args.state c.args.input.now c.args.outQ8.now inv.2 in
    let same = left-over c.args.input.now c.loop-k.k-iterator.count inv.1 l c.in-None.ensures.steps.0.1.0 inv.0 (c.remainder-last.ensures ∙ c.chunks_exact-pairs.ensures.remainder) in
    let nil = same ∙ length-zero c.remainder-last.result.now (omega arith) in
    let end = run_end ar2_out (ar2_next c.args.AQ14.now) c.args.state c.args.input.now c.args.outQ8.now nil c.loop-k.invariant.2 in
    record { filled = end.0; carried = end.1 }

pub returns-in-len1 : goal.returns-in-len1
unfolding ar2 ar2_end ar2_next tabulate
returns-in-len1 c =
    let A = c.args.AQ14.now in
    let xs = c.args.input.now in
    let ys = c.remainder-last.result.now in
    let inv = c.loop-k.invariant in
    let w = to_z w32 c.loop-k.s0-bits ∷ to_z w32 c.loop-k.s1-bits ∷ [] in
    let l = run-left ar2_out (ar2_next A) c.args.state xs c.args.outQ8.now inv.2 in
    let same = left-over xs c.loop-k.k-iterator.count inv.1 l c.in-None.ensures.steps.0.1.0 inv.0 (c.remainder-last.ensures ∙ c.chunks_exact-pairs.ensures.remainder) in
    let one : c.loop-k.k-iterator.iter.rest.now ≡ ys ! 0 ∷ [] = same ∙ spelt 1 ys (omega (arith, c.in-len1.len_at_least, c.in-len1.len_below)) in
    let out : to_z w32 (of_z w32 c.filtered-out32.result) ≡ ar2_out w (ys ! 0) = search rules in
    let words : c.moved-in-len1.result ≡ ar2_after A w (ar2_out w (ys ! 0)) = search rules in
    let m = ap length one in
    let e : length xs - 1 ≡ 2 * c.loop-k.k-iterator.count = omega arith in
    let turn = run-turn ar2_out (ar2_next A) c.args.state xs c.args.outQ8.now one inv.2 out words in
    let end = run_end ar2_out (ar2_next A) c.args.state xs c.args.outQ8.now refl turn in
    record { filled = rw e end.0; carried = end.1 }
