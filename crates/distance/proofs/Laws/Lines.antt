-- A line of a doubled pair, call after call: its outputs are the doubler's of the signal, which is the input behind the delay.
-- Assumes nothing.
use mathlib.Core.Path.{◌≡◌, refl, sym, ap, subst, ◌∙◌}
use mathlib.Core.Bool.{true}
use mathlib.Core.List.{List, [], ◌∷◌, ◌++◌, append_assoc}
use Prim.Native.Nat.{ℕ, zero, suc, ◌+◌, ◌-◌, ◌<◌, ◌≤◌}
use native.Mathlib.Omega.{arith}
use lib.IntN.{ℤ, pos}
use lib.ListN.{length, take, drop, replicate, length-append, length-drop, length-replicate, take-append-drop}
use lib.Seq.{take-add, take-append-le, drop-append-le}
use Rattle.filters.specs.Lists.{joined, padded}
use Rattle.filters.specs.Run.{run, end}
use Rattle.filters.specs.Stage.Up2Hq.{up2_out, up2_next, up2, up2_end}
use Rattle.filters.proofs.Laws.Run.{run-append, end-append, joined-append}
use Rattle.filters.proofs.Laws.Lengths.{up2_end-length}
use Rattle.filters.proofs.Laws.Lists.{take-padded}
use Rattle.stages.proofs.Laws.Parts.{up2-nothing}
use Rattle.resampler.specs.declared.Record.{Record}
use Rattle.resampler.specs.Pairs.{Pair, supported, path, doubler, delay}
use Rattle.resampler.specs.Record.{Words, arrays, fresh, living, live, live_delay, keeping, record_of}
use Rattle.resampler.specs.Resample.{pass, pass_words, signal, first, rest, between, converted, after}
use Rattle.resampler.proofs.Laws.Pairs.{small}
use Rattle.resampler.proofs.Laws.Entries.{delay-few}
use Rattle.resampler.proofs.Laws.Passes.{unused, doubled}
use Rattle.resampler.proofs.Laws.Words.{Sized, keeping-live}

-- a call and then another put out what one call of both does
pub up2-append : (w xs ys : List ℤ) → up2 w (xs ++ ys) ≡ up2 w xs ++ up2 (up2_end w xs) ys
unfolding up2 up2_end
up2-append w xs ys = ap joined (run-append up2_out up2_next w xs ys) ∙ joined-append (run up2_out up2_next w xs) (run up2_out up2_next (end up2_next w xs) ys)

up2_end-append : (w xs ys : List ℤ) → up2_end w (xs ++ ys) ≡ up2_end (up2_end w xs) ys
unfolding up2_end
up2_end-append w xs ys = end-append up2_next w xs ys

zeros : (a b : ℕ) → replicate a (pos 0) ++ replicate b (pos 0) ≡ replicate (a + b) (pos 0)
zeros zero b = let e : 0 + b ≡ b = omega arith in rw e refl
zeros (suc a) b = let e : suc a + b ≡ suc (a + b) = omega arith in rw e (ap (λ (t : List ℤ). pos 0 ∷ t) (zeros a b))

module _ (p : Pair) (h : supported p ≡ true) (q : path p ≡ doubler) where
  abbrev words : List ℤ → Words
  words w = arrays w [] [] []

  abbrev line : List ℤ → List ℤ → Record
  line w dl = record_of p (words w) dl

  some : 0 < p.inKhz
  some = omega (arith, (small p h).1)

  module _ (w dl : List ℤ) (l : length w ≡ 6) (d : length dl ≡ delay p) where
    line-live : live (line w dl) ≡ words w
    unfolding record_of living
    line-live = keeping-live p (words w) _ (subst (λ r. Sized r (words w)) (sym q) (l, refl, refl, refl))

    line-delay : live_delay (line w dl) ≡ dl
    unfolding live_delay record_of keeping
    line-delay = take-padded 48 dl (delay p) d

    module _ (xs : List ℤ) where
      abbrev taken : List ℤ
      taken = take (length xs) (dl ++ xs)

      one : (v ys : List ℤ) → (pass p (words v) ys ≡ up2 v ys) × (pass_words p (words v) ys ≡ words (up2_end v ys))
      unfolding unused
      one v ys = doubled p (words v) ys some q (refl, refl, refl)

      abbrev k : ℕ
      k = p.inKhz

      -- the first millisecond and the rest, of any delay samples
      abbrev front : List ℤ → List ℤ
      front z = take k (take (length xs) (z ++ xs))

      abbrev back : List ℤ → List ℤ
      back z = drop k (take (length xs) (z ++ xs))

      ended : pass_words p (pass_words p (words w) (front dl)) (back dl) ≡ words (up2_end w taken)
      ended =
          ap (λ (v : Words). pass_words p v (back dl)) (one w (front dl)).1 ∙ (one (up2_end w (front dl)) (back dl)).1
          ∙ ap words (sym (up2_end-append w (front dl) (back dl)) ∙ ap (up2_end w) (take-append-drop k taken))

      pub line-out : converted (line w dl) xs ≡ up2 w taken
      unfolding converted between first rest signal record_of keeping
      line-out =
          (λ i. pass p (line-live i) (front (line-delay i)) ++ pass p (pass_words p (line-live i) (front (line-delay i))) (back (line-delay i)))
          ∙ (λ i. (one w (front dl)).0 i ++ pass p ((one w (front dl)).1 i) (back dl))
          ∙ ap (λ (t : List ℤ). up2 w (front dl) ++ t) (one (up2_end w (front dl)) (back dl)).0
          ∙ sym (up2-append w (front dl) (back dl)) ∙ ap (up2 w) (take-append-drop k taken)

      pub line_after : after (line w dl) xs ≡ line (up2_end w taken) (drop (length xs) (dl ++ xs))
      unfolding after between first rest signal record_of keeping
      line_after =
          (λ i. record_of p (pass_words p (pass_words p (line-live i) (front (line-delay i))) (back (line-delay i))) (drop (length xs) (line-delay i ++ xs)))
          ∙ ap (λ (v : Words). record_of p v (drop (length xs) (dl ++ xs))) ended

  -- the parts of the signal that the calls take, one behind the other
  parts : (dl xs ys : List ℤ) → take (length xs) (dl ++ xs) ++ take (length ys) (drop (length xs) (dl ++ xs) ++ ys) ≡ take (length (xs ++ ys)) (dl ++ (xs ++ ys))
  parts dl xs ys =
      let n = length xs in
      let m = length ys in
      let fits : n ≤ length (dl ++ xs) = omega (arith, length-append dl xs) in
      let a = take-append-le n (dl ++ xs) ys fits in
      let b = drop-append-le n (dl ++ xs) ys fits in
      let c = take-add n m ((dl ++ xs) ++ ys) in
      (λ i. sym a i ++ take m (sym b i)) ∙ sym c ∙ (λ i. take (sym (length-append xs ys) i) (append_assoc dl xs ys i))

  pub lines : (w dl : List ℤ) → length w ≡ 6 → length dl ≡ delay p → (xss : List (List ℤ))
      → joined (run converted after (line w dl) xss) ≡ up2 w (take (length (joined xss)) (dl ++ joined xss))
  unfolding run joined
  lines w dl l d [] = sym (up2-nothing w).0
  lines w dl l d (xs ∷ xss) =
      let t = take (length xs) (dl ++ xs) in
      let rest = lines (up2_end w t) (drop (length xs) (dl ++ xs)) (up2_end-length w t l) (length-drop (length xs) (dl ++ xs) ∙ omega (arith, length-append dl xs, d)) xss in
      (λ i. line-out w dl l d xs i ++ joined (run converted after (line_after w dl l d xs i) xss))
      ∙ ap (λ (z : List ℤ). up2 w t ++ z) rest
      ∙ sym (up2-append w t (take (length (joined xss)) (drop (length xs) (dl ++ xs) ++ joined xss)))
      ∙ ap (up2 w) (parts dl xs (joined xss))

  -- as opened: every word and sample zero
  pub opened : fresh p ≡ line (replicate 6 (pos 0)) (replicate (delay p) (pos 0))
  unfolding fresh record_of keeping
  opened =
      let few = delay-few p h in
      let l = length-replicate (delay p) (pos 0) in
      let e : delay p + (48 - length (replicate (delay p) (pos 0))) ≡ 48 = omega (arith, l, few) in
      let z : padded 48 (replicate (delay p) (pos 0)) ≡ replicate 48 (pos 0) = zeros (delay p) _ ∙ ap (λ (n : ℕ). replicate n (pos 0)) e in
      λ i. keeping p (words (replicate 6 (pos 0))) (sym z i)
