-- Two passes over whole milliseconds, one behind the other in the output, are one, whatever state they carry; and where it is a
-- path's words, they are both passes of a call. Assumes nothing.
use mathlib.Core.Path.{◌≡◌, sym, ap, ◌∙◌}
use mathlib.Core.List.{List, ◌++◌}
use Prim.Native.Nat.{◌+◌, ◌*◌, ◌-◌, ◌/◌, ◌%◌, ◌<◌, ◌≤◌}
use native.Mathlib.Nat.{mul-div_cancel, one-mul, mod_self}
use native.Mathlib.Omega.{arith}
use borrow.Rule.Slice.PartMut.{mid_of, put_mid}
use lib.IntN.{ℤ}
use lib.ListN.{length, drop, length-take, length-drop}
use Rattle.filters.specs.declared.rates.Rates.{Rates}
use Rattle.filters.specs.Reader.{outputs}
use Rattle.filters.specs.Stage.IirFir.{iir_fir_batch, iir_fir_next, iir_fir_pass}
use Rattle.filters.specs.Stage.DownFir.{Filter, down_batch, down_next, down_pass}
use Rattle.filters.proofs.Laws.Lengths.{iir_fir_batch-length, down_batch-length}
use Rattle.stages.specs.Outcome.{over, Staged}
use Rattle.stages.proofs.Laws.Loop.{over-behind}
use Rattle.stages.proofs.Laws.Pass as Pass
use Rattle.resampler.specs.declared.Record.{Record}
use Rattle.resampler.specs.Record.{Words, live, pair_of, keeping}
use Rattle.resampler.specs.Resample.{pass, pass_words, twice, twice_end, both_out, moved, room_of, rates_of}

-- ---- what two passes ask, for each of them

-- a millisecond, whole ones behind it, and room for what both make
pub record Taking (r : Rates) (first rest out : List ℤ) : Type 0 where
  pub one : length first ≡ r.inKhz
  pub whole : length rest % r.inKhz ≡ 0
  pub room : r.outKhz + outputs r (length rest) ≤ length out

module _ (r : Rates) (some : 0 < r.inKhz) where
  -- a millisecond makes out-kHz samples
  pub one-makes : outputs r r.inKhz ≡ r.outKhz
  one-makes = let e : 1 * r.inKhz / r.inKhz ≡ 1 = mul-div_cancel 1 some in rw (rw (one-mul r.inKhz) at e) (omega arith)

  module _ {xs ys before : List ℤ} (t : Taking r xs ys before) where
    pub first-whole : length xs % r.inKhz ≡ 0
    first-whole = rw t.one (mod_self r.inKhz)

    first-makes : outputs r (length xs) ≡ r.outKhz
    first-makes = rw t.one one-makes

    pub first-room : outputs r (length xs) ≤ length before
    first-room = omega (arith, first-makes, t.room)

    -- what is lent to the second
    pub rest-room : (o : List ℤ) → length o ≡ length before → outputs r (length ys) ≤ length (mid_of r.outKhz (length o - r.outKhz) o)
    rest-room o l =
        let k = r.outKhz in
        omega (arith, t.room, l, length-take (length o - k) (drop k o), length-drop k o)

    -- ---- the two are one, where a pass puts out what its milliseconds make

    module _ {S : Type 0} (out : S → List ℤ → List ℤ) (next : S → List ℤ → S)
        (count : (s : S) (zs : List ℤ) → length zs % r.inKhz ≡ 0 → length (out s zs) ≡ outputs r (length zs)) where
      pub twice-staged : {s b q : S} {o zs : List ℤ} → Staged (out s xs) (next s xs) before o b
          → Staged (out b ys) (next b ys) (mid_of r.outKhz (length o - r.outKhz) o) zs q
          → Staged (twice out next s xs ys) (twice_end next s xs ys) before (put_mid r.outKhz (length o - r.outKhz) o zs) q
      twice-staged {s} {b} {q} {o} {zs} a c =
          let w = a.carried in
          let l = count s xs first-whole ∙ first-makes in
          let k = sym l in
          let m = count (next s xs) ys t.whole in
          record {
            filled = (λ i. put_mid (k i) (length o - k i) o zs)
                ∙ over-behind (out s xs) (out (next s xs) ys) before (omega (arith, l, m, t.room)) a.filled
                (c.filled ∙ (λ i. over (out (w i) ys) (mid_of (k i) (length o - k i) o)));
            carried = c.carried ∙ (λ i. next (w i) ys);
          }

  -- ---- how many samples a pass of a stage with a reader puts out

  pub iir_fir_pass-length : (s : List ℤ × List ℤ) (xs : List ℤ) → length xs % r.inKhz ≡ 0 → length (iir_fir_pass r s xs) ≡ outputs r (length xs)
  unfolding iir_fir_pass
  iir_fir_pass-length = Pass.pass-length r.inKhz r.outKhz 10 some (omega arith) (iir_fir_batch r) iir_fir_next (iir_fir_batch-length r)

  pub down_pass-length : (g : Filter) (s : List ℤ × List ℤ) (xs : List ℤ) → length xs % r.inKhz ≡ 0 → length (down_pass g r s xs) ≡ outputs r (length xs)
  unfolding down_pass
  down_pass-length g = Pass.pass-length r.inKhz r.outKhz 10 some (omega arith) (down_batch g r) (down_next g) (down_batch-length g r)

-- what two passes ask, of a record's rates
pub takes : (s : Record) {r : Rates} {xs ys out : List ℤ} → r ≡ rates_of (pair_of s) → length xs ≡ s.inKhz → length ys % s.inKhz ≡ 0
    → room_of s ys ≤ length out → Taking r xs ys out
takes s e a b c = rw e (record { one = a; whole = b; room = c })

-- ---- both passes of a call, where each is a stage's on a state that is the words of the path

module _ (s : Record) {S : Type 0} (words : S → Words) (out : S → List ℤ → List ℤ) (next : S → List ℤ → S)
    (same : (t : S) (xs : List ℤ) → (pass (pair_of s) (words t) xs ≡ out t xs) × (pass_words (pair_of s) (words t) xs ≡ words (next t xs))) where
  pub both-staged : {t u : S} {xs ys before after : List ℤ} {q : Record} → live s ≡ words t
      → Staged (twice out next t xs ys) (twice_end next t xs ys) before after u → q ≡ keeping (pair_of s) (words u) s.delay
      → Staged (both_out s xs ys) (moved s xs ys) before after q
  unfolding both_out moved
  both-staged {t} {u} {xs} {ys} {before} l st e =
      let p = pair_of s in
      let (o, w) = same t xs in
      let (o2, w2) = same (next t xs) ys in
      let made = (λ i. pass p (l i) xs ++ pass p (pass_words p (l i) xs) ys) ∙ (λ i. o i ++ pass p (w i) ys) ∙ ap (λ (v : List ℤ). out t xs ++ v) o2 in
      let left = (λ i. pass_words p (pass_words p (l i) xs) ys) ∙ (λ i. pass_words p (w i) ys) ∙ w2 in
      record {
        filled = st.filled ∙ (λ i. over (sym made i) before);
        carried = e ∙ (λ i. keeping p (words (st.carried i)) s.delay) ∙ (λ i. keeping p (sym left i) s.delay);
      }
