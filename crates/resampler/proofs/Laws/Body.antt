-- A record's bytes, part by part: each is put where the last one ended. Assumes nothing.
use mathlib.Core.Path.{◌≡◌, refl, sym, ap, subst, ◌∙◌}
use mathlib.Core.List.{List, [], ◌∷◌, ◌++◌, append-nil, append_assoc}
use Prim.Native.Nat.{ℕ, ◌+◌, ◌*◌, ◌≤◌}
use native.Mathlib.Omega.{arith}
use lib.IntN.{ℤ}
use lib.ListN.{length, take, drop, replicate, length-append, length-drop}
use lib.Seq.{take_at, take_all}
use Rattle.filters.proofs.Laws.Lists.{drop-none}
use Rattle.stages.proofs.Laws.Loop.{Filling, fill_start, fill_end, fill-count}
use Rattle.resampler.specs.declared.Record.{Record}
use Rattle.resampler.specs.Record.{cleaned}
use Rattle.little_endian.specs.Bytes.{bytes, bits_of, laid}
use Rattle.resampler.specs.Block.{layout, body, weighed, check, block_of}
use Rattle.little_endian.proofs.Laws.Bytes.{laid-length}
use Rattle.resampler.proofs.Laws.Entries.{Whole}
use Rattle.little_endian.proofs.Laws.Place.{placed, place-part}

-- six parts, from the right
pub six-right : (a b c d e f : List ℕ) → a ++ b ++ c ++ d ++ e ++ f ≡ a ++ (b ++ (c ++ (d ++ (e ++ f))))
six-right a b c d e f =
    append_assoc (a ++ b ++ c ++ d) e f ∙ append_assoc (a ++ b ++ c) d (e ++ f)
    ∙ append_assoc (a ++ b) c (d ++ (e ++ f)) ∙ append_assoc a b (c ++ (d ++ (e ++ f)))

module _ (s : Record) (old : List ℕ) (room : length old ≡ 512) (w : Whole s) where
  -- the words of an array
  put-words : (k m n at : ℕ) (ws : List ℤ) (rest : List ℕ) {o z : List ℕ} → length ws ≡ m → k * m ≡ n
      → Filling (body s) old at o (laid k ws ++ rest) → at + n ≤ 512 → z ≡ placed at (laid k ws) (k * length ws) o → Filling (body s) old (at + n) z rest
  put-words k m n at ws rest l e f h p =
      let q : k * length ws ≡ n = ap (λ (j : ℕ). k * j) l ∙ e in
      place-part (laid k ws) n (laid-length (bits_of k) k ws ∙ q) f (omega (arith, f.len)) (rw q at p)

  -- what comes behind each part
  abbrev pads : List ℕ
  pads = replicate 216 0

  abbrev r4 : List ℕ
  r4 = laid 2 s.delay ++ pads

  abbrev r3 : List ℕ
  r3 = laid 4 s.fir ++ r4

  abbrev r2 : List ℕ
  r2 = laid 4 s.ar2 ++ r3

  abbrev r1 : List ℕ
  r1 = laid 2 s.samples ++ r2

  pair_put : {z : List ℕ} → z ≡ (s.direction ∷ s.inKhz ∷ s.outKhz ∷ layout ∷ []) ++ drop 4 old
      → Filling (body s) old 4 z (laid 4 s.doubler ++ r1)
  unfolding body
  pair_put {z} e =
      let right = six-right (laid 4 s.doubler) (laid 2 s.samples) (laid 4 s.ar2) (laid 4 s.fir) (laid 2 s.delay) pads in
      subst (λ (t : List ℕ). Filling (body s) old 4 z t) right
      (place-part (s.direction ∷ s.inKhz ∷ s.outKhz ∷ layout ∷ []) 4 refl (fill_start (body s) old) (omega arith) e)

  pub body-put : {b1 b2 b3 b4 b5 b6 b7 : List ℕ}
      → b1 ≡ (s.direction ∷ s.inKhz ∷ s.outKhz ∷ layout ∷ []) ++ drop 4 old
      → b2 ≡ placed 4 (laid 4 s.doubler) (4 * length s.doubler) b1
      → b3 ≡ placed 28 (laid 2 s.samples) (2 * length s.samples) b2
      → b4 ≡ placed 44 (laid 4 s.ar2) (4 * length s.ar2) b3
      → b5 ≡ placed 52 (laid 4 s.fir) (4 * length s.fir) b4
      → b6 ≡ placed 196 (laid 2 s.delay) (2 * length s.delay) b5
      → b7 ≡ placed 292 (replicate 216 0) 216 b6
      → b7 ≡ body s ++ drop 508 old
  body-put e1 e2 e3 e4 e5 e6 e7 =
      let f1 = pair_put e1 in
      let f2 = put-words 4 6 24 4 s.doubler r1 w.0 refl f1 (omega arith) e2 in
      let f3 = put-words 2 8 16 28 s.samples r2 w.1 refl f2 (omega arith) e3 in
      let f4 = put-words 4 2 8 44 s.ar2 r3 w.2 refl f3 (omega arith) e4 in
      let f5 = put-words 4 36 144 52 s.fir r4 w.3 refl f4 (omega arith) e5 in
      let f6 = put-words 2 48 96 196 s.delay pads w.4 refl f5 (omega arith) e6 in
      let f7 = place-part {rest = []} pads 216 refl f6 (omega (arith, f6.len)) e7 in
      fill_end (body s) old f7 ∙ rw (← fill-count (body s) old f7) refl

-- ---- the check behind it

pub sealed : (b : List ℕ) {n : ℕ} {z : List ℕ} → length b ≡ 512 → n ≡ check b → z ≡ placed 508 (bytes 4 n) 4 b → z ≡ take 508 b ++ bytes 4 (check b)
sealed b l e p = p ∙ rw (drop-none b 512 (omega arith), append-nil, e) refl

-- a cleaned record's body, with its check, is the block
pub block_made : (s : Record) (old : List ℕ) {t : Record} {b z : List ℕ} → length old ≡ 512 → t ≡ cleaned s → b ≡ body t ++ drop 508 old
    → length b ≡ 512 → z ≡ take 508 b ++ bytes 4 (check b) → z ≡ block_of s
unfolding check block_of
block_made s old {t} {b} l h e m p =
    let r = body (cleaned s) in
    let d : b ≡ r ++ drop 508 old = e ∙ ap (λ (q : Record). body q ++ drop 508 old) h in
    let n : length r ≡ 508 = omega (arith, ap length d, length-append r (drop 508 old), length-drop 508 old) in
    let front : take 508 b ≡ r = ap (take 508) d ∙ take_at r (drop 508 old) 508 n in
    let all : take 508 r ≡ r = take_all 508 r (omega arith) in
    p ∙ (λ i. front i ++ bytes 4 (weighed 0 ((front ∙ sym all) i)))
