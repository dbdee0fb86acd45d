-- A word or an output beside its exact value, through a section and through a row of them: the bounds of each section pass a
-- computed test, and one step keeps them. Assumes nothing.
use mathlib.Core.Path.{◌≡◌, refl, ap, ◌∙◌}
use mathlib.Core.Bool.{Bool, true, ◌&&◌}
use mathlib.Core.List.{List, [], ◌∷◌, map}
use Prim.Native.Nat.{ℕ, suc, ◌+◌, ◌*◌, ◌<◌, ◌≤◌}
use native.Mathlib.Omega.{arith}
use borrow.Author.Tests.{eqb-true, leb-true}
use lib.Dec.{eqb, leb}
use lib.IntN.{ℤ, pos, nat_abs, ◌+ℤ◌, ◌-ℤ◌, ◌*ℤ◌}
use lib.ListN.{length}
use mir.Syntax.{w32}
use mir.Val.{SFits}
use Rattle.fixed.specs.Fixed.{wrapped, times}
use Rattle.fixed.proofs.Laws.Integer.{P, N, pn-abs, Floor, shr-floor}
use Rattle.fixed.proofs.Laws.Ring.{#, lit, ◌⊕◌, ◌⊖◌, ◌⊗◌, of, eq_z}
use Rattle.fixed.proofs.Laws.Wrap.{pn-fits, wrap-id}
use Rattle.filters.specs.Section.{section_x, section_out, section_next, row_out, row_next}
use Rattle.filters.proofs.Laws.Lists.{both_true}
use Rattle.distance.specs.Exact.{Fraction, exact_out, exact_next, through_out, through_next}
use Rattle.distance.specs.Distance.{Matched}
use Rattle.distance.specs.Claims.{plain_out, plain_next}
use Rattle.distance.proofs.Laws.Error.{Off, together, out-off, word-off, plain, unplain}
use Rattle.distance.proofs.Laws.Fractions.{Is, is-out, is-next, out-under, next_under}

-- y is at most m in size, f is num / D, and y lies within e 64ths of it
pub record Near (D m e : ℕ) (y : ℤ) (f : Fraction) : Type 0 where
  pub size : nat_abs y ≤ m
  pub num : ℤ
  pub reads : Is f num D
  pub under : 0 < f.under
  pub off : Off 64 D e y num

-- a section's coefficient and what it lacks to 65536; the bounds of its word and of its output, in size and in error
pub record Bounds : Type 0 where
  pub a : ℕ
  pub b : ℕ
  pub word : ℕ
  pub out : ℕ
  pub off : ℕ
  pub out_off : ℕ

-- where the input is bounded by Δ, the word by S and the output by T
abbrev keeps : ℕ → ℕ → ℕ → ℕ → ℕ → ℕ → Bool
keeps a b q Δ S T = leb ((65536 + a) * Δ + a * S + 65536 * q) (65536 * S) && leb (b * S + a * Δ + 65536 * q) (65536 * T)

abbrev test : ℕ → ℕ → Bounds → Bool
test m Δ β =
    eqb (β.a + β.b) 65536
    && (keeps β.a β.b 1 m β.word β.out
    && (keeps β.a β.b 64 Δ β.off β.out_off
    && (leb (m + β.word) 2147483647 && leb (β.word + β.out) 2147483647)))

fits : (z : ℤ) → nat_abs z ≤ 2147483647 → SFits w32 z
fits z h =
    let p : P z < 2147483648 = omega (arith, pn-abs z, h) in
    let n : N z ≤ 2147483648 = omega (arith, pn-abs z, h) in
    pn-fits w32 z p n

minus-size : (x s : ℤ) (m k : ℕ) → nat_abs x ≤ m → nat_abs s ≤ k → nat_abs (x -ℤ s) ≤ m + k
minus-size x s m k h g =
    together (x -ℤ s) (P x + N s) (N x + P s) (m + k) (of (# x ⊖ # s))
    (omega (arith, pn-abs x, pn-abs s, h, g), omega (arith, pn-abs x, pn-abs s, h, g))

module _ (m Δ : ℕ) (β : Bounds) (t : test m Δ β ≡ true) (D : ℕ) {x s : ℤ} {g f : Fraction} (hx : Near D m Δ x g) (hs : Near D β.word β.off s f) where
  abbrev a : ℕ
  a = β.a

  abbrev b : ℕ
  b = β.b

  sides : (a + b ≡ 65536)
      × ((65536 + a) * m + a * β.word + 65536 * 1 ≤ 65536 * β.word) × (b * β.word + a * m + 65536 * 1 ≤ 65536 * β.out)
      × ((65536 + a) * Δ + a * β.off + 65536 * 64 ≤ 65536 * β.off) × (b * β.off + a * Δ + 65536 * 64 ≤ 65536 * β.out_off)
      × (m + β.word ≤ 2147483647) × (β.word + β.out ≤ 2147483647)
  sides =
      let (e, t1) = both_true (eqb (a + b) 65536) _ t in
      let (k, t2) = both_true (keeps a b 1 m β.word β.out) _ t1 in
      let (l, t3) = both_true (keeps a b 64 Δ β.off β.out_off) _ t2 in
      let (u, v) = both_true (leb (m + β.word) 2147483647) _ t3 in
      let (k1, k2) = both_true (leb ((65536 + a) * m + a * β.word + 65536 * 1) (65536 * β.word)) _ k in
      let (l1, l2) = both_true (leb ((65536 + a) * Δ + a * β.off + 65536 * 64) (65536 * β.off)) _ l in
      (eqb-true _ 65536 e, leb-true _ _ k1, leb-true _ _ k2, leb-true _ _ l1, leb-true _ _ l2, leb-true _ _ u, leb-true _ _ v)

  abbrev X : ℤ
  X = times (pos a) (x -ℤ s)

  floored : Floor (pos a *ℤ (x -ℤ s)) X 65536
  unfolding times
  floored = shr-floor (pos a *ℤ (x -ℤ s)) 65536 (omega arith)

  -- in size: the same law from 0
  abbrev none : ℤ
  none = pos 65536 *ℤ pos 0 +ℤ pos a *ℤ (pos 0 -ℤ pos 0)

  zero : none ≡ pos 0
  zero = eq_z (lit 65536 ⊗ lit 0 ⊕ lit a ⊗ (lit 0 ⊖ lit 0)) (lit 0) (omega arith)

  out-size : nat_abs (s +ℤ X) ≤ β.out
  out-size =
      let k = sides in
      unplain β.out (s +ℤ X) none zero
      (out-off a b 1 1 m β.word β.out k.0 x s (pos 0) (pos 0) X floored (plain m x hx.size) (plain β.word s hs.size) k.2)

  next-size : nat_abs (x +ℤ X) ≤ β.word
  next-size =
      let k = sides in
      unplain β.word (x +ℤ X) none zero
      (word-off a b 1 1 m β.word β.out k.0 x s (pos 0) (pos 0) X floored (plain m x hx.size) (plain β.word s hs.size) k.1)

  -- so nothing wraps
  x-is : section_x (pos a) s x ≡ X
  unfolding section_x
  x-is = ap (times (pos a)) (wrap-id (x -ℤ s) (fits (x -ℤ s) (omega (arith, minus-size x s m β.word hx.size hs.size, sides.5))))

  pub out-plain : section_out (pos a) s x ≡ s +ℤ X
  unfolding section_out
  out-plain = ap (λ (z : ℤ). wrapped (s +ℤ z)) x-is ∙ wrap-id (s +ℤ X) (fits (s +ℤ X) (omega (arith, out-size, sides.6)))

  pub next-plain : section_next (pos a) s x ≡ x +ℤ X
  unfolding section_next
  next-plain = ap (λ (z : ℤ). wrapped (x +ℤ z)) x-is ∙ wrap-id (x +ℤ X) (fits (x +ℤ X) (omega (arith, next-size, sides.5)))

  pub out-near : Near (65536 * D) β.out β.out_off (section_out (pos a) s x) (exact_out (pos a) f g)
  out-near =
      let k = sides in
      rw out-plain (record {
        size = out-size;
        num = pos 65536 *ℤ hs.num +ℤ pos a *ℤ (hx.num -ℤ hs.num);
        reads = is-out (pos a) f g hs.num hx.num D hs.reads hx.reads;
        under = out-under (pos a) f g hs.under hx.under;
        off = out-off a b 64 D Δ β.off β.out_off k.0 x s hx.num hs.num X floored hx.off hs.off k.4;
      })

  pub next-near : Near (65536 * D) β.word β.off (section_next (pos a) s x) (exact_next (pos a) f g)
  next-near =
      let k = sides in
      rw next-plain (record {
        size = next-size;
        num = pos 65536 *ℤ hx.num +ℤ pos a *ℤ (hx.num -ℤ hs.num);
        reads = is-next (pos a) f g hs.num hx.num D hs.reads hx.reads;
        under = next_under (pos a) f g hs.under hx.under;
        off = word-off a b 64 D Δ β.off β.out_off k.0 x s hx.num hs.num X floored hx.off hs.off k.3;
      })

-- ---- a row of sections, the first over D, each over 65536 times the one before

abbrev pub RowNear : ℕ → List Bounds → List ℤ → List Fraction → Type 0
RowNear D [] [] [] = Unit {0}
RowNear D [] [] (f ∷ fs) = ⊥
RowNear D [] (s ∷ ss) fs = ⊥
RowNear D (β ∷ βs) [] fs = ⊥
RowNear D (β ∷ βs) (s ∷ ss) [] = ⊥
RowNear D (β ∷ βs) (s ∷ ss) (f ∷ fs) = Near D β.word β.off s f × RowNear (65536 * D) βs ss fs

abbrev pub coefs : List Bounds → List ℤ
coefs βs = map (λ β. pos β.a) βs

-- the power, the size and the error at the end of the row; and the tests of all
abbrev pub power_after : ℕ → List Bounds → ℕ
power_after D [] = D
power_after D (β ∷ βs) = power_after (65536 * D) βs

abbrev pub size_after : ℕ → List Bounds → ℕ
size_after m [] = m
size_after m (β ∷ βs) = size_after β.out βs

abbrev pub off_after : ℕ → List Bounds → ℕ
off_after e [] = e
off_after e (β ∷ βs) = off_after β.out_off βs

abbrev pub tests : ℕ → ℕ → List Bounds → Bool
tests m Δ [] = true
tests m Δ (β ∷ βs) = test m Δ β && tests β.out β.out_off βs

pub row_out-near : (βs : List Bounds) (m Δ D : ℕ) → tests m Δ βs ≡ true → {x : ℤ} {g : Fraction} → Near D m Δ x g → (ss : List ℤ) (fs : List Fraction) → RowNear D βs ss fs
    → Near (power_after D βs) (size_after m βs) (off_after Δ βs) (row_out (coefs βs) ss x) (through_out exact_out exact_next (coefs βs) fs g)
unfolding row_out through_out
row_out-near [] m Δ D t hx [] [] h = hx
row_out-near [] m Δ D t hx [] (f ∷ fs) h = absurd h
row_out-near [] m Δ D t hx (s ∷ ss) fs h = absurd h
row_out-near (β ∷ βs) m Δ D t hx [] fs h = absurd h
row_out-near (β ∷ βs) m Δ D t hx (s ∷ ss) [] h = absurd h
row_out-near (β ∷ βs) m Δ D t hx (s ∷ ss) (f ∷ fs) (hs, h) =
    let (t1, t2) = both_true (test m Δ β) _ t in
    row_out-near βs β.out β.out_off (65536 * D) t2 (out-near m Δ β t1 D hx hs) ss fs h

pub row_next-near : (βs : List Bounds) (m Δ D : ℕ) → tests m Δ βs ≡ true → {x : ℤ} {g : Fraction} → Near D m Δ x g → (ss : List ℤ) (fs : List Fraction) → RowNear D βs ss fs
    → RowNear (65536 * D) βs (row_next (coefs βs) ss x) (through_next exact_out exact_next (coefs βs) fs g)
unfolding row_next through_next
row_next-near [] m Δ D t hx [] [] h = tt
row_next-near [] m Δ D t hx [] (f ∷ fs) h = absurd h
row_next-near [] m Δ D t hx (s ∷ ss) fs h = absurd h
row_next-near (β ∷ βs) m Δ D t hx [] fs h = absurd h
row_next-near (β ∷ βs) m Δ D t hx (s ∷ ss) [] h = absurd h
row_next-near (β ∷ βs) m Δ D t hx (s ∷ ss) (f ∷ fs) (hs, h) =
    let (t1, t2) = both_true (test m Δ β) _ t in
    (next-near m Δ β t1 D hx hs, row_next-near βs β.out β.out_off (65536 * D) t2 (out-near m Δ β t1 D hx hs) ss fs h)

pub row-lengths : (βs : List Bounds) (D : ℕ) (ss : List ℤ) (fs : List Fraction) → RowNear D βs ss fs → (length ss ≡ length βs) × (length fs ≡ length βs)
row-lengths [] D [] [] h = (refl, refl)
row-lengths [] D [] (f ∷ fs) h = absurd h
row-lengths [] D (s ∷ ss) fs h = absurd h
row-lengths (β ∷ βs) D [] fs h = absurd h
row-lengths (β ∷ βs) D (s ∷ ss) [] h = absurd h
row-lengths (β ∷ βs) D (s ∷ ss) (f ∷ fs) (hs, h) = let (a, b) = row-lengths βs (65536 * D) ss fs h in (ap suc a, ap suc b)

-- ---- nothing wraps on the way

pub row_plain : (βs : List Bounds) (m Δ D : ℕ) → tests m Δ βs ≡ true → {x : ℤ} {g : Fraction} → Near D m Δ x g → (ss : List ℤ) (fs : List Fraction) → RowNear D βs ss fs
    → (row_out (coefs βs) ss x ≡ through_out plain_out plain_next (coefs βs) ss x) × (row_next (coefs βs) ss x ≡ through_next plain_out plain_next (coefs βs) ss x)
unfolding row_out row_next through_out through_next
row_plain [] m Δ D t hx [] [] h = (refl, refl)
row_plain [] m Δ D t hx [] (f ∷ fs) h = absurd h
row_plain [] m Δ D t hx (s ∷ ss) fs h = absurd h
row_plain (β ∷ βs) m Δ D t hx [] fs h = absurd h
row_plain (β ∷ βs) m Δ D t hx (s ∷ ss) [] h = absurd h
row_plain (β ∷ βs) m Δ D t {x} hx (s ∷ ss) (f ∷ fs) (hs, h) =
    let (t1, t2) = both_true (test m Δ β) _ t in
    let o = out-plain m Δ β t1 D hx hs in
    let n = next-plain m Δ β t1 D hx hs in
    let (p, q) = row_plain βs β.out β.out_off (65536 * D) t2 (out-near m Δ β t1 D hx hs) ss fs h in (
      p ∙ ap (λ (z : ℤ). through_out plain_out plain_next (coefs βs) ss z) o,
      λ i. n i ∷ (q ∙ ap (λ (z : ℤ). through_next plain_out plain_next (coefs βs) ss z) o) i,
    )

-- and the words keep their sizes
pub row-sizes : (βs : List Bounds) (D : ℕ) (ss : List ℤ) (fs : List Fraction) → RowNear D βs ss fs → Matched (λ s n. nat_abs s ≤ n) ss (map (λ β. β.word) βs)
row-sizes [] D [] [] h = tt
row-sizes [] D [] (f ∷ fs) h = absurd h
row-sizes [] D (s ∷ ss) fs h = absurd h
row-sizes (β ∷ βs) D [] fs h = absurd h
row-sizes (β ∷ βs) D (s ∷ ss) [] h = absurd h
row-sizes (β ∷ βs) D (s ∷ ss) (f ∷ fs) (hs, h) = (hs.size, row-sizes βs (65536 * D) ss fs h)
