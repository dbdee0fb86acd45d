-- What holds of each of the thirty pairs, by one computed test for all of them; and where a rate stands in the matrices of
-- delays. Assumes nothing.
use Rattle.std.specs.Prelude.{if◌then◌else◌}
use mathlib.Core.Path.{◌≡◌, refl, sym, ◌∙◌, ap, subst}
use mathlib.Core.Logic.{◌⊎◌, inl, inr}
use mathlib.Core.Bool.{Bool, true, false, ◌&&◌, ◌||◌}
use mathlib.Core.List.{List, [], ◌∷◌}
use Prim.Native.Nat.{ℕ, zero, suc, ◌+◌, ◌*◌, ◌/◌, ◌<◌, ◌≤◌}
use native.Mathlib.Omega.{arith}
use borrow.Author.Tests.{eqb-true, leb-true, ltb-true}
use lib.Dec.{T, eqb, ltb, leb}
use Rattle.filters.specs.Lists.{every}
use Rattle.filters.proofs.Laws.Lists.{both_true}
use Rattle.resampler.specs.Pairs.{Pair, pair, three, five, has, supported, rate_id, raised}

-- ---- a test over the thirty

-- one of the numbers of a list that all pass
every-has : (Q : ℕ → Bool) (xs : List ℕ) → every Q xs ≡ true → (n : ℕ) → has xs n ≡ true → Q n ≡ true
every-has Q [] h n m = absurd (subst T (sym m) tt)
every-has Q (x ∷ xs) h n m = go (eqb n x) refl (λ t. every-has Q xs (both_true (Q x) (every Q xs) h).1 n t)
  where
    go : (b : Bool) → eqb n x ≡ b → (has xs n ≡ true → Q n ≡ true) → Q n ≡ true
    go true e later = ap Q (eqb-true n x e) ∙ (both_true (Q x) (every Q xs) h).0
    go false e later = later (ap (λ (b : Bool). b || has xs n) (sym e) ∙ m)

-- all of the encoder's, and all of the decoder's
abbrev pub each : (Pair → Bool) → Bool
each P = every (λ i. every (λ o. P (pair 1 i o)) three) five && every (λ i. every (λ o. P (pair 0 i o)) five) three

one_of : (a b : Bool) → (a || b) ≡ true → (a ≡ true) ⊎ (b ≡ true)
one_of true b h = inl refl
one_of false b h = inr h

-- supported is one of the encoder's or one of the decoder's
abbrev Ways : Pair → Type 0
Ways p = ((p.direction ≡ 1) × (has five p.inKhz ≡ true) × (has three p.outKhz ≡ true))
    ⊎ ((p.direction ≡ 0) × (has three p.inKhz ≡ true) × (has five p.outKhz ≡ true))

pub ways : (p : Pair) → supported p ≡ true → Ways p
unfolding supported
ways p h = go (one_of _ _ h)
  where
    go : ((eqb p.direction 1 && has five p.inKhz && has three p.outKhz) ≡ true)
        ⊎ ((eqb p.direction 0 && has three p.inKhz && has five p.outKhz) ≡ true) → Ways p
    go (inl e) = let (l, o) = both_true _ _ e in let (d, i) = both_true _ _ l in inl (eqb-true _ 1 d, i, o)
    go (inr e) = let (l, o) = both_true _ _ e in let (d, i) = both_true _ _ l in inr (eqb-true _ 0 d, i, o)

-- what a test shows of each of the thirty holds of every supported pair
pub of-each : (P : Pair → Bool) → each P ≡ true → (p : Pair) → supported p ≡ true → P p ≡ true
of-each P h p s = let (enc, dec) = both_true (every (λ i. every (λ o. P (pair 1 i o)) three) five) _ h in go enc dec (ways p s)
  where
    go : every (λ i. every (λ o. P (pair 1 i o)) three) five ≡ true → every (λ i. every (λ o. P (pair 0 i o)) five) three ≡ true → Ways p → P p ≡ true
    go enc dec (inl (d, i, o)) =
        let row = every-has (λ i. every (λ o. P (pair 1 i o)) three) five enc p.inKhz i in
        ap (λ (k : ℕ). P (pair k p.inKhz p.outKhz)) d ∙ every-has (λ o. P (pair 1 p.inKhz o)) three row p.outKhz o
    go enc dec (inr (d, i, o)) =
        let row = every-has (λ i. every (λ o. P (pair 0 i o)) five) three dec p.inKhz i in
        ap (λ (k : ℕ). P (pair k p.inKhz p.outKhz)) d ∙ every-has (λ o. P (pair 0 p.inKhz o)) five row p.outKhz o

-- directions and rates are small
pub small : (p : Pair) → supported p ≡ true → (p.direction ≤ 1) × (8 ≤ p.inKhz) × (p.inKhz ≤ 48) × (8 ≤ p.outKhz) × (p.outKhz ≤ 48)
small p h =
    let t = of-each (λ p. leb p.direction 1 && (leb 8 p.inKhz && (leb p.inKhz 48 && (leb 8 p.outKhz && leb p.outKhz 48)))) refl p h in
    let (d, t1) = both_true (leb p.direction 1) _ t in
    let (i, t2) = both_true (leb 8 p.inKhz) _ t1 in
    let (j, t3) = both_true (leb p.inKhz 48) _ t2 in
    let (o, q) = both_true (leb 8 p.outKhz) _ t3 in
    (leb-true _ 1 d, leb-true 8 _ i, leb-true _ 48 j, leb-true 8 _ o, leb-true _ 48 q)

-- no rate of 0 is supported
unsupported : (p : Pair) → (supported p ≡ true → ⊥) → supported p ≡ false
unsupported p h = go (supported p) h
  where
    go : (b : Bool) → (b ≡ true → ⊥) → b ≡ false
    go true n = absurd (n refl)
    go false n = refl

pub none-in : (p : Pair) → p.inKhz ≡ 0 → supported p ≡ false
none-in p e = unsupported p (λ h. omega (arith, (small p h).1))

pub none-out : (p : Pair) → p.outKhz ≡ 0 → supported p ≡ false
none-out p e = unsupported p (λ h. omega (arith, (small p h).3))

-- the test of a direction, the others ruled out
pub enc-only : (a : Bool) → (a || false) ≡ a
enc-only true = refl
enc-only false = refl

-- ---- rows and columns

pub id-three : (r : ℕ) → ltb (rate_id r) 3 ≡ has three r
unfolding rate_id
id-three r = go (eqb r 8) (eqb r 12) (eqb r 16) (eqb r 24) (eqb r 48)
  where
    go : (a b c d e : Bool) → ltb (if a then 0 else if b then 1 else if c then 2 else if d then 3 else if e then 4 else 5) 3 ≡ (a || (b || (c || false)))
    go true b c d e = refl
    go false true c d e = refl
    go false false true d e = refl
    go false false false true e = refl
    go false false false false true = refl
    go false false false false false = refl

pub id-five : (r : ℕ) → ltb (rate_id r) 5 ≡ has five r
unfolding rate_id
id-five r = go (eqb r 8) (eqb r 12) (eqb r 16) (eqb r 24) (eqb r 48)
  where
    go : (a b c d e : Bool) → ltb (if a then 0 else if b then 1 else if c then 2 else if d then 3 else if e then 4 else 5) 5 ≡ (a || (b || (c || (d || (e || false)))))
    go true b c d e = refl
    go false true c d e = refl
    go false false true d e = refl
    go false false false true e = refl
    go false false false false true = refl
    go false false false false false = refl

-- so a supported pair has its row and its column
abbrev Places : Pair → ℕ → ℕ → Type 0
Places p i o = (rate_id p.inKhz < i) × (rate_id p.outKhz < o)

pub places : (p : Pair) → supported p ≡ true → ((p.direction ≡ 0) → Places p 3 5) × ((p.direction ≡ 0 → ⊥) → Places p 5 3)
places p h = go (ways p h)
  where
    go : Ways p → ((p.direction ≡ 0) → Places p 3 5) × ((p.direction ≡ 0 → ⊥) → Places p 5 3)
    go (inl (d, i, o)) = (λ z. absurd (omega (arith, d, z)), λ n. (ltb-true _ 5 (id-five p.inKhz ∙ i), ltb-true _ 3 (id-three p.outKhz ∙ o)))
    go (inr (d, i, o)) = (λ z. (ltb-true _ 3 (id-three p.inKhz ∙ i), ltb-true _ 5 (id-five p.outKhz ∙ o)), λ n. absurd (n d))

-- ---- increments

-- one step more
pub raised-more : (k outHz goal i : ℕ) → raised 1 outHz goal (raised k outHz goal i) ≡ raised (suc k) outHz goal i
unfolding raised
raised-more zero outHz goal i = refl
raised-more (suc k) outHz goal i = go (ltb (i * outHz / 65536) goal) refl (raised-more k outHz goal (i + 1))
  where
    go : (b : Bool) → ltb (i * outHz / 65536) goal ≡ b → raised 1 outHz goal (raised k outHz goal (i + 1)) ≡ raised (suc k) outHz goal (i + 1)
        → raised 1 outHz goal (if b then raised k outHz goal (i + 1) else i) ≡ (if b then raised (suc k) outHz goal (i + 1) else i)
    go true e later = later
    go false e later = rw e refl

-- four steps, one at a time
pub raised-four : (outHz goal i : ℕ) {a b c d : ℕ} → a ≡ raised 1 outHz goal i → b ≡ raised 1 outHz goal a → c ≡ raised 1 outHz goal b → d ≡ raised 1 outHz goal c
    → d ≡ raised 4 outHz goal i
raised-four outHz goal i x y z w = w ∙ rw (z, y, x, raised-more 1 outHz goal i, raised-more 2 outHz goal i, raised-more 3 outHz goal i) refl
