-- Loops that fill a lent output from the front: at each turn, what is written and what is still to come is the whole.
-- So an invariant speaks of what is left, and the turn unfolds the definition once. Assumes nothing.
use mathlib.Core.Path.{◌≡◌, refl, sym, ◌∙◌, ap}
use mathlib.Core.List.{List, [], ◌∷◌, ◌++◌, append-nil, append_assoc}
use Prim.Native.Nat.{ℕ, ◌+◌, ◌-◌, ◌<◌, ◌≤◌}
use native.Mathlib.Numerals.{add-one}
use native.Mathlib.Omega.{arith}
use borrow.Rule.Slice.PartMut.{mid_of, put_mid}
use lib.ListN.{length, take, drop, set, length-drop, drop_of_length-le, length-append, length-set, take-append-drop}
use lib.Seq.{length-take-le, take-append_seam, drop-append_seam, take_all, take_at, drop_at, take-suc-set, drop-set-lt, drop-drop, append_snoc}
use Rattle.filters.specs.Lists.{joined}
use Rattle.filters.specs.Run.{run, end}
use Rattle.stages.specs.Outcome.{over}
use Rattle.filters.proofs.Laws.Run.{run_length}

pub length-zero : {A : Type 0} (xs : List A) → length xs ≡ 0 → xs ≡ []
length-zero [] h = refl
length-zero (x ∷ xs) h = absurd (omega arith)

-- ---- whatever it is filled with

module _ {A : Type 0} (whole before : List A) where
  -- at place k the output is o, and rest is still to come
  pub record Filling (k : ℕ) (o rest : List A) : Type 0 where
    pub len : length o ≡ length before
    pub within : k ≤ length o
    pub same : drop k o ≡ drop k before
    pub filled : take k o ++ rest ≡ whole

  pub fill_start : Filling 0 before whole
  fill_start = record { len = refl; within = omega arith; same = refl; filled = refl }

  -- a store
  pub fill_one : {k : ℕ} {o rest : List A} {y : A} → Filling k o (y ∷ rest) → k < length o → Filling (k + 1) (set o k y) rest
  fill_one {k} {o} {rest} {y} f h = record {
    len = length-set o k y ∙ f.len;
    within = omega (arith, length-set o k y);
    same = drop-set-lt (k + 1) o k y (omega arith) ∙ sym (drop-drop 1 k o) ∙ ap (drop 1) f.same ∙ drop-drop 1 k before;
    filled = rw (add-one, take-suc-set o k y h, append_snoc) f.filled;
  }

  -- two stores
  pub fill-two : {k : ℕ} {o rest : List A} {y z : A} → Filling k o (y ∷ z ∷ rest) → k + 1 < length o
      → Filling (k + 1 + 1) (set (set o k y) (k + 1) z) rest
  fill-two {k} {o} {rest} {y} {z} f h = fill_one (fill_one f (omega arith)) (omega (arith, length-set o k y))

  -- what is left of the output is lent to a stage that leaves ys in front of it
  pub fill-part : {k : ℕ} {o rest zs : List A} (ys : List A) → Filling k o (ys ++ rest) → k + length ys ≤ length o
      → zs ≡ over ys (mid_of k (length o - k) o) → Filling (k + length ys) (put_mid k (length o - k) o zs) rest
  fill-part {k} {o} {rest} {zs} ys f h e =
      let n = length o - k in
      let ld = length-drop k o in
      let lt = length-take-le k o f.within in
      let all = take_all n (drop k o) (omega arith) in
      let after = drop_of_length-le (drop k o) {i = n} (omega arith) in
      let is : put_mid k n o zs ≡ (take k o ++ ys) ++ drop (k + length ys) o =
      rw (e, all, after, append-nil, drop-drop (length ys) k o) (sym (append_assoc (take k o) ys (drop (k + length ys) o))) in
      let front : length (take k o ++ ys) ≡ k + length ys = length-append (take k o) ys ∙ omega arith in
      let total = length-append (take k o ++ ys) (drop (k + length ys) o) in
      let l : length (put_mid k n o zs) ≡ length o = ap length is ∙ total ∙ omega (arith, length-drop (k + length ys) o) in
      record {
        len = l ∙ f.len;
        within = omega arith;
        same = ap (drop (k + length ys)) is ∙ drop_at (take k o ++ ys) (drop (k + length ys) o) (k + length ys) front
            ∙ sym (drop-drop (length ys) k o) ∙ ap (drop (length ys)) f.same ∙ drop-drop (length ys) k before;
        filled = ap (λ (t : List A). take (k + length ys) t ++ rest) is
            ∙ ap (λ (t : List A). t ++ rest) (take_at (take k o ++ ys) (drop (k + length ys) o) (k + length ys) front)
            ∙ append_assoc (take k o) ys rest ∙ f.filled;
      }

  -- what is still to come has room, if the whole has
  pub fill-room : {k : ℕ} {o : List A} (rest : List A) → Filling k o rest → length whole ≤ length before → k + length rest ≤ length o
  fill-room {k} {o} rest f h =
      omega (arith, ap length f.filled, length-append (take k o) rest, length-take-le k o f.within, f.len)

  -- nothing is still to come
  pub fill_end : {k : ℕ} {o : List A} → Filling k o [] → o ≡ over whole before
  fill_end {k} {o} f =
      let w : take k o ≡ whole = sym (append-nil (take k o)) ∙ f.filled in
      let l : k ≡ length whole = sym (length-take-le k o f.within) ∙ ap length w in
      sym (take-append-drop k o) ∙ rw (w, f.same, l) refl

  -- and so many were written
  pub fill-count : {k : ℕ} {o : List A} → Filling k o [] → k ≡ length whole
  fill-count {k} {o} f = sym (length-take-le k o f.within) ∙ ap length (sym (append-nil (take k o)) ∙ f.filled)

pub over-length : {A : Type 0} (new old : List A) → length new ≤ length old → length (over new old) ≡ length old
over-length new old h = length-append new _ ∙ omega (arith, length-drop (length new) old)

-- what was put in front stands there
pub over-front : {A : Type 0} (new old : List A) (k : ℕ) {o : List A} → length new ≡ k → o ≡ over new old → take k o ≡ new
over-front new old k l e = rw (e, ← l) (take-append_seam new (drop (length new) old))

-- what fills an output to its end leaves nothing of it
pub over-full : {A : Type 0} (new old : List A) → length old ≡ length new → over new old ≡ new
over-full new old e = rw (drop_of_length-le old {i = length new} (omega arith)) (append-nil new)

-- an output whose front is filled already
pub fill-front : {A : Type 0} (ys rest before : List A) {o : List A} → length ys ≤ length before → o ≡ over ys before
    → Filling (ys ++ rest) before (length ys) o rest
fill-front ys rest before h e =
    let l = over-length ys before h in
    rw e (record {
      len = l;
      within = omega arith;
      same = drop-append_seam ys (drop (length ys) before);
      filled = rw (take-append_seam ys (drop (length ys) before)) refl;
    })

-- b behind a, each put where the other ends
pub over-behind : {A : Type 0} (a b before : List A) {o zs : List A} → length a + length b ≤ length before → o ≡ over a before
    → zs ≡ over b (mid_of (length a) (length o - length a) o) → put_mid (length a) (length o - length a) o zs ≡ over (a ++ b) before
over-behind a b before {o} {zs} h e d =
    let f = fill-front a (b ++ []) before (omega arith) e in
    let w = ap (λ (t : List _). a ++ t) (append-nil b) in
    fill_end _ before (rw w at (fill-part _ before b f (omega (arith, f.len)) d))

-- ---- a run that carries a state, one store a turn

module _ {S A B : Type 0} (out : S → A → B) (next : S → A → S) (s₀ : S) (xs : List A) (before : List B) where
  -- k outputs are written, the state is s, and the inputs `left` are still to come
  pub record Running (k : ℕ) (o : List B) (s : S) (left : List A) : Type 0 where
    pub room : length xs ≤ length before
    pub filling : Filling (run out next s₀ xs) before k o (run out next s left)
    pub state : end next s left ≡ end next s₀ xs

  pub run-start : length xs ≤ length before → Running 0 before s₀ xs
  run-start h = record { room = h; filling = fill_start (run out next s₀ xs) before; state = refl }

  -- so many inputs are left
  pub run-left : {k : ℕ} {o : List B} {s : S} {left : List A} → Running k o s left → k + length left ≡ length xs
  run-left {k} {o} {s} {left} r =
      omega (arith, ap length r.filling.filled, length-append (take k o) (run out next s left), length-take-le k o r.filling.within, run_length out next s left, run_length out next s₀ xs)

  module _ {k : ℕ} {o : List B} {s : S} {at left : List A} {x : A} (first : at ≡ x ∷ left) (r : Running k o s at) where
    turned : Running k o s (x ∷ left)
    turned = rw first at r

    -- the next output has room
    pub run_room : k < length o
    run_room =
        let l = run_length out next s (x ∷ left) in
        let m = fill-room (run out next s₀ xs) before _ turned.filling (omega (arith, run_length out next s₀ xs, r.room)) in
        omega arith

    pub run-turn : {s' : S} {y : B} → y ≡ out s x → s' ≡ next s x → Running (k + 1) (set o k y) s' left
    unfolding run end
    run-turn e d = rw (e, d) (record {
      room = r.room;
      filling = fill_one (run out next s₀ xs) before turned.filling run_room;
      state = turned.state;
    })

  pub run_end : {k : ℕ} {o : List B} {s : S} {at : List A} → at ≡ [] → Running k o s at
      → (o ≡ over (run out next s₀ xs) before) × (s ≡ end next s₀ xs)
  unfolding run end
  run_end none r = let l = rw none at r in (fill_end (run out next s₀ xs) before l.filling, l.state)

-- ---- the same with two stores a turn

module _ {S A B : Type 0} (out : S → A → List B) (next : S → A → S) (s₀ : S) (xs : List A) (before : List B) where
  -- all that the run puts out
  abbrev whole : List B
  whole = joined (run out next s₀ xs)

  pub record Doubling (k : ℕ) (o : List B) (s : S) (left : List A) : Type 0 where
    pub room : length whole ≤ length before
    pub filling : Filling whole before k o (joined (run out next s left))
    pub state : end next s left ≡ end next s₀ xs

  pub double-start : length whole ≤ length before → Doubling 0 before s₀ xs
  double-start h = record { room = h; filling = fill_start whole before; state = refl }

  module _ {k : ℕ} {o : List B} {s : S} {at left : List A} {x : A} {y z : B} (first : at ≡ x ∷ left) (e : y ∷ z ∷ [] ≡ out s x) (r : Doubling k o s at) where
    two-first : Filling whole before k o (y ∷ z ∷ joined (run out next (next s x) left))
    unfolding run joined
    two-first = rw (← e) at (rw first at r.filling)

    pub double-room : k + 1 < length o
    double-room = let m = fill-room whole before _ two-first r.room in omega arith

    pub double-turn : {s' : S} → s' ≡ next s x → Doubling (k + 1 + 1) (set (set o k y) (k + 1) z) s' left
    unfolding end
    double-turn d = rw d (record {
      room = r.room;
      filling = fill-two whole before two-first double-room;
      state = rw first at r.state;
    })

  pub double-end : {k : ℕ} {o : List B} {s : S} {at : List A} → at ≡ [] → Doubling k o s at → (o ≡ over whole before) × (s ≡ end next s₀ xs)
  unfolding run joined end
  double-end none r = (fill_end whole before (rw none at r.filling), rw none at r.state)
