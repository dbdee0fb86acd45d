-- A loop over batches of at most n, each a part of the input, that lends on what is left of the output: its invariant, its
-- turn, its end; how many samples such a pass puts out; and a pass that is seen through a view. Assumes nothing.
use mathlib.Core.Path.{◌≡◌, refl, sym, ◌∙◌, ap}
use mathlib.Core.Bool.{Bool, true, false}
use mathlib.Core.List.{List, [], ◌∷◌, ◌++◌}
use Prim.Native.Nat.{ℕ, zero, suc, ◌+◌, ◌*◌, ◌-◌, ◌/◌, ◌%◌, ◌<◌, ◌≤◌, min}
use native.Mathlib.Nat.{add-mul, mul-sub, mul_comm, mul-div_cancel, mul-le-mul_right, mul-mod_left, div-add-mod'}
use native.Mathlib.Omega.{arith}
use borrow.Author.Tests.{leb-true, leb-false}
use borrow.Rule.Slice.PartMut.{mid_of, put_mid}
use lib.Dec.{leb}
use lib.IntN.{ℤ}
use lib.ListN.{length, take, drop, length-append, length-take, length-drop, drop_of_length-le}
use lib.Seq.{take_all, take-length, drop-length, take-append_seam, drop-append_seam}
use Rattle.filters.specs.Lists.{joined, pieces, cut}
use Rattle.filters.specs.Run.{run, end, pass_out, pass_end}
use Rattle.stages.specs.Outcome.{over}
use Rattle.filters.proofs.Laws.Lists.{cut-nil, cut-next}
use Rattle.stages.proofs.Laws.Loop.{Filling, fill_start, fill-part, fill-room, fill_end, fill-count}

-- ---- a turn

-- at most n, where fewer may be left
module _ {A : Type 0} (n : ℕ) (ys : List A) where
  fewest : (b : Bool) → leb n (length ys) ≡ b → (take n ys ≡ take (min (length ys) n) ys) × (drop n ys ≡ drop (min (length ys) n) ys)
  fewest true e = let h = leb-true n (length ys) e in let m : min (length ys) n ≡ n = omega arith in rw m (refl, refl)
  fewest false e =
      let h = leb-false n (length ys) e in
      let m : min (length ys) n ≡ length ys = omega arith in
      rw m (take_all n ys (omega arith) ∙ sym (take-length ys), drop_of_length-le ys {i = n} (omega arith) ∙ sym (drop-length ys))

-- a part of at most n, and what is left behind it
module _ {A : Type 0} (n : ℕ) {left : List A} (part rest : List A) (e : left ≡ part ++ rest) (l : length part ≡ min n (length left)) where
  parted : (take n left ≡ part) × (drop n left ≡ rest)
  parted =
      let (t, d) = fewest n left (leb n (length left)) refl in
      let m : length part ≡ min (length left) n = omega arith in
      (t ∙ rw (← m, e) (take-append_seam part rest), d ∙ rw (← m, e) (drop-append_seam part rest))

  cut-here : 0 < n → 0 < length left → cut n left ≡ part ∷ cut n rest
  cut-here p h = cut-next n left p h ∙ rw (parted.0, parted.1) refl

module _ {S A B : Type 0} (out : S → List A → List B) (next : S → List A → S) (n : ℕ) (xs : List A) (before : List B) (s₀ : S) where
  -- the output is written up to `done`, the state is s, and the input `left` is still to come
  pub record Passing (done : ℕ) (o : List B) (s : S) (left : List A) : Type 0 where
    pub room : length (pass_out out next n s₀ xs) ≤ length before
    pub filling : Filling (pass_out out next n s₀ xs) before done o (joined (run out next s (cut n left)))
    pub state : end next s (cut n left) ≡ pass_end next n s₀ xs

  pass-start : length (pass_out out next n s₀ xs) ≤ length before → Passing 0 before s₀ xs
  unfolding pass_out pass_end
  pass-start h = record { room = h; filling = fill_start _ before; state = refl }

  -- a turn takes a part
  module _ {done : ℕ} {o : List B} {s : S} {left : List A} (part rest : List A) (here : cut n left ≡ part ∷ cut n rest) (f : Passing done o s left) where
    abbrev behind : List B
    behind = joined (run out next (next s part) (cut n rest))

    turn : Filling (pass_out out next n s₀ xs) before done o (out s part ++ behind)
    unfolding run joined
    turn = rw here at f.filling

    -- what it puts out has room
    pass-room : done + length (out s part) ≤ length o
    pass-room = let r = fill-room _ before (out s part ++ behind) turn f.room in omega (arith, length-append (out s part) behind)

    pass-turn : {zs : List B} {s' : S} → zs ≡ over (out s part) (mid_of done (length o - done) o) → s' ≡ next s part
        → Passing (done + length (out s part)) (put_mid done (length o - done) o zs) s' rest
    unfolding end
    pass-turn d q = rw q (record {
      room = f.room;
      filling = fill-part _ before (out s part) turn pass-room d;
      state = rw here at f.state;
    })

  pass-end : {done : ℕ} {o : List B} {s : S} {left : List A} → left ≡ [] → Passing done o s left
      → (o ≡ over (pass_out out next n s₀ xs) before) × (s ≡ pass_end next n s₀ xs) × (done ≡ length (pass_out out next n s₀ xs))
  unfolding run joined end
  pass-end e f =
      let none = rw (e, cut-nil n) at f.filling in
      (fill_end _ before none, rw (e, cut-nil n) at f.state, fill-count _ before none)

-- ---- a stage that makes of parts, one behind the other, what it makes of the whole: its pass is the stage itself

module _ {S A B : Type 0} (out : S → List A → List B) (next : S → List A → S) (n : ℕ) (p : 0 < n)
    (nothing : (s : S) → (out s [] ≡ []) × (next s [] ≡ s))
    (parts : (s : S) (xs : List A) → (out s xs ≡ out s (take n xs) ++ out (next s (take n xs)) (drop n xs)) × (next s xs ≡ next (next s (take n xs)) (drop n xs))) where
  pieces_whole : (fuel : ℕ) (s : S) (xs : List A) → length xs ≤ fuel
      → (joined (run out next s (pieces fuel n xs)) ≡ out s xs) × (end next s (pieces fuel n xs) ≡ next s xs)
  unfolding pieces run joined end
  pieces_whole zero s [] h = (sym (nothing s).0, sym (nothing s).1)
  pieces_whole zero s (x ∷ xs) h = absurd (omega arith)
  pieces_whole (suc k) s [] h = (sym (nothing s).0, sym (nothing s).1)
  pieces_whole (suc k) s (x ∷ xs) h =
      let ys : List A = x ∷ xs in
      let (o, e) = pieces_whole k (next s (take n ys)) (drop n ys) (omega (arith, length-drop n ys)) in
      (ap (λ (t : List B). out s (take n ys) ++ t) o ∙ sym (parts s ys).0, e ∙ sym (parts s ys).1)

  pub pass-whole : (s : S) (xs : List A) → (pass_out out next n s xs ≡ out s xs) × (pass_end next n s xs ≡ next s xs)
  unfolding pass_out pass_end cut
  pass-whole s xs = pieces_whole (length xs) s xs (omega arith)

  pub whole-start : (s : S) (xs : List A) {before : List B} → length (out s xs) ≤ length before → Passing out next n xs before s 0 before s xs
  whole-start s xs h = pass-start out next n xs _ s (rw (pass-whole s xs).0 h)

  pub whole-end : {s₀ s : S} {xs left : List A} {before o : List B} {done : ℕ} → left ≡ [] → Passing out next n xs before s₀ done o s left
      → (o ≡ over (out s₀ xs) before) × (s ≡ next s₀ xs)
  whole-end {s₀} {s} {xs} {before = before} h f =
      let (a, b, c) = pass-end out next n xs before s₀ h f in
      let (o, e) = pass-whole s₀ xs in
      (a ∙ ap (λ (t : List B). over t before) o, b ∙ e)

-- ---- whole units, k samples each

-- of m of them, a batch takes t, at most `most`
abbrev Taken : ℕ → ℕ → ℕ → ℕ → Type 0
Taken most m k t = (t ≤ m) × (t ≤ most) × (min (most * k) (m * k) ≡ t * k) × (m * k - most * k ≡ (m - t) * k)

taken : (most m k : ℕ) → (t : ℕ) × Taken most m k t
taken most m k = go (leb m most) refl
  where
    go : (b : Bool) → leb m most ≡ b → (t : ℕ) × Taken most m k t
    go true e =
        let s = leb-true m most e in
        let c = mul-le-mul_right k s in
        let z : m - m ≡ 0 = omega arith in
        (m, (omega arith, s, omega arith, rw z (omega arith)))
    go false e =
        let s = leb-false m most e in
        let c : most * k ≤ m * k = mul-le-mul_right k (omega arith) in
        (most, (omega arith, omega arith, omega arith, rw (mul_comm (m - most) k, mul-sub k m most, mul_comm k m, mul_comm k most)))

-- a batch and what it leaves are whole units again
batch-whole : (most k left : ℕ) → left % k ≡ 0 → (min left (most * k) % k ≡ 0) × ((left - min left (most * k)) % k ≡ 0)
batch-whole most k left h =
    let m = left / k in
    let e : left ≡ m * k = omega (arith, div-add-mod' left k) in
    let (t, (a, b, c, d)) = taken most m k in
    let f : min left (most * k) ≡ t * k = omega arith in
    let g : left - min left (most * k) ≡ (m - t) * k = omega arith in
    (rw f (mul-mod_left t k), rw g (mul-mod_left (m - t) k))

-- each unit makes `gives` outputs
module _ (unit gives most : ℕ) (p : 0 < unit) (q : 0 < most * unit) where
  none : (m : ℕ) → m * unit ≡ 0 → m * gives ≡ 0
  none zero e = omega arith
  none (suc m) e = absurd (omega (arith, add-mul 1 m unit))

  counted-whole : (n m : ℕ) → n ≡ m * unit → n / unit * gives ≡ m * gives
  counted-whole n m e = rw e (ap (λ (k : ℕ). k * gives) (mul-div_cancel m p))

  module _ {S : Type 0} (out : S → List ℤ → List ℤ) (next : S → List ℤ → S) (each : (s : S) (xs : List ℤ) → length (out s xs) ≡ length xs / unit * gives) where
    pieces-length : (fuel : ℕ) (s : S) (xs : List ℤ) (m : ℕ) → length xs ≡ m * unit → length xs ≤ fuel
        → length (joined (run out next s (pieces fuel (most * unit) xs))) ≡ m * gives
    unfolding pieces run joined
    pieces-length zero s xs m h l = sym (none m (omega arith))
    pieces-length (suc fuel) s [] m h l = sym (none m (sym h))
    pieces-length (suc fuel) s (x ∷ xs) m h l =
        let k = unit in
        let ys : List ℤ = x ∷ xs in
        let a = take (most * k) ys in
        let b = drop (most * k) ys in
        let (t, (t≤m, t≤most, ta, tb)) = taken most m k in
        let e : t + (m - t) ≡ m = omega arith in
        let first = each s a ∙ counted-whole (length a) t (length-take (most * k) ys ∙ ap (λ (n : ℕ). min (most * k) n) h ∙ ta) in
        let rest = pieces-length fuel (next s a) b (m - t) (length-drop (most * k) ys ∙ ap (λ (n : ℕ). n - most * k) h ∙ tb) (omega (arith, length-drop (most * k) ys)) in
        length-append (out s a) _ ∙ omega (arith, rw e at (add-mul t (m - t) gives))

    -- a pass over whole units puts out as many samples as they make
    pub pass-length : (s : S) (xs : List ℤ) → length xs % unit ≡ 0 → length (pass_out out next (most * unit) s xs) ≡ length xs / unit * gives
    unfolding pass_out cut
    pass-length s xs h =
        let m = length xs / unit in
        let e : length xs ≡ m * unit = omega (arith, div-add-mod' (length xs) unit) in
        pieces-length (length xs) s xs m e (omega arith)

-- ---- a pass over whole units, as `in_parts` makes it

-- `done` outputs are written into `o`, and the samples `left` are whole units
pub record Units {S : Type 0} (unit most : ℕ) (out : S → List ℤ → List ℤ) (next : S → List ℤ → S) (xs before : List ℤ) (s₀ : S)
    (done : ℕ) (o : List ℤ) (s : S) (left : List ℤ) : Type 0 where
  pub whole : length left % unit ≡ 0
  pub passing : Passing out next (most * unit) xs before s₀ done o s left

module _ {S : Type 0} (unit gives most : ℕ) (p : 0 < unit) (q : 0 < most * unit) (out : S → List ℤ → List ℤ) (next : S → List ℤ → S)
    (each : (s : S) (xs : List ℤ) → length (out s xs) ≡ length xs / unit * gives) {xs before : List ℤ} {s₀ : S} where
  pub units-start : length xs % unit ≡ 0 → length xs / unit * gives ≤ length before → Units unit most out next xs before s₀ 0 before s₀ xs
  units-start h room = record { whole = h; passing = pass-start out next _ xs before s₀ (rw (pass-length unit gives most p q out next each s₀ xs h) room) }

  -- a turn takes a part of at most `most` units
  module _ {done : ℕ} {o : List ℤ} {s : S} {left : List ℤ} (part rest : List ℤ) (e : left ≡ part ++ rest)
      (l : length part ≡ min (most * unit) (length left)) (h : 0 < length left) (f : Units unit most out next xs before s₀ done o s left) where
    here : cut (most * unit) left ≡ part ∷ cut (most * unit) rest
    here = cut-here (most * unit) part rest e l q h

    size : length part ≡ min (length left) (most * unit)
    size = omega arith

    pub units-whole : length part % unit ≡ 0
    units-whole = rw size (batch-whole most unit (length left) f.whole).0

    pub units-few : length part ≤ most * unit
    units-few = omega arith

    pub units-room : done + length part / unit * gives ≤ length o
    units-room = rw (← each s part) (pass-room out next _ xs before s₀ part rest here f.passing)

    pub units-turn : {zs : List ℤ} {s' : S} {written : ℕ} → written ≡ length part / unit * gives
        → zs ≡ over (out s part) (mid_of done (length o - done) o) → s' ≡ next s part
        → Units unit most out next xs before s₀ (done + written) (put_mid done (length o - done) o zs) s' rest
    units-turn w d t =
        let behind : length rest ≡ length left - min (length left) (most * unit) = omega (arith, ap length e, length-append part rest) in
        record {
          whole = rw behind (batch-whole most unit (length left) f.whole).1;
          passing = rw (w, ← each s part) (pass-turn out next _ xs before s₀ part rest here f.passing d t);
        }

  pub units-end : {done : ℕ} {o : List ℤ} {s : S} {left : List ℤ} → length xs % unit ≡ 0 → left ≡ [] → Units unit most out next xs before s₀ done o s left
      → (o ≡ over (pass_out out next (most * unit) s₀ xs) before) × (s ≡ pass_end next (most * unit) s₀ xs) × (done ≡ length xs / unit * gives)
  units-end w e f =
      let (a, b, c) = pass-end out next _ xs before s₀ e f.passing in
      (a, b, c ∙ pass-length unit gives most p q out next each s₀ xs w)

-- ---- a pass whose words are seen through a view, of words that keep P

module _ {S T A B : Type 0} (out : S → List A → List B) (next : S → List A → S) (seen : T → List A → List B) (then : T → List A → T) (view : S → T)
    (P : S → Type 0) (keeps : (s : S) (xs : List A) → P s → P (next s xs))
    (outs : (s : S) (xs : List A) → P s → out s xs ≡ seen (view s) xs) (nexts : (s : S) (xs : List A) → P s → view (next s xs) ≡ then (view s) xs) where
  run-seen : (s : S) (ps : List (List A)) → P s → (run out next s ps ≡ run seen then (view s) ps) × (view (end next s ps) ≡ end then (view s) ps) × P (end next s ps)
  unfolding run end
  run-seen s [] h = (refl, refl, h)
  run-seen s (x ∷ ps) h =
      let (a, b, c) = run-seen (next s x) ps (keeps s x h) in
      (rw (outs s x h, a, nexts s x h) refl, b ∙ rw (nexts s x h) refl, c)

  pub pass-seen : (n : ℕ) (s : S) (xs : List A) → P s
      → (pass_out out next n s xs ≡ pass_out seen then n (view s) xs) × (view (pass_end next n s xs) ≡ pass_end then n (view s) xs) × P (pass_end next n s xs)
  unfolding pass_out pass_end
  pass-seen n s xs h = let (a, b, c) = run-seen s (cut n xs) h in (rw a refl, b, c)
