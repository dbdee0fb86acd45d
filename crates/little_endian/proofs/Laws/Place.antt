-- Loops that fill a lent block from a place on: what stands before the place counts as filled. Assumes nothing.
use mathlib.Core.Path.{◌≡◌, refl, sym, ap, ◌∙◌}
use mathlib.Core.List.{List, [], ◌++◌, append-nil, append_assoc}
use Prim.Native.Nat.{ℕ, ◌+◌, ◌-◌, ◌≤◌}
use native.Mathlib.Omega.{arith}
use borrow.Rule.Slice.PartMut.{put_mid}
use lib.ListN.{length, take, drop, length-append, length-drop, drop_of_length-le}
use lib.Seq.{length-take-le, take_at, drop_at, drop-drop}
use Rattle.stages.proofs.Laws.Loop.{Filling, fill_end}

module _ {A : Type 0} where
  -- new, from a place on
  abbrev pub placed : ℕ → List A → ℕ → List A → List A
  placed at new n old = take at old ++ new ++ drop (at + n) old

  module _ (at : ℕ) (new old : List A) (within : at ≤ length old) where
    pub place_end : {k : ℕ} {o : List A} (n : ℕ) → length new ≡ n → Filling (take at old ++ new) old k o []
        → o ≡ placed at new n old
    place_end n l f =
        let a = length-take-le at old within in
        let m : length (take at old ++ new) ≡ at + n = length-append (take at old) new ∙ omega arith in
        fill_end _ old f ∙ rw m refl

  -- a part placed where the filling stands
  pub place-part : {whole before : List A} {k : ℕ} {o z rest : List A} (ys : List A) (n : ℕ) → length ys ≡ n
      → Filling whole before k o (ys ++ rest) → k + n ≤ length o → z ≡ placed k ys n o
      → Filling whole before (k + n) z rest
  place-part {whole} {before} {k} {o} {z} {rest} ys n l f h e =
      let a = length-take-le k o f.within in
      let d = length-drop (k + n) o in
      let front : length (take k o ++ ys) ≡ k + n = length-append (take k o) ys ∙ omega arith in
      let long : length z ≡ length o = ap length e ∙ length-append (take k o ++ ys) (drop (k + n) o) ∙ omega arith in
      record {
        len = long ∙ f.len;
        within = omega arith;
        same = ap (drop (k + n)) e ∙ drop_at (take k o ++ ys) (drop (k + n) o) (k + n) front
            ∙ sym (drop-drop n k o) ∙ ap (drop n) f.same ∙ drop-drop n k before;
        filled = ap (λ (t : List A). take (k + n) t ++ rest) e
            ∙ ap (λ (t : List A). t ++ rest) (take_at (take k o ++ ys) (drop (k + n) o) (k + n) front)
            ∙ append_assoc (take k o) ys rest ∙ f.filled;
      }

  -- a lent part that is written whole
  pub part-placed : (at k : ℕ) (new old : List A) → put_mid at k old new ≡ placed at new k old
  part-placed at k new old = rw (drop-drop k at old) (sym (append_assoc (take at old) new (drop (at + k) old)))

  -- a lent part that is filled whole
  pub part-filled : (at k : ℕ) (new old : List A) {i : ℕ} {o : List A} → at + k ≤ length old → length new ≡ k
      → Filling new (take (at + k - at) (drop at old)) i o [] → put_mid at (at + k - at) old o ≡ placed at new k old
  part-filled at k new old {i} {o} h l f =
      let e : at + k - at ≡ k = omega arith in
      let d = length-take-le k (drop at old) (omega (arith, length-drop at old)) in
      let none : drop (length new) (take k (drop at old)) ≡ [] = drop_of_length-le (take k (drop at old)) {i = length new} (omega arith) in
      let is : o ≡ new = rw e at (fill_end _ _ f) ∙ rw none (append-nil new) in
      rw (e, is) (part-placed at k new old)
