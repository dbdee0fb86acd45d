-- The 2/3 decimator's loop: at each turn what is written, followed by what comes of the groups left, is the whole. Assumes nothing.
use mathlib.Core.Path.{◌≡◌, refl, sym, ap, ◌∙◌}
use mathlib.Core.List.{List, [], ◌∷◌}
use Prim.Native.Nat.{ℕ, ◌+◌, ◌*◌, ◌/◌, ◌%◌, ◌<◌, ◌≤◌}
use native.Mathlib.Omega.{arith}
use lib.IntN.{ℤ}
use lib.ListN.{length, set}
use Rattle.filters.specs.Lists.{tabulate, joined}
use Rattle.stages.specs.Outcome.{over}
use Rattle.filters.specs.Stage.Down2_3.{down23, down23_end}
use Rattle.stages.proofs.Laws.Loop.{Filling, fill_start, fill-two, fill_end}
use Rattle.filters.proofs.Laws.Group.{no-group, group-first, group-end, down23_end-length}

module _ (w₀ input before : List ℤ) where
  -- k groups are taken, and the samples `left` are still to come: the definition goes on from here to the same end
  pub record Grouping (k : ℕ) (o w left : List ℤ) : Type 0 where
    pub words : length w ≡ 6
    pub whole : length left % 3 ≡ 0
    pub room : 2 * (k + length left / 3) ≤ length before
    pub filling : Filling (down23 w₀ input) before (2 * k) o (down23 w left)
    pub state : down23_end w left ≡ down23_end w₀ input

  pub group-start : length w₀ ≡ 6 → length input % 3 ≡ 0 → 2 * (length input / 3) ≤ length before → Grouping 0 before w₀ input
  group-start h w r = record { words = h; whole = w; room = omega arith; filling = fill_start (down23 w₀ input) before; state = refl }

  module _ {k : ℕ} {o w left rest : List ℤ} {x y z : ℤ} (e : left ≡ x ∷ y ∷ z ∷ rest) (f : Grouping k o w left) where
    abbrev group : List ℤ
    group = x ∷ y ∷ z ∷ []

    pub group-room : 2 * k + 1 < length o
    group-room = omega (arith, f.room, ap length e, f.filling.len)

    pub group-turn : {a b : ℤ} {w' : List ℤ} → a ∷ b ∷ [] ≡ down23 w group → w' ≡ down23_end w group
        → Grouping (k + 1) (set (set o (2 * k) a) (2 * k + 1) b) w' rest
    group-turn d q =
        let two : 2 * k + 1 + 1 ≡ 2 * (k + 1) = omega arith in
        let next = rw (e, group-first w x y z rest f.words, ← d) at f.filling in
        rw q (record {
          words = down23_end-length w group f.words;
          whole = omega (arith, f.whole, ap length e);
          room = omega (arith, f.room, ap length e);
          filling = rw two at (fill-two (down23 w₀ input) before next group-room);
          state = rw (e, group-end w x y z rest f.words) at f.state;
        })

  pub group-stop : {k : ℕ} {o w left : List ℤ} → left ≡ [] → Grouping k o w left → (o ≡ over (down23 w₀ input) before) × (w ≡ down23_end w₀ input)
  unfolding down23 tabulate joined
  group-stop {k} {o} {w} none f = (fill_end (down23 w₀ input) before (rw none at f.filling), sym (no-group w f.words) ∙ rw none at f.state)
