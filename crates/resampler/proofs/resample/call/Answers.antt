-- `resampler::resample::call` meets its contract: the delay samples with the input written behind those that are carried are the
-- first millisecond, and both passes over it and the rest are what the call makes. Assumes nothing.
use mathlib.Core.Path.{◌≡◌, refl, sym}
use mathlib.Core.List.{List}
use Prim.Native.Nat.{ℕ, ◌-◌, ◌≤◌}
use native.Mathlib.Omega.{arith}
use lib.IntN.{ℤ}
use lib.ListN.{length, drop, length-take, length-drop}
use lib.Seq.{length-take-le}
use Rattle.resampler.specs.declared.Record.{Record}
use Rattle.resampler.specs.Pairs.{delay}
use Rattle.resampler.specs.Record.{pair_of}
use Rattle.resampler.specs.Resample.{Calling}
use Rattle.resampler.proofs.Laws.Pairs.{small}
use Rattle.resampler.proofs.Laws.Call.{delay-within, first_fits, first-filled, rest_part, carried-part, call-takes, call-is}
use Rattle.resampler.proofs.resample.call.Goals as goal

-- a delay is shorter than a millisecond, a millisecond is at most 48 samples, and there is one of input
facts : (s : Record) (xs : List ℤ) {room d : ℕ} → Calling s (length xs) room → d ≡ delay (pair_of s) → (d ≤ s.inKhz) × (s.inKhz ≤ 48) × (s.inKhz ≤ length xs)
facts s xs {room} k e =
    let w = delay-within (pair_of s) k.pair in
    (omega (arith, e, w), (small (pair_of s) k.pair).2, first_fits s xs room k)

pub overflow_sub-end : goal.overflow_sub-end
overflow_sub-end c = omega (arith, facts c.args.known.state c.args.input.now c.requires c.delay-d.ensures)

pub offset_bounds-buf-d : goal.offset_bounds-buf-d
offset_bounds-buf-d c = record { fits = omega (arith, facts c.args.known.state c.args.input.now c.requires c.delay-d.ensures) }

pub slice_bounds-copy_from_slice-count : goal.slice_bounds-copy_from_slice-count
slice_bounds-copy_from_slice-count c = (facts c.args.known.state c.args.input.now c.requires c.delay-d.ensures).0

pub slice_bounds-buf-start : goal.slice_bounds-buf-start
slice_bounds-buf-start c = (facts c.args.known.state c.args.input.now c.requires c.delay-d.ensures).0

pub slice_bounds-buf-end : goal.slice_bounds-buf-end
slice_bounds-buf-end c = omega (arith, facts c.args.known.state c.args.input.now c.requires c.delay-d.ensures, c.requires.delay)

pub slice_bounds-copy_from_slice-count-2 : goal.slice_bounds-copy_from_slice-count-2
slice_bounds-copy_from_slice-count-2 c = (facts c.args.known.state c.args.input.now c.requires c.delay-d.ensures).0

pub slice_bounds-buf-end-2 : goal.slice_bounds-buf-end-2
slice_bounds-buf-end-2 c =
    let s = c.args.known.state in
    let filled = first-filled s c.args.input.now _ c.requires c.copy_from_slice.new.self c.delay-d.ensures c.copy_from_slice.ensures.after in
    omega (arith, filled.1, facts s c.args.input.now c.requires c.delay-d.ensures)

pub slice_bounds-parts-end : goal.slice_bounds-parts-end
slice_bounds-parts-end c =
    let s = c.args.known.state in
    let filled = first-filled s c.args.input.now _ c.requires c.copy_from_slice.new.self c.delay-d.ensures c.copy_from_slice.ensures.after in
    sym (length-take-le s.inKhz _ (omega (arith, filled.1, facts s c.args.input.now c.requires c.delay-d.ensures)))

pub overflow_sub-parts : goal.overflow_sub-parts
overflow_sub-parts c = (facts c.args.known.state c.args.input.now c.requires c.delay-d.ensures).0

pub carried-after-requires : goal.carried-after-requires
carried-after-requires c =
    let xs = c.args.input.now in
    let m = length xs - c.delay-d.result in
    omega (arith, facts c.args.known.state xs c.requires c.delay-d.ensures, length-take (length xs - m) (drop m xs), length-drop m xs)

pub invariant_of-parts : goal.invariant_of-parts
invariant_of-parts c =
    let s = c.args.known.state in
    let xs = c.args.input.now in
    let filled = first-filled s xs _ c.requires c.copy_from_slice.new.self c.delay-d.ensures c.copy_from_slice.ensures.after in
    let t = call-takes s xs _ c.requires filled.0 (rest_part s xs _ c.requires c.delay-d.ensures) {out = c.args.out.now} refl in
    record { one = t.one; whole = t.whole }

pub both-after-requires : goal.both-after-requires
both-after-requires c =
    let s = c.args.known.state in
    let xs = c.args.input.now in
    let filled = first-filled s xs _ c.requires c.copy_from_slice.new.self c.delay-d.ensures c.copy_from_slice.ensures.after in
    let t = call-takes s xs _ c.requires filled.0 (rest_part s xs _ c.requires c.delay-d.ensures) {out = c.args.out.now} refl in
    t.room

pub returns : goal.returns
returns c =
    let s = c.args.known.state in
    let xs = c.args.input.now in
    let e = c.delay-d.ensures in
    let filled = first-filled s xs _ c.requires c.copy_from_slice.new.self e c.copy_from_slice.ensures.after in
    call-is s xs _ c.requires filled.0 (rest_part s xs _ c.requires e) (carried-part s xs _ c.requires e) c.carried-after.ensures c.both-after.ensures
