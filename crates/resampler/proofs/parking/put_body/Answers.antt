-- `resampler::parking::put_body` meets its contract: each part is put where the last one ended.
-- Assumes nothing.
use mathlib.Core.Path.{◌≡◌, refl, ap, ◌∙◌}
use borrow.Author.Rules.{rules}
use Prim.Native.Nat.{ℕ}
use native.Mathlib.Omega.{arith}
use borrow.Rule.Slice.PartMut.{mid_len}
use lib.ListN.{length, replicate}
use Rattle.resampler.proofs.Laws.Body.{body-put}
use Rattle.little_endian.proofs.Laws.Place.{part-placed}
use Rattle.resampler.proofs.parking.put_body.Goals as goal

pub returns : goal.returns
returns c =
    let l : length c.put_words-5.new.block ≡ 512 = search rules in
    let z = c.fill.ensures.after (λ y k. search rules) ∙ ap (λ (n : ℕ). replicate n 0) (mid_len 292 508 c.put_words-5.new.block (omega arith)) in
    body-put c.args.s c.args.to.now c.requires (search rules)
    (rw c.copy_from_slice.ensures.after refl)
    c.put_words.ensures c.put_words-2.ensures c.put_words-3.ensures c.put_words-4.ensures c.put_words-5.ensures
    (rw z (part-placed 292 216 (replicate 216 0) c.put_words-5.new.block))
