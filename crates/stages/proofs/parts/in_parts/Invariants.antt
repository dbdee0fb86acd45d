-- `stages::parts::in_parts` meets its contract: each turn is a part of the definition's, and what the parts so far wrote, followed by
-- what those left will, is the whole.
-- Assumes nothing.
use Rattle.std.proofs.Common.{◌≡◌, ◌*◌}
use Rattle.stages.proofs.Laws.Pass.{Units}
use Rattle.stages.proofs.parts.in_parts.Given as goal

abbrev pub invariant-loop-xs : goal.invariant-loop-xs
invariant-loop-xs g l =
    let S = g.S.Stage in
    (goal.iterator-loop-xs g).can_next l.xs-iterator × (goal.iterator-loop-xs g).is_finite l.xs-iterator
    × (l.xs-iterator.size ≡ S.most l.stage * S.unit l.stage)
    × Units (S.unit l.stage) (S.most l.stage) (S.made l.stage) (S.next l.stage) l.input l.fn.out l.fn.words l.written l.out l.w l.xs-iterator.rest.now
