-- `line::message::put_around` meets its contract: three parts, one behind the other, and the digits that `io` makes are the
-- number's decimal. Assumes nothing.
use mathlib.Core.Path.{ap, ◌∙◌}
use mathlib.Core.List.{List, ◌++◌}
use Prim.Native.Nat.{ℕ}
use lib.ListN.{take}
use Rattle.line.specs.Message.{decimal}
use Rattle.line.proofs.Laws.Decimal.{decimal-is, three-parts}
use Rattle.line.proofs.message.put_around.Goals as goal

pub returns-clause-to_after : goal.returns-clause-to_after
returns-clause-to_after c =
    let is = c.decimal-k.ensures.digits ∙ decimal-is _ c.args.n c.decimal-k.ensures.len in
    three-parts (decimal c.args.n) c.args.back.now c.put-a.ensures.1
    (c.put-b.ensures.1 ∙ ap (λ (t : List ℕ). take c.put-a.result c.put-a.new.to ++ t) is) c.put.ensures.1
