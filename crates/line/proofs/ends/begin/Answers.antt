-- `line::ends::begin` meets its contract: a resuming's answer is its row. Assumes nothing.
use mathlib.Core.Path.{refl}
use Rattle.std.proofs.lemmas.Result.{err_from_is_err_and}
use Rattle.line.proofs.Laws.Ends.{begins}
use Rattle.line.proofs.ends.begin.Goals as goal

pub returns-in_err-resumed : goal.returns-in_err-resumed
returns-in_err-resumed c =
    let p = err_from_is_err_and c.from_residual.result c.from_residual.ensures.1 in
    rw (p.1, p.2) ((begins c.args.block.now (rw c.in_err-resumed.was at c.resume-resumed.ensures) refl).is)

pub returns : goal.returns
returns c = begins c.args.block.now (rw c.in_ok-resumed.was at c.resume-resumed.ensures) refl
