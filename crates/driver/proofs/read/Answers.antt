-- `driver::read` meets its contract: each refusal is the first that applies, and else the stream is sent. Assumes nothing.
use Rattle.std.proofs.lemmas.Result.{err_from_is_err_and}
use Rattle.ground.proofs.OutcomesLaws.{refuses}
use Rattle.streams.proofs.SentLaws.{sends_due}
use Rattle.driver.specs.Ranges.{range_refusals}
use Rattle.driver.specs.Refusals.{read_answer}
use Rattle.driver.proofs.LadderLaws.{ladder_refused, ladder_passed}
use Rattle.driver.proofs.read.Goals as goal

pub returns-in_err-check_range : goal.returns-in_err-check_range
unfolding read_answer
returns-in_err-check_range c =
    let p = err_from_is_err_and c.from_residual.result c.from_residual.ensures.1 in
    rw (p.1, p.2) (refuses (ladder_refused (range_refusals c.args.first c.args.count) _ c.in_err-check_range.ensures))

pub returns : goal.returns
unfolding read_answer
returns c =
    sends_due (ladder_passed (range_refusals c.args.first c.args.count) _ c.in_ok-check_range.ensures) c.read.ensures
