-- `transcript::put_answer` meets its contract: an answer has no line, or the line of its numbers. Assumes nothing.
use Rattle.transcript.proofs.LineLaws.{unlisted, listed_by}
use Rattle.transcript.proofs.put_answer.Goals as goal

pub returns-in-Nothing : goal.returns-in-Nothing
returns-in-Nothing c = unlisted c.args.out.now c.args.at c.args.number c.args.answer c.in-Nothing.is

pub returns-in_default : goal.returns-in_default
returns-in_default c =
    listed_by c.args.number c.args.answer c.in_default.not-Nothing c.in_default.not-Taken c.from.ensures c.put_line.ensures
