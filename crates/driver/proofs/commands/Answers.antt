-- `driver::commands` meets its contract: each refusal is the first that applies, and else the stream is sent. Assumes nothing.
use Rattle.std.specs.Prelude.{Some, None}
use mathlib.Core.Path.{◌∙◌, sym}
use borrow.Author.Tests.{lt-ltb, le-ltb}
use Rattle.ground.specs.declared.Part.TheVariants.{Ht}
use Rattle.ground.proofs.OutcomesLaws.{absent, refuses}
use Rattle.ground.proofs.PartsLaws.{part_none, part_found}
use Rattle.ground.proofs.PlacesLaws.{position_found}
use Rattle.streams.proofs.SentLaws.{sends_due}
use Rattle.commands.specs.Commands.{command_fault}
use Rattle.driver.specs.Refusals.{command_answer}
use Rattle.driver.proofs.commands.Goals as goal

pub returns-in_err-part : goal.returns-in_err-part
unfolding command_answer
returns-in_err-part c =
    rw (absent _ c.from_residual.ensures.1 c.in_err-part.ensures.value c.in_err-part.ensures.ok_part)
    (refuses (simp (part_none _ (sym c.part_of.ensures ∙ c.in_err-part.ensures.ok_part))))

pub returns-then-is_empty : goal.returns-then-is_empty
unfolding command_answer
returns-then-is_empty c =
    let part = part_found _ _ Ht (sym c.part_of.ensures ∙ c.in_ok-part.ensures.ok_part) in
    refuses (simp (part.0, sym c.is_empty.ensures, c.if-is_empty.true))

pub returns-then-codes-gt-MOST_COMMANDS : goal.returns-then-codes-gt-MOST_COMMANDS
unfolding command_answer
returns-then-codes-gt-MOST_COMMANDS c =
    let part = part_found _ _ Ht (sym c.part_of.ensures ∙ c.in_ok-part.ensures.ok_part) in
    let most = lt-ltb _ _ c.if-codes-gt-MOST_COMMANDS.true in
    refuses (simp (part.0, sym c.is_empty.ensures, c.if-is_empty.false, most))

pub returns-in-Some : goal.returns-in-Some
unfolding command_answer
returns-in-Some c =
    let part = part_found _ _ Ht (sym c.part_of.ensures ∙ c.in_ok-part.ensures.ok_part) in
    let most = le-ltb _ _ c.if-codes-gt-MOST_COMMANDS.false in
    let found = position_found (command_fault c.in_ok-part.part) c.args.codes.now (Some c.in-Some.place) c.in-Some.ensures in
    refuses (simp (part.0, part.1, sym c.is_empty.ensures, c.if-is_empty.false, most, found.0) (simp found.1))

pub returns : goal.returns
unfolding command_answer
returns c =
    let part = part_found _ _ Ht (sym c.part_of.ensures ∙ c.in_ok-part.ensures.ok_part) in
    let most = le-ltb _ _ c.if-codes-gt-MOST_COMMANDS.false in
    let none = position_found (command_fault c.in_ok-part.part) c.args.codes.now None (sym c.in_default.is ∙ c.first_undefined.ensures) in
    sends_due (simp (part.0, part.1, sym c.is_empty.ensures, c.if-is_empty.false, most, none)) c.commands.ensures
