-- `driver::decode` meets its contract: each refusal is the first that applies, and else every note is a bit, and the nibbles
-- are sent. Assumes nothing.
use Rattle.std.specs.Prelude.{Some, None}
use mathlib.Core.Path.{◌∙◌, sym}
use borrow.Author.Tests.{ltb-false}
use Rattle.ground.proofs.OutcomesLaws.{refuses}
use Rattle.ground.proofs.PlacesLaws.{position_found, none_above}
use Rattle.streams.proofs.SentLaws.{sends_due}
use Rattle.streams.proofs.StreamsLaws.{bits_noted}
use Rattle.driver.specs.Refusals.{noted_fault, decode_answer}
use Rattle.driver.proofs.decode.Goals as goal

pub returns-then-miscounted : goal.returns-then-miscounted
unfolding decode_answer
returns-then-miscounted c = refuses (simp (sym c.miscounted.ensures, c.if-miscounted.true))

pub returns-in-Some : goal.returns-in-Some
unfolding decode_answer
returns-in-Some c =
    let found = position_found noted_fault c.args.noted.now (Some c.in-Some.place) c.in-Some.ensures in
    refuses (simp (sym c.miscounted.ensures, c.if-miscounted.false, found.0) (simp found.1))

pub returns : goal.returns
unfolding decode_answer
returns c =
    let noted = c.args.noted.now in
    let none = position_found noted_fault noted None (sym c.in_default.is ∙ c.first_above.ensures) in
    let bits = bits_noted noted (none_above 1 noted (ltb-false _ _ none)) in
    sends_due (simp (sym c.miscounted.ensures, c.if-miscounted.false, none)) (rw bits at c.decode.ensures)
