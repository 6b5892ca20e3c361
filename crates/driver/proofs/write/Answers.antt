-- `driver::write` meets its contract: each refusal is the first that applies, and else the stream is sent. Assumes nothing.
use Rattle.std.specs.Prelude.{Some, None}
use Rattle.std.proofs.lemmas.Result.{err_from_is_err_and}
use mathlib.Core.Path.{◌∙◌, sym}
use lib.ListN.{length}
use Rattle.ground.proofs.OutcomesLaws.{refuses}
use Rattle.ground.proofs.PlacesLaws.{position_found}
use Rattle.streams.proofs.SentLaws.{sends_due}
use Rattle.driver.specs.Ranges.{range_refusals}
use Rattle.driver.specs.Refusals.{nibble_fault, write_answer}
use Rattle.driver.proofs.LadderLaws.{ladder_refused, ladder_passed}
use Rattle.driver.proofs.write.Goals as goal

pub returns-in_err-check_range : goal.returns-in_err-check_range
unfolding write_answer
returns-in_err-check_range c =
    let p = err_from_is_err_and c.from_residual.result c.from_residual.ensures.1 in
    let range = range_refusals c.args.first (length c.args.nibbles.now) in
    rw (p.1, p.2) (refuses (ladder_refused range _ c.in_err-check_range.ensures))

pub returns-in-Some : goal.returns-in-Some
unfolding write_answer
returns-in-Some c =
    let nibbles = c.args.nibbles.now in
    let found = position_found nibble_fault nibbles (Some c.in-Some.place) c.in-Some.ensures in
    refuses (ladder_passed (range_refusals c.args.first (length nibbles)) _ c.in_ok-check_range.ensures ∙ simp found.0 (simp found.1))

pub returns : goal.returns
unfolding write_answer
returns c =
    let nibbles = c.args.nibbles.now in
    let none = position_found nibble_fault nibbles None (sym c.in_default.is ∙ c.first_above.ensures) in
    sends_due (ladder_passed (range_refusals c.args.first (length nibbles)) _ c.in_ok-check_range.ensures ∙ simp none) c.write.ensures
