-- `simulator::stepped` meets its contract: each refusal leaves early, and what is left is written. Assumes nothing.
use Rattle.std.proofs.lemmas.Result.{err_from_is_err_and}
use mathlib.Core.Path.{◌∙◌, sym}
use borrow.Enum.Refused.{opened}
use Rattle.state.proofs.RecordLaws.{not_refused}
use Rattle.simulator.proofs.SimulatorLaws.{not_said, step_malformed, step_long, step_above, step_obeyed, step_kept}
use Rattle.simulator.proofs.stepped.Goals as goal

pub returns-in_err-chip : goal.returns-in_err-chip
returns-in_err-chip c =
    let p = err_from_is_err_and c.from_residual.result c.from_residual.ensures.1 in
    let not = not_said c.args.bytes.now _ (sym c.in_err-chip.was ∙ c.read.ensures) in
    rw (p.1, p.2, not.0) (step_malformed c.args.bytes.now c.args.sample not.1)

pub returns-then-sample-gt15 : goal.returns-then-sample-gt15
returns-then-sample-gt15 c =
    step_above c.args.bytes.now c.args.sample c.in_ok-chip.chip (sym c.in_ok-chip.was ∙ c.read.ensures) c.if-sample-gt15.true

pub returns-in_err-write : goal.returns-in_err-write
returns-in_err-write c =
    let long = step_long c.args.bytes.now c.args.sample c.in_ok-chip.chip (sym c.in_ok-chip.was ∙ c.read.ensures) in
    absurd (not_refused 64 _ _ long (sym c.in_err-write.was ∙ c.write.ensures.0))

pub returns-in-Obeyed : goal.returns-in-Obeyed
returns-in-Obeyed c =
    step_obeyed c.args.bytes.now c.args.sample c.in_ok-chip.chip (sym c.in_ok-chip.was ∙ c.read.ensures)
    c.step_by_lending-done.result c.code_of-code.result _ c.if-sample-gt15.false c.step_by_lending-done.ensures c.code_of-code.ensures
    c.write.ensures.1

pub returns-in_err-write_port : goal.returns-in_err-write_port
returns-in_err-write_port c =
    let long = step_long c.args.bytes.now c.args.sample c.in_ok-chip.chip (sym c.in_ok-chip.was ∙ c.read.ensures) in
    absurd (not_refused 40 _ _ long (sym c.in_err-write_port.was ∙ c.write_port.ensures.0))

pub returns : goal.returns
returns c =
    step_kept c.args.bytes.now c.args.sample c.in_ok-chip.chip (sym c.in_ok-chip.was ∙ c.read.ensures)
    c.step_by_lending-done.result c.code_of-code.result _ c.if-sample-gt15.false c.step_by_lending-done.ensures c.code_of-code.ensures
    (opened c.in_default.in_default-own.keys2) c.write_port.ensures.1
