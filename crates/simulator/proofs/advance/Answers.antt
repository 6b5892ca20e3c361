-- `simulator::advance` meets its contract: a malformed record is left, of any other the counters are written. Assumes nothing.
use mathlib.Core.Path.{◌∙◌, sym}
use Rattle.state.proofs.RecordLaws.{not_refused}
use Rattle.simulator.proofs.SimulatorLaws.{advance_malformed, advance_long, advance_done}
use Rattle.simulator.proofs.advance.Goals as goal

pub returns-in_default : goal.returns-in_default
returns-in_default c =
    let due = advance_malformed c.args.bytes.now c.args.n c.in_default.ensures in
    (c.returned.ensures ∙ due.0, due.1)

pub returns-in-Ok : goal.returns-in-Ok
returns-in-Ok c =
    advance_done c.args.bytes.now c.args.n _ c.advanced.result _
    c.in-Some.ensures c.advanced.ensures c.write_counters.ensures.1

pub returns-in-Err : goal.returns-in-Err
returns-in-Err c =
    absurd (not_refused 13 _ _ (advance_long c.args.bytes.now c.args.n _ c.in-Some.ensures) (sym c.in-Err.is ∙ c.write_counters.ensures.0))
