-- `simulator::shown` meets its contract: each refusal leaves early, and what shows is written. Assumes nothing.
use mathlib.Core.Path.{◌∙◌, sym}
use native.Mathlib.Omega.{arith}
use Rattle.ground.proofs.OutcomesLaws.{absent}
use Rattle.simulator.proofs.SimulatorLaws.{pins_malformed, pins_short, pins_long, pins_shown_lem}
use Rattle.simulator.proofs.shown.Goals as goal

pub returns-in_err-settings : goal.returns-in_err-settings
returns-in_err-settings c =
    rw (absent _ c.from_residual.ensures.1 c.in_err-settings.ensures.value c.in_err-settings.ensures.ok_part)
    (pins_malformed c.args.bytes.now c.args.out.now (sym c.in_err-settings.ensures.ok_part ∙ c.settings_in.ensures))

pub returns-then-out-lt-ADDRESSES : goal.returns-then-out-lt-ADDRESSES
returns-then-out-lt-ADDRESSES c =
    pins_short c.args.bytes.now c.args.out.now _ (sym c.in_ok-settings.ensures.ok_part ∙ c.settings_in.ensures) c.if-out-lt-ADDRESSES.true

pub show-requires-clause-memory_there : goal.show-requires-clause-memory_there
show-requires-clause-memory_there c = omega (arith, pins_long c.args.bytes.now c.args.out.now _ (sym c.in_ok-settings.ensures.ok_part ∙ c.settings_in.ensures))

pub bounds-bytes-39 : goal.bounds-bytes-39
bounds-bytes-39 c = omega (arith, pins_long c.args.bytes.now c.args.out.now _ (sym c.in_ok-settings.ensures.ok_part ∙ c.settings_in.ensures))

pub returns : goal.returns
returns c =
    pins_shown_lem c.args.bytes.now c.args.out.now _ (sym c.in_ok-settings.ensures.ok_part ∙ c.settings_in.ensures)
    c.shown_mask.result _ _ c.if-out-lt-ADDRESSES.false c.shown_mask.ensures c.show.ensures c.pins_code.ensures
