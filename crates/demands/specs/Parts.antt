-- RULES "Which sheet decides": a chip is of one part. Assumes nothing.
use Rattle.std.specs.Prelude.{◌≡◌, List, ℕ, true}
use Rattle.ground.specs.Written.{byte}
use Rattle.state.specs.Record.{record_valid}
use Rattle.chip.specs.declared.Chip.{Chip}
use Rattle.demands.specs.Events.{Event, after}
use Rattle.demands.specs.Calls.{Call, after_calls}

-- Whatever happens to it, it stays of that part.
abbrev pub PartStays : Type 0
PartStays = (chip : Chip) (events : List Event) → (after chip events).settings.part ≡ chip.settings.part

-- And so does byte 58 of a record, whatever is called.
abbrev pub CallsKeepPart : Type 0
CallsKeepPart =
    (bytes : List ℕ) (calls : List Call) → record_valid bytes ≡ true → byte (after_calls bytes calls) 58 ≡ byte bytes 58
