-- The numbers that RULES "State record and simulator" gives the cases of each enum. Assumes nothing.
use Rattle.std.specs.Prelude.{ℕ, Option, Some, None}
use Rattle.ground.specs.declared.Refusal.TheVariants.{Malformed}
use Rattle.ground.specs.Refusals.{refusal_number}
use Rattle.settings.specs.declared.Settings.{Settings}
use Rattle.settings.specs.declared.Pitch.{Pitch}
use Rattle.settings.specs.declared.Pitch.TheVariants.{FourK, TwoK}
use Rattle.settings.specs.declared.IrqSource.{IrqSource}
use Rattle.settings.specs.declared.IrqSource.TheVariants.{Neither, TimeBase, Flag}

-- The tone's frequency in kHz.
abbrev pub pitch_number : Pitch → ℕ
pitch_number FourK = 4
pitch_number TwoK = 2

-- The IRQ source.
abbrev pub irq_source_number : IrqSource → ℕ
irq_source_number Neither = 0
irq_source_number TimeBase = 1
irq_source_number Flag = 2

-- What the settings of a record read to: 0 where there are some, else the number of a malformed record.
abbrev pub settings_number : Option Settings → ℕ
settings_number (Some settings) = 0
settings_number None = refusal_number Malformed
