-- RULES "State record and simulator", bytes 40 to 57: the cases of each selection, and what its coded byte reads to.
-- Assumes nothing.
use Rattle.std.specs.Prelude.{ℕ, List, [], ◌∷◌, Option, Some, None}
use Rattle.ground.specs.Codes.{read_by}
use Rattle.clock.specs.Numbers.{source_number}
use Rattle.clock.specs.declared.Source.{Source}
use Rattle.clock.specs.declared.Source.TheVariants.{Xtal, Rc, Ext}
use Rattle.commands.specs.Numbers.{bias_number, commons_number}
use Rattle.commands.specs.declared.Bias.{Bias}
use Rattle.commands.specs.declared.Bias.TheVariants.{Half, Third}
use Rattle.commands.specs.declared.Commons.{Commons}
use Rattle.commands.specs.declared.Commons.TheVariants.{Two, Three, Four}
use Rattle.settings.specs.Numbers.{pitch_number, irq_source_number}
use Rattle.settings.specs.declared.Pitch.{Pitch}
use Rattle.settings.specs.declared.Pitch.TheVariants.{FourK, TwoK}
use Rattle.settings.specs.declared.IrqSource.{IrqSource}
use Rattle.settings.specs.declared.IrqSource.TheVariants.{Neither, TimeBase, Flag}

-- The clock's source, byte 41.
abbrev pub sources : List Source
sources = Xtal ∷ Rc ∷ Ext ∷ []

unfoldable pub source_read : ℕ → Option Source
source_read = read_by Some None source_number sources

-- The bias, byte 43.
abbrev pub biases : List Bias
biases = Half ∷ Third ∷ []

unfoldable pub bias_read : ℕ → Option Bias
bias_read = read_by Some None bias_number biases

-- The commons, byte 44.
abbrev pub commonses : List Commons
commonses = Two ∷ Three ∷ Four ∷ []

unfoldable pub commons_read : ℕ → Option Commons
commons_read = read_by Some None commons_number commonses

-- The tone's frequency, byte 46.
abbrev pub pitches : List Pitch
pitches = FourK ∷ TwoK ∷ []

unfoldable pub pitch_read : ℕ → Option Pitch
pitch_read = read_by Some None pitch_number pitches

-- The IRQ source, byte 50.
abbrev pub irq_sources : List IrqSource
irq_sources = Neither ∷ TimeBase ∷ Flag ∷ []

unfoldable pub irq_source_read : ℕ → Option IrqSource
irq_source_read = read_by Some None irq_source_number irq_sources
