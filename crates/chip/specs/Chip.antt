-- RULES "Samples", "What a sample is answered" and "Ticks", of the whole chip: what a sample and a tick make of it.
-- Assumes nothing.
use Rattle.std.specs.Prelude.{ℕ, ◌*◌, cond, ltb, Option, Some, None}
use Rattle.ground.specs.declared.Part.{Part}
use Rattle.ground.specs.declared.Refusal.TheVariants.{SampleAbove}
use Rattle.commands.specs.declared.Command.{Command}
use Rattle.commands.specs.Commands.{code_meaning}
use Rattle.settings.specs.declared.Settings.{Settings}
use Rattle.rules.specs.Effects.{effect}
use Rattle.ticks.specs.Ticks as ticks
use Rattle.lines.specs.declared.Levels.{Levels}
use Rattle.lines.specs.Samples.{levels}
use Rattle.answers.specs.declared.Answer.{Answer}
use Rattle.answers.specs.declared.Answer.TheVariants.{Stored, Obeyed, Passed, Refused}
use Rattle.frames.specs.declared.Upshot.{Upshot}
use Rattle.frames.specs.declared.Upshot.TheVariants.{Answered, Nibble, Code}
use Rattle.port.specs.declared.Port.{Port}
use Rattle.port.specs.declared.Moved.{Moved}
use Rattle.port.specs.Port.{moved}
use Rattle.chip.specs.declared.Chip.{Chip}
use Rattle.chip.specs.declared.Stepped.{Stepped}

-- A code that is complete: an undefined one is passed over; a command is obeyed, by its effect on the settings.
abbrev pub decoded_answer : Option Command → ℕ → Answer
decoded_answer None code = Passed code
decoded_answer (Some command) code = Obeyed code

unfoldable pub obeyed_as : Option Command → Settings → Settings
obeyed_as None settings = settings
obeyed_as (Some command) settings = effect command settings

-- What a sample is answered, by what it came to in its frame. A nibble is answered with its address also from 32 on, where the memory
-- has none for it; a code goes by the part.
abbrev pub told : Part → Upshot → Answer
told part (Answered answer) = answer
told part (Nibble at nibble) = Stored at nibble
told part (Code code) = decoded_answer (code_meaning part (2 * code)) code

-- And only a command changes the settings.
unfoldable pub settings_after : Upshot → Settings → Settings
settings_after (Answered answer) settings = settings
settings_after (Nibble at nibble) settings = settings
settings_after (Code code) settings = obeyed_as (code_meaning settings.part (2 * code)) settings

-- The chip after a sample, by what the sample made of its port.
abbrev pub stepped_as : Chip → Moved → Stepped
stepped_as chip result =
    record {
      chip = record { port = result.port; settings = settings_after result.upshot chip.settings };
      answer = told chip.settings.part result.upshot;
    }

-- The same where a code is complete.
abbrev pub commanded : Port → Settings → ℕ → Stepped
commanded port settings code =
    stepped_as (record { port = port; settings = settings }) (record { port = port; upshot = Code code })

-- A sample by its levels.
unfoldable pub stepped_to : Chip → Levels → Stepped
stepped_to chip new = stepped_as chip (moved chip.port new)

-- A sample above 15 is refused and changes nothing; any other is taken by its levels.
unfoldable pub stepped : Chip → ℕ → Stepped
stepped chip sample = cond (ltb 15 sample) (record { chip = chip; answer = Refused SampleAbove }) (stepped_to chip (levels sample))

-- A tick, and n of them, touch only the settings.
abbrev pub ticked : Chip → Chip
ticked chip = record { port = chip.port; settings = ticks.ticked chip.settings }

abbrev pub advanced : ℕ → Chip → Chip
advanced n chip = record { port = chip.port; settings = ticks.advanced n chip.settings }
