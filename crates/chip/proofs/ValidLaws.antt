-- Every sample, every tick and every advance keeps a valid chip valid; a refused sample changes nothing. Assumes nothing.
use Rattle.std.specs.Prelude.{Option, Some, None}
use Rattle.commands.specs.declared.Command.{Command}
use mathlib.Core.Path.{◌≡◌}
use Prim.Native.Nat.{ℕ, ◌*◌, ◌<◌}
use lib.Dec.{ltb}
use borrow.Author.Tests.{lt-ltb}
use Rattle.ground.proofs.ChoiceLaws.{either}
use Rattle.ground.specs.declared.Refusal.TheVariants.{SampleAbove}
use Rattle.commands.specs.Commands.{ProperMeaning, code_meaning}
use Rattle.commands.proofs.CommandsLaws.{code_proper}
use Rattle.settings.specs.declared.Settings.{Settings}
use Rattle.settings.specs.Valid.{SettingsValid}
use Rattle.rules.proofs.ValidLaws as rules
use Rattle.ticks.proofs.ValidLaws as ticks
use Rattle.lines.specs.declared.Levels.{Levels}
use Rattle.lines.specs.Samples.{levels}
use Rattle.answers.specs.declared.Answer.TheVariants.{Refused}
use Rattle.frames.specs.declared.Upshot.{Upshot}
use Rattle.frames.specs.declared.Upshot.TheVariants.{Answered, Nibble, Code}
use Rattle.port.specs.Port.{moved}
use Rattle.port.proofs.ValidLaws.{moved_valid}
use Rattle.chip.specs.declared.Chip.{Chip}
use Rattle.chip.specs.declared.Stepped.{Stepped}
use Rattle.chip.specs.Chip.{obeyed_as, settings_after, stepped_to, stepped, ticked, advanced}
use Rattle.chip.specs.Valid.{Valid}

obeyed_as_valid : (decoded : Option Command) → ProperMeaning decoded → (s : Settings) → SettingsValid s → SettingsValid (obeyed_as decoded s)
unfolding obeyed_as
obeyed_as_valid None p s v = v
obeyed_as_valid (Some command) p s v = rules.effect_valid command p s v

pub settings_after_valid : (upshot : Upshot) (s : Settings) → SettingsValid s → SettingsValid (settings_after upshot s)
unfolding settings_after
settings_after_valid (Answered answer) s v = v
settings_after_valid (Nibble at nibble) s v = v
settings_after_valid (Code code) s v = obeyed_as_valid (code_meaning s.part (2 * code)) (code_proper s.part (2 * code)) s v

pub stepped_to_valid : (chip : Chip) (new : Levels) → Valid chip → Valid (stepped_to chip new).chip
unfolding stepped_to
stepped_to_valid chip new v =
    record {
      port = moved_valid chip.port new v.port;
      settings = settings_after_valid (moved chip.port new).upshot chip.settings v.settings;
    }

pub stepped_valid : (chip : Chip) (sample : ℕ) → Valid chip → Valid (stepped chip sample).chip
unfolding stepped
stepped_valid chip sample v =
    either (λ (r : Stepped). Valid r.chip) (ltb 15 sample) v (stepped_to_valid chip (levels sample) v)

-- a refused sample changes nothing
pub refused_keeps : (chip : Chip) (sample : ℕ) → 15 < sample → stepped chip sample ≡ record { chip = chip; answer = Refused SampleAbove }
unfolding stepped
refused_keeps chip sample h = simp (lt-ltb _ _ h)

-- ---- ticks

pub ticked_valid : (chip : Chip) → Valid chip → Valid (ticked chip)
ticked_valid chip v = record { port = v.port; settings = ticks.ticked_valid chip.settings v.settings }

pub advanced_valid : (n : ℕ) (chip : Chip) → Valid chip → Valid (advanced n chip)
advanced_valid n chip v = record { port = v.port; settings = ticks.advanced_valid n chip.settings v.settings }
