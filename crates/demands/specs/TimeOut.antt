-- RULES "Commands", IRQ DIS: a time-out that it has let go of does not come back. Assumes nothing.
use Rattle.std.specs.Prelude.{◌≡◌, Bool, true, false, not, ◌&&◌, ◌||◌, ℕ, zero, suc, ◌+◌, eqb}
use Rattle.commands.specs.declared.Command.TheVariants.{IrqDis, IrqEn}
use Rattle.settings.specs.declared.IrqSource.TheVariants.{Flag}
use Rattle.settings.specs.declared.Settings.{Settings}
use Rattle.rules.specs.Effects.{effect}
use Rattle.ticks.specs.Ticks.{ticked, advanced}
use Rattle.pins.specs.Pins.{irq_low}

-- w, and whether from one moment to the next it has come back to 0.
abbrev pub w : Settings → ℕ
w s = s.counters.timer.watchdog.count

abbrev pub came_back : ℕ → ℕ → Bool
came_back before after = not (eqb before 0) && eqb after 0

-- w comes round: with one of n ticks it comes back to 0.
abbrev pub comes_round : ℕ → Settings → Bool
comes_round zero s = false
comes_round (suc n) s = came_back (w s) (w (ticked s)) || comes_round n (ticked s)

-- A time-out brings IRQ low. IRQ DIS has it float, however many ticks pass, and IRQ EN leaves it floating. With m ticks between the two
-- commands and n after them it is low exactly if w comes round with one of these, just when it would have done so without the commands.
pub record LetsGo (s : Settings) : Type 0 where
  pub low : s.counters.timer.watchdog.flag ≡ true → s.irq.on ≡ true → irq_low s ≡ true
  pub off : (m : ℕ) → irq_low (advanced m (effect IrqDis s)) ≡ false
  pub floats : irq_low (effect IrqEn (effect IrqDis s)) ≡ false
  pub again : (m n : ℕ) → irq_low (advanced n (effect IrqEn (advanced m (effect IrqDis s)))) ≡ comes_round (m + n) s

-- So it is wherever the flag is the IRQ source, whatever flag, output and all else of the settings are.
abbrev pub IrqDisLetsGo : Type 0
IrqDisLetsGo = (s : Settings) → s.irq.source ≡ Flag → LetsGo s
