-- A chip stays of its part, whatever happens to it. Assumes nothing.
use Rattle.std.specs.Prelude.{Option, Some, None}
use mathlib.Core.Path.{◌≡◌, ◌∙◌, refl}
use mathlib.Core.List.{[], ◌∷◌}
use lib.Dec.{ltb}
use Prim.Native.Nat.{◌*◌}
use Rattle.ground.proofs.ChoiceLaws.{either}
use Rattle.clock.specs.declared.Source.{Source}
use Rattle.clock.specs.declared.Source.TheVariants.{Xtal, Rc, Ext}
use Rattle.commands.specs.declared.Command.{Command}
use Rattle.commands.specs.declared.Command.TheVariants.{SysDis, SysEn, LcdOff, LcdOn, TimerDis, WdtDis, TimerEn, WdtEn, ToneOff, ToneOn, ClrTimer, ClrWdt, Xtal32k, Rc256k, Ext256k, BiasCom, Tone4k, Tone2k, IrqDis, IrqEn, Rate, Test, Normal}
use Rattle.commands.specs.Commands.{code_meaning}
use Rattle.settings.specs.declared.Settings.{Settings}
use Rattle.rules.specs.Effects.{system_off, effect}
use Rattle.ticks.specs.Ticks.{running, ticked}
use Rattle.lines.specs.Samples.{levels}
use Rattle.frames.specs.declared.Upshot.{Upshot}
use Rattle.frames.specs.declared.Upshot.TheVariants.{Answered, Nibble, Code}
use Rattle.port.specs.Port.{moved}
use Rattle.chip.specs.declared.Chip.{Chip}
use Rattle.chip.specs.declared.Stepped.{Stepped}
use Rattle.chip.specs.Chip.{obeyed_as, settings_after, stepped_to, stepped}
use Rattle.demands.specs.Events.{Event, sample, tick, happened}
use Rattle.demands.specs.Parts.{PartStays}

system_part : (source : Source) (s : Settings) → (system_off source s).part ≡ s.part
system_part Xtal s = refl
system_part Rc s = refl
system_part Ext s = refl

effect_part : (command : Command) (s : Settings) → (effect command s).part ≡ s.part
unfolding effect
effect_part SysDis s = system_part s.system.source s
effect_part SysEn s = refl
effect_part LcdOff s = refl
effect_part LcdOn s = refl
effect_part TimerDis s = refl
effect_part WdtDis s = refl
effect_part TimerEn s = refl
effect_part WdtEn s = refl
effect_part ToneOff s = refl
effect_part ToneOn s = refl
effect_part ClrTimer s = refl
effect_part ClrWdt s = refl
effect_part Xtal32k s = refl
effect_part Rc256k s = refl
effect_part Ext256k s = refl
effect_part (BiasCom bias commons) s = refl
effect_part Tone4k s = refl
effect_part Tone2k s = refl
effect_part IrqDis s = refl
effect_part IrqEn s = refl
effect_part (Rate r) s = refl
effect_part Test s = refl
effect_part Normal s = refl

obeyed_part : (decoded : Option Command) (s : Settings) → (obeyed_as decoded s).part ≡ s.part
unfolding obeyed_as
obeyed_part None s = refl
obeyed_part (Some command) s = effect_part command s

upshot_part : (upshot : Upshot) (s : Settings) → (settings_after upshot s).part ≡ s.part
unfolding settings_after
upshot_part (Answered answer) s = refl
upshot_part (Nibble at nibble) s = refl
upshot_part (Code code) s = obeyed_part (code_meaning s.part (2 * code)) s

pub happened_part : (c : Chip) (e : Event) → (happened c e).settings.part ≡ c.settings.part
unfolding stepped stepped_to ticked
happened_part c (sample s) =
    either (λ (r : Stepped). r.chip.settings.part ≡ c.settings.part) (ltb 15 s) refl
    (upshot_part (moved c.port (levels s)).upshot c.settings)
happened_part c tick = either (λ (s : Settings). s.part ≡ c.settings.part) (running c.settings) refl refl

pub part_stays : PartStays
part_stays c [] = refl
part_stays c (e ∷ es) = part_stays (happened c e) es ∙ happened_part c e
