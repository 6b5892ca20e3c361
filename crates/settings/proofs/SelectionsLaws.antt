-- Laws of the selections' coded bytes: a case written and read is the same, and its number is within the byte's range. Assumes nothing.
use mathlib.Core.Path.{◌≡◌, refl}
use mathlib.Core.Bool.{true}
use mathlib.Core.List.{List}
use Prim.Native.Nat.{ℕ, ◌≤◌}
use native.Mathlib.Omega.{arith}
use Rattle.ground.specs.Codes.{is_code, case_of}
use Rattle.clock.specs.Numbers.{source_number}
use Rattle.clock.specs.declared.Source.{Source}
use Rattle.clock.specs.declared.Source.TheVariants.{Xtal, Rc, Ext}
use Rattle.commands.specs.Numbers.{bias_number, commons_number}
use Rattle.commands.specs.declared.Bias.{Bias}
use Rattle.commands.specs.declared.Bias.TheVariants.{Half, Third}
use Rattle.commands.specs.declared.Commons.{Commons}
use Rattle.commands.specs.declared.Commons.TheVariants.{Two, Three, Four}
use Rattle.settings.specs.Numbers.{pitch_number, irq_source_number}
use Rattle.settings.specs.declared.Pitch.{Pitch}
use Rattle.settings.specs.declared.Pitch.TheVariants.{FourK, TwoK}
use Rattle.settings.specs.declared.IrqSource.{IrqSource}
use Rattle.settings.specs.declared.IrqSource.TheVariants.{Neither, TimeBase, Flag}
use Rattle.settings.specs.Selections.{sources, biases, commonses, pitches, irq_sources}

-- A code stands for a case; where it is none's, for another that is given.
abbrev pub StandsFor : {X : Type 0} → (X → ℕ) → List X → X → ℕ → X → Type 0
StandsFor number cases other code x = (is_code number cases code ≡ true) × (case_of number cases other code ≡ x)

-- ---- the clock's source

pub source_back : (other x : Source) → StandsFor source_number sources other (source_number x) x
source_back other Xtal = (refl, refl)
source_back other Rc = (refl, refl)
source_back other Ext = (refl, refl)

pub source_small : (x : Source) → source_number x ≤ 2
source_small Xtal = omega arith
source_small Rc = omega arith
source_small Ext = omega arith

-- ---- the bias

pub bias_back : (other x : Bias) → StandsFor bias_number biases other (bias_number x) x
bias_back other Half = (refl, refl)
bias_back other Third = (refl, refl)

pub bias_small : (x : Bias) → bias_number x ≤ 3
bias_small Half = omega arith
bias_small Third = omega arith

-- ---- the commons

pub commons_back : (other x : Commons) → StandsFor commons_number commonses other (commons_number x) x
commons_back other Two = (refl, refl)
commons_back other Three = (refl, refl)
commons_back other Four = (refl, refl)

pub commons_small : (x : Commons) → commons_number x ≤ 4
commons_small Two = omega arith
commons_small Three = omega arith
commons_small Four = omega arith

-- ---- the tone's frequency

pub pitch_back : (other x : Pitch) → StandsFor pitch_number pitches other (pitch_number x) x
pitch_back other FourK = (refl, refl)
pitch_back other TwoK = (refl, refl)

pub pitch_small : (x : Pitch) → pitch_number x ≤ 4
pitch_small FourK = omega arith
pitch_small TwoK = omega arith

-- ---- the IRQ source

pub irq_source_back : (other x : IrqSource) → StandsFor irq_source_number irq_sources other (irq_source_number x) x
irq_source_back other Neither = (refl, refl)
irq_source_back other TimeBase = (refl, refl)
irq_source_back other Flag = (refl, refl)

pub irq_source_small : (x : IrqSource) → irq_source_number x ≤ 2
irq_source_small Neither = omega arith
irq_source_small TimeBase = omega arith
irq_source_small Flag = omega arith
