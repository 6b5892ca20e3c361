-- Each code's effect on the bytes is its meaning's effect on the settings: one computed test of them all but the few whose
-- effect goes by a source. Assumes nothing.
use Rattle.std.specs.Prelude.{Option, Some, None}
use Rattle.commands.specs.declared.Command.{Command}
use mathlib.Core.Path.{◌≡◌, refl}
use mathlib.Core.Bool.{Bool, cond, not}
use mathlib.Core.List.{List}
use Prim.Native.Nat.{ℕ, zero, suc, ◌+◌, ◌*◌, ◌/◌, ◌%◌, ◌<◌}
use native.Mathlib.Omega.{arith}
use native.Mathlib.Nat.{add-zero}
use lib.ListN.{drop}
use borrow.Author.Tests.{le-ltb}
use Rattle.ground.proofs.BitsLaws.{bit_number_small}
use Rattle.ground.specs.declared.Part.{Part}
use Rattle.ground.specs.declared.Part.TheVariants.{Ht, Gn}
use Rattle.ground.specs.Parts.{part_number}
use Rattle.ground.specs.Values.{agree}
use Rattle.commands.specs.Commands.{byte_meaning, code_meaning, undefined}
use Rattle.clock.specs.declared.Source.{Source}
use Rattle.clock.specs.declared.Source.TheVariants.{Xtal, Rc, Ext}
use Rattle.settings.specs.declared.IrqSource.{IrqSource}
use Rattle.settings.specs.declared.IrqSource.TheVariants.{Neither, TimeBase, Flag}
use Rattle.settings.specs.declared.Settings.{Settings}
use Rattle.rules.specs.Effects.{effect}
use Rattle.settings.specs.Settings.{source_to, irq_source_to, part_to}
use Rattle.settings.specs.Bytes.{settings_bytes}
use Rattle.frames.specs.Frames.{more}
use Rattle.chip.specs.Chip.{decoded_answer, obeyed_as}
use Rattle.simulator.specs.Simulator.{answer_code}
use Rattle.sheet.specs.Commands.{defined, effect_of}
use Rattle.sheet.proofs.BytesLaws.{spelt}

-- ---- the effect of a code

module _ (b : List ℕ) where
  abbrev on_bytes : Settings → ℕ → List ℕ
  on_bytes s code = drop 40 (effect_of (part_number s.part) code (spelt b s))

  abbrev on_settings : Settings → ℕ → List ℕ
  on_settings s code = settings_bytes (obeyed_as (byte_meaning s.part code) s)

  -- the three codes whose effect goes by a source
  sys_dis : (s : Settings) (source : Source) → on_bytes (source_to source s) 0x00 ≡ on_settings (source_to source s) 0x00
  unfolding byte_meaning effect obeyed_as
  sys_dis s Xtal = refl
  sys_dis s Rc = refl
  sys_dis s Ext = refl

  timer_dis : (s : Settings) (irq : IrqSource) → on_bytes (irq_source_to irq s) 0x04 ≡ on_settings (irq_source_to irq s) 0x04
  unfolding byte_meaning effect obeyed_as
  timer_dis s Neither = refl
  timer_dis s TimeBase = refl
  timer_dis s Flag = refl

  wdt_dis : (s : Settings) (irq : IrqSource) → on_bytes (irq_source_to irq s) 0x05 ≡ on_settings (irq_source_to irq s) 0x05
  unfolding byte_meaning effect obeyed_as
  wdt_dis s Neither = refl
  wdt_dis s TimeBase = refl
  wdt_dis s Flag = refl

  -- the others, in each part
  others : (part : Part) (s : Settings) (k : ℕ) → k < 250
      → on_bytes (part_to part s) (suc (suc (suc (suc (suc (suc k)))))) ≡ on_settings (part_to part s) (suc (suc (suc (suc (suc (suc k))))))
  unfolding byte_meaning effect obeyed_as
  others Ht s k h =
      agree (λ (n : ℕ). on_bytes (part_to Ht s) (suc (suc (suc (suc (suc (suc n)))))))
      (λ (n : ℕ). on_settings (part_to Ht s) (suc (suc (suc (suc (suc (suc n))))))) 250 refl k h
  others Gn s k h =
      agree (λ (n : ℕ). on_bytes (part_to Gn s) (suc (suc (suc (suc (suc (suc n)))))))
      (λ (n : ℕ). on_settings (part_to Gn s) (suc (suc (suc (suc (suc (suc n))))))) 250 refl k h

  pub effect_same : (s : Settings) (code : ℕ) → code < 256
      → drop 40 (effect_of (part_number s.part) code (spelt b s)) ≡ settings_bytes (obeyed_as (byte_meaning s.part code) s)
  unfolding byte_meaning effect obeyed_as
  effect_same s zero h = sys_dis s s.system.source
  effect_same s (suc zero) h = refl
  effect_same s (suc (suc zero)) h = refl
  effect_same s (suc (suc (suc zero))) h = refl
  effect_same s (suc (suc (suc (suc zero)))) h = timer_dis s s.irq.source
  effect_same s (suc (suc (suc (suc (suc zero))))) h = wdt_dis s s.irq.source
  effect_same s (suc (suc (suc (suc (suc (suc k)))))) h = others s.part s k (omega arith)

-- the codes that the table defines are those that have a meaning
pub defined_same : (part : Part) (code : ℕ) → code < 256 → defined (part_number part) code ≡ not (undefined (byte_meaning part code))
unfolding byte_meaning
defined_same Ht code h = agree (defined 0) (λ (n : ℕ). not (undefined (byte_meaning Ht n))) 256 refl code h
defined_same Gn code h = agree (defined 1) (λ (n : ℕ). not (undefined (byte_meaning Gn n))) 256 refl code h

-- ---- what it is answered, and what it then does to the settings

module _ (code : ℕ) (small : code < 256) where
  -- the ninth bit is ignored
  pub code_taken : (bit : Bool) → more code bit / 2 % 256 ≡ code
  code_taken bit = omega (arith, bit_number_small bit)

  pub code_meaning_lem : (part : Part) → code_meaning part (2 * code) ≡ byte_meaning part code
  unfolding code_meaning
  code_meaning_lem part =
      let half : 2 * code / 2 ≡ code = omega arith in
      simp (le-ltb 511 (2 * code) (omega arith), half)

pub code_told : (decoded : Option Command) (code : ℕ) → answer_code (decoded_answer decoded code) ≡ cond (not (undefined decoded)) 6 7 + 256 * code
unfolding answer_code
code_told None code = add-zero (7 + 256 * code)
code_told (Some command) code = add-zero (6 + 256 * code)
