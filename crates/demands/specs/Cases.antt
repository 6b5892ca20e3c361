-- RULES "Cases on both sides", as one table under one statement. Assumes nothing.
use Rattle.std.specs.Prelude.{◌≡◌, true, false, List, [], ◌∷◌, ℕ, ◌≤◌, length, Option, Some, None, Ok}
use Rattle.ground.specs.Outcomes.{RefusedWith}
use Rattle.ground.specs.Sizes.{addresses}
use Rattle.ground.specs.declared.Part.{Part}
use Rattle.ground.specs.declared.Part.TheVariants.{Ht, Gn}
use Rattle.commands.specs.declared.Bias.TheVariants.{Third}
use Rattle.commands.specs.declared.Commons.TheVariants.{Four}
use Rattle.commands.specs.declared.Command.{Command}
use Rattle.commands.specs.declared.Command.TheVariants.{BiasCom}
use Rattle.commands.specs.Commands.{byte_meaning}
use Rattle.clock.specs.Ticks.{scan_start}
use Rattle.clock.specs.declared.Source.{Source}
use Rattle.clock.specs.declared.Source.TheVariants.{Xtal, Rc}
use Rattle.settings.specs.declared.IrqSource.TheVariants.{TimeBase}
use Rattle.settings.specs.declared.Settings.{Settings}
use Rattle.ticks.specs.Ticks.{advanced}
use Rattle.pins.specs.Pins.{irq_low}
use Rattle.answers.specs.Answers.{answer_number}
use Rattle.chip.specs.declared.Chip.{Chip}
use Rattle.chip.specs.Chip.{stepped, obeyed_as}
use Rattle.power.specs.PowerOn.{fresh_chip}
use Rattle.driver.specs.Refusals.{write_answer, read_answer}
use Rattle.streams.specs.Streams.{write_stream, read_stream, command_stream, decoded}

-- Where (h), (i) and (j) begin: the clock's source; running, that is, the system on; the time base on; r = 7; cleared. All else
-- of the settings is free.
pub record Cleared (clock : Source) (s : Settings) : Type 0 where
  pub clocked : s.system.source ≡ clock
  pub system_on : s.system.on ≡ true
  pub time_base_on : s.base.on ≡ true
  pub rate_seven : s.base.rate ≡ 7
  pub d_zero : s.counters.timer.divider.count ≡ 0
  pub b_zero : s.counters.timer.base.count ≡ 0
  pub w_zero : s.counters.timer.watchdog.count ≡ 0
  pub flag_off : s.counters.timer.watchdog.flag ≡ false

-- Of (g): b becomes 0 and w stays as it was; both become 0.
abbrev pub ClearsTimer : Option Command → Settings → Type 0
ClearsTimer meaning s =
    ((obeyed_as meaning s).counters.timer.base.count ≡ 0)
    × ((obeyed_as meaning s).counters.timer.watchdog ≡ s.counters.timer.watchdog)

abbrev pub ClearsBoth : Option Command → Settings → Type 0
ClearsBoth meaning s =
    ((obeyed_as meaning s).counters.timer.base.count ≡ 0) × ((obeyed_as meaning s).counters.timer.watchdog.count ≡ 0)

pub record Cases : Type 0 where
  -- (a) after power-on 15 is answered 0, and 14 after it 1
  pub a : (part : Part) (memory : List ℕ) → (answer_number (stepped (fresh_chip part memory) 15).answer ≡ 0)
      × (answer_number (stepped (stepped (fresh_chip part memory) 15).chip 14).answer ≡ 1)
  -- (b) 16 is refused, with 20, and changes nothing
  pub b : (chip : Chip) → (answer_number (stepped chip 16).answer ≡ 20) × ((stepped chip 16).chip ≡ chip)
  -- (c) writing or reading, one nibble is 29 samples and 32 are 277
  pub c : (first : ℕ) (nibbles : List ℕ) → (length nibbles ≡ 1 → length (write_stream first nibbles) ≡ 29)
      × (length nibbles ≡ addresses → length (write_stream first nibbles) ≡ 277)
      × (length (read_stream first 1) ≡ 29) × (length (read_stream first addresses) ≡ 277)
  -- (d) from address 31 on one nibble is accepted wherever 29 samples have room, and two are refused with 30 in any room
  pub d : (n m room : ℕ) → (n ≤ 15 → 29 ≤ room → write_answer 31 (n ∷ []) room ≡ Ok 29)
      × (RefusedWith 30 0 (write_answer 31 (n ∷ m ∷ []) room))
      × (29 ≤ room → read_answer 31 1 room ≡ Ok 29) × (RefusedWith 30 0 (read_answer 31 2 room))
  -- (e) one command takes 27
  pub e : (code : ℕ) → length (command_stream (code ∷ [])) ≡ 27
  -- (f) 2B is 4 commons, 2C is undefined
  pub f : (part : Part) → (byte_meaning part 0x2B ≡ Some (BiasCom Third Four)) × (byte_meaning part 0x2C ≡ None)
  -- (g) in the HT 0D makes b 0 and w stays as it was, 0F makes both 0
  pub g : (s : Settings) → ClearsTimer (byte_meaning Ht 0x0D) s × ClearsBoth (byte_meaning Ht 0x0F) s
  -- in the GN 0B does what 0D does in the HT, 0D is undefined, and 0F makes both 0
  pub g_of_gn : (s : Settings) → ClearsTimer (byte_meaning Gn 0x0B) s × (byte_meaning Gn 0x0D ≡ None) × ClearsBoth (byte_meaning Gn 0x0F) s
  -- (h) from the crystal the flag comes with tick 1,024 and not with the one before, whatever the source of IRQ is
  pub h : (s : Settings) → Cleared Xtal s
      → ((advanced 1024 s).counters.timer.watchdog.flag ≡ true) × ((advanced 1023 s).counters.timer.watchdog.flag ≡ false)
  -- (i) with the time base for source and the output on, 128 ticks bring IRQ low and 127 do not
  pub i : (s : Settings) → Cleared Xtal s → s.irq.source ≡ TimeBase → s.irq.on ≡ true
      → (irq_low (advanced 128 s) ≡ true) × (irq_low (advanced 127 s) ≡ false)
  -- (j) at RC from p = 0 it takes eight times as many
  pub j : (s : Settings) → Cleared Rc s → s.irq.source ≡ TimeBase → s.irq.on ≡ true → s.counters.prescaler.count ≡ 0
      → (irq_low (advanced 1024 s) ≡ true) × (irq_low (advanced 1023 s) ≡ false)
  -- (k) noted 1, 0, 1, 0 is 5
  pub k : decoded (1 ∷ 0 ∷ 1 ∷ 0 ∷ []) ≡ 5 ∷ []
  -- (l) at RC, from p = 0 and a scan at its beginning, the second common is scanned after 1,024 ticks in the HT and 768 in the GN, and
  -- not after one less
  pub l : (s : Settings) → s.system.on ≡ true → s.system.source ≡ Rc → s.counters.prescaler.count ≡ 0 → s.scan ≡ scan_start
      → (s.part ≡ Ht → ((advanced 1024 s).scan.common ≡ 1) × ((advanced 1023 s).scan.common ≡ 0))
      × (s.part ≡ Gn → ((advanced 768 s).scan.common ≡ 1) × ((advanced 767 s).scan.common ≡ 0))
