-- RULES "State record and simulator", bytes 40 to 63: the settings' bytes in one list, and what follows from it. Assumes nothing.
use Rattle.std.specs.Prelude.{ℕ, ◌+◌, Bool, cond, ◌&&◌, List, [], ◌∷◌, ◌++◌, map, eqb, ltb, length, drop, Option, Some, None}
use Rattle.ground.specs.Sizes.{addresses, record_length}
use Rattle.ground.specs.Ranges.{up_to}
use Rattle.ground.specs.Outcomes.{left_from, written_as}
use Rattle.ground.specs.Parts.{part_number, parts, part_of}
use Rattle.ground.specs.Written.{byte}
use Rattle.ground.specs.declared.Part.{Part}
use Rattle.ground.specs.declared.Part.TheVariants.{Ht}
use Rattle.clock.specs.Sizes.{prescaler_size, toner_size, divider_size, base_size, watchdog_size, scan_size}
use Rattle.clock.specs.Numbers.{source_number}
use Rattle.clock.specs.declared.Counters.{Counters}
use Rattle.clock.specs.declared.Scan.{Scan}
use Rattle.commands.specs.Numbers.{bias_number, commons_number}
use Rattle.clock.specs.declared.Source.{Source}
use Rattle.commands.specs.declared.Bias.{Bias}
use Rattle.commands.specs.declared.Commons.{Commons}
use Rattle.settings.specs.declared.Pitch.{Pitch}
use Rattle.settings.specs.declared.IrqSource.{IrqSource}
use Rattle.settings.specs.declared.Selections.{Selections}
use Rattle.settings.specs.declared.Settings.{Settings}
use Rattle.settings.specs.Numbers.{pitch_number, irq_source_number}
use Rattle.settings.specs.Settings.{system_to, source_to, lcd_to, display_to, tone_to, pitch_to, irq_to, irq_source_to, time_base_to, rate_to, prescaler_to, toner_to, divider_to, base_to, watchdog_to, flag_to, scan_count_to, common_to, counters_to, test_to, scan_to, part_to, power_on}
use Rattle.settings.specs.Selections.{sources, biases, commonses, pitches, irq_sources}
use Rattle.settings.specs.Fields.{Field, switch, count, selection, spare, bytes_of, maxima, all_known, read_from}

-- Where a record has the settings' bytes, after the memory and the frame's eight, and where among them the counters begin.
abbrev pub settings_at : ℕ
settings_at = addresses + 8

abbrev pub counters_at : ℕ
counters_at = settings_at + 11

-- ---- the list

-- Bytes 51 to 56.
abbrev counter_fields : List (Field Counters)
counter_fields =
    switch (λ c. c.timer.watchdog.flag) flag_to
    ∷ count prescaler_size (λ c. c.prescaler.count) prescaler_to
    ∷ count toner_size (λ c. c.toner.count) toner_to
    ∷ count divider_size (λ c. c.timer.divider.count) divider_to
    ∷ count base_size (λ c. c.timer.base.count) base_to
    ∷ count watchdog_size (λ c. c.timer.watchdog.count) watchdog_to
    ∷ []

-- A byte of the counters is one of the settings.
abbrev of_counters : Field Counters → Field Settings
of_counters field =
    record {
      written = λ s. field.written s.counters;
      most = field.most;
      known = field.known;
      read_into = λ n s. counters_to (field.read_into n s.counters) s;
    }

-- Bytes 40 to 50.
abbrev pub switch_fields : List (Field Settings)
switch_fields =
    switch (λ s. s.system.on) system_to
    ∷ selection source_number sources (λ s. s.system.source) source_to
    ∷ switch (λ s. s.lcd.on) lcd_to
    ∷ selection bias_number biases (λ s. s.lcd.bias) (λ bias s. display_to bias s.lcd.commons s)
    ∷ selection commons_number commonses (λ s. s.lcd.commons) (λ commons s. display_to s.lcd.bias commons s)
    ∷ switch (λ s. s.tone.on) tone_to
    ∷ selection pitch_number pitches (λ s. s.tone.pitch) pitch_to
    ∷ switch (λ s. s.irq.on) irq_to
    ∷ count 8 (λ s. s.base.rate) rate_to
    ∷ switch (λ s. s.base.on) time_base_to
    ∷ selection irq_source_number irq_sources (λ s. s.irq.source) irq_source_to
    ∷ []

-- Bytes 51 to 63: those that ticks change, with the test mark and the part between them, and three that are not used. What the scan can be
-- depends on the part and the commons: `scan_right` has it.
abbrev pub tick_fields : List (Field Settings)
tick_fields =
    map of_counters counter_fields
    ++ (switch (λ s. s.test) test_to
    ∷ selection part_number parts (λ s. s.part) part_to
    ∷ count 256 (λ s. s.scan.count) scan_count_to
    ∷ count 256 (λ s. s.scan.common) common_to
    ∷ spare ∷ spare ∷ spare ∷ [])

-- Bytes 40 to 63.
abbrev pub settings_fields : List (Field Settings)
settings_fields = switch_fields ++ tick_fields

-- ---- the bytes of given settings

abbrev pub settings_bytes : Settings → List ℕ
settings_bytes = bytes_of settings_fields

abbrev pub tick_bytes : Settings → List ℕ
tick_bytes = bytes_of tick_fields

-- Over a buffer that holds a record, all of them or those from the counters on; one that is too short stays as it was.
unfoldable pub settings_over : Settings → List ℕ → List ℕ
settings_over settings buffer = left_from settings_at (written_as 24 buffer) (settings_bytes settings) buffer

unfoldable pub counters_over : Settings → List ℕ → List ℕ
counters_over settings buffer = left_from counters_at (written_as 13 buffer) (tick_bytes settings) buffer

-- ---- the settings that bytes say

-- The most that each byte can be.
abbrev pub settings_maxima : List ℕ
settings_maxima = maxima settings_fields

-- A scan, by the bytes of part, commons, counter and common: the common that is scanned is one of those in force, and the counter below
-- its size in the part.
unfoldable pub scan_fits : ℕ → ℕ → ℕ → ℕ → Bool
scan_fits part commons counter common = ltb common commons && ltb counter (scan_size (part_of part))

-- The selections as one value.
abbrev pub selected : Source → Bias → Commons → Pitch → IrqSource → Selections
selected source bias commons pitch irq = record { source = source; bias = bias; commons = commons; pitch = pitch; irq = irq }

module _ (b : List ℕ) where
  abbrev pub scan_right : Bool
  scan_right = scan_fits (byte b 58) (byte b 44) (byte b 59) (byte b 60)

  -- Each byte is in range, the scan's by the others, and each selection and the part one of their cases.
  unfoldable pub settings_right : Bool
  settings_right = up_to (drop settings_at b) settings_maxima && scan_right && all_known b settings_at settings_fields

  -- The ranges by themselves, in a list that is as long as a record.
  abbrev pub settings_in_range : Bool
  settings_in_range = eqb (length b) record_length && (up_to (drop settings_at b) settings_maxima && scan_right)

  -- And the selections by themselves, which are among bytes 40 to 50.
  abbrev pub selections_known : Bool
  selections_known = all_known b settings_at switch_fields

  -- Each byte in turn changes what it stands for, so that of right bytes nothing is left of where they begin.
  abbrev pub settings_of : Settings
  settings_of = read_from b settings_at settings_fields (power_on Ht)

  unfoldable pub selections_read : Option Selections
  selections_read =
      cond selections_known
      (Some (selected settings_of.system.source settings_of.lcd.bias settings_of.lcd.commons settings_of.tone.pitch
      settings_of.irq.source))
      None

  -- The settings in a list that is as long as a record and has known selections there, with a scan and a part that were read before.
  unfoldable pub settings_read : Scan → Part → Option Settings
  settings_read scan part =
      cond (eqb (length b) record_length && selections_known) (Some (part_to part (scan_to scan settings_of))) None

  -- The scan that the bytes say.
  abbrev pub scan_of : Scan
  scan_of = record { count = byte b 59; common = byte b 60 }
