-- The bytes of a valid record: forty before the settings, which stand one by one so that a place among them can be computed,
-- and the settings' own. Assumes nothing.
use mathlib.Core.Path.{◌≡◌, ◌∙◌, refl, sym, ap, ap₂}
use mathlib.Core.Bool.{true, ◌||◌}
use mathlib.Core.List.{List, ◌++◌}
use Prim.Native.Nat.{ℕ, ◌<◌}
use native.Mathlib.Omega.{arith}
use lib.Dec.{eqb}
use lib.ListN.{take, drop}
use Rattle.ground.specs.Parts.{part_number}
use Rattle.ground.proofs.BitsLaws.{bit_number_back}
use Rattle.ground.proofs.WrittenLaws.{gather, gathered}
use Rattle.clock.specs.declared.Source.{Source}
use Rattle.clock.specs.declared.Source.TheVariants.{Xtal, Rc, Ext}
use Rattle.clock.specs.Numbers.{source_number}
use Rattle.phases.specs.Frame.{value_in}
use Rattle.phases.proofs.FrameLaws.{value_small}
use Rattle.settings.specs.declared.Settings.{Settings}
use Rattle.settings.specs.Bytes.{settings_bytes, settings_of}
use Rattle.ticks.specs.Ticks.{is_ext, running}
use Rattle.state.specs.Record.{port_bytes, record_valid, record_of, chip_of}
use Rattle.state.proofs.BytesLaws.{port_bytes_lem, record_parts}
use Rattle.state.proofs.ChipLaws.{valid_chip}
use Rattle.state.proofs.TripLaws.{valid_has, trip}
use Rattle.sheet.specs.Bytes.{byte, runs}

abbrev pub spelt : List ℕ → Settings → List ℕ
spelt b s = gather 40 0 b ++ settings_bytes s

module _ (b : List ℕ) (valid : record_valid b ≡ true) where
  forty : port_bytes (chip_of b).port ≡ gather 40 0 b
  forty =
      sym (port_bytes_lem (chip_of b) (valid_chip b valid).port.size)
      ∙ ap (take 40) (trip b valid ∙ gathered 40 0 b (omega (arith, (valid_has b valid).long)))

  -- a record in which other settings are written
  pub settings_written : (s : Settings) → record_of (record { port = (chip_of b).port; settings = s }) ≡ spelt b s
  settings_written s = record_parts (record { port = (chip_of b).port; settings = s }) ∙ ap (λ (l : List ℕ). l ++ settings_bytes s) forty

  -- and in which its own stand
  pub bytes_spelt : b ≡ spelt b (settings_of b)
  unfolding chip_of
  bytes_spelt = sym (trip b valid) ∙ settings_written (settings_of b)

  -- of which it has the last 24 bytes
  pub settings_said : drop 40 b ≡ settings_bytes (chip_of b).settings
  unfolding chip_of
  settings_said = ap (drop 40) bytes_spelt

  -- byte 58 is the number of the part
  pub part_said : part_number (settings_of b).part ≡ byte b 58
  part_said = ap (λ (l : List ℕ). byte l 58) (sym bytes_spelt)

  -- eight unfinished bits are the most
  pub bits_small : value_in b < 256
  bits_small = value_small b (valid_has b valid).frame

-- Running, by the bytes and by the settings that they say.
pub runs_running : (b : List ℕ) (s : Settings) → runs (spelt b s) ≡ running s
unfolding running
runs_running b s = ap₂ ◌||◌ (bit_number_back s.system.on) (by s.system.source)
  where
    by : (source : Source) → eqb (source_number source) 2 ≡ is_ext source
    by Xtal = refl
    by Rc = refl
    by Ext = refl
