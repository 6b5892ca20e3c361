-- Valid records are exactly those in the rules' ranges. Here: a valid one is in them, by what right bytes have; the other
-- way is in RangesLaws.antt. Assumes nothing.
use mathlib.Core.Path.{◌≡◌, ◌∙◌, refl, sym, ap, subst}
use mathlib.Core.Bool.{true, false}
use mathlib.Core.List.{List}
use mathlib.Core.Logic.{◌⊎◌, inl, inr, ⊎_elim}
use Prim.Native.Nat.{ℕ, zero, suc, ◌+◌, ◌-◌, ◌%◌, ◌≤◌, ◌<◌}
use native.Mathlib.Omega.{arith}
use lib.Dec.{T}
use lib.ListN.{get_or, replicate, get_or-replicate}
use borrow.Author.Tests.{eqb-true, eq-eqb, ne_eqb}
use Rattle.ground.specs.Values.{agree}
use Rattle.ground.specs.Codes.{case_of}
use Rattle.ground.specs.declared.Part.{Part}
use Rattle.ground.specs.declared.Part.TheVariants.{Ht}
use Rattle.ground.specs.Parts.{part_number, parts}
use Rattle.clock.specs.Sizes.{scan_size}
use Rattle.clock.specs.Valid.{ScanValid}
use Rattle.ground.proofs.RangesLaws.{up_to_at}
use Rattle.commands.specs.Numbers.{bias_number, commons_number}
use Rattle.commands.specs.declared.Bias.{Bias}
use Rattle.commands.specs.declared.Bias.TheVariants.{Half, Third}
use Rattle.commands.specs.declared.Commons.{Commons}
use Rattle.commands.specs.declared.Commons.TheVariants.{Two, Three, Four}
use Rattle.phases.specs.Frame.{most_bits, goes_with_cs, rest_right, value_in}
use Rattle.phases.proofs.FrameLaws.{FrameHas, fits_has, frame_zeros}
use Rattle.settings.specs.Numbers.{pitch_number}
use Rattle.settings.specs.declared.Pitch.{Pitch}
use Rattle.settings.specs.declared.Pitch.TheVariants.{FourK, TwoK}
use Rattle.settings.specs.Bytes.{settings_maxima, settings_of}
use Rattle.settings.proofs.BytesLaws.{settings_has, settings_valid}
use Rattle.state.specs.Record.{record_valid, chip_of}
use Rattle.state.proofs.TripLaws.{RecordHas, valid_has}
use Rattle.sheet.specs.Bytes.{byte}
use Rattle.sheet.specs.Ranges.{ChipBytes, ScanBytes, RangesSheet, ZerosAreHt}
use Rattle.sheet.proofs.BytesLaws.{spelt, bytes_spelt, bits_small}
use Rattle.sheet.proofs.RangesLaws.{well_formed_valid}

never : {A : Type 0} → false ≡ true → A
never e = let no : ⊥ = subst T (sym e) tt in absurd no

-- ---- the numbers of a selection's cases

bias_codes : (bias : Bias) (n : ℕ) → bias_number bias ≡ n → (n ≡ 2) ⊎ (n ≡ 3)
bias_codes Half n e = inl (sym e)
bias_codes Third n e = inr (sym e)

commons_codes : (commons : Commons) (n : ℕ) → commons_number commons ≡ n → (2 ≤ n) × (n ≤ 4)
commons_codes Two n e = (omega (arith, e), omega (arith, e))
commons_codes Three n e = (omega (arith, e), omega (arith, e))
commons_codes Four n e = (omega (arith, e), omega (arith, e))

pitch_codes : (pitch : Pitch) (n : ℕ) → pitch_number pitch ≡ n → (n ≡ 4) ⊎ (n ≡ 2)
pitch_codes FourK n e = inl (sym e)
pitch_codes TwoK n e = inr (sym e)

-- ---- which bytes of a frame go together

no_frame_lem : (lines code : ℕ) → goes_with_cs lines code ≡ true → lines % 2 ≡ 1 → code ≡ 0
unfolding goes_with_cs
no_frame_lem lines code e high = eqb-true code 0 (rw (eq-eqb _ _ high) at e)

some_frame_lem : (lines code : ℕ) → goes_with_cs lines code ≡ true → lines % 2 ≡ 0 → 1 ≤ code
unfolding goes_with_cs
some_frame_lem lines zero e low = never (rw low at e)
some_frame_lem lines (suc code) e low = omega arith

zeros_outside : (code at position line : ℕ) → rest_right code at position line ≡ true → (code ≡ 4 → ⊥) → (code ≡ 5 → ⊥)
    → (at ≡ 0) × (position ≡ 0) × (line ≡ 0)
unfolding rest_right
zeros_outside code at position line e four five = frame_zeros at position line (rw (ne_eqb _ _ four, ne_eqb _ _ five) at e)

-- ---- the record

module _ (bytes : List ℕ) (valid : record_valid bytes ≡ true) where
  has : RecordHas bytes
  has = valid_has bytes valid

  frame : FrameHas (byte bytes 32) (byte bytes 33) (byte bytes 34) (value_in bytes) (byte bytes 37) (byte bytes 38) (byte bytes 39)
  frame = fits_has bytes has.frame

  at_most : (i : ℕ) → i < 24 → byte bytes (40 + i) ≤ get_or settings_maxima i 0
  at_most = (settings_has bytes has.long has.settings).within

  nibble_at : (i : ℕ) → i ≤ 31 → byte bytes i ≤ 15
  nibble_at i h =
      rw (get_or-replicate {A = ℕ} 32 i 15 0 (omega arith)) at (up_to_at bytes (replicate 32 15) i has.memory (omega (arith, has.long)) (omega arith))

  bits_in_lem : (code : ℕ) → byte bytes 33 ≡ code → byte bytes 34 ≤ get_or most_bits code 0
  bits_in_lem code e = rw e at frame.most

  none_in : (code : ℕ) → get_or most_bits code 0 ≡ 0 → byte bytes 33 ≡ code → byte bytes 34 ≡ 0
  none_in code most e = omega (arith, most, bits_in_lem code e)

  -- what the settings are written as, of which the last three bytes are zero
  said : (i : ℕ) → byte (spelt bytes (settings_of bytes)) i ≡ byte bytes i
  said i = ap (λ (l : List ℕ). byte l i) (sym (bytes_spelt bytes valid))

  last_zero : (i : ℕ) → 61 ≤ i → i ≤ 63 → byte bytes i ≡ 0
  last_zero i h k =
      let at : 61 + (i - 61) ≡ i = omega arith in
      sym (said i) ∙ ap (λ (n : ℕ). byte (spelt bytes (settings_of bytes)) n) (sym at)
      ∙ agree (λ (j : ℕ). byte (spelt bytes (settings_of bytes)) (61 + j)) (λ (j : ℕ). 0) 3 refl (i - 61) (omega arith)

  -- the scan that they say is one that the part can have
  scan : ScanValid (settings_of bytes).part (settings_of bytes).lcd.commons (settings_of bytes).scan
  scan = (settings_valid bytes (settings_has bytes has.long has.settings)).2

  count_in : (part : ℕ) → byte bytes 58 ≡ part → byte bytes 59 < scan_size (case_of part_number parts Ht part)
  count_in part e = subst (λ (part : Part). byte bytes 59 < scan_size part) (ap (case_of part_number parts Ht) e) scan.count

  scan_bytes : ScanBytes bytes
  scan_bytes =
      record {
        part = at_most 18 (omega arith);
        count_of_ht = λ e. omega (arith, count_in 0 e);
        count_of_gn = λ e. omega (arith, count_in 1 e);
        common = subst (λ (n : ℕ). byte bytes 60 < n) (said 44) scan.common;
        zeros = last_zero;
      }

  chip_bytes : ChipBytes bytes
  chip_bytes =
      record {
        memory = nibble_at;
        lines = frame.lines_low;
        phase = frame.phase;
        value_low = omega (arith, bits_small bytes valid);
        value_high = omega (arith, bits_small bytes valid);
        address = omega (arith, frame.near);
        position = frame.one_of_4;
        line = frame.data_low;
        system = at_most 0 (omega arith);
        source = at_most 1 (omega arith);
        lcd = at_most 2 (omega arith);
        bias = bias_codes (settings_of bytes).lcd.bias _ (said 43);
        commons = commons_codes (settings_of bytes).lcd.commons _ (said 44);
        tone = at_most 5 (omega arith);
        pitch = pitch_codes (settings_of bytes).tone.pitch _ (said 46);
        irq_output = at_most 7 (omega arith);
        rate = at_most 8 (omega arith);
        time_base = at_most 9 (omega arith);
        irq_source = at_most 10 (omega arith);
        flag = at_most 11 (omega arith);
        p = at_most 12 (omega arith);
        q = at_most 13 (omega arith);
        d = at_most 14 (omega arith);
        b = at_most 15 (omega arith);
        w = at_most 16 (omega arith);
        test = at_most 17 (omega arith);
        no_frame = no_frame_lem (byte bytes 32) (byte bytes 33) frame.cs;
        some_frame = some_frame_lem (byte bytes 32) (byte bytes 33) frame.cs;
        id_bits = bits_in_lem 1;
        read_address_bits = bits_in_lem 2;
        write_address_bits = bits_in_lem 3;
        nibble_bits = bits_in_lem 5;
        command_bits = bits_in_lem 6;
        no_bits = ⊎_elim (none_in 0 refl) (⊎_elim (none_in 4 refl) (none_in 7 refl));
        value = frame.small;
        rest = zeros_outside (byte bytes 33) (byte bytes 37) (byte bytes 38) (byte bytes 39) frame.rest;
      }

pub ranges_sheet : RangesSheet
ranges_sheet bytes = (
  λ valid. record { size = (valid_has bytes valid).long; chip = chip_bytes bytes valid; scan = scan_bytes bytes valid },
  λ formed. well_formed_valid bytes formed.size formed.chip formed.scan,
)

-- ---- zeros from byte 58 on

pub zeros_are_ht : ZerosAreHt
unfolding chip_of
zeros_are_ht bytes size zeros =
    record {
      valid = chip_bytes bytes;
      valid_only = λ chip.
          well_formed_valid bytes size chip
          (record {
            part = omega (arith, zeros 58 (omega arith) (omega arith));
            count_of_ht = λ e. omega (arith, zeros 59 (omega arith) (omega arith));
            count_of_gn = λ e. omega (arith, zeros 59 (omega arith) (omega arith));
            common = omega (arith, zeros 60 (omega arith) (omega arith), chip.commons.0);
            zeros = λ i h k. zeros i (omega arith) k;
          });
      part = ap (case_of part_number parts Ht) (zeros 58 (omega arith) (omega arith));
      scan = λ i. record { count = zeros 59 (omega arith) (omega arith) i; common = zeros 60 (omega arith) (omega arith) i };
    }
