-- A record in the rules' ranges is valid: each range meets its test, and what goes together is right phase by phase. Assumes nothing.
use mathlib.Core.Path.{◌≡◌, refl}
use mathlib.Core.Bool.{Bool, true, false, cond, not, ◌&&◌, ◌||◌}
use mathlib.Core.List.{List, [], ◌∷◌}
use mathlib.Core.Logic.{◌⊎◌, inl, inr, ⊎_elim}
use Prim.Native.Nat.{ℕ, zero, suc, ◌%◌, ◌≤◌, ◌<◌}
use native.Mathlib.Omega.{arith}
use native.Mathlib.Nat.{mod-lt}
use lib.Dec.{leb, eqb}
use lib.ListN.{length, get_or, drop, replicate, get_or-replicate, drop_of_length-le}
use borrow.Author.Tests.{eqb-true, eqb-false, le-leb, lt-ltb, eq-eqb, ne_eqb}
use Rattle.ground.specs.Values.{agree}
use Rattle.ground.specs.Codes.{is_code, case_of}
use Rattle.ground.specs.declared.Part.TheVariants.{Ht}
use Rattle.ground.specs.Parts.{part_number, parts}
use Rattle.ground.specs.Ranges.{up_to}
use Rattle.ground.proofs.ChoiceLaws.{and_both}
use Rattle.ground.proofs.PartsLaws.{part_right}
use Rattle.ground.proofs.WrittenLaws.{gathered}
use Rattle.clock.specs.Numbers.{source_number}
use Rattle.clock.specs.Sizes.{scan_size}
use Rattle.commands.specs.Numbers.{bias_number, commons_number}
use Rattle.phases.specs.Frame.{in_range, goes_with_cs, most_bits, bits_right, rest_right, frame_right, frame_fits}
use Rattle.settings.specs.Numbers.{pitch_number, irq_source_number}
use Rattle.settings.specs.Selections.{sources, biases, commonses, pitches, irq_sources}
use Rattle.settings.specs.Bytes.{settings_maxima, scan_fits, scan_right, settings_right}
use Rattle.settings.proofs.BytesLaws.{scan_small}
use Rattle.state.specs.Record.{memory_fits, record_valid}
use Rattle.sheet.specs.Bytes.{byte}
use Rattle.sheet.specs.Ranges.{ChipBytes, ScanBytes}

-- ---- each number that a selection can have is the code of a case

bias_right : (n : ℕ) → (n ≡ 2) ⊎ (n ≡ 3) → is_code bias_number biases n ≡ true
bias_right n (inl e) = rw e
bias_right n (inr e) = rw e

pitch_right : (n : ℕ) → (n ≡ 4) ⊎ (n ≡ 2) → is_code pitch_number pitches n ≡ true
pitch_right n (inl e) = rw e
pitch_right n (inr e) = rw e

source_right : (n : ℕ) → n ≤ 2 → is_code source_number sources n ≡ true
source_right n h = agree (λ (k : ℕ). is_code source_number sources k) (λ (k : ℕ). true) 3 refl n (omega arith)

irq_source_right : (n : ℕ) → n ≤ 2 → is_code irq_source_number irq_sources n ≡ true
irq_source_right n h = agree (λ (k : ℕ). is_code irq_source_number irq_sources k) (λ (k : ℕ). true) 3 refl n (omega arith)

commons_right : (n : ℕ) → 2 ≤ n → n ≤ 4 → is_code commons_number commonses n ≡ true
commons_right n h k =
    rw (le-leb 2 n h) at (agree (λ (k : ℕ). cond (leb 2 k) (is_code commons_number commonses k) true) (λ (k : ℕ). true) 5 refl n (omega arith))

-- ---- bytes at most their maxima, one by one

each_up_to : (bytes most : List ℕ) → ((i : ℕ) → i < length most → get_or bytes i 0 ≤ get_or most i 0) → up_to bytes most ≡ true
unfolding up_to
each_up_to [] most within = refl
each_up_to (byte ∷ bytes) [] within = refl
each_up_to (byte ∷ bytes) (maximum ∷ most) within =
    and_both (le-leb byte maximum (within 0 (omega arith))) (each_up_to bytes most (λ i h. within (suc i) (omega (arith, h))))

-- ---- the record

module _ (bytes : List ℕ) (size : length bytes ≡ 64) (r : ChipBytes bytes) (scan : ScanBytes bytes) where
  -- the most unfinished bits in each phase
  most_in : (code : ℕ) → byte bytes 33 ≡ code → code ≤ 7 → byte bytes 34 ≤ get_or most_bits code 0
  most_in zero e h = omega (arith, r.no_bits (inl e))
  most_in (suc zero) e h = r.id_bits e
  most_in (suc (suc zero)) e h = r.read_address_bits e
  most_in (suc (suc (suc zero))) e h = r.write_address_bits e
  most_in (suc (suc (suc (suc zero)))) e h = omega (arith, r.no_bits (inr (inl e)))
  most_in (suc (suc (suc (suc (suc zero))))) e h = r.nibble_bits e
  most_in (suc (suc (suc (suc (suc (suc zero)))))) e h = r.command_bits e
  most_in (suc (suc (suc (suc (suc (suc (suc zero))))))) e h = omega (arith, r.no_bits (inr (inr e)))
  most_in (suc (suc (suc (suc (suc (suc (suc (suc code)))))))) e h = let no : ⊥ = omega arith in absurd no

  most : byte bytes 34 ≤ get_or most_bits (byte bytes 33) 0
  most = most_in (byte bytes 33) refl r.phase

  memory_fits_lem : memory_fits bytes ≡ true
  memory_fits_lem = each_up_to bytes (replicate 32 15) (λ i h. rw (get_or-replicate {A = ℕ} 32 i 15 0 h) (r.memory i (omega (arith, h))))

  last : (i : ℕ) → 61 ≤ i → i ≤ 63 → leb (byte bytes i) 0 ≡ true
  last i h k = le-leb (byte bytes i) 0 (omega (arith, scan.zeros i h k))

  -- the scan's counter in either part
  count_below : (part : ℕ) → byte bytes 58 ≡ part → byte bytes 59 < scan_size (case_of part_number parts Ht part)
  count_below zero e = omega (arith, scan.count_of_ht e)
  count_below (suc zero) e = omega (arith, scan.count_of_gn e)
  count_below (suc (suc part)) e = let no : ⊥ = omega (arith, scan.part, e) in absurd no

  settings_fit : up_to (drop 40 bytes) settings_maxima ≡ true
  unfolding up_to
  settings_fit =
      rw (
        gathered 24 40 bytes (omega (arith, size)),
        drop_of_length-le bytes {i = 64} (omega (arith, size)),
        le-leb (byte bytes 40) 1 r.system,
        le-leb (byte bytes 41) 2 r.source,
        le-leb (byte bytes 42) 1 r.lcd,
        le-leb (byte bytes 43) 3 (⊎_elim (λ e. omega (arith, e)) (λ e. omega (arith, e)) r.bias),
        le-leb (byte bytes 44) 4 r.commons.1,
        le-leb (byte bytes 45) 1 r.tone,
        le-leb (byte bytes 46) 4 (⊎_elim (λ e. omega (arith, e)) (λ e. omega (arith, e)) r.pitch),
        le-leb (byte bytes 47) 1 r.irq_output,
        le-leb (byte bytes 48) 7 r.rate,
        le-leb (byte bytes 49) 1 r.time_base,
        le-leb (byte bytes 50) 2 r.irq_source,
        le-leb (byte bytes 51) 1 r.flag,
        le-leb (byte bytes 52) 7 r.p,
        le-leb (byte bytes 53) 15 r.q,
        le-leb (byte bytes 54) 127 r.d,
        le-leb (byte bytes 55) 255 r.b,
        le-leb (byte bytes 56) 3 r.w,
        le-leb (byte bytes 57) 1 r.test,
        le-leb (byte bytes 58) 1 scan.part,
        le-leb (byte bytes 59) 255 (omega (arith, count_below (byte bytes 58) refl, scan_small (case_of part_number parts Ht (byte bytes 58)))),
        le-leb (byte bytes 60) 255 (omega (arith, scan.common, r.commons.1)),
        last 61 (omega arith) (omega arith),
        last 62 (omega arith) (omega arith),
        last 63 (omega arith) (omega arith),
      )

  cs_right : goes_with_cs (byte bytes 32) (byte bytes 33) ≡ true
  unfolding goes_with_cs
  cs_right = by (eqb (byte bytes 32 % 2) 1) refl
    where
      by : (high : Bool) → eqb (byte bytes 32 % 2) 1 ≡ high → cond high (eqb (byte bytes 33) 0) (not (eqb (byte bytes 33) 0)) ≡ true
      by true e = eq-eqb _ _ (r.no_frame (eqb-true _ _ e))
      by false e =
          let low : byte bytes 32 % 2 ≡ 0 = omega (arith, eqb-false (byte bytes 32 % 2) 1 e, mod-lt (byte bytes 32) {m = 2} (omega arith)) in
          let some : byte bytes 33 ≡ 0 → ⊥ = λ z. omega (arith, z, r.some_frame low) in
          rw (ne_eqb _ _ some)

  rest_right_lem : rest_right (byte bytes 33) (byte bytes 37) (byte bytes 38) (byte bytes 39) ≡ true
  unfolding rest_right
  rest_right_lem = by (eqb (byte bytes 33) 4) (eqb (byte bytes 33) 5) refl refl
    where
      by : (reading writing : Bool) → eqb (byte bytes 33) 4 ≡ reading → eqb (byte bytes 33) 5 ≡ writing
          → ((reading || writing) || (eqb (byte bytes 37) 0 && eqb (byte bytes 38) 0 && eqb (byte bytes 39) 0)) ≡ true
      by true writing e f = refl
      by false true e f = refl
      by false false e f =
          let zeros = r.rest (eqb-false _ _ e) (eqb-false _ _ f) in
          rw (eq-eqb _ _ zeros.0, eq-eqb _ _ zeros.1, eq-eqb _ _ zeros.2)

  frame_fits_lem : frame_fits bytes ≡ true
  unfolding frame_right in_range bits_right
  frame_fits_lem =
      rw (
        le-leb (byte bytes 32) 15 r.lines,
        lt-ltb (byte bytes 37) 64 (omega (arith, r.address)),
        le-leb (byte bytes 38) 3 r.position,
        le-leb (byte bytes 39) 2 r.line,
        cs_right,
        le-leb (byte bytes 33) 7 r.phase,
        le-leb _ _ most,
        lt-ltb _ _ r.value,
        rest_right_lem,
      )

  scan_right_lem : scan_right bytes ≡ true
  unfolding scan_fits
  scan_right_lem = and_both (lt-ltb _ _ scan.common) (lt-ltb _ _ (count_below (byte bytes 58) refl))

  settings_right_lem : settings_right bytes ≡ true
  unfolding settings_right
  settings_right_lem =
      rw (
        settings_fit,
        scan_right_lem,
        source_right (byte bytes 41) r.source,
        bias_right (byte bytes 43) r.bias,
        commons_right (byte bytes 44) r.commons.0 r.commons.1,
        pitch_right (byte bytes 46) r.pitch,
        irq_source_right (byte bytes 50) r.irq_source,
        part_right (byte bytes 58) scan.part,
      )

  pub well_formed_valid : record_valid bytes ≡ true
  unfolding record_valid
  well_formed_valid = rw (eq-eqb _ _ size, memory_fits_lem, frame_fits_lem, settings_right_lem)
