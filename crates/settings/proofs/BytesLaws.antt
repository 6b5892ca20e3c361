-- Laws of the settings' bytes. Right ones say valid settings, which are written as the same bytes; valid settings are written
-- as right ones. Assumes nothing.
use Rattle.std.specs.Prelude.{Option, Some, None}
use mathlib.Core.Path.{◌≡◌, ◌∙◌, refl, sym, ap, ap₂}
use mathlib.Core.Bool.{Bool, true, false, cond, ◌&&◌, and-true}
use mathlib.Core.List.{List, ◌++◌}
use Prim.Native.Nat.{ℕ, ◌+◌, ◌≤◌, ◌<◌}
use native.Mathlib.Omega.{arith}
use native.Mathlib.Nat.{add-zero}
use lib.Dec.{eqb, ltb}
use lib.ListN.{length, take, drop, get_or, length-drop}
use lib.Seq.{sets, sets-eq, length-sets, get_or-drop, get_or-append-add, drop_at}
use borrow.Author.Tests.{le-leb, lt-ltb, le-ltb, ltb-true}
use Rattle.ground.specs.Sizes.{record_length}
use Rattle.ground.specs.Codes.{is_code}
use Rattle.ground.specs.Ranges.{up_to}
use Rattle.ground.specs.Outcomes.{written_as}
use Rattle.ground.specs.Parts.{part_number, parts, part_of}
use Rattle.ground.specs.declared.Part.{Part}
use Rattle.ground.specs.declared.Part.TheVariants.{Ht, Gn}
use Rattle.ground.specs.Written.{byte, over}
use Rattle.ground.proofs.BitsLaws.{bit_number_small, bit_number_back, bit_number_again}
use Rattle.ground.proofs.ChoiceLaws.{and_left, and_right, and_both, each_of_3}
use Rattle.ground.proofs.CodesLaws.{case_of_again, read_of}
use Rattle.ground.proofs.PartsLaws.{part_back, part_small}
use Rattle.ground.proofs.RangesLaws.{up_to_at}
use Rattle.ground.proofs.WrittenLaws.{gather, over_over}
use Rattle.clock.specs.Numbers.{source_number}
use Rattle.clock.specs.Sizes.{scan_size}
use Rattle.clock.specs.declared.Scan.{Scan}
use Rattle.clock.specs.declared.Source.{Source}
use Rattle.clock.specs.declared.Source.TheVariants.{Rc}
use Rattle.commands.specs.Numbers.{bias_number, commons_number}
use Rattle.commands.specs.declared.Bias.{Bias}
use Rattle.commands.specs.declared.Bias.TheVariants.{Half}
use Rattle.commands.specs.declared.Commons.{Commons}
use Rattle.commands.specs.declared.Commons.TheVariants.{Two}
use Rattle.settings.specs.Numbers.{pitch_number, irq_source_number}
use Rattle.settings.specs.declared.Pitch.{Pitch}
use Rattle.settings.specs.declared.Pitch.TheVariants.{FourK}
use Rattle.settings.specs.declared.IrqSource.{IrqSource}
use Rattle.settings.specs.declared.IrqSource.TheVariants.{Neither}
use Rattle.settings.specs.declared.Selections.{Selections}
use Rattle.settings.specs.declared.Settings.{Settings}
use Rattle.settings.specs.Selections.{sources, source_read, biases, bias_read, commonses, commons_read, pitches, pitch_read, irq_sources, irq_source_read}
use Rattle.settings.specs.Bytes.{selected, settings_at, counters_at, settings_bytes, tick_bytes, counters_over, settings_fields, switch_fields, tick_fields, settings_maxima, scan_fits, selections_known, scan_right, settings_right, settings_of, selections_read, settings_read}
use Rattle.settings.specs.Fields.{all_known, read_from}
use Rattle.settings.specs.Settings.{power_on, part_to, scan_to}
use Rattle.settings.specs.Valid.{SettingsValid}
use Rattle.settings.proofs.FieldsLaws.{all_known_past, all_known_both, read_from_past}
use Rattle.settings.proofs.SelectionsLaws.{source_back, source_small, bias_back, bias_small, commons_back, commons_small, pitch_back, pitch_small, irq_source_back, irq_source_small}

pub and_next : (a rest : Bool) → a ≡ true → (a && rest) ≡ rest
and_next a rest h = rw h

pub and_fails : (a rest : Bool) → a ≡ false → (a && rest) ≡ false
and_fails a rest h = rw h

-- ---- what right bytes have

pub record SettingsHas (b : List ℕ) : Type 0 where
  pub within : (i : ℕ) → i < 24 → byte b (settings_at + i) ≤ get_or settings_maxima i 0
  pub source : is_code source_number sources (byte b 41) ≡ true
  pub bias : is_code bias_number biases (byte b 43) ≡ true
  pub commons : is_code commons_number commonses (byte b 44) ≡ true
  pub pitch : is_code pitch_number pitches (byte b 46) ≡ true
  pub irq_source : is_code irq_source_number irq_sources (byte b 50) ≡ true
  pub part : is_code part_number parts (byte b 58) ≡ true
  pub scan : scan_right b ≡ true

pub settings_has : (b : List ℕ) → length b ≡ record_length → settings_right b ≡ true → SettingsHas b
unfolding settings_right
settings_has b long e =
    let each = each_of_3 (up_to (drop settings_at b) settings_maxima) (scan_right b) (all_known b settings_at settings_fields) e in
    let all = each.2 in
    let after-source = and_right (is_code source_number sources (byte b 41)) _ all in
    let after-bias = and_right (is_code bias_number biases (byte b 43)) _ after-source in
    let after-commons = and_right (is_code commons_number commonses (byte b 44)) _ after-bias in
    let after-pitch = and_right (is_code pitch_number pitches (byte b 46)) _ after-commons in
    let after-irq = and_right (is_code irq_source_number irq_sources (byte b 50)) _ after-pitch in
    record {
      within = λ i h.
          rw (get_or-drop settings_at b i 0) at (up_to_at (drop settings_at b) settings_maxima i each.0 (omega (arith, long, length-drop settings_at b)) h);
      source = and_left (is_code source_number sources (byte b 41)) _ all;
      bias = and_left (is_code bias_number biases (byte b 43)) _ after-source;
      commons = and_left (is_code commons_number commonses (byte b 44)) _ after-bias;
      pitch = and_left (is_code pitch_number pitches (byte b 46)) _ after-commons;
      irq_source = and_left (is_code irq_source_number irq_sources (byte b 50)) _ after-pitch;
      part = and_left (is_code part_number parts (byte b 58)) _ after-irq;
      scan = each.1;
    }

module _ (b : List ℕ) (has : SettingsHas b) where
  -- the bytes that are not used
  zero_at : (i : ℕ) → i < 24 → get_or settings_maxima i 0 ≡ 0 → byte b (settings_at + i) ≡ 0
  zero_at i h none = omega (arith, has.within i h, none)

  -- Right bytes, read and written, are the same bytes.
  pub settings_trip : settings_bytes (settings_of b) ≡ gather 24 settings_at b
  settings_trip =
      simp (
        bit_number_again (byte b 40) (has.within 0 (omega arith)),
        case_of_again source_number Rc (byte b 41) sources has.source,
        bit_number_again (byte b 42) (has.within 2 (omega arith)),
        case_of_again bias_number Half (byte b 43) biases has.bias,
        case_of_again commons_number Two (byte b 44) commonses has.commons,
        bit_number_again (byte b 45) (has.within 5 (omega arith)),
        case_of_again pitch_number FourK (byte b 46) pitches has.pitch,
        bit_number_again (byte b 47) (has.within 7 (omega arith)),
        bit_number_again (byte b 49) (has.within 9 (omega arith)),
        case_of_again irq_source_number Neither (byte b 50) irq_sources has.irq_source,
        bit_number_again (byte b 51) (has.within 11 (omega arith)),
        bit_number_again (byte b 57) (has.within 17 (omega arith)),
        case_of_again part_number Ht (byte b 58) parts has.part,
        zero_at 21 (omega arith) refl,
        zero_at 22 (omega arith) refl,
        zero_at 23 (omega arith) refl,
      )

  -- And what they say is valid.
  pub settings_valid : SettingsValid (settings_of b)
  unfolding scan_fits
  settings_valid =
      let below : byte b 60 < byte b 44 =
      ltb-true _ _ (and_left (ltb (byte b 60) (byte b 44)) (ltb (byte b 59) (scan_size (part_of (byte b 58)))) has.scan) in (
        has.within 8 (omega arith),
        record {
          prescaler = omega (arith, has.within 12 (omega arith));
          toner = omega (arith, has.within 13 (omega arith));
          timer =
              record {
                divider = omega (arith, has.within 14 (omega arith));
                base = omega (arith, has.within 15 (omega arith));
                watchdog = omega (arith, has.within 16 (omega arith));
              };
        },
        record {
          count = ltb-true _ _ (and_right (ltb (byte b 60) (byte b 44)) (ltb (byte b 59) (scan_size (part_of (byte b 58)))) has.scan);
          common = omega (arith, below, case_of_again commons_number Two (byte b 44) commonses has.commons);
        },
      )

-- ---- valid settings are written as bytes in range

-- the HT's scan is the longer one
pub scan_small : (part : Part) → scan_size part ≤ 128
scan_small Ht = omega arith
scan_small Gn = omega arith

pub settings_fit : (s : Settings) → SettingsValid s → up_to (settings_bytes s) settings_maxima ≡ true
unfolding up_to
settings_fit s v =
    let counters = s.counters in
    let timer = counters.timer in
    simp (
      le-leb _ _ (bit_number_small s.system.on),
      le-leb _ _ (source_small s.system.source),
      le-leb _ _ (bit_number_small s.lcd.on),
      le-leb _ _ (bias_small s.lcd.bias),
      le-leb _ _ (commons_small s.lcd.commons),
      le-leb _ _ (bit_number_small s.tone.on),
      le-leb _ _ (pitch_small s.tone.pitch),
      le-leb _ _ (bit_number_small s.irq.on),
      le-leb _ _ v.0,
      le-leb _ _ (bit_number_small s.base.on),
      le-leb _ _ (irq_source_small s.irq.source),
      le-leb _ _ (bit_number_small timer.watchdog.flag),
      le-leb counters.prescaler.count 7 (omega (arith, v.1.prescaler)),
      le-leb counters.toner.count 15 (omega (arith, v.1.toner)),
      le-leb timer.divider.count 127 (omega (arith, v.1.timer.divider)),
      le-leb timer.base.count 255 (omega (arith, v.1.timer.base)),
      le-leb timer.watchdog.count 3 (omega (arith, v.1.timer.watchdog)),
      le-leb _ _ (bit_number_small s.test),
      le-leb _ _ (part_small s.part),
      le-leb s.scan.count 255 (omega (arith, v.2.count, scan_small s.part)),
      le-leb s.scan.common 255 (omega (arith, v.2.common, commons_small s.lcd.commons)),
    )

-- ---- settings that stand after other bytes, where a record has them, are read again; valid ones are right

module _ (s : Settings) where
  again : read_from (settings_bytes s) 0 settings_fields (power_on Ht) ≡ s
  again =
      simp (
        bit_number_back,
        (source_back Rc s.system.source).1,
        (bias_back Half s.lcd.bias).1,
        (commons_back Two s.lcd.commons).1,
        (pitch_back FourK s.tone.pitch).1,
        (irq_source_back Neither s.irq.source).1,
        (part_back Ht s.part).1,
      )

  known : all_known (settings_bytes s) 0 settings_fields ≡ true
  known =
      and_next _ _ (source_back Rc s.system.source).0 ∙ and_next _ _ (bias_back Half s.lcd.bias).0
      ∙ and_next _ _ (commons_back Two s.lcd.commons).0 ∙ and_next _ _ (pitch_back FourK s.tone.pitch).0
      ∙ and_next _ _ (irq_source_back Neither s.irq.source).0 ∙ and_next _ _ (part_back Ht s.part).0

  module _ (before : List ℕ) (size : length before ≡ settings_at) where
    pub settings_read_lem : settings_of (before ++ settings_bytes s) ≡ s
    settings_read_lem =
        ap (λ (n : ℕ). read_from (before ++ settings_bytes s) n settings_fields (power_on Ht)) (sym size ∙ sym (add-zero (length before)))
        ∙ read_from_past before (settings_bytes s) 0 settings_fields (power_on Ht) ∙ again

    at : (k : ℕ) → byte (before ++ settings_bytes s) (settings_at + k) ≡ byte (settings_bytes s) k
    at k = ap (λ (n : ℕ). byte (before ++ settings_bytes s) (n + k)) (sym size) ∙ get_or-append-add before (settings_bytes s) k 0

    scan_right_lem : SettingsValid s → scan_right (before ++ settings_bytes s) ≡ true
    unfolding scan_fits
    scan_right_lem v =
        and_both (ap₂ ltb (at 20) (at 4) ∙ lt-ltb _ _ v.2.common)
        (ap₂ (λ (count part : ℕ). ltb count (scan_size (part_of part))) (at 19) (at 18)
        ∙ ap (λ (part : Part). ltb s.scan.count (scan_size part)) (part_back Ht s.part).1 ∙ lt-ltb _ _ v.2.count)

    pub settings_right_lem : SettingsValid s → settings_right (before ++ settings_bytes s) ≡ true
    unfolding settings_right
    settings_right_lem v =
        and_both
        (and_both (ap (λ (l : List ℕ). up_to l settings_maxima) (drop_at before (settings_bytes s) settings_at size) ∙ settings_fit s v) (scan_right_lem v))
        (ap (λ (n : ℕ). all_known (before ++ settings_bytes s) n settings_fields) (sym size ∙ sym (add-zero (length before)))
        ∙ all_known_past before (settings_bytes s) 0 settings_fields ∙ known)

-- ---- the selections are known, and the part, exactly where all of the bytes are

pub all_known_lem : (b : List ℕ) → all_known b settings_at settings_fields ≡ (selections_known b && is_code part_number parts (byte b 58))
all_known_lem b = all_known_both b tick_fields settings_at switch_fields ∙ ap (λ (t : Bool). selections_known b && t) (and-true _)

-- ---- what reading answers, by the tests in turn

-- the selections of five readings: none where one of the readings found none
abbrev pub together : Option Source → Option Bias → Option Commons → Option Pitch → Option IrqSource → Option Selections
together (Some source) (Some bias) (Some commons) (Some pitch) (Some irq) = Some (selected source bias commons pitch irq)
together (Some source) (Some bias) (Some commons) (Some pitch) None = None
together (Some source) (Some bias) (Some commons) None irq = None
together (Some source) (Some bias) None pitch irq = None
together (Some source) None commons pitch irq = None
together None bias commons pitch irq = None

all_chosen : (s b c p i : Bool) (source : Source) (bias : Bias) (commons : Commons) (pitch : Pitch) (irq : IrqSource)
    → together (cond s (Some source) None) (cond b (Some bias) None) (cond c (Some commons) None) (cond p (Some pitch) None) (cond i (Some irq) None)
    ≡ cond (s && (b && (c && (p && (i && true))))) (Some (selected source bias commons pitch irq)) None
all_chosen true true true true true source bias commons pitch irq = refl
all_chosen true true true true false source bias commons pitch irq = refl
all_chosen true true true false i source bias commons pitch irq = refl
all_chosen true true false p i source bias commons pitch irq = refl
all_chosen true false c p i source bias commons pitch irq = refl
all_chosen false b c p i source bias commons pitch irq = refl

pub selections_by : (b : List ℕ)
    → selections_read b
    ≡ together (source_read (byte b 41)) (bias_read (byte b 43)) (commons_read (byte b 44)) (pitch_read (byte b 46)) (irq_source_read (byte b 50))
unfolding selections_read source_read bias_read commons_read pitch_read irq_source_read
selections_by b =
    sym
    (rw (
      read_of source_number Rc (byte b 41) sources,
      read_of bias_number Half (byte b 43) biases,
      read_of commons_number Two (byte b 44) commonses,
      read_of pitch_number FourK (byte b 46) pitches,
      read_of irq_source_number Neither (byte b 50) irq_sources,
    )
    (all_chosen
    (is_code source_number sources (byte b 41))
    (is_code bias_number biases (byte b 43))
    (is_code commons_number commonses (byte b 44))
    (is_code pitch_number pitches (byte b 46))
    (is_code irq_source_number irq_sources (byte b 50))
    _ _ _ _ _))

-- the settings are made of the selections and the other bytes
module _ (b : List ℕ) (scan : Scan) (part : Part) where
  abbrev pub settings_with : Option Selections → Option Settings
  settings_with None = None
  settings_with (Some found) =
      Some
      (record {
        system = record { on = eqb (byte b 40) 1; source = found.source };
        lcd = record { on = eqb (byte b 42) 1; bias = found.bias; commons = found.commons };
        tone = record { on = eqb (byte b 45) 1; pitch = found.pitch };
        irq = record { on = eqb (byte b 47) 1; source = found.irq };
        base = record { on = eqb (byte b 49) 1; rate = byte b 48 };
        counters = (settings_of b).counters;
        test = eqb (byte b 57) 1;
        scan = scan;
        part = part;
      })

  pub settings_by : settings_read b scan part ≡ cond (eqb (length b) record_length) (settings_with (selections_read b)) None
  unfolding settings_read selections_read
  settings_by = by (eqb (length b) record_length) (selections_known b)
    where
      by : (long known : Bool)
          → cond (long && known) (Some (part_to part (scan_to scan (settings_of b)))) None
          ≡ cond long
          (settings_with
          (cond known
          (Some
          (selected (settings_of b).system.source (settings_of b).lcd.bias (settings_of b).lcd.commons (settings_of b).tone.pitch
          (settings_of b).irq.source))
          None))
          None
      by true true = refl
      by true false = refl
      by false _ = refl

-- ---- the settings put over a record: stores, and the bytes from the counters on after them

pub put_settings : (s : Settings) (buffer after : List ℕ) → record_length ≤ length buffer
    → after ≡ counters_over s (sets buffer settings_at (take 11 (settings_bytes s))) → after ≡ over buffer settings_at (settings_bytes s)
unfolding counters_over written_as
put_settings s buffer after room e =
    let begun : List ℕ = sets buffer settings_at (take 11 (settings_bytes s)) in
    e ∙ rw (le-ltb (length begun) record_length (omega (arith, length-sets buffer settings_at (take 11 (settings_bytes s)))))
    (ap (λ (l : List ℕ). over l counters_at (tick_bytes s)) (sets-eq (take 11 (settings_bytes s)) buffer settings_at (omega arith))
    ∙ over_over buffer (take 11 (settings_bytes s)) (tick_bytes s) settings_at (omega arith))
