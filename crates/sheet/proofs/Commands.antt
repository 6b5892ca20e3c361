-- Commands of bytes: the ninth bit makes of a valid record what the command means to the settings that it says. Assumes nothing.
use Rattle.commands.specs.declared.Command.{Command as Meant}
use Rattle.std.specs.Prelude.{Option}
use mathlib.Core.Path.{◌≡◌, ◌∙◌, refl, sym, ap, ap₂, subst}
use mathlib.Core.Bool.{Bool, true, false, cond, not}
use mathlib.Core.List.{List}
use Prim.Native.Nat.{ℕ, zero, suc, ◌+◌, ◌*◌, ◌≤◌, ◌<◌}
use native.Mathlib.Omega.{arith}
use lib.Dec.{ltb}
use lib.ListN.{drop, get_or}
use borrow.Author.Tests.{le-ltb, ltb-false}
use Rattle.ground.specs.declared.Part.{Part}
use Rattle.ground.specs.declared.Part.TheVariants.{Ht, Gn}
use Rattle.ground.specs.Parts.{part_number, part_of}
use Rattle.ground.specs.Values.{values, agree}
use Rattle.commands.specs.Commands.{byte_meaning, code_meaning, command_fault}
use Rattle.lines.specs.declared.Edge.{Edge}
use Rattle.lines.specs.declared.Edge.TheVariants.{Takes}
use Rattle.phases.specs.declared.Phase.{Phase}
use Rattle.phases.specs.declared.Phase.TheVariants.{Command}
use Rattle.phases.specs.declared.Line.TheVariants.{Released}
use Rattle.frames.specs.declared.Upshot.{Upshot}
use Rattle.frames.specs.declared.Upshot.TheVariants.{Code}
use Rattle.frames.specs.declared.Framed.{Framed}
use Rattle.lines.specs.Samples.{levels, edge}
use Rattle.frames.specs.Frames.{framed, frame, taken, command_taken}
use Rattle.phases.specs.Phases.{address, unfinished, phase_number}
use Rattle.phases.specs.Frame.{most_bits, value_in, phase_read}
use Rattle.phases.specs.Valid.{FrameValid}
use Rattle.phases.proofs.FrameLaws.{FrameHas, fits_has, FrameSame, frame_same}
use Rattle.settings.specs.Bytes.{settings_bytes, settings_of}
use Rattle.chip.specs.declared.Chip.{Chip}
use Rattle.chip.specs.Chip as model
use Rattle.chip.specs.Chip.{decoded_answer, obeyed_as, settings_after, stepped_to, stepped}
use Rattle.port.specs.Port.{framed_by, moved}
use Rattle.chip.proofs.ValidLaws.{stepped_valid}
use Rattle.state.specs.Record.{record_valid, record_of, chip_of}
use Rattle.state.proofs.ChipLaws.{valid_chip}
use Rattle.state.proofs.TripLaws.{valid_has}
use Rattle.simulator.specs.Simulator.{answer_code, step_returns, step_bytes}
use Rattle.state.proofs.BytesLaws.{settings_bytes_lem}
use Rattle.sheet.specs.Bytes.{byte}
use Rattle.sheet.specs.Commands.{defined, effect_of, NinthBit, CommandsSheet}
use Rattle.sheet.proofs.BytesLaws.{bytes_spelt, settings_said, part_said, bits_small}
use Rattle.sheet.proofs.CommandsLaws.{effect_same, defined_same, code_taken, code_meaning_lem, code_told}
use Rattle.sheet.proofs.NinthBitLaws.{first_bit, edge_takes, takes_only, frame_keeps}

-- ---- a sample on a valid record

module _ (b : List ℕ) (sample : ℕ) (valid : record_valid b ≡ true) where
  abbrev c : Chip
  c = chip_of b

  abbrev part : Part
  part = c.settings.part

  has : FrameHas (byte b 32) (byte b 33) (byte b 34) (value_in b) (byte b 37) (byte b 38) (byte b 39)
  has = fits_has b (valid_has b valid).frame

  module _ (low : sample ≤ 15) where
    abbrev upshot : Upshot
    upshot = (framed_by c.port (levels sample)).upshot

    returns_answer : step_returns b sample ≡ answer_code (model.told part upshot)
    unfolding step_returns stepped stepped_to moved
    returns_answer = simp (valid, le-ltb 15 sample low)

    leaves_settings : drop 40 (step_bytes b sample) ≡ settings_bytes (settings_after upshot (settings_of b))
    unfolding step_bytes stepped stepped_to moved chip_of
    leaves_settings =
        let bytes : step_bytes b sample ≡ record_of (stepped c sample).chip = simp (valid, le-ltb 15 sample low) in
        let settings : (stepped c sample).chip.settings ≡ settings_after upshot (settings_of b) = simp (le-ltb 15 sample low) in
        ap (drop 40) bytes
        ∙ settings_bytes_lem (stepped c sample).chip (stepped_valid c sample (valid_chip b valid)).port.size
        ∙ ap settings_bytes settings

  -- ---- that takes the ninth bit

  module _ (ninth : NinthBit b sample) where
    value_code : value_in b ≡ byte b 35
    value_code = omega (arith, bits_small b valid)

    code_small : byte b 35 < 256
    code_small = omega (arith, bits_small b valid)

    commanding : c.port.phase ≡ Command 8 (byte b 35)
    unfolding chip_of phase_read
    commanding = simp (ninth.phase, ninth.count, value_code)

    takes : edge (levels (byte b 32)) (levels sample) ≡ Takes (levels sample).bit
    unfolding chip_of
    takes =
        let was-low = (subst (FrameValid c.port.levels.cs c.port.line) commanding (valid_chip b valid).port.frame).0 in
        edge_takes (levels (byte b 32)) (levels sample) was-low (sym (first_bit sample ninth.in_range) ∙ ninth.cs) ninth.wr ninth.rd

    frames : framed_by c.port (levels sample) ≡ framed (Command 0 0) Released (Code (byte b 35))
    unfolding framed_by frame taken command_taken chip_of
    frames =
        ap₂ (λ (e : Edge) (phase : Phase). frame e (get_or c.port.memory (address c.port.phase) 0) phase c.port.line) takes commanding
        ∙ ap (λ (code : ℕ). framed (Command 0 0) Released (Code code)) (code_taken (byte b 35) code_small (levels sample).bit)

    told : step_returns b sample ≡ cond (defined (byte b 58) (byte b 35)) 6 7 + 256 * byte b 35
    unfolding chip_of
    told =
        returns_answer ninth.in_range ∙ ap (λ (f : Framed). answer_code (model.told part f.upshot)) frames
        ∙ ap (λ (d : Option Meant). answer_code (decoded_answer d (byte b 35))) (code_meaning_lem (byte b 35) code_small part)
        ∙ code_told (byte_meaning part (byte b 35)) (byte b 35)
        ∙ ap (λ (t : Bool). cond t 6 7 + 256 * byte b 35) (sym (defined_same part (byte b 35) code_small))
        ∙ ap (λ (n : ℕ). cond (defined n (byte b 35)) 6 7 + 256 * byte b 35) (part_said b valid)

    obeyed : drop 40 (step_bytes b sample) ≡ drop 40 (effect_of (byte b 58) (byte b 35) b)
    unfolding settings_after
    obeyed =
        leaves_settings ninth.in_range
        ∙ ap (λ (f : Framed). settings_bytes (settings_after f.upshot (settings_of b))) frames
        ∙ ap (λ (d : Option Meant). settings_bytes (obeyed_as d (settings_of b))) (code_meaning_lem (byte b 35) code_small (settings_of b).part)
        ∙ sym (effect_same b (settings_of b) (byte b 35) code_small)
        ∙ ap (λ (l : List ℕ). drop 40 (effect_of (part_number (settings_of b).part) (byte b 35) l)) (sym (bytes_spelt b valid))
        ∙ ap (λ (n : ℕ). drop 40 (effect_of n (byte b 35) b)) (part_said b valid)

  -- ---- that takes no ninth bit

  same : FrameSame (byte b 33) (byte b 34) (value_in b) (byte b 37) (byte b 38) c.port.phase
  unfolding chip_of
  same = frame_same (byte b 32) (byte b 34) (value_in b) (byte b 37) (byte b 38) (byte b 39) (byte b 33) has

  is_ninth : sample ≤ 15 → (bit : Bool) → edge (levels (byte b 32)) (levels sample) ≡ Takes bit → phase_number c.port.phase ≡ 6
      → 8 ≤ unfinished c.port.phase → NinthBit b sample
  is_ninth low bit e code eight =
      let each = takes_only (levels (byte b 32)) (levels sample) bit e in
      let six : byte b 33 ≡ 6 = sym same.code_same ∙ code in
      let most : byte b 34 ≤ 8 = subst (λ (n : ℕ). byte b 34 ≤ get_or most_bits n 0) six has.most in
      record {
        in_range = low;
        phase = six;
        count = omega (arith, most, eight, same.count_same);
        cs = first_bit sample low ∙ each.0;
        wr = each.1;
        rd = each.2;
      }

  settings_stay : (NinthBit b sample → ⊥) → drop 40 (step_bytes b sample) ≡ drop 40 b
  unfolding step_bytes chip_of framed_by
  settings_stay never = by (ltb 15 sample) refl
    where
      by : (above : Bool) → ltb 15 sample ≡ above → drop 40 (step_bytes b sample) ≡ drop 40 b
      by true e = simp (valid, e)
      by false e =
          let low = ltb-false 15 sample e in
          leaves_settings low
          ∙ ap settings_bytes (frame_keeps (edge (levels (byte b 32)) (levels sample)) (get_or c.port.memory (address c.port.phase) 0) c.port.phase c.port.line (settings_of b)
          (λ bit z code eight. never (is_ninth low bit z code eight)))
          ∙ sym (settings_said b valid)

-- what the driver refuses, and the ninth bit, code by code
faults : (part : ℕ) → part ≤ 1 → values (command_fault (part_of part)) 0 256 ≡ values (λ c. not (defined part c)) 0 256
unfolding command_fault code_meaning byte_meaning
faults zero h = refl
faults (suc zero) h = refl
faults (suc (suc part)) h = let no : ⊥ = omega arith in absurd no

ninths : (part : Part) → values (λ (c : ℕ). code_meaning part (2 * c + 1)) 0 256 ≡ values (λ (c : ℕ). code_meaning part (2 * c)) 0 256
unfolding code_meaning byte_meaning
ninths Ht = refl
ninths Gn = refl

pub commands_sheet : CommandsSheet
commands_sheet =
    record {
      steps = λ b sample valid. record { answer = told b sample valid; effect = obeyed b sample valid; none = settings_stay b sample valid };
      undefined = (refl, refl);
      refused = λ part code known low.
          agree (command_fault (part_of part)) (λ (c : ℕ). not (defined part c)) 256 (faults part known) code low;
      ninth = λ part code low.
          agree (λ (c : ℕ). code_meaning part (2 * c + 1)) (λ (c : ℕ). code_meaning part (2 * c)) 256 (ninths part) code low;
    }
