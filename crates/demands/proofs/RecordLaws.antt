-- What calls on a valid record leave and return: it is the record of a valid chip, calls on it are events on the chip, and each
-- part of the chip is a part of the bytes. Assumes nothing.
use mathlib.Core.Path.{◌≡◌, ◌∙◌, refl, sym, ap, ap₂}
use mathlib.Core.Bool.{Bool, true, false, cond}
use mathlib.Core.List.{List, [], ◌∷◌, ◌++◌, map}
use Prim.Native.Nat.{ℕ, zero, suc, ◌+◌, ◌*◌}
use native.Mathlib.Nat.{add-zero}
use lib.Dec.{eqb}
use lib.ListN.{take, drop}
use Rattle.ground.specs.Bits.{bit_at}
use Rattle.ground.specs.Sizes.{addresses}
use Rattle.ground.specs.Written.{byte}
use Rattle.ground.specs.Parts.{part_number, parts}
use Rattle.ground.specs.declared.Part.TheVariants.{Ht}
use Rattle.ground.proofs.CodesLaws.{case_of_again}
use Rattle.settings.proofs.BytesLaws.{settings_has}
use Rattle.settings.specs.declared.Settings.{Settings}
use Rattle.ticks.specs.Ticks as ticks
use Rattle.answers.specs.declared.Answer.{Answer}
use Rattle.answers.specs.declared.Answer.TheVariants.{Nothing, Opened, Closed, Dropped, Stored, Obeyed}
use Rattle.phases.specs.Phases.{unfinished}
use Rattle.chip.specs.declared.Chip.{Chip}
use Rattle.port.specs.declared.Port.{Port}
use Rattle.chip.specs.Chip.{advanced}
use Rattle.chip.specs.Valid.{Valid}
use Rattle.chip.proofs.ValidLaws.{advanced_valid}
use Rattle.settings.specs.Bytes.{settings_at, settings_bytes, settings_of}
use Rattle.state.specs.Record.{port_bytes, record_of, record_valid, chip_of}
use Rattle.state.proofs.ChipLaws.{valid_chip}
use Rattle.state.proofs.TripLaws.{valid_has, trip}
use Rattle.simulator.specs.Simulator.{answer_code, advance_bytes}
use Rattle.state.proofs.BytesLaws.{memory_bytes, port_bytes_lem, settings_bytes_lem}
use Rattle.demands.specs.Events.{Event, after, answers, notes}
use Rattle.demands.specs.Calls.{Call, after_calls, events_of, sent, passed, returns, noted}
use Rattle.demands.specs.Records.{opening_returns, bit_returns, nibble_returns, bit_offered, nibbles_offered, command_returns, no_frame}
use Rattle.demands.specs.Stopped.{first_answer, bit_answers, nibble_answers}
use Rattle.demands.proofs.CallsLaws.{cs_byte, count_byte, advance_leaves, calls_leave, calls_tell, calls_note}
use Rattle.demands.proofs.CommandLaws.{commands_answers}
use Rattle.demands.proofs.EventsLaws.{after_valid}
use Rattle.demands.proofs.Ports.{Sixteen, idle, high}
use Rattle.demands.proofs.ReadLaws.{read_answers}

-- ---- answers as numbers

bits_told : (k : ℕ) (rest : List Answer) → map answer_code (bit_answers k ++ rest) ≡ bit_returns k ++ map answer_code rest
unfolding answer_code
bits_told zero rest = refl
bits_told (suc k) rest = ap (λ (told : List ℕ). 0 ∷ 4 ∷ told) (bits_told k rest)

pub nibbles_told : (at : ℕ) (ns : List ℕ) → map answer_code (nibble_answers at ns) ≡ nibble_returns at ns
unfolding answer_code
nibbles_told at [] = refl
nibbles_told at (n ∷ ns) = ap (λ (told : List ℕ). bit_returns 3 ++ 0 ∷ answer_code (Stored at n) ∷ told) (nibbles_told (at + 1) ns)

pub offers_told : (at : ℕ) (vs : List ℕ) → map answer_code (read_answers at vs) ≡ nibbles_offered at vs
unfolding answer_code
offers_told at [] = refl
offers_told at (v ∷ vs) =
    ap (λ (told : List ℕ). bit_offered at (bit_at 0 v) ++ bit_offered at (bit_at 1 v) ++ bit_offered at (bit_at 2 v) ++ bit_offered at (bit_at 3 v) ++ told)
    (offers_told (at + 1) vs)

obeyed_told : (code : ℕ) → answer_code (Obeyed code) ≡ 6 + 256 * code
unfolding answer_code
obeyed_told code = add-zero (6 + 256 * code)

pub commands_told : (codes : List ℕ) → map answer_code (commands_answers codes) ≡ command_returns codes
unfolding answer_code
commands_told [] = refl
commands_told (code ∷ codes) =
    ap₂ (λ (told : ℕ) (rest : List ℕ). bit_returns 8 ++ 0 ∷ told ∷ rest) (obeyed_told code) (commands_told codes)

closing_told : (high finished : Bool) → answer_code (cond high Nothing (cond finished Closed Dropped)) ≡ cond high 0 (cond finished 2 3)
unfolding answer_code
closing_told true finished = refl
closing_told false true = refl
closing_told false false = refl

-- ---- what calls leave of a valid record, and what they return

module _ (b : List ℕ) (valid : record_valid b ≡ true) where
  abbrev c : Chip
  c = chip_of b

  v : Valid c
  v = valid_chip b valid

  pub memory_said : c.port.memory ≡ take addresses b
  unfolding chip_of
  memory_said = refl

  pub settings_said : c.settings ≡ settings_of b
  unfolding chip_of
  settings_said = refl

  -- byte 58 is the number of the part
  pub part_byte : part_number c.settings.part ≡ byte b 58
  unfolding chip_of
  part_byte =
      let has = settings_has b (valid_has b valid).long (valid_has b valid).settings in
      case_of_again part_number Ht (byte b 58) parts has.part

  opening_told : answer_code (first_answer c.port) ∷ 1 ∷ [] ≡ opening_returns b
  opening_told =
      ap (λ (told : ℕ). told ∷ 1 ∷ [])
      (closing_told c.port.levels.cs (eqb (unfinished c.port.phase) 0)
      ∙ sym (ap₂ (λ (cs : Bool) (count : ℕ). cond cs 0 (cond (eqb count 0) 2 3)) (cs_byte c v) (count_byte c v)))
      ∙ ap opening_returns (trip b valid)

  module _ (calls : List Call) where
    abbrev es : List Event
    es = events_of calls

    pub leaves : after_calls b calls ≡ record_of (after c es)
    leaves = ap (λ (l : List ℕ). after_calls l calls) (sym (trip b valid)) ∙ calls_leave c calls v

    pub notes_said : noted b calls ≡ notes c es
    notes_said = ap (λ (l : List ℕ). noted l calls) (sym (trip b valid)) ∙ calls_note c calls v

    pub memory_left : (m : List ℕ) → (after c es).port.memory ≡ m → take addresses (after_calls b calls) ≡ m
    memory_left m e = ap (take addresses) leaves ∙ memory_bytes (after c es) (after_valid c es v).port.size ∙ e

    pub settings_left : (s : Settings) → (after c es).settings ≡ s → drop settings_at (after_calls b calls) ≡ settings_bytes s
    settings_left s e =
        ap (drop settings_at) leaves ∙ settings_bytes_lem (after c es) (after_valid c es v).port.size
        ∙ ap settings_bytes e

    pub ticks_left : (after c es).settings ≡ ticks.advanced (passed calls) c.settings
        → drop settings_at (after_calls b calls) ≡ drop settings_at (advance_bytes b (passed calls))
    ticks_left e =
        settings_left (ticks.advanced (passed calls) c.settings) e
        ∙ sym (settings_bytes_lem (advanced (passed calls) c) (advanced_valid (passed calls) c v).port.size)
        ∙ ap (drop settings_at) (sym (advance_leaves c v (passed calls)) ∙ ap (λ (l : List ℕ). advance_bytes l (passed calls)) (trip b valid))

    pub port_left : (m : List ℕ) → (after c es).port ≡ idle m high → take settings_at (after_calls b calls) ≡ m ++ no_frame
    port_left m e =
        ap (take settings_at) leaves ∙ port_bytes_lem (after c es) (after_valid c es v).port.size
        ∙ ap (λ (p : Port). port_bytes p) e

    pub told : Sixteen (sent calls) → (bits : ℕ) (rest : List Answer) (numbers : List ℕ) → map answer_code rest ≡ numbers
        → answers c es ≡ first_answer c.port ∷ Opened ∷ bit_answers bits ++ rest
        → returns b calls ≡ opening_returns b ++ bit_returns bits ++ numbers
    unfolding answer_code
    told small bits rest numbers n e =
        ap (λ (l : List ℕ). returns l calls) (sym (trip b valid)) ∙ calls_tell c calls v small ∙ ap (map answer_code) e
        ∙ ap₂ ◌++◌ opening_told (bits_told bits rest ∙ ap (λ (l : List ℕ). bit_returns bits ++ l) n)
