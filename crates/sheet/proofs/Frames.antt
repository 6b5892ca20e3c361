-- What a WR rise and an RD fall make of a valid record, phase by phase: what the frame's rule makes of the phase that byte 33
-- says is written as the bytes of the statement. Assumes nothing.
use Rattle.commands.specs.declared.Command.{Command as Meant}
use Rattle.std.specs.Prelude.{Option, Some, None}
use mathlib.Core.Path.{◌≡◌, ◌∙◌, refl, sym, ap, subst}
use mathlib.Core.Bool.{Bool, true, false, cond}
use mathlib.Core.List.{List}
use mathlib.Core.Logic.{inl, inr, ⊎_elim}
use Prim.Native.Nat.{ℕ, zero, suc, ◌+◌, ◌*◌, ◌/◌, ◌%◌, ◌^◌, ◌≤◌, ◌<◌}
use native.Mathlib.Nat.{add-zero, mod-eq_of_lt}
use native.Mathlib.Omega.{arith}
use lib.Dec.{eqb, ltb}
use lib.ListN.{get_or, set, take, get_or-eq_default}
use lib.Seq.{get_or-take, set_out}
use borrow.Author.Tests.{lt-ltb, ltb-true, ltb-false}
use Rattle.ground.specs.Bits.{bit_at, bit_number}
use Rattle.ground.proofs.BitsLaws.{bit_number_bit_at}
use Rattle.ground.proofs.ChoiceLaws.{by_cases}
use Rattle.commands.specs.Commands.{code_meaning}
use Rattle.phases.specs.declared.Phase.{Phase}
use Rattle.phases.specs.declared.Phase.TheVariants.{Ident, ReadTo, WriteTo, Reading, Writing, Command, Dead}
use Rattle.phases.specs.declared.Line.TheVariants.{Released, Driven}
use Rattle.answers.specs.declared.Answer.TheVariants.{Taken, Unknown, Stray}
use Rattle.lines.specs.declared.Edge.TheVariants as edges
use Rattle.lines.specs.Samples.{levels, edge}
use Rattle.frames.specs.Frames as model
use Rattle.frames.specs.Frames.{frame, framed}
use Rattle.phases.specs.Phases.{address, unfinished, value_of, position_of, phase_number}
use Rattle.phases.specs.Frame.{value_in, phase_read}
use Rattle.phases.proofs.FrameLaws.{FrameHas, fits_has}
use Rattle.port.specs.Port.{memory_after, framed_by}
use Rattle.frames.specs.declared.Upshot.TheVariants.{Answered, Nibble, Code}
use Rattle.chip.specs.Chip.{decoded_answer, obeyed_as, settings_after}
use Rattle.state.specs.Record.{record_valid, chip_of}
use Rattle.state.proofs.TripLaws.{valid_has}
use Rattle.simulator.specs.Simulator.{answer_code}
use Rattle.sheet.specs.Bytes.{byte}
use Rattle.sheet.specs.Frames.{OnlyLevels, Stores, Leaves, there, due, Offers, bits, with_bit, before_last, identified, nibble_of, store_returns, next_nibble, one_more, Completes, Takes}
use Rattle.sheet.proofs.BytesLaws.{bits_small}
use Rattle.sheet.proofs.FramesLaws.{frame_left, phase_at_lem, code_said, low_said, high_said, address_said, position_said, read_frame, stray_fall, ident_made}
use Rattle.sheet.proofs.SamplesLaws.{size, tells, stores, leaves, port_left, only, framed_by_lem}

-- only an unknown ID is answered otherwise than any other bit
id_told : (phase : ℕ) → answer_code (cond (eqb phase 7) Unknown Taken) ≡ cond (eqb phase 7) 10 4
unfolding answer_code
id_told phase = by (eqb phase 7)
  where
    by : (dead : Bool) → answer_code (cond dead Unknown Taken) ≡ cond dead 10 4
    by true = refl
    by false = refl

module _ (b : List ℕ) (valid : record_valid b ≡ true) (s : ℕ) (small : s ≤ 15) where
  has : FrameHas (byte b 32) (byte b 33) (byte b 34) (value_in b) (byte b 37) (byte b 38) (byte b 39)
  has = fits_has b (valid_has b valid).frame

  -- ---- an RD fall

  module _ (fall : edge (chip_of b).port.levels (levels s) ≡ edges.Offers) where
    abbrev nibble : ℕ
    nibble = get_or (take 32 b) (byte b 37) 0

    -- past the memory there is nothing but 0
    nibble_said : nibble ≡ there b
    nibble_said =
        by_cases (λ n. nibble ≡ n) (ltb (byte b 37) _)
        (λ t. get_or-take 32 b (byte b 37) 0 (omega (arith, ltb-true (byte b 37) _ t)))
        (λ f. get_or-eq_default (take 32 b) 0 {n = byte b 37} (omega (arith, size b valid, ltb-false (byte b 37) _ f)))

    due_said : bit_number (bit_at (byte b 38) nibble) ≡ due b
    due_said =
        ap (λ (n : ℕ). bit_number (bit_at (byte b 38) n)) nibble_said
        ∙ bit_number_bit_at (byte b 38) (there b)

    pub offers : Offers b s
    unfolding frame model.offered model.read_offered phase_read answer_code
    offers =
        record {
          reading = λ e.
              leaves b valid s small (model.read_offered nibble (byte b 37) (byte b 38))
              (framed_by_lem b valid s small edges.Offers fall (Reading (byte b 37) (byte b 38)) (phase_at_lem b valid 4 e)) _ _ _ refl
              (rw due_said)
              (read_frame (byte b 37) (byte b 38) (Driven (bit_at (byte b 38) nibble)) has.one_of_4
              ∙ rw due_said);
          writing = λ e.
              let writes = Writing (byte b 34) (bits b) (byte b 37) (byte b 38) in
              let now = phase_at_lem b valid 5 e in
              leaves b valid s small (model.write_offered nibble (byte b 34) (bits b) (byte b 37) (byte b 38))
              (framed_by_lem b valid s small edges.Offers fall writes now) _ _ _ refl
              (rw due_said) (rw (due_said, ← low_said b valid writes now, ← high_said b valid writes now));
          stray = λ four five.
              let now = (chip_of b).port.phase in
              let code = code_said b valid now refl in
              only b valid s small Stray _
              (framed_by_lem b valid s small edges.Offers fall now refl
              ∙ stray_fall (get_or (take 32 b) (address now) 0) now (chip_of b).port.line (λ e. four (code ∙ e)) (λ e. five (code ∙ e)))
              refl;
        }

  -- ---- a WR rise

  module _ (rise : edge (chip_of b).port.levels (levels s) ≡ edges.Takes (bit_at 3 s)) where
    -- one more than eight bits fits into nine
    with_bit_lem : model.more (bits b) (bit_at 3 s) ≡ with_bit b s
    with_bit_lem = rw (bit_number_bit_at 3 s) (mod-eq_of_lt (omega (arith, bits_small b valid)))

    -- six are an address as they stand
    six_reach : byte b 34 ≡ 5 → model.reached (with_bit b s) ≡ with_bit b s
    six_reach count =
        let five : bits b < 32 = subst (λ n. bits b < 2 ^ n) count has.small in
        mod-eq_of_lt (omega arith)

    -- the ninth is ignored
    upper_eight : with_bit b s / 2 % 256 ≡ bits b
    upper_eight = omega (arith, bits_small b valid)

    module _ (phase : Phase) (now : (chip_of b).port.phase ≡ phase) where
      taken_by : framed_by (chip_of b).port (levels s) ≡ model.taken (bit_at 3 s) phase (chip_of b).port.line
      unfolding frame
      taken_by = framed_by_lem b valid s small (edges.Takes (bit_at 3 s)) rise phase now

      stray_rise : model.taken (bit_at 3 s) phase (chip_of b).port.line ≡ framed phase (chip_of b).port.line (Answered Stray)
          → OnlyLevels b s 9
      unfolding answer_code
      stray_rise e =
          only b valid s small Stray _
          (taken_by ∙ e ∙ ap (λ (p : Phase). framed p (chip_of b).port.line (Answered Stray)) (sym now)) refl

      -- a bit taken leads from phase to phase
      leads : (next : Phase) (frame : List ℕ) → model.taken (bit_at 3 s) phase (chip_of b).port.line ≡ model.collected next
          → frame_left next Released ≡ frame → Leaves b s 4 frame
      unfolding answer_code
      leads next frame e bytes = leaves b valid s small (model.collected next) (taken_by ∙ e) 4 frame Taken refl refl bytes

      -- or leaves it in its phase
      adds : (next : Phase) → model.taken (bit_at 3 s) phase (chip_of b).port.line ≡ model.collected next
          → phase_number next ≡ phase_number phase → unfinished next ≡ byte b 34 + 1 → value_of next ≡ with_bit b s
          → address next ≡ address phase → position_of next ≡ position_of phase
          → Leaves b s 4 (one_more b s)
      adds next e code count value at position =
          leads next _ e
          (rw (code, count, value, at, position, code_said b valid phase now, address_said b valid phase now, position_said b valid phase now))

    more_in : (code : ℕ) → byte b 33 ≡ code → byte b 34 < before_last code
        → Leaves b s 4 (one_more b s)
    unfolding phase_read model.taken model.ident_taken model.read_to_taken model.write_to_taken model.nibble_taken model.command_taken
    more_in zero e h = let no : ⊥ = omega arith in absurd no
    more_in (suc zero) e h =
        adds (Ident (byte b 34) (bits b)) (phase_at_lem b valid 1 e) (Ident (byte b 34 + 1) (model.more (bits b) (bit_at 3 s)))
        (rw (lt-ltb (byte b 34) 2 h)) refl refl with_bit_lem refl refl
    more_in (suc (suc zero)) e h =
        adds (ReadTo (byte b 34) (bits b)) (phase_at_lem b valid 2 e) (ReadTo (byte b 34 + 1) (model.more (bits b) (bit_at 3 s)))
        (rw (lt-ltb (byte b 34) 5 h)) refl refl with_bit_lem refl refl
    more_in (suc (suc (suc zero))) e h =
        adds (WriteTo (byte b 34) (bits b)) (phase_at_lem b valid 3 e) (WriteTo (byte b 34 + 1) (model.more (bits b) (bit_at 3 s)))
        (rw (lt-ltb (byte b 34) 5 h)) refl refl with_bit_lem refl refl
    more_in (suc (suc (suc (suc zero)))) e h = let no : ⊥ = omega arith in absurd no
    more_in (suc (suc (suc (suc (suc zero))))) e h =
        adds (Writing (byte b 34) (bits b) (byte b 37) (byte b 38)) (phase_at_lem b valid 5 e)
        (Writing (byte b 34 + 1) (model.more (bits b) (bit_at 3 s)) (byte b 37) (byte b 38))
        (rw (lt-ltb (byte b 34) 3 h)) refl refl with_bit_lem refl refl
    more_in (suc (suc (suc (suc (suc (suc zero)))))) e h =
        adds (Command (byte b 34) (bits b)) (phase_at_lem b valid 6 e) (Command (byte b 34 + 1) (model.more (bits b) (bit_at 3 s)))
        (rw (lt-ltb (byte b 34) 8 h)) refl refl with_bit_lem refl refl
    more_in (suc (suc (suc (suc (suc (suc (suc zero))))))) e h = let no : ⊥ = omega arith in absurd no
    more_in (suc (suc (suc (suc (suc (suc (suc (suc code)))))))) e h = let no : ⊥ = omega arith in absurd no

    ninth : (decoded : Option Meant) → code_meaning (chip_of b).settings.part (2 * bits b) ≡ decoded
        → framed_by (chip_of b).port (levels s) ≡ framed (Command 0 0) Released (Code (bits b)) → Completes b s
    unfolding answer_code memory_after settings_after obeyed_as
    ninth (Some command) d e = inl (
      tells b valid s small (framed (Command 0 0) Released (Code (bits b))) e
          ∙ ap (λ (m : Option Meant). answer_code (decoded_answer m (bits b))) d ∙ add-zero (6 + 256 * bits b),
      port_left b valid s small (framed (Command 0 0) Released (Code (bits b))) e refl,
    )
    ninth None d e =
        inr (stores b valid s small (framed (Command 0 0) Released (Code (bits b))) e _ _ _
        (ap (λ (m : Option Meant). answer_code (decoded_answer m (bits b))) d ∙ add-zero (7 + 256 * bits b)) refl (rw d) refl)

    -- the fourth bit of a nibble, by what storing makes of the memory
    completes : byte b 33 ≡ 5 → byte b 34 ≡ 3 → (memory : List ℕ) → set (take 32 b) (byte b 37) (nibble_of (with_bit b s)) ≡ memory
        → Stores b s (store_returns b s) memory (next_nibble b)
    unfolding phase_read model.taken model.nibble_taken answer_code memory_after settings_after
    completes e count memory kept =
        stores b valid s small (framed (Writing 0 0 (model.next (byte b 37)) 0) Released (Nibble (byte b 37) (nibble_of (with_bit b s))))
        (taken_by (Writing (byte b 34) (bits b) (byte b 37) (byte b 38)) (phase_at_lem b valid 5 e) ∙ rw (count, with_bit_lem)) _ _ _ refl kept refl refl

    pub takes : Takes b s
    unfolding phase_read model.taken model.ident_taken model.read_to_taken model.write_to_taken model.nibble_taken model.command_taken answer_code memory_after settings_after
    takes =
        record {
          stray =
              ⊎_elim (λ e. stray_rise (Reading (byte b 37) (byte b 38)) (phase_at_lem b valid 4 e) refl)
              (λ e. stray_rise Dead (phase_at_lem b valid 7 e) refl);
          more = λ h. more_in (byte b 33) refl h;
          identifies = λ e count.
              let made = ident_made (with_bit b s) in
              leaves b valid s small (model.identified (with_bit b s))
              (taken_by (Ident (byte b 34) (bits b)) (phase_at_lem b valid 1 e) ∙ rw (count, with_bit_lem)) _ _ _ made.0 (id_told (identified (with_bit b s))) made.1;
          reads_from = λ e count.
              leads (ReadTo (byte b 34) (bits b)) (phase_at_lem b valid 2 e) (Reading (with_bit b s) 0) _ (rw (count, with_bit_lem, six_reach count)) refl;
          writes_from = λ e count.
              leads (WriteTo (byte b 34) (bits b)) (phase_at_lem b valid 3 e) (Writing 0 0 (with_bit b s) 0) _ (rw (count, with_bit_lem, six_reach count)) refl;
          stores = λ e count inside. completes e count (set (take 32 b) (byte b 37) (nibble_of (with_bit b s))) refl;
          stores_nowhere = λ e count past.
              completes e count (take 32 b)
              (set_out (take 32 b) (byte b 37) (nibble_of (with_bit b s)) (omega (arith, size b valid, past)));
          commands = λ e count.
              ninth (code_meaning (chip_of b).settings.part (2 * bits b)) refl
              (taken_by (Command (byte b 34) (bits b)) (phase_at_lem b valid 6 e) ∙ rw (count, with_bit_lem, upper_eight));
        }
