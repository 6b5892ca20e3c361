-- What a sample below 16 makes of a valid record, by what it makes of the frame: the bytes are those of the chip that the
-- record says, with the frame's bytes anew and the others as they were. Assumes nothing.
use mathlib.Core.Path.{◌≡◌, ◌∙◌, refl, sym, ap}
use mathlib.Core.Bool.{Bool, true, false, not, ◌&&◌}
use mathlib.Core.List.{List, ◌∷◌, ◌++◌, append_assoc}
use Prim.Native.Nat.{ℕ, ◌%◌, ◌≤◌}
use lib.ListN.{get_or, take, length, drop, set}
use lib.Seq.{set_at}
use borrow.Author.Tests.{le-ltb}
use Rattle.ground.specs.Bits.{bit_at}
use Rattle.settings.specs.declared.Settings.{Settings}
use Rattle.settings.specs.Bytes.{settings_bytes}
use Rattle.phases.specs.declared.Phase.{Phase}
use Rattle.phases.specs.declared.Line.{Line}
use Rattle.frames.specs.declared.Framed.{Framed}
use Rattle.frames.specs.declared.Upshot.TheVariants.{Answered}
use Rattle.answers.specs.declared.Answer.{Answer}
use Rattle.lines.specs.declared.Edge.{Edge}
use Rattle.lines.specs.Samples.{levels, levels_number, edge, clocked}
use Rattle.lines.proofs.SamplesLaws.{levels_again}
use Rattle.frames.specs.Frames.{frame, framed}
use Rattle.phases.specs.Phases.{address}
use Rattle.chip.specs.declared.Chip.{Chip}
use Rattle.chip.specs.declared.Stepped.{Stepped}
use Rattle.port.specs.Port.{memory_after, framed_by, moved_as, moved}
use Rattle.chip.specs.Chip.{told, settings_after, stepped_as, stepped_to, stepped}
use Rattle.chip.proofs.ValidLaws.{stepped_valid}
use Rattle.state.specs.Record.{port_bytes, record_valid, tail_of, record_of, chip_of}
use Rattle.state.proofs.BytesLaws.{byte_past, port_bytes_lem}
use Rattle.state.proofs.TripLaws.{trip}
use Rattle.state.proofs.ChipLaws.{valid_chip}
use Rattle.simulator.specs.Simulator.{answer_code, step_returns, step_bytes}
use Rattle.sheet.specs.Bytes.{byte}
use Rattle.sheet.specs.Frames.{OnlyLevels, Leaves, Stores}
use Rattle.sheet.specs.Samples.{rises, falls}
use Rattle.sheet.proofs.BytesLaws.{settings_said}
use Rattle.sheet.proofs.FramesLaws.{frame_left}

-- a fall the other way round
swapped : (x y : Bool) → (not y && x) ≡ (x && not y)
swapped true true = refl
swapped true false = refl
swapped false true = refl
swapped false false = refl

module _ (b : List ℕ) (valid : record_valid b ≡ true) where
  abbrev c : Chip
  c = chip_of b

  pub size : length (take 32 b) ≡ 32
  unfolding chip_of
  size = (valid_chip b valid).port.size

  module _ (s : ℕ) (small : s ≤ 15) where
    -- ---- what a step makes of the frame is what it makes of the record

    abbrev new : Phase → Line → List ℕ → Chip
    new phase line memory =
        record { port = record { memory = memory; levels = levels s; phase = phase; line = line }; settings = c.settings }

    written : (memory : List ℕ) (phase : Phase) (line : Line)
        → record_of (new phase line memory) ≡ memory ++ s ∷ frame_left phase line ++ drop 40 b
    unfolding record_of tail_of
    written memory phase line =
        ap (λ (n : ℕ). memory ++ (n ∷ frame_left phase line ++ settings_bytes c.settings)) (levels_again s small)
        ∙ ap (λ (l : List ℕ). memory ++ (s ∷ frame_left phase line ++ l)) (sym (settings_said b valid))
        ∙ sym (append_assoc memory (s ∷ frame_left phase line) (drop 40 b))

    levels_written : record_of (new c.port.phase c.port.line (take 32 b)) ≡ set b 32 s
    unfolding chip_of record_of tail_of
    levels_written =
        ap (λ (n : ℕ). take 32 b ++ n ∷ drop 1 (tail_of c)) (levels_again s small)
        ∙ sym (set_at (take 32 b) (levels_number (levels (byte b 32))) (drop 1 (tail_of c)) s 32 size)
        ∙ ap (λ (l : List ℕ). set l 32 s) (trip b valid)

    step_leaves : step_bytes b s ≡ record_of (stepped c s).chip
    unfolding step_bytes
    step_leaves = rw (valid, le-ltb 15 s small)

    step_tells : step_returns b s ≡ answer_code (stepped c s).answer
    unfolding step_returns
    step_tells = rw (valid, le-ltb 15 s small)

    module _ (f : Framed) (e : framed_by c.port (levels s) ≡ f) where
      stepped_is : stepped c s ≡ stepped_as c (moved_as c.port (levels s) f)
      unfolding stepped stepped_to moved
      stepped_is = rw (le-ltb 15 s small, e)

      pub tells : step_returns b s ≡ answer_code (told c.settings.part f.upshot)
      tells = step_tells ∙ ap (λ (r : Stepped). answer_code r.answer) stepped_is

      -- a frame that keeps the settings
      pub stores : (returned : ℕ) (memory frame : List ℕ) → answer_code (told c.settings.part f.upshot) ≡ returned
          → memory_after f.upshot (take 32 b) ≡ memory → settings_after f.upshot c.settings ≡ c.settings
          → frame_left f.phase f.line ≡ frame → Stores b s returned memory frame
      unfolding chip_of
      stores returned memory frame answer store kept bytes = (
        tells ∙ answer,
        step_leaves ∙ ap (λ (r : Stepped). record_of r.chip) stepped_is
            ∙ ap (λ (set : Settings). record_of (record { port = (moved_as c.port (levels s) f).port; settings = set })) kept
            ∙ written (memory_after f.upshot (take 32 b)) f.phase f.line
            ∙ ap (λ (m : List ℕ). m ++ s ∷ frame_left f.phase f.line ++ drop 40 b) store
            ∙ ap (λ (l : List ℕ). memory ++ s ∷ l ++ drop 40 b) bytes,
      )

      -- and one that keeps the memory too
      pub leaves : (returned : ℕ) (frame : List ℕ) → (answer : Answer) → f.upshot ≡ Answered answer → answer_code answer ≡ returned
          → frame_left f.phase f.line ≡ frame → Leaves b s returned frame
      unfolding memory_after settings_after
      leaves returned frame answer is told bytes = stores returned (take 32 b) frame (rw is told) (rw is) (rw is) bytes

      -- whatever becomes of the settings
      pub port_left : memory_after f.upshot (take 32 b) ≡ take 32 b
          → take 40 (step_bytes b s) ≡ take 32 b ++ s ∷ frame_left f.phase f.line
      unfolding chip_of
      port_left keep =
          ap (take 40) step_leaves
          ∙ port_bytes_lem (stepped c s).chip (stepped_valid c s (valid_chip b valid)).port.size
          ∙ ap (λ (r : Stepped). port_bytes r.chip.port) stepped_is
          ∙ ap (λ (m : List ℕ). m ++ levels_number (levels s) ∷ frame_left f.phase f.line) keep
          ∙ ap (λ (n : ℕ). take 32 b ++ n ∷ frame_left f.phase f.line) (levels_again s small)

    -- a frame that stays as it was
    pub only : (answer : Answer) (returned : ℕ) → framed_by c.port (levels s) ≡ framed c.port.phase c.port.line (Answered answer)
        → answer_code answer ≡ returned → OnlyLevels b s returned
    unfolding chip_of memory_after settings_after
    only answer returned e told = (
      tells (framed c.port.phase c.port.line (Answered answer)) e ∙ told,
      step_leaves ∙ ap (λ (r : Stepped). record_of r.chip) (stepped_is (framed c.port.phase c.port.line (Answered answer)) e)
          ∙ levels_written,
    )

    pub levels_stored : byte (step_bytes b s) 32 ≡ s
    unfolding tail_of
    levels_stored =
        ap (λ (l : List ℕ). byte l 32) step_leaves
        ∙ byte_past (stepped c s).chip (stepped_valid c s (valid_chip b valid)).port.size 0
        ∙ ap (λ (r : Stepped). levels_number r.chip.port.levels) (stepped_is (framed_by c.port (levels s)) refl)
        ∙ levels_again s small

    -- ---- what a sample is to the frame

    module _ (sort : Edge) (e : edge c.port.levels (levels s) ≡ sort) where
      pub framed_by_lem : (phase : Phase) → c.port.phase ≡ phase
          → framed_by c.port (levels s) ≡ frame sort (get_or (take 32 b) (address phase) 0) phase c.port.line
      unfolding framed_by chip_of
      framed_by_lem phase h =
          ap (λ (t : Edge). frame t (get_or (take 32 b) (address c.port.phase) 0) c.port.phase c.port.line) e
          ∙ ap (λ (p : Phase). frame sort (get_or (take 32 b) (address p) 0) p c.port.line) h

    pub clocked_edge : s % 2 ≡ 0 → byte b 32 % 2 ≡ 0
        → edge c.port.levels (levels s) ≡ clocked (rises 1 (byte b 32) s) (falls 2 (byte b 32) s) (bit_at 3 s)
    unfolding chip_of
    clocked_edge after before = rw (after, before, swapped (bit_at 2 (byte b 32)) (bit_at 2 s))
