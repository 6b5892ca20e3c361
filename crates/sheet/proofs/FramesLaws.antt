-- Laws of a frame's bytes: the frame that a valid record's bytes 33 to 39 say, and what the frame's rules make of it, written.
-- Assumes nothing.
use mathlib.Core.Path.{◌≡◌, ◌∙◌, refl, sym, ap}
use mathlib.Core.Bool.{Bool, true, false, cond}
use mathlib.Core.List.{List, [], ◌∷◌}
use Prim.Native.Nat.{ℕ, zero, suc, ◌+◌, ◌/◌, ◌%◌, ◌≤◌}
use native.Mathlib.Omega.{arith}
use lib.Dec.{eqb, ltb}
use lib.ListN.{get_or, replicate}
use Rattle.phases.specs.declared.Phase.{Phase}
use Rattle.phases.specs.declared.Phase.TheVariants.{Idle, Ident, ReadTo, WriteTo, Reading, Writing, Command, Dead}
use Rattle.phases.specs.declared.Line.{Line}
use Rattle.phases.specs.declared.Line.TheVariants.{Released}
use Rattle.answers.specs.declared.Answer.TheVariants.{Taken, Stray, Unknown}
use Rattle.frames.specs.declared.Upshot.TheVariants.{Answered}
use Rattle.frames.specs.declared.Framed.{Framed}
use Rattle.frames.specs.Frames as model
use Rattle.frames.specs.Frames.{framed}
use Rattle.phases.specs.Phases.{address, unfinished, value_of, position_of, phase_number, line_number}
use Rattle.phases.specs.Frame.{phase_read, phase_in}
use Rattle.state.specs.Record.{record_valid, tail_of, chip_of}
use Rattle.state.proofs.BytesLaws.{byte_past}
use Rattle.state.proofs.TripLaws.{trip}
use Rattle.state.proofs.ChipLaws.{valid_chip}
use Rattle.sheet.specs.Bytes.{byte}
use Rattle.sheet.specs.Frames.{bits, identified}

-- Bytes 33 to 39.
abbrev pub frame_left : Phase → Line → List ℕ
frame_left phase line =
    phase_number phase ∷ unfinished phase ∷ value_of phase % 256 ∷ value_of phase / 256
    ∷ address phase ∷ position_of phase ∷ line_number line ∷ []

-- ---- the frame of a valid record

module _ (b : List ℕ) (valid : record_valid b ≡ true) where
  pub phase_at_lem : (code : ℕ) → byte b 33 ≡ code
      → (chip_of b).port.phase ≡ phase_in (phase_read code (byte b 34) (bits b) (byte b 37) (byte b 38))
  unfolding chip_of
  phase_at_lem code e = ap (λ (n : ℕ). phase_in (phase_read n (byte b 34) (bits b) (byte b 37) (byte b 38))) e

  module _ (phase : Phase) (e : (chip_of b).port.phase ≡ phase) where
    said : (i : ℕ) → byte b (32 + i) ≡ get_or (tail_of (chip_of b)) i 0
    said i = ap (λ (l : List ℕ). byte l (32 + i)) (sym (trip b valid)) ∙ byte_past (chip_of b) (valid_chip b valid).port.size i

    pub code_said : byte b 33 ≡ phase_number phase
    unfolding tail_of
    code_said = said 1 ∙ ap phase_number e

    pub count_said : byte b 34 ≡ unfinished phase
    unfolding tail_of
    count_said = said 2 ∙ ap unfinished e

    pub low_said : byte b 35 ≡ value_of phase % 256
    unfolding tail_of
    low_said = said 3 ∙ ap (λ (p : Phase). value_of p % 256) e

    pub high_said : byte b 36 ≡ value_of phase / 256
    unfolding tail_of
    high_said = said 4 ∙ ap (λ (p : Phase). value_of p / 256) e

    pub address_said : byte b 37 ≡ address phase
    unfolding tail_of
    address_said = said 5 ∙ ap address e

    pub position_said : byte b 38 ≡ position_of phase
    unfolding tail_of
    position_said = said 6 ∙ ap position_of e

-- ---- what the frame's rules make of it

-- after D3 the address steps
pub read_frame : (at position : ℕ) (line : Line) → position ≤ 3
    → frame_left (cond (ltb position 3) (Reading at (position + 1)) (Reading (model.next at) 0)) line
    ≡ 4 ∷ 0 ∷ 0 ∷ 0 ∷ cond (eqb position 3) ((at + 1) % 64) at ∷ (position + 1) % 4 ∷ line_number line ∷ []
read_frame at zero line h = refl
read_frame at (suc zero) line h = refl
read_frame at (suc (suc zero)) line h = refl
read_frame at (suc (suc (suc zero))) line h = refl
read_frame at (suc (suc (suc (suc position)))) line h = let no : ⊥ = omega arith in absurd no

-- outside reading and writing a fall is stray, in a read frame and in a dead one a rise
pub stray_fall : (nibble : ℕ) (phase : Phase) (line : Line) → (phase_number phase ≡ 4 → ⊥) → (phase_number phase ≡ 5 → ⊥)
    → model.offered nibble phase line ≡ framed phase line (Answered Stray)
unfolding model.offered
stray_fall nibble Idle line four five = refl
stray_fall nibble (Ident count value) line four five = refl
stray_fall nibble (ReadTo count value) line four five = refl
stray_fall nibble (WriteTo count value) line four five = refl
stray_fall nibble (Reading at position) line four five = absurd (four refl)
stray_fall nibble (Writing count value at position) line four five = absurd (five refl)
stray_fall nibble (Command count value) line four five = refl
stray_fall nibble Dead line four five = refl

-- what the third bit of an ID leads to
abbrev pub Made : Framed → ℕ → Type 0
Made f phase =
    (f.upshot ≡ Answered (cond (eqb phase 7) Unknown Taken)) × (frame_left f.phase f.line ≡ phase ∷ replicate 6 0)

pub ident_made : (id : ℕ) → Made (model.identified id) (identified id)
unfolding model.identified
ident_made id = by (eqb id 6) (eqb id 5) (eqb id 4)
  where
    by : (read write command : Bool)
        → Made (cond read (model.collected (ReadTo 0 0))
        (cond write (model.collected (WriteTo 0 0)) (cond command (model.collected (Command 0 0)) (framed Dead Released (Answered Unknown)))))
        (cond read 2 (cond write 3 (cond command 6 7)))
    by true write command = (refl, refl)
    by false true command = (refl, refl)
    by false false true = (refl, refl)
    by false false false = (refl, refl)
