-- What a frame answers by itself neither stores nor obeys, and has none of the refusals' numbers. Assumes nothing.
use mathlib.Core.Path.{◌≡◌, refl}
use mathlib.Core.Bool.{Bool}
use Prim.Native.Nat.{ℕ, ◌≤◌}
use native.Mathlib.Omega.{arith}
use lib.Dec.{eqb, ltb}
use Rattle.ground.proofs.ChoiceLaws.{either}
use Rattle.lines.specs.declared.Edge.{Edge}
use Rattle.lines.specs.declared.Edge.TheVariants.{Rests, Closes, Opens, Clashes, Takes, Offers, Quiet}
use Rattle.phases.specs.declared.Line.{Line}
use Rattle.phases.specs.declared.Phase.{Phase}
use Rattle.phases.specs.declared.Phase.TheVariants.{Idle, Ident, ReadTo, WriteTo, Reading, Writing, Command, Dead}
use Rattle.phases.specs.Phases.{unfinished}
use Rattle.answers.specs.declared.Answer.{Answer}
use Rattle.answers.specs.Answers.{Keep, act, answer_number}
use Rattle.frames.specs.declared.Upshot.{Upshot}
use Rattle.frames.specs.declared.Upshot.TheVariants.{Answered, Nibble, Code}
use Rattle.frames.specs.declared.Framed.{Framed}
use Rattle.frames.specs.Frames.{more, identified, ident_taken, read_to_taken, write_to_taken, nibble_taken, command_taken, taken, read_offered, offered, closed, frame}

-- an answer that changes nothing beyond the frame
abbrev pub Mere : Answer → Type 0
Mere answer = (act answer ≡ Keep) × (answer_number answer ≤ 11)

abbrev pub Own : Upshot → Type 0
Own (Answered answer) = Mere answer
Own (Nibble at nibble) = Unit {0}
Own (Code code) = Unit {0}

abbrev Owns : Framed → Type 0
Owns f = Own f.upshot

taken_own : (bit : Bool) (phase : Phase) (line : Line) → Owns (taken bit phase line)
unfolding taken ident_taken identified read_to_taken write_to_taken nibble_taken command_taken
taken_own bit Idle line = (refl, omega arith)
taken_own bit (Ident count value) line =
    either Owns (ltb count 2) (refl, omega arith)
    (either Owns (eqb (more value bit) 6) (refl, omega arith)
    (either Owns (eqb (more value bit) 5) (refl, omega arith)
    (either Owns (eqb (more value bit) 4) (refl, omega arith) (refl, omega arith))))
taken_own bit (ReadTo count value) line = either Owns (ltb count 5) (refl, omega arith) (refl, omega arith)
taken_own bit (WriteTo count value) line = either Owns (ltb count 5) (refl, omega arith) (refl, omega arith)
taken_own bit (Reading at position) line = (refl, omega arith)
taken_own bit (Writing count value at position) line = either Owns (ltb count 3) (refl, omega arith) tt
taken_own bit (Command count value) line = either Owns (ltb count 8) (refl, omega arith) tt
taken_own bit Dead line = (refl, omega arith)

offered_own : (nibble : ℕ) (phase : Phase) (line : Line) → Owns (offered nibble phase line)
unfolding offered read_offered
offered_own nibble Idle line = (refl, omega arith)
offered_own nibble (Ident count value) line = (refl, omega arith)
offered_own nibble (ReadTo count value) line = (refl, omega arith)
offered_own nibble (WriteTo count value) line = (refl, omega arith)
offered_own nibble (Reading at position) line = (refl, omega arith)
offered_own nibble (Writing count value at position) line = (refl, omega arith)
offered_own nibble (Command count value) line = (refl, omega arith)
offered_own nibble Dead line = (refl, omega arith)

pub frame_own : (e : Edge) (nibble : ℕ) (phase : Phase) (line : Line) → Own (frame e nibble phase line).upshot
unfolding frame closed
frame_own Rests nibble phase line = (refl, omega arith)
frame_own Closes nibble phase line = either Mere (eqb (unfinished phase) 0) (refl, omega arith) (refl, omega arith)
frame_own Opens nibble phase line = (refl, omega arith)
frame_own Clashes nibble phase line = (refl, omega arith)
frame_own (Takes bit) nibble phase line = taken_own bit phase line
frame_own Offers nibble phase line = offered_own nibble phase line
frame_own Quiet nibble phase line = (refl, omega arith)
