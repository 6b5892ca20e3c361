-- Every sample keeps a frame valid, and what it stores is a nibble. The argument goes by the rule that applies, then by the
-- phase, then by whether the bit is the last that the phase collects. Assumes nothing.
use mathlib.Core.Path.{◌≡◌, refl}
use mathlib.Core.Bool.{Bool, true, false, cond}
use Prim.Native.Nat.{ℕ, ◌+◌, ◌*◌, ◌^◌, ◌<◌}
use native.Mathlib.Nat.{pow-suc, mod-le}
use native.Mathlib.Numerals.{add-one}
use native.Mathlib.Omega.{arith}
use lib.Dec.{eqb, ltb}
use borrow.Author.Tests.{ltb-true}
use Rattle.ground.specs.Bits.{bit_number}
use Rattle.ground.proofs.BitsLaws.{bit_number_small}
use Rattle.ground.proofs.ChoiceLaws.{either, by_cases}
use Rattle.lines.specs.declared.Edge.TheVariants.{Rests, Closes, Opens}
use Rattle.phases.specs.declared.Phase.{Phase}
use Rattle.phases.specs.declared.Phase.TheVariants.{Idle, Ident, ReadTo, WriteTo, Reading, Writing, Command, Dead}
use Rattle.phases.specs.declared.Line.{Line}
use Rattle.frames.specs.declared.Framed.{Framed}
use Rattle.lines.specs.Samples.{clocked}
use Rattle.frames.specs.Frames.{more, turned, identified, ident_taken, read_to_taken, write_to_taken, nibble_taken, command_taken, taken, read_offered, offered, closed, frame}
use Rattle.phases.specs.Phases.{round}
use Rattle.phases.specs.Valid.{FrameValid}
use Rattle.frames.specs.Valid.{UpshotValid}

-- a frame that is open and valid, and stores only nibbles
abbrev Kept : Framed → Type 0
Kept f = FrameValid false f.line f.phase × UpshotValid f.upshot

-- one bit more doubles the bound
more_small : (count value : ℕ) (bit : Bool) → value < 2 ^ count → more value bit < 2 ^ (count + 1)
more_small count value bit h =
    let double : 2 ^ (count + 1) ≡ 2 ^ count * 2 = rw add-one (pow-suc 2 count) in
    omega (arith, bit_number_small bit, mod-le (2 * value + bit_number bit) 512)

turned_small : (value : ℕ) → turned value < 16
turned_small value = omega arith

identified_kept : (id : ℕ) → Kept (identified id)
unfolding identified
identified_kept id =
    either Kept (eqb id 6) ((refl, refl, (omega arith, omega arith)), tt)
    (either Kept (eqb id 5) ((refl, refl, (omega arith, omega arith)), tt)
    (either Kept (eqb id 4) ((refl, refl, (omega arith, omega arith)), tt)
    ((refl, refl), tt)))

module _ (bit : Bool) (count value : ℕ) (small : value < 2 ^ count) where
  ident_taken_kept : Kept (ident_taken bit count value)
  unfolding ident_taken
  ident_taken_kept =
      by_cases Kept (ltb count 2)
      (λ t. let h = ltb-true count 2 t in ((refl, refl, (omega arith, more_small count value bit small)), tt))
      (λ _. identified_kept (more value bit))

  read_to_taken_kept : Kept (read_to_taken bit count value)
  unfolding read_to_taken
  read_to_taken_kept =
      by_cases Kept (ltb count 5)
      (λ t. let h = ltb-true count 5 t in ((refl, refl, (omega arith, more_small count value bit small)), tt))
      (λ _. ((refl, omega arith, omega arith), tt))

  write_to_taken_kept : Kept (write_to_taken bit count value)
  unfolding write_to_taken
  write_to_taken_kept =
      by_cases Kept (ltb count 5)
      (λ t. let h = ltb-true count 5 t in ((refl, refl, (omega arith, more_small count value bit small)), tt))
      (λ _. ((refl, (omega arith, omega arith), omega arith, omega arith), tt))

  nibble_taken_kept : (at position : ℕ) → at < round → position < 4 → Kept (nibble_taken bit count value at position)
  unfolding nibble_taken
  nibble_taken_kept at position a p =
      by_cases Kept (ltb count 3)
      (λ t. let h = ltb-true count 3 t in ((refl, (omega arith, more_small count value bit small), a, p), tt))
      (λ _. ((refl, (omega arith, omega arith), omega arith, omega arith), turned_small (more value bit)))

  command_taken_kept : Kept (command_taken bit count value)
  unfolding command_taken
  command_taken_kept =
      by_cases Kept (ltb count 8)
      (λ t. let h = ltb-true count 8 t in ((refl, refl, (omega arith, more_small count value bit small)), tt))
      (λ _. ((refl, refl, (omega arith, omega arith)), tt))

taken_kept : (bit : Bool) (phase : Phase) (line : Line) → FrameValid false line phase → Kept (taken bit phase line)
unfolding taken
taken_kept bit Idle line v = (v, tt)
taken_kept bit (Ident count value) line v = ident_taken_kept bit count value v.2.1
taken_kept bit (ReadTo count value) line v = read_to_taken_kept bit count value v.2.1
taken_kept bit (WriteTo count value) line v = write_to_taken_kept bit count value v.2.1
taken_kept bit (Reading at position) line v = (v, tt)
taken_kept bit (Writing count value at position) line v = nibble_taken_kept bit count value v.1.1 at position v.2 v.3
taken_kept bit (Command count value) line v = command_taken_kept bit count value v.2.1
taken_kept bit Dead line v = (v, tt)

read_offered_kept : (nibble at position : ℕ) → at < round → position < 4 → Kept (read_offered nibble at position)
unfolding read_offered
read_offered_kept nibble at position a p = (
  by_cases (λ (q : Phase). FrameValid false (read_offered nibble at position).line q) (ltb position 3)
      (λ t. let h = ltb-true position 3 t in (refl, a, omega arith))
      (λ _. (refl, omega arith, omega arith)),
  tt,
)

offered_kept : (nibble : ℕ) (phase : Phase) (line : Line) → FrameValid false line phase → Kept (offered nibble phase line)
unfolding offered
offered_kept nibble Idle line v = (v, tt)
offered_kept nibble (Ident count value) line v = (v, tt)
offered_kept nibble (ReadTo count value) line v = (v, tt)
offered_kept nibble (WriteTo count value) line v = (v, tt)
offered_kept nibble (Reading at position) line v = read_offered_kept nibble at position v.1 v.2
offered_kept nibble (Writing count value at position) line v = ((refl, v.1, omega (arith, v.2), omega arith), tt)
offered_kept nibble (Command count value) line v = (v, tt)
offered_kept nibble Dead line v = (v, tt)

-- a frame after a sample, by CS before and after and by the clocks
pub frame_valid : (before after rise fall bit : Bool) (nibble : ℕ) (phase : Phase) (line : Line) → FrameValid before line phase
    → (let f = frame (cond after (cond before Rests Closes) (cond before Opens (clocked rise fall bit))) nibble phase line in
    FrameValid after f.line f.phase × UpshotValid f.upshot)
unfolding frame closed
frame_valid true true rise fall bit nibble phase line v = ((refl, refl), tt)
frame_valid false true rise fall bit nibble phase line v =
    ((refl, refl), tt)
frame_valid true false rise fall bit nibble phase line v = ((refl, refl, (omega arith, omega arith)), tt)
frame_valid false false true true bit nibble phase line v = (v, tt)
frame_valid false false true false bit nibble phase line v = taken_kept bit phase line v
frame_valid false false false true bit nibble phase line v = offered_kept nibble phase line v
frame_valid false false false false bit nibble phase line v = (v, tt)
