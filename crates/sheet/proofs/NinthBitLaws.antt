-- Which samples take a bit, and which of these is the last of a command: none other changes the settings. Assumes nothing.
use mathlib.Core.Path.{◌≡◌, ◌∙◌, refl}
use mathlib.Core.Bool.{Bool, true, false, cond, not, ◌&&◌, and_comm}
use Prim.Native.Nat.{ℕ, ◌≤◌, ◌%◌}
use native.Mathlib.Omega.{arith}
use lib.Dec.{eqb, ltb}
use borrow.Author.Tests.{ltb-false}
use Rattle.ground.specs.Bits.{bit_at}
use Rattle.ground.specs.Values.{agree}
use Rattle.ground.proofs.ChoiceLaws.{either, by_cases}
use Rattle.settings.specs.declared.Settings.{Settings}
use Rattle.lines.specs.declared.Levels.{Levels}
use Rattle.lines.specs.declared.Edge.{Edge}
use Rattle.lines.specs.declared.Edge.TheVariants.{Rests, Closes, Opens, Clashes, Takes, Offers, Quiet}
use Rattle.phases.specs.declared.Phase.{Phase}
use Rattle.phases.specs.declared.Phase.TheVariants.{Idle, Ident, ReadTo, WriteTo, Reading, Writing, Command, Dead}
use Rattle.phases.specs.declared.Line.{Line}
use Rattle.frames.specs.declared.Framed.{Framed}
use Rattle.lines.specs.Samples.{edge, rose, clocked}
use Rattle.frames.specs.Frames.{more, identified, ident_taken, read_to_taken, write_to_taken, nibble_taken, command_taken, taken, read_offered, offered, closed, frame}
use Rattle.phases.specs.Phases.{unfinished, phase_number}
use Rattle.chip.specs.Chip.{settings_after}

-- ---- the edge that takes a bit

pub first_bit : (n : ℕ) → n ≤ 15 → bit_at 0 n ≡ eqb (n % 2) 1
first_bit n h = agree (bit_at 0) (λ (k : ℕ). eqb (k % 2) 1) 16 refl n (omega arith)

-- CS stays low, WR rises and RD does not fall: a bit is taken then, and then only
pub edge_takes : (before after : Levels) → before.cs ≡ false → after.cs ≡ false → (not before.wr && after.wr) ≡ true
    → (before.rd && not after.rd) ≡ false → edge before after ≡ Takes after.bit
edge_takes before after was is rise fall = simp (was, is, rise, and_comm (not after.rd) before.rd ∙ fall)

clocked_takes : (rise fall bit taken : Bool) → clocked rise fall bit ≡ Takes taken → (rise ≡ true) × (fall ≡ false)
clocked_takes true true bit taken e = (cc, cc)
clocked_takes true false bit taken e = (refl, refl)
clocked_takes false true bit taken e = (cc, cc)
clocked_takes false false bit taken e = (cc, cc)

pub takes_only : (before after : Levels) (bit : Bool) → edge before after ≡ Takes bit
    → (after.cs ≡ false) × ((not before.wr && after.wr) ≡ true) × ((before.rd && not after.rd) ≡ false)
takes_only before after bit = by before.cs after.cs
  where
    clocks : Edge
    clocks = clocked (rose before.wr after.wr) (rose after.rd before.rd) after.bit

    by : (was is : Bool) → cond is (cond was Rests Closes) (cond was Opens clocks) ≡ Takes bit
        → (is ≡ false) × ((not before.wr && after.wr) ≡ true) × ((before.rd && not after.rd) ≡ false)
    by true true e = (cc, cc, cc)
    by false true e = (cc, cc, cc)
    by true false e = (cc, cc, cc)
    by false false e =
        let each = clocked_takes (rose before.wr after.wr) (rose after.rd before.rd) after.bit bit e in
        (refl, each.0, and_comm before.rd (not after.rd) ∙ each.1)

-- ---- a sample changes the settings only where it takes the ninth bit of a command

abbrev Keeps : Settings → Framed → Type 0
Keeps s framed = settings_after framed.upshot s ≡ s

offered_keeps : (nibble : ℕ) (phase : Phase) (line : Line) (s : Settings) → Keeps s (offered nibble phase line)
unfolding offered read_offered settings_after
offered_keeps nibble Idle line s = refl
offered_keeps nibble (Ident count value) line s = refl
offered_keeps nibble (ReadTo count value) line s = refl
offered_keeps nibble (WriteTo count value) line s = refl
offered_keeps nibble (Reading at position) line s = refl
offered_keeps nibble (Writing count value at position) line s = refl
offered_keeps nibble (Command count value) line s = refl
offered_keeps nibble Dead line s = refl

taken_keeps : (bit : Bool) (phase : Phase) (line : Line) (s : Settings) → (phase_number phase ≡ 6 → 8 ≤ unfinished phase → ⊥)
    → Keeps s (taken bit phase line)
unfolding taken ident_taken identified read_to_taken write_to_taken nibble_taken command_taken settings_after
taken_keeps bit Idle line s h = refl
taken_keeps bit (Ident count value) line s h =
    either (Keeps s) (ltb count 2) refl
    (either (Keeps s) (eqb (more value bit) 6) refl
    (either (Keeps s) (eqb (more value bit) 5) refl
    (either (Keeps s) (eqb (more value bit) 4) refl refl)))
taken_keeps bit (ReadTo count value) line s h = either (Keeps s) (ltb count 5) refl refl
taken_keeps bit (WriteTo count value) line s h = either (Keeps s) (ltb count 5) refl refl
taken_keeps bit (Reading at position) line s h = refl
taken_keeps bit (Writing count value at position) line s h = either (Keeps s) (ltb count 3) refl refl
taken_keeps bit (Command count value) line s h =
    by_cases (Keeps s) (ltb count 8) (λ e. refl) (λ e. absurd (h refl (ltb-false count 8 e)))
taken_keeps bit Dead line s h = refl

pub frame_keeps : (e : Edge) (nibble : ℕ) (phase : Phase) (line : Line) (s : Settings)
    → ((bit : Bool) → e ≡ Takes bit → phase_number phase ≡ 6 → 8 ≤ unfinished phase → ⊥) → Keeps s (frame e nibble phase line)
unfolding frame closed settings_after
frame_keeps Rests nibble phase line s h = refl
frame_keeps Closes nibble phase line s h = refl
frame_keeps Opens nibble phase line s h = refl
frame_keeps Clashes nibble phase line s h = refl
frame_keeps (Takes bit) nibble phase line s h = taken_keeps bit phase line s (h bit refl)
frame_keeps Offers nibble phase line s h = offered_keeps nibble phase line s
frame_keeps Quiet nibble phase line s h = refl
