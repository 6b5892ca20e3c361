-- RULES "Inside a frame": what each phase makes of a bit that is taken or offered, of opening and of closing.
-- Assumes nothing.
use Rattle.std.specs.Prelude.{ℕ, ◌+◌, ◌*◌, ◌/◌, ◌%◌, Bool, cond, eqb, ltb}
use Rattle.ground.specs.Bits.{bit_at, bit_number}
use Rattle.lines.specs.declared.Edge.{Edge}
use Rattle.lines.specs.declared.Edge.TheVariants.{Rests, Closes, Opens, Clashes, Takes, Offers, Quiet}
use Rattle.phases.specs.declared.Phase.{Phase}
use Rattle.phases.specs.declared.Phase.TheVariants.{Idle, Ident, ReadTo, WriteTo, Reading, Writing, Command, Dead}
use Rattle.phases.specs.declared.Line.{Line}
use Rattle.phases.specs.declared.Line.TheVariants.{Released, Driven}
use Rattle.answers.specs.declared.Answer.TheVariants.{Nothing, Opened, Closed, Dropped, Taken, Offered, Stray, Unknown, Clash}
use Rattle.frames.specs.declared.Upshot.{Upshot}
use Rattle.frames.specs.declared.Upshot.TheVariants.{Answered, Nibble, Code}
use Rattle.frames.specs.declared.Framed.{Framed}
use Rattle.phases.specs.Phases.{round, unfinished}

-- A frame after a sample, by its parts.
abbrev pub framed : Phase → Line → Upshot → Framed
framed phase line upshot = record { phase = phase; line = line; upshot = upshot }

-- The bits so far with one more, the first highest. Nine are the most that a phase collects.
abbrev pub more : ℕ → Bool → ℕ
more value bit = (2 * value + bit_number bit) % 512

-- The nibble of four bits so collected: D0 came first.
abbrev pub turned : ℕ → ℕ
turned value = value / 8 % 2 + 2 * (value / 4 % 2) + 4 * (value / 2 % 2) + 8 * (value % 2)

-- The address that six bits say, and the address after an address, which comes round to the first after the last.
abbrev pub reached : ℕ → ℕ
reached value = value % round

abbrev pub next : ℕ → ℕ
next at = (at + 1) % round

-- A stray edge changes neither the frame nor DATA.
abbrev pub stray : Phase → Line → Framed
stray phase line = framed phase line (Answered Stray)

-- A bit that is taken and leaves the frame in a phase: DATA is released.
abbrev pub collected : Phase → Framed
collected phase = framed phase Released (Answered Taken)

-- Three bits of ID: 110 reads, 101 writes, 100 commands; with any other the frame is dead.
unfoldable pub identified : ℕ → Framed
identified id =
    cond (eqb id 6) (collected (ReadTo 0 0))
    (cond (eqb id 5) (collected (WriteTo 0 0))
    (cond (eqb id 4) (collected (Command 0 0))
    (framed Dead Released (Answered Unknown))))

unfoldable pub ident_taken : Bool → ℕ → ℕ → Framed
ident_taken bit count value =
    cond (ltb count 2) (collected (Ident (count + 1) (more value bit))) (identified (more value bit))

-- Six address bits, A5 first, and the frame reads or writes there.
unfoldable pub read_to_taken : Bool → ℕ → ℕ → Framed
read_to_taken bit count value =
    cond (ltb count 5) (collected (ReadTo (count + 1) (more value bit))) (collected (Reading (reached (more value bit)) 0))

unfoldable pub write_to_taken : Bool → ℕ → ℕ → Framed
write_to_taken bit count value =
    cond (ltb count 5) (collected (WriteTo (count + 1) (more value bit)))
    (collected (Writing 0 0 (reached (more value bit)) 0))

-- Writing: with its fourth bit a nibble is complete, and the frame goes on at the next address, to be read from D0 on.
unfoldable pub nibble_taken : Bool → ℕ → ℕ → ℕ → ℕ → Framed
nibble_taken bit count value at position =
    cond (ltb count 3) (collected (Writing (count + 1) (more value bit) at position))
    (framed (Writing 0 0 (next at) 0) Released (Nibble at (turned (more value bit))))

-- Nine command bits, highest first, the last ignored: the upper eight are a code; more commands follow without an ID.
unfoldable pub command_taken : Bool → ℕ → ℕ → Framed
command_taken bit count value =
    cond (ltb count 8) (collected (Command (count + 1) (more value bit)))
    (framed (Command 0 0) Released (Code (more value bit / 2 % 256)))

-- A WR rise. In a read frame and in a dead one it is stray.
unfoldable pub taken : Bool → Phase → Line → Framed
taken bit Idle line = stray Idle line
taken bit (Ident count value) line = ident_taken bit count value
taken bit (ReadTo count value) line = read_to_taken bit count value
taken bit (WriteTo count value) line = write_to_taken bit count value
taken bit (Reading at position) line = stray (Reading at position) line
taken bit (Writing count value at position) line = nibble_taken bit count value at position
taken bit (Command count value) line = command_taken bit count value
taken bit Dead line = stray Dead line

-- A bit of the nibble at the frame's address is offered, D0 first: it goes to DATA.
abbrev pub offered_in : Phase → ℕ → Bool → Framed
offered_in phase at bit = framed phase (Driven bit) (Answered (Offered at bit))

-- Reading: D3 is followed by D0 of the next address.
unfoldable pub read_offered : ℕ → ℕ → ℕ → Framed
read_offered nibble at position =
    offered_in (cond (ltb position 3) (Reading at (position + 1)) (Reading (next at) 0)) at (bit_at position nibble)

-- In a write frame the position cycles, and the address stays.
abbrev pub write_offered : ℕ → ℕ → ℕ → ℕ → ℕ → Framed
write_offered nibble count value at position =
    offered_in (Writing count value at ((position + 1) % 4)) at (bit_at position nibble)

-- An RD fall. In ID, address and command bits and in a dead frame it is stray.
unfoldable pub offered : ℕ → Phase → Line → Framed
offered nibble Idle line = stray Idle line
offered nibble (Ident count value) line = stray (Ident count value) line
offered nibble (ReadTo count value) line = stray (ReadTo count value) line
offered nibble (WriteTo count value) line = stray (WriteTo count value) line
offered nibble (Reading at position) line = read_offered nibble at position
offered nibble (Writing count value at position) line = write_offered nibble count value at position
offered nibble (Command count value) line = stray (Command count value) line
offered nibble Dead line = stray Dead line

-- The end of a frame: the answer tells whether unfinished bits are lost with it.
unfoldable pub closed : Phase → Framed
closed phase = framed Idle Released (Answered (cond (eqb (unfinished phase) 0) Closed Dropped))

-- A sample, by what it is to the frame. With CS high there is no frame and DATA is released; an opening starts from
-- nothing; a clash or no edge at all leaves the frame and DATA.
unfoldable pub frame : Edge → ℕ → Phase → Line → Framed
frame Rests nibble phase line = framed Idle Released (Answered Nothing)
frame Closes nibble phase line = closed phase
frame Opens nibble phase line = framed (Ident 0 0) Released (Answered Opened)
frame Clashes nibble phase line = framed phase line (Answered Clash)
frame (Takes bit) nibble phase line = taken bit phase line
frame Offers nibble phase line = offered nibble phase line
frame Quiet nibble phase line = framed phase line (Answered Nothing)
