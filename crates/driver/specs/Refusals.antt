-- RULES "Driver streams", its table of refusals: what each call answers, as a ladder of the table's rows. Assumes nothing.
use Rattle.std.specs.Prelude.{ℕ, ◌+◌, ◌-◌, ◌*◌, ◌%◌, Bool, not, ◌||◌, List, [], ◌∷◌, eqb, ltb, length}
use Rattle.ground.specs.declared.Refusal.TheVariants.{NothingAsked, AddressAbove, RunsPastEnd, TooManyCommands, NibbleAbove, UndefinedCommand, UnknownPart}
use Rattle.ground.specs.declared.Refusal.TheVariants.{NotedCount, NotedAbove}
use Rattle.ground.specs.Outcomes.{Outcome, Rung, refused_if, answered}
use Rattle.ground.specs.Parts.{is_part, part_of}
use Rattle.ground.specs.Places.{lowest, somewhere}
unfoldable pub use Rattle.commands.specs.Commands.{command_fault}
use Rattle.ground.specs.Sizes.{addresses}
use Rattle.streams.specs.Lengths.{nibble_notes}
use Rattle.streams.specs.Sent.{no_room}
use Rattle.streams.specs.Streams.{write_stream, read_stream, command_stream, decoded}

-- The highest address.
abbrev pub last_address : ℕ
last_address = addresses - 1

-- The most commands that one stream takes.
abbrev pub most_commands : ℕ
most_commands = 32

-- The most notes that are decoded: those of every address.
abbrev pub most_notes : ℕ
most_notes = addresses * nibble_notes

-- What is asked for is nothing.
abbrev pub nothing : ℕ → Bool
nothing count = eqb count 0

-- There is no such first address.
abbrev pub address_above : ℕ → Bool
address_above first = ltb last_address first

-- `count` addresses from `first` on run past the last one. It is asked after `address_above`, so of a first address that there is.
abbrev pub runs_past_end : ℕ → ℕ → Bool
runs_past_end first count = ltb addresses (first + count)

-- More commands than one stream takes.
abbrev pub too_many : ℕ → Bool
too_many count = ltb most_commands count

-- A nibble has four bits, a noted byte one.
abbrev pub nibble_fault : ℕ → Bool
nibble_fault nibble = ltb 15 nibble

abbrev pub noted_fault : ℕ → Bool
noted_fault noted = ltb 1 noted

-- Noted bytes come in fours, one for each address at most.
unfoldable pub miscounted : ℕ → Bool
miscounted count = eqb count 0 || ltb most_notes count || not (eqb (count % nibble_notes) 0)

-- A write from `first` on: its tests in the table's order, too little room the last of each, and what it is answered.
abbrev pub write_refusals : ℕ → List ℕ → ℕ → List Rung
write_refusals first nibbles room =
    refused_if (nothing (length nibbles)) NothingAsked
    ∷ refused_if (address_above first) AddressAbove
    ∷ refused_if (runs_past_end first (length nibbles)) RunsPastEnd
    ∷ refused_if (somewhere nibble_fault nibbles) (NibbleAbove (lowest nibble_fault nibbles))
    ∷ no_room (write_stream first nibbles) room ∷ []

unfoldable pub write_answer : ℕ → List ℕ → ℕ → Outcome
write_answer first nibbles room = answered (write_refusals first nibbles room) (write_stream first nibbles)

-- A read: it has no nibbles that could be at fault.
abbrev pub read_refusals : ℕ → ℕ → ℕ → List Rung
read_refusals first count room =
    refused_if (nothing count) NothingAsked
    ∷ refused_if (address_above first) AddressAbove
    ∷ refused_if (runs_past_end first count) RunsPastEnd
    ∷ no_room (read_stream first count) room ∷ []

unfoldable pub read_answer : ℕ → ℕ → ℕ → Outcome
read_answer first count room = answered (read_refusals first count room) (read_stream first count)

-- Commands, for a chip of the part with this number: which of them are undefined goes by the part.
abbrev pub command_refusals : ℕ → List ℕ → ℕ → List Rung
command_refusals part codes room =
    refused_if (not (is_part part)) UnknownPart
    ∷ refused_if (nothing (length codes)) NothingAsked
    ∷ refused_if (too_many (length codes)) TooManyCommands
    ∷ refused_if (somewhere (command_fault (part_of part)) codes) (UndefinedCommand (lowest (command_fault (part_of part)) codes))
    ∷ no_room (command_stream codes) room ∷ []

unfoldable pub command_answer : ℕ → List ℕ → ℕ → Outcome
command_answer part codes room = answered (command_refusals part codes room) (command_stream codes)

-- Noted bytes: a byte is written for each four.
abbrev pub decode_refusals : List ℕ → ℕ → List Rung
decode_refusals noted room =
    refused_if (miscounted (length noted)) NotedCount
    ∷ refused_if (somewhere noted_fault noted) (NotedAbove (lowest noted_fault noted))
    ∷ no_room (decoded noted) room ∷ []

unfoldable pub decode_answer : List ℕ → ℕ → Outcome
decode_answer noted room = answered (decode_refusals noted room) (decoded noted)
