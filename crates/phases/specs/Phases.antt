-- RULES "What a sample is answered" and "Inside a frame": which bits count as unfinished, and which address a frame has reached;
-- the numbers of phases and of DATA. Assumes nothing.
use Rattle.std.specs.Prelude.{ℕ, ◌+◌}
use Rattle.ground.specs.Bits.{bit_number}
use Rattle.phases.specs.declared.Phase.{Phase}
use Rattle.phases.specs.declared.Phase.TheVariants.{Idle, Ident, ReadTo, WriteTo, Reading, Writing, Command, Dead}
use Rattle.phases.specs.declared.Line.{Line}
use Rattle.phases.specs.declared.Line.TheVariants.{Released, Driven}

-- A frame's address is six bits, A5 to A0: it goes round through 64 addresses, of which the memory has the lower half.
abbrev pub round : ℕ
round = 64

-- The address that a frame has reached, whose nibble it can offer; 0 where it has reached none.
abbrev pub address : Phase → ℕ
address Idle = 0
address (Ident count value) = 0
address (ReadTo count value) = 0
address (WriteTo count value) = 0
address (Reading at position) = at
address (Writing count value at position) = at
address (Command count value) = 0
address Dead = 0

-- The bits that a closing sample would drop: those of an ID, an address, a nibble being written or a command. Offered
-- bits never count.
abbrev pub unfinished : Phase → ℕ
unfinished Idle = 0
unfinished (Ident count value) = count
unfinished (ReadTo count value) = count
unfinished (WriteTo count value) = count
unfinished (Reading at position) = 0
unfinished (Writing count value at position) = count
unfinished (Command count value) = count
unfinished Dead = 0

-- Their value; the position of the next bit to be offered; 0 where there is none.
abbrev pub value_of : Phase → ℕ
value_of Idle = 0
value_of (Ident count value) = value
value_of (ReadTo count value) = value
value_of (WriteTo count value) = value
value_of (Reading at position) = 0
value_of (Writing count value at position) = value
value_of (Command count value) = value
value_of Dead = 0

abbrev pub position_of : Phase → ℕ
position_of Idle = 0
position_of (Ident count value) = 0
position_of (ReadTo count value) = 0
position_of (WriteTo count value) = 0
position_of (Reading at position) = position
position_of (Writing count value at position) = position
position_of (Command count value) = 0
position_of Dead = 0

-- RULES "State record and simulator", byte 33: which phase it is.
abbrev pub phase_number : Phase → ℕ
phase_number Idle = 0
phase_number (Ident count value) = 1
phase_number (ReadTo count value) = 2
phase_number (WriteTo count value) = 3
phase_number (Reading at position) = 4
phase_number (Writing count value at position) = 5
phase_number (Command count value) = 6
phase_number Dead = 7

-- RULES "State record and simulator", byte 39: DATA released, low or high.
abbrev pub line_number : Line → ℕ
line_number Released = 0
line_number (Driven bit) = 1 + bit_number bit
