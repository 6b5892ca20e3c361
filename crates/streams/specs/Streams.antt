-- RULES "Driver streams": the samples that a host sends for a write, a read and commands, and what a read's notes mean.
-- Assumes nothing.
use Rattle.std.specs.Prelude.{ℕ, zero, suc, ◌+◌, ◌*◌, ◌%◌, Bool, true, false, List, [], ◌∷◌, ◌++◌, map}
use Rattle.ground.specs.Bits.{bit_number, bit_at}

-- A bit is sent in two samples with DATA at it: WR goes low, then high. CS is low, RD high.
abbrev pub send_bit : Bool → List ℕ
send_bit bit = (4 + 8 * bit_number bit) ∷ (6 + 8 * bit_number bit) ∷ []

-- Bits are sent one after another.
abbrev pub send_bits : List Bool → List ℕ
send_bits [] = []
send_bits (bit ∷ bits) = send_bit bit ++ send_bits bits

-- A bit is read in two samples with DATA high: RD goes low, then high. The host notes the bit at the second.
abbrev pub read_bit : List ℕ
read_bit = 10 ∷ 14 ∷ []

-- What opens a frame, all lines high and then CS low; and what closes it.
abbrev pub opening : List ℕ
opening = 15 ∷ 14 ∷ []

abbrev pub closing : List ℕ
closing = 15 ∷ []

-- The three IDs of RULES "Inside a frame".
abbrev pub write_id : List Bool
write_id = true ∷ false ∷ true ∷ []

abbrev pub read_id : List Bool
read_id = true ∷ true ∷ false ∷ []

abbrev pub command_id : List Bool
command_id = true ∷ false ∷ false ∷ []

-- An address is six bits, A5 first.
abbrev pub address_bits : ℕ → List Bool
address_bits address =
    bit_at 5 address ∷ bit_at 4 address ∷ bit_at 3 address ∷ bit_at 2 address ∷ bit_at 1 address ∷ bit_at 0 address ∷ []

-- A nibble is four bits, D0 first.
abbrev pub nibble_bits : ℕ → List Bool
nibble_bits nibble = bit_at 0 nibble ∷ bit_at 1 nibble ∷ bit_at 2 nibble ∷ bit_at 3 nibble ∷ []

-- A command is nine bits: its byte, the highest bit first, and a 0 that the chip ignores.
abbrev pub command_bits : ℕ → List Bool
command_bits code =
    bit_at 7 code ∷ bit_at 6 code ∷ bit_at 5 code ∷ bit_at 4 code ∷
    bit_at 3 code ∷ bit_at 2 code ∷ bit_at 1 code ∷ bit_at 0 code ∷ false ∷ []

-- The nibbles of a write, up to the end of its frame.
abbrev pub send_nibbles : List ℕ → List ℕ
send_nibbles [] = closing
send_nibbles (nibble ∷ nibbles) = send_bits (nibble_bits nibble) ++ send_nibbles nibbles

-- The nibbles of a read, four bits each, up to the end of its frame.
abbrev pub read_nibbles : ℕ → List ℕ
read_nibbles zero = closing
read_nibbles (suc count) = read_bit ++ read_bit ++ read_bit ++ read_bit ++ read_nibbles count

-- The commands of a frame, up to its end.
abbrev pub send_commands : List ℕ → List ℕ
send_commands [] = closing
send_commands (code ∷ codes) = send_bits (command_bits code) ++ send_commands codes

-- A write of nibbles from the address `first` on.
unfoldable pub write_stream : ℕ → List ℕ → List ℕ
write_stream first nibbles = opening ++ send_bits (write_id ++ address_bits first) ++ send_nibbles nibbles

-- A read of `count` nibbles from the address `first` on.
unfoldable pub read_stream : ℕ → ℕ → List ℕ
read_stream first count = opening ++ send_bits (read_id ++ address_bits first) ++ read_nibbles count

-- Commands, each by the byte of its upper eight bits: one ID serves them all.
unfoldable pub command_stream : List ℕ → List ℕ
command_stream codes = opening ++ send_bits command_id ++ send_commands codes

-- Four noted bits, D0 first, are a nibble.
abbrev pub nibble_of : ℕ → ℕ → ℕ → ℕ → ℕ
nibble_of d0 d1 d2 d3 = d0 + 2 * d1 + 4 * d2 + 8 * d3

-- What a read's notes mean, four by four. Fewer than four are no nibble.
abbrev pub decoded : List ℕ → List ℕ
decoded [] = []
decoded (d0 ∷ []) = []
decoded (d0 ∷ d1 ∷ []) = []
decoded (d0 ∷ d1 ∷ d2 ∷ []) = []
decoded (d0 ∷ d1 ∷ d2 ∷ d3 ∷ noted) = nibble_of d0 d1 d2 d3 ∷ decoded noted

-- The bits that bytes stand for, whatever was noted: the lowest of each.
abbrev pub lowest_bits : List ℕ → List ℕ
lowest_bits noted = map (λ note. note % 2) noted
