-- RULES "Driver streams": the very samples of each stream, as numbers. Assumes nothing.
use Rattle.std.specs.Prelude.{◌≡◌, List, [], ◌∷◌, ◌++◌, ℕ, zero, suc, ◌+◌, ◌*◌, ◌/◌, ◌%◌, ◌≤◌, ◌<◌, length}
use Rattle.streams.specs.Streams.{write_stream, read_stream, command_stream, decoded}
use Rattle.sheet.specs.Bytes.{byte}

-- ---- the shape of a stream

-- Each sent bit is two samples, and so is each read one.
abbrev pub sent : List ℕ → List ℕ
sent [] = []
sent (v ∷ bits) = (4 + 8 * v) ∷ (6 + 8 * v) ∷ sent bits

abbrev pub asked : ℕ → List ℕ
asked zero = []
asked (suc n) = 10 ∷ 14 ∷ asked n

-- The bits of an address, A5 first; of nibbles, each D0 first; and of commands, each highest first with a ninth that is 0.
abbrev pub of_address : ℕ → List ℕ
of_address a = a / 32 % 2 ∷ a / 16 % 2 ∷ a / 8 % 2 ∷ a / 4 % 2 ∷ a / 2 % 2 ∷ a % 2 ∷ []

abbrev pub of_nibbles : List ℕ → List ℕ
of_nibbles [] = []
of_nibbles (n ∷ nibbles) = n % 2 ∷ n / 2 % 2 ∷ n / 4 % 2 ∷ n / 8 % 2 ∷ of_nibbles nibbles

abbrev pub of_commands : List ℕ → List ℕ
of_commands [] = []
of_commands (c ∷ codes) =
    c / 128 % 2 ∷ c / 64 % 2 ∷ c / 32 % 2 ∷ c / 16 % 2 ∷ c / 8 % 2 ∷ c / 4 % 2 ∷ c / 2 % 2 ∷ c % 2 ∷ 0 ∷ of_commands codes

-- What is sent stands between all lines high and CS low, and all lines high again.
abbrev pub framed : List ℕ → List ℕ
framed samples = (15 ∷ 14 ∷ samples) ++ (15 ∷ [])

-- ---- some streams, sample by sample

-- Writing 5 at address 3: the ID 101, the address, the nibble.
abbrev pub five_at_three : List ℕ
five_at_three =
    15 ∷ 14 ∷ 12 ∷ 14 ∷ 4 ∷ 6 ∷ 12 ∷ 14 ∷ 4 ∷ 6 ∷ 4 ∷ 6 ∷ 4 ∷ 6 ∷ 4 ∷ 6 ∷ 12 ∷ 14 ∷ 12 ∷ 14
    ∷ 12 ∷ 14 ∷ 4 ∷ 6 ∷ 12 ∷ 14 ∷ 4 ∷ 6 ∷ 15 ∷ []

-- Reading the last address: the ID 110, the address, four bits.
abbrev pub read_at_last : List ℕ
read_at_last =
    15 ∷ 14 ∷ 12 ∷ 14 ∷ 12 ∷ 14 ∷ 4 ∷ 6 ∷ 4 ∷ 6 ∷ 12 ∷ 14 ∷ 12 ∷ 14 ∷ 12 ∷ 14 ∷ 12 ∷ 14 ∷ 12 ∷ 14
    ∷ 10 ∷ 14 ∷ 10 ∷ 14 ∷ 10 ∷ 14 ∷ 10 ∷ 14 ∷ 15 ∷ []

-- SYS EN, 01, and bias 1/3 with 4 commons, 29 in hex: the ID 100, and nine bits each.
abbrev pub on_with_four_commons : List ℕ
on_with_four_commons =
    15 ∷ 14 ∷ 12 ∷ 14 ∷ 4 ∷ 6 ∷ 4 ∷ 6
    ∷ 4 ∷ 6 ∷ 4 ∷ 6 ∷ 4 ∷ 6 ∷ 4 ∷ 6 ∷ 4 ∷ 6 ∷ 4 ∷ 6 ∷ 4 ∷ 6 ∷ 12 ∷ 14 ∷ 4 ∷ 6
    ∷ 4 ∷ 6 ∷ 4 ∷ 6 ∷ 12 ∷ 14 ∷ 4 ∷ 6 ∷ 12 ∷ 14 ∷ 4 ∷ 6 ∷ 4 ∷ 6 ∷ 12 ∷ 14 ∷ 4 ∷ 6 ∷ 15 ∷ []

-- ---- all of it

pub record StreamsSheet : Type 0 where
  pub write : (first : ℕ) (nibbles : List ℕ)
      → write_stream first nibbles ≡ framed (sent ((1 ∷ 0 ∷ 1 ∷ []) ++ of_address first ++ of_nibbles nibbles))
  pub read : (first count : ℕ) → read_stream first count ≡ framed (sent ((1 ∷ 1 ∷ 0 ∷ []) ++ of_address first) ++ asked (4 * count))
  pub commands : (codes : List ℕ) → command_stream codes ≡ framed (sent ((1 ∷ 0 ∷ 0 ∷ []) ++ of_commands codes))
  -- four noted bits, D0 first, make a nibble
  pub decode : (nibbles : List ℕ) → ((i : ℕ) → i < length nibbles → byte nibbles i ≤ 15) → decoded (of_nibbles nibbles) ≡ nibbles
  pub write_five : write_stream 3 (5 ∷ []) ≡ five_at_three
  pub read_last : read_stream 31 1 ≡ read_at_last
  pub two_commands : command_stream (1 ∷ 41 ∷ []) ≡ on_with_four_commons
