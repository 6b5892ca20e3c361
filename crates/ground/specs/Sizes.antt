-- How much there is of a thing that several sections of RULES speak of. Assumes nothing.
use Rattle.std.specs.Prelude.{ℕ}

-- "Which sheet decides": the memory has 32 addresses.
abbrev pub addresses : ℕ
addresses = 32

-- "State record and simulator": a record is 64 bytes long.
abbrev pub record_length : ℕ
record_length = 64
