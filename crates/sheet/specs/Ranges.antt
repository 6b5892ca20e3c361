-- RULES "State record and simulator", which bytes are a valid record: the range of each, in its table's order, and which go
-- together. The numbers stand here apart from the tables of `record_valid`, so that a slip in one of the two is refused.
-- Assumes nothing.
use Rattle.std.specs.Prelude.{◌≡◌, true, List, ◌⊎◌, ℕ, ◌+◌, ◌*◌, ◌%◌, ◌^◌, ◌≤◌, ◌<◌, length}
use Rattle.ground.specs.declared.Part.TheVariants.{Ht}
use Rattle.clock.specs.Ticks.{scan_start}
use Rattle.state.specs.Record.{record_valid, chip_of}
use Rattle.sheet.specs.Bytes.{byte}

-- Bytes 0 to 57.
pub record ChipBytes (bytes : List ℕ) : Type 0 where
  -- nibbles; lines; the frame, whose count in byte 34 goes by its phase and stands below
  pub memory : (i : ℕ) → i ≤ 31 → byte bytes i ≤ 15
  pub lines : byte bytes 32 ≤ 15
  pub phase : byte bytes 33 ≤ 7
  pub value_low : byte bytes 35 ≤ 255
  pub value_high : byte bytes 36 ≤ 255
  pub address : byte bytes 37 ≤ 63
  pub position : byte bytes 38 ≤ 3
  pub line : byte bytes 39 ≤ 2
  -- switches are 0 or 1, selections one of their codes
  pub system : byte bytes 40 ≤ 1
  pub source : byte bytes 41 ≤ 2
  pub lcd : byte bytes 42 ≤ 1
  pub bias : (byte bytes 43 ≡ 2) ⊎ (byte bytes 43 ≡ 3)
  pub commons : (2 ≤ byte bytes 44) × (byte bytes 44 ≤ 4)
  pub tone : byte bytes 45 ≤ 1
  pub pitch : (byte bytes 46 ≡ 4) ⊎ (byte bytes 46 ≡ 2)
  pub irq_output : byte bytes 47 ≤ 1
  pub rate : byte bytes 48 ≤ 7
  pub time_base : byte bytes 49 ≤ 1
  pub irq_source : byte bytes 50 ≤ 2
  pub flag : byte bytes 51 ≤ 1
  -- counters
  pub p : byte bytes 52 ≤ 7
  pub q : byte bytes 53 ≤ 15
  pub d : byte bytes 54 ≤ 127
  pub b : byte bytes 55 ≤ 255
  pub w : byte bytes 56 ≤ 3
  pub test : byte bytes 57 ≤ 1
  -- no frame while CS is high, and some frame while it is low
  pub no_frame : byte bytes 32 % 2 ≡ 1 → byte bytes 33 ≡ 0
  pub some_frame : byte bytes 32 % 2 ≡ 0 → 1 ≤ byte bytes 33
  -- unfinished bits: at most so many of the ID, the address, a nibble being written, a command; none in other phases
  pub id_bits : byte bytes 33 ≡ 1 → byte bytes 34 ≤ 2
  pub read_address_bits : byte bytes 33 ≡ 2 → byte bytes 34 ≤ 5
  pub write_address_bits : byte bytes 33 ≡ 3 → byte bytes 34 ≤ 5
  pub nibble_bits : byte bytes 33 ≡ 5 → byte bytes 34 ≤ 3
  pub command_bits : byte bytes 33 ≡ 6 → byte bytes 34 ≤ 8
  pub no_bits : (byte bytes 33 ≡ 0) ⊎ (byte bytes 33 ≡ 4) ⊎ (byte bytes 33 ≡ 7) → byte bytes 34 ≡ 0
  -- their value has no more bits than that
  pub value : byte bytes 35 + 256 * byte bytes 36 < 2 ^ byte bytes 34
  -- address, position and DATA belong to reading and writing
  pub rest : (byte bytes 33 ≡ 4 → ⊥) → (byte bytes 33 ≡ 5 → ⊥) → (byte bytes 37 ≡ 0) × (byte bytes 38 ≡ 0) × (byte bytes 39 ≡ 0)

-- Bytes 58 to 63: the part; the scan's counter, below 128 in the HT, part 0, and below 96 in the GN, part 1; the common that is scanned,
-- below the commons in byte 44; and zeros.
pub record ScanBytes (bytes : List ℕ) : Type 0 where
  pub part : byte bytes 58 ≤ 1
  pub count_of_ht : byte bytes 58 ≡ 0 → byte bytes 59 ≤ 127
  pub count_of_gn : byte bytes 58 ≡ 1 → byte bytes 59 ≤ 95
  pub common : byte bytes 60 < byte bytes 44
  pub zeros : (i : ℕ) → 61 ≤ i → i ≤ 63 → byte bytes i ≡ 0

pub record WellFormed (bytes : List ℕ) : Type 0 where
  pub size : length bytes ≡ 64
  pub chip : ChipBytes bytes
  pub scan : ScanBytes bytes

-- These and no others are valid.
abbrev pub RangesSheet : Type 0
RangesSheet =
    (bytes : List ℕ) → (record_valid bytes ≡ true → WellFormed bytes) × (WellFormed bytes → record_valid bytes ≡ true)

-- A record with zeros from byte 58 on is valid exactly where bytes 0 to 57 are, and says an HT with its scan at the beginning.
pub record OfHt (bytes : List ℕ) : Type 0 where
  pub valid : record_valid bytes ≡ true → ChipBytes bytes
  pub valid_only : ChipBytes bytes → record_valid bytes ≡ true
  pub part : (chip_of bytes).settings.part ≡ Ht
  pub scan : (chip_of bytes).settings.scan ≡ scan_start

abbrev pub ZerosAreHt : Type 0
ZerosAreHt = (bytes : List ℕ) → length bytes ≡ 64 → ((i : ℕ) → 58 ≤ i → i ≤ 63 → byte bytes i ≡ 0) → OfHt bytes
