-- RULES "Commands", of the bytes of a record: what the ninth bit of a command makes of them, for each of the 256 codes and both parts.
-- Assumes nothing.
use Rattle.std.specs.Prelude.{◌≡◌, Bool, true, false, cond, not, ◌&&◌, ◌||◌, List, [], ◌∷◌, ℕ, zero, suc, ◌+◌, ◌*◌, ◌/◌, ◌%◌, ◌≤◌, ◌<◌, eqb, leb, drop, set}
use Rattle.ground.specs.Bits.{bit_at}
use Rattle.ground.specs.declared.Part.{Part}
use Rattle.ground.specs.Parts.{part_of}
use Rattle.commands.specs.Commands.{code_meaning, command_fault}
use Rattle.state.specs.Record.{record_valid}
use Rattle.simulator.specs.Simulator.{step_returns, step_bytes}
use Rattle.sheet.specs.Bytes.{byte}
use Rattle.sheet.specs.Samples.{rises, falls}

-- A row of the table: the codes from the first to the last, and what such a command makes of a record.
pub record Codes : Type 0 where
  pub first : ℕ
  pub last : ℕ
  pub effect : List ℕ → List ℕ

abbrev pub codes : ℕ → ℕ → (List ℕ → List ℕ) → Codes
codes first last effect = record { first = first; last = last; effect = effect }

-- CLR TIMER begins at 0C in the HT, part 0, and at 0A in the GN, part 1.
abbrev pub clears : ℕ → ℕ
clears part = cond (eqb part 0) 0x0C 0x0A

-- The table of a part, row by row as RULES lists it, with the effects: which byte becomes which number.
abbrev pub table : ℕ → ℕ → List Codes
table part code =
    -- SYS DIS: system and LCD off, unless EXT is selected; SYS EN: system on
    codes 0x00 0x00 (λ b. cond (eqb (byte b 41) 2) b (set (set b 40 0) 42 0))
    ∷ codes 0x01 0x01 (λ b. set b 40 1)
    -- LCD OFF, LCD ON
    ∷ codes 0x02 0x02 (λ b. set b 42 0)
    ∷ codes 0x03 0x03 (λ b. set b 42 1)
    -- TIMER DIS, WDT DIS: an IRQ source 1, the time base, or 2, the flag, becomes 0; WDT DIS turns the time base off
    ∷ codes 0x04 0x04 (λ b. cond (eqb (byte b 50) 1) (set b 50 0) b)
    ∷ codes 0x05 0x05 (λ b. set (cond (eqb (byte b 50) 2) (set b 50 0) b) 49 0)
    -- TIMER EN, WDT EN: time base on, and the IRQ source
    ∷ codes 0x06 0x06 (λ b. set (set b 49 1) 50 1)
    ∷ codes 0x07 0x07 (λ b. set (set b 49 1) 50 2)
    -- TONE OFF, TONE ON
    ∷ codes 0x08 0x08 (λ b. set b 45 0)
    ∷ codes 0x09 0x09 (λ b. set b 45 1)
    -- CLR TIMER: d and b; CLR WDT: w and the flag besides
    ∷ codes (clears part) (clears part + 1) (λ b. set (set b 54 0) 55 0)
    ∷ codes 0x0E 0x0F (λ b. set (set (set (set b 54 0) 55 0) 56 0) 51 0)
    -- the clock source: XTAL, RC, EXT
    ∷ codes 0x14 0x17 (λ b. set b 41 0)
    ∷ codes 0x18 0x1B (λ b. set b 41 1)
    ∷ codes 0x1C 0x1F (λ b. set b 41 2)
    -- the bits 0010abXc: bias by c, commons by ab; the scan begins anew
    ∷ codes 0x20 0x2B (λ b. set (set (set (set b 43 (2 + code % 2)) 44 (2 + code / 4 % 4)) 59 0) 60 0)
    -- the frequency of the tone: 4k, 2k
    ∷ codes 0x40 0x5F (λ b. set b 46 4)
    ∷ codes 0x60 0x7F (λ b. set b 46 2)
    -- IRQ DIS: the output off, and the flag 0; IRQ EN: the output on
    ∷ codes 0x80 0x87 (λ b. set (set b 47 0) 51 0)
    ∷ codes 0x90 0x97 (λ b. set (set b 47 0) 51 0)
    ∷ codes 0x88 0x8F (λ b. set b 47 1)
    ∷ codes 0x98 0x9F (λ b. set b 47 1)
    -- the rate, F1 to F128
    ∷ codes 0xA0 0xBF (λ b. set b 48 (code % 8))
    -- TEST, NORMAL: the mark
    ∷ codes 0xE0 0xE0 (λ b. set b 57 1)
    ∷ codes 0xE3 0xE3 (λ b. set b 57 0)
    ∷ []

-- A code within a row is defined and has that row's effect; any other is undefined and has none.
abbrev pub within : Codes → ℕ → Bool
within row code = leb row.first code && leb code row.last

abbrev pub defined_in : List Codes → ℕ → Bool
defined_in [] code = false
defined_in (row ∷ rows) code = within row code || defined_in rows code

abbrev pub effect_in : List Codes → ℕ → List ℕ → List ℕ
effect_in [] code b = b
effect_in (row ∷ rows) code b = cond (within row code) (row.effect b) (effect_in rows code b)

abbrev pub defined : ℕ → ℕ → Bool
defined part code = defined_in (table part code) code

abbrev pub effect_of : ℕ → ℕ → List ℕ → List ℕ
effect_of part code b = effect_in (table part code) code b

-- How many of a part's codes below n are undefined.
abbrev pub undefined_below : ℕ → ℕ → ℕ
undefined_below part zero = 0
undefined_below part (suc n) = cond (defined part n) 0 1 + undefined_below part n

-- A sample that takes the ninth bit of a command, whatever its DATA: eight bits stand in a command frame, CS stays low, WR
-- rises and RD does not fall.
pub record NinthBit (b : List ℕ) (sample : ℕ) : Type 0 where
  pub in_range : sample ≤ 15
  pub phase : byte b 33 ≡ 6
  pub count : byte b 34 ≡ 8
  pub cs : bit_at 0 sample ≡ false
  pub wr : rises 1 (byte b 32) sample ≡ true
  pub rd : falls 2 (byte b 32) sample ≡ false

-- A step on a valid record. With the ninth bit it returns 6, or 7 for an undefined code, and the code, which byte 35 holds;
-- and bytes 40 to 63 are as the table of the part, byte 58, has them. Any other sample leaves these as they were.
pub record Commands (b : List ℕ) (sample : ℕ) : Type 0 where
  pub answer : NinthBit b sample → step_returns b sample ≡ cond (defined (byte b 58) (byte b 35)) 6 7 + 256 * byte b 35
  pub effect : NinthBit b sample → drop 40 (step_bytes b sample) ≡ drop 40 (effect_of (byte b 58) (byte b 35) b)
  pub none : (NinthBit b sample → ⊥) → drop 40 (step_bytes b sample) ≡ drop 40 b

-- So it is for every one; in each part 88 of the 256 codes are undefined, and those are what the driver refuses; and the ninth bit
-- decides nothing.
pub record CommandsSheet : Type 0 where
  pub steps : (b : List ℕ) (sample : ℕ) → record_valid b ≡ true → Commands b sample
  pub undefined : (undefined_below 0 256 ≡ 88) × (undefined_below 1 256 ≡ 88)
  pub refused : (part code : ℕ) → part ≤ 1 → code < 256 → command_fault (part_of part) code ≡ not (defined part code)
  pub ninth : (part : Part) (code : ℕ) → code < 256 → code_meaning part (2 * code + 1) ≡ code_meaning part (2 * code)
