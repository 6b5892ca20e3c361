-- RULES "Inside a frame" and "What a sample is answered", of the bytes: what a WR rise and an RD fall return and leave, by byte
-- 33, the phase, and byte 34, the count of unfinished bits. Assumes nothing.
use Rattle.std.specs.Prelude.{◌≡◌, cond, List, [], ◌∷◌, ◌++◌, ◌⊎◌, ℕ, ◌+◌, ◌*◌, ◌/◌, ◌%◌, ◌^◌, ◌≤◌, ◌<◌, eqb, ltb, get_or, take, drop, set, replicate}
use Rattle.simulator.specs.Simulator.{step_returns, step_bytes}
use Rattle.sheet.specs.Bytes.{byte}

-- ---- what a sample returns and leaves

-- The stored levels, byte 32, are all that changes.
abbrev pub OnlyLevels : List ℕ → ℕ → ℕ → Type 0
OnlyLevels b s returned = (step_returns b s ≡ returned) × (step_bytes b s ≡ set b 32 s)

-- A memory, the new levels, these for bytes 33 to 39, and bytes 40 to 63 as they were.
abbrev pub Stores : List ℕ → ℕ → ℕ → List ℕ → List ℕ → Type 0
Stores b s returned memory frame = (step_returns b s ≡ returned) × (step_bytes b s ≡ memory ++ s ∷ frame ++ drop 40 b)

-- The same with the memory as it was.
abbrev pub Leaves : List ℕ → ℕ → ℕ → List ℕ → Type 0
Leaves b s returned frame = Stores b s returned (take 32 b) frame

-- ---- an RD fall

-- The nibble at the address, byte 37: from 32 on there is no memory, and it is 0.
abbrev pub there : List ℕ → ℕ
there b = cond (ltb (byte b 37) 32) (byte b (byte b 37)) 0

-- The bit that is due: of that nibble the one at the reading position, byte 38, D0 the lowest. It is answered with the address
-- that it came from, and DATA, byte 39, is 1 for a low bit and 2 for a high one.
abbrev pub due : List ℕ → ℕ
due b = there b / 2 ^ byte b 38 % 2

abbrev pub offer_returns : List ℕ → ℕ
offer_returns b = 8 + 256 * byte b 37 + 65536 * due b

pub record Offers (b : List ℕ) (s : ℕ) : Type 0 where
  -- reading, phase 4: after D3 comes D0 of the next address, and 63 is followed by 0
  pub reading : byte b 33 ≡ 4 → Leaves b s (offer_returns b)
      (4 ∷ 0 ∷ 0 ∷ 0 ∷ cond (eqb (byte b 38) 3) ((byte b 37 + 1) % 64) (byte b 37) ∷ (byte b 38 + 1) % 4 ∷ (1 + due b) ∷ [])
  -- writing, phase 5: the position cycles; the address and the unfinished bits stay
  pub writing : byte b 33 ≡ 5 → Leaves b s (offer_returns b)
      (5 ∷ byte b 34 ∷ byte b 35 ∷ byte b 36 ∷ byte b 37 ∷ (byte b 38 + 1) % 4 ∷ (1 + due b) ∷ [])
  -- in ID, address and command bits and in a dead frame it is stray
  pub stray : (byte b 33 ≡ 4 → ⊥) → (byte b 33 ≡ 5 → ⊥) → OnlyLevels b s 9

-- ---- a WR rise

-- The unfinished bits, bytes 35 and 36, and with the sample's own DATA bit after them: the first bit is the highest.
abbrev pub bits : List ℕ → ℕ
bits b = byte b 35 + 256 * byte b 36

abbrev pub with_bit : List ℕ → ℕ → ℕ
with_bit b s = 2 * bits b + s / 8 % 2

-- How many bits come before the last one of each phase: an ID has 3, an address 6, a nibble 4, a command 9.
abbrev pub before_last : ℕ → ℕ
before_last phase = get_or (0 ∷ 2 ∷ 5 ∷ 5 ∷ 0 ∷ 3 ∷ 8 ∷ 0 ∷ []) phase 0

-- An ID: 110 reads, 101 writes, 100 commands, and any other makes a dead frame.
abbrev pub identified : ℕ → ℕ
identified id = cond (eqb id 6) 2 (cond (eqb id 5) 3 (cond (eqb id 4) 6 7))

-- Four bits as a nibble: D0 came first.
abbrev pub nibble_of : ℕ → ℕ
nibble_of four = four / 8 % 2 + 2 * (four / 4 % 2) + 4 * (four / 2 % 2) + 8 * (four % 2)

-- What a nibble is answered that is complete, and how the frame goes on: at the next address, after 63 at 0, with no bit and from D0 on.
abbrev pub store_returns : List ℕ → ℕ → ℕ
store_returns b s = 5 + 256 * byte b 37 + 65536 * nibble_of (with_bit b s)

abbrev pub next_nibble : List ℕ → List ℕ
next_nibble b = 5 ∷ 0 ∷ 0 ∷ 0 ∷ (byte b 37 + 1) % 64 ∷ 0 ∷ 0 ∷ []

-- One bit more, in the same phase: DATA is released.
abbrev pub one_more : List ℕ → ℕ → List ℕ
one_more b s =
    byte b 33 ∷ (byte b 34 + 1) ∷ with_bit b s % 256 ∷ with_bit b s / 256 ∷ byte b 37 ∷ byte b 38 ∷ 0 ∷ []

-- A command's ninth bit counts for nothing: the eight before it are its code. It is obeyed, or passed over, which changes no
-- byte from 40 on; another command may follow.
abbrev pub Completes : List ℕ → ℕ → Type 0
Completes b s =
    ((step_returns b s ≡ 6 + 256 * bits b) × (take 40 (step_bytes b s) ≡ take 32 b ++ s ∷ 6 ∷ replicate 6 0))
    ⊎ Leaves b s (7 + 256 * bits b) (6 ∷ replicate 6 0)

pub record Takes (b : List ℕ) (s : ℕ) : Type 0 where
  -- in a read frame and in a dead one it is stray
  pub stray : (byte b 33 ≡ 4) ⊎ (byte b 33 ≡ 7) → OnlyLevels b s 9
  -- a bit that is not the last of its phase
  pub more : byte b 34 < before_last (byte b 33) → Leaves b s 4 (one_more b s)
  -- the third of an ID
  pub identifies : byte b 33 ≡ 1 → byte b 34 ≡ 2
      → Leaves b s (cond (eqb (identified (with_bit b s)) 7) 10 4) (identified (with_bit b s) ∷ replicate 6 0)
  -- the sixth of an address: reading or writing begins there, at D0
  pub reads_from : byte b 33 ≡ 2 → byte b 34 ≡ 5 → Leaves b s 4 (4 ∷ 0 ∷ 0 ∷ 0 ∷ with_bit b s ∷ 0 ∷ 0 ∷ [])
  pub writes_from : byte b 33 ≡ 3 → byte b 34 ≡ 5 → Leaves b s 4 (5 ∷ 0 ∷ 0 ∷ 0 ∷ with_bit b s ∷ 0 ∷ 0 ∷ [])
  -- the fourth of a nibble: it is stored, the address steps, and the reading position is D0
  pub stores : byte b 33 ≡ 5 → byte b 34 ≡ 3 → byte b 37 < 32
      → Stores b s (store_returns b s) (set (take 32 b) (byte b 37) (nibble_of (with_bit b s))) (next_nibble b)
  -- the same past the memory: the answer tells of it, and the memory is as it was
  pub stores_nowhere : byte b 33 ≡ 5 → byte b 34 ≡ 3 → 32 ≤ byte b 37 → Leaves b s (store_returns b s) (next_nibble b)
  -- the ninth of a command
  pub commands : byte b 33 ≡ 6 → byte b 34 ≡ 8 → Completes b s
