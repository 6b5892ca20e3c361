-- RULES "Samples", of the bytes: what a step returns and leaves, by the levels before it, byte 32, and its sample, each of them
-- CS + 2 WR + 4 RD + 8 DATA. The first rule that applies. Assumes nothing.
use Rattle.std.specs.Prelude.{◌≡◌, Bool, true, false, cond, not, ◌&&◌, List, ◌∷◌, ℕ, ◌%◌, ◌≤◌, ◌<◌, eqb, replicate}
use Rattle.ground.specs.Bits.{bit_at}
use Rattle.state.specs.Record.{record_valid}
use Rattle.simulator.specs.Simulator.{step_returns, step_bytes}
use Rattle.sheet.specs.Bytes.{byte}
use Rattle.sheet.specs.Frames.{OnlyLevels, Leaves, Takes, Offers}

-- Whether a line, WR at 1 or RD at 2, rises or falls from some levels to the next.
abbrev pub rises : ℕ → ℕ → ℕ → Bool
rises line before after = not (bit_at line before) && bit_at line after

abbrev pub falls : ℕ → ℕ → ℕ → Bool
falls line before after = bit_at line before && not (bit_at line after)

-- CS is low before and after: the two edges that count, alone, together, or neither.
pub record Clocked (b : List ℕ) (s : ℕ) (rise fall : Bool) : Type 0 where
  pub clash : rise ≡ true → fall ≡ true → OnlyLevels b s 11
  pub taken : rise ≡ true → fall ≡ false → Takes b s
  pub offered : rise ≡ false → fall ≡ true → Offers b s
  pub quiet : rise ≡ false → fall ≡ false → OnlyLevels b s 0

pub record Sampled (b : List ℕ) (s : ℕ) : Type 0 where
  -- the levels are always stored
  pub levels : byte (step_bytes b s) 32 ≡ s
  -- the new CS is high: without a frame nothing, otherwise it closes, and the answer tells whether bits were unfinished
  pub rests : s % 2 ≡ 1 → byte b 33 ≡ 0 → OnlyLevels b s 0
  pub closes : s % 2 ≡ 1 → 1 ≤ byte b 33 → Leaves b s (cond (eqb (byte b 34) 0) 2 3) (replicate 7 0)
  -- CS falls: a frame opens, with no bit of its ID
  pub opens : s % 2 ≡ 0 → byte b 32 % 2 ≡ 1 → Leaves b s 1 (1 ∷ replicate 6 0)
  -- CS stays low
  pub clocked : s % 2 ≡ 0 → byte b 32 % 2 ≡ 0 → Clocked b s (rises 1 (byte b 32) s) (falls 2 (byte b 32) s)

-- A call on what is no valid record is refused with 28, then a sample above 15 with 20, and neither changes a byte.
pub record SamplesSheet : Type 0 where
  pub malformed : (b : List ℕ) (s : ℕ) → record_valid b ≡ false → (step_returns b s ≡ 28) × (step_bytes b s ≡ b)
  pub above : (b : List ℕ) (s : ℕ) → record_valid b ≡ true → 15 < s → (step_returns b s ≡ 20) × (step_bytes b s ≡ b)
  pub sampled : (b : List ℕ) (s : ℕ) → record_valid b ≡ true → s ≤ 15 → Sampled b s
