-- Demands 2 and 3 for a host in C: what its calls on any valid record return, and which bytes they leave. Assumes nothing.
use Rattle.std.specs.Prelude.{◌≡◌, Bool, true, cond, List, [], ◌∷◌, ◌++◌, ℕ, zero, suc, ◌+◌, ◌*◌, ◌%◌, eqb, length, take, drop, replicate}
use Rattle.std.proofs.Math.Seq.{paste}
use Rattle.ground.specs.Bits.{bit_at, bit_number}
use Rattle.ground.specs.Sizes.{addresses}
use Rattle.ground.specs.Written.{byte}
use Rattle.phases.specs.Frame.{frame_at}
use Rattle.settings.specs.Bytes.{settings_at, settings_bytes, settings_of}
use Rattle.state.specs.Record.{record_valid}
use Rattle.simulator.specs.Simulator.{advance_bytes}
use Rattle.streams.specs.Streams.{write_stream, read_stream, command_stream}
use Rattle.demands.specs.Events.{ReadsAs}
use Rattle.demands.specs.Accepted.{AcceptsWrite, AcceptsRead, AcceptsCommands}
use Rattle.demands.specs.Demand2.{due_commands, between}
use Rattle.demands.specs.Demand3.{completed}
use Rattle.demands.specs.Calls.{Call, after_calls, events_of, sent, passed, returns, noted}

-- ---- RULES "What a sample is answered", for the samples of each stream, as the numbers that `step` returns

-- The first closes what stood open: nothing where CS was high (byte 32), otherwise a frame with unfinished bits or without
-- (byte 34). The second opens a frame.
abbrev pub opening_returns : List ℕ → List ℕ
opening_returns bytes = cond (eqb (byte bytes frame_at % 2) 1) 0 (cond (eqb (byte bytes 34) 0) 2 3) ∷ 1 ∷ []

-- Some sent bits that complete nothing: each is taken at the second of its samples.
abbrev pub bit_returns : ℕ → List ℕ
bit_returns zero = []
bit_returns (suc n) = 0 ∷ 4 ∷ bit_returns n

-- The fourth bit of a nibble stores it: after 20 samples of the head, the eighth of each eight. The last sample closes the frame.
abbrev pub nibble_returns : ℕ → List ℕ → List ℕ
nibble_returns at [] = 2 ∷ []
nibble_returns at (nibble ∷ nibbles) = bit_returns 3 ++ 0 ∷ (5 + 256 * at + 65536 * nibble) ∷ nibble_returns (at + 1) nibbles

-- The four bits of a nibble are offered, D0 first.
abbrev pub bit_offered : ℕ → Bool → List ℕ
bit_offered at bit = (8 + 256 * at + 65536 * bit_number bit) ∷ 0 ∷ []

abbrev pub nibbles_offered : ℕ → List ℕ → List ℕ
nibbles_offered at [] = 2 ∷ []
nibbles_offered at (nibble ∷ nibbles) =
    bit_offered at (bit_at 0 nibble) ++ bit_offered at (bit_at 1 nibble)
    ++ bit_offered at (bit_at 2 nibble) ++ bit_offered at (bit_at 3 nibble) ++ nibbles_offered (at + 1) nibbles

-- The ninth bit of a command completes it.
abbrev pub command_returns : List ℕ → List ℕ
command_returns [] = 2 ∷ []
command_returns (code ∷ codes) = bit_returns 8 ++ 0 ∷ (6 + 256 * code) ∷ command_returns codes

-- ---- demand 2

-- Bytes 32 to 39 where all lines are high and no frame is open.
abbrev pub no_frame : List ℕ
no_frame = 15 ∷ replicate 7 0

-- A write leaves the asked nibbles and no frame, and in bytes 40 to 63 what one `advance` by all the ticks leaves there.
pub record CallsWrite (bytes : List ℕ) (first : ℕ) (nibbles : List ℕ) (calls : List Call) : Type 0 where
  pub port : take settings_at (after_calls bytes calls) ≡ paste (take addresses bytes) first nibbles (length nibbles) ++ no_frame
  pub settings : drop settings_at (after_calls bytes calls) ≡ drop settings_at (advance_bytes bytes (passed calls))
  pub returned : returns bytes calls ≡ opening_returns bytes ++ bit_returns 9 ++ nibble_returns first nibbles

-- A read leaves the memory, and what is noted reads back as the bytes asked for.
pub record CallsRead (bytes : List ℕ) (first count : ℕ) (calls : List Call) : Type 0 where
  pub port : take settings_at (after_calls bytes calls) ≡ take addresses bytes ++ no_frame
  pub settings : drop settings_at (after_calls bytes calls) ≡ drop settings_at (advance_bytes bytes (passed calls))
  pub returned : returns bytes calls ≡ opening_returns bytes ++ bit_returns 9 ++ nibbles_offered first (take count (drop first (take addresses bytes)))
  pub read_back : ReadsAs (noted bytes calls) (take count (drop first (take addresses bytes)))

-- Commands leave the memory, and bytes 40 to 63 as their effects, each at its sample, and the ticks between them make them.
pub record CallsCommand (bytes codes : List ℕ) (calls : List Call) : Type 0 where
  pub port : take settings_at (after_calls bytes calls) ≡ take addresses bytes ++ no_frame
  pub settings : drop settings_at (after_calls bytes calls)
      ≡ settings_bytes (between (due_commands 26 codes) 0 (events_of calls) (settings_of bytes))
  pub returned : returns bytes calls ≡ opening_returns bytes ++ bit_returns 3 ++ command_returns codes

pub record Demand2OfRecords : Type 0 where
  pub writes : (bytes : List ℕ) (first : ℕ) (nibbles : List ℕ) (calls : List Call) → record_valid bytes ≡ true → AcceptsWrite first nibbles
      → sent calls ≡ write_stream first nibbles → CallsWrite bytes first nibbles calls
  pub reads : (bytes : List ℕ) (first count : ℕ) (calls : List Call) → record_valid bytes ≡ true → AcceptsRead first count
      → sent calls ≡ read_stream first count → CallsRead bytes first count calls
  -- of the part in byte 58
  pub commands : (bytes codes : List ℕ) (calls : List Call) → record_valid bytes ≡ true → AcceptsCommands (byte bytes 58) codes
      → sent calls ≡ command_stream codes → CallsCommand bytes codes calls

-- ---- demand 3

-- A write that stops after k samples: what it leaves, also when it is then sent again, and what a read-back after that notes.
pub record CallsSurvive (bytes : List ℕ) (first : ℕ) (nibbles : List ℕ) (k : ℕ) (calls : List Call) : Type 0 where
  pub memory : take addresses (after_calls bytes calls) ≡ paste (take addresses bytes) first nibbles (completed (length nibbles) k)
  pub settings : drop settings_at (after_calls bytes calls) ≡ drop settings_at (advance_bytes bytes (passed calls))
  pub resent : (again : List Call) → sent again ≡ write_stream first nibbles
      → take addresses (after_calls (after_calls bytes calls) again) ≡ paste (take addresses bytes) first nibbles (length nibbles)
  pub read_back : (again back : List Call) → sent again ≡ write_stream first nibbles → sent back ≡ read_stream first (length nibbles)
      → ReadsAs (noted (after_calls (after_calls bytes calls) again) back) nibbles

abbrev pub Demand3OfRecords : Type 0
Demand3OfRecords =
    (bytes : List ℕ) (first : ℕ) (nibbles : List ℕ) (k : ℕ) (calls : List Call)
    → record_valid bytes ≡ true → AcceptsWrite first nibbles → sent calls ≡ take k (write_stream first nibbles)
    → CallsSurvive bytes first nibbles k calls
