-- RULES "Ticks", of the bytes of a record: what a call of advance makes of them, counter by counter. Assumes nothing.
use Rattle.std.specs.Prelude.{◌≡◌, true, cond, List, ℕ, ◌+◌, ◌-◌, ◌%◌, ◌^◌, eqb, set}
use Rattle.state.specs.Record.{record_valid}
use Rattle.simulator.specs.Simulator.{advance_returns, advance_bytes}
use Rattle.sheet.specs.Bytes.{byte, runs}

-- A counter's byte steps modulo its size.
abbrev pub counted : ℕ → ℕ → List ℕ → List ℕ
counted i size b = set b i ((byte b i + 1) % size)

-- Where it has returned to 0, something follows.
abbrev pub returned : ℕ → (List ℕ → List ℕ) → List ℕ → List ℕ
returned i next b = cond (eqb (byte b i) 0) (next b) b

-- w, byte 56: where it returns to 0 the flag, byte 51, is set.
abbrev pub w_steps : List ℕ → List ℕ
w_steps b = returned 56 (λ after. set after 51 1) (counted 56 4 b)

-- b, byte 55: where it returns to 0, w steps.
abbrev pub b_steps : List ℕ → List ℕ
b_steps b = returned 55 w_steps (counted 55 256 b)

-- d, byte 54: where it then is a multiple of 2^(7-r), r in byte 48, b steps.
abbrev pub d_steps : List ℕ → List ℕ
d_steps b =
    let after = counted 54 128 b in
    cond (eqb (byte after 54 % 2 ^ (7 - byte after 48)) 0) (b_steps after) after

-- The scan's counter, byte 59, counts to 128 in the HT and to 96 in the GN, by byte 58: where it returns to 0 the common, byte 60, steps
-- modulo the commons, byte 44.
abbrev pub scan_steps : List ℕ → List ℕ
scan_steps b = returned 59 (λ after. counted 60 (byte after 44) after) (counted 59 (cond (eqb (byte b 58) 0) 128 96) b)

-- A base tick: q, byte 53, and the scan step; and d, if the time base, byte 49, is on.
abbrev pub base_tick : List ℕ → List ℕ
base_tick b =
    let after = scan_steps (counted 53 16 b) in
    cond (eqb (byte after 49) 1) (d_steps after) after

-- A tick while running: at XTAL, byte 41 = 0, a base tick; at RC and EXT p, byte 52, steps, and where it returns to 0 there is one.
abbrev pub clock_tick : List ℕ → List ℕ
clock_tick b = cond (eqb (byte b 41) 0) (base_tick b) (returned 52 base_tick (counted 52 8 b))

-- While not running every byte stays as it was.
abbrev pub tick : List ℕ → List ℕ
tick b = cond (runs b) (clock_tick b) b

-- A call of advance on a valid record: no tick, one, and one before n others; the record stays valid, and 0 is returned.
pub record Ticks (b : List ℕ) : Type 0 where
  pub none : advance_bytes b 0 ≡ b
  pub one : advance_bytes b 1 ≡ tick b
  pub more : (n : ℕ) → advance_bytes b (n + 1) ≡ advance_bytes (tick b) n
  pub valid : record_valid (tick b) ≡ true
  pub returns : advance_returns b ≡ 0

abbrev pub TicksSheet : Type 0
TicksSheet = (b : List ℕ) → record_valid b ≡ true → Ticks b
