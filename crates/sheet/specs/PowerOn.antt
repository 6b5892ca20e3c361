-- RULES "Commands", its power-on, as the 64 bytes of RULES "State record and simulator". Assumes nothing.
use Rattle.std.specs.Prelude.{◌≡◌, List, [], ◌∷◌, ◌++◌, ℕ, ◌≤◌, length, drop, replicate}
use Rattle.host.specs.Host.{power_on_returns, power_on_bytes}
use Rattle.sheet.specs.Bytes.{byte}

-- Bytes 32 to 39: all lines high, no frame, DATA released.
abbrev pub no_frame : List ℕ
no_frame = 15 ∷ replicate 7 0

-- Bytes 40 to 57: the system off, at RC; the LCD off, bias 1/2, 2 commons; the tone off, 4k; the IRQ output off, r = 7, the time base
-- off, no IRQ source; the flag off; p, q, d, b and w; test off.
abbrev pub all_off : List ℕ
all_off = 0 ∷ 1 ∷ 0 ∷ 2 ∷ 2 ∷ 0 ∷ 4 ∷ 0 ∷ 7 ∷ 0 ∷ 0 ∷ 0 ∷ 0 ∷ 0 ∷ 0 ∷ 0 ∷ 0 ∷ 0 ∷ []

-- The caller's 32 nibbles, these, the part, and five zeros, of which the first two are the scan.
abbrev pub fresh_record : ℕ → List ℕ → List ℕ
fresh_record part memory = memory ++ (no_frame ++ all_off ++ part ∷ replicate 5 0)

-- That is written, and the rest of the buffer stays as it was.
pub record PowersOn (part : ℕ) (memory bytes : List ℕ) : Type 0 where
  pub returned : power_on_returns part memory bytes ≡ 64
  pub left : power_on_bytes part memory bytes ≡ fresh_record part memory ++ drop 64 bytes

-- So for both parts, every memory of 32 nibbles and every buffer that has room.
abbrev pub PowerOnSheet : Type 0
PowerOnSheet =
    (part : ℕ) (memory bytes : List ℕ) → part ≤ 1 → length memory ≡ 32 → ((i : ℕ) → i ≤ 31 → byte memory i ≤ 15) → 64 ≤ length bytes
    → PowersOn part memory bytes
