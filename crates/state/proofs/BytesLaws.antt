-- The parts of a chip's record: its memory first, the frame's bytes after it, and the settings' bytes from 40 on.
-- Assumes nothing.
use mathlib.Core.Path.{◌≡◌, ◌∙◌, refl, sym, ap}
use mathlib.Core.List.{List, ◌∷◌, ◌++◌, append_assoc}
use Prim.Native.Nat.{ℕ, zero, suc, ◌+◌}
use native.Mathlib.Omega.{arith}
use native.Mathlib.Nat.{add-suc}
use lib.ListN.{length, take, drop, get_or, length-append}
use lib.Seq.{take_at, take-append-add, drop-append-add, get_or-append-add}
use Rattle.ground.specs.Sizes.{addresses, record_length}
use Rattle.ground.specs.Written.{byte}
use Rattle.ground.proofs.WrittenLaws.{gather}
use Rattle.phases.specs.Frame.{frame_at}
use Rattle.settings.specs.Bytes.{settings_at, settings_bytes}
use Rattle.port.specs.declared.Port.{Port}
use Rattle.chip.specs.declared.Chip.{Chip}
use Rattle.state.specs.Record.{port_frame, port_bytes, tail_of, record_of}

-- bytes that stand after others
gather_past : (first second : List ℕ) (n at : ℕ) → gather n (length first + at) (first ++ second) ≡ gather n at second
gather_past first second zero at = refl
gather_past first second (suc n) at =
    ap (λ (k : ℕ). k ∷ gather n (suc (length first + at)) (first ++ second)) (get_or-append-add first second at 0)
    ∙ ap (λ (k : ℕ). byte second at ∷ gather n k (first ++ second)) (sym (add-suc (length first) at))
    ∙ ap (λ (l : List ℕ). byte second at ∷ l) (gather_past first second n (suc at))

-- the port's bytes are those before the settings'
pub port_length : (port : Port) → length port.memory ≡ addresses → length (port_bytes port) ≡ settings_at
port_length port size = length-append port.memory (port_frame port) ∙ omega (arith, size)

module _ (c : Chip) (size : length c.port.memory ≡ addresses) where
  pub memory_bytes : take addresses (record_of c) ≡ c.port.memory
  unfolding record_of
  memory_bytes = take_at c.port.memory (tail_of c) addresses size

  pub port_bytes_lem : take settings_at (record_of c) ≡ port_bytes c.port
  unfolding record_of tail_of
  port_bytes_lem =
      ap (λ (n : ℕ). take (n + 8) (c.port.memory ++ tail_of c)) (sym size) ∙ take-append-add c.port.memory (tail_of c) 8

  pub settings_bytes_lem : drop settings_at (record_of c) ≡ settings_bytes c.settings
  unfolding record_of tail_of
  settings_bytes_lem =
      ap (λ (n : ℕ). drop (n + 8) (c.port.memory ++ tail_of c)) (sym size) ∙ drop-append-add c.port.memory (tail_of c) 8

  -- byte 32 + i is entry i of what follows the memory
  pub byte_past : (i : ℕ) → byte (record_of c) (frame_at + i) ≡ get_or (tail_of c) i 0
  unfolding record_of
  byte_past i =
      ap (λ (n : ℕ). get_or (c.port.memory ++ tail_of c) (n + i) 0) (sym size) ∙ get_or-append-add c.port.memory (tail_of c) i 0

  pub frame_bytes_lem : gather 8 frame_at (record_of c) ≡ port_frame c.port
  unfolding record_of tail_of
  frame_bytes_lem =
      ap (λ (n : ℕ). gather 8 (n + 0) (c.port.memory ++ tail_of c)) (sym size) ∙ gather_past c.port.memory (tail_of c) 8 0

  pub record_length_lem : length (record_of c) ≡ record_length
  unfolding record_of tail_of
  record_length_lem = length-append c.port.memory (tail_of c) ∙ omega (arith, size)

-- a record is the port's bytes with the settings' after them
pub record_parts : (c : Chip) → record_of c ≡ port_bytes c.port ++ settings_bytes c.settings
unfolding record_of tail_of
record_parts c = sym (append_assoc c.port.memory (port_frame c.port) (settings_bytes c.settings))
