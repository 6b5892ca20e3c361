-- A valid record of which a piece is written is the record of the chip of which that piece has changed. Assumes nothing.
use mathlib.Core.Path.{◌≡◌, ◌∙◌, sym, ap}
use mathlib.Core.Bool.{true}
use mathlib.Core.List.{List, ◌++◌, append_assoc}
use Prim.Native.Nat.{ℕ, ◌+◌}
use native.Mathlib.Omega.{arith}
use lib.ListN.{length, take, drop, length-append}
use lib.Seq.{take-append-add, drop-append-add}
use borrow.Author.Tests.{le-ltb}
use Rattle.ground.specs.Sizes.{addresses, record_length}
use Rattle.ground.specs.Outcomes.{written_as}
use Rattle.ground.specs.Written.{over}
use Rattle.clock.specs.declared.Counters.{Counters}
use Rattle.clock.specs.declared.Scan.{Scan}
use Rattle.settings.specs.Settings.{counters_to, scan_to}
use Rattle.settings.specs.Bytes.{counters_at, tick_bytes, counters_over}
use Rattle.port.specs.declared.Port.{Port}
use Rattle.chip.specs.declared.Chip.{Chip}
use Rattle.state.specs.Record.{port_frame, port_bytes, record_valid, record_of, tail_of, chip_of}
use Rattle.state.specs.Answers.{port_over}
use Rattle.state.proofs.TripLaws.{valid_has, trip}
use Rattle.state.proofs.ChipLaws.{valid_chip}

-- ---- the same of a chip with 32 bytes of memory, written

module _ (m : List ℕ) (c : Chip) (size : length m ≡ addresses) where
  port_over_lem : (port : Port) → length port.memory ≡ addresses
      → over (m ++ tail_of c) 0 (port_bytes port) ≡ record_of (record { port = port; settings = c.settings })
  unfolding record_of tail_of
  port_over_lem port h =
      let count : 0 + length (port_bytes port) ≡ length m + 8 =
      omega (arith, length-append port.memory (port_frame port)) in
      ap (λ (n : ℕ). port_bytes port ++ drop n (m ++ tail_of c)) count
      ∙ ap (λ (l : List ℕ). port_bytes port ++ l) (drop-append-add m (tail_of c) 8)
      ∙ append_assoc port.memory (port_frame port) (drop 8 (tail_of c))

  counters_over_lem : (counters : Counters) (scan : Scan)
      → over (m ++ tail_of c) counters_at (tick_bytes (scan_to scan (counters_to counters c.settings)))
      ≡ m ++ tail_of (record { port = c.port; settings = scan_to scan (counters_to counters c.settings) })
  unfolding tail_of
  counters_over_lem counters scan =
      let bytes : List ℕ = tick_bytes (scan_to scan (counters_to counters c.settings)) in
      let before : counters_at ≡ length m + 19 = omega (arith, size) in
      let after : 64 ≡ length m + 32 = omega (arith, size) in
      ap (λ (n : ℕ). take n (m ++ tail_of c) ++ bytes ++ drop 64 (m ++ tail_of c)) before
      ∙ ap (λ (l : List ℕ). l ++ bytes ++ drop 64 (m ++ tail_of c)) (take-append-add m (tail_of c) 19)
      ∙ ap (λ (n : ℕ). m ++ take 19 (tail_of c) ++ bytes ++ drop n (m ++ tail_of c)) after
      ∙ ap (λ (l : List ℕ). m ++ take 19 (tail_of c) ++ bytes ++ l) (drop-append-add m (tail_of c) 32)
      ∙ ap (λ (l : List ℕ). l ++ drop 32 (tail_of c)) (append_assoc m (take 19 (tail_of c)) bytes)
      ∙ append_assoc m (take 19 (tail_of c) ++ bytes) (drop 32 (tail_of c))

-- ---- and of a valid record

module _ (b : List ℕ) (v : record_valid b ≡ true) where
  -- A port written over it, of 32 bytes of memory.
  pub port_back : (port : Port) → length port.memory ≡ addresses
      → port_over port b ≡ record_of (record { port = port; settings = (chip_of b).settings })
  unfolding port_over written_as record_of
  port_back port h =
      let long = (valid_has b v).long in
      rw (le-ltb (length b) record_length (omega (arith, long)))
      (ap (λ (l : List ℕ). over l 0 (port_bytes port)) (sym (trip b v))
      ∙ port_over_lem (chip_of b).port.memory (chip_of b) (valid_chip b v).port.size port h)

  -- Counters and scan written over it, with the bytes between and after them.
  pub counters_back : (counters : Counters) (scan : Scan) → let s = scan_to scan (counters_to counters (chip_of b).settings) in
      counters_over s b ≡ record_of (record { port = (chip_of b).port; settings = s })
  unfolding counters_over written_as record_of
  counters_back counters scan =
      let long = (valid_has b v).long in
      rw (le-ltb (length b) record_length (omega (arith, long)))
      (ap (λ (l : List ℕ). over l counters_at (tick_bytes (scan_to scan (counters_to counters (chip_of b).settings)))) (sym (trip b v))
      ∙ counters_over_lem (chip_of b).port.memory (chip_of b) (valid_chip b v).port.size counters scan)
