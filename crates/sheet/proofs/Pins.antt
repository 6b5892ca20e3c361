-- The pins by the bytes of a record: each pin of the model is the rules' test of the bytes that say its settings. Assumes nothing.
use mathlib.Core.Path.{◌≡◌, ◌∙◌, refl, sym, ap}
use mathlib.Core.Bool.{Bool, true, ◌&&◌}
use mathlib.Core.List.{List, map}
use Prim.Native.Nat.{ℕ, ◌+◌, ◌≤◌}
use native.Mathlib.Omega.{arith}
use lib.Dec.{eqb, ltb}
use lib.ListN.{length, take, drop, get_or, length-map, get_or-append}
use lib.Seq.{get_or-take, length-take-le}
use borrow.Author.Tests.{le-ltb}
use Rattle.ground.specs.Bits.{bit_at}
use Rattle.ground.specs.Written.{over}
use Rattle.ground.proofs.BitsLaws.{bit_number_back}
use Rattle.ground.proofs.WrittenLaws.{length_over, drop_over}
use Rattle.phases.proofs.FrameLaws.{fits_has, line_again}
use Rattle.settings.specs.Bytes.{settings_of}
use Rattle.pins.specs.Pins.{irq_low, wave, sounding, bz_high, partner_high, shows, shown_nibble, pins_shown}
use Rattle.state.specs.Record.{record_valid, chip_of}
use Rattle.state.proofs.TripLaws.{RecordHas, valid_has}
use Rattle.simulator.specs.Simulator.{pins_code, pins_returns, pins_bytes}
use Rattle.sheet.specs.Bytes.{byte, runs}
use Rattle.sheet.specs.Pins.{irq_is_low, sounds, tone_is_high, cell_shows, pins_number, PinsTold, PinsShown, PinsSheet}
use Rattle.sheet.proofs.BytesLaws.{spelt, bytes_spelt, runs_running}
use Rattle.sheet.proofs.PinsLaws.{irq_shown, sounds_sounding, tone_waves, nibble_small, nibble_bit, map_at}

module _ (b : List ℕ) (valid : record_valid b ≡ true) where
  has : RecordHas b
  has = valid_has b valid

  -- what the settings show, by the bytes that say them
  by_bytes : (told : List ℕ → Bool) (shown : Bool) → told (spelt b (settings_of b)) ≡ shown → shown ≡ told b
  by_bytes told shown e = sym (ap told (bytes_spelt b valid) ∙ e)

  irq_low_lem : irq_low (settings_of b) ≡ irq_is_low b
  irq_low_lem = by_bytes irq_is_low _ (irq_shown b (settings_of b))

  sounding_sounds : sounding (settings_of b) ≡ sounds b
  sounding_sounds = by_bytes sounds _ (sounds_sounding b (settings_of b))

  tone_high : wave (settings_of b).tone.pitch (settings_of b).counters.toner.count ≡ tone_is_high b
  tone_high = by_bytes tone_is_high _ (tone_waves b (settings_of b))

  cell_shows_lem : (s c : ℕ) → shows (settings_of b) c (bit_at c (byte b s)) ≡ cell_shows b s c
  unfolding shows
  cell_shows_lem s c =
      by_bytes (λ l. runs l && eqb (byte l 42) 1 && ltb c (byte l 44) && bit_at c (byte b s)) _
      (rw (runs_running b (settings_of b), bit_number_back (settings_of b).lcd.on))

  -- the cells of an address, and all of them
  abbrev cells_of : ℕ → ℕ
  cells_of = shown_nibble (settings_of b)

  abbrev cells : List ℕ
  cells = map cells_of (take 32 b)

  cells_32 : length cells ≡ 32
  cells_32 = length-map (take 32 b) cells_of ∙ length-take-le 32 b (omega (arith, has.long))

  cells_at : (s : ℕ) → s ≤ 31 → get_or cells s 0 ≡ cells_of (byte b s)
  cells_at s h =
      map_at cells_of (take 32 b) s (omega (arith, cells_32, length-map (take 32 b) cells_of))
      ∙ ap cells_of (get_or-take 32 b s 0 (omega arith))

  cell_bit : (s c : ℕ) → c ≤ 3 → bit_at c (cells_of (byte b s)) ≡ cell_shows b s c
  unfolding shown_nibble
  cell_bit s c h = nibble_bit (λ (c : ℕ). shows (settings_of b) c (bit_at c (byte b s))) c h ∙ cell_shows_lem s c

  cell_small : (n : ℕ) → cells_of n ≤ 15
  unfolding shown_nibble
  cell_small n = nibble_small (λ (c : ℕ). shows (settings_of b) c (bit_at c n))

  module _ (out : List ℕ) (room : 32 ≤ length out) where
    bytes_left : pins_bytes b out ≡ over out 0 cells
    unfolding pins_bytes pins_shown chip_of
    bytes_left = rw (valid, le-ltb (length out) 32 room)

    number : pins_returns b out ≡ pins_number b
    unfolding pins_returns pins_code pins_shown chip_of bz_high partner_high
    number =
        rw (valid, le-ltb (length out) 32 room, irq_low_lem, sounding_sounds, tone_high, line_again (byte b 39) (fits_has b has.frame).data_low)

    byte_left : (s : ℕ) → s ≤ 31 → byte (pins_bytes b out) s ≡ cells_of (byte b s)
    byte_left s h =
        ap (λ (l : List ℕ). byte l s) bytes_left
        ∙ get_or-append cells (drop (0 + length cells) out) 0 s (omega (arith, cells_32)) ∙ cells_at s h

    told : PinsTold b out
    told =
        record {
          returned = number;
          size = ap length bytes_left ∙ length_over out cells 0 (omega (arith, cells_32));
          nibbles = λ s h. rw (byte_left s h) (cell_small (byte b s));
          cells = λ s c h k. ap (bit_at c) (byte_left s h) ∙ cell_bit s c k;
          rest =
              let all : 0 + length cells ≡ 32 = omega (arith, cells_32) in
              ap (drop 32) bytes_left ∙ ap (λ (n : ℕ). drop n (over out 0 cells)) (sym all)
              ∙ drop_over out cells 0 (omega (arith, cells_32)) ∙ ap (λ (n : ℕ). drop n out) all;
        }

  shown : PinsShown b
  unfolding pins_shown chip_of bz_high partner_high
  shown = record { irq = irq_low_lem; bz = rw (sounding_sounds, tone_high) refl; partner = rw (sounding_sounds, tone_high) refl }

pub pins_sheet : PinsSheet
pins_sheet = record { calls = λ b out valid room. told b valid out room; model = λ b valid. shown b valid }
