-- Ticks of bytes: those of the settings that a valid record says, written back. Assumes nothing.
use mathlib.Core.Path.{◌≡◌, ◌∙◌, refl, sym, ap, subst}
use mathlib.Core.Bool.{true}
use mathlib.Core.List.{List}
use Prim.Native.Nat.{ℕ, suc}
use native.Mathlib.Numerals.{add-one}
use Rattle.settings.specs.Bytes.{settings_of}
use Rattle.ticks.specs.Ticks as ticks
use Rattle.chip.specs.declared.Chip.{Chip}
use Rattle.chip.specs.Chip.{advanced}
use Rattle.chip.specs.Valid.{Valid}
use Rattle.chip.proofs.ValidLaws.{advanced_valid}
use Rattle.state.specs.Record.{record_valid, record_of, chip_of}
use Rattle.state.proofs.ChipLaws.{valid_chip, chip_valid, chip_again}
use Rattle.simulator.specs.Simulator.{advance_returns, advance_bytes}
use Rattle.sheet.specs.Ticks.{tick, Ticks, TicksSheet}
use Rattle.sheet.proofs.BytesLaws.{settings_written, bytes_spelt}
use Rattle.sheet.proofs.TicksLaws.{tick_ticks}

advance_again : (c : Chip) → Valid c → (n : ℕ) → advance_bytes (record_of c) n ≡ record_of (advanced n c)
unfolding advance_bytes
advance_again c v n = simp (chip_valid c v, chip_again c v.port.size)

module _ (b : List ℕ) (valid : record_valid b ≡ true) where
  abbrev next : Chip
  next = advanced 1 (chip_of b)

  next_valid : Valid next
  next_valid = advanced_valid 1 (chip_of b) (valid_chip b valid)

  advance_leaves : (n : ℕ) → advance_bytes b n ≡ record_of (advanced n (chip_of b))
  unfolding advance_bytes
  advance_leaves n = rw valid

  nothing : advance_bytes b 0 ≡ b
  unfolding ticks.advanced chip_of
  nothing = advance_leaves 0 ∙ settings_written b valid (settings_of b) ∙ sym (bytes_spelt b valid)

  next_bytes : record_of next ≡ tick b
  unfolding ticks.advanced chip_of
  next_bytes =
      settings_written b valid (ticks.ticked (settings_of b)) ∙ sym (tick_ticks b (settings_of b)) ∙ ap tick (sym (bytes_spelt b valid))

  one_more_lem : (n : ℕ) → record_of (advanced (suc n) (chip_of b)) ≡ record_of (advanced n next)
  unfolding ticks.advanced
  one_more_lem n = refl

  ticks_of_record : Ticks b
  unfolding advance_returns
  ticks_of_record =
      record {
        none = nothing;
        one = advance_leaves 1 ∙ next_bytes;
        more = λ n.
            rw (add-one n) (advance_leaves (suc n) ∙ one_more_lem n ∙ sym (advance_again next next_valid n)
            ∙ ap (λ (l : List ℕ). advance_bytes l n) next_bytes);
        valid = subst (λ (l : List ℕ). record_valid l ≡ true) next_bytes (chip_valid next next_valid);
        returns = rw valid;
      }

pub ticks_sheet : TicksSheet
ticks_sheet = ticks_of_record
