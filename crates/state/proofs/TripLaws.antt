-- The record's round trip: what is read from a valid record is written as its bytes. Assumes nothing.
use mathlib.Core.Path.{◌≡◌, ◌∙◌, sym, ap}
use mathlib.Core.Bool.{true}
use mathlib.Core.List.{List, ◌++◌, append-nil}
use native.Mathlib.Omega.{arith}
use Prim.Native.Nat.{ℕ}
use lib.Dec.{eqb}
use lib.ListN.{length, take, drop, take-append-drop, drop_of_length-le}
use borrow.Author.Tests.{eqb-true}
use Rattle.ground.specs.Sizes.{addresses, record_length}
use Rattle.ground.proofs.ChoiceLaws.{each_of_4}
use Rattle.ground.proofs.WrittenLaws.{gather, gathered}
use Rattle.phases.specs.Frame.{frame_at, frame_fits}
use Rattle.phases.proofs.FrameLaws.{frame_trip}
use Rattle.settings.specs.Bytes.{settings_bytes, settings_right, settings_of}
use Rattle.settings.proofs.BytesLaws.{settings_has, settings_trip}
use Rattle.state.specs.Record.{memory_fits, record_valid, record_of, tail_of, chip_of}

-- What a valid record has.
pub record RecordHas (b : List ℕ) : Type 0 where
  pub long : length b ≡ record_length
  pub memory : memory_fits b ≡ true
  pub frame : frame_fits b ≡ true
  pub settings : settings_right b ≡ true

pub valid_has : (b : List ℕ) → record_valid b ≡ true → RecordHas b
unfolding record_valid
valid_has b v =
    let each = each_of_4 (eqb (length b) record_length) (memory_fits b) (frame_fits b) (settings_right b) v in
    record { long = eqb-true (length b) record_length each.0; memory = each.1; frame = each.2; settings = each.3 }

module _ (b : List ℕ) (has : RecordHas b) where
  tail_same : tail_of (chip_of b) ≡ drop addresses b
  unfolding tail_of chip_of
  tail_same =
      let all : drop addresses b ≡ gather 32 frame_at b ++ drop record_length b = gathered 32 frame_at b (omega (arith, has.long)) in
      ap (λ (l : List ℕ). l ++ settings_bytes (settings_of b)) (frame_trip b has.frame)
      ∙ ap (λ (l : List ℕ). gather 8 frame_at b ++ l) (settings_trip b (settings_has b has.long has.settings))
      ∙ sym (all ∙ ap (λ (l : List ℕ). gather 32 frame_at b ++ l) (drop_of_length-le b {i = record_length} (omega (arith, has.long)))
      ∙ append-nil (gather 32 frame_at b))

  record_same : record_of (chip_of b) ≡ b
  unfolding record_of chip_of
  record_same = ap (λ (l : List ℕ). take addresses b ++ l) tail_same ∙ take-append-drop addresses b

-- Writing what was read from a valid record gives its bytes.
pub trip : (b : List ℕ) → record_valid b ≡ true → record_of (chip_of b) ≡ b
trip b v = record_same b (valid_has b v)
