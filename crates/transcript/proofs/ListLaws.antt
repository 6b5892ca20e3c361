-- The loop of the listing: what is left of the input, written after what stands there, makes the whole listing.
-- Assumes nothing.
use mathlib.Core.Path.{◌≡◌, ◌∙◌}
use mathlib.Core.List.{List}
use Prim.Native.Nat.{ℕ, ◌+◌, ◌*◌, ◌≤◌, ◌<◌}
use native.Mathlib.Omega.{arith}
use native.Mathlib.Numerals.{add-one}
use lib.ListN.{length, drop, get_or, length-drop, drop_of_length-le}
use lib.Seq.{drop-cons}
use Rattle.ground.specs.Written.{Wrote}
use Rattle.ground.proofs.WrittenLaws.{wrote_then}
use Rattle.chip.specs.declared.Chip.{Chip}
use Rattle.chip.specs.declared.Stepped.{Stepped}
use Rattle.chip.specs.Chip.{stepped, ticked}
use Rattle.power.specs.PowerOn.{empty_chip}
use Rattle.listed.specs.declared.Class.{Class}
use Rattle.listed.specs.declared.Class.TheVariants.{Sample, Tick, Skipped, Bad}
use Rattle.listed.specs.Listing.{answer_line, bad_line, end_line, class_of, lists, list_from}
use Rattle.ground.proofs.WrittenLaws.{wrote_length}
use Rattle.transcript.proofs.LineLaws.{length_answer_line, length_list_from}

-- The first i bytes of an input are listed in a buffer up to a cursor.
pub record Going (input before now : List ℕ) (chip : Chip) (at samples ticks i : ℕ) : Type 0 where
  pub reach : i ≤ length input
  pub counted : samples + ticks ≤ i
  pub room : at ≤ 24 * i
  pub same : length now ≡ length before
  pub onward : (after : List ℕ) (k : ℕ) → Wrote now at (list_from chip samples ticks i (drop i input)) after k
      → Wrote before 0 (list_from empty_chip 0 0 0 input) after k

module _ {input before now : List ℕ} {chip : Chip} {at samples ticks i : ℕ}
    (g : Going input before now chip at samples ticks i) where
  -- the next byte decides
  decided : (class : Class) → i < length input → class ≡ class_of (get_or input i 0)
      → list_from chip samples ticks i (drop i input)
      ≡ lists class chip samples ticks i (λ next s t. list_from next s t (i + 1) (drop (i + 1) input))
  unfolding list_from
  decided class more e = rw (drop-cons input i 0 more, add-one, e)

  pub going_skips : i < length input → Skipped ≡ class_of (get_or input i 0)
      → Going input before now chip at samples ticks (i + 1)
  going_skips more e =
      record {
        reach = omega arith;
        counted = omega (arith, g.counted);
        room = omega (arith, g.room);
        same = g.same;
        onward = λ after k w. g.onward after k (rw (decided Skipped more e) w);
      }

  pub going_ticks : i < length input → Tick ≡ class_of (get_or input i 0)
      → Going input before now (ticked chip) at samples (ticks + 1) (i + 1)
  going_ticks more e =
      record {
        reach = omega arith;
        counted = omega (arith, g.counted);
        room = omega (arith, g.room);
        same = g.same;
        onward = λ after k w. g.onward after k (rw (decided Tick more e) w);
      }

  pub going_samples : (value : ℕ) {then : List ℕ} {next : ℕ} → i < length input → Sample value ≡ class_of (get_or input i 0)
      → Wrote now at (answer_line (samples + 1) (stepped chip value).answer) then next
      → 24 * length input + 16 ≤ length before
      → Going input before then (stepped chip value).chip next (samples + 1) ticks (i + 1)
  going_samples value {then} {next} more e w fits =
      let short : length (answer_line (samples + 1) (stepped chip value).answer) ≤ 24 = length_answer_line _ _ in
      let rest : _ = length_list_from (stepped chip value).chip (samples + 1) ticks (i + 1) (drop (i + 1) input) in
      record {
        reach = omega arith;
        counted = omega (arith, g.counted);
        room = omega (arith, g.room, w.cursor);
        same = wrote_length w (omega (arith, g.room, g.same)) ∙ g.same;
        onward =
            λ after k v. g.onward after k
            (rw (decided (Sample value) more e)
            (wrote_then _ _ w v (omega (arith, g.room, g.same, length-drop (i + 1) input))));
      }

  -- a last line
  pub going_stops : {after : List ℕ} {k : ℕ} → i < length input → Bad ≡ class_of (get_or input i 0)
      → Wrote now at (bad_line i) after k → Wrote before 0 (list_from empty_chip 0 0 0 input) after k
  going_stops {after} {k} more e w = g.onward after k (rw (decided Bad more e) w)

  pub going_ends : {after : List ℕ} {k : ℕ} → length input ≤ i → Wrote now at (end_line samples ticks) after k
      → Wrote before 0 (list_from empty_chip 0 0 0 input) after k
  unfolding list_from
  going_ends {after} {k} none w = g.onward after k (rw (drop_of_length-le input none) w)

  -- as the code has it: the chip is what `step` and `tick` hand back
  pub going_steps : (value : ℕ) (result : Stepped) {then : List ℕ} {next : ℕ} → result ≡ stepped chip value
      → i < length input → Sample value ≡ class_of (get_or input i 0)
      → Wrote now at (answer_line (samples + 1) result.answer) then next
      → 24 * length input + 16 ≤ length before → Going input before then result.chip next (samples + 1) ticks (i + 1)
  going_steps value result same more e w fits = rw same (going_samples value more e (rw same at w) fits)

  pub going_counts : (result : Chip) → result ≡ ticked chip → i < length input → Tick ≡ class_of (get_or input i 0)
      → Going input before now result at samples (ticks + 1) (i + 1)
  going_counts result same more e = rw same (going_ticks more e)
