-- RULES "Samples": the levels of a sample, and the four rules in their house order. Assumes nothing.
use Rattle.std.specs.Prelude.{ℕ, ◌+◌, ◌*◌, ◌/◌, ◌%◌, Bool, cond, not, ◌&&◌, eqb}
use Rattle.ground.specs.Bits.{bit_number}
use Rattle.lines.specs.declared.Levels.{Levels}
use Rattle.lines.specs.declared.Edge.{Edge}
use Rattle.lines.specs.declared.Edge.TheVariants.{Rests, Closes, Opens, Clashes, Takes, Offers, Quiet}

-- A sample has a bit for each line's new level: CS the lowest, then WR, RD and DATA.
abbrev pub levels : ℕ → Levels
levels sample =
    record {
      cs = eqb (sample % 2) 1;
      wr = eqb (sample / 2 % 2) 1;
      rd = eqb (sample / 4 % 2) 1;
      bit = eqb (sample / 8 % 2) 1;
    }

-- The sample that has given levels.
abbrev pub levels_number : Levels → ℕ
levels_number l = bit_number l.cs + 2 * bit_number l.wr + 4 * bit_number l.rd + 8 * bit_number l.bit

-- A rise from one level to the next; a fall is a rise the other way round.
abbrev pub rose : Bool → Bool → Bool
rose before after = not before && after

-- Rule 4, within a frame: a rise of WR takes the bit on DATA, a fall of RD offers one, and the two together clash.
abbrev pub clocked : Bool → Bool → Bool → Edge
clocked rise fall bit = cond rise (cond fall Clashes (Takes bit)) (cond fall Offers Quiet)

-- Rules 2 to 4, the first that applies: with the new CS high no clock edge counts, and the frame, if there was one,
-- closes; where CS falls a frame opens and no clock edge counts; otherwise the clocks count.
abbrev pub edge : Levels → Levels → Edge
edge before after =
    cond after.cs (cond before.cs Rests Closes)
    (cond before.cs Opens
    (clocked (rose before.wr after.wr) (rose after.rd before.rd) after.bit))
