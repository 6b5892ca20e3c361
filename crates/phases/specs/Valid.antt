-- RULES "State record and simulator", what is valid: a frame's ranges, and its couplings with CS and DATA. Assumes nothing.
use Rattle.std.specs.Prelude.{◌≡◌, Bool, true, false, ℕ, ◌^◌, ◌≤◌, ◌<◌}
use Rattle.phases.specs.Phases.{round}
use Rattle.phases.specs.declared.Phase.{Phase}
use Rattle.phases.specs.declared.Phase.TheVariants.{Idle, Ident, ReadTo, WriteTo, Reading, Writing, Command, Dead}
use Rattle.phases.specs.declared.Line.{Line}
use Rattle.phases.specs.declared.Line.TheVariants.{Released}

-- Unfinished bits: at most so many, and a value below 2^count.
abbrev pub Unfinished : ℕ → ℕ → ℕ → Type 0
Unfinished most count value = (count ≤ most) × (value < 2 ^ count)

-- There is no frame exactly while CS is high; only a frame that reads or writes can drive DATA, and only it has an
-- address and a position.
abbrev pub FrameValid : Bool → Line → Phase → Type 0
FrameValid cs line Idle = (cs ≡ true) × (line ≡ Released)
FrameValid cs line (Ident count value) = (cs ≡ false) × (line ≡ Released) × Unfinished 2 count value
FrameValid cs line (ReadTo count value) = (cs ≡ false) × (line ≡ Released) × Unfinished 5 count value
FrameValid cs line (WriteTo count value) = (cs ≡ false) × (line ≡ Released) × Unfinished 5 count value
FrameValid cs line (Reading at position) = (cs ≡ false) × (at < round) × (position < 4)
FrameValid cs line (Writing count value at position) = (cs ≡ false) × Unfinished 3 count value × (at < round) × (position < 4)
FrameValid cs line (Command count value) = (cs ≡ false) × (line ≡ Released) × Unfinished 8 count value
FrameValid cs line Dead = (cs ≡ false) × (line ≡ Released)
