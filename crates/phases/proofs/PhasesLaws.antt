-- Laws of phases and of DATA. Assumes nothing.
use mathlib.Core.Bool.{true, false}
use Prim.Native.Nat.{◌≤◌}
use native.Mathlib.Omega.{arith}
use Rattle.phases.specs.declared.Line.{Line}
use Rattle.phases.specs.declared.Line.TheVariants.{Released, Driven}
use Rattle.phases.specs.Phases.{line_number}

-- what the chip does to DATA is one of three
pub line_number_small : (line : Line) → line_number line ≤ 2
line_number_small Released = omega arith
line_number_small (Driven true) = omega arith
line_number_small (Driven false) = omega arith
