-- RULES "State record and simulator": which ports are valid. Assumes nothing.
use Rattle.std.specs.Prelude.{◌≡◌, List, [], ◌∷◌, ℕ, ◌<◌, length}
use Rattle.ground.specs.Sizes.{addresses}
use Rattle.phases.specs.Valid.{FrameValid}
use Rattle.port.specs.declared.Port.{Port}

-- A memory holds nibbles.
abbrev pub Nibbles : List ℕ → Type 0
Nibbles [] = Unit {0}
Nibbles (nibble ∷ nibbles) = (nibble < 16) × Nibbles nibbles

-- A port: a nibble for each address, and a frame that goes with CS and DATA.
pub record PortValid (port : Port) : Type 0 where
  pub size : length port.memory ≡ addresses
  pub nibbles : Nibbles port.memory
  pub frame : FrameValid port.levels.cs port.line port.phase
