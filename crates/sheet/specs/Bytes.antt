-- RULES "State record and simulator": the bytes by their names. Assumes nothing.
use Rattle.std.specs.Prelude.{Bool, ◌||◌, List, ℕ, eqb}
pub use Rattle.ground.specs.Written.{byte}

-- RULES "Ticks": running is the system on, byte 40, or EXT selected, byte 41.
abbrev pub runs : List ℕ → Bool
runs b = eqb (byte b 40) 1 || eqb (byte b 41) 2
