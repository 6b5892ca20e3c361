-- Ranges of many bytes. Assumes nothing.
use Rattle.std.specs.Prelude.{ℕ, Bool, true, ◌&&◌, List, [], ◌∷◌, leb}

-- Each byte is at most its maximum.
unfoldable pub up_to : List ℕ → List ℕ → Bool
up_to [] most = true
up_to (byte ∷ bytes) [] = true
up_to (byte ∷ bytes) (maximum ∷ most) = leb byte maximum && up_to bytes most
