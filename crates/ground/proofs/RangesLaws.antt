-- Laws of ranges: what it says of each byte that all are up to their maxima, and what one of them decides. Assumes nothing.
use mathlib.Core.Path.{◌≡◌, refl, ap}
use mathlib.Core.Bool.{Bool, true, ◌&&◌}
use mathlib.Core.List.{List, [], ◌∷◌}
use Prim.Native.Nat.{ℕ, zero, suc, ◌≤◌, ◌<◌}
use native.Mathlib.Nat.{le_of_suc-le-suc, not-suc-le-zero}
use lib.Dec.{leb}
use lib.ListN.{length, get_or}
use borrow.Author.Tests.{leb-true}
use Rattle.std.specs.Prelude.{zip}
use Rattle.std.specs.List.{list_all}
use Rattle.ground.specs.Ranges.{up_to}
use Rattle.ground.proofs.ChoiceLaws.{and_left, and_right}

pub up_to_at : (bytes most : List ℕ) (i : ℕ) → up_to bytes most ≡ true → i < length bytes → i < length most
    → get_or bytes i 0 ≤ get_or most i 0
unfolding up_to
up_to_at [] most i e h k = absurd (not-suc-le-zero h)
up_to_at (byte ∷ bytes) [] i e h k = absurd (not-suc-le-zero k)
up_to_at (byte ∷ bytes) (maximum ∷ most) zero e h k = leb-true byte maximum (and_left (leb byte maximum) (up_to bytes most) e)
up_to_at (byte ∷ bytes) (maximum ∷ most) (suc i) e h k =
    up_to_at bytes most i (and_right (leb byte maximum) (up_to bytes most) e) (le_of_suc-le-suc h) (le_of_suc-le-suc k)

-- all pairs of a byte and its maximum pass the one test
pub up_to_all : (bytes most : List ℕ) → list_all (λ pair. leb pair.0 pair.1) (zip bytes most) ≡ up_to bytes most
unfolding up_to
up_to_all [] most = refl
up_to_all (byte ∷ bytes) [] = refl
up_to_all (byte ∷ bytes) (maximum ∷ most) = ap (λ (t : Bool). leb byte maximum && t) (up_to_all bytes most)
