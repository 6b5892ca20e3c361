-- A refresh that is stopped: the picture is on the way from the standing one to the wanted one, and the same writes in full make it the
-- wanted one. Assumes nothing.
use mathlib.Core.List.{List, [], ◌∷◌}
use mathlib.Core.Path.{◌≡◌, refl}
use Prim.Native.Nat.{ℕ, zero, suc, ◌≤◌}
use native.Mathlib.Omega.{arith}
use native.Mathlib.Nat.{suc-add, not-suc-le-zero, le_of_suc-le-suc}
use mathlib.Core.Bool.{Bool}
use lib.ListN.{length, take, drop}
use lib.Seq.{paste, take-nil}
use Rattle.series.specs.Series.{drawn, Mixed, none, stands, comes}
use Rattle.series.specs.Runs.{spans, runs}
use Rattle.series.proofs.Covers as covers
use Rattle.series.proofs.Covers.{Same, inside, outside}
use Rattle.series.proofs.Pastes.{paste_here, paste_later, renewed}
use Rattle.series.proofs.Spans.{covered}

-- nothing is written yet
pub mixed_standing : (old new : List ℕ) → length old ≡ length new → Mixed old new old
mixed_standing [] [] e = none
mixed_standing [] (n ∷ new) e = absurd (let no : ⊥ = omega arith in no)
mixed_standing (o ∷ old) [] e = absurd (let no : ⊥ = omega arith in no)
mixed_standing (o ∷ old) (n ∷ new) e = stands (mixed_standing old new (omega arith))

-- so many of the wanted nibbles are written from an address on
mixed_front : (k j : ℕ) {old new m : List ℕ} → Mixed old new m → j ≤ length (take k new) → Mixed old new (paste m 0 (take k new) j)
mixed_front k zero p h = p
mixed_front zero (suc j) p h = absurd (not-suc-le-zero h)
mixed_front (suc k) (suc j) none h = absurd (not-suc-le-zero h)
mixed_front (suc k) (suc j) (stands {x = x} {y = y} {wanted = new} {picture = m} p) h =
    rw (paste_here x y m (take k new) j) (comes (mixed_front k j p (le_of_suc-le-suc h)))
mixed_front (suc k) (suc j) (comes {y = y} {wanted = new} {picture = m} p) h =
    rw (paste_here y y m (take k new) j) (comes (mixed_front k j p (le_of_suc-le-suc h)))

pub mixed_written : (i k j : ℕ) {old new m : List ℕ} → Mixed old new m → j ≤ length (take k (drop i new))
    → Mixed old new (paste m i (take k (drop i new)) j)
mixed_written zero k j p h = mixed_front k j p h
mixed_written (suc i) k j none h = simp (take-nil, suc-add) none
mixed_written (suc i) k j (stands {x = x} {wanted = new} {picture = m} p) h =
    rw (paste_later x m (take k (drop i new)) i j) (stands (mixed_written i k j p h))
mixed_written (suc i) k j (comes {y = y} {wanted = new} {picture = m} p) h =
    rw (paste_later y m (take k (drop i new)) i j) (comes (mixed_written i k j p h))

-- where the standing picture is the wanted one, so is any on the way
mixed_same : {c : List Bool} {old new m : List ℕ} → Same c old new → Mixed old new m → Same c m new
mixed_same covers.none none = covers.none
mixed_same (inside s) (stands p) = inside (mixed_same s p)
mixed_same (inside s) (comes p) = inside (mixed_same s p)
mixed_same (outside e s) (stands p) = outside e (mixed_same s p)
mixed_same (outside e s) (comes p) = outside refl (mixed_same s p)

-- the writes of the refresh make any picture on the way the wanted one
pub mended : (old new m : List ℕ) → length old ≡ length new → Mixed old new m → drawn (runs old new) m ≡ new
mended old new m e p = renewed (length new) (spans old new) (mixed_same (covered old new e) p)
