-- Laws of the lowest place at which a test holds: std's `position` finds it. Assumes nothing.
use mathlib.Core.Path.{◌≡◌, ◌∙◌, refl, sym, ap}
use mathlib.Core.Bool.{Bool, true, false, cond}
use mathlib.Core.List.{List, [], ◌∷◌}
use Prim.Native.Nat.{ℕ, zero, suc, ◌≤◌, ◌<◌}
use native.Mathlib.Omega.{arith}
use native.Mathlib.Nat.{le_of_suc-le-suc, not-suc-le-zero}
use lib.Dec.{ltb}
use lib.ListN.{length, get_or}
use borrow.Author.Tests.{ltb-false}
use Rattle.std.specs.Prelude.{position, Option, Some, None}
use Rattle.std.proofs.lemmas.List.Recursion.{is_position_or_len}
use Rattle.ground.specs.Places.{lowest, somewhere}

module _ (test : ℕ → Bool) where
  -- below the lowest place the test fails
  pub lowest_below : (list : List ℕ) (k : ℕ) (b : Bool) → test (get_or list k 0) ≡ b → k < lowest test list → b ≡ false
  lowest_below [] k b e h = absurd (not-suc-le-zero h)
  lowest_below (value ∷ list) zero true e h = absurd (not-suc-le-zero (rw e at h))
  lowest_below (value ∷ list) zero false e h = refl
  lowest_below (value ∷ list) (suc k) b e h = lowest_below list k b e (later (test value) h)
    where
      later : (first : Bool) → suc k < cond first 0 (suc (lowest test list)) → k < lowest test list
      later true h = absurd (not-suc-le-zero h)
      later false h = le_of_suc-le-suc h

-- `position` finds the lowest place, and finds none where the test holds nowhere
pub position_lowest : (test : ℕ → Bool) (values : List ℕ)
    → position test values ≡ cond (somewhere test values) (Some (lowest test values)) None
position_lowest test values =
    let same = is_position_or_len (lowest test) test refl (λ value rest. ap (λ (n : ℕ). cond (test value) 0 n) (omega arith)) values in
    ap (λ (n : ℕ). cond (ltb n (length values)) (Some n) None) (sym same)

-- what a search that ended so says of the list
abbrev pub Found : (ℕ → Bool) → List ℕ → Option ℕ → Type 0
Found test values (Some place) = (somewhere test values ≡ true) × (lowest test values ≡ place)
Found test values None = somewhere test values ≡ false

pub position_found : (test : ℕ → Bool) (values : List ℕ) (found : Option ℕ) → found ≡ position test values
    → Found test values found
position_found test values found e =
    rw (e ∙ position_lowest test values) (by (somewhere test values) refl)
  where
    by : (holds : Bool) → somewhere test values ≡ holds → Found test values (cond holds (Some (lowest test values)) None)
    by true h = (h, refl)
    by false h = h

-- where no place is found, no value is above the limit
pub none_above : (limit : ℕ) (list : List ℕ) → length list ≤ lowest (ltb limit) list
    → (k : ℕ) → k < length list → get_or list k 0 ≤ limit
none_above limit list none k h =
    ltb-false limit (get_or list k 0) (lowest_below (ltb limit) list k (ltb limit (get_or list k 0)) refl (omega arith))
