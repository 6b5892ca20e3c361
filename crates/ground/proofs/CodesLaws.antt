-- Laws of coded bytes: what a reading found tells which case it is, and that case's number is the code. Assumes nothing.
use mathlib.Core.Path.{◌≡◌, ◌∙◌, refl, sym}
use mathlib.Core.Bool.{Bool, true, false, cond}
use mathlib.Core.List.{List, [], ◌∷◌}
use Prim.Native.Nat.{ℕ}
use lib.Dec.{eqb}
use borrow.Author.Tests.{eqb-true}
use Rattle.std.specs.Prelude.{Option, Some, None}
use Rattle.ground.specs.Codes.{read_by, is_code, case_of}
use Rattle.ground.proofs.ChoiceLaws.{none_chosen, some_chosen}

-- what is made of a reading is made of what it found
module _ {A B C : Type 0} (make : B → C) (found : A → B) (none : B) (number : A → ℕ) where
  pub read_by_map : (cases : List A) (code : ℕ)
      → make (read_by found none number cases code) ≡ read_by (λ one. make (found one)) (make none) number cases code
  read_by_map [] code = refl
  read_by_map (first ∷ cases) code = by (eqb code (number first)) _ _ (read_by_map cases code)
    where
      by : (t : Bool) (x : B) (y : C) → make x ≡ y → make (cond t (found first) x) ≡ cond t (make (found first)) y
      by true x y e = refl
      by false x y e = e

-- a reading is a choice: the case that the code stands for, or nothing where it is none's
module _ {A : Type 0} (number : A → ℕ) (other : A) (code : ℕ) where
  pub read_of : (cases : List A)
      → read_by Some None number cases code ≡ cond (is_code number cases code) (Some (case_of number cases other code)) None
  read_of [] = refl
  read_of (first ∷ cases) = by (eqb code (number first)) _ _ _ (read_of cases)
    where
      by : (t : Bool) (known : Bool) (x : A) (rest : Option A) → rest ≡ cond known (Some x) None
          → cond t (Some first) rest ≡ cond (cond t true known) (Some (cond t first x)) None
      by true known x rest e = refl
      by false known x rest e = e

  pub read_none : (cases : List A) → read_by Some None number cases code ≡ None → is_code number cases code ≡ false
  read_none cases e = none_chosen _ (is_code number cases code) (sym (read_of cases) ∙ e)

  pub read_some : (cases : List A) (x : A) → read_by Some None number cases code ≡ Some x
      → (is_code number cases code ≡ true) × (case_of number cases other code ≡ x)
  read_some cases x e = some_chosen _ (is_code number cases code) (sym (read_of cases) ∙ e)

-- a code of some case is the number of the case that it stands for
module _ {A : Type 0} (number : A → ℕ) (other : A) (code : ℕ) where
  pub case_of_again : (cases : List A) → is_code number cases code ≡ true → number (case_of number cases other code) ≡ code
  case_of_again [] e = cc
  case_of_again (first ∷ cases) e = by (eqb code (number first)) refl (case_of_again cases) e
    where
      by : (t : Bool) → eqb code (number first) ≡ t
          → (is_code number cases code ≡ true → number (case_of number cases other code) ≡ code)
          → cond t true (is_code number cases code) ≡ true → number (cond t first (case_of number cases other code)) ≡ code
      by true h rest e = sym (eqb-true code (number first) h)
      by false h rest e = rest e
