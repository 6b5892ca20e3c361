-- Coded bytes: which case of an enum a number stands for, by the numbers of the cases. Assumes nothing.
use Rattle.std.specs.Prelude.{ℕ, Bool, true, false, cond, List, [], ◌∷◌, eqb}

-- What is found of the case that has the code for its number, or what stands where none of the cases has it.
module _ {A B : Type 0} (found : A → B) (none : B) (number : A → ℕ) where
  abbrev pub read_by : List A → ℕ → B
  read_by [] code = none
  read_by (first ∷ cases) code = cond (eqb code (number first)) (found first) (read_by cases code)

module _ {A : Type 0} (number : A → ℕ) (cases : List A) where
  -- The code is one of theirs.
  abbrev pub is_code : ℕ → Bool
  is_code = read_by (λ one. true) false number cases

  -- The case itself; one that is given where the code is none of theirs.
  abbrev pub case_of : A → ℕ → A
  case_of other = read_by (λ one. one) other number cases
