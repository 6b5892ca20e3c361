-- Bytes of a record as a list of fields, from which follow the bytes of a thing, which bytes are right for it, and the thing
-- that right bytes say. Assumes nothing.
use Rattle.std.specs.Prelude.{ℕ, suc, ◌-◌, max, Bool, true, ◌&&◌, List, [], ◌∷◌, eqb}
use Rattle.ground.specs.Bits.{bit_number}
use Rattle.ground.specs.Codes.{is_code, case_of}
use Rattle.ground.specs.Written.{byte}

-- What the byte is, the most that it can be, whether it is known where it is not above that, and what reading it changes.
pub record Field (A : Type 0) : Type 0 where
  pub written : A → ℕ
  pub most : ℕ
  pub known : ℕ → Bool
  pub read_into : ℕ → A → A

-- ---- what a byte can be

module _ {A : Type 0} where
  -- A switch is 0 or 1.
  abbrev pub switch : (A → Bool) → (Bool → A → A) → Field A
  switch get to = record { written = λ a. bit_number (get a); most = 1; known = λ n. true; read_into = λ n. to (eqb n 1) }

  -- A count is any number below its size; where that depends on other bytes, it is 256 here, and they are asked for together.
  abbrev pub count : ℕ → (A → ℕ) → (ℕ → A → A) → Field A
  count size get to = record { written = get; most = size - 1; known = λ n. true; read_into = to }

  -- A byte that is not used is 0.
  abbrev pub spare : Field A
  spare = record { written = λ a. 0; most = 0; known = λ n. true; read_into = λ n a. a }

module _ {X : Type 0} (number : X → ℕ) where
  abbrev largest : List X → ℕ
  largest [] = 0
  largest (first ∷ cases) = max (number first) (largest cases)

  -- A selection is the number of one of its cases.
  abbrev pub selection : {A : Type 0} → List X → (A → X) → (X → A → A) → Field A
  selection cases get to =
      record {
        written = λ a. number (get a);
        most = largest cases;
        known = is_code number cases;
        read_into = λ n a. to (case_of number cases (get a) n) a;
      }

-- ---- what follows from a list of them

module _ {A : Type 0} where
  abbrev pub bytes_of : List (Field A) → A → List ℕ
  bytes_of [] a = []
  bytes_of (field ∷ fields) a = field.written a ∷ bytes_of fields a

  abbrev pub maxima : List (Field A) → List ℕ
  maxima [] = []
  maxima (field ∷ fields) = field.most ∷ maxima fields

  -- In a list of bytes, from a place on.
  abbrev pub all_known : List ℕ → ℕ → List (Field A) → Bool
  all_known b at [] = true
  all_known b at (field ∷ fields) = field.known (byte b at) && all_known b (suc at) fields

  abbrev pub read_from : List ℕ → ℕ → List (Field A) → A → A
  read_from b at [] a = a
  read_from b at (field ∷ fields) a = read_from b (suc at) fields (field.read_into (byte b at) a)
