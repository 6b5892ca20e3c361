-- Laws of bytes by a list of fields: where some bytes stand after others, they say the same; and two lists of fields are known where
-- each of them is. Assumes nothing.
use mathlib.Core.Path.{◌≡◌, ◌∙◌, refl, sym, ap}
use mathlib.Core.Bool.{Bool, ◌&&◌, and_assoc}
use mathlib.Core.List.{List, [], ◌∷◌, ◌++◌}
use Prim.Native.Nat.{ℕ, suc, ◌+◌}
use native.Mathlib.Nat.{add-suc, zero-add}
use native.Mathlib.Omega.{arith}
use lib.ListN.{length}
use lib.Seq.{get_or-append-add}
use Rattle.ground.specs.Written.{byte}
use Rattle.settings.specs.Fields.{Field, all_known, read_from}

module _ {A : Type 0} (first second : List ℕ) where
  pub all_known_past : (at : ℕ) (fields : List (Field A))
      → all_known (first ++ second) (length first + at) fields ≡ all_known second at fields
  all_known_past at [] = refl
  all_known_past at (field ∷ fields) =
      ap (λ (n : ℕ). field.known n && all_known (first ++ second) (suc (length first + at)) fields) (get_or-append-add first second at 0)
      ∙ ap (λ (k : ℕ). field.known (byte second at) && all_known (first ++ second) k fields) (sym (add-suc (length first) at))
      ∙ ap (λ (t : Bool). field.known (byte second at) && t) (all_known_past (suc at) fields)

  pub read_from_past : (at : ℕ) (fields : List (Field A)) (a : A)
      → read_from (first ++ second) (length first + at) fields a ≡ read_from second at fields a
  read_from_past at [] a = refl
  read_from_past at (field ∷ fields) a =
      ap (λ (n : ℕ). read_from (first ++ second) (suc (length first + at)) fields (field.read_into n a)) (get_or-append-add first second at 0)
      ∙ ap (λ (k : ℕ). read_from (first ++ second) k fields (field.read_into (byte second at) a)) (sym (add-suc (length first) at))
      ∙ read_from_past (suc at) fields (field.read_into (byte second at) a)

module _ {A : Type 0} (b : List ℕ) (second : List (Field A)) where
  pub all_known_both : (at : ℕ) (first : List (Field A))
      → all_known b at (first ++ second) ≡ (all_known b at first && all_known b (length first + at) second)
  all_known_both at [] = ap (λ (k : ℕ). all_known b k second) (sym (zero-add at))
  all_known_both at (field ∷ fields) =
      let past : length fields + suc at ≡ suc (length fields) + at = omega arith in
      ap (λ (t : Bool). field.known (byte b at) && t) (all_known_both (suc at) fields)
      ∙ ap (λ (k : ℕ). field.known (byte b at) && (all_known b (suc at) fields && all_known b k second)) past
      ∙ sym (and_assoc (field.known (byte b at)) (all_known b (suc at) fields) (all_known b (suc (length fields) + at) second))
