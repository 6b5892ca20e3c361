-- Laws of the parts' numbers: what a reading found tells which part it is, and a part by its own number is the same. Assumes nothing.
use mathlib.Core.Path.{◌≡◌, refl}
use mathlib.Core.Bool.{true, false}
use Prim.Native.Nat.{ℕ, zero, suc, ◌≤◌}
use native.Mathlib.Omega.{arith}
use borrow.Author.Tests.{ne_eqb}
use Rattle.ground.specs.Codes.{is_code, case_of}
use Rattle.ground.specs.Values.{agree}
use Rattle.ground.specs.declared.Part.{Part}
use Rattle.ground.specs.declared.Part.TheVariants.{Ht, Gn}
use Rattle.std.specs.Prelude.{Some, None}
use Rattle.ground.specs.Parts.{part_number, parts, is_part, part_of, part_read}
use Rattle.ground.proofs.CodesLaws.{read_none, read_some}

module _ (number : ℕ) where
  pub part_none : part_read number ≡ None → is_part number ≡ false
  unfolding part_read
  part_none e = read_none part_number Ht number parts e

  pub part_found : (x other : Part) → part_read number ≡ Some x
      → (is_code part_number parts number ≡ true) × (case_of part_number parts other number ≡ x)
  unfolding part_read
  part_found x other e = read_some part_number other number parts x e

pub part_back : (other x : Part) → (is_code part_number parts (part_number x) ≡ true) × (case_of part_number parts other (part_number x) ≡ x)
part_back other Ht = (refl, refl)
part_back other Gn = (refl, refl)

pub part_one : (number : ℕ) → number ≡ 1 → part_of number ≡ Gn
part_one number e = rw e

-- a number that is not the GN's is taken for the HT
pub part_other : (number : ℕ) → (number ≡ 1 → ⊥) → part_of number ≡ Ht
part_other zero other = refl
part_other (suc zero) other = absurd (other refl)
part_other (suc (suc number)) other = rw (ne_eqb (suc (suc number)) 0 (omega arith), ne_eqb (suc (suc number)) 1 (omega arith))

pub part_right : (number : ℕ) → number ≤ 1 → is_code part_number parts number ≡ true
part_right number h = agree (λ (k : ℕ). is_code part_number parts k) (λ (k : ℕ). true) 2 refl number (omega arith)

pub part_small : (x : Part) → part_number x ≤ 1
part_small Ht = omega arith
part_small Gn = omega arith
