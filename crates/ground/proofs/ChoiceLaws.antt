-- Laws of a choice by a test, and of tests that hold together. Assumes nothing.
use mathlib.Core.Path.{◌≡◌, refl, sym}
use mathlib.Core.Bool.{Bool, true, false, cond, ◌&&◌}
use Rattle.std.specs.Prelude.{Some, None}

module _ {A : Type 0} (P : A → Type 0) where
  -- what holds of both sides holds of the choice
  pub either : (b : Bool) {x y : A} → P x → P y → P (cond b x y)
  either true p q = p
  either false p q = q

  -- and each side may use the test
  pub by_cases : (b : Bool) {x y : A} → (b ≡ true → P x) → (b ≡ false → P y) → P (cond b x y)
  by_cases true p q = p refl
  by_cases false p q = q refl

-- what is made of a choice is a choice of what is made of each side
pub of_choice : {A B : Type 0} (f : A → B) (b : Bool) (x y : A) → f (cond b x y) ≡ cond b (f x) (f y)
of_choice f true x y = refl
of_choice f false x y = refl

-- a choice between something and nothing tells its test, and what the something is
module _ {A : Type 0} (x : A) where
  pub none_chosen : (t : Bool) → cond t (Some x) None ≡ None → t ≡ false
  none_chosen true e = cc
  none_chosen false e = refl

  pub some_chosen : (t : Bool) {y : A} → cond t (Some x) None ≡ Some y → (t ≡ true) × (x ≡ y)
  some_chosen true e = (refl, cc)
  some_chosen false e = (cc, cc)

-- ---- tests that hold together

pub and_left : (a b : Bool) → (a && b) ≡ true → a ≡ true
and_left true b e = refl
and_left false b e = e

pub and_right : (a b : Bool) → (a && b) ≡ true → b ≡ true
and_right true b e = e
and_right false b e = let z : true ≡ false = sym e in cc

pub each_of_3 : (a b c : Bool) → (a && b && c) ≡ true → (a ≡ true) × (b ≡ true) × (c ≡ true)
each_of_3 a b c h =
    let first = and_left (a && b) c h in
    (and_left a b first, and_right a b first, and_right (a && b) c h)

pub each_of_4 : (a b c d : Bool) → (a && b && c && d) ≡ true → (a ≡ true) × (b ≡ true) × (c ≡ true) × (d ≡ true)
each_of_4 a b c d h =
    let first = each_of_3 a b c (and_left (a && b && c) d h) in
    (first.0, first.1, first.2, and_right (a && b && c) d h)

pub and_both : {a b : Bool} → a ≡ true → b ≡ true → (a && b) ≡ true
and_both p q = rw p q
