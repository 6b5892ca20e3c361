-- Laws of a ladder whose first rungs are asked on their own, before what stands past them is known. Assumes nothing.
use Rattle.std.specs.Prelude.{Result, Ok, Err}
use mathlib.Core.Path.{◌≡◌, refl}
use mathlib.Core.Bool.{Bool, true, false, cond}
use mathlib.Core.List.{List, [], ◌∷◌}
use Rattle.ground.specs.declared.Refusal.{Refusal}
use Rattle.ground.specs.Outcomes.{Outcome, Rung, ladder}

-- what the rungs come to by themselves
abbrev pub asked : List Rung → Result (Unit {0}) Refusal
asked rungs = ladder Err rungs (Ok tt)

-- one of them refuses
pub ladder_refused : (rungs : List Rung) (other : Outcome) {why : Refusal} → Err why ≡ asked rungs
    → ladder Err rungs other ≡ Err why
ladder_refused [] other e = absurd (cc)
ladder_refused (rung ∷ rungs) other {why} e = by rung.holds e (ladder_refused rungs other)
  where
    by : (holds : Bool) → Err why ≡ cond holds (Err rung.why) (asked rungs)
        → (Err why ≡ asked rungs → ladder Err rungs other ≡ Err why)
        → cond holds (Err rung.why) (ladder Err rungs other) ≡ Err why
    by true e rest = cc
    by false e rest = rest e

-- none does
pub ladder_passed : (rungs : List Rung) (other : Outcome) → Ok tt ≡ asked rungs → ladder Err rungs other ≡ other
ladder_passed [] other e = refl
ladder_passed (rung ∷ rungs) other e = by rung.holds e (ladder_passed rungs other)
  where
    by : (holds : Bool) → Ok tt ≡ cond holds (Err rung.why) (asked rungs)
        → (Ok tt ≡ asked rungs → ladder Err rungs other ≡ other)
        → cond holds (Err rung.why) (ladder Err rungs other) ≡ other
    by true e rest = absurd (cc)
    by false e rest = rest e
