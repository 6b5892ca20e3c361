-- RULES "Driver streams": what a call that writes bytes comes to. Its number and its place, the bytes that it leaves, and the
-- ladder of refusals that decides it. Assumes nothing.
use Rattle.std.specs.Prelude.{◌≡◌, Bool, true, false, cond, List, [], ◌∷◌, ◌++◌, ℕ, ltb, length, Result, Ok, Err}
use Rattle.ground.specs.Sizes.{record_length}
use Rattle.ground.specs.declared.Refusal.{Refusal}
use Rattle.ground.specs.declared.Refusal.TheVariants.{OutputShort}
use Rattle.ground.specs.Refusals.{refusal_number, refusal_place}
use Rattle.ground.specs.Written.{over}

-- So many bytes written over the buffer lent, or why none was.
abbrev pub Outcome : Type 0
Outcome = Result ℕ Refusal

-- The number of an outcome: a success has that of the bytes written, a refusal its own; the place, which only a refusal
-- can have; and which of the two it is.
abbrev pub outcome_number : Outcome → ℕ
outcome_number (Ok count) = count
outcome_number (Err why) = refusal_number why

abbrev pub outcome_place : Outcome → ℕ
outcome_place (Ok count) = 0
outcome_place (Err why) = refusal_place why

abbrev pub succeeded : Outcome → Bool
succeeded (Ok count) = true
succeeded (Err why) = false

-- ---- the bytes left

-- A success has its bytes in the buffer from `at` on and changes nothing else; a refusal changes nothing.
abbrev pub left_from : ℕ → Outcome → List ℕ → List ℕ → List ℕ
left_from at (Ok count) bytes buffer = over buffer at bytes
left_from at (Err why) bytes buffer = buffer

abbrev pub left : Outcome → List ℕ → List ℕ → List ℕ
left = left_from 0

-- A call comes to what is due, and leaves the bytes that go with it.
pub record ComesTo (due : Outcome) (stream before : List ℕ) (result : Outcome) (after : List ℕ) : Type 0 where
  pub answer : result ≡ due
  pub bytes : after ≡ left due stream before

-- ---- the ladder

-- A rung: whether its test holds, and the refusal that is then due.
pub record Rung : Type 0 where
  pub holds : Bool
  pub why : Refusal

abbrev pub refused_if : Bool → Refusal → Rung
refused_if test refusal = record { holds = test; why = refusal }

-- The rungs are asked in order: the first whose test holds refuses, and past the last one stands the success.
module _ {A : Type 0} (refused : Refusal → A) where
  abbrev pub ladder : List Rung → A → A
  ladder [] success = success
  ladder (rung ∷ rungs) success = cond rung.holds (refused rung.why) (ladder rungs success)

-- A call past its ladder has written all of its bytes.
abbrev pub answered : List Rung → List ℕ → Outcome
answered rungs bytes = ladder Err rungs (Ok (length bytes))

-- A call that writes a state record, or a part of one over a record: 25 where the buffer is shorter than a record; else the
-- count of the bytes written.
unfoldable pub written_as : ℕ → List ℕ → Outcome
written_as count buffer = ladder Err (refused_if (ltb (length buffer) record_length) OutputShort ∷ []) (Ok count)

-- ---- a ladder as the table of refusals

-- A row of the table: whether its test holds, the number, and the place.
pub record Row : Type 0 where
  pub holds : Bool
  pub number : ℕ
  pub place : ℕ

abbrev pub row : Bool → ℕ → ℕ → Row
row test number place = record { holds = test; number = number; place = place }

-- Where a call returns a bare number: that of the first row whose test holds, or what stands past them all.
abbrev pub number_by : List Row → ℕ → ℕ
number_by [] success = success
number_by (first ∷ rows) success = cond first.holds first.number (number_by rows success)

-- No test of some rows holds.
abbrev pub NoneHolds : List Row → Type 0
NoneHolds [] = Unit {0}
NoneHolds (first ∷ rows) = (first.holds ≡ false) × NoneHolds rows

-- A refusal with this number and this place.
abbrev pub RefusedWith : ℕ → ℕ → Outcome → Type 0
RefusedWith number place (Ok count) = ⊥
RefusedWith number place (Err why) = (refusal_number why ≡ number) × (refusal_place why ≡ place)

-- An outcome is as the table has it: a success of `size` bytes exactly where no test holds; and otherwise refused by the first
-- row whose test holds, with its number and its place.
pub record AsTabled (table : List Row) (size : ℕ) (outcome : Outcome) : Type 0 where
  pub accepted : NoneHolds table → outcome ≡ Ok size
  pub accepted_only : (count : ℕ) → outcome ≡ Ok count → NoneHolds table
  pub refused : (before : List Row) (first : Row) (after : List Row) → table ≡ before ++ first ∷ after → NoneHolds before
      → first.holds ≡ true → RefusedWith first.number first.place outcome
