-- Laws of an outcome: a call is refused or succeeds as its ladder says, and a ladder is its table. Assumes nothing.
use mathlib.Core.Path.{◌≡◌, ◌∙◌, refl, sym, ap}
use mathlib.Core.Bool.{Bool, true, false, cond, true≢false}
use mathlib.Core.List.{List, [], ◌∷◌, ◌++◌, map}
use Prim.Native.Nat.{ℕ}
use native.Mathlib.Omega.{arith}
use lib.ListN.{length}
use Rattle.ground.specs.declared.Refusal.{Refusal}
use Rattle.std.specs.Prelude.{Option, None, Result, Ok, Err, ok_or, IsErrAnd}
use Rattle.ground.specs.Refusals.{refusal_number, refusal_place}
use Rattle.ground.specs.Written.{over}
use Rattle.ground.specs.Outcomes.{Outcome, ComesTo, Rung, ladder, Row, row, NoneHolds, RefusedWith, AsTabled}

-- ---- what a call owes

module _ {due : Outcome} {stream before : List ℕ} where
  -- refused, with no byte written
  pub refuses : {why : Refusal} → due ≡ Err why → ComesTo due stream before (Err why) before
  refuses {why} e = record { answer = sym e; bytes = rw e refl }

  -- not refused, with all bytes written
  pub succeeds : {after : List ℕ} {count : ℕ} → due ≡ Ok (length stream) → count ≡ length stream
      → after ≡ over before 0 stream → ComesTo due stream before (Ok count) after
  succeeds {after} {count} e whole all = record { answer = ap Ok whole ∙ sym e; bytes = rw e all }

-- what `ok_or(why)?` returns where there is nothing
pub absent : {T U : Type 0} {o : Option T} {why said : Refusal} (r : Result U Refusal) → IsErrAnd r (λ y. y ≡ said)
    → Err said ≡ ok_or o why → o ≡ None → r ≡ Err why
absent (Ok x) told e none = absurd told
absent {why} {said} (Err y) told e none = let same : said ≡ why = cc (rw none at e) in rw (told, same)

-- a success is no refusal
not_written : (why : Refusal) (count : ℕ) → Err why ≡ Ok count → ⊥
not_written why count e = let z : ◌≡◌ {A = ℕ} 0 1 = cc in omega arith

-- ---- a ladder is its table

-- a rung as a row
abbrev pub row_of : Rung → Row
row_of rung = row rung.holds (refusal_number rung.why) (refusal_place rung.why)

-- the first row is asked before the others
passes : (test : Bool) (why : Refusal) (rest : Outcome) (rows : List Row) (size : ℕ) → AsTabled rows size rest
    → AsTabled (row test (refusal_number why) (refusal_place why) ∷ rows) size (cond test (Err why) rest)
passes true why rest rows size t =
    record {
      accepted = λ none. absurd (true≢false none.0);
      accepted_only = λ count e. absurd (not_written why count e);
      refused = λ before first after e none holds. first_holds before first after e none;
    }
  where
    first_holds : (before : List Row) (first : Row) (after : List Row)
        → row true (refusal_number why) (refusal_place why) ∷ rows ≡ before ++ first ∷ after → NoneHolds before
        → RefusedWith first.number first.place (Err why)
    first_holds [] first after e none = (cc, cc)
    first_holds (other ∷ before) first after e none =
        let same : true ≡ other.holds = cc in absurd (true≢false (same ∙ none.0))
passes false why rest rows size t =
    record {
      accepted = λ none. t.accepted none.1;
      accepted_only = λ count e. (refl, t.accepted_only count e);
      refused = later;
    }
  where
    later : (before : List Row) (first : Row) (after : List Row)
        → row false (refusal_number why) (refusal_place why) ∷ rows ≡ before ++ first ∷ after → NoneHolds before
        → first.holds ≡ true → RefusedWith first.number first.place rest
    later [] first after e none holds =
        let same : first.holds ≡ false = cc in absurd (true≢false (sym holds ∙ same))
    later (other ∷ before) first after e none holds =
        let rest : rows ≡ before ++ first ∷ after = cc in t.refused before first after rest none.1 holds

pub ladder_tabled : (rungs : List Rung) (size : ℕ) → AsTabled (map row_of rungs) size (ladder Err rungs (Ok size))
ladder_tabled [] size =
    record {
      accepted = λ none. refl;
      accepted_only = λ count e. tt;
      refused = no_row;
    }
  where
    no_row : (before : List Row) (first : Row) (after : List Row) → [] ≡ before ++ first ∷ after → NoneHolds before
        → first.holds ≡ true → RefusedWith first.number first.place (Ok size)
    no_row [] first after e none holds = let z : ◌≡◌ {A = ℕ} 0 1 = cc in omega arith
    no_row (other ∷ before) first after e none holds = let z : ◌≡◌ {A = ℕ} 0 1 = cc in omega arith
ladder_tabled (rung ∷ rungs) size = passes rung.holds rung.why _ (map row_of rungs) size (ladder_tabled rungs size)
