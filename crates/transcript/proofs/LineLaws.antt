-- Laws of the lines: how long each is, so that every listing fits its room; and one write after another makes a line.
-- Assumes nothing.
use Rattle.std.specs.Prelude.{Ok, Err}
use mathlib.Core.Path.{◌≡◌, ◌∙◌, refl, sym}
use mathlib.Core.Bool.{Bool, true, false, cond}
use mathlib.Core.Logic.{◌⊎◌, inl, inr}
use mathlib.Core.List.{List, [], ◌∷◌, ◌++◌}
use Prim.Native.Nat.{ℕ, ◌+◌, ◌*◌, ◌≤◌}
use native.Mathlib.Omega.{arith}
use lib.Dec.{ltb, eqb}
use lib.ListN.{length, length-append}
use borrow.Author.Tests.{ltb-false, ne_eqb}
use Rattle.ground.specs.declared.Refusal.{Refusal}
use Rattle.ground.specs.declared.Refusal.TheVariants.{SampleAbove, NothingAsked, AddressAbove, NibbleAbove, UndefinedCommand, OutputShort, NotedCount, NotedAbove, Malformed, MemoryCount, RunsPastEnd, TooManyCommands, UnknownPart}
use Rattle.ground.specs.Refusals.{refusal_number}
use Rattle.ground.specs.Outcomes.{Outcome, ComesTo}
use Rattle.ground.specs.Written.{Wrote}
use Rattle.ground.proofs.ChoiceLaws.{either, by_cases}
use Rattle.ground.proofs.WrittenLaws.{wrote_none, wrote_then}
use Rattle.answers.specs.declared.Answer.{Answer}
use Rattle.answers.specs.declared.Answer.TheVariants.{Nothing, Opened, Closed, Dropped, Taken, Stored, Obeyed, Passed, Offered, Stray, Unknown, Clash, Refused}
use Rattle.answers.specs.declared.Numbers.{Numbers}
use Rattle.answers.specs.Answers.{answer_number, first_detail, second_detail, numbers}
use Rattle.chip.specs.declared.Chip.{Chip}
use Rattle.chip.specs.Chip.{stepped, ticked}
use Rattle.power.specs.PowerOn.{empty_chip}
use Rattle.listed.specs.declared.Class.{Class}
use Rattle.listed.specs.declared.Class.TheVariants.{Sample, Tick, Skipped, Bad}
use Rattle.listed.specs.Listing.{list_answer, lists, list_from, listing, room_for}
use Rattle.listed.specs.Listing.{space, newline, field, line, answer_line, bad, bad_line, end, end_line, class_of}
use Rattle.transcript.proofs.DecimalLaws.{length_field}

pub length_line : (number kind first second : ℕ) → length (line number kind first second) ≤ 24
unfolding line
length_line number kind first second =
    simp length-append
    (omega (
      arith,
      length_field number space,
      length_field kind space,
      length_field first space,
      length_field second newline,
    ))

pub length_answer_line : (number : ℕ) (answer : Answer) → length (answer_line number answer) ≤ 24
unfolding answer_line
length_answer_line number answer =
    either (λ (l : List ℕ). length l ≤ 24) (eqb (answer_number answer) 0) (omega arith)
    (either (λ (l : List ℕ). length l ≤ 24) (eqb (answer_number answer) 4) (omega arith) (length_line number _ _ _))

pub length_bad_line : (offset : ℕ) → length (bad_line offset) ≤ 16
unfolding bad_line
length_bad_line offset = simp length-append (omega (arith, length_field offset newline))

pub length_end_line : (samples ticks : ℕ) → length (end_line samples ticks) ≤ 16
unfolding end_line
length_end_line samples ticks = simp length-append (omega (arith, length_field samples space, length_field ticks newline))

-- one byte lists at most 24 bytes beyond what the rest lists
length_lists : (class : Class) (chip : Chip) (samples ticks offset most : ℕ) (rest : Chip → ℕ → ℕ → List ℕ)
    → 16 ≤ most → ((next : Chip) (s t : ℕ) → length (rest next s t) ≤ most)
    → length (lists class chip samples ticks offset rest) ≤ 24 + most
length_lists (Sample value) chip samples ticks offset most rest h short =
    simp length-append
    (omega (
      arith,
      length_answer_line (samples + 1) (stepped chip value).answer,
      short (stepped chip value).chip (samples + 1) ticks,
    ))
length_lists Tick chip samples ticks offset most rest h short = omega (arith, short (ticked chip) samples (ticks + 1))
length_lists Skipped chip samples ticks offset most rest h short = omega (arith, short chip samples ticks)
length_lists Bad chip samples ticks offset most rest h short = omega (arith, length_bad_line offset)

pub length_list_from : (chip : Chip) (samples ticks offset : ℕ) (input : List ℕ)
    → length (list_from chip samples ticks offset input) ≤ 24 * length input + 16
unfolding list_from
length_list_from chip samples ticks offset [] = length_end_line samples ticks
length_list_from chip samples ticks offset (byte ∷ input) =
    let most : length (lists (class_of byte) chip samples ticks offset (λ next s t. list_from next s t (offset + 1) input))
    ≤ 24 + (24 * length input + 16) =
    length_lists (class_of byte) chip samples ticks offset (24 * length input + 16) _ (omega arith)
    (λ next s t. length_list_from next s t (offset + 1) input) in
    omega arith

-- every listing fits its room
pub listing_fits : (input : List ℕ) → length (listing input) ≤ room_for (length input)
unfolding listing
listing_fits input =
    by_cases (λ (l : List ℕ). length l ≤ room_for (length input)) (ltb 65536 (length input)) (λ e. omega arith)
    (λ e. omega (arith, ltb-false 65536 (length input) e, length_list_from empty_chip 0 0 0 input))

-- so what was written is within the buffer
pub written_within : (input : List ℕ) {before after : List ℕ} {result : Outcome} (count : ℕ)
    → ComesTo (list_answer input (length before)) (listing input) before result after → result ≡ Ok count → count ≤ length before
unfolding list_answer
written_within input {before} {after} {result} count listed is =
    by (ltb (length before) (room_for (length input))) refl (sym is ∙ listed.answer)
  where
    by : (short : Bool) → ltb (length before) (room_for (length input)) ≡ short
        → Ok count ≡ cond short (Err OutputShort) (Ok (length (listing input))) → count ≤ length before
    by true t e = let no : ◌≡◌ {A = ℕ} 0 1 = cc in omega arith
    by false t e =
        let all : count ≡ length (listing input) = cc in
        omega (arith, listing_fits input, ltb-false (length before) (room_for (length input)) t)

-- one field after another
pub line_wrote : {a b c d e : List ℕ} (number kind first second : ℕ) {at k l m n : ℕ}
    → Wrote a at (field number space) b k → Wrote b k (field kind space) c l → Wrote c l (field first space) d m
    → Wrote d m (field second newline) e n
    → at + 24 ≤ length a → Wrote a at (line number kind first second) e n
unfolding line
line_wrote number kind first second p q r s fits =
    let one : length (field number space) ≤ 6 = length_field number space in
    let two : length (field number space ++ field kind space) ≤ 12 =
    simp length-append (omega (arith, length_field kind space)) in
    let three : length (field number space ++ field kind space ++ field first space) ≤ 18 =
    simp length-append (omega (arith, length_field kind space, length_field first space)) in
    let four : length (field second newline) ≤ 6 = length_field second newline in
    let p·q : _ = wrote_then _ _ p q (omega (arith, length_field kind space)) in
    wrote_then _ _ (wrote_then _ _ p·q r (omega (arith, length_field first space))) s (omega arith)

pub bad_wrote : {a b c : List ℕ} (offset : ℕ) {at k l : ℕ} → Wrote a at bad b k → Wrote b k (field offset newline) c l
    → at + 16 ≤ length a → Wrote a at (bad_line offset) c l
unfolding bad_line
bad_wrote offset p q fits = wrote_then bad (field offset newline) p q (omega (arith, length_field offset newline))

pub end_wrote : {a b c d : List ℕ} (samples ticks : ℕ) {at k l m : ℕ} → Wrote a at end b k
    → Wrote b k (field samples space) c l → Wrote c l (field ticks newline) d m
    → at + 16 ≤ length a → Wrote a at (end_line samples ticks) d m
unfolding end_line
end_wrote samples ticks p q r fits =
    let one : length (end ++ field samples space) ≤ 10 = simp length-append (omega (arith, length_field samples space)) in
    wrote_then (end ++ field samples space) (field ticks newline)
    (wrote_then end (field samples space) p q (omega (arith, length_field samples space))) r
    (omega (arith, length_field ticks newline))

-- an answer that has no line, and one that has one
pub unlisted : (buffer : List ℕ) (at number : ℕ) (answer : Answer) → (answer ≡ Nothing) ⊎ (answer ≡ Taken)
    → Wrote buffer at (answer_line number answer) buffer at
unfolding answer_line
unlisted buffer at number answer (inl e) = rw e (wrote_none buffer at)
unlisted buffer at number answer (inr e) = rw e (wrote_none buffer at)

-- a refusal's number is that of none of the other answers
above_19 : (refusal : Refusal) → 20 ≤ refusal_number refusal
above_19 SampleAbove = omega arith
above_19 NothingAsked = omega arith
above_19 AddressAbove = omega arith
above_19 (NibbleAbove place) = omega arith
above_19 (UndefinedCommand place) = omega arith
above_19 OutputShort = omega arith
above_19 NotedCount = omega arith
above_19 (NotedAbove place) = omega arith
above_19 Malformed = omega arith
above_19 MemoryCount = omega arith
above_19 RunsPastEnd = omega arith
above_19 TooManyCommands = omega arith
above_19 UnknownPart = omega arith

listed : (number : ℕ) (answer : Answer) → (answer ≡ Nothing → ⊥) → (answer ≡ Taken → ⊥)
    → answer_line number answer ≡ line number (answer_number answer) (first_detail answer) (second_detail answer)
unfolding answer_line
listed number Nothing some more = absurd (some refl)
listed number Opened some more = refl
listed number Closed some more = refl
listed number Dropped some more = refl
listed number Taken some more = absurd (more refl)
listed number (Stored address nibble) some more = refl
listed number (Obeyed code) some more = refl
listed number (Passed code) some more = refl
listed number (Offered address bit) some more = refl
listed number Stray some more = refl
listed number Unknown some more = refl
listed number Clash some more = refl
listed number (Refused refusal) some more =
    let far : 20 ≤ refusal_number refusal = above_19 refusal in
    rw (ne_eqb (refusal_number refusal) 0 (omega arith), ne_eqb (refusal_number refusal) 4 (omega arith)) refl

pub listed_by : {a b : List ℕ} {at k : ℕ} {told : Numbers} (number : ℕ) (answer : Answer) → (answer ≡ Nothing → ⊥)
    → (answer ≡ Taken → ⊥) → told ≡ numbers answer → Wrote a at (line number told.number told.first told.second) b k
    → Wrote a at (answer_line number answer) b k
listed_by number answer some more same w = rw (listed number answer some more) (rw same at w)
