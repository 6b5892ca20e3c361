-- What the code of an answer tells, and that 32 bits hold the code of every answer of the driver. Assumes nothing.
use Rattle.std.specs.Prelude.{Ok, Err}
use mathlib.Core.Path.{◌≡◌, refl}
use mathlib.Core.Bool.{Bool, true, false, not, ◌||◌, true≢false}
use mathlib.Core.List.{List, [], ◌∷◌}
use Prim.Native.Nat.{ℕ, suc, ◌+◌, ◌-◌, ◌/◌, ◌%◌, ◌≤◌, ◌<◌}
use native.Mathlib.Omega.{arith}
use lib.Dec.{eqb, ltb}
use lib.ListN.{length}
use borrow.Author.Tests.{lt-ltb, le-ltb, ltb-false}
use Rattle.ground.proofs.ChoiceLaws.{either, by_cases}
use Rattle.ground.specs.declared.Refusal.{Refusal}
use Rattle.ground.specs.declared.Refusal.TheVariants.{SampleAbove, NothingAsked, AddressAbove, NibbleAbove, UndefinedCommand}
use Rattle.ground.specs.declared.Refusal.TheVariants.{OutputShort, NotedCount, NotedAbove, Malformed, MemoryCount, RunsPastEnd, TooManyCommands, UnknownPart}
use Rattle.ground.specs.Parts.{part_of}
use Rattle.ground.specs.Places.{lowest}
use Rattle.ground.specs.Refusals.{refusal_number, refusal_place}
use Rattle.ground.specs.Outcomes.{Outcome, succeeded, Rung, ladder}
use Rattle.driver.specs.Refusals.{miscounted, nibble_fault, noted_fault, command_fault}
use Rattle.driver.specs.Refusals.{write_refusals, read_refusals, command_refusals, decode_refusals, write_answer, read_answer, command_answer, decode_answer}
use Rattle.streams.specs.Streams.{write_stream, read_stream, command_stream, decoded}
use Rattle.streams.proofs.StreamsLaws.{write_length, read_length, commands_length, decoded_length}
use Rattle.host.specs.Host.{refused_code, host_code}

-- a byte holds the number of every refusal
number_small : (why : Refusal) → refusal_number why ≤ 255
number_small SampleAbove = omega arith
number_small NothingAsked = omega arith
number_small AddressAbove = omega arith
number_small (NibbleAbove place) = omega arith
number_small (UndefinedCommand place) = omega arith
number_small OutputShort = omega arith
number_small NotedCount = omega arith
number_small (NotedAbove place) = omega arith
number_small Malformed = omega arith
number_small MemoryCount = omega arith
number_small RunsPastEnd = omega arith
number_small TooManyCommands = omega arith
number_small UnknownPart = omega arith

-- A success counts few bytes, a refusal has a low place.
abbrev pub Small : Outcome → Type 0
Small (Ok count) = count ≤ 585
Small (Err why) = refusal_place why ≤ 128

-- 32 bits hold the code of a refusal, and of every answer
pub refused_held : (why : Refusal) → refusal_place why ≤ 128 → refused_code why < 4294967296
unfolding host_code
refused_held why h = omega (arith, number_small why)

pub answer_held : (answer : Outcome) → Small answer → host_code answer < 4294967296
unfolding host_code
answer_held (Ok count) h = omega arith
answer_held (Err why) h = refused_held why h

-- a code from 2^31 on is a refusal, and every other a success
pub code_tells : (answer : Outcome) → Small answer → ltb (host_code answer) 2147483648 ≡ succeeded answer
unfolding host_code
code_tells (Ok count) h = lt-ltb count 2147483648 (omega arith)
code_tells (Err why) h = le-ltb (refused_code why) 2147483648 (omega arith)

-- and a refusal's number and place can be read off it
pub code_parts : (why : Refusal)
    → (refused_code why % 256 ≡ refusal_number why) × ((refused_code why - 2147483648) / 256 ≡ refusal_place why)
unfolding host_code
code_parts why = (omega (arith, number_small why), omega (arith, number_small why))

-- ---- the answers of the driver are small

-- a place is no higher than there are values
pub place_within : (test : ℕ → Bool) (values : List ℕ) → lowest test values ≤ length values
place_within test [] = omega arith
place_within test (value ∷ values) =
    let rest = place_within test values in
    either (λ (place : ℕ). place ≤ suc (length values)) (test value) (omega arith) (omega (arith, rest))

-- Past the tests before it each rung has a low place, and past them all few bytes are written.
abbrev pub Low : List Rung → ℕ → Type 0
Low [] size = size ≤ 585
Low (rung ∷ rungs) size = (refusal_place rung.why ≤ 128) × (rung.holds ≡ false → Low rungs size)

pub ladder_small : (rungs : List Rung) (size : ℕ) → Low rungs size → Small (ladder Err rungs (Ok size))
ladder_small [] size low = low
ladder_small (rung ∷ rungs) size low =
    by_cases Small rung.holds (λ holds. low.0) (λ fails. ladder_small rungs size (low.1 fails))

-- noted bytes that are not miscounted are 128 at most
few_noted : (count : ℕ) → miscounted count ≡ false → count ≤ 128
unfolding miscounted
few_noted count e = second (eqb count 0) (ltb 128 count) (not (eqb (count % 4) 0)) refl e
  where
    second : (a b d : Bool) → ltb 128 count ≡ b → (a || b || d) ≡ false → count ≤ 128
    second true b d p e = absurd (true≢false e)
    second false true d p e = absurd (true≢false e)
    second false false d p e = ltb-false 128 count p

pub write_small : (first : ℕ) (nibbles : List ℕ) (room : ℕ) → Small (write_answer first nibbles room)
unfolding write_answer
write_small first nibbles room =
    ladder_small (write_refusals first nibbles room) (length (write_stream first nibbles)) (
      omega arith,
      λ some. (
        omega arith,
        λ good. (
          omega arith,
          λ e.
              let few = ltb-false 32 (first + length nibbles) e in (
                omega (arith, few, place_within nibble_fault nibbles),
                λ clean. (omega arith, λ fits. omega (arith, few, write_length first nibbles)),
              ),
        ),
      ),
    )

pub read_small : (first count room : ℕ) → Small (read_answer first count room)
unfolding read_answer
read_small first count room =
    ladder_small (read_refusals first count room) (length (read_stream first count)) (
      omega arith,
      λ some. (
        omega arith,
        λ good. (
          omega arith,
          λ e. (omega arith, λ fits. omega (arith, ltb-false 32 (first + count) e, read_length first count)),
        ),
      ),
    )

pub commands_small : (part : ℕ) (codes : List ℕ) (room : ℕ) → Small (command_answer part codes room)
unfolding command_answer
commands_small part codes room =
    ladder_small (command_refusals part codes room) (length (command_stream codes)) (
      omega arith,
      λ known. (
        omega arith,
        λ some. (
          omega arith,
          λ e.
              let few = ltb-false 32 (length codes) e in (
                omega (arith, few, place_within (command_fault (part_of part)) codes),
                λ clean. (omega arith, λ fits. omega (arith, few, commands_length codes)),
              ),
        ),
      ),
    )

pub decode_small : (noted : List ℕ) (room : ℕ) → Small (decode_answer noted room)
unfolding decode_answer
decode_small noted room =
    ladder_small (decode_refusals noted room) (length (decoded noted)) (
      omega arith,
      λ e.
          let few = few_noted (length noted) e in (
            omega (arith, few, place_within noted_fault noted),
            λ clean. (omega arith, λ fits. omega (arith, few, decoded_length noted)),
          ),
    )

-- so 32 bits hold the code of each
pub write_held : (first : ℕ) (nibbles : List ℕ) (room : ℕ) → host_code (write_answer first nibbles room) < 4294967296
write_held first nibbles room = answer_held _ (write_small first nibbles room)

pub read_held : (first count room : ℕ) → host_code (read_answer first count room) < 4294967296
read_held first count room = answer_held _ (read_small first count room)

pub commands_held : (part : ℕ) (codes : List ℕ) (room : ℕ) → host_code (command_answer part codes room) < 4294967296
commands_held part codes room = answer_held _ (commands_small part codes room)

pub decode_held : (noted : List ℕ) (room : ℕ) → host_code (decode_answer noted room) < 4294967296
decode_held noted room = answer_held _ (decode_small noted room)
