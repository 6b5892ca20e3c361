-- Each call answers by a ladder, and its ladder is the table: row by row, once the stream's length is known. Assumes nothing.
use Rattle.std.specs.Prelude.{Ok, Err}
use mathlib.Core.Path.{◌≡◌, refl, subst}
use mathlib.Core.Bool.{Bool, true, false, cond, not}
use mathlib.Core.List.{List, [], ◌∷◌, map}
use Prim.Native.Nat.{ℕ, zero, suc, ◌+◌, ◌*◌, ◌/◌, ◌<◌}
use native.Mathlib.Omega.{arith}
use lib.Dec.{eqb, ltb}
use lib.ListN.{length}
use borrow.Author.Tests.{lt-ltb, le-ltb, ne_eqb}
use Rattle.ground.specs.Outcomes.{Rung, ladder, Row, AsTabled}
use Rattle.ground.specs.Parts.{is_part}
use Rattle.ground.specs.Refusals.{refusal_number, refusal_place}
use Rattle.ground.proofs.OutcomesLaws.{row_of, ladder_tabled}
use Rattle.driver.specs.Refusals.{miscounted}
use Rattle.driver.specs.Refusals.{write_refusals, read_refusals, command_refusals, decode_refusals}
use Rattle.driver.specs.Refusals.{write_answer, read_answer, command_answer, decode_answer}
use Rattle.streams.specs.Streams.{write_stream, read_stream, command_stream, decoded}
use Rattle.streams.proofs.StreamsLaws.{write_length, read_length, commands_length, decoded_length}
use Rattle.simulator.specs.Simulator.{step_returns, advance_returns, pins_returns}
use Rattle.host.specs.Host.{host_code, record_refusals, power_on_answer, power_on_returns, write_returns, read_returns, commands_returns, decode_returns}
use Rattle.demands.specs.Accepted.{write_table, read_table, command_table, decode_table, power_on_table, code_by, Accepted, WhichRange}

-- what a call returns of a ladder
told : (rungs : List Rung) (size : ℕ) → host_code (ladder Err rungs (Ok size)) ≡ code_by (map row_of rungs) size
unfolding host_code
told [] size = refl
told (rung ∷ rungs) size = by rung.holds (told rungs size)
  where
    by : (holds : Bool) → host_code (ladder Err rungs (Ok size)) ≡ code_by (map row_of rungs) size
        → host_code (cond holds (Err rung.why) (ladder Err rungs (Ok size)))
        ≡ cond holds (2147483648 + 256 * refusal_place rung.why + refusal_number rung.why) (code_by (map row_of rungs) size)
    by true rest = refl
    by false rest = rest

-- what is owed of a ladder by its table, of the answer and of the call for C
record Tabled (rungs : List Rung) (size : ℕ) (table : List Row) (bytes : ℕ) : Type 0 where
  answer : AsTabled table bytes (ladder Err rungs (Ok size))
  code : host_code (ladder Err rungs (Ok size)) ≡ code_by table bytes

-- it holds where rows and size are those of the table
tabled : {rungs : List Rung} {size : ℕ} {table : List Row} {bytes : ℕ} → map row_of rungs ≡ table → size ≡ bytes → Tabled rungs size table bytes
tabled {rungs} {size} {table} {bytes} rows same =
    subst (λ t. Tabled rungs size t bytes) rows
    (subst (Tabled rungs size (map row_of rungs)) same (record { answer = ladder_tabled rungs size; code = told rungs size }))

-- a number from 2 on is no part's
part_asked : (part : ℕ) → not (is_part part) ≡ ltb 1 part
part_asked zero = refl
part_asked (suc zero) = refl
part_asked (suc (suc part)) =
    rw (ne_eqb (suc (suc part)) 0 (omega arith), ne_eqb (suc (suc part)) 1 (omega arith), lt-ltb 1 (suc (suc part)) (omega arith))

-- ---- request by request

write : (first : ℕ) (nibbles : List ℕ) (room : ℕ)
    → Tabled (write_refusals first nibbles room) (length (write_stream first nibbles)) (write_table first nibbles room) (21 + 8 * length nibbles)
write first nibbles room = tabled (rw (write_length first nibbles) refl) (write_length first nibbles)

read : (first count room : ℕ)
    → Tabled (read_refusals first count room) (length (read_stream first count)) (read_table first count room) (21 + 8 * count)
read first count room = tabled (rw (read_length first count) refl) (read_length first count)

commands : (part : ℕ) (codes : List ℕ) (room : ℕ)
    → Tabled (command_refusals part codes room) (length (command_stream codes)) (command_table part codes room) (9 + 18 * length codes)
commands part codes room = tabled (rw (commands_length codes, part_asked part) refl) (commands_length codes)

decode : (noted : List ℕ) (room : ℕ)
    → Tabled (decode_refusals noted room) (length (decoded noted)) (decode_table noted room) (length noted / 4)
unfolding miscounted
decode noted room = tabled (rw (decoded_length noted) refl) (decoded_length noted)

power_on_lem : (part : ℕ) (memory : List ℕ) (room : ℕ) → Tabled (record_refusals part memory room) 64 (power_on_table part memory room) 64
power_on_lem part memory room = tabled (rw (part_asked part) refl) refl

pub accepted : Accepted
unfolding write_returns read_returns commands_returns decode_returns power_on_returns step_returns advance_returns pins_returns write_answer read_answer command_answer decode_answer power_on_answer
accepted =
    record {
      write = λ first nibbles room. (write first nibbles room).answer;
      read = λ first count room. (read first count room).answer;
      commands = λ part codes room. (commands part codes room).answer;
      decode = λ noted room. (decode noted room).answer;
      power_on = λ part memory room. (power_on_lem part memory room).answer;
      write_call = λ first nibbles out. (write first nibbles (length out)).code;
      read_call = λ first count out. (read first count (length out)).code;
      commands_call = λ part codes out. (commands part codes (length out)).code;
      decode_call = λ noted out. (decode noted (length out)).code;
      power_on_call = λ part memory bytes. (power_on_lem part memory (length bytes)).code;
      step = λ bytes sample. refl;
      advance = λ bytes. refl;
      pins = λ bytes cells. refl;
    }

-- which range was wrong: the row that holds, past those that do not
pub which_range : WhichRange
which_range =
    record {
      write_address = λ first nibbles room above some.
          (accepted.write first nibbles room).refused (_ ∷ []) _ _ refl (none (length nibbles) some, tt) (lt-ltb 31 first above);
      read_address = λ first count room above some.
          (accepted.read first count room).refused (_ ∷ []) _ _ refl (none count some, tt) (lt-ltb 31 first above);
      write_end = λ first nibbles room good past.
          (accepted.write first nibbles room).refused (_ ∷ _ ∷ []) _ _ refl
          (none (length nibbles) (omega arith), (le-ltb 31 first good, tt)) (lt-ltb 32 (first + length nibbles) past);
      read_end = λ first count room good past.
          (accepted.read first count room).refused (_ ∷ _ ∷ []) _ _ refl (none count (omega arith), (le-ltb 31 first good, tt))
          (lt-ltb 32 (first + count) past);
      commands_many = λ part codes room known many.
          (accepted.commands part codes room).refused (_ ∷ _ ∷ []) _ _ refl
          (le-ltb 1 part known, (none (length codes) (omega arith), tt)) (lt-ltb 32 (length codes) many);
    }
  where
    none : (count : ℕ) → 0 < count → eqb count 0 ≡ false
    none count some = ne_eqb count 0 (omega arith)
