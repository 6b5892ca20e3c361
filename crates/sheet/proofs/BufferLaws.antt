-- What a call for a buffer leaves: where a rung of its ladder refuses it, every byte; past the last rung, which asks for room, it has
-- written the stream. Assumes nothing.
use Rattle.std.specs.Prelude.{Ok, Err}
use mathlib.Core.Path.{◌≡◌, ◌∙◌, refl, sym, ap}
use mathlib.Core.Bool.{false}
use mathlib.Core.List.{List, [], ◌∷◌}
use Prim.Native.Nat.{ℕ, ◌+◌, ◌≤◌}
use native.Mathlib.Omega.{arith}
use lib.Dec.{ltb}
use lib.ListN.{length, take, drop}
use borrow.Author.Tests.{ltb-false}
use Rattle.ground.specs.declared.Refusal.{Refusal}
use Rattle.ground.specs.Outcomes.{Outcome, left, Rung, ladder}
use Rattle.ground.specs.Written.{over}
use Rattle.ground.proofs.ChoiceLaws.{by_cases}
use Rattle.ground.proofs.WrittenLaws.{length_over, take_over, drop_over}
use Rattle.streams.specs.Streams.{write_stream, read_stream, command_stream, decoded}
use Rattle.driver.specs.Refusals.{write_refusals, read_refusals, command_refusals, decode_refusals, write_answer, read_answer, command_answer, decode_answer}
use Rattle.host.specs.Host.{host_code, power_on_record, record_refusals, power_on_answer, power_on_returns, power_on_bytes}
use Rattle.host.specs.Host.{write_returns, write_bytes, read_returns, read_bytes, commands_returns, commands_bytes, decode_returns, decode_bytes}
use Rattle.host.proofs.CodesLaws.{Small, write_small, read_small, commands_small, decode_small}
use Rattle.host.proofs.HostLaws.{power_on_size, power_on_small}
use Rattle.sheet.specs.PowerOn.{fresh_record}
use Rattle.sheet.specs.Left.{BufferLeft}
use Rattle.sheet.proofs.PowerOn.{fresh}

module _ (stream written before : List ℕ) where
  -- what is left where a call comes to this, and what it then writes is the stream said in other words
  abbrev Left : Outcome → Type 0
  Left due = Small due → BufferLeft stream before (host_code due) (left due written before)

  refusal_leaves : (why : Refusal) → Left (Err why)
  unfolding host_code
  refusal_leaves why small =
      record {
        refusal = record { size = refl; kept = λ r. refl };
        success = λ below. let no : ⊥ = omega arith in absurd no;
      }

  success_leaves : (count : ℕ) → count ≡ length written → count ≤ length before → written ≡ stream → Left (Ok count)
  unfolding host_code
  success_leaves count all fits same small =
      let end : 0 + length written ≡ count = omega (arith, all) in
      let room : 0 + length written ≤ length before = omega (arith, all) in
      record {
        refusal = record { size = length_over before written 0 room; kept = λ above. let no : ⊥ = omega arith in absurd no };
        success = λ below.
            record {
              room = fits;
              start = ap (λ (n : ℕ). take n (over before 0 written)) (sym end) ∙ take_over before written 0 room ∙ same;
              rest =
                  ap (λ (n : ℕ). drop n (over before 0 written)) (sym end) ∙ drop_over before written 0 room
                  ∙ ap (λ (n : ℕ). drop n before) end;
            };
      }

  -- past the rungs, where none of their tests holds
  abbrev Past : List Rung → Type 0 → Type 0
  Past [] then = then
  Past (rung ∷ rungs) then = rung.holds ≡ false → Past rungs then

  ladder_leaves : (rungs : List Rung) (count : ℕ) → Past rungs (Left (Ok count)) → Left (ladder Err rungs (Ok count))
  ladder_leaves [] count past = past
  ladder_leaves (rung ∷ rungs) count past =
      by_cases Left rung.holds (λ holds. refusal_leaves rung.why) (λ fails. ladder_leaves rungs count (past fails))

-- the driver's calls: their last rung is that there is no room for the stream
fits_leaves : (stream out : List ℕ) → ltb (length out) (length stream) ≡ false → Left stream stream out (Ok (length stream))
fits_leaves stream out fits = success_leaves stream stream out (length stream) refl (ltb-false (length out) (length stream) fits) refl

pub write_leaves : (first : ℕ) (nibbles out : List ℕ)
    → BufferLeft (write_stream first nibbles) out (write_returns first nibbles out) (write_bytes first nibbles out)
unfolding write_returns write_bytes write_answer
write_leaves first nibbles out =
    let stream = write_stream first nibbles in
    ladder_leaves stream stream out (write_refusals first nibbles (length out)) (length stream)
    (λ some good inside clean. fits_leaves stream out) (write_small first nibbles (length out))

pub read_leaves : (first count : ℕ) (out : List ℕ) → BufferLeft (read_stream first count) out (read_returns first count out) (read_bytes first count out)
unfolding read_returns read_bytes read_answer
read_leaves first count out =
    let stream = read_stream first count in
    ladder_leaves stream stream out (read_refusals first count (length out)) (length stream)
    (λ some good inside. fits_leaves stream out) (read_small first count (length out))

pub commands_leave : (part : ℕ) (codes out : List ℕ)
    → BufferLeft (command_stream codes) out (commands_returns part codes out) (commands_bytes part codes out)
unfolding commands_returns commands_bytes command_answer
commands_leave part codes out =
    let stream = command_stream codes in
    ladder_leaves stream stream out (command_refusals part codes (length out)) (length stream)
    (λ known some few clean. fits_leaves stream out) (commands_small part codes (length out))

pub decode_leaves : (noted out : List ℕ) → BufferLeft (decoded noted) out (decode_returns noted out) (decode_bytes noted out)
unfolding decode_returns decode_bytes decode_answer
decode_leaves noted out =
    let stream = decoded noted in
    ladder_leaves stream stream out (decode_refusals noted (length out)) (length stream)
    (λ counted clean. fits_leaves stream out) (decode_small noted (length out))

pub power_on_leaves : (part : ℕ) (memory bytes : List ℕ)
    → BufferLeft (fresh_record part memory) bytes (power_on_returns part memory bytes) (power_on_bytes part memory bytes)
unfolding power_on_returns power_on_bytes power_on_answer
power_on_leaves part memory bytes =
    ladder_leaves (fresh_record part memory) (power_on_record part memory) bytes (record_refusals part memory (length bytes)) 64
    (λ known long clean fits.
    success_leaves (fresh_record part memory) (power_on_record part memory) bytes 64 (sym (power_on_size part memory))
    (ltb-false (length bytes) 64 fits) (fresh part memory known long clean)) (power_on_small part memory (length bytes))
