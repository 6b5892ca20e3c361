-- What a request that the driver accepts has passed: no row of its table held. Assumes nothing.
use Rattle.std.specs.Prelude.{Ok}
use mathlib.Core.Path.{◌≡◌, ◌∙◌, refl, sym, ap}
use mathlib.Core.Bool.{true, false}
use mathlib.Core.List.{List, [], ◌∷◌}
use Prim.Native.Nat.{ℕ, suc, ◌+◌, ◌*◌, ◌≤◌, ◌<◌, suc-le-suc, zero-le}
use native.Mathlib.Decide.{dec_lt}
use native.Mathlib.Nat.{zero-add}
use native.Mathlib.Omega.{arith}
use lib.Dec.{ltb}
use lib.ListN.{length, take, get_or}
use borrow.Author.Tests.{ltb-false, eqb-false, lt-ltb, le-ltb}
use Rattle.ground.specs.declared.Part.{Part}
use Rattle.ground.specs.declared.Part.TheVariants.{Ht}
use Rattle.ground.specs.Parts.{part_number}
use Rattle.ground.proofs.PartsLaws.{part_back}
use Rattle.ground.specs.Places.{lowest}
use Rattle.ground.specs.Sizes.{addresses}
use Rattle.ground.specs.Written.{over}
use Rattle.ground.proofs.WrittenLaws.{take_over}
use Rattle.ground.proofs.PlacesLaws.{lowest_below, none_above}
use Rattle.commands.specs.Commands.{code_meaning}
use Rattle.port.specs.Valid.{Nibbles}
use Rattle.port.proofs.ValidLaws.{nibbles_from}
use Rattle.ground.specs.Outcomes.{Outcome, left}
use Rattle.driver.specs.Refusals.{nibble_fault, command_fault, write_answer}
use Rattle.streams.specs.Streams.{write_stream, read_stream, command_stream}
use Rattle.streams.proofs.StreamsLaws.{write_length}
use Rattle.demands.specs.Accepted.{AcceptsWrite, AcceptsRead, AcceptsCommands}
use Rattle.demands.proofs.Accepted.{accepted}
use Rattle.demands.proofs.CommandLaws.{Defined}

-- a code above 255 has no meaning
defined_byte : (part : Part) (code : ℕ) → command_fault part code ≡ false → code < 256
unfolding command_fault code_meaning
defined_byte part code e = by (dec_lt code 256)
  where
    by : Dec (code < 256) → code < 256
    by (yes h) = h
    by (no h) =
        let past : ltb 511 (2 * code) ≡ true = lt-ltb 511 (2 * code) (omega arith) in
        let z : true ≡ false = simp past at e in
        let one : ◌≡◌ {A = ℕ} 0 1 = cc in let no : ⊥ = omega arith in absurd no

defined_from : (part : Part) (codes : List ℕ) → ((k : ℕ) → k < length codes → command_fault part (get_or codes k 0) ≡ false)
    → Defined part codes
defined_from part [] f = tt
defined_from part (code ∷ codes) f =
    let e = f 0 (suc-le-suc zero-le) in ((defined_byte part code e, e), defined_from part codes (λ k h. f (suc k) (suc-le-suc h)))

-- ---- a write

pub record Fit (first : ℕ) (ns : List ℕ) : Type 0 where
  pub some : 0 < length ns
  pub inside : first + length ns ≤ addresses
  pub nibbles : Nibbles ns

pub accepted_write : (first : ℕ) (ns : List ℕ) → AcceptsWrite first ns → Fit first ns
accepted_write first ns e =
    let none = (accepted.write first ns (length (write_stream first ns))).accepted_only _ e in
    record {
      some = omega (arith, eqb-false (length ns) 0 none.0);
      inside = ltb-false addresses (first + length ns) none.1.1.0;
      nibbles = nibbles_from ns (none_above 15 ns (ltb-false (lowest nibble_fault ns) (length ns) none.1.1.1.0));
    }

-- a success reports the stream's length, and there was room for it
pub written_fits : (first : ℕ) (ns : List ℕ) (room count : ℕ) → write_answer first ns room ≡ Ok count
    → (count ≡ length (write_stream first ns)) × (length (write_stream first ns) ≤ room)
written_fits first ns room count e =
    let none = (accepted.write first ns room).accepted_only count e in
    let size : ◌≡◌ {A = Outcome} (Ok (21 + 8 * length ns)) (Ok count) = sym ((accepted.write first ns room).accepted none) ∙ e in
    let long = write_length first ns in
    (counted size ∙ sym long, omega (arith, long, ltb-false room (21 + 8 * length ns) none.1.1.1.1.0))
  where
    counted : {n m : ℕ} → ◌≡◌ {A = Outcome} (Ok n) (Ok m) → m ≡ n
    counted same = cc

-- and what is accepted in some room is accepted in just enough
pub accepted_enough : (first : ℕ) (ns : List ℕ) (room count : ℕ) → write_answer first ns room ≡ Ok count → AcceptsWrite first ns
accepted_enough first ns room count e =
    let none = (accepted.write first ns room).accepted_only count e in
    let long = write_length first ns in
    let just : ltb (length (write_stream first ns)) (21 + 8 * length ns) ≡ false = le-ltb (length (write_stream first ns)) (21 + 8 * length ns) (omega (arith, long)) in
    (accepted.write first ns (length (write_stream first ns))).accepted (none.0, (none.1.0, (none.1.1.0, (none.1.1.1.0, (just, tt))))) ∙ ap Ok (sym long)

-- ---- a read

pub accepted_read : (first count : ℕ) → AcceptsRead first count → (0 < count) × (first + count ≤ addresses)
accepted_read first count e =
    let none = (accepted.read first count (length (read_stream first count))).accepted_only _ e in
    (omega (arith, eqb-false count 0 none.0), ltb-false addresses (first + count) none.1.1.0)

-- ---- commands

pub accepted_commands : (part : Part) (codes : List ℕ) → AcceptsCommands (part_number part) codes → Defined part codes
accepted_commands part codes e =
    let none = (accepted.commands (part_number part) codes (length (command_stream codes))).accepted_only _ e in
    let same = (part_back Ht part).1 in
    let clean = ltb-false (lowest (command_fault part) codes) (length codes) (rw same at none.1.1.1.0) in
    defined_from part codes (λ k h. lowest_below (command_fault part) codes k (command_fault part (get_or codes k 0)) refl (omega arith))

-- ---- what stands in the buffer

-- a call that succeeds leaves the stream, and nothing but it, in as many bytes as it reports
pub buffer_holds : (stream buffer : List ℕ) (count : ℕ) → length stream ≤ length buffer
    → take (length stream) (left (Ok count) stream buffer) ≡ stream
buffer_holds stream buffer count h =
    ap (λ (n : ℕ). take n (over buffer 0 stream)) (sym (zero-add (length stream)))
    ∙ take_over buffer stream 0 (omega arith)
