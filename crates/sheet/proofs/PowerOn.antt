-- Power-on in bytes: no rung of its ladder refuses, and what it hands out is written as the bytes that the rules give.
-- Assumes nothing.
use Rattle.std.specs.Prelude.{Ok}
use mathlib.Core.Path.{◌≡◌, refl, sym, ap}
use mathlib.Core.Bool.{Bool, true, false, not}
use mathlib.Core.List.{List, [], ◌∷◌}
use Prim.Native.Nat.{ℕ, suc, ◌+◌, ◌≤◌, ◌<◌}
use native.Mathlib.Omega.{arith}
use lib.Dec.{eqb, ltb}
use lib.ListN.{length, get_or}
use borrow.Author.Tests.{le-ltb, eq-eqb}
use Rattle.ground.specs.declared.Part.TheVariants.{Ht}
use Rattle.ground.specs.Parts.{part_number, parts, is_part}
use Rattle.ground.proofs.CodesLaws.{case_of_again}
use Rattle.ground.specs.Places.{lowest, somewhere}
use Rattle.power.specs.PowerOn.{powered_on}
use Rattle.state.specs.Record.{record_of, tail_of}
use Rattle.host.specs.Host.{host_code, power_on_record, power_on_answer, power_on_returns, power_on_bytes}
use Rattle.host.proofs.HostLaws.{power_on_size}
use Rattle.ground.proofs.PartsLaws.{part_right}
use Rattle.sheet.specs.PowerOn.{fresh_record, PowersOn, PowerOnSheet}

-- where no value is above the limit, the search passes them all
passes : (limit : ℕ) (values : List ℕ) → ((i : ℕ) → i < length values → get_or values i 0 ≤ limit) → lowest (ltb limit) values ≡ length values
passes limit [] low = refl
passes limit (value ∷ values) low =
    rw (le-ltb limit value (low 0 (omega arith))) (ap suc (passes limit values (λ i h. low (suc i) (omega arith))))

-- what is not refused with 43 is a part
known_part : (t : Bool) → not t ≡ false → t ≡ true
known_part true e = refl
known_part false e = sym e

module _ (part : ℕ) (memory : List ℕ) (known : not (is_part part) ≡ false) (long : not (eqb (length memory) 32) ≡ false)
    (clean : somewhere (ltb 15) memory ≡ false) where
  pub fresh : power_on_record part memory ≡ fresh_record part memory
  unfolding power_on_record powered_on record_of tail_of
  fresh =
      rw (known, long, clean)
      (ap (λ (n : ℕ). fresh_record n memory) (case_of_again part_number Ht part parts (known_part (is_part part) known)))

  module _ (bytes : List ℕ) (room : 64 ≤ length bytes) where
    answer : power_on_answer part memory (length bytes) ≡ Ok 64
    unfolding power_on_answer
    answer = rw (known, long, clean, le-ltb (length bytes) 64 room)

    powers_on : PowersOn part memory bytes
    unfolding power_on_returns power_on_bytes host_code
    powers_on =
        let all : 0 + length (power_on_record part memory) ≡ 64 = omega (arith, power_on_size part memory) in
        record { returned = rw answer; left = rw (answer, all, fresh) }

pub power_on_sheet : PowerOnSheet
power_on_sheet part memory bytes one size low room =
    let long : not (eqb (length memory) 32) ≡ false = rw (eq-eqb (length memory) 32 size) in
    let most = passes 15 memory (λ i h. low i (omega (arith, size))) in
    powers_on part memory (rw (part_right part one)) long (le-ltb (lowest (ltb 15) memory) (length memory) (omega (arith, most))) bytes room
