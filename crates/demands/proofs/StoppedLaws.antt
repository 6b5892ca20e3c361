-- The law of a stopped write: what is computed of its levels, in the words of the statement; and what follows for a write that is
-- not stopped. Assumes nothing.
use mathlib.Core.Path.{◌≡◌, ◌∙◌, refl, sym, ap, ap₂, subst}
use mathlib.Core.Bool.{Bool, true, false, cond}
use mathlib.Core.List.{List, [], ◌∷◌, ◌++◌, map}
use Prim.Native.Nat.{ℕ, zero, suc, ◌+◌, ◌-◌, ◌*◌, ◌/◌, ◌≤◌, min}
use native.Mathlib.Omega.{arith}
use Rattle.ground.specs.declared.Part.{Part}
use lib.Dec.{leb}
use lib.ListN.{length, get_or, take, drop, length-take, get_or-map, get_or-eq_default}
use lib.Seq.{sets, sets-eq, paste, paste-zero, take_all}
use borrow.Author.Tests.{leb-true, leb-false}
use Rattle.ground.specs.Sizes.{addresses}
use Rattle.lines.specs.declared.Levels.{Levels}
use Rattle.answers.specs.declared.Answer.{Answer}
use Rattle.lines.specs.Samples.{levels}
use Rattle.port.specs.declared.Port.{Port}
use Rattle.chip.specs.declared.Chip.{Chip}
use Rattle.chip.specs.Valid.{Valid}
use Rattle.streams.specs.Streams.{write_stream}
use Rattle.streams.proofs.StreamsLaws.{write_length}
use Rattle.demands.specs.Accepted.{AcceptsWrite}
use Rattle.demands.specs.Demand3.{completing, completed}
use Rattle.demands.specs.Events.{Event, after, samples, answers}
use Rattle.demands.specs.Stopped.{stopped_port, first_answer, nibble_answers, write_answers, StoppedWrites}
use Rattle.demands.proofs.AcceptedLaws.{Fit, accepted_write}
use Rattle.demands.proofs.CutLaws.{rest_l, write_l, standing, after_first}
use Rattle.demands.proofs.Ports.{Sixteen, run_p, trace, idle, high, run_opened, trace_opened, after_port, after_answers}
use Rattle.demands.proofs.StreamLevels.{nibbles_l, write_levels, write_sixteen, take_sixteen, map_take}

-- ---- the memory, as the statements have it

-- the count of completed nibbles, as a quotient
completed_is : (n k : ℕ) → completed n k ≡ min ((k - 20) / 8) n
unfolding completed
completed_is zero k = omega arith
completed_is (suc n) k = count (leb (completing (suc n)) k) (completed n k) refl (completed_is n k)
  where
    count : (b : Bool) (done : ℕ) → leb (completing (suc n)) k ≡ b → done ≡ min ((k - 20) / 8) n
        → cond b 1 0 + done ≡ min ((k - 20) / 8) (suc n)
    count true done e ih = omega (arith, leb-true (completing (suc n)) k e)
    count false done e ih = omega (arith, leb-false (completing (suc n)) k e)

pub completed_most : (n k : ℕ) → completed n k ≤ n
completed_most n k = omega (arith, completed_is n k)

completed_all : (n k : ℕ) → 20 + 8 * n ≤ k → completed n k ≡ n
completed_all n k h = omega (arith, completed_is n k)

take_taken : (x : ℕ) (ns : List ℕ) → take (length (take x ns)) ns ≡ take x ns
take_taken zero ns = refl
take_taken (suc x) [] = refl
take_taken (suc x) (n ∷ ns) = ap (λ (l : List ℕ). n ∷ l) (take_taken x ns)

-- one store after another is one paste
sets_paste : (m : List ℕ) (first x : ℕ) (ns : List ℕ) → first + length ns ≤ length m
    → sets m first (take x ns) ≡ paste m first ns (min x (length ns))
sets_paste m first x ns h =
    let e = length-take x ns in
    sets-eq (take x ns) m first (omega arith)
    ∙ ap (λ (l : List ℕ). take first m ++ l ++ drop (first + length (take x ns)) m) (sym (take_taken x ns))
    ∙ ap (paste m first ns) e

-- ---- the law

-- of a port that is fed levels
pub write_stopped : (part : Part) (p : Port) (first : ℕ) (ns : List ℕ) (k : ℕ) → length p.memory ≡ addresses → Fit first ns
    → (run_p p (take k (write_l first ns)) ≡ stopped_port p first ns k)
    × (trace part p (take k (write_l first ns)) ≡ take k (write_answers p first ns))
write_stopped part p first ns zero size fit = (refl, refl)
write_stopped part p first ns (suc k) size fit =
    let rest = take k (rest_l first ++ nibbles_l ns) in
    let cut = after_first part p.memory first ns fit k in (
      run_opened p rest ∙ cut.0 ∙ ap₂ (standing first ns (suc k)) memory last,
      trace_opened p part rest ∙ ap (λ (answers : List Answer). first_answer p ∷ answers) cut.1,
    )
  where
    memory : sets p.memory first (take ((suc k - 20) / 8) ns) ≡ paste p.memory first ns (completed (length ns) (suc k))
    memory =
        sets_paste p.memory first ((suc k - 20) / 8) ns (omega (arith, size, fit.inside))
        ∙ ap (paste p.memory first ns) (sym (completed_is (length ns) (suc k)))

    last : get_or (write_l first ns) k high ≡ levels (get_or (write_stream first ns) k 15)
    last = ap (λ (ls : List Levels). get_or ls k high) (sym (write_levels first ns)) ∙ get_or-map levels (write_stream first ns) k 15

-- of a chip, with ticks anywhere
pub stopped_writes : StoppedWrites
stopped_writes c first ns k es valid accepts e =
    let part = c.settings.part in
    let law = write_stopped part c.port first ns k valid.port.size (accepted_write first ns accepts) in
    (after_port c es small ∙ ap (run_p c.port) fed ∙ law.0, after_answers c es small ∙ ap (trace part c.port) fed ∙ law.1)
  where
    small : Sixteen (samples es)
    small = subst Sixteen (sym e) (take_sixteen k (write_stream first ns) (write_sixteen first ns))

    fed : map levels (samples es) ≡ take k (write_l first ns)
    fed = ap (map levels) e ∙ map_take k (write_stream first ns) ∙ ap (take k) (write_levels first ns)

-- ---- what follows from it

-- the memory, also before the first sample
pub stopped_memory : (p : Port) (first : ℕ) (ns : List ℕ) (k : ℕ)
    → (stopped_port p first ns k).memory ≡ paste p.memory first ns (completed (length ns) k)
stopped_memory p first ns zero =
    let none : 0 ≡ completed (length ns) 0 = omega (arith, completed_is (length ns) 0) in
    paste-zero p.memory first ns ∙ ap (paste p.memory first ns) none
stopped_memory p first ns (suc k) = refl

nibbles_answered : (at : ℕ) (ns : List ℕ) → length (nibble_answers at ns) ≡ 1 + 8 * length ns
nibbles_answered at [] = refl
nibbles_answered at (n ∷ ns) = let h = nibbles_answered (at + 1) ns in omega arith

-- a write that is not stopped
pub write_whole : (c : Chip) (first : ℕ) (ns : List ℕ) (es : List Event) → Valid c → AcceptsWrite first ns → samples es ≡ write_stream first ns
    → ((after c es).port ≡ idle (paste c.port.memory first ns (length ns)) high) × (answers c es ≡ write_answers c.port first ns)
write_whole c first ns es valid accepts e =
    let long = write_length first ns in
    let past = suc (length (write_stream first ns)) in
    let law = stopped_writes c first ns past es valid accepts (e ∙ sym (take_all past (write_stream first ns) (omega arith))) in
    let end = ap levels (get_or-eq_default (write_stream first ns) 15 {n = length (write_stream first ns)} (omega arith)) in
    let all = completed_all (length ns) past (omega arith) in (
      law.0 ∙ ap₂ (λ (count : ℕ) (now : Levels). standing first ns past (paste c.port.memory first ns count) now) all end,
      law.1 ∙ take_all past (write_answers c.port first ns) (omega (arith, nibbles_answered first ns)),
    )
