-- Laws of a rehearsal: samples with a pause after each; and a rehearsal is a write that stops, so demand 3 holds
-- of the chip that it returns. Assumes nothing.
use Rattle.std.specs.Prelude.{fold, Ok}
use mathlib.Core.Path.{◌≡◌, ◌∙◌, refl, sym, ap, subst}
use mathlib.Core.List.{List, [], ◌∷◌}
use Prim.Native.Nat.{ℕ, ◌*◌, ◌≤◌}
use native.Mathlib.Omega.{arith}
use native.Mathlib.Nat.{suc-mul}
use lib.ListN.{length, take}
use Rattle.chip.specs.declared.Chip.{Chip}
use Rattle.chip.specs.Chip.{stepped, advanced}
use Rattle.ground.specs.Written.{over}
use Rattle.ground.proofs.WrittenLaws.{length_over}
use Rattle.ground.specs.Outcomes.{Outcome, left, ComesTo}
use Rattle.driver.specs.Refusals.{write_answer}
use Rattle.streams.specs.Streams.{write_stream}
use Rattle.demands.specs.Events.{after, samples, ticks}
use Rattle.demands.specs.Demand3.{Survives}
use Rattle.rehearsal.specs.Rehearsal.{paced, stopped, Rehearses, Demand3OfRehearsals}
use Rattle.demands.proofs.AcceptedLaws.{written_fits, accepted_enough, buffer_holds}
use Rattle.demands.proofs.Demand3.{demand3}
use Rattle.demands.proofs.EventsLaws.{after_pause, samples_pause, ticks_pause}

-- samples with a pause after each, one after the other
pub fed_by : (pause : ℕ) (ss : List ℕ) (c : Chip)
    → fold (λ now s. advanced pause (stepped now s).chip) c ss ≡ after c (paced pause ss)
fed_by pause [] c = refl
fed_by pause (s ∷ ss) c =
    fed_by pause ss (advanced pause (stepped c s).chip) ∙ sym (after_pause pause (stepped c s).chip (paced pause ss))

-- ---- demand 3 of a rehearsal

paced_samples : (pause : ℕ) (ss : List ℕ) → samples (paced pause ss) ≡ ss
paced_samples pause [] = refl
paced_samples pause (s ∷ ss) = ap (λ (l : List ℕ). s ∷ l) (samples_pause pause (paced pause ss) ∙ paced_samples pause ss)

paced_ticks : (pause : ℕ) (ss : List ℕ) → ticks (paced pause ss) ≡ length ss * pause
paced_ticks pause [] = omega arith
paced_ticks pause (s ∷ ss) =
    let h = paced_ticks pause ss in
    let more = suc-mul (length ss) pause in
    ticks_pause pause (paced pause ss) ∙ omega arith

pub rehearsed_survives : Demand3OfRehearsals
rehearsed_survives c first ns stop pause before r after' count valid did e =
    let fed = take stop (write_stream first ns) in
    let due : write_answer first ns (length before) ≡ Ok count = sym did.answer ∙ e in
    let end : after c (paced pause fed) ≡ r.chip =
    sym (did.end ∙ ap (λ (a : Outcome). stopped a c stop pause (write_stream first ns)) due) in
    subst (λ n. Survives c first ns stop n r.chip) (paced_ticks pause fed)
    (subst (Survives c first ns stop (ticks (paced pause fed))) end
    (demand3 c first ns stop (paced pause fed) valid (accepted_enough first ns (length before) count due) (paced_samples pause fed)))

-- ---- what the driver's call leaves, and what is fed

module _ (first : ℕ) (ns : List ℕ) {before after' : List ℕ} {r : Outcome}
    (did : ComesTo (write_answer first ns (length before)) (write_stream first ns) before r after') where
  -- a success: the stream stands at the start, and its length is what was reported
  pub written : {count : ℕ} → r ≡ Ok count
      → (write_answer first ns (length before) ≡ Ok count) × (count ≡ length (write_stream first ns))
      × (length (write_stream first ns) ≤ length before) × (after' ≡ over before 0 (write_stream first ns))
  written {count} e =
      let due : write_answer first ns (length before) ≡ Ok count = sym did.answer ∙ e in
      let fits = written_fits first ns (length before) count due in
      (due, fits.0, fits.1, did.bytes ∙ ap (λ (a : Outcome). left a (write_stream first ns) before) due)

  pub count_fits : {count : ℕ} → r ≡ Ok count → count ≤ length after'
  count_fits {count} e =
      let w = written e in
      let same : length after' ≡ length before = ap length w.3 ∙ length_over before (write_stream first ns) 0 (omega (arith, w.2)) in
      omega (arith, w.1, w.2)

  pub rehearses : {c end : Chip} {stop pause count : ℕ} → r ≡ Ok count
      → end ≡ after c (paced pause (take stop (take count after')))
      → Rehearses c first ns stop pause before (record { answer = Ok count; chip = end }) after'
  rehearses {c} {end} {stop} {pause} {count} e fed =
      let w = written e in
      record {
        answer = sym w.0;
        bytes = did.bytes;
        end =
            fed
            ∙ ap (λ (l : List ℕ). after c (paced pause (take stop l)))
            (ap (λ (n : ℕ). take n after') w.1
            ∙ ap (take (length (write_stream first ns))) w.3
            ∙ buffer_holds (write_stream first ns) before count w.2)
            ∙ ap (λ (a : Outcome). stopped a c stop pause (write_stream first ns)) (sym w.0);
      }
