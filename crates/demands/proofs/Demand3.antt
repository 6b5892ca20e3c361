-- Demand 3 holds: memory and settings by the law of a stopped write, the resend because the same values are written over
-- themselves, and the read-back by the laws of a read. Assumes nothing.
use mathlib.Core.Path.{◌≡◌, ◌∙◌, sym, ap, ap₂, subst}
use mathlib.Core.List.{List, ◌++◌, append_assoc, map}
use Prim.Native.Nat.{ℕ, ◌+◌, ◌-◌, ◌≤◌}
use native.Mathlib.Omega.{arith}
use lib.ListN.{length, take, drop}
use lib.Seq.{paste, take-length, take_at, drop_at, drop-drop, drop-paste, length-take-le}
use Rattle.lines.specs.Samples.{levels}
use Rattle.port.specs.declared.Port.{Port}
use Rattle.chip.specs.declared.Chip.{Chip}
use Rattle.streams.specs.Streams.{write_stream, read_stream}
use Rattle.demands.specs.Events.{Event, after, samples, notes, ReadsAs}
use Rattle.demands.specs.Demand3.{completed, Demand3}
use Rattle.demands.specs.Stopped.{write_answers}
use Rattle.demands.proofs.AcceptedLaws.{Fit, accepted_write}
use Rattle.demands.proofs.EventsLaws.{after_valid}
use Rattle.demands.proofs.NotesLaws.{bits_read}
use Rattle.demands.proofs.Ports.{Sixteen}
use Rattle.demands.proofs.ReadLaws.{notes_l, after_notes, read_noted}
use Rattle.demands.proofs.SettingsLaws.{Plain, take_plain, plain_settings, write_plain}
use Rattle.demands.proofs.StoppedLaws.{stopped_writes, stopped_memory, completed_most, write_whole}
use Rattle.demands.proofs.StreamLevels.{read_levels, write_sixteen, read_sixteen, take_sixteen}

-- ---- values pasted over a memory that holds some of them

module _ (m : List ℕ) (first : ℕ) (ns : List ℕ) (inside : first + length ns ≤ length m) where
  -- before and after them nothing has changed
  take_pasted : (x : ℕ) → take first (paste m first ns x) ≡ take first m
  take_pasted x =
      ap (take first) (append_assoc (take first m) (take x ns) (drop (first + x) m))
      ∙ take_at (take first m) (take x ns ++ drop (first + x) m) first (length-take-le first m (omega arith))

  drop_pasted : (x : ℕ) → x ≤ length ns → drop (first + length ns) (paste m first ns x) ≡ drop (first + length ns) m
  drop_pasted x most =
      let far : first + length ns ≡ first + x + (length ns - x) = omega arith in
      ap (λ (n : ℕ). drop n (paste m first ns x)) far
      ∙ sym (drop-drop (length ns - x) (first + x) (paste m first ns x))
      ∙ ap (drop (length ns - x)) (drop-paste m first ns x (omega arith) most)
      ∙ drop-drop (length ns - x) (first + x) m
      ∙ ap (λ (n : ℕ). drop n m) (sym far)

  paste_again : (x : ℕ) → x ≤ length ns → paste (paste m first ns x) first ns (length ns) ≡ paste m first ns (length ns)
  paste_again x most = ap₂ (λ (front back : List ℕ). front ++ take (length ns) ns ++ back) (take_pasted x) (drop_pasted x most)

  -- from the first of them on
  paste_from : drop first (paste m first ns (length ns)) ≡ ns ++ drop (first + length ns) m
  paste_from =
      ap (drop first) (append_assoc (take first m) (take (length ns) ns) (drop (first + length ns) m))
      ∙ drop_at (take first m) (take (length ns) ns ++ drop (first + length ns) m) first (length-take-le first m (omega arith))
      ∙ ap (λ (l : List ℕ). l ++ drop (first + length ns) m) (take-length ns)

-- ---- a read, with ticks anywhere

pub read_done : (c : Chip) (first : ℕ) (vs rest : List ℕ) (es : List Event) → Fit first vs → samples es ≡ read_stream first (length vs)
    → drop first c.port.memory ≡ vs ++ rest → ReadsAs (notes c es) vs
read_done c first vs rest es fit e m =
    subst (λ noted. ReadsAs noted vs)
    (sym (after_notes c es (subst Sixteen (sym e) (read_sixteen first (length vs)))
    ∙ ap (notes_l c.port) (ap (map levels) e ∙ read_levels first (length vs))
    ∙ read_noted c.port first vs rest fit m))
    (bits_read vs fit)

-- ---- the demand

pub demand3 : Demand3
demand3 c first ns k es valid accepts e =
    let law = stopped_writes c first ns k es valid accepts e in
    record {
      memory = at_stop;
      settings =
          plain_settings c es (subst Sixteen (sym e) (take_sixteen k (write_stream first ns) (write_sixteen first ns)))
          (subst Plain (sym law.1) (take_plain k (write_answers c.port first ns) (write_plain c.port first ns)));
      resent = mended;
      read_back = λ again back e₁ e₂.
          read_done (after (after c es) again) first ns (drop (first + length ns) m) back fit e₂
          (ap (drop first) (mended again e₁) ∙ paste_from m first ns inside);
    }
  where
    fit : Fit first ns
    fit = accepted_write first ns accepts

    m : List ℕ
    m = c.port.memory

    inside : first + length ns ≤ length m
    inside = omega (arith, valid.port.size, fit.inside)

    at_stop : (after c es).port.memory ≡ paste m first ns (completed (length ns) k)
    at_stop =
        ap (λ (p : Port). p.memory) (stopped_writes c first ns k es valid accepts e).0 ∙ stopped_memory c.port first ns k

    mended : (again : List Event) → samples again ≡ write_stream first ns → (after (after c es) again).port.memory ≡ paste m first ns (length ns)
    mended again e₁ =
        ap (λ (p : Port). p.memory) (write_whole (after c es) first ns again (after_valid c es valid) accepts e₁).0
        ∙ ap (λ (l : List ℕ). paste l first ns (length ns)) at_stop
        ∙ paste_again m first ns inside (completed (length ns) k) (completed_most (length ns) k)
