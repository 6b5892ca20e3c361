-- Calls on the record of a valid chip are events on the chip: they leave the record of the chip after them, return the numbers
-- of its answers, and note what it drives. Assumes nothing.
use mathlib.Core.Path.{◌≡◌, ◌∙◌, refl, sym, ap, ap₂, subst}
use mathlib.Core.Bool.{true, false}
use mathlib.Core.List.{List, [], ◌∷◌, map}
use Prim.Native.Nat.{ℕ, ◌≤◌}
use lib.Dec.{ltb}
use borrow.Author.Tests.{le-ltb, ltb-true}
use Rattle.ground.proofs.ChoiceLaws.{by_cases}
use Rattle.lines.specs.declared.Levels.{Levels}
use Rattle.phases.specs.declared.Line.{Line}
use Rattle.phases.specs.declared.Line.TheVariants.{Released, Driven}
use Rattle.lines.specs.Samples.{levels}
use Rattle.phases.specs.Phases.{unfinished, line_number}
use Rattle.chip.specs.declared.Chip.{Chip}
use Rattle.chip.specs.declared.Stepped.{Stepped}
use Rattle.chip.specs.Chip.{stepped, advanced}
use Rattle.chip.specs.Valid.{Valid}
use Rattle.chip.proofs.ValidLaws.{stepped_valid, refused_keeps, advanced_valid}
use Rattle.ground.specs.Written.{byte}
use Rattle.phases.specs.Frame.{frame_at}
use Rattle.state.specs.Record.{tail_of, record_of}
use Rattle.state.proofs.BytesLaws.{byte_past}
use Rattle.state.proofs.ChipLaws.{chip_valid, chip_again}
use Rattle.lines.proofs.SamplesLaws.{levels_back}
use Rattle.simulator.specs.Simulator.{answer_code, step_returns, step_bytes, advance_bytes}
use Rattle.demands.specs.Events.{after, answers, data_number, notes}
use Rattle.demands.specs.Calls.{Call, step, advance, after_calls, events_of, sent, returns, data_noted, noted}
use Rattle.demands.proofs.EventsLaws.{after_pause, answers_pause, notes_pause, samples_pause}
use Rattle.demands.proofs.Ports.{Sixteen}

-- ---- the bytes of a valid chip

module _ (c : Chip) (v : Valid c) where
  lines_byte : levels (byte (record_of c) frame_at) ≡ c.port.levels
  unfolding tail_of
  lines_byte = ap levels (byte_past c v.port.size 0) ∙ levels_back c.port.levels

  pub cs_byte : (levels (byte (record_of c) frame_at)).cs ≡ c.port.levels.cs
  cs_byte = ap (λ (l : Levels). l.cs) lines_byte

  rd_byte : (levels (byte (record_of c) frame_at)).rd ≡ c.port.levels.rd
  rd_byte = ap (λ (l : Levels). l.rd) lines_byte

  pub count_byte : byte (record_of c) 34 ≡ unfinished c.port.phase
  unfolding tail_of
  count_byte = byte_past c v.port.size 2

  data_byte : byte (record_of c) 39 ≡ line_number c.port.line
  unfolding tail_of
  data_byte = byte_past c v.port.size 7

  data_noted_lem : data_noted (byte (record_of c) 39) ≡ data_number c.port.line
  data_noted_lem = ap data_noted data_byte ∙ by c.port.line
    where
      by : (line : Line) → data_noted (line_number line) ≡ data_number line
      by Released = refl
      by (Driven true) = refl
      by (Driven false) = refl

  -- ---- one call

  step_leaves : (s : ℕ) → step_bytes (record_of c) s ≡ record_of (stepped c s).chip
  unfolding step_bytes
  step_leaves s =
      simp (chip_valid c v, chip_again c v.port.size)
      (by_cases (λ bytes. bytes ≡ record_of (stepped c s).chip) (ltb 15 s)
      (λ e. ap (λ (r : Stepped). record_of r.chip) (sym (refused_keeps c s (ltb-true 15 s e)))) (λ e. refl))

  step_tells : (s : ℕ) → s ≤ 15 → step_returns (record_of c) s ≡ answer_code (stepped c s).answer
  unfolding step_returns
  step_tells s h = simp (chip_valid c v, chip_again c v.port.size, le-ltb 15 s h)

  pub advance_leaves : (n : ℕ) → advance_bytes (record_of c) n ≡ record_of (advanced n c)
  unfolding advance_bytes
  advance_leaves n = simp (chip_valid c v, chip_again c v.port.size)

-- ---- some calls

pub calls_leave : (c : Chip) (calls : List Call) → Valid c → after_calls (record_of c) calls ≡ record_of (after c (events_of calls))
calls_leave c [] v = refl
calls_leave c (step s ∷ calls) v =
    ap (λ (b : List ℕ). after_calls b calls) (step_leaves c v s) ∙ calls_leave (stepped c s).chip calls (stepped_valid c s v)
calls_leave c (advance n ∷ calls) v =
    ap (λ (b : List ℕ). after_calls b calls) (advance_leaves c v n)
    ∙ calls_leave (advanced n c) calls (advanced_valid n c v)
    ∙ ap record_of (sym (after_pause n c (events_of calls)))

pub calls_tell : (c : Chip) (calls : List Call) → Valid c → Sixteen (sent calls)
    → returns (record_of c) calls ≡ map answer_code (answers c (events_of calls))
calls_tell c [] v h = refl
calls_tell c (step s ∷ calls) v h =
    ap₂ ◌∷◌ (step_tells c v s h.0)
    (ap (λ (b : List ℕ). returns b calls) (step_leaves c v s) ∙ calls_tell (stepped c s).chip calls (stepped_valid c s v) h.1)
calls_tell c (advance n ∷ calls) v h =
    ap (λ (b : List ℕ). returns b calls) (advance_leaves c v n)
    ∙ calls_tell (advanced n c) calls (advanced_valid n c v) (subst Sixteen (samples_pause n (events_of calls)) h)
    ∙ ap (map answer_code) (sym (answers_pause n c (events_of calls)))

pub calls_note : (c : Chip) (calls : List Call) → Valid c → noted (record_of c) calls ≡ notes c (events_of calls)
calls_note c [] v = refl
calls_note c (step s ∷ calls) v =
    let next = stepped_valid c s v in
    simp (step_leaves c v s, rd_byte c v, data_noted_lem (stepped c s).chip next, calls_note (stepped c s).chip calls next)
calls_note c (advance n ∷ calls) v =
    ap (λ (b : List ℕ). noted b calls) (advance_leaves c v n)
    ∙ calls_note (advanced n c) calls (advanced_valid n c v)
    ∙ sym (notes_pause n c (events_of calls))
