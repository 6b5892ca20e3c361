-- `transcript::put_lines` meets its contract: at each turn the bytes so far are listed, and what is left goes after them.
-- Assumes nothing.
use mathlib.Core.Path.{◌∙◌, sym}
use native.Mathlib.Omega.{arith}
use Rattle.transcript.proofs.ListLaws.{going_steps, going_counts, going_skips, going_stops, going_ends}
use Rattle.transcript.proofs.put_lines.Goals as goal
use Rattle.transcript.proofs.put_lines.Goals.{in-Sample, in-Tick, in-Skipped}

pub returns-in-Bad : goal.returns-in-Bad
returns-in-Bad c =
    going_stops c.loop-offset.invariant (omega arith) (sym c.in-Bad.is ∙ c.classify.ensures) c.put_bad.ensures

pub loop-offset-preserved : goal.loop-offset-preserved
loop-offset-preserved c =
    let g : _ = c.loop-offset.invariant in
    elim c.match-classify.branch [
      | in-Sample w ↦
          rw (w.out-is, w.chip-is, w.at-is, w.samples-is, w.ticks-is)
          (going_steps g _ w.step-stepped.result w.step-stepped.ensures (omega arith)
          (sym w.in-Sample.is ∙ c.classify.ensures) w.put_answer-at.ensures c.requires.1)
      | in-Tick w ↦
          rw (w.out-is, w.chip-is, w.at-is, w.samples-is, w.ticks-is)
          (going_counts g w.tick-chip.result w.tick-chip.ensures (omega arith) (sym w.in-Tick.is ∙ c.classify.ensures))
      | in-Skipped w ↦
          rw (w.out-is, w.chip-is, w.at-is, w.samples-is, w.ticks-is)
          (going_skips g (omega arith) (sym w.in-Skipped.is ∙ c.classify.ensures))
    ]

pub returns : goal.returns
returns c = going_ends c.loop-offset.invariant (omega arith) c.put_end.ensures
