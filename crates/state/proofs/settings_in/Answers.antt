-- `state::settings_in` meets its contract: length and memory decide, then the settings' ranges, the frame, the part, and the settings.
-- Assumes nothing.
use mathlib.Core.Path.{◌∙◌, sym}
use Rattle.state.proofs.RecordLaws.{settings_invalid, begins_fails, ranges_fail, frame_fails, part_fails, settings_whole}
use Rattle.state.proofs.settings_in.Goals as goal

pub returns-then-not-memory_right : goal.returns-then-not-memory_right
returns-then-not-memory_right c = settings_invalid _ (begins_fails _ (sym c.memory_right.ensures ∙ c.if-not-memory_right.true))

pub returns-then-not-in_range : goal.returns-then-not-in_range
returns-then-not-in_range c =
    settings_invalid _
    (ranges_fail _ (sym c.memory_right.ensures ∙ c.if-not-memory_right.false) (sym c.in_range.ensures ∙ c.if-not-in_range.true))

pub returns-then-not-holds_frame : goal.returns-then-not-holds_frame
returns-then-not-holds_frame c =
    settings_invalid _
    (frame_fails _ (sym c.memory_right.ensures ∙ c.if-not-memory_right.false) (sym c.holds_frame.ensures ∙ c.if-not-holds_frame.true))

pub returns-in_default : goal.returns-in_default
returns-in_default c =
    settings_invalid _
    (part_fails _ (sym c.memory_right.ensures ∙ c.if-not-memory_right.false) (sym c.part_of.ensures ∙ c.in_default.is))

pub returns : goal.returns
returns c =
    simp c.scan_in.ensures at c.settings_from.ensures
    ∙ settings_whole c.args.bytes.now (sym c.memory_right.ensures ∙ c.if-not-memory_right.false)
    (sym c.in_range.ensures ∙ c.if-not-in_range.false) _ (sym c.part_of.ensures ∙ c.in-Some.is)
    (sym c.holds_frame.ensures ∙ c.if-not-holds_frame.false)
