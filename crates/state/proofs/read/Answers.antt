-- `state::read` meets its contract: length and memory decide, then the settings' ranges, the frame, the part, and the settings.
-- Assumes nothing.
use mathlib.Core.Path.{◌∙◌, sym}
use Rattle.state.proofs.RecordLaws.{read_invalid, begins_fails, ranges_fail, frame_unread, part_fails, selections_fail, read_whole}
use Rattle.state.proofs.read.Goals as goal

pub returns-then-not-memory_right : goal.returns-then-not-memory_right
returns-then-not-memory_right c = read_invalid _ (begins_fails _ (sym c.memory_right.ensures ∙ c.if-not-memory_right.true))

pub returns-then-not-in_range : goal.returns-then-not-in_range
returns-then-not-in_range c =
    read_invalid _
    (ranges_fail _ (sym c.memory_right.ensures ∙ c.if-not-memory_right.false) (sym c.in_range.ensures ∙ c.if-not-in_range.true))

pub returns-in_default : goal.returns-in_default
returns-in_default c =
    read_invalid _
    (frame_unread _ (sym c.memory_right.ensures ∙ c.if-not-memory_right.false) (sym c.frame_in.ensures ∙ c.in_default.is))

pub returns-in_default-part_of : goal.returns-in_default-part_of
returns-in_default-part_of c =
    read_invalid _
    (part_fails _ (sym c.memory_right.ensures ∙ c.if-not-memory_right.false) (sym c.part_of.ensures ∙ c.in_default-part_of.is))

pub returns-in_default-settings_from : goal.returns-in_default-settings_from
returns-in_default-settings_from c =
    read_invalid _
    (selections_fail _ (sym c.memory_right.ensures ∙ c.if-not-memory_right.false)
    (sym c.in_range.ensures ∙ c.if-not-in_range.false) _ (sym c.part_of.ensures ∙ c.in-Some-part_of.is)
    (sym (simp c.scan_in.ensures at c.settings_from.ensures) ∙ c.in_default-settings_from.is))

pub returns : goal.returns
returns c =
    read_whole c.args.bytes.now (sym c.memory_right.ensures ∙ c.if-not-memory_right.false)
    (sym c.in_range.ensures ∙ c.if-not-in_range.false) _ (sym c.part_of.ensures ∙ c.in-Some-part_of.is) _ _ _
    (sym c.frame_in.ensures ∙ c.in-Some.is)
    (sym (simp c.scan_in.ensures at c.settings_from.ensures) ∙ c.in-Some-settings_from.is)
    (rw c.in_ok-memory.ensures.ok_part at c.first_chunk.ensures).cases.same
