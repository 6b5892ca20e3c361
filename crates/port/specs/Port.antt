-- RULES "Samples", of a port: the memory, the levels last seen, the frame and DATA. Assumes nothing.
use Rattle.std.specs.Prelude.{ℕ, List, get_or, set}
use Rattle.lines.specs.declared.Levels.{Levels}
use Rattle.lines.specs.Samples.{edge}
use Rattle.phases.specs.Phases.{address}
use Rattle.frames.specs.declared.Upshot.{Upshot}
use Rattle.frames.specs.declared.Upshot.TheVariants.{Answered, Nibble, Code}
use Rattle.frames.specs.declared.Framed.{Framed}
use Rattle.frames.specs.Frames.{frame}
use Rattle.port.specs.declared.Port.{Port}
use Rattle.port.specs.declared.Moved.{Moved}

-- Of all that a sample can come to only a complete nibble changes the memory, and only at an address that the memory has: `set`
-- past the end of a list leaves it.
unfoldable pub memory_after : Upshot → List ℕ → List ℕ
memory_after (Answered answer) memory = memory
memory_after (Nibble at nibble) memory = set memory at nibble
memory_after (Code code) memory = memory

-- What the frame makes of a sample, by the levels before and after it and the nibble at the frame's address, which is 0 where the
-- memory has no such address.
unfoldable pub framed_by : Port → Levels → Framed
framed_by port new =
    frame (edge port.levels new) (get_or port.memory (address port.phase) 0) port.phase port.line

-- The port after it: the new levels are always stored.
abbrev pub moved_as : Port → Levels → Framed → Moved
moved_as port new framed =
    record {
      port =
          record {
            memory = memory_after framed.upshot port.memory;
            levels = new;
            phase = framed.phase;
            line = framed.line;
          };
      upshot = framed.upshot;
    }

unfoldable pub moved : Port → Levels → Moved
moved port new = moved_as port new (framed_by port new)
