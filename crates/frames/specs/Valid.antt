-- RULES "Inside a frame": what is stored is a nibble. Assumes nothing.
use Rattle.std.specs.Prelude.{◌<◌}
use Rattle.frames.specs.declared.Upshot.{Upshot}
use Rattle.frames.specs.declared.Upshot.TheVariants.{Answered, Nibble, Code}

-- What a sample can come to, if it stores anything, stores a nibble.
abbrev pub UpshotValid : Upshot → Type 0
UpshotValid (Answered answer) = Unit {0}
UpshotValid (Nibble at nibble) = nibble < 16
UpshotValid (Code code) = Unit {0}
