-- RULES "Driver streams", how long streams are: the numbers that the laws of their lengths cite. Assumes nothing.
use Rattle.std.specs.Prelude.{ℕ}

-- A write or a read has 21 samples beside its nibbles, and 8 for each nibble.
abbrev pub transfer_frame : ℕ
transfer_frame = 21

abbrev pub nibble_samples : ℕ
nibble_samples = 8

-- Commands have 9 samples beside them, and 18 for each.
abbrev pub command_frame : ℕ
command_frame = 9

abbrev pub command_samples : ℕ
command_samples = 18

-- Four noted bytes make a nibble.
abbrev pub nibble_notes : ℕ
nibble_notes = 4
