-- The numbers that RULES "State record and simulator" gives the clock's sources. Assumes nothing.
use Rattle.std.specs.Prelude.{ℕ}
use Rattle.clock.specs.declared.Source.{Source}
use Rattle.clock.specs.declared.Source.TheVariants.{Xtal, Rc, Ext}

abbrev pub source_number : Source → ℕ
source_number Xtal = 0
source_number Rc = 1
source_number Ext = 2
