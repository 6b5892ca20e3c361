-- The rules in the order of RULES, of the bytes, the calls and the streams; together they are what a host in C can hold the chip and
-- the driver to. The table of refusals is in crates/demands (Accepted.antt), the listing in crates/listed. Assumes nothing.
use Rattle.sheet.specs.Samples.{SamplesSheet}
use Rattle.sheet.specs.Commands.{CommandsSheet}
use Rattle.sheet.specs.PowerOn.{PowerOnSheet}
use Rattle.sheet.specs.Ticks.{TicksSheet}
use Rattle.sheet.specs.Pins.{PinsSheet}
use Rattle.sheet.specs.Streams.{StreamsSheet}
use Rattle.sheet.specs.Left.{LeftSheet}
use Rattle.sheet.specs.Ranges.{RangesSheet, ZerosAreHt}

pub record Sheet : Type 0 where
  pub samples : SamplesSheet
  pub commands : CommandsSheet
  pub power_on : PowerOnSheet
  pub ticks : TicksSheet
  pub pins : PinsSheet
  pub streams : StreamsSheet
  pub left : LeftSheet
  pub ranges : RangesSheet
  pub zeros : ZerosAreHt
