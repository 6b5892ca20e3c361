-- The calls meet the sheet, section by section. Assumes nothing.
use Rattle.sheet.specs.Sheet.{Sheet}
use Rattle.sheet.proofs.Samples.{samples_sheet}
use Rattle.sheet.proofs.Commands.{commands_sheet}
use Rattle.sheet.proofs.PowerOn.{power_on_sheet}
use Rattle.sheet.proofs.Ticks.{ticks_sheet}
use Rattle.sheet.proofs.Pins.{pins_sheet}
use Rattle.sheet.proofs.Streams.{streams_sheet}
use Rattle.sheet.proofs.Left.{left_sheet}
use Rattle.sheet.proofs.Ranges.{ranges_sheet, zeros_are_ht}

pub sheet : Sheet
sheet =
    record {
      samples = samples_sheet;
      commands = commands_sheet;
      power_on = power_on_sheet;
      ticks = ticks_sheet;
      pins = pins_sheet;
      streams = streams_sheet;
      left = left_sheet;
      ranges = ranges_sheet;
      zeros = zeros_are_ht;
    }
