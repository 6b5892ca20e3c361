-- The numbers that RULES gives the cases of each enum: bytes of "State record and simulator", codes of "Commands".
-- Assumes nothing.
use Rattle.std.specs.Prelude.{ℕ, ◌+◌, ◌-◌, cond, ltb, Option, Some, None}
use Rattle.ground.specs.declared.Part.{Part}
use Rattle.ground.specs.declared.Part.TheVariants.{Ht, Gn}
use Rattle.commands.specs.declared.Bias.{Bias}
use Rattle.commands.specs.declared.Bias.TheVariants.{Half, Third}
use Rattle.commands.specs.declared.Commons.{Commons}
use Rattle.commands.specs.declared.Commons.TheVariants.{Two, Three, Four}
use Rattle.commands.specs.declared.Command.{Command}
use Rattle.commands.specs.declared.Command.TheVariants.{SysDis, SysEn, LcdOff, LcdOn, TimerDis, WdtDis, TimerEn, WdtEn, ToneOff, ToneOn, ClrTimer, ClrWdt, Xtal32k, Rc256k, Ext256k, BiasCom, Tone4k, Tone2k, IrqDis, IrqEn, Rate, Test, Normal}

abbrev pub bias_number : Bias → ℕ
bias_number Half = 2
bias_number Third = 3

abbrev pub commons_number : Commons → ℕ
commons_number Two = 2
commons_number Three = 3
commons_number Four = 4

-- A command's number is its code in the HT: of the upper bytes that mean it there, the lowest.
abbrev pub command_number : Command → ℕ
command_number SysDis = 0x00
command_number SysEn = 0x01
command_number LcdOff = 0x02
command_number LcdOn = 0x03
command_number TimerDis = 0x04
command_number WdtDis = 0x05
command_number TimerEn = 0x06
command_number WdtEn = 0x07
command_number ToneOff = 0x08
command_number ToneOn = 0x09
command_number ClrTimer = 0x0C
command_number ClrWdt = 0x0E
command_number Xtal32k = 0x14
command_number Rc256k = 0x18
command_number Ext256k = 0x1C
command_number (BiasCom Half Two) = 0x20
command_number (BiasCom Third Two) = 0x21
command_number (BiasCom Half Three) = 0x24
command_number (BiasCom Third Three) = 0x25
command_number (BiasCom Half Four) = 0x28
command_number (BiasCom Third Four) = 0x29
command_number Tone4k = 0x40
command_number Tone2k = 0x60
command_number IrqDis = 0x80
command_number IrqEn = 0x88
command_number (Rate r) = 0xA0 + r
command_number Test = 0xE0
command_number Normal = 0xE3

-- The number of what a code means, which is its entry in the table; 255 is no command's.
abbrev pub decoded_number : Option Command → ℕ
decoded_number None = 0xFF
decoded_number (Some command) = command_number command

-- The codes of 0A and 0B, nine bits each, change places with those of 0C and 0D.
unfoldable pub swapped : ℕ → ℕ
swapped code = cond (ltb code 0x14) code (cond (ltb code 0x18) (code + 4) (cond (ltb code 0x1C) (code - 4) code))

-- Where the table, which has the HT's codes in their order, has a code of a part.
unfoldable pub entry_of : Part → ℕ → ℕ
entry_of Ht code = code
entry_of Gn code = swapped code
