-- RULES "Commands": what each nine-bit code means, in each part. Assumes nothing.
use Rattle.std.specs.Prelude.{ℕ, zero, suc, ◌+◌, ◌*◌, ◌/◌, ◌%◌, ◌<◌, Bool, true, false, cond, ◌&&◌, ◌||◌, eqb, leb, ltb, Option, Some, None}
use Rattle.ground.specs.declared.Part.{Part}
use Rattle.ground.specs.declared.Part.TheVariants.{Ht, Gn}
use Rattle.commands.specs.declared.Bias.{Bias}
use Rattle.commands.specs.declared.Bias.TheVariants.{Half, Third}
use Rattle.commands.specs.declared.Commons.{Commons}
use Rattle.commands.specs.declared.Commons.TheVariants.{Two, Three, Four}
use Rattle.commands.specs.declared.Command.{Command}
use Rattle.commands.specs.declared.Command.TheVariants.{SysDis, SysEn, LcdOff, LcdOn, TimerDis, WdtDis, TimerEn, WdtEn, ToneOff, ToneOn, ClrTimer, ClrWdt, Xtal32k, Rc256k, Ext256k, BiasCom, Tone4k, Tone2k, IrqDis, IrqEn, Rate, Test, Normal}

-- A row of the table covers the upper bytes from `low` to `high`.
abbrev pub within : ℕ → ℕ → ℕ → Bool
within low high byte = leb low byte && leb byte high

-- The bits of a bias command, 0010abXc: c chooses the bias, ab the commons.
abbrev pub bias_by : ℕ → Bias
bias_by c = cond (eqb c 0) Half Third

abbrev pub commons_by : ℕ → Commons
commons_by ab = cond (eqb ab 0) Two (cond (eqb ab 1) Three Four)

-- The one row in which the parts differ: CLR TIMER has two upper bytes, from this one on. Its pattern in the data sheets is wider,
-- 0000-11XX for the HT and 0000-10XX for the GN, and covers CLR WDT in the one and the tone's switch in the other, which stand apart.
abbrev pub clr_timer : Part → ℕ
clr_timer Ht = 0x0C
clr_timer Gn = 0x0A

-- The pattern rule: the meaning that the upper eight bits of a code decide, row by row as RULES lists them.
unfoldable pub byte_meaning : Part → ℕ → Option Command
byte_meaning part byte =
    cond (eqb byte 0x00) (Some SysDis)
    (cond (eqb byte 0x01) (Some SysEn)
    (cond (eqb byte 0x02) (Some LcdOff)
    (cond (eqb byte 0x03) (Some LcdOn)
    (cond (eqb byte 0x04) (Some TimerDis)
    (cond (eqb byte 0x05) (Some WdtDis)
    (cond (eqb byte 0x06) (Some TimerEn)
    (cond (eqb byte 0x07) (Some WdtEn)
    (cond (eqb byte 0x08) (Some ToneOff)
    (cond (eqb byte 0x09) (Some ToneOn)
    (cond (within (clr_timer part) (clr_timer part + 1) byte) (Some ClrTimer)
    (cond (within 0x0E 0x0F byte) (Some ClrWdt)
    (cond (within 0x14 0x17 byte) (Some Xtal32k)
    (cond (within 0x18 0x1B byte) (Some Rc256k)
    (cond (within 0x1C 0x1F byte) (Some Ext256k)
    (cond (within 0x20 0x2B byte) (Some (BiasCom (bias_by (byte % 2)) (commons_by (byte / 4 % 4))))
    (cond (within 0x40 0x5F byte) (Some Tone4k)
    (cond (within 0x60 0x7F byte) (Some Tone2k)
    (cond (within 0x80 0x87 byte || within 0x90 0x97 byte) (Some IrqDis)
    (cond (within 0x88 0x8F byte || within 0x98 0x9F byte) (Some IrqEn)
    (cond (within 0xA0 0xBF byte) (Some (Rate (byte % 8)))
    (cond (eqb byte 0xE0) (Some Test)
    (cond (eqb byte 0xE3) (Some Normal)
    None))))))))))))))))))))))

-- A nine-bit code means what its upper eight bits decide; a number above 511 is no code and means nothing.
unfoldable pub code_meaning : Part → ℕ → Option Command
code_meaning part code = cond (ltb 511 code) None (byte_meaning part (code / 2))

-- How many numbers below n pass a test.
abbrev pub below : ℕ → (ℕ → Bool) → ℕ
below zero test = 0
below (suc n) test = cond (test n) 1 0 + below n test

-- Whether a meaning is none.
abbrev pub undefined : Option Command → Bool
undefined None = true
undefined (Some command) = false

-- A command is asked for by the byte of its upper eight bits, and the ninth is 0.
unfoldable pub command_fault : Part → ℕ → Bool
command_fault part code = undefined (code_meaning part (2 * code))

-- A command that a code can mean: a rate is one of the eight.
abbrev pub Proper : Command → Type 0
Proper SysDis = Unit {0}
Proper SysEn = Unit {0}
Proper LcdOff = Unit {0}
Proper LcdOn = Unit {0}
Proper TimerDis = Unit {0}
Proper WdtDis = Unit {0}
Proper TimerEn = Unit {0}
Proper WdtEn = Unit {0}
Proper ToneOff = Unit {0}
Proper ToneOn = Unit {0}
Proper ClrTimer = Unit {0}
Proper ClrWdt = Unit {0}
Proper Xtal32k = Unit {0}
Proper Rc256k = Unit {0}
Proper Ext256k = Unit {0}
Proper (BiasCom bias commons) = Unit {0}
Proper Tone4k = Unit {0}
Proper Tone2k = Unit {0}
Proper IrqDis = Unit {0}
Proper IrqEn = Unit {0}
Proper (Rate r) = r < 8
Proper Test = Unit {0}
Proper Normal = Unit {0}

abbrev pub ProperMeaning : Option Command → Type 0
ProperMeaning None = Unit {0}
ProperMeaning (Some command) = Proper command
