-- Laws of RULES "Commands". Assumes nothing.
use Rattle.std.specs.Prelude.{Some}
use mathlib.Core.Path.{◌≡◌, refl}
use mathlib.Core.Bool.{◌||◌}
use Prim.Native.Nat.{ℕ, zero, suc, ◌+◌, ◌*◌, ◌/◌, ◌<◌}
use native.Mathlib.Omega.{arith}
use lib.Dec.{eqb, ltb}
use borrow.Author.Tests.{le-ltb}
use Rattle.ground.proofs.ChoiceLaws.{either}
use Rattle.ground.specs.declared.Part.{Part}
use Rattle.ground.specs.declared.Part.TheVariants.{Ht, Gn}
use Rattle.commands.specs.declared.Bias.TheVariants.{Half, Third}
use Rattle.commands.specs.declared.Commons.TheVariants.{Two, Three, Four}
use Rattle.commands.specs.declared.Command.{Command}
use Rattle.commands.specs.declared.Command.TheVariants.{SysDis, SysEn, LcdOff, LcdOn, TimerDis, WdtDis, TimerEn, WdtEn, ToneOff, ToneOn, ClrTimer, ClrWdt, Xtal32k, Rc256k, Ext256k, BiasCom, Tone4k, Tone2k, IrqDis, IrqEn, Rate, Test, Normal}
use Rattle.commands.specs.Commands.{within, clr_timer, byte_meaning, code_meaning, undefined, command_fault, below, Proper, ProperMeaning}
use Rattle.commands.specs.Numbers.{command_number}

-- in each part 88 upper bytes are undefined
pub undefined_bytes : (part : Part) → below 256 (λ byte. undefined (byte_meaning part byte)) ≡ 88
unfolding byte_meaning
undefined_bytes Ht = refl
undefined_bytes Gn = refl

-- and so 176 of the 512 codes
pub undefined_codes : (part : Part) → below 512 (λ code. undefined (code_meaning part code)) ≡ 176
unfolding byte_meaning code_meaning
undefined_codes Ht = refl
undefined_codes Gn = refl

-- a command asked for by a byte is at fault where that byte has no meaning
pub byte_fault : (part : Part) (code : ℕ) → code < 256 → command_fault part code ≡ undefined (byte_meaning part code)
unfolding command_fault code_meaning
byte_fault part code h =
    let half : 2 * code / 2 ≡ code = omega arith in
    simp (le-ltb 511 (2 * code) (omega arith), half)

-- the number of a command is a code that means it in the HT
pub number_means : (command : Command) → Proper command → byte_meaning Ht (command_number command) ≡ Some command
unfolding byte_meaning
number_means SysDis p = refl
number_means SysEn p = refl
number_means LcdOff p = refl
number_means LcdOn p = refl
number_means TimerDis p = refl
number_means WdtDis p = refl
number_means TimerEn p = refl
number_means WdtEn p = refl
number_means ToneOff p = refl
number_means ToneOn p = refl
number_means ClrTimer p = refl
number_means ClrWdt p = refl
number_means Xtal32k p = refl
number_means Rc256k p = refl
number_means Ext256k p = refl
number_means (BiasCom Half Two) p = refl
number_means (BiasCom Half Three) p = refl
number_means (BiasCom Half Four) p = refl
number_means (BiasCom Third Two) p = refl
number_means (BiasCom Third Three) p = refl
number_means (BiasCom Third Four) p = refl
number_means Tone4k p = refl
number_means Tone2k p = refl
number_means IrqDis p = refl
number_means IrqEn p = refl
number_means (Rate zero) p = refl
number_means (Rate (suc zero)) p = refl
number_means (Rate (suc (suc zero))) p = refl
number_means (Rate (suc (suc (suc zero)))) p = refl
number_means (Rate (suc (suc (suc (suc zero))))) p = refl
number_means (Rate (suc (suc (suc (suc (suc zero)))))) p = refl
number_means (Rate (suc (suc (suc (suc (suc (suc zero))))))) p = refl
number_means (Rate (suc (suc (suc (suc (suc (suc (suc zero)))))))) p = refl
number_means (Rate (suc (suc (suc (suc (suc (suc (suc (suc r))))))))) p = let no : ⊥ = omega arith in absurd no
number_means Test p = refl
number_means Normal p = refl

-- every rate that a code means is one of the eight
pub byte_proper : (part : Part) (byte : ℕ) → ProperMeaning (byte_meaning part byte)
unfolding byte_meaning
byte_proper part byte =
    (either ProperMeaning (eqb byte 0x00) tt
    (either ProperMeaning (eqb byte 0x01) tt
    (either ProperMeaning (eqb byte 0x02) tt
    (either ProperMeaning (eqb byte 0x03) tt
    (either ProperMeaning (eqb byte 0x04) tt
    (either ProperMeaning (eqb byte 0x05) tt
    (either ProperMeaning (eqb byte 0x06) tt
    (either ProperMeaning (eqb byte 0x07) tt
    (either ProperMeaning (eqb byte 0x08) tt
    (either ProperMeaning (eqb byte 0x09) tt
    (either ProperMeaning (within (clr_timer part) (clr_timer part + 1) byte) tt
    (either ProperMeaning (within 0x0E 0x0F byte) tt
    (either ProperMeaning (within 0x14 0x17 byte) tt
    (either ProperMeaning (within 0x18 0x1B byte) tt
    (either ProperMeaning (within 0x1C 0x1F byte) tt
    (either ProperMeaning (within 0x20 0x2B byte) tt
    (either ProperMeaning (within 0x40 0x5F byte) tt
    (either ProperMeaning (within 0x60 0x7F byte) tt
    (either ProperMeaning (within 0x80 0x87 byte || within 0x90 0x97 byte) tt
    (either ProperMeaning (within 0x88 0x8F byte || within 0x98 0x9F byte) tt
    (either ProperMeaning (within 0xA0 0xBF byte) (omega arith)
    (either ProperMeaning (eqb byte 0xE0) tt
    (either ProperMeaning (eqb byte 0xE3) tt tt)))))))))))))))))))))))

pub code_proper : (part : Part) (code : ℕ) → ProperMeaning (code_meaning part code)
unfolding code_meaning
code_proper part code = either ProperMeaning (ltb 511 code) tt (byte_proper part (code / 2))
