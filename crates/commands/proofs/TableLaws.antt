-- The table of the 512 codes follows the pattern rule in both parts, and the numbers in it can be read back: tests, which antt
-- computes over every code, and one law that carries a test to the code at hand. Assumes nothing.
use Rattle.std.specs.Prelude.{Option, Some, None}
use mathlib.Core.Path.{◌≡◌, ◌∙◌, refl, sym, ap}
use mathlib.Core.Bool.{Bool, true, false, cond}
use mathlib.Core.List.{List, [], ◌∷◌}
use Prim.Native.Nat.{ℕ, ◌%◌, ◌≤◌, ◌<◌}
use native.Mathlib.Decide.{dec_lt}
use native.Mathlib.Omega.{arith}
use lib.Dec.{eqb, ltb}
use lib.ListN.{get_or}
use borrow.Author.Tests.{lt-ltb, le-ltb, ltb-true, ne_eqb, eqb-true}
use Rattle.ground.specs.declared.Part.{Part}
use Rattle.ground.specs.declared.Part.TheVariants.{Ht, Gn}
use Rattle.commands.specs.declared.Bias.TheVariants.{Half, Third}
use Rattle.commands.specs.declared.Commons.TheVariants.{Two, Three, Four}
use Rattle.commands.specs.declared.Command.{Command}
use Rattle.commands.specs.declared.Command.TheVariants.{SysDis, SysEn, LcdOff, LcdOn, TimerDis, WdtDis, TimerEn, WdtEn, ToneOff, ToneOn, ClrTimer, ClrWdt, Xtal32k, Rc256k, Ext256k, BiasCom, Tone4k, Tone2k, IrqDis, IrqEn, Rate, Test, Normal}
use Rattle.commands.specs.Commands.{byte_meaning, code_meaning, undefined}
use Rattle.commands.specs.Numbers.{decoded_number, swapped, entry_of}
use Rattle.ground.specs.Values.{values, values_at, agree}

-- the arms of the decoder for a single number, the last one first: those above the rates, and those below them
abbrev high_rows : List (ℕ × Command)
high_rows =
    (0xE3, Normal) ∷
    (0xE0, Test) ∷
    []

abbrev low_rows : List (ℕ × Command)
low_rows =
    (0x88, IrqEn) ∷
    (0x80, IrqDis) ∷
    (0x60, Tone2k) ∷
    (0x40, Tone4k) ∷
    (0x29, (BiasCom Third Four)) ∷
    (0x28, (BiasCom Half Four)) ∷
    (0x25, (BiasCom Third Three)) ∷
    (0x24, (BiasCom Half Three)) ∷
    (0x21, (BiasCom Third Two)) ∷
    (0x20, (BiasCom Half Two)) ∷
    (0x1C, Ext256k) ∷
    (0x18, Rc256k) ∷
    (0x14, Xtal32k) ∷
    (0x0E, ClrWdt) ∷
    (0x0C, ClrTimer) ∷
    (0x09, ToneOn) ∷
    (0x08, ToneOff) ∷
    (0x07, WdtEn) ∷
    (0x06, TimerEn) ∷
    (0x05, WdtDis) ∷
    (0x04, TimerDis) ∷
    (0x03, LcdOn) ∷
    (0x02, LcdOff) ∷
    (0x01, SysEn) ∷
    (0x00, SysDis) ∷
    []

abbrev pub lookup : ℕ → List (ℕ × Command) → Option Command
lookup n [] = None
lookup n (row ∷ rest) = cond (eqb n row.0) (Some row.1) (lookup n rest)

-- n is the number of no row
abbrev pub Misses : ℕ → List (ℕ × Command) → Type 0
Misses n [] = Unit {0}
Misses n (row ∷ rest) = Misses n rest × (n ≡ row.0 → ⊥)

pub lookup_misses : (n : ℕ) (rest : List (ℕ × Command)) → Misses n rest → lookup n rest ≡ None
lookup_misses n [] m = refl
lookup_misses n (row ∷ rest) m = simp (ne_eqb _ _ m.1, lookup_misses n rest m.0)

-- what a number stands for
abbrev pub named : ℕ → Option Command
named n = cond (ltb n 0xA0) (lookup n low_rows) (cond (ltb n 0xA8) (Some (Rate (n % 8))) (lookup n high_rows))

-- above the rates only two numbers stand for a command
pub past_rates : (n : ℕ) → 0xA8 ≤ n → (n ≡ 0xE0 → ⊥) → (n ≡ 0xE3 → ⊥) → named n ≡ None
past_rates n past test normal =
    simp (le-ltb n 0xA0 (omega arith), le-ltb n 0xA8 past, ne_eqb n 0xE0 test, ne_eqb n 0xE3 normal)

-- the number that the rule gives a code of a part
abbrev pub ruled : Part → ℕ → ℕ
ruled part code = decoded_number (code_meaning part code)

-- the test of the numbers: each stands for what the rule says
told : values (λ code. named (ruled Ht code)) 0 512 ≡ values (code_meaning Ht) 0 512
unfolding code_meaning byte_meaning
told = refl

-- the test of the GN: its codes are the HT's, but for those that have changed places
moved : values (code_meaning Gn) 0 512 ≡ values (λ code. code_meaning Ht (swapped code)) 0 512
unfolding code_meaning byte_meaning swapped
moved = refl

-- where they go there are codes
stays : values (λ code. ltb (swapped code) 512) 0 512 ≡ values (λ code. true) 0 512
unfolding swapped
stays = refl

-- ---- each part by the entries of the table

pub entry_there : (part : Part) (code : ℕ) → code < 512 → entry_of part code < 512
unfolding entry_of
entry_there Ht code h = h
entry_there Gn code h = ltb-true _ _ (agree (λ k. ltb (swapped k) 512) (λ k. true) 512 stays code h)

pub same_as_ht : (part : Part) (code : ℕ) → code < 512 → code_meaning part code ≡ code_meaning Ht (entry_of part code)
unfolding entry_of
same_as_ht Ht code h = refl
same_as_ht Gn code h = agree (code_meaning Gn) (λ k. code_meaning Ht (swapped k)) 512 moved code h

-- a table that passes the test, entry by entry, has the number that the rule gives each code, at its entry
pub table_follows : (table : List ℕ) → table ≡ values (ruled Ht) 0 512 → (part : Part) (code : ℕ) → code < 512
    → get_or table (entry_of part code) 0 ≡ ruled part code
table_follows table same part code h =
    ap (λ (l : List ℕ). get_or l (entry_of part code) 0) same
    ∙ values_at (ruled Ht) 512 (entry_of part code) 0 (entry_there part code h) ∙ sym (ap decoded_number (same_as_ht part code h))

pub past_undefined : (part : Part) (code : ℕ) → 511 < code → code_meaning part code ≡ None
unfolding code_meaning
past_undefined part code h = simp (lt-ltb _ _ h)

either : (part : Part) (code : ℕ) → Dec (code < 512) → named (ruled part code) ≡ code_meaning part code
either part code (yes h) =
    ap (λ (d : Option Command). named (decoded_number d)) (same_as_ht part code h)
    ∙ agree (λ k. named (ruled Ht k)) (code_meaning Ht) 512 told (entry_of part code) (entry_there part code h)
    ∙ sym (same_as_ht part code h)
either part code (no h) = simp (past_undefined part code (omega arith))

-- whoever knows the number that the rule gives a code knows its meaning
pub named_ruled : (part : Part) (code n : ℕ) → n ≡ ruled part code → named n ≡ code_meaning part code
named_ruled part code n e = ap named e ∙ either part code (dec_lt code 512)

-- what a number tells has the number 255 exactly if it is no command
pub told_fault : (decoded : Option Command) → named (decoded_number decoded) ≡ decoded → eqb (decoded_number decoded) 0xFF ≡ undefined decoded
told_fault None e = refl
told_fault (Some command) e = by (eqb (decoded_number (Some command)) 0xFF) refl
  where
    by : (t : Bool) → eqb (decoded_number (Some command)) 0xFF ≡ t → t ≡ false
    by true h = let same : decoded_number (Some command) ≡ 0xFF = eqb-true _ _ h in
        let none : None ≡ Some command = sym (ap named same) ∙ e in cc
    by false h = refl
