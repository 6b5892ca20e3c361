-- RULES "The listing": what each byte of the input is, the lines, and the output as a whole. Assumes nothing.
use Rattle.std.specs.Prelude.{ℕ, zero, suc, ◌+◌, ◌-◌, ◌*◌, ◌/◌, ◌%◌, min, cond, ◌&&◌, List, [], ◌∷◌, ◌++◌, ltb, leb, eqb, length}
use Rattle.ground.specs.declared.Refusal.TheVariants.{OutputShort}
use Rattle.ground.specs.Outcomes.{Outcome, refused_if, answered}
use Rattle.answers.specs.declared.Answer.{Answer}
use Rattle.answers.specs.Answers.{answer_number, first_detail, second_detail}
use Rattle.chip.specs.declared.Chip.{Chip}
use Rattle.chip.specs.Chip.{stepped, ticked}
use Rattle.power.specs.PowerOn.{empty_chip}
use Rattle.listed.specs.declared.Class.{Class}
use Rattle.listed.specs.declared.Class.TheVariants.{Sample, Tick, Skipped, Bad}

-- Bytes by their ASCII codes: `0` is 48, `9` 57, `a` 97, `f` 102, `t` 116, a space 32, a newline 10.
abbrev pub space : ℕ
space = 32

abbrev pub newline : ℕ
newline = 10

-- A hexadecimal digit in lower case is a sample of its value and `t` a tick; a space and a newline are skipped.
unfoldable pub class_of : ℕ → Class
class_of byte =
    cond (leb 48 byte && leb byte 57) (Sample (byte - 48))
    (cond (leb 97 byte && leb byte 102) (Sample (byte - 97 + 10))
    (cond (eqb byte 116) Tick
    (cond (eqb byte space) Skipped
    (cond (eqb byte newline) Skipped
    Bad))))

-- A number in decimal, highest digit first and no leading zeros. No number of a listing has more than five digits.
unfoldable pub digits : ℕ → ℕ → List ℕ
digits zero n = []
digits (suc most) n = cond (ltb n 10) ((48 + n) ∷ []) (digits most (n / 10) ++ (48 + n % 10) ∷ [])

unfoldable pub decimal : ℕ → List ℕ
decimal n = digits 5 n

-- A number and the byte that ends it: a space between two of a line, a newline after the last.
unfoldable pub field : ℕ → ℕ → List ℕ
field n after = decimal n ++ after ∷ []

-- A line has the sample's number, its answer, and the answer's two details; answers 0 and 4 have none.
unfoldable pub line : ℕ → ℕ → ℕ → ℕ → List ℕ
line number kind first second = field number space ++ field kind space ++ field first space ++ field second newline

unfoldable pub answer_line : ℕ → Answer → List ℕ
answer_line number answer =
    cond (eqb (answer_number answer) 0) []
    (cond (eqb (answer_number answer) 4) []
    (line number (answer_number answer) (first_detail answer) (second_detail answer)))

-- The fixed bytes: `bad ` and a byte's offset, `end ` and the numbers of samples and of ticks, and `long` for itself.
abbrev pub bad : List ℕ
bad = 98 ∷ 97 ∷ 100 ∷ 32 ∷ []

abbrev pub end : List ℕ
end = 101 ∷ 110 ∷ 100 ∷ 32 ∷ []

abbrev pub long : List ℕ
long = 108 ∷ 111 ∷ 110 ∷ 103 ∷ 10 ∷ []

unfoldable pub bad_line : ℕ → List ℕ
bad_line offset = bad ++ field offset newline

unfoldable pub end_line : ℕ → ℕ → List ℕ
end_line samples ticks = end ++ field samples space ++ field ticks newline

-- What one byte lists, by its class: a sample its line, if it has one, and then what the rest lists with one sample more;
-- a tick, with one tick more, and a skipped byte what the rest lists; and a bad byte its offset and nothing after it.
abbrev pub lists : Class → Chip → ℕ → ℕ → ℕ → (Chip → ℕ → ℕ → List ℕ) → List ℕ
lists (Sample value) chip samples ticks offset rest =
    answer_line (samples + 1) (stepped chip value).answer ++ rest (stepped chip value).chip (samples + 1) ticks
lists Tick chip samples ticks offset rest = rest (ticked chip) samples (ticks + 1)
lists Skipped chip samples ticks offset rest = rest chip samples ticks
lists Bad chip samples ticks offset rest = bad_line offset

-- What is listed from an offset on, where the chip and the numbers of samples and ticks are those of the bytes before it.
unfoldable pub list_from : Chip → ℕ → ℕ → ℕ → List ℕ → List ℕ
list_from chip samples ticks offset [] = end_line samples ticks
list_from chip samples ticks offset (byte ∷ input) =
    lists (class_of byte) chip samples ticks offset (λ next s t. list_from next s t (offset + 1) input)

-- The whole output, from power-on of an HT with an empty memory; of more than 65,536 bytes only `long`, whatever they are.
unfoldable pub listing : List ℕ → List ℕ
listing input = cond (ltb 65536 (length input)) long (list_from empty_chip 0 0 0 input)

-- The room for the listing of any input of so many bytes: 24 for the line of each byte that counts, 16 for the last.
abbrev pub room_for : ℕ → ℕ
room_for count = 24 * min count 65536 + 16

-- What `list` answers: 25 where the buffer is shorter than the room, else the number of the listing's bytes.
unfoldable pub list_answer : List ℕ → ℕ → Outcome
list_answer input room = answered (refused_if (ltb room (room_for (length input))) OutputShort ∷ []) (listing input)
