-- RULES "What a sample is answered": the numbers and the details. Assumes nothing.
use Rattle.std.specs.Prelude.{ℕ}
use Rattle.ground.specs.Bits.{bit_number}
use Rattle.ground.specs.Refusals.{refusal_number}
use Rattle.answers.specs.declared.Numbers.{Numbers}
use Rattle.answers.specs.declared.Answer.{Answer}
use Rattle.answers.specs.declared.Answer.TheVariants.{Nothing, Opened, Closed, Dropped, Taken, Stored, Obeyed, Passed, Offered, Stray, Unknown, Clash, Refused}

-- The number of each answer; a refusal has its own.
abbrev pub answer_number : Answer → ℕ
answer_number Nothing = 0
answer_number Opened = 1
answer_number Closed = 2
answer_number Dropped = 3
answer_number Taken = 4
answer_number (Stored address nibble) = 5
answer_number (Obeyed code) = 6
answer_number (Passed code) = 7
answer_number (Offered address bit) = 8
answer_number Stray = 9
answer_number Unknown = 10
answer_number Clash = 11
answer_number (Refused refusal) = refusal_number refusal

-- Its two details in the table's order, 0 where it has none: the address or the code, and the nibble or the bit.
abbrev pub first_detail : Answer → ℕ
first_detail Nothing = 0
first_detail Opened = 0
first_detail Closed = 0
first_detail Dropped = 0
first_detail Taken = 0
first_detail (Stored address nibble) = address
first_detail (Obeyed code) = code
first_detail (Passed code) = code
first_detail (Offered address bit) = address
first_detail Stray = 0
first_detail Unknown = 0
first_detail Clash = 0
first_detail (Refused refusal) = 0

abbrev pub second_detail : Answer → ℕ
second_detail Nothing = 0
second_detail Opened = 0
second_detail Closed = 0
second_detail Dropped = 0
second_detail Taken = 0
second_detail (Stored address nibble) = nibble
second_detail (Obeyed code) = 0
second_detail (Passed code) = 0
second_detail (Offered address bit) = bit_number bit
second_detail Stray = 0
second_detail Unknown = 0
second_detail Clash = 0
second_detail (Refused refusal) = 0

-- The three together.
abbrev pub numbered : ℕ → ℕ → ℕ → Numbers
numbered number first second = record { number = number; first = first; second = second }

abbrev pub numbers : Answer → Numbers
numbers answer = numbered (answer_number answer) (first_detail answer) (second_detail answer)

-- What an answer does beyond the frame: a nibble changes the memory where it has that address, a command that is obeyed the
-- settings, and nothing else changes either.
pub data Act : Type 0 where
  Keep : Act
  Store : ℕ → ℕ → Act
  Obey : ℕ → Act

abbrev pub act : Answer → Act
act Nothing = Keep
act Opened = Keep
act Closed = Keep
act Dropped = Keep
act Taken = Keep
act (Stored address nibble) = Store address nibble
act (Obeyed code) = Obey code
act (Passed code) = Keep
act (Offered address bit) = Keep
act Stray = Keep
act Unknown = Keep
act Clash = Keep
act (Refused refusal) = Keep
