-- Demand 2: requests are accepted exactly where the table says (Accepted.antt); what the driver writes for one that is, fed to the
-- model, does what was asked, and a read-back decodes to the memory read; from any valid chip, with ticks falling anywhere. For
-- a write or a read the part does not matter; commands are those of the chip's own part, which the driver was told. Assumes nothing.
use Rattle.std.specs.Prelude.{◌≡◌, cond, List, [], ◌∷◌, ℕ, suc, ◌+◌, ◌*◌, eqb, length, take, drop}
use Rattle.std.proofs.Math.Seq.{paste}
use Rattle.ground.specs.Parts.{part_number}
use Rattle.commands.specs.Commands.{code_meaning}
use Rattle.settings.specs.declared.Settings.{Settings}
use Rattle.ticks.specs.Ticks.{ticked, advanced}
use Rattle.answers.specs.Answers.{Act}
use Rattle.answers.specs.Answers.{Keep, Store, Obey}
use Rattle.answers.specs.declared.Answer.{Answer}
use Rattle.answers.specs.declared.Answer.TheVariants.{Nothing, Closed}
use Rattle.answers.specs.Answers.{act}
use Rattle.chip.specs.declared.Chip.{Chip}
use Rattle.chip.specs.Chip.{obeyed_as}
use Rattle.chip.specs.Valid.{Valid}
use Rattle.streams.specs.Streams.{write_stream, read_stream, command_stream}
use Rattle.demands.specs.Events.{Event, sample, tick, after, samples, ticks, answers, notes, ReadsAs}
use Rattle.demands.specs.Accepted.{Accepted, AcceptsWrite, AcceptsRead, AcceptsCommands}

-- The last answer of some, the first where there are none.
abbrev pub last_answer : Answer → List Answer → Answer
last_answer answer [] = answer
last_answer answer (next ∷ answers) = last_answer next answers

-- ---- RULES "Driver streams": a write

-- The stores among answers that are numbered from n on: at which sample, where, and what.
pub record StoredAt : Type 0 where
  pub sample : ℕ
  pub address : ℕ
  pub nibble : ℕ

abbrev pub stored_by : Act → ℕ → List StoredAt → List StoredAt
stored_by Keep n rest = rest
stored_by (Store at value) n rest = record { sample = n; address = at; nibble = value } ∷ rest
stored_by (Obey code) n rest = rest

abbrev pub stores : ℕ → List Answer → List StoredAt
stores n [] = []
stores n (answer ∷ answers) = stored_by (act answer) n (stores (suc n) answers)

-- Those that a write owes: one every eight samples, address by address.
abbrev pub due_stores : ℕ → ℕ → List ℕ → List StoredAt
due_stores n at [] = []
due_stores n at (value ∷ nibbles) = record { sample = n; address = at; nibble = value } ∷ due_stores (n + 8) (at + 1) nibbles

-- A write stores exactly the asked nibbles, nibble i at sample 20 + 8i (the first at 28) and nothing at any other, and closes
-- its frame with no unfinished bit; the settings are what the ticks alone make of them.
pub record Writes (chip : Chip) (first : ℕ) (nibbles : List ℕ) (events : List Event) : Type 0 where
  pub memory : (after chip events).port.memory ≡ paste chip.port.memory first nibbles (length nibbles)
  pub stored : stores 1 (answers chip events) ≡ due_stores 28 first nibbles
  pub closed : last_answer Nothing (answers chip events) ≡ Closed
  pub settings : (after chip events).settings ≡ advanced (ticks events) chip.settings

-- ---- a read

-- A read changes neither memory nor settings, and what the host notes reads back as the memory asked for.
pub record Reads (chip : Chip) (first count : ℕ) (events : List Event) : Type 0 where
  pub memory : (after chip events).port.memory ≡ chip.port.memory
  pub settings : (after chip events).settings ≡ advanced (ticks events) chip.settings
  pub noted : ReadsAs (notes chip events) (take count (drop first chip.port.memory))
  pub closed : last_answer Nothing (answers chip events) ≡ Closed

-- ---- commands

-- The commands obeyed among answers that are numbered from n on: at which sample, and which.
pub record ObeyedAt : Type 0 where
  pub sample : ℕ
  pub code : ℕ

abbrev pub obeyed_by : Act → ℕ → List ObeyedAt → List ObeyedAt
obeyed_by Keep n rest = rest
obeyed_by (Store at value) n rest = rest
obeyed_by (Obey command) n rest = record { sample = n; code = command } ∷ rest

abbrev pub obeys : ℕ → List Answer → List ObeyedAt
obeys n [] = []
obeys n (answer ∷ answers) = obeyed_by (act answer) n (obeys (suc n) answers)

-- Those that a command stream owes: each at its ninth bit.
abbrev pub due_commands : ℕ → List ℕ → List ObeyedAt
due_commands n [] = []
due_commands n (command ∷ codes) = record { sample = n; code = command } ∷ due_commands (n + 18) codes

-- The settings that ticks and the commands due at their samples make, n samples having passed.
abbrev pub effect_at : List ObeyedAt → ℕ → Settings → Settings
effect_at [] n s = s
effect_at (due ∷ rest) n s = cond (eqb due.sample n) (obeyed_as (code_meaning s.part (2 * due.code)) s) (effect_at rest n s)

abbrev pub between : List ObeyedAt → ℕ → List Event → Settings → Settings
between due n [] s = s
between due n (tick ∷ events) s = between due n events (ticked s)
between due n (sample x ∷ events) s = between due (suc n) events (effect_at due (suc n) s)

-- A command stream obeys exactly the asked codes, in order, the first at sample 26 and one every 18; it touches no memory,
-- and leaves the settings that the effects and the ticks between them give.
pub record Commands (chip : Chip) (codes : List ℕ) (events : List Event) : Type 0 where
  pub memory : (after chip events).port.memory ≡ chip.port.memory
  pub obeyed : obeys 1 (answers chip events) ≡ due_commands 26 codes
  pub settings : (after chip events).settings ≡ between (due_commands 26 codes) 0 events chip.settings
  pub closed : last_answer Nothing (answers chip events) ≡ Closed

-- ---- the demand

pub record Demand2 : Type 0 where
  pub accepted : Accepted
  pub writes : (chip : Chip) (first : ℕ) (nibbles : List ℕ) (events : List Event) → Valid chip → AcceptsWrite first nibbles
      → samples events ≡ write_stream first nibbles → Writes chip first nibbles events
  pub reads : (chip : Chip) (first count : ℕ) (events : List Event) → Valid chip → AcceptsRead first count
      → samples events ≡ read_stream first count → Reads chip first count events
  pub commands : (chip : Chip) (codes : List ℕ) (events : List Event) → Valid chip
      → AcceptsCommands (part_number chip.settings.part) codes → samples events ≡ command_stream codes → Commands chip codes events
