-- RULES "Driver streams", its table of refusals: the number and the place of each. Assumes nothing.
use Rattle.std.specs.Prelude.{ℕ}
use Rattle.ground.specs.declared.Refusal.{Refusal}
use Rattle.ground.specs.declared.Refusal.TheVariants.{SampleAbove, NothingAsked, AddressAbove, NibbleAbove, UndefinedCommand, OutputShort, NotedCount, NotedAbove, Malformed, MemoryCount}
use Rattle.ground.specs.declared.Refusal.TheVariants.{RunsPastEnd, TooManyCommands, UnknownPart}

-- The number of each refusal.
abbrev pub refusal_number : Refusal → ℕ
refusal_number SampleAbove = 20
refusal_number NothingAsked = 21
refusal_number AddressAbove = 22
refusal_number (NibbleAbove place) = 23
refusal_number (UndefinedCommand place) = 24
refusal_number OutputShort = 25
refusal_number NotedCount = 26
refusal_number (NotedAbove place) = 27
refusal_number Malformed = 28
refusal_number MemoryCount = 29
refusal_number RunsPastEnd = 30
refusal_number TooManyCommands = 31
refusal_number UnknownPart = 43

-- The lowest index at fault where the table says (place), and 0 for the others.
abbrev pub refusal_place : Refusal → ℕ
refusal_place SampleAbove = 0
refusal_place NothingAsked = 0
refusal_place AddressAbove = 0
refusal_place (NibbleAbove place) = place
refusal_place (UndefinedCommand place) = place
refusal_place OutputShort = 0
refusal_place NotedCount = 0
refusal_place (NotedAbove place) = place
refusal_place Malformed = 0
refusal_place MemoryCount = 0
refusal_place RunsPastEnd = 0
refusal_place TooManyCommands = 0
refusal_place UnknownPart = 0
