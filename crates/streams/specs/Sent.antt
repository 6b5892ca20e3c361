-- RULES "Driver streams": a stream sent into a buffer is written over its start, or refused with 25 where the buffer is shorter.
-- Assumes nothing.
use Rattle.std.specs.Prelude.{ℕ, List, [], ◌∷◌, ltb, length}
use Rattle.ground.specs.declared.Refusal.TheVariants.{OutputShort}
use Rattle.ground.specs.Outcomes.{Outcome, Rung, refused_if, answered, ComesTo}

-- A buffer of `room` bytes is too short for the stream.
abbrev pub no_room : List ℕ → ℕ → Rung
no_room stream room = refused_if (ltb room (length stream)) OutputShort

-- What sending comes to in a buffer of `room` bytes: nothing else refuses it.
abbrev pub sent : List ℕ → ℕ → Outcome
sent stream room = answered (no_room stream room ∷ []) stream

-- A call sends the stream: it comes to that, and leaves the bytes that go with it.
abbrev pub Sends : List ℕ → List ℕ → Outcome → List ℕ → Type 0
Sends stream before result after = ComesTo (sent stream (length before)) stream before result after
