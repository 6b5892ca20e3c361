-- The driver's cases of RULES "Cases on both sides", (c) and (d), computed from the definitions. Assumes nothing.
use Rattle.std.specs.Prelude.{Ok}
use mathlib.Core.Path.{◌≡◌, ◌∙◌, refl, ap}
use mathlib.Core.List.{List, [], ◌∷◌}
use Prim.Native.Nat.{ℕ, ◌+◌, ◌*◌, ◌≤◌}
use borrow.Author.Tests.{le-ltb}
use lib.ListN.{length}
use Rattle.ground.specs.Outcomes.{RefusedWith}
use Rattle.streams.specs.Lengths.{transfer_frame, nibble_samples}
use Rattle.streams.specs.Streams.{write_stream, read_stream}
use Rattle.driver.specs.Refusals.{write_answer, read_answer}
use Rattle.streams.proofs.StreamsLaws.{write_length, read_length}

-- (c) the samples of one nibble and of 32
pub write_one : (first : ℕ) (nibbles : List ℕ) → length nibbles ≡ 1 → length (write_stream first nibbles) ≡ 29
write_one first nibbles e = write_length first nibbles ∙ ap (λ (n : ℕ). transfer_frame + nibble_samples * n) e

pub write_thirty_two : (first : ℕ) (nibbles : List ℕ) → length nibbles ≡ 32 → length (write_stream first nibbles) ≡ 277
write_thirty_two first nibbles e = write_length first nibbles ∙ ap (λ (n : ℕ). transfer_frame + nibble_samples * n) e

pub read_one : (first : ℕ) → length (read_stream first 1) ≡ 29
read_one first = read_length first 1

pub read_thirty_two : (first : ℕ) → length (read_stream first 32) ≡ 277
read_thirty_two first = read_length first 32

-- (d) one nibble at address 31, and two from there on
pub write_at_31 : (nibble room : ℕ) → nibble ≤ 15 → 29 ≤ room → write_answer 31 (nibble ∷ []) room ≡ Ok 29
unfolding write_answer write_stream
write_at_31 nibble room n h = simp (le-ltb 15 nibble n, le-ltb room 29 h)

pub write_past_31 : (nibble other room : ℕ) → RefusedWith 30 0 (write_answer 31 (nibble ∷ other ∷ []) room)
unfolding write_answer
write_past_31 nibble other room = (refl, refl)

pub read_at_31 : (room : ℕ) → 29 ≤ room → read_answer 31 1 room ≡ Ok 29
unfolding read_answer read_stream
read_at_31 room h = simp (le-ltb room 29 h)

pub read_past_31 : (room : ℕ) → RefusedWith 30 0 (read_answer 31 2 room)
unfolding read_answer
read_past_31 room = (refl, refl)
