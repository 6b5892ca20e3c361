-- RULES "The listing": its four inputs, an empty one, a tick and one that stops, computed from the definition. Assumes nothing.
use mathlib.Core.Path.{◌≡◌, refl}
use mathlib.Core.List.{List, [], ◌∷◌}
use Prim.Native.Nat.{ℕ}
use Rattle.frames.specs.Frames.{identified, ident_taken, read_to_taken, write_to_taken, command_taken, nibble_taken, taken, read_offered, offered, closed, frame}
use Rattle.commands.specs.Commands.{byte_meaning, code_meaning}
use Rattle.rules.specs.Effects.{effect}
use Rattle.port.specs.Port.{memory_after, framed_by, moved}
use Rattle.chip.specs.Chip.{obeyed_as, settings_after, stepped, stepped_to}
use Rattle.power.specs.PowerOn.{empty_chip}
use Rattle.listed.specs.Listing.{class_of, digits, decimal, field, line, answer_line, bad_line, end_line}
use Rattle.listed.specs.Listing.{list_from, listing}

-- `fece46ce46464646cecece46ce46f` writes 5 at address 3
abbrev writes_5 : List ℕ
writes_5 =
    102 ∷ 101 ∷ 99 ∷ 101 ∷ 52 ∷ 54 ∷ 99 ∷ 101 ∷ 52 ∷ 54 ∷ 52 ∷ 54 ∷ 52 ∷ 54 ∷ 52 ∷ 54 ∷ 99 ∷ 101 ∷ 99 ∷ 101 ∷ 99 ∷
    101 ∷ 52 ∷ 54 ∷ 99 ∷ 101 ∷ 52 ∷ 54 ∷ 102 ∷ []

abbrev writes_5_listed : List ℕ
writes_5_listed =
    50 ∷ 32 ∷ 49 ∷ 32 ∷ 48 ∷ 32 ∷ 48 ∷ 10 ∷ 50 ∷ 56 ∷ 32 ∷ 53 ∷ 32 ∷ 51 ∷ 32 ∷ 53 ∷ 10 ∷ 50 ∷ 57 ∷ 32 ∷ 50 ∷ 32 ∷
    48 ∷ 32 ∷ 48 ∷ 10 ∷ 101 ∷ 110 ∷ 100 ∷ 32 ∷ 50 ∷ 57 ∷ 32 ∷ 48 ∷ 10 ∷ []

-- `fece46ce46464646cececece46ce46f`, one bit more: 11 is stored at address 3, and one bit is dropped with answer 3
abbrev too_many_bits : List ℕ
too_many_bits =
    102 ∷ 101 ∷ 99 ∷ 101 ∷ 52 ∷ 54 ∷ 99 ∷ 101 ∷ 52 ∷ 54 ∷ 52 ∷ 54 ∷ 52 ∷ 54 ∷ 52 ∷ 54 ∷ 99 ∷ 101 ∷ 99 ∷ 101 ∷ 99 ∷
    101 ∷ 99 ∷ 101 ∷ 52 ∷ 54 ∷ 99 ∷ 101 ∷ 52 ∷ 54 ∷ 102 ∷ []

abbrev too_many_bits_listed : List ℕ
too_many_bits_listed =
    50 ∷ 32 ∷ 49 ∷ 32 ∷ 48 ∷ 32 ∷ 48 ∷ 10 ∷ 50 ∷ 56 ∷ 32 ∷ 53 ∷ 32 ∷ 51 ∷ 32 ∷ 49 ∷ 49 ∷ 10 ∷ 51 ∷ 49 ∷ 32 ∷ 51 ∷
    32 ∷ 48 ∷ 32 ∷ 48 ∷ 10 ∷ 101 ∷ 110 ∷ 100 ∷ 32 ∷ 51 ∷ 49 ∷ 32 ∷ 48 ∷ 10 ∷ []

-- a write of 5 and 9 from address 63 on, and a read of the same two: 5 is stored nowhere, 9 at address 0
abbrev past_the_memory : List ℕ
past_the_memory =
    102 ∷ 101 ∷ 99 ∷ 101 ∷ 52 ∷ 54 ∷ 99 ∷ 101 ∷ 99 ∷ 101 ∷ 99 ∷ 101 ∷ 99 ∷ 101 ∷ 99 ∷ 101 ∷ 99 ∷ 101 ∷ 99 ∷ 101 ∷ 99 ∷
    101 ∷ 52 ∷ 54 ∷ 99 ∷ 101 ∷ 52 ∷ 54 ∷ 99 ∷ 101 ∷ 52 ∷ 54 ∷ 52 ∷ 54 ∷ 99 ∷ 101 ∷ 102 ∷ 102 ∷ 101 ∷ 99 ∷ 101 ∷ 99 ∷
    101 ∷ 52 ∷ 54 ∷ 99 ∷ 101 ∷ 99 ∷ 101 ∷ 99 ∷ 101 ∷ 99 ∷ 101 ∷ 99 ∷ 101 ∷ 99 ∷ 101 ∷ 97 ∷ 101 ∷ 97 ∷ 101 ∷ 97 ∷ 101 ∷
    97 ∷ 101 ∷ 97 ∷ 101 ∷ 97 ∷ 101 ∷ 97 ∷ 101 ∷ 97 ∷ 101 ∷ 102 ∷ []

abbrev past_the_memory_listed : List ℕ
past_the_memory_listed =
    50 ∷ 32 ∷ 49 ∷ 32 ∷ 48 ∷ 32 ∷ 48 ∷ 10 ∷ 50 ∷ 56 ∷ 32 ∷ 53 ∷ 32 ∷ 54 ∷ 51 ∷ 32 ∷ 53 ∷ 10 ∷ 51 ∷ 54 ∷ 32 ∷ 53 ∷ 32 ∷
    48 ∷ 32 ∷ 57 ∷ 10 ∷ 51 ∷ 55 ∷ 32 ∷ 50 ∷ 32 ∷ 48 ∷ 32 ∷ 48 ∷ 10 ∷ 51 ∷ 57 ∷ 32 ∷ 49 ∷ 32 ∷ 48 ∷ 32 ∷ 48 ∷ 10 ∷ 53 ∷
    56 ∷ 32 ∷ 56 ∷ 32 ∷ 54 ∷ 51 ∷ 32 ∷ 48 ∷ 10 ∷ 54 ∷ 48 ∷ 32 ∷ 56 ∷ 32 ∷ 54 ∷ 51 ∷ 32 ∷ 48 ∷ 10 ∷ 54 ∷ 50 ∷ 32 ∷ 56 ∷
    32 ∷ 54 ∷ 51 ∷ 32 ∷ 48 ∷ 10 ∷ 54 ∷ 52 ∷ 32 ∷ 56 ∷ 32 ∷ 54 ∷ 51 ∷ 32 ∷ 48 ∷ 10 ∷ 54 ∷ 54 ∷ 32 ∷ 56 ∷ 32 ∷ 48 ∷ 32 ∷
    49 ∷ 10 ∷ 54 ∷ 56 ∷ 32 ∷ 56 ∷ 32 ∷ 48 ∷ 32 ∷ 48 ∷ 10 ∷ 55 ∷ 48 ∷ 32 ∷ 56 ∷ 32 ∷ 48 ∷ 32 ∷ 48 ∷ 10 ∷ 55 ∷ 50 ∷ 32 ∷
    56 ∷ 32 ∷ 48 ∷ 32 ∷ 49 ∷ 10 ∷ 55 ∷ 52 ∷ 32 ∷ 50 ∷ 32 ∷ 48 ∷ 32 ∷ 48 ∷ 10 ∷ 101 ∷ 110 ∷ 100 ∷ 32 ∷ 55 ∷ 52 ∷ 32 ∷
    48 ∷ 10 ∷ []

-- 0C and 0A as commands: the chip is an HT, for which the first is CLR TIMER and the second is undefined
abbrev commands_of_ht : List ℕ
commands_of_ht =
    102 ∷ 101 ∷ 99 ∷ 101 ∷ 52 ∷ 54 ∷ 52 ∷ 54 ∷ 52 ∷ 54 ∷ 52 ∷ 54 ∷ 52 ∷ 54 ∷ 52 ∷ 54 ∷ 99 ∷ 101 ∷ 99 ∷ 101 ∷
    52 ∷ 54 ∷ 52 ∷ 54 ∷ 52 ∷ 54 ∷ 52 ∷ 54 ∷ 52 ∷ 54 ∷ 52 ∷ 54 ∷ 52 ∷ 54 ∷ 99 ∷ 101 ∷ 52 ∷ 54 ∷ 99 ∷ 101 ∷ 52 ∷
    54 ∷ 52 ∷ 54 ∷ 102 ∷ []

abbrev commands_of_ht_listed : List ℕ
commands_of_ht_listed =
    50 ∷ 32 ∷ 49 ∷ 32 ∷ 48 ∷ 32 ∷ 48 ∷ 10 ∷ 50 ∷ 54 ∷ 32 ∷ 54 ∷ 32 ∷ 49 ∷ 50 ∷ 32 ∷ 48 ∷ 10 ∷ 52 ∷ 52 ∷ 32 ∷
    55 ∷ 32 ∷ 49 ∷ 48 ∷ 32 ∷ 48 ∷ 10 ∷ 52 ∷ 53 ∷ 32 ∷ 50 ∷ 32 ∷ 48 ∷ 32 ∷ 48 ∷ 10 ∷ 101 ∷ 110 ∷ 100 ∷ 32 ∷
    52 ∷ 53 ∷ 32 ∷ 48 ∷ 10 ∷ []

-- nothing at all is `end 0 0`, `t` is `end 0 1`, and `t t`, a tab and `t` is `bad 3`
pub listings_computed :
    (listing writes_5 ≡ writes_5_listed)
    × (listing too_many_bits ≡ too_many_bits_listed)
    × (listing past_the_memory ≡ past_the_memory_listed)
    × (listing commands_of_ht ≡ commands_of_ht_listed)
    × (listing [] ≡ 101 ∷ 110 ∷ 100 ∷ 32 ∷ 48 ∷ 32 ∷ 48 ∷ 10 ∷ [])
    × (listing (116 ∷ []) ≡ 101 ∷ 110 ∷ 100 ∷ 32 ∷ 48 ∷ 32 ∷ 49 ∷ 10 ∷ [])
    × (listing (116 ∷ 32 ∷ 116 ∷ 9 ∷ 116 ∷ []) ≡ 98 ∷ 97 ∷ 100 ∷ 32 ∷ 51 ∷ 10 ∷ [])
unfolding empty_chip class_of digits decimal field line answer_line bad_line end_line list_from listing stepped stepped_to moved framed_by memory_after settings_after frame taken closed identified ident_taken write_to_taken nibble_taken command_taken read_to_taken offered read_offered code_meaning byte_meaning obeyed_as effect
listings_computed = (refl, refl, refl, refl, refl, refl, refl)
