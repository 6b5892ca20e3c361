-- RULES "Which sheet decides": the two parts, by their numbers. Assumes nothing.
use Rattle.std.specs.Prelude.{ℕ, Bool, List, [], ◌∷◌, Option, Some, None}
use Rattle.ground.specs.Codes.{read_by, is_code, case_of}
use Rattle.ground.specs.declared.Part.{Part}
use Rattle.ground.specs.declared.Part.TheVariants.{Ht, Gn}

abbrev pub part_number : Part → ℕ
part_number Ht = 0
part_number Gn = 1

abbrev pub parts : List Part
parts = Ht ∷ Gn ∷ []

-- There is a part with this number.
abbrev pub is_part : ℕ → Bool
is_part = is_code part_number parts

-- The part that a number stands for; every number that is none's stands for the HT, where it was not refused before.
abbrev pub part_of : ℕ → Part
part_of = case_of part_number parts Ht

unfoldable pub part_read : ℕ → Option Part
part_read = read_by Some None part_number parts
