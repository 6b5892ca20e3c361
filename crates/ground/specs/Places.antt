-- RULES "Driver streams": the place of a fault is the lowest index at fault. Assumes nothing.
use Rattle.std.specs.Prelude.{ℕ, suc, Bool, cond, List, [], ◌∷◌, ltb, length}

-- The lowest place of a list at which a test holds, and the list's length where it holds nowhere.
abbrev pub lowest : (ℕ → Bool) → List ℕ → ℕ
lowest test [] = 0
lowest test (value ∷ values) = cond (test value) 0 (suc (lowest test values))

-- The test holds somewhere.
abbrev pub somewhere : (ℕ → Bool) → List ℕ → Bool
somewhere test values = ltb (lowest test values) (length values)
