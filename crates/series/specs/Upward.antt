-- The spans of a refresh as one pass upward over the addresses finds them: the code goes so. Assumes nothing.
use Rattle.std.specs.Prelude.{ℕ, suc, ◌+◌, ◌-◌, cond, List, [], ◌∷◌, eqb, leb}
use Rattle.series.specs.Runs.{Span}

-- The addresses at which two pictures differ, the first of which stands at `at`.
abbrev pub differences_from : ℕ → List ℕ → List ℕ → List ℕ
differences_from at [] new = []
differences_from at (o ∷ old) [] = []
differences_from at (o ∷ old) (n ∷ new) = let later = differences_from (suc at) old new in cond (eqb o n) later (at ∷ later)

-- A span that may grow, and the differences after it: one at most two equal nibbles further on makes it longer, and any
-- other closes it and begins the next.
abbrev pub grown : Span → List ℕ → List Span
grown s [] = s ∷ []
grown s (address ∷ addresses) =
    cond (leb address (s.first + s.count + 2))
    (grown (record { first = s.first; count = suc address - s.first }) addresses)
    (s ∷ grown (record { first = address; count = 1 }) addresses)

-- Before the first difference there is no span.
abbrev pub upward : List ℕ → List Span
upward [] = []
upward (address ∷ addresses) = grown (record { first = address; count = 1 }) addresses
