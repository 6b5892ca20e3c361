-- RULES "Refresh": the writes of a refresh, one for each run of differences, a run reaching over at most two equal nibbles. That no
-- series is better is said in Best.antt. Assumes nothing.
use Rattle.std.specs.Prelude.{ℕ, suc, ◌+◌, ◌-◌, cond, List, [], ◌∷◌, map, eqb, leb, length, take, drop}
use Rattle.series.specs.Series.{Write}

-- The addresses at which two pictures differ, ascending.
abbrev pub differences : List ℕ → List ℕ → List ℕ
differences [] wanted = []
differences (s ∷ standing) [] = []
differences (s ∷ standing) (w ∷ wanted) =
    let later = map suc (differences standing wanted) in cond (eqb s w) later (0 ∷ later)

-- Neighbouring addresses: the first of them, and how many they are.
pub record Span : Type 0 where
  pub first : ℕ
  pub count : ℕ

-- The furthest that a difference is from the next one for both to go into one write: two equal nibbles between them are
-- 16 samples more and three are 24, where one more write is 21.
abbrev pub furthest : ℕ
furthest = 3

-- An address below some spans: where at most two addresses lie between it and the first of them, that span reaches down
-- to it, with its end as it was. Else it is a span of its own.
abbrev pub joined : ℕ → List Span → List Span
joined address [] = record { first = address; count = 1 } ∷ []
joined address (s ∷ ss) =
    cond (leb s.first (address + furthest))
    (record { first = address; count = s.first + s.count - address } ∷ ss)
    (record { first = address; count = 1 } ∷ s ∷ ss)

-- Ascending addresses in runs.
abbrev pub grouped : List ℕ → List Span
grouped [] = []
grouped (address ∷ addresses) = joined address (grouped addresses)

abbrev pub spans : List ℕ → List ℕ → List Span
spans standing wanted = grouped (differences standing wanted)

-- A span's write has the wanted nibbles of its addresses.
abbrev pub write_of : List ℕ → Span → Write
write_of wanted s = record { first = s.first; nibbles = take s.count (drop s.first wanted) }

-- The writes of a refresh, ascending.
abbrev pub runs : List ℕ → List ℕ → List Write
runs standing wanted = map (write_of wanted) (spans standing wanted)

-- The addresses of a write; and the first address and the count of each of some writes, in one list.
abbrev pub span_of : Write → Span
span_of w = record { first = w.first; count = length w.nibbles }

abbrev pub flat : List Span → List ℕ
flat [] = []
flat (s ∷ ss) = s.first ∷ s.count ∷ flat ss

abbrev pub places : List Write → List ℕ
places ws = flat (map span_of ws)
