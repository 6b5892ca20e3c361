-- Refreshes of small pictures, computed; and one of 32 nibbles that costs the most. Assumes nothing.
use mathlib.Core.Path.{◌≡◌, refl}
use mathlib.Core.List.{[], ◌∷◌}
use lib.ListN.{length, replicate}
use Rattle.streams.specs.Streams.{write_stream}
use Rattle.series.specs.Series.{series}
use Rattle.series.specs.Runs.{runs}

-- nothing to do
nothing : runs (3 ∷ 4 ∷ 5 ∷ []) (3 ∷ 4 ∷ 5 ∷ []) ≡ []
nothing = refl

-- two equal nibbles between two differences are written along
two_between : runs (0 ∷ 1 ∷ 2 ∷ 3 ∷ 4 ∷ []) (0 ∷ 9 ∷ 2 ∷ 3 ∷ 9 ∷ []) ≡ record { first = 1; nibbles = 9 ∷ 2 ∷ 3 ∷ 9 ∷ [] } ∷ []
two_between = refl

-- three are not
three_between : runs (0 ∷ 1 ∷ 2 ∷ 3 ∷ 4 ∷ []) (9 ∷ 1 ∷ 2 ∷ 3 ∷ 9 ∷ []) ≡ record { first = 0; nibbles = 9 ∷ [] } ∷ record { first = 4; nibbles = 9 ∷ [] } ∷ []
three_between = refl

-- the bound of 277 is met
all_new : length (series (runs (replicate 32 0) (replicate 32 15))) ≡ 277
unfolding write_stream
all_new = refl
