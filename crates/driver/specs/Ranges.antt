-- RULES "Driver streams": the refusals with which the ladders of a write and of a read both begin. Assumes nothing.
use Rattle.std.specs.Prelude.{ℕ, List, [], ◌∷◌}
use Rattle.ground.specs.declared.Refusal.TheVariants.{NothingAsked, AddressAbove, RunsPastEnd}
use Rattle.ground.specs.Outcomes.{Rung, refused_if}
use Rattle.driver.specs.Refusals.{nothing, address_above, runs_past_end}

-- `count` addresses asked from `first` on.
abbrev pub range_refusals : ℕ → ℕ → List Rung
range_refusals first count =
    refused_if (nothing count) NothingAsked
    ∷ refused_if (address_above first) AddressAbove
    ∷ refused_if (runs_past_end first count) RunsPastEnd ∷ []
