-- RULES "Refresh": the best of all series that make the wanted picture of the standing one. Assumes nothing.
use Rattle.std.specs.Prelude.{◌≡◌, List, ℕ, ◌≤◌, length}
use Rattle.series.specs.Series.{Write, AllFit, series, drawn}
use Rattle.series.specs.Runs.{places}
use Rattle.series.specs.Order.{NotAfter}

-- Any number of writes inside the picture, in any order, over each other or not, of any values.
pub record Renews (standing wanted : List ℕ) (ws : List Write) : Type 0 where
  pub fit : AllFit (length standing) ws
  pub done : drawn ws standing ≡ wanted

-- None has fewer samples, and of those that have as many none comes before it, by its first addresses and counts.
pub record Best (standing wanted : List ℕ) (ws : List Write) : Type 0 where
  pub renews : Renews standing wanted ws
  pub shortest : (vs : List Write) → Renews standing wanted vs → length (series ws) ≤ length (series vs)
  pub foremost : (vs : List Write) → Renews standing wanted vs → length (series vs) ≡ length (series ws)
      → NotAfter (places ws) (places vs)
