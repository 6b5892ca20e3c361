-- RULES "Refresh": number order, of lists by their first entries that differ. Assumes nothing.
use Rattle.std.specs.Prelude.{◌≡◌, List, [], ◌∷◌, ℕ, ◌<◌}

-- The first list is the second or comes before it. A list comes before those that go on from its end.
pub data NotAfter : List ℕ → List ℕ → Type 0 where
  ends : {ys : List ℕ} → NotAfter [] ys
  below : {x y : ℕ} {xs ys : List ℕ} → x < y → NotAfter (x ∷ xs) (y ∷ ys)
  level : {x y : ℕ} {xs ys : List ℕ} → x ≡ y → NotAfter xs ys → NotAfter (x ∷ xs) (y ∷ ys)
