-- A rule over the numbers below n, from one test that antt computes: the lists of its two sides are the same list.
-- Assumes nothing.
use Rattle.std.specs.Prelude.{◌≡◌, List, [], ◌∷◌, ℕ, zero, suc, ◌+◌, ◌<◌, get_or}
use Rattle.std.proofs.Common.{◌∙◌, sym, ap, add-zero, zero-add, add-suc, suc-add, le_of_suc-le-suc, not-suc-le-zero}

module _ {A : Type 0} where
  -- the values of f at the n numbers from i on
  abbrev pub values : (ℕ → A) → ℕ → ℕ → List A
  values f i zero = []
  values f i (suc n) = f i ∷ values f (suc i) n

  from : (f : ℕ → A) (i n k : ℕ) (d : A) → k < n → get_or (values f i n) k d ≡ f (i + k)
  from f i zero k d h = absurd (not-suc-le-zero h)
  from f i (suc n) zero d h = rw add-zero
  from f i (suc n) (suc k) d h = from f (suc i) n k d (le_of_suc-le-suc h) ∙ ap f (suc-add i k ∙ sym (add-suc i k))

  pub values_at : (f : ℕ → A) (n k : ℕ) (d : A) → k < n → get_or (values f 0 n) k d ≡ f k
  values_at f n k d h = from f 0 n k d h ∙ ap f (zero-add k)

  pub agree : (f g : ℕ → A) (n : ℕ) → values f 0 n ≡ values g 0 n → (k : ℕ) → k < n → f k ≡ g k
  agree f g n e k h = sym (values_at f n k (f k) h) ∙ ap (λ (l : List A). get_or l k (f k)) e ∙ values_at g n k (f k) h
