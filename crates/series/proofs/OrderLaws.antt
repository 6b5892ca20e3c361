-- The order of the dictionary, on spans. Assumes nothing.
use mathlib.Core.Path.{◌≡◌, ◌∙◌, refl, ap}
use mathlib.Core.List.{List, [], ◌∷◌}
use Prim.Native.Nat.{ℕ}
use native.Mathlib.Omega.{arith}
use Rattle.series.specs.Runs.{Span, flat}
use Rattle.series.specs.Order.{NotAfter, ends, below, level}

pub not_after_both : {xs ys : List ℕ} → NotAfter xs ys → NotAfter ys xs → xs ≡ ys
not_after_both ends ends = refl
not_after_both (below h) (below k) = absurd (omega arith)
not_after_both (below h) (level e q) = absurd (omega arith)
not_after_both (level e p) (below k) = absurd (omega arith)
not_after_both (level e p) (level f q) = let t = not_after_both p q in cc

pub flat_one : (ss ts : List Span) → flat ss ≡ flat ts → ss ≡ ts
flat_one [] [] e = refl
flat_one [] (t ∷ ts) e = absurd (let z : ◌≡◌ {A = ℕ} 0 1 = cc in omega arith)
flat_one (s ∷ ss) [] e = absurd (let z : ◌≡◌ {A = ℕ} 0 1 = cc in omega arith)
flat_one (s ∷ ss) (t ∷ ts) e =
    let f : s.first ≡ t.first = cc in
    let k : s.count ≡ t.count = cc in
    let r : flat ss ≡ flat ts = cc in
    let rest = flat_one ss ts r in
    ap (λ (x : Span). x ∷ ss) (both f k) ∙ ap (λ (l : List Span). t ∷ l) rest
  where
    both : s.first ≡ t.first → s.count ≡ t.count → s ≡ t
    both f k = λ i. record { first = f i; count = k i }
