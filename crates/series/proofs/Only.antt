-- One set alone costs what the spans of a refresh do: theirs. Assumes nothing.
use mathlib.Core.Path.{◌≡◌, refl, ap}
use mathlib.Core.Bool.{Bool, true, false, cond}
use mathlib.Core.List.{List, [], ◌∷◌, map}
use Prim.Native.Nat.{ℕ, suc, ◌+◌, ◌-◌, ◌≤◌}
use native.Mathlib.Omega.{arith}
use lib.Dec.{eqb, leb}
use lib.ListN.{length}
use borrow.Author.Tests.{eq-eqb, le-leb, lt-leb}
use Rattle.series.specs.Runs.{Span, furthest, joined, spans}
use Rattle.series.proofs.Covers.{front, cover, price, last, spans_cost, Same, none, inside, outside}
use Rattle.series.proofs.Spans.{later, reach, gap, spans_equal, spans_differ, reach_later, reach_joined, cost_later, cost_joined, cover_later, cover_joined}
use Rattle.series.proofs.Shortest.{AtLeast, at_least}

-- ---- a gap is bridged where that is the cheaper

gap_far : (ss : List Span) → 13 ≤ reach ss → gap (map later ss) ≡ 0
gap_far [] h = refl
gap_far (s ∷ ss) h = rw (lt-leb (suc (suc s.first)) furthest (omega arith))

gap_near : (ss : List Span) → reach ss ≤ 13 → gap (map later ss) ≡ suc (gap ss)
gap_near [] h = absurd (omega arith)
gap_near (s ∷ ss) h = rw (le-leb (suc (suc s.first)) furthest (omega arith), le-leb (suc s.first) furthest (omega arith))

gap_joined : (ss : List Span) → gap (joined 0 ss) ≡ 0
gap_joined [] = refl
gap_joined (s ∷ ss) = go (leb s.first furthest)
  where
    go : (b : Bool) → gap (cond b (record { first = 0; count = s.first + s.count - 0 } ∷ ss) (record { first = 0; count = 1 } ∷ s ∷ ss)) ≡ 0
    go true = refl
    go false = refl

-- ---- AtLeast's two bounds, each met by one set

pub record Only (n : ℕ) (ss : List Span) (c : List Bool) : Type 0 where
  pub alone : price c ≤ spans_cost ss → c ≡ cover n ss
  pub after : last c + price c ≤ reach ss + spans_cost ss → c ≡ front (gap ss) (cover n ss)

module _ (n : ℕ) (ss : List Span) (c : List Bool) (least : AtLeast ss c) (h : Only n ss c) where
  apart : Only (suc n) (map later ss) (false ∷ c)
  apart =
      let k = cost_later ss in
      let r = reach_later ss in
      record {
        alone = λ p. rw (cover_later n ss) (ap (λ (l : List Bool). false ∷ l) (h.alone (omega arith)));
        after = λ p. rw (gap_far ss (omega arith), cover_later n ss) (ap (λ (l : List Bool). false ∷ l) (h.alone (omega arith)));
      }

  bridged : Only (suc n) (map later ss) (true ∷ c)
  bridged =
      let k = cost_later ss in
      let r = reach_later ss in
      record {
        alone = λ p. absurd (omega arith);
        after = λ p. rw (gap_near ss (omega arith), cover_later n ss) (ap (λ (l : List Bool). true ∷ l) (h.after (omega arith)));
      }

  first_of : Only (suc n) (joined 0 (map later ss)) (true ∷ c)
  first_of =
      let k = cost_joined ss in
      let r = reach_joined (map later ss) in
      record {
        alone = λ p. rw (cover_joined n ss) (ap (λ (l : List Bool). true ∷ l) (h.after (omega arith)));
        after = λ p. rw (gap_joined (map later ss), cover_joined n ss) (ap (λ (l : List Bool). true ∷ l) (h.after (omega arith)));
      }

pub only : {c : List Bool} {old new : List ℕ} → Same c old new → Only (length new) (spans old new) c
only none = record { alone = λ p. refl; after = λ p. refl }
only (inside {c = c} {x = o} {y = n} {xs = old} {ys = new} s) = go (eqb o n) refl (at_least s) (only s)
  where
    go : (b : Bool) → eqb o n ≡ b → AtLeast (spans old new) c → Only (length new) (spans old new) c → Only (suc (length new)) (spans (o ∷ old) (n ∷ new)) (true ∷ c)
    go true e l h = rw (spans_equal o n old new e) (bridged (length new) (spans old new) c l h)
    go false e l h = rw (spans_differ o n old new e) (first_of (length new) (spans old new) c l h)
only (outside {c = c} {x = o} {y = n} {xs = old} {ys = new} e s) =
    rw (spans_equal o n old new (eq-eqb o n e)) (apart (length new) (spans old new) c (at_least s) (only s))
