-- The spans of a refresh, by what the first address adds to those of the rest. Assumes nothing.
use mathlib.Core.Path.{◌≡◌, ◌∙◌, refl, sym, ap}
use mathlib.Core.Bool.{Bool, true, false, cond}
use mathlib.Core.List.{List, [], ◌∷◌, map}
use Prim.Native.Nat.{ℕ, zero, suc, ◌+◌, ◌*◌, ◌-◌, ◌≤◌, min}
use native.Mathlib.Omega.{arith}
use native.Mathlib.Nat.{zero-add, suc-add, suc_inj, suc-ne-zero}
use lib.Dec.{eqb, leb, leb-suc-suc}
use lib.ListN.{length}
use borrow.Author.Tests.{leb-true, leb-false, eqb-true}
use Rattle.series.specs.Runs.{Span, furthest, differences, joined, grouped, spans}
use Rattle.series.proofs.Covers.{front, mark, cover, spans_cost, Same, none, inside, outside, same_front}

-- ---- one address further

abbrev pub later : Span → Span
later s = record { first = suc s.first; count = s.count }

joined_later : (a : ℕ) (ss : List Span) → joined (suc a) (map later ss) ≡ map later (joined a ss)
joined_later a [] = refl
joined_later a (s ∷ ss) = rw (suc-add a furthest, leb-suc-suc, same) (go (leb s.first (a + furthest)))
  where
    same : suc s.first + s.count - suc a ≡ s.first + s.count - a
    same = omega arith

    go : (b : Bool)
        → cond b (record { first = suc a; count = s.first + s.count - a } ∷ map later ss) (record { first = suc a; count = 1 } ∷ later s ∷ map later ss)
        ≡ map later (cond b (record { first = a; count = s.first + s.count - a } ∷ ss) (record { first = a; count = 1 } ∷ s ∷ ss))
    go true = refl
    go false = refl

grouped_later : (l : List ℕ) → grouped (map suc l) ≡ map later (grouped l)
grouped_later [] = refl
grouped_later (a ∷ l) = ap (joined (suc a)) (grouped_later l) ∙ joined_later a (grouped l)

module _ (o n : ℕ) (old new : List ℕ) where
  pub spans_equal : eqb o n ≡ true → spans (o ∷ old) (n ∷ new) ≡ map later (spans old new)
  spans_equal e = rw e (grouped_later (differences old new))

  pub spans_differ : eqb o n ≡ false → spans (o ∷ old) (n ∷ new) ≡ joined 0 (map later (spans old new))
  spans_differ e = rw e (ap (joined 0) (grouped_later (differences old new)))

-- ---- what a first difference costs: its own nibble, and the cheaper of a bridge to the first span and a write of its own

abbrev pub reach : List Span → ℕ
reach [] = 21
reach (s ∷ ss) = min (8 * s.first) 21

pub reach_later : (ss : List Span) → reach (map later ss) ≡ min (8 + reach ss) 21
reach_later [] = omega arith
reach_later (s ∷ ss) = omega arith

pub cost_later : (ss : List Span) → spans_cost (map later ss) ≡ spans_cost ss
cost_later [] = refl
cost_later (s ∷ ss) = ap (λ (k : ℕ). 21 + 8 * s.count + k) (cost_later ss)

pub cost_joined : (ss : List Span) → spans_cost (joined 0 (map later ss)) ≡ 8 + reach ss + spans_cost ss
cost_joined [] = omega arith
cost_joined (s ∷ ss) = go (leb (suc s.first) furthest) refl
  where
    go : (b : Bool) → leb (suc s.first) furthest ≡ b
        → spans_cost (cond b (record { first = 0; count = suc s.first + s.count - 0 } ∷ map later ss) (record { first = 0; count = 1 } ∷ later s ∷ map later ss))
        ≡ 8 + reach (s ∷ ss) + spans_cost (s ∷ ss)
    go true e = let h = leb-true (suc s.first) furthest e in let l = cost_later ss in omega arith
    go false e = let h = leb-false (suc s.first) furthest e in let l = cost_later ss in omega arith

pub reach_joined : (ss : List Span) → reach (joined 0 ss) ≡ 0
reach_joined [] = omega arith
reach_joined (s ∷ ss) = go (leb s.first furthest)
  where
    go : (b : Bool) → reach (cond b (record { first = 0; count = s.first + s.count - 0 } ∷ ss) (record { first = 0; count = 1 } ∷ s ∷ ss)) ≡ 0
    go true = refl
    go false = refl

-- ---- every span has an address, and all are inside

pub record Within (n : ℕ) (s : Span) : Type 0 where
  pub some : 1 ≤ s.count
  pub inside : s.first + s.count ≤ n

abbrev pub AllWithin : ℕ → List Span → Type 0
AllWithin n [] = Unit {0}
AllWithin n (s ∷ ss) = Within n s × AllWithin n ss

within_later : (n : ℕ) (ss : List Span) → AllWithin n ss → AllWithin (suc n) (map later ss)
within_later n [] h = tt
within_later n (s ∷ ss) h = (record { some = h.0.some; inside = omega (arith, h.0.inside) }, within_later n ss h.1)

within_joined : (n : ℕ) (ss : List Span) → AllWithin (suc n) ss → AllWithin (suc n) (joined 0 ss)
within_joined n [] h = (record { some = omega arith; inside = omega arith }, tt)
within_joined n (s ∷ ss) h = go (leb s.first furthest)
  where
    go : (b : Bool) → AllWithin (suc n) (cond b (record { first = 0; count = s.first + s.count - 0 } ∷ ss) (record { first = 0; count = 1 } ∷ s ∷ ss))
    go true = (record { some = omega (arith, h.0.some); inside = omega (arith, h.0.inside) }, h.1)
    go false = (record { some = omega arith; inside = omega arith }, h)

pub within : (old new : List ℕ) → AllWithin (length new) (spans old new)
within [] new = tt
within (o ∷ old) [] = tt
within (o ∷ old) (n ∷ new) = go (eqb o n) refl (within_later (length new) (spans old new) (within old new))
  where
    go : (b : Bool) → eqb o n ≡ b → AllWithin (suc (length new)) (map later (spans old new)) → AllWithin (suc (length new)) (spans (o ∷ old) (n ∷ new))
    go true e h = rw (spans_equal o n old new e) h
    go false e h = rw (spans_differ o n old new e) (within_joined (length new) (map later (spans old new)) h)

-- ---- the addresses of the spans

front_mark : (f k : ℕ) (c : List Bool) → front (f + k) c ≡ front f (mark f k c)
front_mark zero k c = rw zero-add
front_mark (suc f) k [] = rw suc-add
front_mark (suc f) k (b ∷ c) = rw suc-add (ap (λ (l : List Bool). true ∷ l) (front_mark f k c))

pub cover_later : (n : ℕ) (ss : List Span) → cover (suc n) (map later ss) ≡ false ∷ cover n ss
cover_later n [] = refl
cover_later n (s ∷ ss) = rw (cover_later n ss)

-- the addresses before the first span, where they are bridged
abbrev pub gap : List Span → ℕ
gap [] = 0
gap (s ∷ ss) = cond (leb (suc s.first) furthest) s.first 0

pub cover_joined : (n : ℕ) (ss : List Span) → cover (suc n) (joined 0 (map later ss)) ≡ true ∷ front (gap ss) (cover n ss)
cover_joined n [] = refl
cover_joined n (s ∷ ss) = go (leb (suc s.first) furthest)
  where
    length_of : suc s.first + s.count - 0 ≡ suc (s.first + s.count)
    length_of = omega arith

    go : (b : Bool)
        → cover (suc n) (cond b (record { first = 0; count = suc s.first + s.count - 0 } ∷ map later ss) (record { first = 0; count = 1 } ∷ later s ∷ map later ss))
        ≡ true ∷ front (cond b s.first 0) (cover n (s ∷ ss))
    go true = rw (length_of, cover_later n ss) (ap (λ (l : List Bool). true ∷ l) (front_mark s.first s.count (cover n ss)))
    go false = rw (cover_later n ss)

-- they are all that differ, and more
pub covered : (old new : List ℕ) → length old ≡ length new → Same (cover (length new) (spans old new)) old new
covered [] [] e = none
covered [] (n ∷ new) e = absurd (suc-ne-zero (length new) (sym e))
covered (o ∷ old) [] e = absurd (suc-ne-zero (length old) e)
covered (o ∷ old) (n ∷ new) e = go (eqb o n) refl (covered old new (suc_inj e))
  where
    go : (b : Bool) → eqb o n ≡ b → Same (cover (length new) (spans old new)) old new → Same (cover (suc (length new)) (spans (o ∷ old) (n ∷ new))) (o ∷ old) (n ∷ new)
    go true e h = rw (spans_equal o n old new e, cover_later (length new) (spans old new)) (outside (eqb-true o n e) h)
    go false e h =
        rw (spans_differ o n old new e, cover_joined (length new) (spans old new)) (inside (same_front (gap (spans old new)) h))
