-- One pass upward finds the spans of a refresh. Assumes nothing.
use mathlib.Core.Path.{◌≡◌, ◌∙◌, refl, ap}
use mathlib.Core.Bool.{Bool, true, false, cond}
use mathlib.Core.List.{List, [], ◌∷◌, map}
use Prim.Native.Nat.{ℕ, suc, ◌+◌, ◌-◌, ◌≤◌}
use native.Mathlib.Omega.{arith}
use lib.Dec.{eqb, leb}
use Rattle.series.specs.Runs.{Span, furthest, differences, joined, grouped, spans}
use Rattle.series.specs.Upward.{differences_from, grown, upward}

-- ---- the addresses, counted from any place on

shifted : (at : ℕ) (old new : List ℕ) → differences_from (suc at) old new ≡ map suc (differences_from at old new)
shifted at [] new = refl
shifted at (o ∷ old) [] = refl
shifted at (o ∷ old) (n ∷ new) = rw (shifted (suc at) old new) (go (eqb o n) (differences_from (suc at) old new))
  where
    go : (b : Bool) (l : List ℕ) → cond b (map suc l) (suc at ∷ map suc l) ≡ map suc (cond b l (at ∷ l))
    go true l = refl
    go false l = refl

pub differences_from_lem : (old new : List ℕ) → differences_from 0 old new ≡ differences old new
differences_from_lem [] new = refl
differences_from_lem (o ∷ old) [] = refl
differences_from_lem (o ∷ old) (n ∷ new) = rw (shifted 0 old new, differences_from_lem old new)

-- ---- addresses that ascend, none below a number

abbrev Ascend : ℕ → List ℕ → Type 0
Ascend least [] = Unit {0}
Ascend least (a ∷ l) = (least ≤ a) × Ascend (suc a) l

ascend_weaker : (k least : ℕ) (l : List ℕ) → k ≤ least → Ascend least l → Ascend k l
ascend_weaker k least [] h p = tt
ascend_weaker k least (a ∷ l) h p = (omega (arith, p.0), p.1)

ascending : (at : ℕ) (old new : List ℕ) → Ascend at (differences_from at old new)
ascending at [] new = tt
ascending at (o ∷ old) [] = tt
ascending at (o ∷ old) (n ∷ new) = go (eqb o n) (ascending (suc at) old new)
  where
    go : (b : Bool) → Ascend (suc at) (differences_from (suc at) old new) → Ascend at (cond b (differences_from (suc at) old new) (at ∷ differences_from (suc at) old new))
    go true p = ascend_weaker at (suc at) (differences_from (suc at) old new) (omega arith) p
    go false p = (omega arith, p)

-- ---- a span in front of others, as an address is

abbrev merged : Span → List Span → List Span
merged u [] = u ∷ []
merged u (s ∷ ss) =
    cond (leb s.first (u.first + u.count + 2)) (record { first = u.first; count = s.first + s.count - u.first } ∷ ss) (u ∷ s ∷ ss)

merged_one : (a : ℕ) (ss : List Span) → merged (record { first = a; count = 1 }) ss ≡ joined a ss
merged_one a [] = refl
merged_one a (s ∷ ss) = rw three
  where
    three : a + 1 + 2 ≡ a + furthest
    three = omega arith

-- the first span of ascending addresses begins at the first of them
abbrev Begins : ℕ → List Span → Type 0
Begins least [] = Unit {0}
Begins least (s ∷ ss) = least ≤ s.first

begins : (least : ℕ) (l : List ℕ) → Ascend least l → Begins least (grouped l)
begins least [] p = tt
begins least (a ∷ l) p = go (grouped l)
  where
    go : (ss : List Span) → Begins least (joined a ss)
    go [] = p.0
    go (s ∷ ss) = at (leb s.first (a + furthest))
      where
        at : (b : Bool) → Begins least (cond b (record { first = a; count = s.first + s.count - a } ∷ ss) (record { first = a; count = 1 } ∷ s ∷ ss))
        at true = p.0
        at false = p.0

-- a span grown to an address, in front of others, is the span in front of those that the address joins
module _ (u : Span) (a : ℕ) (h : u.first ≤ a) where
  one_span : suc a - u.first ≡ a + 1 - u.first
  one_span = omega arith

  to_address : u.first + (suc a - u.first) + 2 ≡ a + furthest
  to_address = omega arith

  merged_joined : (ss : List Span) → Begins a ss
      → cond (leb a (u.first + u.count + 2)) (merged (record { first = u.first; count = suc a - u.first }) ss) (u ∷ joined a ss)
      ≡ merged u (joined a ss)
  merged_joined [] k = rw one_span
  merged_joined (s ∷ ss) k = rw to_address (go (leb s.first (a + furthest)))
    where
      to_end : s.first + s.count - u.first ≡ a + (s.first + s.count - a) - u.first
      to_end = omega arith

      near : List Span
      near = record { first = a; count = s.first + s.count - a } ∷ ss

      far : List Span
      far = record { first = a; count = 1 } ∷ s ∷ ss

      go : (b : Bool)
          → cond (leb a (u.first + u.count + 2))
          (cond b (record { first = u.first; count = s.first + s.count - u.first } ∷ ss) (record { first = u.first; count = suc a - u.first } ∷ s ∷ ss))
          (u ∷ cond b near far)
          ≡ merged u (cond b near far)
      go true = rw to_end
      go false = rw one_span

grown_merged : (u : Span) (l : List ℕ) → Ascend u.first l → grown u l ≡ merged u (grouped l)
grown_merged u [] p = refl
grown_merged u (a ∷ l) p =
    let near = grown_merged (record { first = u.first; count = suc a - u.first }) l (ascend_weaker u.first (suc a) l (omega (arith, p.0)) p.1) in
    let far = grown_merged (record { first = a; count = 1 }) l (ascend_weaker a (suc a) l (omega arith) p.1) ∙ merged_one a (grouped l) in
    rw (near, far) (merged_joined u a p.0 (grouped l) (begins a l (ascend_weaker a (suc a) l (omega arith) p.1)))

upward_grouped : (l : List ℕ) → Ascend 0 l → upward l ≡ grouped l
upward_grouped [] p = refl
upward_grouped (a ∷ l) p =
    grown_merged (record { first = a; count = 1 }) l (ascend_weaker a (suc a) l (omega arith) p.1) ∙ merged_one a (grouped l)

-- the pass over both pictures
pub upward_spans : (old new : List ℕ) → upward (differences_from 0 old new) ≡ spans old new
upward_spans old new = upward_grouped (differences_from 0 old new) (ascending 0 old new) ∙ ap grouped (differences_from_lem old new)
