-- Of the writes that make the memory new and cost the least, those of the refresh come first. Assumes nothing.
use mathlib.Core.Path.{◌≡◌, ◌∙◌, refl, sym, ap, subst}
use mathlib.Core.Bool.{Bool, true, false, cond, false≢true}
use mathlib.Core.List.{List, [], ◌∷◌, ◌++◌, map}
use Prim.Native.Nat.{ℕ, zero, suc, ◌+◌, ◌*◌, ◌-◌, ◌≤◌, ◌<◌}
use native.Mathlib.Omega.{arith}
use native.Mathlib.Nat.{zero-add, suc-add, not-suc-le-zero, le_of_suc-le-suc}
use lib.Dec.{eqb, leb, ltb}
use lib.ListN.{length, take, drop, get_or}
use borrow.Author.Tests.{eq-eqb, leb-true, leb-false, ltb-true, ltb-false}
use Rattle.series.specs.Order.{NotAfter, ends, below, level}
use Rattle.series.specs.Runs.{Span, furthest, joined, spans, flat}
use Rattle.series.proofs.Covers.{front, mark, cover, price, last, last_mark, price_tail, price_cover, spans_cost, Same, none, inside, outside, same_more, same_size}
use Rattle.series.proofs.Spans.{later, spans_equal, spans_differ, cost_later, within}
use Rattle.series.proofs.Shortest.{at_least}
use Rattle.series.proofs.Only.{only}

-- ---- no set that costs the least has an address before the first span's

abbrev lead : List Span → ℕ
lead [] = 0
lead (s ∷ ss) = s.first

lead_joined : (ss : List Span) → lead (joined 0 ss) ≡ 0
lead_joined [] = refl
lead_joined (s ∷ ss) = go (leb s.first furthest)
  where
    go : (b : Bool) → lead (cond b (record { first = 0; count = s.first + s.count - 0 } ∷ ss) (record { first = 0; count = 1 } ∷ s ∷ ss)) ≡ 0
    go true = refl
    go false = refl

lead_later : (ss : List Span) → lead (map later ss) ≤ suc (lead ss)
lead_later [] = omega arith
lead_later (s ∷ ss) = omega arith

lead_zero : (o n : ℕ) {c : List Bool} {old new : List ℕ} → Same c old new → price (true ∷ c) ≤ spans_cost (spans (o ∷ old) (n ∷ new))
    → lead (spans (o ∷ old) (n ∷ new)) ≡ 0
lead_zero o n {c} {old} {new} s h = go (eqb o n) refl
  where
    go : (b : Bool) → eqb o n ≡ b → lead (spans (o ∷ old) (n ∷ new)) ≡ 0
    go true e =
        let l = at_least s in
        let k : spans_cost (spans (o ∷ old) (n ∷ new)) ≡ spans_cost (spans old new) =
        ap spans_cost (spans_equal o n old new e) ∙ cost_later (spans old new) in
        absurd (omega (arith, l.after))
    go false e = rw (spans_differ o n old new e) (lead_joined (map later (spans old new)))

lead_least : (i k : ℕ) (c : List Bool) {old new : List ℕ} → 1 ≤ k → Same (mark i k c) old new → price (mark i k c) ≤ spans_cost (spans old new)
    → lead (spans old new) ≤ i
lead_least zero zero c p s h = absurd (not-suc-le-zero p)
lead_least zero (suc k) [] p none h = omega arith
lead_least zero (suc k) (b ∷ c) p (inside {x = o} {y = n} s) h = omega (arith, lead_zero o n s h)
lead_least (suc i) k [] p none h = omega arith
lead_least (suc i) k (true ∷ c) p (inside {x = o} {y = n} s) h = omega (arith, lead_zero o n s h)
lead_least (suc i) k (false ∷ c) p (outside {x = o} {y = n} {xs = old} {ys = new} e s) h =
    let q = spans_equal o n old new (eq-eqb o n e) in
    let r = lead_least i k c p s (omega (arith, ap spans_cost q, cost_later (spans old new))) in
    rw q (omega (arith, lead_later (spans old new)))

-- ---- a span that ends where a set goes on costs no 21

adjoin_front : (k : ℕ) (c : List Bool) → get_or c k false ≡ true → last (front k c) + price (front k c) ≤ 8 * k + price c
adjoin_front zero [] e = absurd (false≢true e)
adjoin_front zero (true ∷ c) e = omega arith
adjoin_front zero (false ∷ c) e = absurd (false≢true e)
adjoin_front (suc k) [] e = absurd (false≢true e)
adjoin_front (suc k) (b ∷ c) e = let h = adjoin_front k c e in let t = price_tail b c in omega arith

adjoin : (i k : ℕ) (c : List Bool) → get_or c (i + k) false ≡ true → price (mark i k c) ≤ 8 * k + price c
adjoin zero k c e = let h = adjoin_front k c (rw zero-add at e) in omega arith
adjoin (suc i) k [] e = omega arith
adjoin (suc i) k (false ∷ c) e = adjoin i k c (rw suc-add at e)
adjoin (suc i) k (true ∷ c) e = let h = adjoin i k c (rw suc-add at e) in let l = last_mark i k c in omega arith

past_front : (k : ℕ) (c : List Bool) → get_or (front k c) k false ≡ get_or c k false
past_front zero c = refl
past_front (suc k) [] = refl
past_front (suc k) (b ∷ c) = past_front k c

past_mark : (i k : ℕ) (c : List Bool) → get_or (mark i k c) (i + k) false ≡ get_or c (i + k) false
past_mark zero k c = rw zero-add (past_front k c)
past_mark (suc i) k [] = refl
past_mark (suc i) k (b ∷ c) = rw suc-add (past_mark i k c)

in_front : (k j : ℕ) (c : List Bool) → j < k → j < length (front k c) → get_or (front k c) j false ≡ true
in_front zero j c h l = absurd (not-suc-le-zero h)
in_front (suc k) j [] h l = absurd (not-suc-le-zero l)
in_front (suc k) zero (b ∷ c) h l = refl
in_front (suc k) (suc j) (b ∷ c) h l = in_front k j c (le_of_suc-le-suc h) (le_of_suc-le-suc l)

in_mark : (i k j : ℕ) (c : List Bool) → j < k → i + j < length (mark i k c) → get_or (mark i k c) (i + j) false ≡ true
in_mark zero k j c h l = rw zero-add (in_front k j c h (rw zero-add at l))
in_mark (suc i) k j [] h l = absurd (not-suc-le-zero l)
in_mark (suc i) k j (b ∷ c) h l = rw suc-add (in_mark i k j c h (le_of_suc-le-suc (rw suc-add at l)))

-- ---- when the first span is new, the refresh of the rest is the rest of the refresh

abbrev renew : ℕ → List ℕ → List ℕ → List ℕ
renew k old new = take k new ++ drop k old

-- the memory once everything up to a span's end is new
abbrev left : Span → List ℕ → List ℕ → List ℕ
left t old new = renew (t.first + t.count) old new

renew_front : (k : ℕ) (c : List Bool) {old new : List ℕ} → Same (front k c) old new → Same c (renew k old new) new
renew_front zero c s = s
renew_front (suc k) [] none = none
renew_front (suc k) (b ∷ c) (inside s) = same_more b refl (renew_front k c s)

renew_mark : (i k : ℕ) (c : List Bool) {old new : List ℕ} → Same (mark i k c) old new → Same c (renew (i + k) old new) new
renew_mark zero k c s = rw zero-add (renew_front k c s)
renew_mark (suc i) k [] none = rw suc-add none
renew_mark (suc i) k (true ∷ c) (inside s) = rw suc-add (inside (renew_mark i k c s))
renew_mark (suc i) k (false ∷ c) (outside e s) = rw suc-add (outside refl (renew_mark i k c s))

abbrev past : List Span → ℕ
past [] = 0
past (s ∷ ss) = s.first + s.count

abbrev rest : List Span → List Span
rest [] = []
rest (s ∷ ss) = ss

module _ (o n : ℕ) (old new : List ℕ) where
  -- with one address more, the same in both
  one_more_lem : (x : List ℕ) (ss : List Span) → spans x new ≡ ss → spans (n ∷ x) (n ∷ new) ≡ map later ss
  one_more_lem x ss e = spans_equal n n x new (eq-eqb n n refl) ∙ ap (map later) e

  rest_equal : (ss : List Span) → eqb o n ≡ true → spans old new ≡ ss → spans (renew (past ss) old new) new ≡ rest ss
      → spans (renew (past (map later ss)) (o ∷ old) (n ∷ new)) (n ∷ new) ≡ rest (map later ss)
  rest_equal [] q e h = spans_equal o n old new q ∙ ap (map later) e
  rest_equal (s ∷ ss) q e h = rw suc-add (one_more_lem (renew (s.first + s.count) old new) ss h)

  rest_differ : (ss : List Span) → spans old new ≡ ss → spans (renew (past ss) old new) new ≡ rest ss
      → spans (renew (past (joined 0 (map later ss))) (o ∷ old) (n ∷ new)) (n ∷ new) ≡ rest (joined 0 (map later ss))
  rest_differ [] e h = one_more_lem old [] e
  rest_differ (s ∷ ss) e h = go (leb (suc s.first) furthest)
    where
      to_end : 0 + (suc s.first + s.count - 0) ≡ suc (s.first + s.count)
      to_end = omega arith

      after : Bool → List Span
      after b = cond b (record { first = 0; count = suc s.first + s.count - 0 } ∷ map later ss) (record { first = 0; count = 1 } ∷ later s ∷ map later ss)

      go : (b : Bool) → spans (renew (past (after b)) (o ∷ old) (n ∷ new)) (n ∷ new) ≡ rest (after b)
      go true = rw to_end (one_more_lem (renew (s.first + s.count) old new) ss h)
      go false = one_more_lem old (s ∷ ss) e

rest_of : (old new : List ℕ) → spans (renew (past (spans old new)) old new) new ≡ rest (spans old new)
rest_of [] new = refl
rest_of (o ∷ old) [] = refl
rest_of (o ∷ old) (n ∷ new) = go (eqb o n) refl (rest_of old new)
  where
    go : (b : Bool) → eqb o n ≡ b → spans (renew (past (spans old new)) old new) new ≡ rest (spans old new)
        → spans (renew (past (spans (o ∷ old) (n ∷ new))) (o ∷ old) (n ∷ new)) (n ∷ new) ≡ rest (spans (o ∷ old) (n ∷ new))
    go true q h =
        subst (λ (l : List Span). spans (renew (past l) (o ∷ old) (n ∷ new)) (n ∷ new) ≡ rest l) (sym (spans_equal o n old new q))
        (rest_equal o n old new (spans old new) q refl h)
    go false q h =
        subst (λ (l : List Span). spans (renew (past l) (o ∷ old) (n ∷ new)) (n ∷ new) ≡ rest l) (sym (spans_differ o n old new q))
        (rest_differ o n old new (spans old new) refl h)

-- ---- the first of some cheapest spans: it begins no earlier than the refresh's, and if it begins there it is no shorter

module _ (t : Span) (ts : List Span) (old new : List ℕ) (s : Same (cover (length new) (t ∷ ts)) old new)
    (tight : spans_cost (t ∷ ts) ≡ spans_cost (spans old new)) where
  count_least : (u : Span) (us : List Span) → spans old new ≡ u ∷ us → u.first ≡ t.first → u.count ≤ t.count
  count_least u us e f = go (leb u.count t.count) refl
    where
      go : (b : Bool) → leb u.count t.count ≡ b → u.count ≤ t.count
      go true q = leb-true u.count t.count q
      go false q =
          let shorter = leb-false u.count t.count q in
          let n : ℕ = length new in
          let c : List Bool = cover n ts in
          let p = price_cover n (t ∷ ts) in
          let here : cover n (t ∷ ts) ≡ cover n (u ∷ us) = (only s).alone (omega arith) ∙ ap (cover n) e in
          let room = rw e at (within old new) in
          let size : length (cover n (u ∷ us)) ≡ n = sym (ap length here) ∙ same_size s in
          let on : get_or (cover n (u ∷ us)) (u.first + t.count) false ≡ true =
          in_mark u.first u.count t.count (cover n us) shorter (omega (arith, room.0.inside)) in
          let more : get_or c (t.first + t.count) false ≡ true =
          sym (past_mark t.first t.count c) ∙ rw (here, ← f) on in
          absurd (omega (arith, adjoin t.first t.count c more, (at_least s).alone, price_cover n ts))

  first_least : 1 ≤ t.count → lead (spans old new) ≤ t.first
  first_least some =
      let p = price_cover (length new) (t ∷ ts) in
      lead_least t.first t.count (cover (length new) ts) some s (omega arith)

  -- from what is left after it to the whole
  whole : 1 ≤ t.count → (spans_cost ts ≡ spans_cost (spans (left t old new) new) → NotAfter (flat (spans (left t old new) new)) (flat ts))
      → NotAfter (flat (spans old new)) (flat (t ∷ ts))
  whole some ih = go (spans old new) refl
    where
      go : (us : List Span) → spans old new ≡ us → NotAfter (flat us) (flat (t ∷ ts))
      go [] e = ends
      go (u ∷ us) e = by_first (ltb u.first t.first) refl
        where
          not_later : u.first ≤ t.first
          not_later = rw e at (first_least some)

          same_span : u.first ≡ t.first → u.count ≡ t.count → NotAfter (flat us) (flat ts)
          same_span f k =
              let is : spans (left t old new) new ≡ us =
              rw (← f, ← k) (subst (λ (l : List Span). spans (renew (past l) old new) new ≡ rest l) e (rest_of old new)) in
              rw is at (ih (rw is (omega (arith, ap spans_cost e))))

          by_count : (b : Bool) → ltb u.count t.count ≡ b → u.first ≡ t.first → NotAfter (u.count ∷ flat us) (t.count ∷ flat ts)
          by_count true q f = below (ltb-true u.count t.count q)
          by_count false q f =
              let k : u.count ≡ t.count = omega (arith, ltb-false u.count t.count q, count_least u us e f) in
              level k (same_span f k)

          by_first : (b : Bool) → ltb u.first t.first ≡ b → NotAfter (flat (u ∷ us)) (flat (t ∷ ts))
          by_first true q = below (ltb-true u.first t.first q)
          by_first false q =
              let f : u.first ≡ t.first = omega (arith, ltb-false u.first t.first q, not_later) in
              level f (by_count (ltb u.count t.count) refl f)

-- ---- first among the cheapest

abbrev pub AllSome : List Span → Type 0
AllSome [] = Unit {0}
AllSome (s ∷ ss) = (1 ≤ s.count) × AllSome ss

pub foremost : (ts : List Span) (old new : List ℕ) → AllSome ts → Same (cover (length new) ts) old new
    → spans_cost ts ≡ spans_cost (spans old new) → NotAfter (flat (spans old new)) (flat ts)
foremost [] old new some s tight = go (spans old new) (sym tight)
  where
    go : (ss : List Span) → spans_cost ss ≡ 0 → NotAfter (flat ss) []
    go [] e = ends
    go (u ∷ ss) e = absurd (omega arith)
foremost (t ∷ ts) old new some s tight =
    whole t ts old new s tight some.0
    (foremost ts (left t old new) new some.1 (renew_mark t.first t.count (cover (length new) ts) s))
