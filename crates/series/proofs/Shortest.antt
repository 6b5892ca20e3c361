-- No writes that make the memory new are cheaper. Assumes nothing.
use mathlib.Core.Path.{◌≡◌, refl}
use mathlib.Core.Bool.{Bool, true, false}
use mathlib.Core.List.{List, ◌∷◌, map}
use Prim.Native.Nat.{ℕ, ◌+◌, ◌≤◌}
use native.Mathlib.Omega.{arith}
use lib.Dec.{eqb}
use borrow.Author.Tests.{eq-eqb}
use Rattle.series.specs.Runs.{Span, spans}
use Rattle.series.proofs.Covers.{cover, price, last, spans_cost, price_cover, Same, none, inside, outside}
use Rattle.series.proofs.Spans.{later, reach, spans_equal, spans_differ, reach_later, reach_joined, cost_later, cost_joined}

-- A set, against spans: it costs at least what they do; and where something stands before the set, at least what a bridge
-- or a write of its own costs that.
pub record AtLeast (ss : List Span) (c : List Bool) : Type 0 where
  pub alone : spans_cost ss ≤ price c
  pub after : reach ss + spans_cost ss ≤ last c + price c

-- every set outside which old is new
pub at_least : {c : List Bool} {old new : List ℕ} → Same c old new → AtLeast (spans old new) c
at_least none = record { alone = omega arith; after = omega arith }
at_least (inside {c = c} {x = o} {y = n} {xs = old} {ys = new} s) = go (eqb o n) refl (at_least s)
  where
    go : (b : Bool) → eqb o n ≡ b → AtLeast (spans old new) c → AtLeast (spans (o ∷ old) (n ∷ new)) (true ∷ c)
    go true e h =
        let k = cost_later (spans old new) in
        let r = reach_later (spans old new) in
        rw (spans_equal o n old new e) (record { alone = omega arith; after = omega arith })
    go false e h =
        let k = cost_joined (spans old new) in
        let r = reach_joined (map later (spans old new)) in
        rw (spans_differ o n old new e) (record { alone = omega arith; after = omega arith })
at_least (outside {c = c} {x = o} {y = n} {xs = old} {ys = new} e s) =
    let h = at_least s in
    let k = cost_later (spans old new) in
    let r = reach_later (spans old new) in
    rw (spans_equal o n old new (eq-eqb o n e)) (record { alone = omega arith; after = omega arith })

pub spans_least : (n : ℕ) (ts : List Span) {old new : List ℕ} → Same (cover n ts) old new → spans_cost (spans old new) ≤ spans_cost ts
spans_least n ts s = let h = at_least s in let p = price_cover n ts in omega arith
