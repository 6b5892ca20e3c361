-- A counter of size m, which steps from x to (x + 1) % m: where k steps lead is a remainder, and how often it comes back to 0 on the way
-- is a difference of two quotients. Assumes nothing.
use mathlib.Core.Path.{◌≡◌, ◌∙◌, refl, sym, ap}
use mathlib.Core.Bool.{Bool, true, false, cond}
use Prim.Native.Nat.{ℕ, zero, suc, ◌+◌, ◌-◌, ◌*◌, ◌/◌, ◌%◌, ◌∣◌, ◌≤◌, ◌<◌}
use native.Mathlib.Nat.{add-zero, sub_self, mod-mod_of_dvd, mod-lt, mod-mod, mod-add-mod, div-add-mod', mul-add-div_right, div-eq_of_lt}
use native.Mathlib.Omega.{arith}
use borrow.Author.Tests.{eqb-true, eqb-false}
use lib.Dec.{eqb, eqb-suc-zero}
use Rattle.clock.specs.Walks.{walked, met, next, rounds}
use Rattle.clock.proofs.WalkLaws.{met_of, met_le}

-- What the code works out: where k steps from x lead, no step leaving x where it is, also out of range; and the rounds.
abbrev pub landing : ℕ → ℕ → ℕ → ℕ
landing m k x = cond (eqb k 0) x ((x + k) % m)

abbrev pub quotients : ℕ → ℕ → ℕ → ℕ
quotients m k x = (x + k) / m - x / m

-- of a + 1 with a < m there is one whole m where nothing is left, and none elsewhere
one_round : (t m a y : ℕ) (z : Bool) → eqb y 0 ≡ z → t * m + y ≡ a + 1 → a < m → t ≡ cond z 1 0
one_round zero m a y true e whole less =
    let none = eqb-true y 0 e in let no : ⊥ = omega arith in absurd no
one_round zero m a y false e whole less = refl
one_round (suc zero) m a y true e whole less = refl
one_round (suc zero) m a y false e whole less =
    let some = eqb-false y 0 e in let no : ⊥ = omega arith in absurd no
one_round (suc (suc t)) m a y z e whole less = let no : ⊥ = omega arith in absurd no

module _ (m : ℕ) (pos : 0 < m) where
  -- after one step more the counter is where the rest leads from the first step
  landing_suc : (k x : ℕ) → landing m (suc k) x ≡ landing m k (next m x)
  landing_suc zero x = refl
  landing_suc (suc k) x =
      let whole : x + suc (suc k) ≡ x + 1 + suc k = omega arith in
      rw (eqb-suc-zero (suc k), eqb-suc-zero k) (ap (λ (y : ℕ). y % m) whole ∙ sym (mod-add-mod (x + 1) m (suc k)))

  pub walked_landing : (k x : ℕ) → walked (next m) k x ≡ landing m k x
  unfolding walked
  walked_landing zero x = refl
  walked_landing (suc k) x = walked_landing k (next m x) ∙ sym (landing_suc k x)

  -- what is left of x is enough to count the rounds
  rest_counts : (k x : ℕ) → quotients m k x ≡ (x % m + k) / m
  rest_counts k x =
      let whole : x + k ≡ x / m * m + (x % m + k) = omega (arith, div-add-mod' x m) in
      let cut : (x + k) / m ≡ x / m + (x % m + k) / m = rw whole (mul-add-div_right pos (x / m) (x % m + k)) in
      omega arith

  -- the rounds of k + 1 steps are those after the first step, and one more where that one ends a round
  quotients_suc : (k x : ℕ) → quotients m (suc k) x ≡ cond (eqb (next m x) 0) (suc (quotients m k (next m x))) (quotients m k (next m x))
  quotients_suc k x = go (eqb (next m x) 0) refl
    where
      rest : (x % m + 1) % m ≡ next m x
      rest = mod-add-mod x m 1

      first : (z : Bool) → eqb (next m x) 0 ≡ z → (x % m + 1) / m ≡ cond z 1 0
      first z e =
          one_round ((x % m + 1) / m) m (x % m) (next m x) z e
          (ap (λ (y : ℕ). (x % m + 1) / m * m + y) (sym rest) ∙ div-add-mod' (x % m + 1) m)
          (mod-lt x pos)

      whole : x % m + suc k ≡ (x % m + 1) / m * m + (next m x + k)
      whole = omega (arith, div-add-mod' (x % m + 1) m, rest)

      cut : (x % m + suc k) / m ≡ (x % m + 1) / m + (next m x + k) / m
      cut = rw whole (mul-add-div_right pos ((x % m + 1) / m) (next m x + k))

      less : next m x / m ≡ 0
      less = div-eq_of_lt (mod-lt (x + 1) pos)

      go : (z : Bool) → eqb (next m x) 0 ≡ z → quotients m (suc k) x ≡ cond z (suc (quotients m k (next m x))) (quotients m k (next m x))
      go true e = omega (arith, rest_counts (suc k) x, cut, less, first true e)
      go false e = omega (arith, rest_counts (suc k) x, cut, less, first false e)

  pub rounds_quotients : (k x : ℕ) → rounds m k x ≡ quotients m k x
  unfolding met
  rounds_quotients zero x = sym (rw add-zero (sub_self (x / m)))
  rounds_quotients (suc k) x =
      ap (λ (c : ℕ). cond (eqb (next m x) 0) (suc c) c) (rounds_quotients k (next m x)) ∙ sym (quotients_suc k x)

  -- there are no more rounds than steps
  pub quotients_le : (k x : ℕ) → quotients m k x ≤ k
  quotients_le k x = rw (sym (rounds_quotients k x)) (met_le (λ (y : ℕ). eqb y 0) (next m) k x)

  -- a counter whose size n is a multiple of m meets the multiples of m where one of size m comes back to 0
  pub multiples_quotients : (n : ℕ) → m ∣ n → (k x : ℕ) → met (λ (y : ℕ). eqb (y % m) 0) (next n) k x ≡ quotients m k x
  multiples_quotients n d k x =
      let alike : (y : ℕ) → next m (y % m) ≡ next n y % m = λ y. mod-add-mod y m 1 ∙ sym (mod-mod_of_dvd m (y + 1) d) in
      sym (met_of (λ (y : ℕ). y % m) (next n) (next m) alike (λ (y : ℕ). eqb y 0) k x)
      ∙ rounds_quotients k (x % m)
      ∙ rest_counts k (x % m)
      ∙ ap (λ (y : ℕ). (y + k) / m) (mod-mod x m)
      ∙ sym (rest_counts k x)
