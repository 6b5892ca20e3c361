-- Laws of walks: n single steps of anything, and how many of them lead to where a test holds. Assumes nothing.
use mathlib.Core.Path.{◌≡◌, ◌∙◌, refl, ap}
use mathlib.Core.Bool.{Bool, true, false, cond}
use Prim.Native.Nat.{ℕ, zero, suc, ◌≤◌}
use native.Mathlib.Omega.{arith}
use Rattle.clock.specs.Walks.{walked, met}

-- What a step leaves alone, n steps leave alone.
pub walked_still : {A : Type 0} (step : A → A) (a : A) → step a ≡ a → (n : ℕ) → walked step n a ≡ a
unfolding walked
walked_still step a e zero = refl
walked_still step a e (suc n) = ap (walked step n) e ∙ walked_still step a e n

-- Where the test holds of everything, all steps are counted.
pub met_all : {A : Type 0} (test : A → Bool) (step : A → A) → ((a : A) → test a ≡ true) → (n : ℕ) (a : A) → met test step n a ≡ n
unfolding met
met_all test step e zero a = refl
met_all test step e (suc n) a = rw (e (step a)) (ap suc (met_all test step e n (step a)))

-- No more steps are counted than there are.
pub met_le : {A : Type 0} (test : A → Bool) (step : A → A) (n : ℕ) (a : A) → met test step n a ≤ n
unfolding met
met_le test step zero a = omega arith
met_le test step (suc n) a = go (test (step a)) (met_le test step n (step a))
  where
    rest : ℕ
    rest = met test step n (step a)

    go : (z : Bool) → rest ≤ n → cond z (suc rest) rest ≤ suc n
    go true h = omega arith
    go false h = omega arith

-- Where f takes a step of the one to a step of the other, it takes n steps to n steps, and they meet a test as often.
module _ {A B : Type 0} (f : A → B) (step : A → A) (shown : B → B) (alike : (a : A) → shown (f a) ≡ f (step a)) where
  pub walked_of : (n : ℕ) (a : A) → walked shown n (f a) ≡ f (walked step n a)
  unfolding walked
  walked_of zero a = refl
  walked_of (suc n) a = ap (walked shown n) (alike a) ∙ walked_of n (step a)

  pub met_of : (test : B → Bool) (n : ℕ) (a : A) → met test shown n (f a) ≡ met (λ (x : A). test (f x)) step n a
  unfolding met
  met_of test zero a = refl
  met_of test (suc n) a =
      ap (λ (b : B). cond (test b) (suc (met test shown n b)) (met test shown n b)) (alike a)
      ∙ ap (λ (c : ℕ). cond (test (f (step a))) (suc c) c) (met_of test n (step a))

-- The law of counters that drive each other. Of two things, put together by f, the driver steps each time and the driven one where the
-- driver's step leads to where the test holds. Then the driver walks as if alone, and the driven one as many steps as that is met.
module _ {A B C : Type 0} (f : A → B → C) (test : A → Bool) (drives : A → A) (driven-steps : B → B) (together : C → C)
    (one : (a : A) (b : B) → together (f a b) ≡ cond (test (drives a)) (f (drives a) (driven-steps b)) (f (drives a) b)) where
  pub driven : (n : ℕ) (a : A) (b : B) → walked together n (f a b) ≡ f (walked drives n a) (walked driven-steps (met test drives n a) b)
  unfolding walked met
  driven zero a b = refl
  driven (suc n) a b = ap (walked together n) (one a b) ∙ go (test (drives a)) (driven n (drives a))
    where
      rest : ℕ
      rest = met test drives n (drives a)

      go : (z : Bool) → ((y : B) → walked together n (f (drives a) y) ≡ f (walked drives n (drives a)) (walked driven-steps rest y))
          → walked together n (cond z (f (drives a) (driven-steps b)) (f (drives a) b))
          ≡ f (walked drives n (drives a)) (walked driven-steps (cond z (suc rest) rest) b)
      go true law = law (driven-steps b)
      go false law = law b
