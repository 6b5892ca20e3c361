-- RULES "Ticks", n of them: single steps, one after the other, and how many of them lead where the next counter steps. Assumes nothing.
use Rattle.std.specs.Prelude.{ℕ, zero, suc, ◌+◌, ◌%◌, Bool, cond, eqb}
use Rattle.clock.specs.declared.Source.{Source}
use Rattle.clock.specs.Counters.{Prescaler, Divider}
use Rattle.clock.specs.Ticks.{divider_stepped, due, prescaled, is_base_tick}

-- n single steps.
unfoldable pub walked : {A : Type 0} → (A → A) → ℕ → A → A
walked step zero a = a
walked step (suc n) a = walked step n (step a)

-- How many of n single steps lead to where the test holds.
unfoldable pub met : {A : Type 0} → (A → Bool) → (A → A) → ℕ → A → ℕ
met test step zero a = 0
met test step (suc n) a = cond (test (step a)) (suc (met test step n (step a))) (met test step n (step a))

-- The step of a counter that goes through so many values.
abbrev pub next : ℕ → ℕ → ℕ
next size x = (x + 1) % size

-- How often it comes back to 0 in n steps.
abbrev pub rounds : ℕ → ℕ → ℕ → ℕ
rounds size = met (λ (x : ℕ). eqb x 0) (next size)

-- How often the rate's turn comes in n steps of d.
abbrev pub turns : ℕ → ℕ → Divider → ℕ
turns rate = met (λ (d : Divider). due rate d.count) divider_stepped

-- How many of n ticks of a source are base ticks.
abbrev pub base_ticks : Source → ℕ → Prescaler → ℕ
base_ticks source = met (is_base_tick source) (prescaled source)
