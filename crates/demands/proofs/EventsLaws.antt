-- A valid chip stays valid, whatever happens; and ticks in a row come to one advance by as many, whatever follows. Assumes nothing.
use mathlib.Core.Path.{◌≡◌, refl}
use mathlib.Core.List.{List, [], ◌∷◌, ◌++◌}
use Prim.Native.Nat.{ℕ, zero, suc, ◌+◌}
use native.Mathlib.Omega.{arith}
use lib.ListN.{replicate}
use Rattle.ticks.specs.Ticks as rules
use Rattle.chip.specs.declared.Chip.{Chip}
use Rattle.chip.specs.Chip.{ticked, advanced}
use Rattle.chip.specs.Valid.{Valid}
use Rattle.chip.proofs.ValidLaws.{stepped_valid, ticked_valid}
use Rattle.demands.specs.Events.{Event, sample, tick, happened, after, samples, ticks, answers, notes}

pub after_valid : (c : Chip) (es : List Event) → Valid c → Valid (after c es)
after_valid c [] v = v
after_valid c (sample s ∷ es) v = after_valid (happened c (sample s)) es (stepped_valid c s v)
after_valid c (tick ∷ es) v = after_valid (happened c tick) es (ticked_valid c v)

pub after_pause : (n : ℕ) (c : Chip) (es : List Event) → after c (replicate n tick ++ es) ≡ after (advanced n c) es
unfolding rules.advanced
after_pause zero c es = refl
after_pause (suc n) c es = after_pause n (ticked c) es

pub answers_pause : (n : ℕ) (c : Chip) (es : List Event) → answers c (replicate n tick ++ es) ≡ answers (advanced n c) es
unfolding rules.advanced
answers_pause zero c es = refl
answers_pause (suc n) c es = answers_pause n (ticked c) es

pub notes_pause : (n : ℕ) (c : Chip) (es : List Event) → notes c (replicate n tick ++ es) ≡ notes (advanced n c) es
unfolding rules.advanced
notes_pause zero c es = refl
notes_pause (suc n) c es = notes_pause n (ticked c) es

pub samples_pause : (n : ℕ) (es : List Event) → samples (replicate n tick ++ es) ≡ samples es
samples_pause zero es = refl
samples_pause (suc n) es = samples_pause n es

pub ticks_pause : (n : ℕ) (es : List Event) → ticks (replicate n tick ++ es) ≡ n + ticks es
ticks_pause zero es = omega arith
ticks_pause (suc n) es = let h = ticks_pause n es in omega arith
