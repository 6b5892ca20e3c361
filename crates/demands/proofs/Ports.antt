-- A port runs by itself: ticks and settings do not reach it. So events over samples below 16 come to a run of the port
-- over levels; what they are answered goes by the part besides, which stays. Assumes nothing.
use mathlib.Core.Path.{◌≡◌, ◌∙◌, refl, ap, ap₂}
use mathlib.Core.Bool.{Bool, true, false, cond}
use mathlib.Core.List.{List, [], ◌∷◌, ◌++◌, map}
use Prim.Native.Nat.{ℕ, ◌≤◌}
use lib.Dec.{eqb}
use borrow.Author.Tests.{le-ltb}
use Rattle.ground.proofs.ChoiceLaws.{either}
use Rattle.ground.specs.declared.Part.{Part}
use Rattle.lines.specs.declared.Levels.{Levels}
use Rattle.phases.specs.declared.Phase.TheVariants.{Idle}
use Rattle.phases.specs.declared.Line.TheVariants.{Released}
use Rattle.lines.specs.declared.Edge.TheVariants.{Rests, Closes}
use Rattle.answers.specs.declared.Answer.{Answer}
use Rattle.answers.specs.declared.Answer.TheVariants.{Nothing, Closed, Dropped}
use Rattle.frames.specs.declared.Upshot.TheVariants.{Answered}
use Rattle.lines.specs.Samples.{levels}
use Rattle.frames.specs.Frames.{frame, closed}
use Rattle.answers.specs.Answers.{Keep, act}
use Rattle.phases.specs.Phases.{unfinished}
use Rattle.port.specs.declared.Port.{Port}
use Rattle.chip.specs.declared.Chip.{Chip}
use Rattle.port.specs.Port.{memory_after, framed_by, moved}
use Rattle.chip.specs.Chip.{told, stepped_to, stepped}
use Rattle.demands.specs.Events.{Event, sample, tick, happened, after, samples, answers}
use Rattle.demands.specs.Stopped.{first_answer}
use Rattle.demands.proofs.PartLaws.{happened_part}

-- every sample is one of the sixteen
abbrev pub Sixteen : List ℕ → Type 0
Sixteen [] = Unit {0}
Sixteen (s ∷ ss) = (s ≤ 15) × Sixteen ss

-- the port after levels, and what each was answered
abbrev pub run_p : Port → List Levels → Port
run_p p [] = p
run_p p (l ∷ ls) = run_p (moved p l).port ls

abbrev pub trace : Part → Port → List Levels → List Answer
trace part p [] = []
trace part p (l ∷ ls) = told part (moved p l).upshot ∷ trace part (moved p l).port ls

pub run_append : (p : Port) (xs ys : List Levels) → run_p p (xs ++ ys) ≡ run_p (run_p p xs) ys
run_append p [] ys = refl
run_append p (x ∷ xs) ys = run_append (moved p x).port xs ys

pub trace_append : (part : Part) (p : Port) (xs ys : List Levels)
    → trace part p (xs ++ ys) ≡ trace part p xs ++ trace part (run_p p xs) ys
trace_append part p [] ys = refl
trace_append part p (x ∷ xs) ys =
    ap (λ (rest : List Answer). told part (moved p x).upshot ∷ rest) (trace_append part (moved p x).port xs ys)

pub stepped_moved : (c : Chip) (s : ℕ) → s ≤ 15 → (stepped c s).chip.port ≡ (moved c.port (levels s)).port
unfolding stepped stepped_to
stepped_moved c s h = simp (le-ltb _ _ h)

pub stepped_answer : (c : Chip) (s : ℕ) → s ≤ 15 → (stepped c s).answer ≡ told c.settings.part (moved c.port (levels s)).upshot
unfolding stepped stepped_to
stepped_answer c s h = simp (le-ltb _ _ h)

pub after_port : (c : Chip) (es : List Event) → Sixteen (samples es) → (after c es).port ≡ run_p c.port (map levels (samples es))
after_port c [] v = refl
after_port c (tick ∷ es) v = after_port (happened c tick) es v
after_port c (sample s ∷ es) v =
    after_port (happened c (sample s)) es v.1
    ∙ ap (λ (p : Port). run_p p (map levels (samples es))) (stepped_moved c s v.0)

-- of a chip of this part
answered_as : (part : Part) (c : Chip) (es : List Event) → c.settings.part ≡ part → Sixteen (samples es)
    → answers c es ≡ trace part c.port (map levels (samples es))
answered_as part c [] e v = refl
answered_as part c (tick ∷ es) e v = answered_as part (happened c tick) es (happened_part c tick ∙ e) v
answered_as part c (sample s ∷ es) e v =
    simp (
      stepped_answer c s v.0,
      e,
      answered_as part (happened c (sample s)) es (happened_part c (sample s) ∙ e) v.1,
      stepped_moved c s v.0,
    )

pub after_answers : (c : Chip) (es : List Event) → Sixteen (samples es)
    → answers c es ≡ trace c.settings.part c.port (map levels (samples es))
after_answers c es v = answered_as c.settings.part c es refl v

-- ---- a sample with CS high, from any port

-- the port with no frame
abbrev pub idle : List ℕ → Levels → Port
idle m l = record { memory = m; levels = l; phase = Idle; line = Released }

abbrev pub high : Levels
high = record { cs = true; wr = true; rd = true; bit = true }

-- no answer to it acts
closing_act : (before done : Bool) → act (cond before Nothing (cond done Closed Dropped)) ≡ Keep
closing_act before done = either (λ a. act a ≡ Keep) before refl (either (λ a. act a ≡ Keep) done refl refl)

module _ (p : Port) where
  by_before : (before : Bool) (n : ℕ)
      → frame (cond before Rests Closes) n p.phase p.line
      ≡ record { phase = Idle; line = Released; upshot = Answered (cond before Nothing (cond (eqb (unfinished p.phase) 0) Closed Dropped)) }
  unfolding frame closed
  by_before true n = refl
  by_before false n = refl

  pub high_idles : (moved p high).port ≡ idle p.memory high
  unfolding moved framed_by memory_after
  high_idles = simp (by_before p.levels.cs)

  high_answer : (part : Part) → told part (moved p high).upshot ≡ first_answer p
  unfolding moved framed_by
  high_answer part = simp (by_before p.levels.cs)

  -- and this changes neither memory nor settings
  pub first_keeps : act (first_answer p) ≡ Keep
  first_keeps = closing_act p.levels.cs (eqb (unfinished p.phase) 0)

  -- a stream that begins with it goes on as from no frame
  pub run_opened : (ls : List Levels) → run_p p (high ∷ ls) ≡ run_p (idle p.memory high) ls
  run_opened ls = ap (λ (q : Port). run_p q ls) high_idles

  pub trace_opened : (part : Part) (ls : List Levels) → trace part p (high ∷ ls) ≡ first_answer p ∷ trace part (idle p.memory high) ls
  trace_opened part ls = ap₂ (λ (a : Answer) (q : Port). a ∷ trace part q ls) (high_answer part) high_idles

  -- a head whose end is known, and then a body
  module _ (head body : List Levels) (q : Port) (ran : run_p (idle p.memory high) head ≡ q) where
    pub run_headed : run_p p (high ∷ head ++ body) ≡ run_p q body
    run_headed = run_opened (head ++ body) ∙ run_append (idle p.memory high) head body ∙ ap (λ (x : Port). run_p x body) ran

    pub trace_headed : (part : Part) (done : List Answer) → trace part (idle p.memory high) head ≡ done
        → trace part p (high ∷ head ++ body) ≡ first_answer p ∷ done ++ trace part q body
    trace_headed part done told =
        trace_opened part (head ++ body)
        ∙ ap (λ (answers : List Answer). first_answer p ∷ answers)
        (trace_append part (idle p.memory high) head body
        ∙ ap₂ (λ (answers : List Answer) (x : Port). answers ++ trace part x body) told ran)
