-- The settings go by the answers and the ticks: where no command is obeyed the ticks alone move them, and where some are, each
-- acts at its sample. Assumes nothing.
use Rattle.std.specs.Prelude.{Option, Some, None}
use Rattle.commands.specs.declared.Command.{Command}
use mathlib.Core.Path.{◌≡◌, ◌∙◌, refl, sym, ap, subst}
use mathlib.Core.List.{List, [], ◌∷◌, ◌++◌}
use Prim.Native.Nat.{ℕ, zero, suc, ◌+◌, ◌*◌, ◌≤◌, ◌<◌}
use native.Mathlib.Omega.{arith}
use lib.ListN.{get_or, take}
use borrow.Author.Tests.{le-ltb, eq-eqb, ne_eqb}
use Rattle.settings.specs.declared.Settings.{Settings}
use Rattle.ticks.specs.Ticks.{ticked, advanced}
use Rattle.answers.specs.declared.Answer.{Answer}
use Rattle.answers.specs.declared.Answer.TheVariants.{Nothing, Opened, Stored}
use Rattle.answers.specs.Answers.{Act, Keep, Store, Obey, act}
use Rattle.commands.specs.Commands.{code_meaning}
use Rattle.lines.specs.Samples.{levels, edge}
use Rattle.phases.specs.Phases.{address}
use Rattle.frames.specs.declared.Upshot.{Upshot}
use Rattle.frames.specs.declared.Upshot.TheVariants.{Answered, Nibble, Code}
use Rattle.frames.proofs.AnswersLaws.{Own, frame_own}
use Rattle.port.specs.declared.Port.{Port}
use Rattle.port.specs.Port.{framed_by, moved}
use Rattle.chip.specs.declared.Chip.{Chip}
use Rattle.chip.specs.Chip.{decoded_answer, obeyed_as, told, settings_after, stepped_to, stepped}
use Rattle.demands.specs.Events.{Event, sample, tick, happened, after, samples, ticks, answers}
use Rattle.demands.specs.Demand2.{ObeyedAt, obeyed_by, obeys, effect_at, between}
use Rattle.demands.specs.Stopped.{first_answer, bit_answers, nibble_answers, write_answers}
use Rattle.demands.proofs.Ports.{Sixteen, first_keeps}

-- what an answer did to the settings
abbrev settings_by : Act → Settings → Settings
settings_by Keep s = s
settings_by (Store at nibble) s = s
settings_by (Obey code) s = obeyed_as (code_meaning s.part (2 * code)) s

decoded_settings : (decoded : Option Command) (code : ℕ) (s : Settings) → code_meaning s.part (2 * code) ≡ decoded
    → obeyed_as decoded s ≡ settings_by (act (decoded_answer decoded code)) s
unfolding obeyed_as
decoded_settings None code s e = refl
decoded_settings (Some command) code s e = sym (ap (λ (d : Option Command). obeyed_as d s) e)

upshot_settings : (upshot : Upshot) → Own upshot → (s : Settings) → settings_after upshot s ≡ settings_by (act (told s.part upshot)) s
unfolding settings_after
upshot_settings (Answered answer) own s = sym (ap (λ (a : Act). settings_by a s) own.0)
upshot_settings (Nibble at nibble) own s = refl
upshot_settings (Code code) own s = decoded_settings (code_meaning s.part (2 * code)) code s refl

-- the settings after events that were answered so
abbrev through : List Event → List Answer → Settings → Settings
through [] done s = s
through (tick ∷ es) done s = through es done (ticked s)
through (sample x ∷ es) [] s = through es [] s
through (sample x ∷ es) (a ∷ done) s = through es done (settings_by (act a) s)

stepped_settings : (c : Chip) (s : ℕ) → s ≤ 15 → (stepped c s).chip.settings ≡ settings_by (act (stepped c s).answer) c.settings
unfolding stepped stepped_to moved framed_by
stepped_settings c s h =
    simp (le-ltb _ _ h)
    (upshot_settings (framed_by c.port (levels s)).upshot
    (frame_own (edge c.port.levels (levels s)) (get_or c.port.memory (address c.port.phase) 0) c.port.phase c.port.line)
    c.settings)

after_through : (c : Chip) (es : List Event) → Sixteen (samples es) → (after c es).settings ≡ through es (answers c es) c.settings
after_through c [] v = refl
after_through c (tick ∷ es) v = after_through (happened c tick) es v
after_through c (sample s ∷ es) v =
    after_through (happened c (sample s)) es v.1
    ∙ ap (through es (answers (happened c (sample s)) es)) (stepped_settings c s v.0)

-- ---- no command among the answers

abbrev pub Unobeyed : Act → Type 0
Unobeyed Keep = Unit {0}
Unobeyed (Store at nibble) = Unit {0}
Unobeyed (Obey code) = ⊥

abbrev pub Plain : List Answer → Type 0
Plain [] = Unit {0}
Plain (a ∷ done) = Unobeyed (act a) × Plain done

pub take_plain : (k : ℕ) (done : List Answer) → Plain done → Plain (take k done)
take_plain zero done v = tt
take_plain (suc k) [] v = tt
take_plain (suc k) (a ∷ done) v = (v.0, take_plain k done v.1)

bits_plain : (count : ℕ) (rest : List Answer) → Plain rest → Plain (bit_answers count ++ rest)
bits_plain zero rest v = v
bits_plain (suc count) rest v = (tt, (tt, bits_plain count rest v))

-- a stream that opens, and a write
pub opened_plain : (p : Port) (bits : ℕ) (rest : List Answer) → Plain rest → Plain (first_answer p ∷ Opened ∷ bit_answers bits ++ rest)
opened_plain p bits rest v = (subst Unobeyed (sym (first_keeps p)) tt, (tt, bits_plain bits rest v))

nibbles_plain : (at : ℕ) (ns : List ℕ) → Plain (nibble_answers at ns)
nibbles_plain at [] = (tt, tt)
nibbles_plain at (n ∷ ns) = bits_plain 3 (Nothing ∷ Stored at n ∷ nibble_answers (at + 1) ns) (tt, (tt, nibbles_plain (at + 1) ns))

pub write_plain : (p : Port) (first : ℕ) (ns : List ℕ) → Plain (write_answers p first ns)
write_plain p first ns = opened_plain p 9 (nibble_answers first ns) (nibbles_plain first ns)

unobeyed_settings : (a : Act) (s : Settings) → Unobeyed a → settings_by a s ≡ s
unobeyed_settings Keep s v = refl
unobeyed_settings (Store at nibble) s v = refl
unobeyed_settings (Obey code) s v = absurd v

through_plain : (es : List Event) (done : List Answer) (s : Settings) → Plain done → through es done s ≡ advanced (ticks es) s
unfolding advanced
through_plain [] done s v = refl
through_plain (tick ∷ es) done s v = through_plain es done (ticked s) v
through_plain (sample x ∷ es) [] s v = through_plain es [] s v
through_plain (sample x ∷ es) (a ∷ done) s v =
    ap (through es done) (unobeyed_settings (act a) s v.0) ∙ through_plain es done s v.1

pub plain_settings : (c : Chip) (es : List Event) → Sixteen (samples es) → Plain (answers c es)
    → (after c es).settings ≡ advanced (ticks es) c.settings
plain_settings c es v plain = after_through c es v ∙ through_plain es (answers c es) c.settings plain

-- ---- commands, each at its sample

-- all that is due comes later than n
abbrev Later : ℕ → List ObeyedAt → Type 0
Later n [] = Unit {0}
Later n (due ∷ rest) = (n < due.sample) × Later n rest

later_less : (m n : ℕ) (due : List ObeyedAt) → m ≤ n → Later n due → Later m due
later_less m n [] h v = tt
later_less m n (d ∷ due) h v = (omega arith, later_less m n due h v.1)

obeyed_by_later : (a : Act) (n : ℕ) (rest : List ObeyedAt) → Later n rest → Later n (obeyed_by a (suc n) rest)
obeyed_by_later Keep n rest v = v
obeyed_by_later (Store at nibble) n rest v = v
obeyed_by_later (Obey code) n rest v = (omega arith, v)

obeys_later : (n : ℕ) (done : List Answer) → Later n (obeys (suc n) done)
obeys_later n [] = tt
obeys_later n (a ∷ done) =
    obeyed_by_later (act a) n (obeys (suc (suc n)) done) (later_less n (suc n) (obeys (suc (suc n)) done) (omega arith) (obeys_later (suc n) done))

none_due : (n : ℕ) (due : List ObeyedAt) (s : Settings) → Later n due → effect_at due n s ≡ s
none_due n [] s v = refl
none_due n (d ∷ due) s v = simp (ne_eqb d.sample n (omega arith), none_due n due s v.1)

-- what was due at a sample that has passed makes no difference
past_due : (d : ObeyedAt) (due : List ObeyedAt) (n : ℕ) (es : List Event) (s : Settings) → d.sample ≤ n
    → between (d ∷ due) n es s ≡ between due n es s
past_due d due n [] s h = refl
past_due d due n (tick ∷ es) s h = past_due d due n es (ticked s) h
past_due d due n (sample x ∷ es) s h =
    ap (between (d ∷ due) (suc n) es) (simp (ne_eqb d.sample (suc n) (omega arith)))
    ∙ past_due d due (suc n) es (effect_at due (suc n) s) (omega arith)

-- one sample: what it is answered is what is due there
one_due : (a : Act) (n : ℕ) (rest : List ObeyedAt) (es : List Event) (s : Settings) → Later (suc n) rest
    → between rest (suc n) es (settings_by a s)
    ≡ between (obeyed_by a (suc n) rest) (suc n) es (effect_at (obeyed_by a (suc n) rest) (suc n) s)
one_due Keep n rest es s v = ap (between rest (suc n) es) (sym (none_due (suc n) rest s v))
one_due (Store at nibble) n rest es s v = ap (between rest (suc n) es) (sym (none_due (suc n) rest s v))
one_due (Obey command) n rest es s v =
    sym (past_due (record { sample = suc n; code = command }) rest (suc n) es _ (omega arith))
    ∙ ap (between (record { sample = suc n; code = command } ∷ rest) (suc n) es) (simp (eq-eqb (suc n) (suc n) refl))

through_due : (es : List Event) (done : List Answer) (n : ℕ) (s : Settings) → through es done s ≡ between (obeys (suc n) done) n es s
through_due [] done n s = refl
through_due (tick ∷ es) done n s = through_due es done n (ticked s)
through_due (sample x ∷ es) [] n s = through_due es [] (suc n) s
through_due (sample x ∷ es) (a ∷ done) n s =
    through_due es done (suc n) (settings_by (act a) s)
    ∙ one_due (act a) n (obeys (suc (suc n)) done) es s (obeys_later (suc n) done)

pub due_settings : (c : Chip) (es : List Event) → Sixteen (samples es)
    → (after c es).settings ≡ between (obeys 1 (answers c es)) 0 es c.settings
due_settings c es v = after_through c es v ∙ through_due es (answers c es) 0 c.settings
