-- A command stream, fed to a port: each command is one computation, and its ninth bit is answered with its code.
-- Assumes nothing.
use Rattle.commands.specs.declared.Command.{Command as Meant}
use Rattle.std.specs.Prelude.{Option, Some, None}
use mathlib.Core.Path.{◌≡◌, ◌∙◌, refl, ap}
use mathlib.Core.Bool.{Bool, true, false, true≢false}
use mathlib.Core.List.{List, [], ◌∷◌, ◌++◌}
use Prim.Native.Nat.{ℕ, ◌*◌, ◌/◌, ◌%◌, ◌<◌}
use native.Mathlib.Omega.{arith}
use Rattle.ground.specs.declared.Part.{Part}
use Rattle.commands.specs.Commands.{code_meaning, undefined}
use Rattle.lines.specs.declared.Levels.{Levels}
use Rattle.phases.specs.declared.Phase.TheVariants.{Command}
use Rattle.phases.specs.declared.Line.TheVariants.{Released}
use Rattle.answers.specs.declared.Answer.{Answer}
use Rattle.answers.specs.declared.Answer.TheVariants.{Nothing, Opened, Closed, Obeyed}
use Rattle.frames.specs.Frames.{frame, closed, taken, ident_taken, identified, command_taken}
use Rattle.chip.specs.Chip.{decoded_answer, told}
use Rattle.frames.specs.declared.Upshot.TheVariants.{Code}
use Rattle.port.specs.declared.Port.{Port}
use Rattle.port.specs.Port.{memory_after, framed_by, moved}
use Rattle.driver.specs.Refusals.{command_fault}
use Rattle.streams.specs.Streams.{command_id, command_bits}
use Rattle.demands.specs.Stopped.{first_answer, bit_answers}
use Rattle.demands.proofs.Ports.{run_p, run_append, run_headed, trace, trace_append, trace_headed, idle, high}
use Rattle.demands.proofs.SentLaws.{code_sent, code_sent_lem}
use Rattle.demands.proofs.StreamLevels.{up, bits_l, head_l, commands_l}

-- every code has a meaning in the part
abbrev pub Defined : Part → List ℕ → Type 0
Defined part [] = Unit {0}
Defined part (code ∷ codes) = ((code < 256) × (command_fault part code ≡ false)) × Defined part codes

-- ---- the answer to a ninth bit

defined_obeys : (decoded : Option Meant) (code : ℕ) → undefined decoded ≡ false → decoded_answer decoded code ≡ Obeyed code
defined_obeys None code e = absurd (true≢false e)
defined_obeys (Some command) code e = refl

code_obeyed : (part : Part) (code : ℕ) → code < 256 → command_fault part code ≡ false → told part (Code (code_sent code / 2 % 256)) ≡ Obeyed code
unfolding command_fault
code_obeyed part code h e = rw (code_sent_lem code h, half) (defined_obeys (code_meaning part (2 * code)) code e)
  where
    half : 2 * code / 2 % 256 ≡ code
    half = omega arith

-- ---- one command

-- a frame that takes commands, with no bit of the next
abbrev commanding : Bool → List ℕ → Port
commanding b m = record { memory = m; levels = up b; phase = Command 0 0; line = Released }

command_step : (b : Bool) (m : List ℕ) (code : ℕ) → run_p (commanding b m) (bits_l (command_bits code)) ≡ commanding false m
unfolding moved framed_by frame taken command_taken memory_after
command_step b m code = refl

command_trace : (part : Part) (b : Bool) (m : List ℕ) (code : ℕ)
    → trace part (commanding b m) (bits_l (command_bits code)) ≡ bit_answers 8 ++ Nothing ∷ told part (Code (code_sent code / 2 % 256)) ∷ []
unfolding moved framed_by frame taken command_taken memory_after
command_trace part b m code = refl

module _ (part : Part) (code : ℕ) (h : code < 256) (e : command_fault part code ≡ false) where
  command_answers : (b : Bool) (m : List ℕ)
      → trace part (commanding b m) (bits_l (command_bits code)) ≡ bit_answers 8 ++ Nothing ∷ Obeyed code ∷ []
  command_answers b m =
      command_trace part b m code ∙ ap (λ (a : Answer). bit_answers 8 ++ Nothing ∷ a ∷ []) (code_obeyed part code h e)

-- ---- all of them

abbrev pub commands_answers : List ℕ → List Answer
commands_answers [] = Closed ∷ []
commands_answers (code ∷ codes) = bit_answers 8 ++ Nothing ∷ Obeyed code ∷ commands_answers codes

closes : (part : Part) (b : Bool) (m : List ℕ) → trace part (commanding b m) (high ∷ []) ≡ Closed ∷ []
unfolding moved framed_by frame closed
closes part b m = refl

closes_idle : (b : Bool) (m : List ℕ) → run_p (commanding b m) (high ∷ []) ≡ idle m high
unfolding moved framed_by frame closed memory_after
closes_idle b m = refl

body_answers : (part : Part) (codes : List ℕ) (b : Bool) (m : List ℕ) → Defined part codes
    → trace part (commanding b m) (commands_l codes) ≡ commands_answers codes
body_answers part [] b m v = closes part b m
body_answers part (code ∷ codes) b m v =
    trace_append part (commanding b m) (bits_l (command_bits code)) (commands_l codes)
    ∙ ap (λ (done : List Answer). done ++ trace part (run_p (commanding b m) (bits_l (command_bits code))) (commands_l codes))
    (command_answers part code v.0.0 v.0.1 b m)
    ∙ ap (λ (rest : List Answer). bit_answers 8 ++ Nothing ∷ Obeyed code ∷ rest)
    (ap (λ (q : Port). trace part q (commands_l codes)) (command_step b m code) ∙ body_answers part codes false m v.1)

body_leaves : (codes : List ℕ) (b : Bool) (m : List ℕ) → run_p (commanding b m) (commands_l codes) ≡ idle m high
body_leaves [] b m = closes_idle b m
body_leaves (code ∷ codes) b m =
    run_append (commanding b m) (bits_l (command_bits code)) (commands_l codes)
    ∙ ap (λ (q : Port). run_p q (commands_l codes)) (command_step b m code)
    ∙ body_leaves codes false m

abbrev rest_l : List Levels
rest_l = up true ∷ bits_l command_id

head_run : (m : List ℕ) → run_p (idle m high) rest_l ≡ commanding false m
unfolding moved framed_by frame taken ident_taken identified memory_after
head_run m = refl

head_answers : (part : Part) (m : List ℕ) → trace part (idle m high) rest_l ≡ Opened ∷ bit_answers 3
unfolding moved framed_by frame taken ident_taken identified memory_after
head_answers part m = refl

abbrev pub command_l : List ℕ → List Levels
command_l codes = head_l command_id ++ commands_l codes

pub command_leaves : (p : Port) (codes : List ℕ) → run_p p (command_l codes) ≡ idle p.memory high
command_leaves p codes =
    run_headed p rest_l (commands_l codes) (commanding false p.memory) (head_run p.memory) ∙ body_leaves codes false p.memory

pub stream_answers : (part : Part) (p : Port) (codes : List ℕ) → Defined part codes
    → trace part p (command_l codes) ≡ first_answer p ∷ Opened ∷ bit_answers 3 ++ commands_answers codes
stream_answers part p codes v =
    trace_headed p rest_l (commands_l codes) (commanding false p.memory) (head_run p.memory) part (Opened ∷ bit_answers 3) (head_answers part p.memory)
    ∙ ap (λ (rest : List Answer). first_answer p ∷ Opened ∷ bit_answers 3 ++ rest) (body_answers part codes false p.memory v)
