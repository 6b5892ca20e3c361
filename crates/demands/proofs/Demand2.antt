-- Demand 2 holds: each stream's answers are known one by one, and stores, commands, settings and notes are read off them.
-- Assumes nothing.
use mathlib.Core.Path.{◌≡◌, ◌∙◌, refl, sym, ap, subst}
use mathlib.Core.List.{List, [], ◌∷◌, ◌++◌, map}
use Prim.Native.Nat.{ℕ, zero, suc, ◌+◌, ◌≤◌, ◌<◌}
use native.Mathlib.Omega.{arith}
use lib.ListN.{length, take, drop, length-take, length-drop, take-append-drop}
use Rattle.ground.specs.Sizes.{addresses}
use Rattle.answers.specs.Answers.{Act}
use Rattle.answers.specs.Answers.{Keep}
use Rattle.answers.specs.declared.Answer.{Answer}
use Rattle.answers.specs.declared.Answer.TheVariants.{Nothing, Opened, Closed, Taken}
use Rattle.lines.specs.Samples.{levels}
use Rattle.answers.specs.Answers.{act}
use Rattle.port.specs.declared.Port.{Port}
use Rattle.chip.specs.declared.Chip.{Chip}
use Rattle.port.specs.Valid.{Nibbles}
use Rattle.chip.specs.Valid.{Valid}
use Rattle.streams.specs.Streams.{write_stream, read_stream, command_stream}
use Rattle.demands.specs.Events.{Event, after, samples, answers}
use Rattle.demands.specs.Accepted.{AcceptsWrite}
use Rattle.demands.specs.Demand2.{StoredAt, ObeyedAt, stored_by, stores, due_stores, obeyed_by, obeys, due_commands, last_answer, between, Writes, Reads, Commands, Demand2}
use Rattle.demands.specs.Stopped.{first_answer, bit_answers, nibble_answers}
use Rattle.demands.proofs.Accepted.{accepted}
use Rattle.demands.proofs.AcceptedLaws.{Fit, accepted_read, accepted_commands}
use Rattle.demands.proofs.CommandLaws.{Defined, commands_answers, command_l, command_leaves, stream_answers}
use Rattle.demands.proofs.Demand3.{read_done}
use Rattle.demands.proofs.Ports.{Sixteen, run_p, trace, idle, high, first_keeps, after_port, after_answers}
use Rattle.demands.proofs.ReadLaws.{read_l, read_answers, read_answers_lem, read_leaves, offers_plain, offers_close}
use Rattle.demands.proofs.SettingsLaws.{Plain, opened_plain, write_plain, plain_settings, due_settings}
use Rattle.demands.proofs.StoppedLaws.{write_whole}
use Rattle.demands.proofs.StreamLevels.{read_levels, command_levels, write_sixteen, read_sixteen, command_sixteen}

-- ---- what is read off a list of answers

-- a first answer that keeps
stores_first : (a : Act) (n : ℕ) (rest : List StoredAt) → a ≡ Keep → stored_by a n rest ≡ rest
stores_first a n rest e = rw e

obeys_first : (a : Act) (n : ℕ) (rest : List ObeyedAt) → a ≡ Keep → obeyed_by a n rest ≡ rest
obeys_first a n rest e = rw e

nibbles_stores : (ns : List ℕ) (n at : ℕ) → stores n (nibble_answers at ns) ≡ due_stores (n + 7) at ns
nibbles_stores [] n at = refl
nibbles_stores (v ∷ ns) n at =
    ap (λ (x : ℕ). record { sample = x; address = at; nibble = v } ∷ stores (suc (suc (suc (suc (suc (suc (suc (suc n)))))))) (nibble_answers (at + 1) ns)) seven
    ∙ ap (λ (rest : List StoredAt). record { sample = n + 7; address = at; nibble = v } ∷ rest)
    (nibbles_stores ns (suc (suc (suc (suc (suc (suc (suc (suc n)))))))) (at + 1) ∙ ap (λ (x : ℕ). due_stores x (at + 1) ns) eight)
  where
    seven : suc (suc (suc (suc (suc (suc (suc n)))))) ≡ n + 7
    seven = omega arith

    eight : suc (suc (suc (suc (suc (suc (suc (suc n))))))) + 7 ≡ n + 7 + 8
    eight = omega arith

nibbles_close : (ns : List ℕ) (at : ℕ) (before : Answer) → last_answer before (nibble_answers at ns) ≡ Closed
nibbles_close [] at before = refl
nibbles_close (v ∷ ns) at before = nibbles_close ns (at + 1) _

commands_obeys : (codes : List ℕ) (n : ℕ) → obeys n (commands_answers codes) ≡ due_commands (n + 17) codes
commands_obeys [] n = refl
commands_obeys (code ∷ codes) n =
    ap (λ (x : ℕ). record { sample = x; code = code } ∷ obeys (suc x) (commands_answers codes)) seventeen
    ∙ ap (λ (rest : List ObeyedAt). record { sample = n + 17; code = code } ∷ rest)
    (commands_obeys codes (suc (n + 17)) ∙ ap (λ (x : ℕ). due_commands x codes) eighteen)
  where
    seventeen : suc (suc (suc (suc (suc (suc (suc (suc (suc (suc (suc (suc (suc (suc (suc (suc (suc n)))))))))))))))) ≡ n + 17
    seventeen = omega arith

    eighteen : suc (n + 17) + 17 ≡ n + 17 + 18
    eighteen = omega arith

commands_close : (codes : List ℕ) (before : Answer) → last_answer before (commands_answers codes) ≡ Closed
commands_close [] before = refl
commands_close (code ∷ codes) before = commands_close codes _

-- ---- a write

writes : (c : Chip) (first : ℕ) (ns : List ℕ) (es : List Event) → Valid c → AcceptsWrite first ns → samples es ≡ write_stream first ns
    → Writes c first ns es
writes c first ns es valid accepts e =
    let law = write_whole c first ns es valid accepts e in
    record {
      memory = ap (λ (p : Port). p.memory) law.0;
      stored =
          ap (stores 1) law.1
          ∙ stores_first (act (first_answer c.port)) 1 (stores 21 (nibble_answers first ns)) (first_keeps c.port)
          ∙ nibbles_stores ns 21 first;
      closed = ap (last_answer Nothing) law.1 ∙ nibbles_close ns first Taken;
      settings =
          plain_settings c es (subst Sixteen (sym e) (write_sixteen first ns)) (subst Plain (sym law.1) (write_plain c.port first ns));
    }

-- ---- a read

-- part of a memory of nibbles
drop_nibbles : (k : ℕ) (m : List ℕ) → Nibbles m → Nibbles (drop k m)
drop_nibbles zero m v = same m v
  where
    same : (m : List ℕ) → Nibbles m → Nibbles (drop zero m)
    same [] v = tt
    same (x ∷ m) v = v
drop_nibbles (suc k) [] v = tt
drop_nibbles (suc k) (x ∷ m) v = drop_nibbles k m v.1

take_nibbles : (k : ℕ) (m : List ℕ) → Nibbles m → Nibbles (take k m)
take_nibbles zero m v = tt
take_nibbles (suc k) [] v = tt
take_nibbles (suc k) (x ∷ m) v = (v.0, take_nibbles k m v.1)

module _ (c : Chip) (first count : ℕ) (es : List Event) (valid : Valid c) (ok : (0 < count) × (first + count ≤ addresses))
    (e : samples es ≡ read_stream first count) where
  abbrev part : List ℕ
  part = take count (drop first c.port.memory)

  abbrev rest : List ℕ
  rest = drop count (drop first c.port.memory)

  parts : drop first c.port.memory ≡ part ++ rest
  parts = sym (take-append-drop count (drop first c.port.memory))

  size : length part ≡ count
  size = simp (length-take, length-drop) (omega (arith, valid.port.size, ok.1))

  fit : Fit first part
  fit =
      record {
        some = omega (arith, size, ok.0);
        inside = omega (arith, size, ok.1);
        nibbles = take_nibbles count (drop first c.port.memory) (drop_nibbles first c.port.memory valid.port.nibbles);
      }

  small : Sixteen (samples es)
  small = subst Sixteen (sym e) (read_sixteen first count)

  as_levels : map levels (samples es) ≡ read_l first count
  as_levels = ap (map levels) e ∙ read_levels first count

  pub read_answered : answers c es
      ≡ first_answer c.port ∷ Opened ∷ bit_answers 9 ++ read_answers first (take count (drop first c.port.memory))
  read_answered =
      after_answers c es small ∙ ap (trace c.settings.part c.port) (as_levels ∙ ap (read_l first) (sym size))
      ∙ read_answers_lem c.port first part rest fit parts c.settings.part

  pub read_left : (after c es).port ≡ idle c.port.memory high
  read_left = after_port c es small ∙ ap (run_p c.port) as_levels ∙ read_leaves c.port first count

  reads : Reads c first count es
  reads =
      record {
        memory = ap (λ (p : Port). p.memory) read_left;
        settings =
            plain_settings c es small
            (subst Plain (sym read_answered) (opened_plain c.port 9 (read_answers first part) (offers_plain first part)));
        noted = read_done c first part rest es fit (e ∙ ap (read_stream first) (sym size)) parts;
        closed = ap (last_answer Nothing) read_answered ∙ offers_close first part Taken;
      }

-- ---- commands

module _ (c : Chip) (codes : List ℕ) (es : List Event) (v : Defined c.settings.part codes) (e : samples es ≡ command_stream codes) where
  few : Sixteen (samples es)
  few = subst Sixteen (sym e) (command_sixteen codes)

  sent : map levels (samples es) ≡ command_l codes
  sent = ap (map levels) e ∙ command_levels codes

  pub command_left : (after c es).port ≡ idle c.port.memory high
  command_left = after_port c es few ∙ ap (run_p c.port) sent ∙ command_leaves c.port codes

  pub command_answered : answers c es ≡ first_answer c.port ∷ Opened ∷ bit_answers 3 ++ commands_answers codes
  command_answered =
      after_answers c es few ∙ ap (trace c.settings.part c.port) sent ∙ stream_answers c.settings.part c.port codes v

  due : obeys 1 (answers c es) ≡ due_commands 26 codes
  due =
      ap (obeys 1) command_answered
      ∙ obeys_first (act (first_answer c.port)) 1 (obeys 9 (commands_answers codes)) (first_keeps c.port)
      ∙ commands_obeys codes 9

  commands : Commands c codes es
  commands =
      record {
        memory = ap (λ (p : Port). p.memory) command_left;
        obeyed = due;
        settings = due_settings c es few ∙ ap (λ (d : List ObeyedAt). between d 0 es c.settings) due;
        closed = ap (last_answer Nothing) command_answered ∙ commands_close codes Taken;
      }

-- ---- the demand

pub demand2 : Demand2
demand2 =
    record {
      accepted = accepted;
      writes = writes;
      reads = λ c first count es valid accepts e. reads c first count es valid (accepted_read first count accepts) e;
      commands = λ c codes es valid accepts e. commands c codes es (accepted_commands c.settings.part codes accepts) e;
    }
