-- Frames go round: the head leads from any port to the address, and from there on it is the law of a frame that reads or writes.
-- Assumes nothing.
use mathlib.Core.Path.{◌≡◌, ◌∙◌, refl, sym, ap, subst}
use mathlib.Core.Bool.{Bool, true}
use mathlib.Core.List.{List, [], ◌∷◌, ◌++◌, map}
use Prim.Native.Nat.{ℕ, zero, suc, ◌%◌, ◌<◌}
use native.Mathlib.Nat.{zero-add}
use native.Mathlib.Omega.{arith}
use lib.Dec.{eqb}
use lib.ListN.{length}
use borrow.Author.Tests.{ne_eqb}
use Rattle.ground.specs.Bits.{bit_at}
use Rattle.ground.proofs.ChoiceLaws.{either}
use Rattle.lines.specs.Samples.{levels}
use Rattle.phases.specs.Phases.{unfinished}
use Rattle.phases.specs.declared.Line.TheVariants.{Released}
use Rattle.answers.specs.declared.Answer.{Answer}
use Rattle.answers.specs.declared.Answer.TheVariants.{Nothing, Opened, Closed, Dropped, Taken}
use Rattle.answers.specs.Answers.{answer_number}
use Rattle.frames.specs.Frames.{reached}
use Rattle.port.specs.declared.Port.{Port}
use Rattle.chip.specs.declared.Chip.{Chip}
use Rattle.ticks.specs.Ticks.{advanced}
use Rattle.streams.specs.Streams.{read_id, write_id, address_bits}
use Rattle.demands.specs.Events.{Event, after, samples, ticks, answers}
use Rattle.demands.specs.Round.{head_of, edges, edges_after_head, CsLow, bits_in, falls_in, falls_since, answers_numbered, on_from, line_due, ReadFrames, WriteFrames}
use Rattle.demands.specs.Stopped.{first_answer, bit_answers}
use Rattle.demands.proofs.CutLaws as write
use Rattle.demands.proofs.Ports.{Sixteen, run_p, trace, idle, high, run_headed, trace_headed, after_port, after_answers, stepped_moved, stepped_answer}
use Rattle.demands.proofs.ReadLaws as read
use Rattle.demands.proofs.RoundLaws.{reading, reads_on, stores_in, nibbles_of, writing, StandsAt, writes_on, offer_next, stores_size, stores_keep, stores_last, stores_below}
use Rattle.demands.proofs.SettingsLaws.{Plain, opened_plain, plain_settings}
use Rattle.demands.proofs.StreamLevels.{up, bits_l, head_l, headed, bits_sixteen}

-- ---- samples after a head

low_sixteen : (rest : List ℕ) → CsLow rest → Sixteen rest
low_sixteen [] v = tt
low_sixteen (s ∷ rest) v = (v.0, low_sixteen rest v.2)

head_edges : (b : Bool) (rest : List ℕ) → edges (up b) rest ≡ edges_after_head rest
head_edges b [] = refl
head_edges b (s ∷ rest) = refl

-- what a head is answered has numbers up to 4
left_out : (answer : Answer) (number : ℕ) (rest : List Answer) → (answer_number answer ≡ number → ⊥) → answers_numbered number (answer ∷ rest) ≡ answers_numbered number rest
left_out answer number rest h = rw (ne_eqb (answer_number answer) number h)

bits_left_out : (count number : ℕ) (rest : List Answer) → 4 < number → answers_numbered number (bit_answers count ++ rest) ≡ answers_numbered number rest
bits_left_out zero number rest h = refl
bits_left_out (suc count) number rest h =
    left_out Nothing number (Taken ∷ bit_answers count ++ rest) (omega arith)
    ∙ left_out Taken number (bit_answers count ++ rest) (omega arith)
    ∙ bits_left_out count number rest h

head_left_out : (p : Port) (number : ℕ) (rest : List Answer) → 4 < number
    → answers_numbered number (first_answer p ∷ Opened ∷ bit_answers 9 ++ rest) ≡ answers_numbered number rest
head_left_out p number rest h =
    left_out (first_answer p) number (Opened ∷ bit_answers 9 ++ rest) first
    ∙ left_out Opened number (bit_answers 9 ++ rest) (omega arith)
    ∙ bits_left_out 9 number rest h
  where
    Other : Answer → Type 0
    Other answer = answer_number answer ≡ number → ⊥

    first : Other (first_answer p)
    first =
        either Other p.levels.cs {x = Nothing} (omega arith)
        (either Other (eqb (unfinished p.phase) 0) {x = Closed} {y = Dropped} (omega arith) (omega arith))

-- what a whole frame comes to, once its head has led to a port: the port left, the answers, and settings by the ticks
pub record Framed (c : Chip) (es : List Event) (q : Port) (rest : List ℕ) : Type 0 where
  pub port : (after c es).port ≡ run_p q (map levels rest)
  pub told : (number : ℕ) → 4 < number → answers_numbered number (answers c es) ≡ answers_numbered number (trace c.settings.part q (map levels rest))
  pub settings : Plain (trace c.settings.part q (map levels rest)) → (after c es).settings ≡ advanced (ticks es) c.settings

framed : (c : Chip) (id : List Bool) (first : ℕ) (rest : List ℕ) (es : List Event) (q : Port) → CsLow rest → samples es ≡ head_of id first ++ rest
    → run_p (idle c.port.memory high) (up true ∷ bits_l (id ++ address_bits first)) ≡ q
    → trace c.settings.part (idle c.port.memory high) (up true ∷ bits_l (id ++ address_bits first)) ≡ Opened ∷ bit_answers 9
    → Framed c es q rest
framed c id first rest es q low e ran told =
    let head = up true ∷ bits_l (id ++ address_bits first) in
    let body = trace c.settings.part q (map levels rest) in
    let small : Sixteen (samples es) =
    subst Sixteen (sym e) (omega arith, (omega arith, bits_sixteen (id ++ address_bits first) rest (low_sixteen rest low))) in
    let fed : map levels (samples es) ≡ head_l (id ++ address_bits first) ++ map levels rest =
    ap (map levels) e ∙ headed (id ++ address_bits first) rest (map levels rest) refl in
    let answered : answers c es ≡ first_answer c.port ∷ Opened ∷ bit_answers 9 ++ body =
    after_answers c es small ∙ ap (trace c.settings.part c.port) fed ∙ trace_headed c.port head (map levels rest) q ran c.settings.part (Opened ∷ bit_answers 9) told in
    record {
      port = after_port c es small ∙ ap (run_p c.port) fed ∙ run_headed c.port head (map levels rest) q ran;
      told = λ number h. ap (answers_numbered number) answered ∙ head_left_out c.port number body h;
      settings = λ plain. plain_settings c es small (subst Plain (sym answered) (opened_plain c.port 9 body plain));
    }

-- ---- a read

pub read_frames : ReadFrames
read_frames c first rest es valid near low e =
    let m = c.port.memory in
    let start = up (bit_at 0 first) in
    let begins : reached first ≡ on_from first 0 = omega arith in
    let whole =
    framed c read_id first rest es (reading c.settings.part m valid.port.size first start 0) low e
    (read.head_reads m first near ∙ ap (read.offering (bit_at 0 first) Released m) begins) (read.head_trace c.settings.part m first) in
    let on = reads_on c.settings.part m valid.port.size first rest start 0 refl low in
    rw (← head_edges (bit_at 0 first) rest)
    (record {
      offered = whole.told 8 (omega arith) ∙ on.offers;
      line = ap (λ (p : Port). p.line) whole.port ∙ on.line ∙ ap (line_due m first) (zero-add (falls_in (edges start rest)));
      memory = ap (λ (p : Port). p.memory) whole.port ∙ on.memory;
      settings = whole.settings on.plain;
    })

-- ---- a write

pub write_frames : WriteFrames
write_frames c first rest es valid near low e =
    let m = c.port.memory in
    let start = up (bit_at 0 first) in
    let whole =
    framed c write_id first rest es (writing m start [] first 0 Released) low e (write.head_leaves m first near) (write.head_answers c.settings.part m first) in
    let on = writes_on c.settings.part rest low m start [] first 0 Released refl (omega arith) in
    let ns = nibbles_of (bits_in (edges start rest)) in
    let left : (after c es).port.memory ≡ stores_in m first ns = ap (λ (p : Port). p.memory) whole.port ∙ on.memory in
    let size : length (after c es).port.memory ≡ 32 = rw left (stores_size ns m first ∙ valid.port.size) in
    rw (← head_edges (bit_at 0 first) rest)
    (record {
      stored = whole.told 5 (omega arith) ∙ on.stores;
      size = size;
      last = λ i h k inside. rw left (stores_last ns m first i valid.port.size h (omega (arith, k)) inside);
      kept = λ at none. rw left (stores_keep ns m first at none);
      offers = λ s small falls.
          let p = (after c es).port in
          let stands = subst (λ (q : Port). StandsAt q.phase (on_from first (length ns)) (falls_since 0 0 (edges start rest) % 4)) (sym whole.port) on.stands in
          let next = offer_next (after c es).settings.part p (levels s) (on_from first (length ns)) (falls_since 0 0 (edges start rest) % 4) stands size falls in
          (stepped_answer (after c es) s small ∙ next.0, ap (λ (q : Port). q.line) (stepped_moved (after c es) s small) ∙ next.1);
      below = λ h. rw left (stores_below ns m first first (omega arith) (omega (arith, h)));
      settings = whole.settings on.plain;
    })
