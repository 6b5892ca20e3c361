-- A read's stream, fed to a port: the head leads to the address, each nibble read is one computation, and what the host notes
-- are the bits of the memory. Assumes nothing.
use mathlib.Core.Path.{◌≡◌, ◌∙◌, refl, sym, ap, ap₂}
use mathlib.Core.Bool.{Bool, true, false, cond, not, ◌&&◌}
use mathlib.Core.List.{List, [], ◌∷◌, ◌++◌, map}
use Prim.Native.Nat.{ℕ, zero, suc, ◌+◌, ◌≤◌, ◌<◌}
use native.Mathlib.Omega.{arith}
use Rattle.ground.specs.declared.Part.{Part}
use Rattle.ground.specs.declared.Part.TheVariants.{Ht}
use lib.Dec.{eqb}
use lib.ListN.{length, get_or, drop}
use lib.Seq.{get_or-drop, drop-drop}
use Rattle.ground.specs.Bits.{bit_at}
use Rattle.ground.specs.Sizes.{addresses}
use Rattle.ground.specs.Values.{values, agree}
use Rattle.lines.specs.declared.Levels.{Levels}
use Rattle.phases.specs.declared.Phase.TheVariants.{Reading}
use Rattle.phases.specs.Phases.{round}
use Rattle.phases.specs.declared.Line.{Line}
use Rattle.phases.specs.declared.Line.TheVariants.{Released, Driven}
use Rattle.answers.specs.declared.Answer.{Answer}
use Rattle.answers.specs.declared.Answer.TheVariants.{Nothing, Opened, Closed, Offered}
use Rattle.lines.specs.Samples.{levels}
use Rattle.frames.specs.Frames.{next, reached, frame, closed, taken, ident_taken, identified, read_to_taken, offered, read_offered}
use Rattle.port.specs.declared.Port.{Port}
use Rattle.chip.specs.declared.Chip.{Chip}
use Rattle.port.specs.Port.{memory_after, framed_by, moved}
use Rattle.streams.specs.Streams.{read_id, address_bits}
use Rattle.demands.specs.Events.{Event, sample, tick, happened, samples, data_number, notes}
use Rattle.demands.specs.Demand2.{last_answer}
use Rattle.demands.specs.Stopped.{first_answer, bit_answers}
use Rattle.demands.proofs.AcceptedLaws.{Fit}
use Rattle.demands.proofs.Ports.{Sixteen, run_p, run_headed, trace, trace_headed, idle, high, high_idles, stepped_moved}
use Rattle.demands.proofs.NotesLaws.{bits_of}
use Rattle.demands.proofs.StreamLevels.{up, bits_l, head_l, reads_l}
use Rattle.demands.proofs.SettingsLaws.{Plain}
use Rattle.demands.proofs.SentLaws.{address_sent, address_sent_lem, reached_small, reached_next}

-- ---- what the host notes, by levels

-- the levels of the sample 14
abbrev noting : Levels → Bool
noting l = not l.cs && l.wr && l.rd && l.bit

abbrev pub notes_l : Port → List Levels → List ℕ
notes_l p [] = []
notes_l p (l ∷ ls) =
    let q = (moved p l).port in
    cond (not p.levels.rd && noting l) (data_number q.line ∷ notes_l q ls) (notes_l q ls)

fourteens : values (λ s. eqb s 14) 0 16 ≡ values (λ s. noting (levels s)) 0 16
fourteens = refl

fourteen : (s : ℕ) → s ≤ 15 → eqb s 14 ≡ noting (levels s)
fourteen s h = agree (λ k. eqb k 14) (λ k. noting (levels k)) 16 fourteens s (omega arith)

pub after_notes : (c : Chip) (es : List Event) → Sixteen (samples es) → notes c es ≡ notes_l c.port (map levels (samples es))
after_notes c [] v = refl
after_notes c (tick ∷ es) v = after_notes (happened c tick) es v
after_notes c (sample s ∷ es) v =
    simp (fourteen s v.0, after_notes (happened c (sample s)) es v.1, stepped_moved c s v.0)

-- ---- the head

-- a frame that offers from D0 on, at address a
abbrev pub offering : Bool → Line → List ℕ → ℕ → Port
offering b line m a = record { memory = m; levels = up b; phase = Reading a 0; line = line }

abbrev pub rest_l : ℕ → List Levels
rest_l first = up true ∷ bits_l (read_id ++ address_bits first)

abbrev pub read_l : ℕ → ℕ → List Levels
read_l first n = head_l (read_id ++ address_bits first) ++ reads_l n

reached_by : (m : List ℕ) (first : ℕ)
    → run_p (idle m high) (rest_l first) ≡ offering (bit_at 0 first) Released m (address_sent first)
unfolding moved framed_by frame taken ident_taken identified read_to_taken memory_after
reached_by m first = refl

pub head_trace : (part : Part) (m : List ℕ) (first : ℕ) → trace part (idle m high) (rest_l first) ≡ Opened ∷ bit_answers 9
unfolding moved framed_by frame taken ident_taken identified read_to_taken memory_after
head_trace part m first = refl

pub head_reads : (m : List ℕ) (first : ℕ) → first < round
    → run_p (idle m high) (rest_l first) ≡ offering (bit_at 0 first) Released m (reached first)
head_reads m first h = reached_by m first ∙ ap (offering (bit_at 0 first) Released m) (address_sent_lem first h)

-- a sample with CS high is none that the host notes
not_noted : (before : Bool) (x y : List ℕ) → cond (not before && false) x y ≡ y
not_noted true x y = refl
not_noted false x y = refl

notes_opened : (p : Port) (ls : List Levels) → notes_l p (high ∷ ls) ≡ notes_l (idle p.memory high) ls
notes_opened p ls = not_noted p.levels.rd _ _ ∙ ap (λ (q : Port). notes_l q ls) (high_idles p)

head_notes : (m : List ℕ) (first : ℕ) (ls : List Levels)
    → notes_l (idle m high) (rest_l first ++ ls) ≡ notes_l (run_p (idle m high) (rest_l first)) ls
unfolding moved framed_by frame taken ident_taken identified read_to_taken memory_after
head_notes m first ls = refl

-- ---- the nibbles

-- what its eight samples are answered
abbrev nibble_offers : ℕ → ℕ → List Answer
nibble_offers at v =
    Offered at (bit_at 0 v) ∷ Nothing ∷ Offered at (bit_at 1 v) ∷ Nothing ∷ Offered at (bit_at 2 v) ∷ Nothing ∷ Offered at (bit_at 3 v) ∷ Nothing ∷ []

abbrev pub read_answers : ℕ → List ℕ → List Answer
read_answers at [] = Closed ∷ []
read_answers at (v ∷ vs) = nibble_offers at v ++ read_answers (at + 1) vs

-- D3 is what it leaves on DATA
abbrev driven : List ℕ → ℕ → Line
driven m a = Driven (bit_at 3 (get_or m a 0))

module _ (b : Bool) (line : Line) (m : List ℕ) (a n : ℕ) where
  nibble_notes_lem : notes_l (offering b line m a) (reads_l (suc n))
      ≡ bits_of (get_or m a 0 ∷ []) ++ notes_l (offering true (driven m a) m (next a)) (reads_l n)
  unfolding moved framed_by frame offered read_offered memory_after
  nibble_notes_lem = refl

  nibble_offers_lem : (part : Part) → trace part (offering b line m a) (reads_l (suc n))
      ≡ nibble_offers a (get_or m a 0) ++ trace part (offering true (driven m a) m (next a)) (reads_l n)
  unfolding moved framed_by frame offered read_offered memory_after
  nibble_offers_lem part = refl

-- the memory from a on begins with vs
reads_body : (part : Part) (vs rest : List ℕ) (b : Bool) (line : Line) (m : List ℕ) (a : ℕ) → a + length vs ≤ addresses → drop a m ≡ vs ++ rest
    → (notes_l (offering b line m (reached a)) (reads_l (length vs)) ≡ bits_of vs)
    × (trace part (offering b line m (reached a)) (reads_l (length vs)) ≡ read_answers a vs)
unfolding moved framed_by frame closed
reads_body part [] rest b line m a h e = (refl, refl)
reads_body part (n ∷ vs) rest b line m a h e =
    let others = reads_body part vs rest true (driven m (reached a)) m (suc a) (omega arith) there in (
      nibble_notes_lem b line m (reached a) (length vs)
          ∙ ap₂ (λ (x : ℕ) (noted : List ℕ). bits_of (x ∷ []) ++ noted) at
          (ap (λ (x : ℕ). notes_l (offering true (driven m (reached a)) m x) (reads_l (length vs))) (reached_next a) ∙ others.0),
      nibble_offers_lem b line m (reached a) (length vs) part
          ∙ ap₂ (λ (x y : ℕ). nibble_offers x y ++ trace part (offering true (driven m (reached a)) m (next (reached a))) (reads_l (length vs))) near at
          ∙ ap (λ (answers : List Answer). nibble_offers a n ++ answers)
          (ap (λ (x : ℕ). trace part (offering true (driven m (reached a)) m x) (reads_l (length vs))) (reached_next a)
          ∙ others.1 ∙ ap (λ (x : ℕ). read_answers x vs) one),
    )
  where
    near : reached a ≡ a
    near = reached_small a (omega arith)

    small : reached a ≡ a + 0
    small = omega arith

    one : suc a ≡ a + 1
    one = omega arith

    at : get_or m (reached a) 0 ≡ n
    at = ap (λ (x : ℕ). get_or m x 0) small ∙ sym (get_or-drop a m 0 0) ∙ ap (λ (l : List ℕ). get_or l 0 0) e

    there : drop (suc a) m ≡ vs ++ rest
    there = ap (λ (x : ℕ). drop x m) one ∙ sym (drop-drop 1 a m) ∙ ap (drop 1) e

-- the answers obey nothing, and the last closes
pub offers_plain : (at : ℕ) (vs : List ℕ) → Plain (read_answers at vs)
offers_plain at [] = (tt, tt)
offers_plain at (v ∷ vs) = (tt, (tt, (tt, (tt, (tt, (tt, (tt, (tt, offers_plain (at + 1) vs))))))))

pub offers_close : (at : ℕ) (vs : List ℕ) (before : Answer) → last_answer before (read_answers at vs) ≡ Closed
offers_close at [] before = refl
offers_close at (v ∷ vs) before = offers_close (at + 1) vs _

-- ---- the whole stream, from any port

module _ (p : Port) (first : ℕ) (vs rest : List ℕ) (fit : Fit first vs) (e : drop first p.memory ≡ vs ++ rest) where
  abbrev body : Port
  body = offering (bit_at 0 first) Released p.memory (reached first)

  reached_body : run_p (idle p.memory high) (rest_l first) ≡ body
  reached_body = head_reads p.memory first (omega (arith, fit.some, fit.inside))

  pub read_noted : notes_l p (read_l first (length vs)) ≡ bits_of vs
  read_noted =
      notes_opened p (rest_l first ++ reads_l (length vs))
      ∙ head_notes p.memory first (reads_l (length vs))
      ∙ ap (λ (q : Port). notes_l q (reads_l (length vs))) reached_body
      ∙ (reads_body Ht vs rest (bit_at 0 first) Released p.memory first fit.inside e).0

  pub read_answers_lem : (part : Part) → trace part p (read_l first (length vs)) ≡ first_answer p ∷ Opened ∷ bit_answers 9 ++ read_answers first vs
  read_answers_lem part =
      trace_headed p (rest_l first) (reads_l (length vs)) body reached_body part (Opened ∷ bit_answers 9) (head_trace part p.memory first)
      ∙ ap (λ (answers : List Answer). first_answer p ∷ Opened ∷ bit_answers 9 ++ answers)
      (reads_body part vs rest (bit_at 0 first) Released p.memory first fit.inside e).1

-- ---- what it leaves

reads_leave : (n : ℕ) (b : Bool) (line : Line) (m : List ℕ) (a : ℕ) → run_p (offering b line m a) (reads_l n) ≡ idle m high
unfolding moved framed_by frame closed offered read_offered memory_after
reads_leave zero b line m a = refl
reads_leave (suc n) b line m a = reads_leave n true (driven m a) m (next a)

pub read_leaves : (p : Port) (first n : ℕ) → run_p p (read_l first n) ≡ idle p.memory high
read_leaves p first n =
    run_headed p (rest_l first) (reads_l n) _ (reached_by p.memory first)
    ∙ reads_leave n (bit_at 0 first) Released p.memory (address_sent first)
