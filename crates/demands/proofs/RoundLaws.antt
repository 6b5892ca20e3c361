-- A frame that reads or writes, fed samples with CS low, one after another, by what each is to the frame. A read counts the bits that it
-- was asked for; a write collects bits, and every fourth makes a nibble and steps the address. Assumes nothing.
use mathlib.Core.Path.{◌≡◌, ◌∙◌, refl, sym, ap, ap₂, subst}
use mathlib.Core.Bool.{Bool, true, false, cond}
use mathlib.Core.List.{List, [], ◌∷◌, ◌++◌, map}
use Prim.Native.Nat.{ℕ, zero, suc, ◌+◌, ◌/◌, ◌%◌, ◌≤◌, ◌<◌}
use native.Mathlib.Nat.{add-zero}
use native.Mathlib.Omega.{arith}
use Rattle.ground.specs.declared.Part.{Part}
use lib.Dec.{eqb, ltb}
use lib.ListN.{length, get_or, set, take, get_or-eq_default, length-set}
use lib.Seq.{get_or-set_same, get_or-set_other, take-set-le}
use borrow.Author.Tests.{ltb-true, ltb-false}
use Rattle.ground.specs.Bits.{bit_at, bit_number}
use Rattle.ground.specs.Values.{values}
use Rattle.ground.proofs.ChoiceLaws.{by_cases}
use Rattle.lines.specs.declared.Levels.{Levels}
use Rattle.lines.specs.declared.Edge.{Edge}
use Rattle.lines.specs.declared.Edge.TheVariants.{Clashes, Takes, Offers, Quiet}
use Rattle.lines.specs.Samples.{levels, rose, clocked, edge}
use Rattle.phases.specs.declared.Phase.{Phase}
use Rattle.phases.specs.declared.Phase.TheVariants.{Reading, Writing}
use Rattle.phases.specs.declared.Line.{Line}
use Rattle.phases.specs.declared.Line.TheVariants.{Released, Driven}
use Rattle.answers.specs.declared.Answer.{Answer}
use Rattle.answers.specs.declared.Answer.TheVariants.{Nothing, Taken, Stored, Offered, Stray, Clash}
use Rattle.answers.specs.Answers.{answer_number, act}
use Rattle.frames.specs.Frames.{turned, next, frame, taken, offered, read_offered, nibble_taken}
use Rattle.port.specs.declared.Port.{Port}
use Rattle.port.specs.Port.{memory_after, framed_by, moved_as, moved}
use Rattle.chip.specs.Chip.{told}
use Rattle.streams.specs.Streams.{nibble_of, decoded}
use Rattle.demands.specs.Round.{CsLow, edges, bits_in, falls_in, answers_numbered, on_from, standing_at, bit_due, offer_due, line_due, answers_due, falls_since}
use Rattle.demands.specs.Stopped.{with_bits}
use Rattle.demands.proofs.Ports.{run_p, trace}
use Rattle.demands.proofs.SettingsLaws.{Unobeyed, Plain}

-- ---- one sample

-- with CS low before and after there are four edges
module _ (P : Edge → Type 0) (clash : P Clashes) (takes : (bit : Bool) → P (Takes bit)) (offers : P Offers) (quiet : P Quiet) where
  by_clocks : (rise fall bit : Bool) → P (clocked rise fall bit)
  by_clocks true true bit = clash
  by_clocks true false bit = takes bit
  by_clocks false true bit = offers
  by_clocks false false bit = quiet

  by_edge : (before now : Levels) → before.cs ≡ false → now.cs ≡ false → P (edge before now)
  by_edge before now e f = rw (e, f) (by_clocks (rose before.wr now.wr) (rose now.rd before.rd) now.bit)

low_levels : (s : ℕ) → s % 2 ≡ 0 → (levels s).cs ≡ false
low_levels s e = rw e

-- past the memory there is nothing but 0
standing : (m : List ℕ) → length m ≡ 32 → (at : ℕ) → get_or m at 0 ≡ standing_at m at
standing m size at =
    by_cases (λ n. get_or m at 0 ≡ n) (ltb at _) (λ t. refl)
    (λ f. get_or-eq_default m 0 {n = at} (omega (arith, size, ltb-false at _ f)))

-- ---- a read

module _ (part : Part) (m : List ℕ) (size : length m ≡ 32) (first : ℕ) where
  bit_said : (n : ℕ) → bit_at (n % 4) (get_or m (on_from first (n / 4)) 0) ≡ bit_due m first n
  bit_said n = ap (bit_at (n % 4)) (standing m size (on_from first (n / 4)))

  -- where the frame stands once n bits were asked for
  abbrev phase_due : ℕ → Phase
  phase_due n = Reading (on_from first (n / 4)) (n % 4)

  phase_steps : (n : ℕ)
      → cond (ltb (n % 4) 3) (Reading (on_from first (n / 4)) (n % 4 + 1)) (Reading (next (on_from first (n / 4))) 0) ≡ phase_due (suc n)
  phase_steps n =
      by_cases (λ p. p ≡ phase_due (suc n)) (ltb (n % 4) 3)
      (λ t.
      let same : n / 4 ≡ suc n / 4 = omega (arith, ltb-true (n % 4) 3 t) in
      let more : n % 4 + 1 ≡ suc n % 4 = omega (arith, ltb-true (n % 4) 3 t) in
      ap₂ Reading (ap (on_from first) same) more)
      (λ f.
      let further : next (on_from first (n / 4)) ≡ on_from first (suc n / 4) = omega (arith, ltb-false (n % 4) 3 f) in
      let again : 0 ≡ suc n % 4 = omega (arith, ltb-false (n % 4) 3 f) in
      ap₂ Reading further again)

  abbrev pub reading : Levels → ℕ → Port
  reading l n = record { memory = m; levels = l; phase = phase_due n; line = line_due m first n }

  -- what is left of it, and what was answered, after so many falls more
  pub record ReadOn (n falls : ℕ) (left : Port) (answers : List Answer) : Type 0 where
    pub memory : left.memory ≡ m
    pub line : left.line ≡ line_due m first (n + falls)
    pub offers : answers_numbered 8 answers ≡ values (offer_due m first) n falls
    pub plain : Plain answers

  -- with one more answer in front, which offers and obeys nothing
  read_more : (n falls : ℕ) (left : Port) (answers : List Answer) (answer : Answer) → eqb (answer_number answer) 8 ≡ false → Unobeyed (act answer)
      → ReadOn n falls left answers → ReadOn n falls left (answer ∷ answers)
  read_more n falls left answers answer other plain on =
      record { memory = on.memory; line = on.line; offers = rw other on.offers; plain = (plain, on.plain) }

  abbrev ReadsOn : Port → List ℕ → ℕ → ℕ → Type 0
  ReadsOn p rest n falls = ReadOn n falls (run_p p (map levels rest)) (trace part p (map levels rest))

  -- the same of a first sample, by what it is to the frame
  abbrev ReadsBy : Levels → ℕ → ℕ → List ℕ → Edge → Type 0
  ReadsBy l n s rest e =
      let q = moved_as (reading l n) (levels s) (frame e (get_or m (on_from first (n / 4)) 0) (phase_due n) (line_due m first n)) in
      ReadOn n (falls_in (e ∷ edges (levels s) rest)) (run_p q.port (map levels rest)) (told part q.upshot ∷ trace part q.port (map levels rest))

  -- one that asks for a bit: the frame goes on as after one more
  module _ (l : Levels) (n s : ℕ) (rest : List ℕ) where
    abbrev falls : ℕ
    falls = falls_in (edges (levels s) rest)

    asked : ReadsOn (reading (levels s) (suc n)) rest (suc n) falls → ReadsBy l n s rest Offers
    unfolding frame offered read_offered memory_after
    asked on =
        let bit = bit_said n in
        let count : suc n + falls ≡ n + suc falls = omega arith in
        let stands : record { memory = m; levels = levels s; phase = cond (ltb (n % 4) 3) (Reading (on_from first (n / 4)) (n % 4 + 1)) (Reading (next (on_from first (n / 4))) 0); line = Driven (bit_at (n % 4) (get_or m (on_from first (n / 4)) 0)) } ≡ reading (levels s) (suc n) =
        λ i. record { memory = m; levels = levels s; phase = phase_steps n i; line = Driven (bit i) } in
        record {
          memory = ap (λ (p : Port). (run_p p (map levels rest)).memory) stands ∙ on.memory;
          line = ap (λ (p : Port). (run_p p (map levels rest)).line) stands ∙ on.line ∙ ap (line_due m first) count;
          offers =
              ap₂ (λ (b : Bool) (p : Port). Offered (on_from first (n / 4)) b ∷ answers_numbered 8 (trace part p (map levels rest))) bit stands
              ∙ ap (λ (others : List Answer). offer_due m first n ∷ others) on.offers;
          plain = (tt, subst (λ (p : Port). Plain (trace part p (map levels rest))) (sym stands) on.plain);
        }

  pub reads_on : (rest : List ℕ) (l : Levels) (n : ℕ) → l.cs ≡ false → CsLow rest → ReadsOn (reading l n) rest n (falls_in (edges l rest))
  unfolding moved framed_by frame taken memory_after
  reads_on [] l n low v = record { memory = refl; line = ap (line_due m first) (sym (add-zero n)); offers = refl; plain = tt }
  reads_on (s ∷ ss) l n low v =
      let now = low_levels s v.1 in
      let on = reads_on ss (levels s) n now v.2 in
      by_edge (ReadsBy l n s ss) (read_more n _ _ _ Clash refl tt on) (λ bit. read_more n _ _ _ Stray refl tt on)
      (asked l n s ss (reads_on ss (levels s) (suc n) now v.2)) (read_more n _ _ _ Nothing refl tt on)
      l (levels s) low now

-- ---- a write

-- what nibbles sent from an address on leave of a memory, and the nibbles that bits make
abbrev pub stores_in : List ℕ → ℕ → List ℕ → List ℕ
stores_in m at [] = m
stores_in m at (n ∷ ns) = stores_in (set m (at % 64) n) (at + 1) ns

abbrev pub nibbles_of : List Bool → List ℕ
nibbles_of bits = decoded (map bit_number bits)

nibble_made : (a b c d : Bool)
    → turned (with_bits 0 (a ∷ b ∷ c ∷ d ∷ [])) ≡ nibble_of (bit_number a) (bit_number b) (bit_number c) (bit_number d)
nibble_made true true true true = refl
nibble_made true true true false = refl
nibble_made true true false true = refl
nibble_made true true false false = refl
nibble_made true false true true = refl
nibble_made true false true false = refl
nibble_made true false false true = refl
nibble_made true false false false = refl
nibble_made false true true true = refl
nibble_made false true true false = refl
nibble_made false true false true = refl
nibble_made false true false false = refl
nibble_made false false true true = refl
nibble_made false false true false = refl
nibble_made false false false true = refl
nibble_made false false false false = refl

-- fewer than four are none
few_bits : (bits : List Bool) → length bits ≤ 3 → nibbles_of (bits ++ []) ≡ []
few_bits [] h = refl
few_bits (a ∷ []) h = refl
few_bits (a ∷ b ∷ []) h = refl
few_bits (a ∷ b ∷ c ∷ []) h = refl
few_bits (a ∷ b ∷ c ∷ d ∷ bits) h = let no : ⊥ = omega arith in absurd no

-- a frame that has taken these bits of the next nibble, and was asked for so many bits since the last
abbrev pub writing : List ℕ → Levels → List Bool → ℕ → ℕ → Line → Port
writing m l bits at falls line =
    record { memory = m; levels = l; phase = Writing (length bits) (with_bits 0 bits) (at % 64) (falls % 4); line = line }

pub record StandsAt (phase : Phase) (at position : ℕ) : Type 0 where
  pub count : ℕ
  pub value : ℕ
  pub is : phase ≡ Writing count value at position

-- what is left of it, and what was answered, after these nibbles and so many falls since
pub record WriteOn (m : List ℕ) (at : ℕ) (nibbles : List ℕ) (since : ℕ) (left : Port) (answers : List Answer) : Type 0 where
  pub memory : left.memory ≡ stores_in m at nibbles
  pub stores : answers_numbered 5 answers ≡ answers_due at nibbles
  pub plain : Plain answers
  pub stands : StandsAt left.phase (on_from at (length nibbles)) (since % 4)

-- with one more answer in front, which stores and obeys nothing
write_more : (m : List ℕ) (at : ℕ) (ns : List ℕ) (since : ℕ) (left : Port) (answers : List Answer) (answer : Answer)
    → eqb (answer_number answer) 5 ≡ false → Unobeyed (act answer) → WriteOn m at ns since left answers → WriteOn m at ns since left (answer ∷ answers)
write_more m at ns since left answers answer other plain on =
    record { memory = on.memory; stores = rw other on.stores; plain = (plain, on.plain); stands = on.stands }

abbrev WritesOn : Part → List ℕ → ℕ → List ℕ → ℕ → List ℕ → Port → Type 0
WritesOn part m at nibbles since rest p = WriteOn m at nibbles since (run_p p (map levels rest)) (trace part p (map levels rest))

abbrev WritesFrom : Part → List ℕ → Type 0
WritesFrom part rest =
    (m : List ℕ) (l : Levels) (bits : List Bool) (at falls : ℕ) (line : Line) → l.cs ≡ false → length bits ≤ 3
    → WritesOn part m at (nibbles_of (bits ++ bits_in (edges l rest))) (falls_since (length bits) falls (edges l rest)) rest (writing m l bits at falls line)

module _ (part : Part) (m : List ℕ) (l : Levels) (s : ℕ) (rest : List ℕ) (at falls : ℕ) (line : Line) where
  -- of a first sample, by what it is to the frame
  abbrev WritesBy : List Bool → Edge → Type 0
  WritesBy bits e =
      let p = writing m l bits at falls line in
      let q = moved_as p (levels s) (frame e (get_or m (at % 64) 0) p.phase line) in
      WriteOn m at (nibbles_of (bits ++ bits_in (e ∷ edges (levels s) rest))) (falls_since (length bits) falls (e ∷ edges (levels s) rest))
      (run_p q.port (map levels rest)) (told part q.upshot ∷ trace part q.port (map levels rest))

  module _ (on : WritesFrom part rest) (now : (levels s).cs ≡ false) where
    -- a bit completes a nibble where three came before it
    bit_taken : (bits : List Bool) (bit : Bool) → length bits ≤ 3 → WritesBy bits (Takes bit)
    unfolding frame taken nibble_taken memory_after
    bit_taken [] bit h = write_more m at _ _ _ _ Taken refl tt (on m (levels s) (bit ∷ []) at falls Released now (omega arith))
    bit_taken (a ∷ []) bit h = write_more m at _ _ _ _ Taken refl tt (on m (levels s) (a ∷ bit ∷ []) at falls Released now (omega arith))
    bit_taken (a ∷ b ∷ []) bit h = write_more m at _ _ _ _ Taken refl tt (on m (levels s) (a ∷ b ∷ bit ∷ []) at falls Released now (omega arith))
    bit_taken (a ∷ b ∷ c ∷ []) bit h =
        let n = nibble_of (bit_number a) (bit_number b) (bit_number c) (bit_number bit) in
        let ns = nibbles_of (bits_in (edges (levels s) rest)) in
        let steps : next (at % 64) ≡ (at + 1) % 64 = omega arith in
        let made = nibble_made a b c bit in
        let since = falls_since 0 0 (edges (levels s) rest) in
        let q : Port =
        record { memory = set m (at % 64) (turned (with_bits 0 (a ∷ b ∷ c ∷ bit ∷ []))); levels = levels s; phase = Writing 0 0 (next (at % 64)) 0; line = Released } in
        let begins : q ≡ writing (set m (at % 64) n) (levels s) [] (at + 1) 0 Released =
        λ i. record { memory = set m (at % 64) (made i); levels = levels s; phase = Writing 0 0 (steps i) 0; line = Released } in
        let further =
        subst (WritesOn part (set m (at % 64) n) (at + 1) ns since rest) (sym begins)
        (on (set m (at % 64) n) (levels s) [] (at + 1) 0 Released now (omega arith)) in
        let one : on_from (at + 1) (length ns) ≡ on_from at (suc (length ns)) = omega arith in
        record {
          memory = further.memory;
          stores = ap₂ (λ (x : ℕ) (others : List Answer). Stored (at % 64) x ∷ others) made further.stores;
          plain = (tt, further.plain);
          stands = subst (λ (x : ℕ). StandsAt (run_p q (map levels rest)).phase x (since % 4)) one further.stands;
        }
    bit_taken (a ∷ b ∷ c ∷ d ∷ bits) bit h = let no : ⊥ = omega arith in absurd no

    -- any other sample leaves the bits and the address
    bits_stay : (bits : List Bool) → length bits ≤ 3 → (WritesBy bits Clashes) × (WritesBy bits Offers) × (WritesBy bits Quiet)
    unfolding frame offered memory_after
    bits_stay bits h =
        let still = on m (levels s) bits at falls line now h in
        let shown = Driven (bit_at (falls % 4) (get_or m (at % 64) 0)) in
        let round : (falls % 4 + 1) % 4 ≡ (falls + 1) % 4 = omega arith in
        let read =
        subst (λ (position : ℕ).
        WritesOn part m at (nibbles_of (bits ++ bits_in (edges (levels s) rest))) (falls_since (length bits) (falls + 1) (edges (levels s) rest)) rest
        (record { memory = m; levels = levels s; phase = Writing (length bits) (with_bits 0 bits) (at % 64) position; line = shown })) (sym round)
        (on m (levels s) bits at (falls + 1) shown now h) in (
          write_more m at _ _ _ _ Clash refl tt still,
          write_more m at _ _ _ _ (Offered (at % 64) (bit_at (falls % 4) (get_or m (at % 64) 0))) refl tt read,
          write_more m at _ _ _ _ Nothing refl tt still,
        )

pub writes_on : (part : Part) (rest : List ℕ) → CsLow rest → WritesFrom part rest
unfolding moved framed_by
writes_on part [] v m l bits at falls line low few =
    let still : at % 64 ≡ on_from at 0 = omega arith in
    rw (few_bits bits few)
    (record {
      memory = refl;
      stores = refl;
      plain = tt;
      stands = record { count = length bits; value = with_bits 0 bits; is = ap (λ (x : ℕ). Writing (length bits) (with_bits 0 bits) x (falls % 4)) still };
    })
writes_on part (s ∷ ss) v m l bits at falls line low few =
    let now = low_levels s v.1 in
    let on = writes_on part ss v.2 in
    let stay = bits_stay part m l s ss at falls line on now bits few in
    by_edge (WritesBy part m l s ss at falls line bits) stay.0 (λ bit. bit_taken part m l s ss at falls line on now bits bit few) stay.1 stay.2
    l (levels s) low now

-- a fall is then offered the bit at the reading position
pub offer_next : (part : Part) (p : Port) (now : Levels) (at position : ℕ) → StandsAt p.phase at position → length p.memory ≡ 32 → edge p.levels now ≡ Offers
    → (let bit = bit_at position (standing_at p.memory at) in
    (told part (moved p now).upshot ≡ Offered at bit) × ((moved p now).port.line ≡ Driven bit))
unfolding moved framed_by frame offered
offer_next part p now at position there size e =
    let bit = ap (bit_at position) (standing p.memory size at) in
    (rw (e, there.is) (ap (Offered at) bit), rw (e, there.is) (ap Driven bit))

-- ---- the memory that is left, address by address

pub stores_size : (ns m : List ℕ) (at : ℕ) → length (stores_in m at ns) ≡ length m
stores_size [] m at = refl
stores_size (n ∷ ns) m at = stores_size ns (set m (at % 64) n) (at + 1) ∙ simp length-set

pub stores_keep : (ns m : List ℕ) (at place : ℕ) → ((i : ℕ) → i < length ns → on_from at i ≡ place → ⊥)
    → get_or (stores_in m at ns) place 0 ≡ get_or m place 0
stores_keep [] m at place none = refl
stores_keep (n ∷ ns) m at place none =
    stores_keep ns (set m (at % 64) n) (at + 1) place (λ i h e. none (suc i) (omega (arith, h)) (later i ∙ e))
    ∙ get_or-set_other m (at % 64) place n 0 (λ e. none 0 (omega arith) (first ∙ sym e))
  where
    later : (i : ℕ) → on_from at (suc i) ≡ on_from (at + 1) i
    later i = omega arith

    first : on_from at 0 ≡ at % 64
    first = omega arith

-- the last nibble that comes to an address stands there
pub stores_last : (ns m : List ℕ) (at i : ℕ) → length m ≡ 32 → i < length ns → length ns ≤ i + 64 → on_from at i < 32
    → get_or (stores_in m at ns) (on_from at i) 0 ≡ get_or ns i 0
stores_last [] m at i size h k inside = let no : ⊥ = omega arith in absurd no
stores_last (n ∷ ns) m at zero size h k inside =
    ap (λ (x : ℕ). get_or (stores_in (set m (at % 64) n) (at + 1) ns) x 0) here
    ∙ stores_keep ns (set m (at % 64) n) (at + 1) (at % 64) (λ i less e. omega (arith, less, e, k))
    ∙ get_or-set_same m (at % 64) n 0 (omega (arith, inside, size))
  where
    here : on_from at 0 ≡ at % 64
    here = omega arith
stores_last (n ∷ ns) m at (suc i) size h k inside =
    ap (λ (x : ℕ). get_or (stores_in (set m (at % 64) n) (at + 1) ns) x 0) later
    ∙ stores_last ns (set m (at % 64) n) (at + 1) i (simp length-set size) (omega arith) (omega arith) (omega (arith, inside, later))
  where
    later : on_from at (suc i) ≡ on_from (at + 1) i
    later = omega arith

-- and before the frame comes round nothing comes to the addresses below the first
pub stores_below : (ns m : List ℕ) (first at : ℕ) → first ≤ at → at + length ns ≤ 64 → take first (stores_in m at ns) ≡ take first m
stores_below [] m first at h k = refl
stores_below (n ∷ ns) m first at h k =
    stores_below ns (set m (at % 64) n) first (at + 1) (omega arith) (omega arith)
    ∙ take-set-le first m (at % 64) n (omega (arith, h, k))
