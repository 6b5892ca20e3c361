-- A write's stream, fed to a port as levels and cut anywhere. The head's twenty samples are computed one by one, and the nibbles go
-- by one induction, eight samples a nibble: it says both how the port stands and what was answered. Assumes nothing.
use mathlib.Core.Path.{◌≡◌, ◌∙◌, refl, sym, ap, ap₂, subst}
use mathlib.Core.Bool.{Bool, true, cond}
use mathlib.Core.List.{List, [], ◌∷◌, ◌++◌}
use Prim.Native.Nat.{ℕ, zero, suc, ◌+◌, ◌-◌, ◌/◌, ◌%◌, ◌≤◌, ◌<◌}
use native.Mathlib.Decide.{dec_lt}
use native.Mathlib.Omega.{arith}
use Rattle.ground.specs.declared.Part.{Part}
use lib.ListN.{length, get_or, set, take}
use lib.Seq.{sets, take-nil, take-append-add, get_or-append-add}
use borrow.Author.Tests.{le-ltb}
use Rattle.ground.specs.Bits.{bit_at}
use Rattle.ground.specs.Sizes.{addresses}
use Rattle.ground.specs.Values.{values, agree}
use Rattle.lines.specs.declared.Levels.{Levels}
use Rattle.phases.specs.declared.Phase.TheVariants.{Idle, Writing}
use Rattle.phases.specs.Phases.{round}
use Rattle.phases.specs.declared.Line.TheVariants.{Released}
use Rattle.answers.specs.declared.Answer.{Answer}
use Rattle.answers.specs.declared.Answer.TheVariants.{Nothing, Opened, Stored}
use Rattle.frames.specs.Frames.{next, reached, frame, closed, taken, ident_taken, identified, write_to_taken, nibble_taken}
use Rattle.port.specs.declared.Port.{Port}
use Rattle.port.specs.Port.{memory_after, framed_by, moved}
use Rattle.port.specs.Valid.{Nibbles}
use Rattle.streams.specs.Streams.{write_id, address_bits, nibble_bits}
use Rattle.demands.specs.Stopped.{nibble_phase, write_phase, bits_taken, bit_answers, nibble_answers}
use Rattle.demands.proofs.AcceptedLaws.{Fit}
use Rattle.demands.proofs.Ports.{run_p, run_append, trace, trace_append, idle, high}
use Rattle.demands.proofs.SentLaws.{address_sent_lem, nibble_sent_lem, reached_small, reached_next}
use Rattle.demands.proofs.StreamLevels.{up, bits_l, head_l, nibbles_l}

-- ---- the nibbles, cut anywhere

-- a frame that takes nibbles: no bit of the next, at an address
abbrev pub ready : Bool → List ℕ → ℕ → Port
ready b m at = record { memory = m; levels = up b; phase = Writing 0 0 at 0; line = Released }

-- the frame was at `at` when the nibbles began, and the memory takes them from a on
abbrev written_port : List ℕ → ℕ → ℕ → List ℕ → ℕ → ℕ → Levels → Port
written_port m a at ns whole bits now =
    record {
      memory = sets m a (take whole ns);
      levels = now;
      phase = cond now.cs Idle (nibble_phase at ns whole bits);
      line = Released;
    }

-- what one nibble leaves
nibble_leaves : (b : Bool) (m : List ℕ) (a n : ℕ) → a < round → n < 16
    → run_p (ready b m (reached a)) (bits_l (nibble_bits n)) ≡ ready (bit_at 3 n) (set m a n) (reached (suc a))
unfolding moved framed_by frame taken nibble_taken memory_after
nibble_leaves b m a n inside small =
    ap₂ (λ (at value : ℕ). ready (bit_at 3 n) (set m at value) (next (reached a))) (reached_small a inside) (nibble_sent_lem n small)
    ∙ ap (ready (bit_at 3 n) (set m a n)) (reached_next a)

nibbles_cut : (part : Part) (ns : List ℕ) (k : ℕ) (b : Bool) (m : List ℕ) (a : ℕ) → a + length ns ≤ addresses → Nibbles ns
    → (run_p (ready b m (reached a)) (take k (nibbles_l ns)) ≡ written_port m a (reached a) ns (k / 8) (k % 8 / 2) (get_or (up b ∷ nibbles_l ns) k high))
    × (trace part (ready b m (reached a)) (take k (nibbles_l ns)) ≡ take k (nibble_answers a ns))
unfolding moved framed_by frame taken nibble_taken closed memory_after
nibbles_cut part [] zero b m a h v = (refl, refl)
nibbles_cut part [] (suc zero) b m a h v = (refl, refl)
nibbles_cut part [] (suc (suc k)) b m a h v = (rw take-nil, refl)
nibbles_cut part (n ∷ ns) zero b m a h v = (refl, refl)
nibbles_cut part (n ∷ ns) (suc zero) b m a h v = (refl, refl)
nibbles_cut part (n ∷ ns) (suc (suc zero)) b m a h v = (refl, refl)
nibbles_cut part (n ∷ ns) (suc (suc (suc zero))) b m a h v = (refl, refl)
nibbles_cut part (n ∷ ns) (suc (suc (suc (suc zero)))) b m a h v = (refl, refl)
nibbles_cut part (n ∷ ns) (suc (suc (suc (suc (suc zero))))) b m a h v = (refl, refl)
nibbles_cut part (n ∷ ns) (suc (suc (suc (suc (suc (suc zero)))))) b m a h v = (refl, refl)
nibbles_cut part (n ∷ ns) (suc (suc (suc (suc (suc (suc (suc zero))))))) b m a h v = (refl, refl)
nibbles_cut part (n ∷ ns) (suc (suc (suc (suc (suc (suc (suc (suc k)))))))) b m a h v =
    let left = nibble_leaves b m a n (omega arith) v.0 in
    let rest = take k (nibbles_l ns) in
    let others = nibbles_cut part ns k (bit_at 3 n) (set m a n) (suc a) (omega arith) v.1 in (
      ap (λ (q : Port). run_p q rest) left
          ∙ others.0
          ∙ ap (λ (at : ℕ). written_port (set m a n) (suc a) at ns (k / 8) (k % 8 / 2) now) (sym (reached_next a))
          ∙ ap₂ (λ (whole bits : ℕ). written_port m a (reached a) (n ∷ ns) whole bits now) more_whole same_bits,
      ap₂ (λ (at value : ℕ). bit_answers 3 ++ Nothing ∷ Stored at value ∷ trace part (run_p (ready b m (reached a)) (bits_l (nibble_bits n))) rest)
          (reached_small a (omega arith)) (nibble_sent_lem n v.0)
          ∙ ap (λ (answers : List Answer). bit_answers 3 ++ Nothing ∷ Stored a n ∷ answers)
          (ap (λ (q : Port). trace part q rest) left ∙ others.1 ∙ ap (λ (at : ℕ). take k (nibble_answers at ns)) one),
    )
  where
    now : Levels
    now = get_or (up (bit_at 3 n) ∷ nibbles_l ns) k high

    more_whole : suc (k / 8) ≡ suc (suc (suc (suc (suc (suc (suc (suc k))))))) / 8
    more_whole = omega arith

    same_bits : k % 8 / 2 ≡ suc (suc (suc (suc (suc (suc (suc (suc k))))))) % 8 / 2
    same_bits = omega arith

    one : suc a ≡ a + 1
    one = omega arith

-- ---- the head, cut anywhere

-- what comes after the first sample, with which all lines were high: nineteen samples of the head, and the nibbles
abbrev pub rest_l : ℕ → List Levels
rest_l first = up true ∷ bits_l (write_id ++ address_bits first)

abbrev pub write_l : ℕ → List ℕ → List Levels
write_l first ns = head_l (write_id ++ address_bits first) ++ nibbles_l ns

-- how the port stands after k samples, by its memory and the last levels
abbrev pub standing : ℕ → List ℕ → ℕ → List ℕ → Levels → Port
standing first ns k m now =
    record { memory = m; levels = now; phase = cond now.cs Idle (write_phase first ns (bits_taken k)); line = Released }

-- a number below some limit, or past it
by_limit : (P : ℕ → Type 0) (limit : ℕ) → ((k : ℕ) → k < limit → P k) → ((j : ℕ) → P (limit + j)) → (k : ℕ) → P k
by_limit P limit below past k = by (dec_lt k limit)
  where
    by : Dec (k < limit) → P k
    by (yes h) = below k h
    by (no h) = subst P back (past (k - limit))
      where
        back : limit + (k - limit) ≡ k
        back = omega arith

-- the head leads to any address
pub head_leaves : (m : List ℕ) (first : ℕ) → first < round → run_p (idle m high) (rest_l first) ≡ ready (bit_at 0 first) m (reached first)
unfolding moved framed_by frame taken ident_taken identified write_to_taken memory_after
head_leaves m first h = ap (ready (bit_at 0 first) m) (address_sent_lem first h)

pub head_answers : (part : Part) (m : List ℕ) (first : ℕ) → trace part (idle m high) (rest_l first) ≡ Opened ∷ bit_answers 9
unfolding moved framed_by frame taken ident_taken identified write_to_taken memory_after
head_answers part m first = refl

module _ (part : Part) (m : List ℕ) (first : ℕ) (ns : List ℕ) (fit : Fit first ns) where
  -- the first address is one of the frame's
  near : first < round
  near = omega (arith, fit.some, fit.inside)

  abbrev tail : List Levels
  tail = rest_l first ++ nibbles_l ns

  abbrev stands_at : ℕ → Port
  stands_at k = standing first ns (suc k) (sets m first (take ((suc k - 20) / 8) ns)) (get_or (write_l first ns) k high)

  abbrev due_answers : List Answer
  due_answers = Opened ∷ bit_answers 9 ++ nibble_answers first ns

  abbrev Cut : ℕ → Type 0
  Cut k = (run_p (idle m high) (take k tail) ≡ stands_at k) × (trace part (idle m high) (take k tail) ≡ take k due_answers)

  head_stands : values (λ k. run_p (idle m high) (take k tail)) 0 19 ≡ values stands_at 0 19
  unfolding moved framed_by frame taken ident_taken identified write_to_taken memory_after
  head_stands = refl

  head_told : values (λ k. trace part (idle m high) (take k tail)) 0 19 ≡ values (λ k. take k due_answers) 0 19
  unfolding moved framed_by frame taken ident_taken identified write_to_taken memory_after
  head_told = refl

  head_cut : (k : ℕ) → k < 19 → Cut k
  head_cut k h = (
    agree (λ k. run_p (idle m high) (take k tail)) stands_at 19 head_stands k h,
    agree (λ k. trace part (idle m high) (take k tail)) (λ k. take k due_answers) 19 head_told k h,
  )

  -- twenty samples are nine bits, and then eight are four
  nibble_phase_lem : (j : ℕ) → nibble_phase (reached first) ns (j / 8) (j % 8 / 2) ≡ write_phase first ns (bits_taken (suc (19 + j)))
  nibble_phase_lem j =
      let bits = bits_taken (suc (19 + j)) in
      let whole : j / 8 ≡ (bits - 9) / 4 = omega arith in
      let some : j % 8 / 2 ≡ (bits - 9) % 4 = omega arith in
      ap (λ (at : ℕ). nibble_phase at ns (j / 8) (j % 8 / 2)) (reached_small first near)
      ∙ ap₂ (nibble_phase first ns) whole some
      ∙ sym (rw (le-ltb bits 3 (omega arith), le-ltb bits 9 (omega arith)))

  nibbles_stand : (j : ℕ)
      → written_port m first (reached first) ns (j / 8) (j % 8 / 2) (get_or (up (bit_at 0 first) ∷ nibbles_l ns) j high)
      ≡ stands_at (19 + j)
  nibbles_stand j =
      let whole : j / 8 ≡ (suc (19 + j) - 20) / 8 = omega arith in
      let last = sym (get_or-append-add (take 19 (head_l (write_id ++ address_bits first))) (up (bit_at 0 first) ∷ nibbles_l ns) j high) in
      λ i. record {
        memory = sets m first (take (whole i) ns);
        levels = last i;
        phase = cond (last i).cs Idle (nibble_phase_lem j i);
        line = Released;
      }

  nibbles_past : (j : ℕ) → Cut (19 + j)
  nibbles_past j =
      let cut = take-append-add (rest_l first) (nibbles_l ns) j in
      let body = nibbles_cut part ns j (bit_at 0 first) m first fit.inside fit.nibbles in (
        ap (run_p (idle m high)) cut
            ∙ run_append (idle m high) (rest_l first) (take j (nibbles_l ns))
            ∙ ap (λ (q : Port). run_p q (take j (nibbles_l ns))) (head_leaves m first near)
            ∙ body.0
            ∙ nibbles_stand j,
        ap (trace part (idle m high)) cut
            ∙ trace_append part (idle m high) (rest_l first) (take j (nibbles_l ns))
            ∙ ap₂ (λ (done : List Answer) (q : Port). done ++ trace part q (take j (nibbles_l ns))) (head_answers part m first) (head_leaves m first near)
            ∙ ap (λ (rest : List Answer). Opened ∷ bit_answers 9 ++ rest) body.1
            ∙ sym (take-append-add (Opened ∷ bit_answers 9) (nibble_answers first ns) j),
      )

  pub after_first : (k : ℕ) → Cut k
  after_first = by_limit Cut 19 head_cut nibbles_past
