-- Laws of the streams: how long they are, and how each is made of a first part and the rest. Assumes nothing.
use mathlib.Core.Path.{◌≡◌, ◌∙◌, refl, sym, ap, ap₂}
use mathlib.Core.Bool.{Bool}
use mathlib.Core.List.{List, [], ◌∷◌, ◌++◌, map}
use Prim.Native.Nat.{ℕ, zero, suc, ◌+◌, ◌*◌, ◌/◌, ◌%◌, ◌≤◌, ◌<◌}
use native.Mathlib.Omega.{arith}
use native.Mathlib.Numerals.{add-one}
use lib.ListN.{length, drop, get_or, replicate, length-map, length-replicate, drop_of_length-le}
use lib.Seq.{drop-cons}
use Rattle.ground.specs.Bits.{bit_number}
use Rattle.ground.specs.Values.{agree}
use Rattle.streams.specs.Streams.{send_bit, send_bits, read_bit, closing, nibble_bits, command_bits}
use Rattle.streams.specs.Streams.{send_nibbles, read_nibbles, send_commands}
use Rattle.streams.specs.Streams.{write_stream, read_stream, command_stream, nibble_of, decoded, lowest_bits}
use Rattle.streams.specs.Lengths.{nibble_samples, command_frame, command_samples, nibble_notes}

-- ---- lengths

pub bits_length : (bits : List Bool) → length (send_bits bits) ≡ 2 * length bits
bits_length [] = refl
bits_length (bit ∷ bits) = omega (arith, bits_length bits)

pub nibbles_length : (nibbles : List ℕ) → length (send_nibbles nibbles) ≡ 1 + nibble_samples * length nibbles
nibbles_length [] = refl
nibbles_length (nibble ∷ nibbles) = omega (arith, nibbles_length nibbles)

pub reads_length : (count : ℕ) → length (read_nibbles count) ≡ 1 + nibble_samples * count
reads_length zero = refl
reads_length (suc count) = omega (arith, reads_length count)

pub codes_length : (codes : List ℕ) → length (send_commands codes) ≡ 1 + command_samples * length codes
codes_length [] = refl
codes_length (code ∷ codes) = omega (arith, codes_length codes)

-- a write of N nibbles is 21 + 8N samples
pub write_length : (first : ℕ) (nibbles : List ℕ) → length (write_stream first nibbles) ≡ 21 + nibble_samples * length nibbles
unfolding write_stream
write_length first nibbles = omega (arith, nibbles_length nibbles)

-- a read of N nibbles too
pub read_length : (first count : ℕ) → length (read_stream first count) ≡ 21 + nibble_samples * count
unfolding read_stream
read_length first count = omega (arith, reads_length count)

-- K commands are 9 + 18K samples
pub commands_length : (codes : List ℕ) → length (command_stream codes) ≡ command_frame + command_samples * length codes
unfolding command_stream
commands_length codes = omega (arith, codes_length codes)

-- noted bytes make a quarter as many nibbles
pub decoded_length : (noted : List ℕ) → length (decoded noted) ≡ length noted / nibble_notes
decoded_length [] = refl
decoded_length (d0 ∷ []) = refl
decoded_length (d0 ∷ d1 ∷ []) = refl
decoded_length (d0 ∷ d1 ∷ d2 ∷ []) = refl
decoded_length (d0 ∷ d1 ∷ d2 ∷ d3 ∷ noted) = omega (arith, decoded_length noted)

pub lowest_length : (noted : List ℕ) → length (decoded (lowest_bits noted)) ≡ length noted / nibble_notes
lowest_length noted = simp decoded_length (ap (λ (n : ℕ). n / nibble_notes) (length-map noted (λ note. note % 2)))

-- ---- the first part and the rest

pub bits_append : (first second : List Bool) → send_bits (first ++ second) ≡ send_bits first ++ send_bits second
bits_append [] second = refl
bits_append (bit ∷ first) second = ap (λ (l : List ℕ). send_bit bit ++ l) (bits_append first second)

-- a list is sent item by item, and then what closes it
pub record ByItems {A : Type 0} (send : List A → List ℕ) (item : A → List ℕ) (close : List ℕ) : Type 0 where
  pub more : (value : A) (rest : List A) → send (value ∷ rest) ≡ item value ++ send rest
  pub none : send [] ≡ close

pub bits_by_items : ByItems send_bits send_bit []
bits_by_items = record { more = λ bit bits. refl; none = refl }

pub nibbles_by_items : ByItems send_nibbles (λ nibble. send_bits (nibble_bits nibble)) closing
nibbles_by_items = record { more = λ nibble nibbles. refl; none = refl }

pub commands_by_items : ByItems send_commands (λ code. send_bits (command_bits code)) closing
commands_by_items = record { more = λ code codes. refl; none = refl }

-- nibbles to be read are a list of as many items, whatever they are
abbrev pub send_reads : List ℕ → List ℕ
send_reads list = read_nibbles (length list)

pub any_length : (count : ℕ) → length (replicate {A = ℕ} count 0) ≡ count
any_length count = length-replicate count 0

pub reads_by_items : ByItems send_reads (λ any. read_bit ++ read_bit ++ read_bit ++ read_bit) closing
reads_by_items = record { more = λ any list. refl; none = refl }

module _ {A : Type 0} {send : List A → List ℕ} {item : A → List ℕ} {close : List ℕ} (by : ByItems send item close)
    (list : List A) (i : ℕ) where
  pub items_next : (d : A) → i < length list → send (drop i list) ≡ item (get_or list i d) ++ send (drop (i + 1) list)
  items_next d h = ap send (rw add-one (drop-cons list i d h)) ∙ by.more (get_or list i d) (drop (i + 1) list)

  pub items_end : length list ≤ i → send (drop i list) ≡ close
  items_end h = ap send (drop_of_length-le list h) ∙ by.none

-- four noted bytes make a nibble
decoded_four : (notes rest : List ℕ) (nibble : ℕ) → length notes ≡ nibble_notes
    → nibble ≡ nibble_of (get_or notes 0 0 % 2) (get_or notes 1 0 % 2) (get_or notes 2 0 % 2) (get_or notes 3 0 % 2)
    → decoded (lowest_bits (notes ++ rest)) ≡ (nibble ∷ []) ++ decoded (lowest_bits rest)
decoded_four [] rest nibble h e = let no : ⊥ = omega arith in absurd no
decoded_four (d0 ∷ []) rest nibble h e = let no : ⊥ = omega arith in absurd no
decoded_four (d0 ∷ d1 ∷ []) rest nibble h e = let no : ⊥ = omega arith in absurd no
decoded_four (d0 ∷ d1 ∷ d2 ∷ []) rest nibble h e = let no : ⊥ = omega arith in absurd no
decoded_four (d0 ∷ d1 ∷ d2 ∷ d3 ∷ []) rest nibble h e = ap (λ (n : ℕ). n ∷ decoded (lowest_bits rest)) (sym e)
decoded_four (d0 ∷ d1 ∷ d2 ∷ d3 ∷ d4 ∷ notes) rest nibble h e = let no : ⊥ = omega arith in absurd no

pub decoded_next : (noted notes rest : List ℕ) (nibble : ℕ) → noted ≡ notes ++ rest → length notes ≡ nibble_notes
    → nibble ≡ nibble_of (get_or notes 0 0 % 2) (get_or notes 1 0 % 2) (get_or notes 2 0 % 2) (get_or notes 3 0 % 2)
    → decoded (lowest_bits noted) ≡ (nibble ∷ []) ++ decoded (lowest_bits rest)
decoded_next noted notes rest nibble cut h e =
    ap (λ (l : List ℕ). decoded (lowest_bits l)) cut ∙ decoded_four notes rest nibble h e

-- fewer than four make none
pub decoded_few : (noted : List ℕ) → length noted < nibble_notes → decoded (lowest_bits noted) ≡ []
decoded_few [] h = refl
decoded_few (d0 ∷ []) h = refl
decoded_few (d0 ∷ d1 ∷ []) h = refl
decoded_few (d0 ∷ d1 ∷ d2 ∷ []) h = refl
decoded_few (d0 ∷ d1 ∷ d2 ∷ d3 ∷ noted) h = let no : ⊥ = omega arith in absurd no

-- notes that are bits count as they stand
pub bits_noted : (noted : List ℕ) → ((k : ℕ) → k < length noted → get_or noted k 0 ≤ 1) → lowest_bits noted ≡ noted
bits_noted [] h = refl
bits_noted (note ∷ noted) h =
    let rest = bits_noted noted (λ k less. h (suc k) (omega arith)) in
    let first : note % 2 ≡ note = omega (arith, h 0 (omega arith)) in
    ap₂ ◌∷◌ first rest

-- ---- read back

-- what the host notes of a nibble that it reads, and of many
abbrev pub notes_of : ℕ → List ℕ
notes_of nibble = map bit_number (nibble_bits nibble)

abbrev pub all_notes : List ℕ → List ℕ
all_notes [] = []
all_notes (nibble ∷ nibbles) = notes_of nibble ++ all_notes nibbles

-- the four bits of a nibble, D0 first, are decoded as the nibble again
pub nibble_decoded : (nibble : ℕ) → nibble < 16 → decoded (notes_of nibble) ≡ nibble ∷ []
nibble_decoded = agree (λ nibble. decoded (notes_of nibble)) (λ nibble. nibble ∷ []) 16 refl

-- and so are the bits of many
pub nibbles_decoded : (nibbles : List ℕ) → ((k : ℕ) → k < length nibbles → get_or nibbles k 0 < 16)
    → decoded (all_notes nibbles) ≡ nibbles
nibbles_decoded [] h = refl
nibbles_decoded (nibble ∷ nibbles) h =
    let rest = nibbles_decoded nibbles (λ k less. h (suc k) (omega arith)) in
    ap (λ (one : List ℕ). one ++ decoded (all_notes nibbles)) (nibble_decoded nibble (h 0 (omega arith)))
    ∙ ap (λ (more : List ℕ). nibble ∷ more) rest
