-- The driver's streams as numbers: a bit is what division by the weight of its place leaves; the small streams compute.
-- Assumes nothing.
use mathlib.Core.Path.{◌≡◌, ◌∙◌, refl, ap}
use mathlib.Core.List.{List, [], ◌∷◌, ◌++◌}
use Prim.Native.Nat.{ℕ, zero, suc, ◌*◌, ◌%◌, ◌≤◌, ◌<◌}
use native.Mathlib.Omega.{arith}
use lib.ListN.{length}
use Rattle.ground.specs.Bits.{bit_number, bit_at}
use Rattle.ground.specs.Values.{agree}
use Rattle.ground.proofs.BitsLaws.{bit_number_bit_at}
use Rattle.streams.specs.Streams.{send_bits, opening, write_id, read_id, command_id, address_bits, send_nibbles, read_nibbles, send_commands, write_stream, read_stream, command_stream, decoded}
use Rattle.sheet.specs.Bytes.{byte}
use Rattle.sheet.specs.Streams.{sent, asked, of_address, of_nibbles, of_commands, StreamsSheet}

-- bits by their places
low_bit : (n : ℕ) → bit_number (bit_at 0 n) ≡ n % 2
low_bit n = bit_number_bit_at 0 n ∙ omega arith

address_sent_lem : (a : ℕ) {samples numbers : List ℕ} → samples ≡ numbers → send_bits (address_bits a) ++ samples ≡ sent (of_address a) ++ numbers
address_sent_lem a e = rw (bit_number_bit_at 5 a, bit_number_bit_at 4 a, bit_number_bit_at 3 a, bit_number_bit_at 2 a, bit_number_bit_at 1 a, low_bit a, e)

-- ---- each stream

nibbles_sent : (nibbles : List ℕ) → send_nibbles nibbles ≡ sent (of_nibbles nibbles) ++ (15 ∷ [])
nibbles_sent [] = refl
nibbles_sent (n ∷ nibbles) = rw (low_bit n, bit_number_bit_at 1 n, bit_number_bit_at 2 n, bit_number_bit_at 3 n, nibbles_sent nibbles)

commands_sent : (codes : List ℕ) → send_commands codes ≡ sent (of_commands codes) ++ (15 ∷ [])
commands_sent [] = refl
commands_sent (c ∷ codes) =
    rw (bit_number_bit_at 7 c, bit_number_bit_at 6 c, bit_number_bit_at 5 c, bit_number_bit_at 4 c, bit_number_bit_at 3 c, bit_number_bit_at 2 c, bit_number_bit_at 1 c, low_bit c, commands_sent codes)

reads_sent : (count : ℕ) → read_nibbles count ≡ asked (4 * count) ++ (15 ∷ [])
reads_sent zero = refl
reads_sent (suc count) =
    let four : 4 * suc count ≡ suc (suc (suc (suc (4 * count)))) = omega arith in
    rw (four, reads_sent count)

nibbles_back : (nibbles : List ℕ) → ((i : ℕ) → i < length nibbles → byte nibbles i ≤ 15) → decoded (of_nibbles nibbles) ≡ nibbles
nibbles_back [] low = refl
nibbles_back (n ∷ nibbles) low =
    ap (λ (l : List ℕ). l ++ decoded (of_nibbles nibbles))
    (agree (λ (k : ℕ). decoded (of_nibbles (k ∷ []))) (λ (k : ℕ). k ∷ []) 16 refl n (omega (arith, low 0 (omega arith))))
    ∙ ap (λ (l : List ℕ). n ∷ l) (nibbles_back nibbles (λ i h. low (suc i) (omega arith)))

pub streams_sheet : StreamsSheet
unfolding write_stream read_stream command_stream
streams_sheet =
    record {
      write = λ first nibbles. ap (λ (l : List ℕ). opening ++ send_bits write_id ++ l) (address_sent_lem first (nibbles_sent nibbles));
      read = λ first count. ap (λ (l : List ℕ). opening ++ send_bits read_id ++ l) (address_sent_lem first (reads_sent count));
      commands = λ codes. ap (λ (l : List ℕ). opening ++ send_bits command_id ++ l) (commands_sent codes);
      decode = nibbles_back;
      write_five = refl;
      read_last = refl;
      two_commands = refl;
    }
