-- The driver's streams as levels, and every sample of them is one of the sixteen. Assumes nothing.
use mathlib.Core.Path.{◌≡◌, ◌∙◌, refl, ap}
use mathlib.Core.Bool.{Bool, true, false}
use mathlib.Core.List.{List, [], ◌∷◌, ◌++◌, map}
use Prim.Native.Nat.{ℕ, zero, suc}
use native.Mathlib.Omega.{arith}
use lib.ListN.{take}
use Rattle.lines.specs.declared.Levels.{Levels}
use Rattle.lines.specs.Samples.{levels}
use Rattle.streams.specs.Streams.{send_bits, opening, write_id, read_id, command_id, address_bits, nibble_bits, command_bits, send_nibbles, read_nibbles, send_commands, write_stream, read_stream, command_stream}
use Rattle.demands.proofs.Ports.{Sixteen, high}

-- the two samples of a sent bit, and the lower of a read one
abbrev pub low : Bool → Levels
low b = record { cs = false; wr = false; rd = true; bit = b }

abbrev pub up : Bool → Levels
up b = record { cs = false; wr = true; rd = true; bit = b }

abbrev pub asked : Levels
asked = record { cs = false; wr = true; rd = false; bit = true }

abbrev pub bits_l : List Bool → List Levels
bits_l [] = []
bits_l (b ∷ bs) = low b ∷ up b ∷ bits_l bs

abbrev pub nibbles_l : List ℕ → List Levels
nibbles_l [] = high ∷ []
nibbles_l (n ∷ ns) = bits_l (nibble_bits n) ++ nibbles_l ns

abbrev pub reads_l : ℕ → List Levels
reads_l zero = high ∷ []
reads_l (suc n) = asked ∷ up true ∷ asked ∷ up true ∷ asked ∷ up true ∷ asked ∷ up true ∷ reads_l n

abbrev pub commands_l : List ℕ → List Levels
commands_l [] = high ∷ []
commands_l (code ∷ codes) = bits_l (command_bits code) ++ commands_l codes

abbrev pub head_l : List Bool → List Levels
head_l bs = high ∷ up true ∷ bits_l bs

-- ---- each stream as levels

sent : (bs : List Bool) (rest : List ℕ) → map levels (send_bits bs ++ rest) ≡ bits_l bs ++ map levels rest
sent [] rest = refl
sent (true ∷ bs) rest = ap (λ (r : List Levels). low true ∷ up true ∷ r) (sent bs rest)
sent (false ∷ bs) rest = ap (λ (r : List Levels). low false ∷ up false ∷ r) (sent bs rest)

nibbles_levels : (ns : List ℕ) → map levels (send_nibbles ns) ≡ nibbles_l ns
nibbles_levels [] = refl
nibbles_levels (n ∷ ns) = sent (nibble_bits n) (send_nibbles ns) ∙ ap (λ (r : List Levels). bits_l (nibble_bits n) ++ r) (nibbles_levels ns)

reads_levels : (n : ℕ) → map levels (read_nibbles n) ≡ reads_l n
reads_levels zero = refl
reads_levels (suc n) =
    ap (λ (r : List Levels). asked ∷ up true ∷ asked ∷ up true ∷ asked ∷ up true ∷ asked ∷ up true ∷ r) (reads_levels n)

commands_levels : (codes : List ℕ) → map levels (send_commands codes) ≡ commands_l codes
commands_levels [] = refl
commands_levels (code ∷ codes) =
    sent (command_bits code) (send_commands codes) ∙ ap (λ (r : List Levels). bits_l (command_bits code) ++ r) (commands_levels codes)

-- a head of bits and then a body
pub headed : (bs : List Bool) (body : List ℕ) (body_l : List Levels) → map levels body ≡ body_l
    → map levels (opening ++ send_bits bs ++ body) ≡ head_l bs ++ body_l
headed bs body body_l e =
    ap (λ (r : List Levels). high ∷ up true ∷ r) (sent bs body ∙ ap (λ (r : List Levels). bits_l bs ++ r) e)

pub write_levels : (first : ℕ) (ns : List ℕ) → map levels (write_stream first ns) ≡ head_l (write_id ++ address_bits first) ++ nibbles_l ns
unfolding write_stream
write_levels first ns = headed (write_id ++ address_bits first) (send_nibbles ns) (nibbles_l ns) (nibbles_levels ns)

pub read_levels : (first n : ℕ) → map levels (read_stream first n) ≡ head_l (read_id ++ address_bits first) ++ reads_l n
unfolding read_stream
read_levels first n = headed (read_id ++ address_bits first) (read_nibbles n) (reads_l n) (reads_levels n)

pub command_levels : (codes : List ℕ) → map levels (command_stream codes) ≡ head_l command_id ++ commands_l codes
unfolding command_stream
command_levels codes = headed command_id (send_commands codes) (commands_l codes) (commands_levels codes)

-- ---- one of the sixteen

pub bits_sixteen : (bs : List Bool) (rest : List ℕ) → Sixteen rest → Sixteen (send_bits bs ++ rest)
bits_sixteen [] rest v = v
bits_sixteen (true ∷ bs) rest v = (omega arith, (omega arith, bits_sixteen bs rest v))
bits_sixteen (false ∷ bs) rest v = (omega arith, (omega arith, bits_sixteen bs rest v))

nibbles_sixteen : (ns : List ℕ) → Sixteen (send_nibbles ns)
nibbles_sixteen [] = (omega arith, tt)
nibbles_sixteen (n ∷ ns) = bits_sixteen (nibble_bits n) (send_nibbles ns) (nibbles_sixteen ns)

reads_sixteen : (n : ℕ) → Sixteen (read_nibbles n)
reads_sixteen zero = (omega arith, tt)
reads_sixteen (suc n) =
    (omega arith, (omega arith, (omega arith, (omega arith, (omega arith, (omega arith, (omega arith, (omega arith, reads_sixteen n))))))))

commands_sixteen : (codes : List ℕ) → Sixteen (send_commands codes)
commands_sixteen [] = (omega arith, tt)
commands_sixteen (code ∷ codes) = bits_sixteen (command_bits code) (send_commands codes) (commands_sixteen codes)

pub write_sixteen : (first : ℕ) (ns : List ℕ) → Sixteen (write_stream first ns)
unfolding write_stream
write_sixteen first ns = (omega arith, (omega arith, bits_sixteen (write_id ++ address_bits first) (send_nibbles ns) (nibbles_sixteen ns)))

pub read_sixteen : (first n : ℕ) → Sixteen (read_stream first n)
unfolding read_stream
read_sixteen first n = (omega arith, (omega arith, bits_sixteen (read_id ++ address_bits first) (read_nibbles n) (reads_sixteen n)))

pub command_sixteen : (codes : List ℕ) → Sixteen (command_stream codes)
unfolding command_stream
command_sixteen codes = (omega arith, (omega arith, bits_sixteen command_id (send_commands codes) (commands_sixteen codes)))

pub take_sixteen : (k : ℕ) (ss : List ℕ) → Sixteen ss → Sixteen (take k ss)
take_sixteen zero ss v = tt
take_sixteen (suc k) [] v = tt
take_sixteen (suc k) (s ∷ ss) v = (v.0, take_sixteen k ss v.1)

pub map_take : (k : ℕ) (ss : List ℕ) → map levels (take k ss) ≡ take k (map levels ss)
map_take zero ss = refl
map_take (suc k) [] = refl
map_take (suc k) (s ∷ ss) = ap (λ (r : List Levels). levels s ∷ r) (map_take k ss)
