-- Laws of a frame's bytes. Right ones say a frame that is valid and is written as the same bytes; a valid frame is written as
-- right ones, and read again it is the same. Assumes nothing.
use Rattle.std.specs.Prelude.{Option, Some, None}
use mathlib.Core.Path.{◌≡◌, ◌∙◌, refl, sym, ap}
use mathlib.Core.Bool.{Bool, true, false, cond, ◌&&◌}
use mathlib.Core.List.{List}
use Prim.Native.Nat.{ℕ, zero, suc, ◌+◌, ◌*◌, ◌/◌, ◌%◌, ◌^◌, ◌≤◌, ◌<◌}
use native.Mathlib.Omega.{arith}
use native.Mathlib.Nat.{div-eq_of_lt, div-lt_iff_lt-mul, one-mul, lt_of_lt_of_le, add-mul-mod_self_left, add-mul-div_left, mod-eq_of_lt, mod-add-div}
use lib.Dec.{eqb, leb, ltb}
use lib.ListN.{get_or}
use lib.Pow.{pow_pos, pow_mono}
use borrow.Author.Tests.{eq-eqb, ne_eqb, le-leb, lt-ltb, leb-true, ltb-true, ltb-false, eqb-true}
use Rattle.ground.specs.Values.{agree}
use Rattle.ground.specs.Written.{byte}
use Rattle.ground.proofs.ChoiceLaws.{each_of_3, each_of_4}
use Rattle.ground.proofs.WrittenLaws.{gather}
use Rattle.lines.specs.declared.Levels.{Levels}
use Rattle.lines.specs.Samples.{levels, levels_number}
use Rattle.lines.proofs.SamplesLaws.{levels_small, levels_back, levels_again}
use Rattle.phases.specs.declared.Phase.{Phase}
use Rattle.phases.specs.declared.Phase.TheVariants.{Idle, Ident, ReadTo, WriteTo, Reading, Writing, Command, Dead}
use Rattle.phases.specs.declared.Line.{Line}
use Rattle.phases.specs.declared.Line.TheVariants.{Released, Driven}
use Rattle.phases.specs.Phases.{round, address, unfinished, value_of, position_of, phase_number, line_number}
use Rattle.phases.specs.Frame.{frame_at, data_at, frame_bytes, in_range, goes_with_cs, most_bits, bits_right, rest_right, frame_right, phase_read, phase_in, line_read, line_in, value_in, frame_fits, phase_at, levels_at, line_at}
use Rattle.phases.specs.Valid.{FrameValid}
use Rattle.phases.proofs.PhasesLaws.{line_number_small}

-- ---- unfinished bits

pub most_small : (code : ℕ) → get_or most_bits code 0 ≤ 8
most_small zero = omega arith
most_small (suc zero) = omega arith
most_small (suc (suc zero)) = omega arith
most_small (suc (suc (suc zero))) = omega arith
most_small (suc (suc (suc (suc zero)))) = omega arith
most_small (suc (suc (suc (suc (suc zero))))) = omega arith
most_small (suc (suc (suc (suc (suc (suc zero)))))) = omega arith
most_small (suc (suc (suc (suc (suc (suc (suc zero))))))) = omega arith
most_small (suc (suc (suc (suc (suc (suc (suc (suc code)))))))) = omega arith

-- a value is below a power exactly if nothing of it is left above
pub below_power : (value count : ℕ) → eqb (value / 2 ^ count) 0 ≡ ltb value (2 ^ count)
below_power value count = by (ltb value (2 ^ count)) refl
  where
    by : (t : Bool) → ltb value (2 ^ count) ≡ t → eqb (value / 2 ^ count) 0 ≡ t
    by true e = eq-eqb (value / 2 ^ count) 0 (div-eq_of_lt (ltb-true value (2 ^ count) e))
    by false e =
        ne_eqb (value / 2 ^ count) 0 (λ z.
        let small : value < 1 * 2 ^ count =
        (div-lt_iff_lt-mul {k = 2 ^ count} {x = value} {y = 1} (pow_pos count)).0 (omega (arith, z)) in
        let no : ⊥ = omega (arith, ltb-false value (2 ^ count) e, one-mul (2 ^ count)) in
        absurd no)

-- no bits have no value
none : (count value : ℕ) → count ≤ 0 → value < 2 ^ count → (count ≡ 0) × (value ≡ 0)
none zero value h k = (refl, omega (arith, k))
none (suc count) value h k = let no : ⊥ = omega arith in absurd no

bits_small : (count value : ℕ) → count ≤ 8 → value < 2 ^ count → value < 256
bits_small count value h k = lt_of_lt_of_le k (pow_mono h)

-- ---- what right bytes have

pub record FrameHas (lines code count value at position line : ℕ) : Type 0 where
  pub lines_low : lines ≤ 15
  pub near : at < round
  pub one_of_4 : position ≤ 3
  pub data_low : line ≤ 2
  pub cs : goes_with_cs lines code ≡ true
  pub phase : code ≤ 7
  pub most : count ≤ get_or most_bits code 0
  pub small : value < 2 ^ count
  pub rest : rest_right code at position line ≡ true

pub frame_has : (lines code count value at position line : ℕ) → frame_right lines code count value at position line ≡ true
    → FrameHas lines code count value at position line
unfolding frame_right bits_right in_range
frame_has lines code count value at position line e =
    let each = each_of_4 (leb lines 15 && ltb at round && leb position 3 && leb line 2) (goes_with_cs lines code)
    (leb code 7 && leb count (get_or most_bits code 0) && ltb value (2 ^ count)) (rest_right code at position line) e in
    let ranges = each_of_4 (leb lines 15) (ltb at round) (leb position 3) (leb line 2) each.0 in
    let bits = each_of_3 (leb code 7) (leb count (get_or most_bits code 0)) (ltb value (2 ^ count)) each.2 in
    record {
      lines_low = leb-true lines 15 ranges.0;
      near = ltb-true at round ranges.1;
      one_of_4 = leb-true position 3 ranges.2;
      data_low = leb-true line 2 ranges.3;
      cs = each.1;
      phase = leb-true code 7 bits.0;
      most = leb-true count (get_or most_bits code 0) bits.1;
      small = ltb-true value (2 ^ count) bits.2;
      rest = each.3;
    }

pub frame_zeros : (at position line : ℕ) → (eqb at 0 && eqb position 0 && eqb line 0) ≡ true → (at ≡ 0) × (position ≡ 0) × (line ≡ 0)
frame_zeros at position line e =
    let each = each_of_3 (eqb at 0) (eqb position 0) (eqb line 0) e in
    (eqb-true at 0 each.0, eqb-true position 0 each.1, eqb-true line 0 each.2)

-- ---- codes in range are the codes of something

phase_found : Option Phase → ℕ
phase_found (Some phase) = 1
phase_found None = 0

pub phase_there : (code count value at position : ℕ) → code ≤ 7 → phase_read code count value at position ≡ None → ⊥
unfolding phase_read phase_found
phase_there code count value at position h e =
    let found = agree (λ (k : ℕ). phase_found (phase_read k count value at position)) (λ (k : ℕ). 1) 8 refl code (omega arith) in
    omega (arith, sym found ∙ ap phase_found e)

line_found : Option Line → ℕ
line_found (Some line) = 1
line_found None = 0

pub line_there : (n : ℕ) → n ≤ 2 → line_read n ≡ None → ⊥
unfolding line_read line_found
line_there n h e =
    let found = agree (λ (k : ℕ). line_found (line_read k)) (λ (k : ℕ). 1) 3 refl n (omega arith) in
    omega (arith, sym found ∙ ap line_found e)

-- so bytes with no phase or no line are not right
unless : (t : Bool) → (t ≡ true → ⊥) → t ≡ false
unless true h = absurd (h refl)
unless false h = refl

module _ (lines code count value at position line : ℕ) where
  pub no_phase : phase_read code count value at position ≡ None → frame_right lines code count value at position line ≡ false
  no_phase e =
      unless (frame_right lines code count value at position line)
      (λ right. phase_there code count value at position (frame_has lines code count value at position line right).phase e)

  pub no_line : line_read line ≡ None → frame_right lines code count value at position line ≡ false
  no_line e =
      unless (frame_right lines code count value at position line)
      (λ right. line_there line (frame_has lines code count value at position line right).data_low e)

-- ---- read and written, written and read

pub line_again : (n : ℕ) → n ≤ 2 → line_number (line_in (line_read n)) ≡ n
unfolding line_read
line_again n h = agree (λ (k : ℕ). line_number (line_in (line_read k))) (λ (k : ℕ). k) 3 refl n (omega arith)

pub line_back : (line : Line) → line_in (line_read (line_number line)) ≡ line
unfolding line_read
line_back Released = refl
line_back (Driven true) = refl
line_back (Driven false) = refl

pub phase_back : (phase : Phase)
    → phase_in (phase_read (phase_number phase) (unfinished phase) (value_of phase) (address phase) (position_of phase)) ≡ phase
unfolding phase_read
phase_back Idle = refl
phase_back (Ident count value) = refl
phase_back (ReadTo count value) = refl
phase_back (WriteTo count value) = refl
phase_back (Reading at position) = refl
phase_back (Writing count value at position) = refl
phase_back (Command count value) = refl
phase_back Dead = refl

-- A phase is written as these bytes.
pub record FrameSame (code count value at position : ℕ) (phase : Phase) : Type 0 where
  pub code_same : phase_number phase ≡ code
  pub count_same : unfinished phase ≡ count
  pub value_same : value_of phase ≡ value
  pub address_same : address phase ≡ at
  pub position_same : position_of phase ≡ position

module _ (lines count value at position line : ℕ) where
  pub frame_same : (code : ℕ) → FrameHas lines code count value at position line
      → FrameSame code count value at position (phase_in (phase_read code count value at position))
  unfolding phase_read rest_right
  frame_same zero v =
      let bits = none count value v.most v.small in
      let rest = frame_zeros at position line v.rest in
      record { code_same = refl; count_same = sym bits.0; value_same = sym bits.1; address_same = sym rest.0; position_same = sym rest.1 }
  frame_same (suc zero) v =
      let rest = frame_zeros at position line v.rest in
      record { code_same = refl; count_same = refl; value_same = refl; address_same = sym rest.0; position_same = sym rest.1 }
  frame_same (suc (suc zero)) v =
      let rest = frame_zeros at position line v.rest in
      record { code_same = refl; count_same = refl; value_same = refl; address_same = sym rest.0; position_same = sym rest.1 }
  frame_same (suc (suc (suc zero))) v =
      let rest = frame_zeros at position line v.rest in
      record { code_same = refl; count_same = refl; value_same = refl; address_same = sym rest.0; position_same = sym rest.1 }
  frame_same (suc (suc (suc (suc zero)))) v =
      let bits = none count value v.most v.small in
      record { code_same = refl; count_same = sym bits.0; value_same = sym bits.1; address_same = refl; position_same = refl }
  frame_same (suc (suc (suc (suc (suc zero))))) v =
      record { code_same = refl; count_same = refl; value_same = refl; address_same = refl; position_same = refl }
  frame_same (suc (suc (suc (suc (suc (suc zero)))))) v =
      let rest = frame_zeros at position line v.rest in
      record { code_same = refl; count_same = refl; value_same = refl; address_same = sym rest.0; position_same = sym rest.1 }
  frame_same (suc (suc (suc (suc (suc (suc (suc zero))))))) v =
      let bits = none count value v.most v.small in
      let rest = frame_zeros at position line v.rest in
      record { code_same = refl; count_same = sym bits.0; value_same = sym bits.1; address_same = sym rest.0; position_same = sym rest.1 }
  frame_same (suc (suc (suc (suc (suc (suc (suc (suc code)))))))) v = let no : ⊥ = omega (arith, v.phase) in absurd no

-- ---- right bytes say a valid frame

cs_high : (x : Bool) → cond x true false ≡ true → x ≡ true
cs_high true e = refl
cs_high false e = e

cs_low : (x : Bool) → cond x false true ≡ true → x ≡ false
cs_low true e = sym e
cs_low false e = refl

released : (line : ℕ) → line ≡ 0 → line_in (line_read line) ≡ Released
unfolding line_read
released line e = rw e

module _ (lines count value at position line : ℕ) where
  pub frame_valid : (code : ℕ) → FrameHas lines code count value at position line
      → FrameValid (eqb (lines % 2) 1) (line_in (line_read line)) (phase_in (phase_read code count value at position))
  unfolding phase_read rest_right goes_with_cs
  frame_valid zero v = (cs_high _ v.cs, released line (frame_zeros at position line v.rest).2)
  frame_valid (suc zero) v = (cs_low _ v.cs, released line (frame_zeros at position line v.rest).2, (v.most, v.small))
  frame_valid (suc (suc zero)) v = (cs_low _ v.cs, released line (frame_zeros at position line v.rest).2, (v.most, v.small))
  frame_valid (suc (suc (suc zero))) v = (cs_low _ v.cs, released line (frame_zeros at position line v.rest).2, (v.most, v.small))
  frame_valid (suc (suc (suc (suc zero)))) v = (cs_low _ v.cs, v.near, omega (arith, v.one_of_4))
  frame_valid (suc (suc (suc (suc (suc zero))))) v = (cs_low _ v.cs, (v.most, v.small), v.near, omega (arith, v.one_of_4))
  frame_valid (suc (suc (suc (suc (suc (suc zero)))))) v = (cs_low _ v.cs, released line (frame_zeros at position line v.rest).2, (v.most, v.small))
  frame_valid (suc (suc (suc (suc (suc (suc (suc zero))))))) v = (cs_low _ v.cs, released line (frame_zeros at position line v.rest).2)
  frame_valid (suc (suc (suc (suc (suc (suc (suc (suc code)))))))) v = let no : ⊥ = omega (arith, v.phase) in absurd no

-- ---- a valid frame is written as right bytes

module _ (lines : ℕ) (cs : Bool) (line : Line) (low : lines ≤ 15) (e : eqb (lines % 2) 1 ≡ cs) where
  pub frame_right_lem : (phase : Phase) → FrameValid cs line phase
      → frame_right lines (phase_number phase) (unfinished phase) (value_of phase) (address phase) (position_of phase) (line_number line) ≡ true
  unfolding frame_right in_range goes_with_cs bits_right rest_right
  frame_right_lem Idle v = simp (le-leb lines 15 low, e ∙ v.0, v.1)
  frame_right_lem (Ident count value) v = simp (le-leb lines 15 low, e ∙ v.0, v.1, le-leb _ _ v.2.0, lt-ltb _ _ v.2.1)
  frame_right_lem (ReadTo count value) v = simp (le-leb lines 15 low, e ∙ v.0, v.1, le-leb _ _ v.2.0, lt-ltb _ _ v.2.1)
  frame_right_lem (WriteTo count value) v = simp (le-leb lines 15 low, e ∙ v.0, v.1, le-leb _ _ v.2.0, lt-ltb _ _ v.2.1)
  frame_right_lem (Reading at position) v =
      simp (le-leb lines 15 low, e ∙ v.0, lt-ltb at round v.1, le-leb position 3 (omega (arith, v.2)), le-leb _ _ (line_number_small line))
  frame_right_lem (Writing count value at position) v =
      simp (
        le-leb lines 15 low,
        e ∙ v.0,
        le-leb _ _ v.1.0,
        lt-ltb _ _ v.1.1,
        lt-ltb at round v.2,
        le-leb position 3 (omega (arith, v.3)),
        le-leb _ _ (line_number_small line),
      )
  frame_right_lem (Command count value) v = simp (le-leb lines 15 low, e ∙ v.0, v.1, le-leb _ _ v.2.0, lt-ltb _ _ v.2.1)
  frame_right_lem Dead v = simp (le-leb lines 15 low, e ∙ v.0, v.1)

-- ---- the frame of a record

pub fits_has : (b : List ℕ) → frame_fits b ≡ true
    → FrameHas (byte b frame_at) (byte b 33) (byte b 34) (value_in b) (byte b 37) (byte b 38) (byte b data_at)
fits_has b e = frame_has (byte b frame_at) (byte b 33) (byte b 34) (value_in b) (byte b 37) (byte b 38) (byte b data_at) e

module _ (b : List ℕ) (fits : frame_fits b ≡ true) where
  has : FrameHas (byte b frame_at) (byte b 33) (byte b 34) (value_in b) (byte b 37) (byte b 38) (byte b data_at)
  has = fits_has b fits

  pub value_small : value_in b < 256
  value_small = bits_small (byte b 34) (value_in b) (omega (arith, has.most, most_small (byte b 33))) has.small

  value_low_lem : value_in b % 256 ≡ byte b 35
  value_low_lem = add-mul-mod_self_left (byte b 35) 256 (byte b 36) ∙ mod-eq_of_lt (omega (arith, value_small))

  value_high_lem : value_in b / 256 ≡ byte b 36
  value_high_lem =
      let no : byte b 35 / 256 ≡ 0 = div-eq_of_lt (omega (arith, value_small)) in
      add-mul-div_left (byte b 35) (byte b 36) {y = 256} (omega arith) ∙ omega (arith, no)

  -- Right bytes, read and written, are the same bytes.
  pub frame_trip : frame_bytes (levels_at b) (phase_in (phase_at b)) (line_in (line_at b)) ≡ gather 8 frame_at b
  frame_trip =
      let same = frame_same (byte b frame_at) (byte b 34) (value_in b) (byte b 37) (byte b 38) (byte b data_at) (byte b 33) has in
      simp (
        same.code_same,
        same.count_same,
        same.value_same,
        same.address_same,
        same.position_same,
        value_low_lem,
        value_high_lem,
        levels_again (byte b frame_at) has.lines_low,
        line_again (byte b data_at) has.data_low,
      )

-- A frame that a record has is read again; if it is valid, its bytes are right.
module _ (b : List ℕ) (lines : Levels) (phase : Phase) (line : Line) (e : gather 8 frame_at b ≡ frame_bytes lines phase line) where
  abbrev value_back : value_of phase % 256 + 256 * (value_of phase / 256) ≡ value_of phase
  value_back = mod-add-div (value_of phase) 256

  pub levels_read : levels_at b ≡ lines
  levels_read = ap (λ (l : List ℕ). levels (byte l 0)) e ∙ levels_back lines

  pub phase_read_lem : phase_in (phase_at b) ≡ phase
  phase_read_lem =
      ap (λ (l : List ℕ). phase_in (phase_read (byte l 1) (byte l 2) (byte l 3 + 256 * byte l 4) (byte l 5) (byte l 6))) e
      ∙ ap (λ (v : ℕ). phase_in (phase_read (phase_number phase) (unfinished phase) v (address phase) (position_of phase))) value_back
      ∙ phase_back phase

  pub line_read_lem : line_in (line_at b) ≡ line
  line_read_lem = ap (λ (l : List ℕ). line_in (line_read (byte l 7))) e ∙ line_back line

  pub frame_fits_lem : FrameValid lines.cs line phase → frame_fits b ≡ true
  frame_fits_lem v =
      ap (λ (l : List ℕ). frame_right (byte l 0) (byte l 1) (byte l 2) (byte l 3 + 256 * byte l 4) (byte l 5) (byte l 6) (byte l 7)) e
      ∙ ap (λ (v : ℕ).
      frame_right (levels_number lines) (phase_number phase) (unfinished phase) v (address phase) (position_of phase) (line_number line)) value_back
      ∙ frame_right_lem (levels_number lines) lines.cs line (levels_small lines) (ap (λ (l : Levels). l.cs) (levels_back lines)) phase v
