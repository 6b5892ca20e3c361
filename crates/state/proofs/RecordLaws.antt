-- Laws that the proofs of this crate's functions cite: bytes put over a buffer, and what reading found. Assumes nothing.
use Rattle.std.specs.Prelude.{Some, None, Ok, Err}
use mathlib.Core.Path.{◌≡◌, ◌∙◌, refl, sym, ap}
use mathlib.Core.Bool.{Bool, true, false, cond, ◌&&◌, and-true, and-false}
use mathlib.Core.List.{List, ◌++◌, append-nil}
use Prim.Native.Nat.{ℕ, ◌+◌, ◌≤◌}
use native.Mathlib.Omega.{arith}
use lib.Dec.{ltb, eqb}
use lib.ListN.{length, take, drop}
use borrow.Author.Tests.{le-ltb, ltb-false}
use Rattle.ground.specs.Sizes.{addresses, record_length}
use Rattle.ground.specs.declared.Refusal.{Refusal}
use Rattle.ground.specs.declared.Refusal.TheVariants.{OutputShort, Malformed}
use Rattle.ground.specs.Outcomes.{outcome_number, written_as}
use Rattle.ground.specs.Written.{byte, over, memory_from}
use Rattle.ground.specs.Parts.{part_read}
use Rattle.ground.specs.Ranges.{up_to}
use Rattle.ground.specs.declared.Part.{Part}
use Rattle.ground.specs.declared.Part.TheVariants.{Ht}
use Rattle.ground.proofs.ChoiceLaws.{and_left, of_choice, none_chosen, some_chosen}
use Rattle.ground.proofs.PartsLaws.{part_none, part_found}
use Rattle.ground.proofs.WrittenLaws.{length_over, over_over, over_under}
use Rattle.lines.specs.declared.Levels.{Levels}
use Rattle.phases.specs.declared.Phase.{Phase}
use Rattle.phases.specs.declared.Line.{Line}
use Rattle.phases.specs.declared.Frame.{Frame}
use Rattle.phases.specs.Frame.{frame_bytes, frame_at, frame_over, frame_fits, holds_frame, frame_read}
use Rattle.settings.specs.declared.Settings.{Settings}
use Rattle.settings.specs.Bytes.{settings_at, settings_bytes, settings_over, settings_maxima, scan_right, selections_known, settings_in_range, settings_right, settings_of, settings_read, scan_of}
use Rattle.settings.specs.Settings.{scan_to, part_to}
use Rattle.settings.proofs.BytesLaws.{all_known_lem}
use Rattle.port.specs.declared.Port.{Port}
use Rattle.chip.specs.declared.Chip.{Chip}
use Rattle.settings.specs.Numbers.{settings_number}
use Rattle.state.specs.Answers.{verdict_number, settings_in, recalled_from, port_over}
use Rattle.state.specs.Record.{port_frame, port_bytes, memory_fits, record_valid, chip_of, record_of}
use Rattle.state.proofs.BytesLaws.{port_length, record_parts}

-- ---- the parts of a record put one after another

put_after : (buffer first second : List ℕ) (from : ℕ) → from ≡ 0 + length first → from + length second ≤ length buffer
    → over (over buffer 0 first) from second ≡ over buffer 0 (first ++ second)
put_after buffer first second from e room =
    ap (λ (n : ℕ). over (over buffer 0 first) n second) e ∙ over_over buffer first second 0 (omega arith)

-- the frame is put over a record as long as it was
pub frame_length : (levels : Levels) (phase : Phase) (line : Line) (buffer : List ℕ) → record_length ≤ length buffer
    → length (frame_over levels phase line buffer) ≡ length buffer
unfolding frame_over written_as
frame_length levels phase line buffer room =
    rw (le-ltb (length buffer) record_length room) (length_over buffer (frame_bytes levels phase line) frame_at (omega arith))

-- the frame, and the memory before it, are the port's part
pub put_port : (port : Port) (buffer : List ℕ) → length port.memory ≡ addresses → record_length ≤ length buffer
    → over (frame_over port.levels port.phase port.line buffer) 0 port.memory ≡ over buffer 0 (port_bytes port)
unfolding frame_over written_as
put_port port buffer size room =
    rw (le-ltb (length buffer) record_length room)
    (ap (λ (n : ℕ). over (over buffer n (port_frame port)) 0 port.memory) (sym size)
    ∙ over_under buffer port.memory (port_frame port) (omega (arith, size)))

pub port_put : (port : Port) (buffer begun after : List ℕ) → length port.memory ≡ addresses → record_length ≤ length buffer
    → begun ≡ frame_over port.levels port.phase port.line buffer → after ≡ over begun 0 port.memory → after ≡ port_over port buffer
unfolding port_over written_as
port_put port buffer begun after size room f a =
    a ∙ ap (λ (l : List ℕ). over l 0 port.memory) f ∙ put_port port buffer size room ∙ rw (le-ltb (length buffer) record_length room) refl

pub port_room : (port : Port) (buffer : List ℕ) → length port.memory ≡ addresses → record_length ≤ length buffer
    → record_length ≤ length (port_over port buffer)
unfolding port_over written_as
port_room port buffer size room =
    let long = length_over buffer (port_bytes port) 0 (omega (arith, port_length port size)) in
    rw (le-ltb (length buffer) record_length room) (omega (arith, long))

-- the memory of a record is its first bytes
pub memory_taken : (bytes : List ℕ) → length bytes ≡ record_length → memory_from bytes ≡ take addresses bytes
memory_taken bytes h = rw h (append-nil (take addresses bytes))

-- and with the settings after them a record
pub put_record : (chip : Chip) (buffer : List ℕ) → length chip.port.memory ≡ addresses → record_length ≤ length buffer
    → settings_over chip.settings (port_over chip.port buffer) ≡ over buffer 0 (record_of chip)
unfolding settings_over port_over written_as
put_record chip buffer size room =
    let first = port_length chip.port size in
    let long = length_over buffer (port_bytes chip.port) 0 (omega (arith, first)) in
    rw (le-ltb (length buffer) record_length room, le-ltb (length (over buffer 0 (port_bytes chip.port))) record_length (omega (arith, long)))
    (put_after buffer (port_bytes chip.port) (settings_bytes chip.settings) settings_at (omega (arith, first)) (omega arith))
    ∙ ap (over buffer 0) (sym (record_parts chip))

-- what is written tells that there was room, and what is refused that there was none
pub room_found : (count n : ℕ) (buffer : List ℕ) → Ok n ≡ written_as count buffer → record_length ≤ length buffer
unfolding written_as
room_found count n buffer e = by (ltb (length buffer) record_length) refl e
  where
    by : (t : Bool) → ltb (length buffer) record_length ≡ t → Ok n ≡ cond t (Err OutputShort) (Ok count) → record_length ≤ length buffer
    by true h e = cc
    by false h e = ltb-false (length buffer) record_length h

pub short_found : (count : ℕ) (buffer : List ℕ) (why : Refusal) → Err why ≡ written_as count buffer
    → (why ≡ OutputShort) × (ltb (length buffer) record_length ≡ true)
unfolding written_as
short_found count buffer why = by (ltb (length buffer) record_length)
  where
    by : (t : Bool) → Err why ≡ cond t (Err OutputShort) (Ok count) → (why ≡ OutputShort) × (t ≡ true)
    by true e = (cc, refl)
    by false e = (cc, cc)

pub not_refused : (count : ℕ) (buffer : List ℕ) (why : Refusal) → record_length ≤ length buffer → Err why ≡ written_as count buffer → ⊥
not_refused count buffer why room e =
    let no : true ≡ false = sym (short_found count buffer why e).1 ∙ le-ltb (length buffer) record_length room in cc

-- ---- what reading answers, by the tests in turn

module _ (b : List ℕ) where
  pub read_invalid : record_valid b ≡ false → Err Malformed ≡ recalled_from b
  unfolding recalled_from
  read_invalid e = rw e

  pub settings_invalid : record_valid b ≡ false → None ≡ settings_in b
  unfolding settings_in
  settings_invalid e = rw e

  abbrev begins : Bool
  begins = eqb (length b) record_length && memory_fits b

  -- each test that fails decides
  pub begins_fails : begins ≡ false → record_valid b ≡ false
  unfolding record_valid
  begins_fails e = rw e

module _ (b : List ℕ) (begun : begins b ≡ true) where
  long : eqb (length b) record_length ≡ true
  long = and_left (eqb (length b) record_length) (memory_fits b) begun

  settings_fail : settings_right b ≡ false → record_valid b ≡ false
  unfolding record_valid
  settings_fail e = rw (begun, e) (and-false (frame_fits b))

  pub ranges_fail : settings_in_range b ≡ false → record_valid b ≡ false
  unfolding settings_right
  ranges_fail e =
      let no : (up_to (drop settings_at b) settings_maxima && scan_right b) ≡ false = rw long at e in settings_fail (rw no)

  pub frame_fails : holds_frame b ≡ false → record_valid b ≡ false
  unfolding record_valid
  frame_fails e = let no : frame_fits b ≡ false = rw long at e in rw (begun, no)

  pub frame_unread : frame_read b ≡ None → record_valid b ≡ false
  unfolding record_valid frame_read
  frame_unread e = let no : frame_fits b ≡ false = none_chosen _ (frame_fits b) (rw long at e) in rw (begun, no)

  pub part_fails : part_read (byte b 58) ≡ None → record_valid b ≡ false
  unfolding settings_right
  part_fails none =
      settings_fail
      (rw (all_known_lem b, part_none (byte b 58) none, and-false (selections_known b))
      (and-false (up_to (drop settings_at b) settings_maxima && scan_right b)))

  module _ (ranged : settings_in_range b ≡ true) (part : Part) (parted : part_read (byte b 58) ≡ Some part) where
    -- the selections are all that is left to decide
    left : settings_right b ≡ selections_known b
    unfolding settings_right
    left =
        let fit : (up_to (drop settings_at b) settings_maxima && scan_right b) ≡ true = rw long at ranged in
        rw (fit, all_known_lem b, (part_found (byte b 58) part Ht parted).0) (and-true _)

    -- and the scan and the part that are handed in are those of the bytes
    whole : part_to part (scan_to (scan_of b) (settings_of b)) ≡ settings_of b
    whole = ap (λ (p : Part). part_to p (settings_of b)) (sym (part_found (byte b 58) part Ht parted).1)

    pub settings_whole : holds_frame b ≡ true → settings_read b (scan_of b) part ≡ settings_in b
    unfolding settings_in settings_read record_valid
    settings_whole e = let framed : frame_fits b ≡ true = rw long at e in rw (begun, long, framed, left, whole)

    pub selections_fail : settings_read b (scan_of b) part ≡ None → record_valid b ≡ false
    unfolding settings_read
    selections_fail e = settings_fail (left ∙ none_chosen _ (selections_known b) (rw long at e))

    pub read_whole : (frame : Frame) (settings : Settings) (memory : List ℕ) → frame_read b ≡ Some frame
        → settings_read b (scan_of b) part ≡ Some settings → memory ≡ take addresses b
        → Ok
        (record {
          port = record { memory = memory; levels = frame.levels; phase = frame.phase; line = frame.line };
          settings = settings;
        })
        ≡ recalled_from b
    unfolding recalled_from settings_read frame_read record_valid chip_of
    read_whole frame settings memory f e m =
        let framed = some_chosen _ (frame_fits b) (rw long at f) in
        let found = some_chosen _ (selections_known b) (rw long at e) in
        let right : settings_right b ≡ true = left ∙ found.0 in
        rw (begun, framed.0, right, m, sym framed.1, sym found.1, whole)

-- ---- the numbers of RULES: reading accepts exactly the valid records and refuses all others with 28, writing refuses with 25

module _ (b : List ℕ) where
  pub read_number : verdict_number (recalled_from b) ≡ cond (record_valid b) 0 28
  unfolding recalled_from
  read_number = of_choice verdict_number (record_valid b) (Ok (chip_of b)) (Err Malformed)

  pub settings_number_lem : settings_number (settings_in b) ≡ cond (record_valid b) 0 28
  unfolding settings_in
  settings_number_lem = of_choice settings_number (record_valid b) (Some (settings_of b)) None

  pub written_number : (count : ℕ) → outcome_number (written_as count b) ≡ cond (ltb (length b) record_length) 25 count
  unfolding written_as
  written_number count = of_choice outcome_number (ltb (length b) record_length) (Err OutputShort) (Ok count)
