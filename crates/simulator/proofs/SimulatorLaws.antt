-- What each exported call returns and leaves, by what was read. Assumes nothing.
use Rattle.std.specs.Prelude.{Option, Some, None, Ok, Err}
use Rattle.commands.specs.declared.Command.{Command}
use mathlib.Core.Path.{◌≡◌, ◌∙◌, refl, sym, ap, subst}
use mathlib.Core.Bool.{Bool, true, false, cond}
use mathlib.Core.List.{List, [], ◌∷◌, ◌++◌, map, append-nil}
use Prim.Native.Nat.{ℕ, zero, suc, ◌+◌, ◌*◌, ◌≤◌, ◌<◌}
use native.Mathlib.Omega.{arith}
use lib.Bits.{bit_and}
use lib.ListN.{length, take, drop_of_length-le}
use borrow.Author.Tests.{lt-ltb, le-ltb}
use denote.Enum.Declared.{tag_of}
use types.Run.{OneOf, miss}
use Rattle.ground.specs.Bits.{bit_number}
use Rattle.ground.specs.Sizes.{addresses, record_length}
use Rattle.ground.specs.declared.Refusal.{Refusal}
use Rattle.ground.specs.declared.Refusal.TheVariants.{Malformed}
use Rattle.ground.specs.Outcomes.{written_as}
use Rattle.ground.specs.Written.{byte, over}
use Rattle.ground.proofs.ChoiceLaws.{either, none_chosen, some_chosen}
use Rattle.clock.specs.declared.Counters.{Counters}
use Rattle.clock.specs.declared.Scan.{Scan}
use Rattle.settings.specs.declared.Settings.{Settings}
use Rattle.settings.specs.Settings.{counters_to, scan_to}
use Rattle.ticks.specs.Ticks as ticks
use Rattle.pins.specs.Pins.{irq_low, bz_high, partner_high, shown_nibble}
use Rattle.pins.proofs.PinsLaws.{shown_under_mask}
use Rattle.answers.specs.declared.Answer.{Answer}
use Rattle.answers.specs.contracts.Answer.{the_type as answer_type}
use Rattle.lines.specs.Samples.{levels}
use Rattle.chip.specs.declared.Chip.{Chip}
use Rattle.chip.specs.declared.Stepped.{Stepped}
use Rattle.commands.specs.Commands.{code_meaning}
use Rattle.frames.specs.declared.Upshot.{Upshot}
use Rattle.frames.specs.declared.Upshot.TheVariants.{Answered, Nibble, Code}
use Rattle.chip.specs.Chip.{decoded_answer, obeyed_as, told, settings_after, stepped_to, stepped}
use Rattle.port.specs.Port.{moved}
use Rattle.pins.specs.Pins.{pins_shown}
use Rattle.chip.specs.Valid.{Valid}
use Rattle.chip.proofs.ValidLaws.{stepped_valid}
use Rattle.state.specs.Record.{record_valid, record_of, chip_of}
use Rattle.state.specs.Answers.{recalled_from, settings_in, written_over, port_over}
use Rattle.settings.specs.Bytes.{counters_over}
use Rattle.phases.specs.Frame.{data_at}
use Rattle.phases.proofs.FrameLaws.{fits_has, line_again}
use Rattle.state.proofs.TripLaws.{valid_has}
use Rattle.state.proofs.ChipLaws.{valid_chip, chip_valid}
use Rattle.state.proofs.BackLaws.{port_back, counters_back}
use Rattle.simulator.specs.Simulator.{answer_code, pins_code, step_returns, step_bytes, advance_returns, advance_bytes, pins_returns, pins_bytes}

-- ---- what was read tells whether the record is valid

module _ (b : List ℕ) where
  pub not_said : (why : Refusal) → Err why ≡ recalled_from b → (why ≡ Malformed) × (record_valid b ≡ false)
  unfolding recalled_from
  not_said why = by (record_valid b)
    where
      by : (t : Bool) → Err why ≡ cond t (Ok (chip_of b)) (Err Malformed) → (why ≡ Malformed) × (t ≡ false)
      by true e = (cc, cc)
      by false e = (cc, refl)

  pub said : (chip : Chip) → Ok chip ≡ recalled_from b → (record_valid b ≡ true) × (chip ≡ chip_of b)
  unfolding recalled_from
  said chip = by (record_valid b)
    where
      by : (t : Bool) → Ok chip ≡ cond t (Ok (chip_of b)) (Err Malformed) → (t ≡ true) × (chip ≡ chip_of b)
      by true e = (refl, cc)
      by false e = (cc, cc)

  none : None ≡ settings_in b → record_valid b ≡ false
  unfolding settings_in chip_of
  none e = none_chosen _ (record_valid b) (sym e)

  there : (s : Settings) → Some s ≡ settings_in b → (record_valid b ≡ true) × ((chip_of b).settings ≡ s)
  unfolding settings_in chip_of
  there s e = some_chosen _ (record_valid b) (sym e)

  pub valid_long : record_valid b ≡ true → length b ≡ record_length
  valid_long v = (valid_has b v).long

-- ---- a valid chip written over a record of its length leaves its record

written_over_lem : (b : List ℕ) (c : Chip) → length b ≡ record_length → Valid c → written_over c b ≡ record_of c
unfolding written_over written_as
written_over_lem b c long v =
    let whole : length (record_of c) ≡ record_length = (valid_has (record_of c) (chip_valid c v)).long in
    rw (le-ltb (length b) record_length (omega (arith, long)))
    (ap (λ (l : List ℕ). record_of c ++ l) (drop_of_length-le b {i = 0 + length (record_of c)} (omega (arith, long, whole))) ∙ append-nil (record_of c))

-- ---- only an obeyed command changes the settings, and ticks change only the counters and the scan

-- the tags of all answers but an obeyed command's, as `step` learns them
abbrev others : List ℕ
others = 0 ∷ 1 ∷ 2 ∷ 3 ∷ 4 ∷ 5 ∷ 7 ∷ 8 ∷ 9 ∷ 10 ∷ 11 ∷ 12 ∷ []

abbrev Other : Answer → Type 0
Other answer = OneOf others (tag_of answer_type answer)

decoded_alone : (decoded : Option Command) (code : ℕ) (s : Settings) → Other (decoded_answer decoded code) → obeyed_as decoded s ≡ s
unfolding obeyed_as
decoded_alone None code s h = refl
decoded_alone (Some command) code s h = absurd (miss others 6 tt h)

settings_alone : (upshot : Upshot) (s : Settings) → Other (told s.part upshot) → settings_after upshot s ≡ s
unfolding settings_after
settings_alone (Answered answer) s h = refl
settings_alone (Nibble at nibble) s h = refl
settings_alone (Code code) s h = decoded_alone (code_meaning s.part (2 * code)) code s h

port_alone : (c : Chip) (sample : ℕ) → sample ≤ 15 → Other (stepped c sample).answer
    → record { port = (stepped c sample).chip.port; settings = c.settings } ≡ (stepped c sample).chip
unfolding stepped stepped_to
port_alone c sample low other =
    let e : stepped c sample ≡ stepped_to c (levels sample) = rw (le-ltb 15 sample low) in
    let after = moved c.port (levels sample) in
    let same = ap (λ (r : Stepped). r.chip.settings) e
    ∙ settings_alone after.upshot c.settings
    (subst (λ (r : Stepped). Other r.answer) e other) in
    ap (λ (s : Settings). record { port = (stepped c sample).chip.port; settings = s }) (sym same)

abbrev ticks_to : Counters → Scan → Settings → Settings
ticks_to x y s = scan_to y (counters_to x s)

tick_alone : (x : Counters) (y : Scan) (s : Settings) → ticks_to x y s ≡ ticks_to x y (ticks.ticked s)
unfolding ticks.ticked
tick_alone x y s = either (λ (next : Settings). ticks_to x y s ≡ ticks_to x y next) (ticks.running s) refl refl

counters_alone : (n : ℕ) (s : Settings) → ticks_to (ticks.advanced n s).counters (ticks.advanced n s).scan s ≡ ticks.advanced n s
unfolding ticks.advanced
counters_alone zero s = refl
counters_alone (suc n) s =
    let next = ticks.advanced n (ticks.ticked s) in tick_alone next.counters next.scan s ∙ counters_alone n (ticks.ticked s)

-- ---- step

module _ (b : List ℕ) (sample : ℕ) where
  pub step_malformed : record_valid b ≡ false → (28 ≡ step_returns b sample) × (b ≡ step_bytes b sample)
  unfolding step_returns step_bytes
  step_malformed v = (rw v, rw v)

  module _ (chip : Chip) (e : Ok chip ≡ recalled_from b) where
    v : record_valid b ≡ true
    v = (said b chip e).0

    pub step_long : record_length ≤ length b
    step_long = let long = valid_long b v in omega (arith, long)

    pub step_above : 15 < sample → (20 ≡ step_returns b sample) × (b ≡ step_bytes b sample)
    unfolding step_returns step_bytes
    step_above h = (simp (v, lt-ltb _ _ h), simp (v, lt-ltb _ _ h))

    module _ (done : Stepped) (code : ℕ) (after : List ℕ) (h : sample ≤ 15) (d : done ≡ stepped chip sample)
        (coded : code ≡ answer_code done.answer) where
      same : done ≡ stepped (chip_of b) sample
      same = d ∙ ap (λ (c : Chip). stepped c sample) (said b chip e).1

      next_valid : Valid (stepped (chip_of b) sample).chip
      next_valid = stepped_valid (chip_of b) sample (valid_chip b v)

      returned : code ≡ step_returns b sample
      unfolding step_returns
      returned = coded ∙ ap (λ (s : Stepped). answer_code s.answer) same ∙ simp (v, le-ltb _ _ h)

      left : record_of (stepped (chip_of b) sample).chip ≡ step_bytes b sample
      unfolding step_bytes
      left = simp (v, le-ltb _ _ h)

      pub step_obeyed : after ≡ written_over done.chip b → (code ≡ step_returns b sample) × (after ≡ step_bytes b sample)
      step_obeyed w = (
        returned,
        w ∙ ap (λ (s : Stepped). written_over s.chip b) same
            ∙ written_over_lem b (stepped (chip_of b) sample).chip (valid_long b v) next_valid ∙ left,
      )

      pub step_kept : Other done.answer → after ≡ port_over done.chip.port b
          → (code ≡ step_returns b sample) × (after ≡ step_bytes b sample)
      step_kept other w = (
        returned,
        w ∙ ap (λ (s : Stepped). port_over s.chip.port b) same
            ∙ port_back b v (stepped (chip_of b) sample).chip.port next_valid.port.size
            ∙ ap record_of (port_alone (chip_of b) sample h (subst (λ (s : Stepped). Other s.answer) same other)) ∙ left,
      )

-- ---- advance

module _ (b : List ℕ) (n : ℕ) where
  pub advance_malformed : None ≡ settings_in b → (28 ≡ advance_returns b) × (b ≡ advance_bytes b n)
  unfolding advance_returns advance_bytes
  advance_malformed z = let v = none b z in (rw v, rw v)

  pub advance_long : (settings : Settings) → Some settings ≡ settings_in b → record_length ≤ length b
  advance_long settings z = let long = valid_long b (there b settings z).0 in omega (arith, long)

  pub advance_done : (settings next : Settings) (after : List ℕ) → Some settings ≡ settings_in b → next ≡ ticks.advanced n settings
      → after ≡ counters_over next b → (0 ≡ advance_returns b) × (after ≡ advance_bytes b n)
  unfolding advance_returns advance_bytes
  advance_done settings next after z d w =
      let v = there b settings z in
      let same : next ≡ ticks.advanced n (chip_of b).settings = d ∙ ap (ticks.advanced n) (sym v.1) in (
        rw v.0,
        w ∙ ap (λ (s : Settings). counters_over s b) (same ∙ sym (counters_alone n (chip_of b).settings))
            ∙ counters_back b v.0 (ticks.advanced n (chip_of b).settings).counters (ticks.advanced n (chip_of b).settings).scan
            ∙ ap (λ (s : Settings). record_of (record { port = (chip_of b).port; settings = s })) (counters_alone n (chip_of b).settings) ∙ rw v.0,
      )

-- ---- pins

module _ (b out : List ℕ) where
  pub pins_malformed : None ≡ settings_in b → (28 ≡ pins_returns b out) × (out ≡ pins_bytes b out)
  unfolding pins_returns pins_bytes
  pins_malformed z = let v = none b z in (rw v, rw v)

  module _ (settings : Settings) (z : Some settings ≡ settings_in b) where
    pub pins_short : length out < addresses → (25 ≡ pins_returns b out) × (out ≡ pins_bytes b out)
    unfolding pins_returns pins_bytes
    pins_short h = let v = (there b settings z).0 in (simp (v, lt-ltb _ _ h), simp (v, lt-ltb _ _ h))

    pub pins_long : length b ≡ record_length
    pins_long = valid_long b (there b settings z).0

    -- byte 39 is the number of what it reads to
    pub pins_shown_lem : (mask code : ℕ) (after : List ℕ) → addresses ≤ length out → mask ≡ shown_nibble settings 15
        → after ≡ over out 0 (map (λ n. bit_and n mask) (take addresses b))
        → code ≡ bit_number (irq_low settings) + 2 * bit_number (bz_high settings) + 4 * bit_number (partner_high settings) + 8 * byte b data_at
        → (code ≡ pins_returns b out) × (after ≡ pins_bytes b out)
    unfolding pins_returns pins_bytes pins_code pins_shown chip_of
    pins_shown_lem mask code after h m w a =
        let v = there b settings z in
        let line = line_again (byte b data_at) (fits_has b (valid_has b v.0).frame).data_low in (
          a ∙ simp (v.0, le-ltb _ _ h, v.1, line),
          w ∙ simp (v.0, le-ltb _ _ h, v.1, m, shown_under_mask),
        )
