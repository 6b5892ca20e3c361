-- The rules of a sample hold of every valid record. Here: CS, by the levels before and after; the clocks within a frame are in
-- Frames.antt. Assumes nothing.
use mathlib.Core.Path.{◌≡◌, ◌∙◌, refl, sym, ap, ap₂, subst}
use mathlib.Core.Bool.{Bool, true, false, cond, not}
use mathlib.Core.List.{List}
use Prim.Native.Nat.{ℕ, ◌%◌, ◌≤◌}
use native.Mathlib.Omega.{arith}
use lib.Dec.{eqb}
use borrow.Author.Tests.{lt-ltb, ne_eqb}
use Rattle.ground.specs.Bits.{bit_at}
use Rattle.frames.specs.declared.Upshot.TheVariants.{Answered}
use Rattle.phases.specs.declared.Line.{Line}
use Rattle.phases.specs.declared.Line.TheVariants.{Released}
use Rattle.phases.specs.declared.Phase.{Phase}
use Rattle.phases.specs.declared.Phase.TheVariants.{Idle, Ident}
use Rattle.answers.specs.declared.Answer.{Answer}
use Rattle.answers.specs.declared.Answer.TheVariants.{Nothing, Opened, Closed, Dropped, Clash}
use Rattle.lines.specs.declared.Edge.{Edge}
use Rattle.lines.specs.declared.Edge.TheVariants as edges
use Rattle.lines.specs.Samples.{levels, clocked, edge}
use Rattle.frames.specs.Frames.{frame, framed, closed}
use Rattle.phases.specs.Phases.{unfinished}
use Rattle.phases.specs.Frame.{goes_with_cs, phase_read}
use Rattle.phases.specs.Valid.{FrameValid}
use Rattle.phases.proofs.FrameLaws.{fits_has}
use Rattle.state.specs.Record.{record_valid, chip_of}
use Rattle.state.proofs.ChipLaws.{valid_chip}
use Rattle.state.proofs.TripLaws.{valid_has}
use Rattle.simulator.specs.Simulator.{answer_code, step_returns, step_bytes}
use Rattle.sheet.specs.Bytes.{byte}
use Rattle.sheet.specs.Frames.{OnlyLevels}
use Rattle.sheet.specs.Samples.{Clocked, Sampled, SamplesSheet}
use Rattle.sheet.proofs.Frames.{takes, offers}
use Rattle.sheet.proofs.FramesLaws.{phase_at_lem, count_said}
use Rattle.sheet.proofs.SamplesLaws.{leaves, only, framed_by_lem, levels_stored, clocked_edge}

-- CS is high exactly where there is no frame
same_test : (high none : Bool) → cond high none (not none) ≡ true → high ≡ none
same_test true none e = sym e
same_test false true e = e
same_test false false e = refl

-- what closes tells whether bits were unfinished
closing : (finished : Bool) → answer_code (cond finished Closed Dropped) ≡ cond finished 2 3
unfolding answer_code
closing true = refl
closing false = refl

module _ (b : List ℕ) (valid : record_valid b ≡ true) (s : ℕ) (small : s ≤ 15) where
  abbrev phase : Phase
  phase = (chip_of b).port.phase

  abbrev line : Line
  line = (chip_of b).port.line

  cs_said : eqb (byte b 32 % 2) 1 ≡ eqb (byte b 33) 0
  unfolding goes_with_cs
  cs_said = same_test _ _ (fits_has b (valid_has b valid).frame).cs

  -- an edge that leaves the frame
  stays : (answer : Answer) (sort : Edge) (returned : ℕ) → edge (chip_of b).port.levels (levels s) ≡ sort
      → ((nibble : ℕ) → frame sort nibble phase line ≡ framed phase line (Answered answer)) → answer_code answer ≡ returned
      → OnlyLevels b s returned
  stays answer sort returned e same told =
      only b valid s small answer returned (framed_by_lem b valid s small sort e phase refl ∙ same _) told

  in_frame : (rise fall : Bool) → edge (chip_of b).port.levels (levels s) ≡ clocked rise fall (bit_at 3 s) → Clocked b s rise fall
  unfolding frame answer_code
  in_frame rise fall e =
      let at : (x y : Bool) → rise ≡ x → fall ≡ y → edge (chip_of b).port.levels (levels s) ≡ clocked x y (bit_at 3 s) =
      λ x y r f. e ∙ ap₂ (λ (x : Bool) (y : Bool). clocked x y (bit_at 3 s)) r f in
      record {
        clash = λ r f. stays Clash edges.Clashes _ (at true true r f) (λ nibble. refl) refl;
        taken = λ r f. takes b valid s small (at true false r f);
        offered = λ r f. offers b valid s small (at false true r f);
        quiet = λ r f. stays Nothing edges.Quiet _ (at false false r f) (λ nibble. refl) refl;
      }

  sampled : Sampled b s
  unfolding frame closed phase_read answer_code chip_of
  sampled =
      record {
        levels = levels_stored b valid s small;
        rests = λ high none.
            let before : eqb (byte b 32 % 2) 1 ≡ true = cs_said ∙ rw none in
            let idle : phase ≡ Idle = phase_at_lem b valid 0 none in
            let released : line ≡ Released = (subst (FrameValid (chip_of b).port.levels.cs line) idle (valid_chip b valid).port.frame).1 in
            stays Nothing edges.Rests _ (rw (high, before))
            (λ nibble. ap₂ (λ (p : Phase) (l : Line). framed p l (Answered Nothing)) (sym idle) (sym released)) refl;
        closes = λ high some.
            let before : eqb (byte b 32 % 2) 1 ≡ false = cs_said ∙ ne_eqb (byte b 33) 0 (λ z. omega (arith, z)) in
            let told = closing (eqb (unfinished phase) 0) in
            leaves b valid s small (closed phase) (framed_by_lem b valid s small edges.Closes (rw (high, before)) phase refl) _ _ _ refl
            (told ∙ ap (λ (count : ℕ). cond (eqb count 0) 2 3) (sym (count_said b valid phase refl))) refl;
        opens = λ low before.
            leaves b valid s small (framed (Ident 0 0) Released (Answered Opened))
            (framed_by_lem b valid s small edges.Opens (rw (low, before)) phase refl) _ _ Opened refl refl refl;
        clocked = λ after before. in_frame _ _ (clocked_edge b valid s small after before);
      }

pub samples_sheet : SamplesSheet
unfolding step_returns step_bytes
samples_sheet =
    record {
      malformed = λ b s invalid. (rw invalid, rw invalid);
      above = λ b s valid h. (rw (valid, lt-ltb 15 s h), rw (valid, lt-ltb 15 s h));
      sampled = λ b s valid h. sampled b valid s h;
    }
