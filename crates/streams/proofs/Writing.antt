-- A list of bytes written in several goes: what is written so far and what is left to write make the whole.
-- Assumes nothing.
use mathlib.Core.Path.{◌≡◌, ◌∙◌, refl, sym, ap}
use mathlib.Core.List.{List, [], ◌++◌, append_assoc, append-nil}
use Prim.Native.Nat.{ℕ, ◌+◌, ◌≤◌}
use native.Mathlib.Omega.{arith}
use lib.ListN.{length, length-append}
use Rattle.ground.specs.Written.{Wrote}
use Rattle.ground.proofs.WrittenLaws.{wrote_none, wrote_then, wrote_length}

-- three writes, one after another
pub wrote_three : {a b c d x y z : List ℕ} {at k l m : ℕ} → Wrote a at x b k → Wrote b k y c l → Wrote c l z d m
    → at + length x + length y + length z ≤ length a → Wrote a at (x ++ y ++ z) d m
wrote_three {x = x} {y = y} {z = z} p q r h =
    wrote_then (x ++ y) z (wrote_then x y p q (omega arith)) r (omega (arith, length-append x y))

-- `rest` is what is left to write of `whole`, which began at `from` and has the room that it needs
pub record Writing (before : List ℕ) (from : ℕ) (whole after : List ℕ) (at : ℕ) (rest : List ℕ) : Type 0 where
  pub fits : from + length whole ≤ length before
  pub done : List ℕ
  pub wrote : Wrote before from done after at
  pub joined : done ++ rest ≡ whole

pub writing_starts : (before : List ℕ) (from : ℕ) (whole : List ℕ) → from + length whole ≤ length before
    → Writing before from whole before from whole
writing_starts before from whole h = record { fits = h; done = []; wrote = wrote_none before from; joined = refl }

module _ {before whole after : List ℕ} {from at : ℕ} where
  writing_sum : (rest : List ℕ) (w : Writing before from whole after at rest)
      → length w.done + length rest ≡ length whole
  writing_sum rest w = sym (length-append w.done rest) ∙ ap length w.joined

  -- there is room for the first part of what is left
  pub writing_part : (part more : List ℕ) {rest : List ℕ} → Writing before from whole after at rest
      → rest ≡ part ++ more → at + length part ≤ length after
  writing_part part more {rest} w e =
      let sum = writing_sum rest w in
      let same = wrote_length w.wrote (omega (arith, w.fits)) in
      let size = ap length e ∙ length-append part more in
      omega (arith, w.fits, w.wrote.cursor)

  -- a part is written
  pub writing_more : (part more : List ℕ) {rest later : List ℕ} {next : ℕ} → Writing before from whole after at rest
      → rest ≡ part ++ more → Wrote after at part later next → Writing before from whole later next more
  writing_more part more {rest} w e p =
      let sum = writing_sum rest w in
      let size = ap length e ∙ length-append part more in
      record {
        fits = w.fits;
        done = w.done ++ part;
        wrote = wrote_then w.done part w.wrote p (omega (arith, w.fits));
        joined = append_assoc w.done part more ∙ ap (λ (l : List ℕ). w.done ++ l) (sym e) ∙ w.joined;
      }

  -- nothing is left
  pub writing_ends : {rest : List ℕ} → Writing before from whole after at rest → rest ≡ []
      → Wrote before from whole after at
  writing_ends w e =
      let all = sym (append-nil w.done) ∙ ap (λ (l : List ℕ). w.done ++ l) (sym e) ∙ w.joined in
      rw all at w.wrote

  -- one part is left, and it is written
  pub writing_last : (part : List ℕ) {rest later : List ℕ} {next : ℕ} → Writing before from whole after at rest
      → rest ≡ part → Wrote after at part later next → Wrote before from whole later next
  writing_last part w e p =
      let all = writing_more part [] w (e ∙ sym (append-nil part)) p in
      rw (sym (append-nil all.done) ∙ all.joined) at all.wrote
