-- Laws of a stream that is sent: refused or written, and as the last rung of a longer ladder. Assumes nothing.
use Rattle.std.specs.Prelude.{Ok, Err}
use mathlib.Core.Path.{◌≡◌, ◌∙◌, sym, ap}
use mathlib.Core.Bool.{true, false}
use mathlib.Core.List.{List}
use Prim.Native.Nat.{ℕ}
use native.Mathlib.Omega.{arith}
use lib.Dec.{ltb}
use lib.ListN.{length}
use Rattle.ground.specs.declared.Refusal.TheVariants.{OutputShort}
use Rattle.ground.specs.Outcomes.{Outcome, ComesTo, left}
use Rattle.ground.specs.Written.{Wrote}
use Rattle.ground.proofs.OutcomesLaws.{refuses, succeeds}
use Rattle.streams.specs.Sent.{sent, Sends}

module _ {stream before : List ℕ} where
  -- there is no room for so many bytes as it has
  pub sends_none : {size : ℕ} → size ≡ length stream → ltb (length before) size ≡ true
      → Sends stream before (Err OutputShort) before
  sends_none e short = refuses (simp (← e, short))

  -- there is room, and the whole stream is written
  pub sends_whole : {after : List ℕ} {size count : ℕ} → size ≡ length stream → ltb (length before) size ≡ false
      → Wrote before 0 stream after count → Sends stream before (Ok count) after
  sends_whole e room w = succeeds (simp (← e, room)) (omega (arith, w.cursor)) w.buffer

  -- what is due is what sending comes to
  pub sends_due : {due result : Outcome} {after : List ℕ} → due ≡ sent stream (length before)
      → Sends stream before result after → ComesTo due stream before result after
  sends_due e s =
      record {
        answer = s.answer ∙ sym e;
        bytes = s.bytes ∙ ap (λ (d : Outcome). left d stream before) (sym e);
      }
