-- `transcript::list` meets its contract: by the lengths it is refused, `long`, or the lines. Assumes nothing.
use Rattle.std.specs.Prelude.{Ok, Err}
use mathlib.Core.Path.{◌≡◌, ap, sym, ◌∙◌}
use mathlib.Core.List.{List}
use Prim.Native.Nat.{ℕ, ◌≤◌, ◌<◌}
use native.Mathlib.Omega.{arith}
use borrow.Author.Tests.{lt-ltb, le-ltb}
use lib.ListN.{length}
use Rattle.ground.specs.declared.Refusal.TheVariants.{OutputShort}
use Rattle.ground.specs.Outcomes.{ComesTo}
use Rattle.ground.specs.Written.{over, Wrote}
use Rattle.ground.proofs.OutcomesLaws.{refuses, succeeds}
use Rattle.power.specs.PowerOn.{empty_chip}
use Rattle.listed.specs.Listing.{long, list_from, listing, room_for, list_answer}
use Rattle.transcript.proofs.list.Goals as goal

too_short : (input buffer : List ℕ) → length buffer < room_for (length input)
    → ComesTo (list_answer input (length buffer)) (listing input) buffer (Err OutputShort) buffer
unfolding list_answer
too_short input buffer h = refuses (simp (lt-ltb (length buffer) (room_for (length input)) h))

written : (input text : List ℕ) {before after : List ℕ} {count : ℕ}
    → room_for (length input) ≤ length before → listing input ≡ text → Wrote before 0 text after count
    → ComesTo (list_answer input (length before)) (listing input) before (Ok count) after
unfolding list_answer
written input text {before} {after} {count} h e w =
    succeeds (simp (le-ltb (length before) (room_for (length input)) h)) (omega (arith, w.cursor, ap length e))
    (w.buffer ∙ ap (over before 0) (sym e))

only-long : (input : List ℕ) → 65536 < length input → listing input ≡ long
unfolding listing
only-long input h = rw (lt-ltb 65536 (length input) h)

not-long : (input : List ℕ) → length input ≤ 65536 → listing input ≡ list_from empty_chip 0 0 0 input
unfolding listing
not-long input h = rw (le-ltb 65536 (length input) h)

pub returns-then-out-room : goal.returns-then-out-room
returns-then-out-room c =
    too_short c.args.input.now c.args.out.now (omega (arith, c.room.ensures))

pub returns-then-too_long : goal.returns-then-too_long
returns-then-too_long c =
    written c.args.input.now long (omega (arith, c.room.ensures))
    (only-long _ c.if-too_long.true) c.put_bytes.ensures

pub returns : goal.returns
returns c =
    written c.args.input.now (list_from empty_chip 0 0 0 c.args.input.now)
    (omega (arith, c.room.ensures)) (not-long _ c.if-too_long.false)
    c.put_lines.ensures
