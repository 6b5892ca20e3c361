-- A loop that sends a list item by item: what is sent so far and the items from `i` on make the whole. Assumes nothing.
use mathlib.Core.List.{List}
use Prim.Native.Nat.{ℕ, ◌+◌, ◌≤◌, ◌<◌}
use native.Mathlib.Omega.{arith}
use lib.ListN.{length, drop, get_or}
use Rattle.ground.specs.Written.{Wrote}
use Rattle.streams.proofs.StreamsLaws.{ByItems, items_next, items_end}
use Rattle.streams.proofs.Writing.{Writing, writing_starts, writing_part, writing_more, writing_last}

pub record Sending {A : Type 0} (send : List A → List ℕ) (list : List A) (before : List ℕ) (from : ℕ) (after : List ℕ)
    (at i : ℕ) : Type 0 where
  pub reach : i ≤ length list
  pub writing : Writing before from (send list) after at (send (drop i list))

pub sending_starts : {A : Type 0} (send : List A → List ℕ) (list : List A) (before : List ℕ) (from : ℕ)
    → from + length (send list) ≤ length before → Sending send list before from before from 0
sending_starts send list before from h =
    record { reach = omega arith; writing = writing_starts before from (send list) h }

module _ {A : Type 0} {send : List A → List ℕ} {item : A → List ℕ} {close : List ℕ} (by : ByItems send item close)
    {list : List A} {before after : List ℕ} {from at i : ℕ} (s : Sending send list before from after at i) where
  -- there is room for the next item
  pub sending_room : (d : A) → i < length list → at + length (item (get_or list i d)) ≤ length after
  sending_room d h =
      writing_part (item (get_or list i d)) (send (drop (i + 1) list)) s.writing (items_next by list i d h)

  -- it is sent
  pub sending_more : (d : A) {later : List ℕ} {next : ℕ} → i < length list → Wrote after at (item (get_or list i d)) later next
      → Sending send list before from later next (i + 1)
  sending_more d h w =
      record {
        reach = omega arith;
        writing = writing_more (item (get_or list i d)) (send (drop (i + 1) list)) s.writing (items_next by list i d h) w;
      }

  -- all are sent, and what closes them is written
  pub sending_closes : {later : List ℕ} {next : ℕ} → length list ≤ i → Wrote after at close later next
      → Wrote before from (send list) later next
  sending_closes h w = writing_last close s.writing (items_end by list i h) w
