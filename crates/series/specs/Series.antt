-- RULES "Refresh": series of write streams, and what they make of a picture. Assumes nothing.
use Rattle.std.specs.Prelude.{ℕ, ◌+◌, ◌≤◌, List, [], ◌∷◌, ◌++◌, length}
use Rattle.std.proofs.Math.Seq.{paste}
use Rattle.streams.specs.Streams.{write_stream}

-- A write: nibbles for the addresses from `first` on.
pub record Write : Type 0 where
  pub first : ℕ
  pub nibbles : List ℕ

-- It has a nibble, and ends inside a picture of n.
pub record Fits (n : ℕ) (w : Write) : Type 0 where
  pub some : 1 ≤ length w.nibbles
  pub inside : w.first + length w.nibbles ≤ n

abbrev pub AllFit : ℕ → List Write → Type 0
AllFit n [] = Unit {0}
AllFit n (w ∷ ws) = Fits n w × AllFit n ws

-- The samples of a series: one complete stream after another.
abbrev pub series : List Write → List ℕ
series [] = []
series (w ∷ ws) = write_stream w.first w.nibbles ++ series ws

-- The picture after a write, and after a series of them, in their order.
abbrev pub written : Write → List ℕ → List ℕ
written w picture = paste picture w.first w.nibbles (length w.nibbles)

abbrev pub drawn : List Write → List ℕ → List ℕ
drawn [] picture = picture
drawn (w ∷ ws) picture = drawn ws (written w picture)

-- On the way from one picture to another: each address has the nibble of the one or that of the other.
pub data Mixed : List ℕ → List ℕ → List ℕ → Type 0 where
  none : Mixed [] [] []
  stands : {x y : ℕ} {standing wanted picture : List ℕ} → Mixed standing wanted picture → Mixed (x ∷ standing) (y ∷ wanted) (x ∷ picture)
  comes : {x y : ℕ} {standing wanted picture : List ℕ} → Mixed standing wanted picture → Mixed (x ∷ standing) (y ∷ wanted) (y ∷ picture)
