-- What writes change, by the set of their addresses: nothing outside it, and new nibbles inside. Assumes nothing.
use mathlib.Core.Path.{◌≡◌, ◌∙◌, refl}
use mathlib.Core.Bool.{Bool, true, false}
use mathlib.Core.List.{List, [], ◌∷◌, map}
use Prim.Native.Nat.{ℕ, zero, suc, ◌+◌, ◌≤◌}
use native.Mathlib.Omega.{arith}
use native.Mathlib.Nat.{zero-add, suc-add, not-suc-le-zero, le_of_suc-le-suc}
use lib.ListN.{length, take}
use lib.Seq.{paste, take-nil, length-paste}
use Rattle.series.specs.Series.{Write, AllFit, written, drawn}
use Rattle.series.specs.Runs.{Span, span_of, write_of}
use Rattle.series.proofs.Covers.{front, mark, cover, Same, none, inside, outside, same_more, same_all, same_none}

-- ---- a paste, address by address

pub paste_here : (x v : ℕ) (xs vs : List ℕ) (n : ℕ) → paste (x ∷ xs) 0 (v ∷ vs) (suc n) ≡ v ∷ paste xs 0 vs n
paste_here x v xs vs n = simp zero-add

pub paste_later : (x : ℕ) (xs vs : List ℕ) (i n : ℕ) → paste (x ∷ xs) (suc i) vs n ≡ x ∷ paste xs i vs n
paste_later x xs vs i n = simp suc-add

-- ---- what is the same outside c after a write was so before it outside c and the write

front_before : (vs m z : List ℕ) (c : List Bool) → length vs ≤ length m
    → Same c (paste m 0 vs (length vs)) z → Same (front (length vs) c) m z
front_before [] m z c h s = s
front_before (v ∷ vs) [] z c h s = absurd (not-suc-le-zero h)
front_before (v ∷ vs) (x ∷ xs) z c h s =
    go (rw (paste_here x v xs vs (length vs)) at s) (λ z c. front_before vs xs z c (le_of_suc-le-suc h))
  where
    go : {z p : List ℕ} {c : List Bool} → Same c (v ∷ p) z → ((z : List ℕ) (c : List Bool) → Same c p z → Same (front (length vs) c) xs z)
        → Same (front (suc (length vs)) c) (x ∷ xs) z
    go (inside {c = c} {ys = ys} s) f = inside (f ys c s)
    go (outside {c = c} {ys = ys} e s) f = inside (f ys c s)

mark_before : (i : ℕ) (vs m z : List ℕ) (c : List Bool) → i + length vs ≤ length m
    → Same c (paste m i vs (length vs)) z → Same (mark i (length vs) c) m z
mark_before zero vs m z c h s = front_before vs m z c (omega arith) s
mark_before (suc i) vs [] z c h s = absurd (not-suc-le-zero (rw suc-add at h))
mark_before (suc i) vs (x ∷ xs) z c h s =
    go (rw (paste_later x xs vs i (length vs)) at s) (λ z c. mark_before i vs xs z c (le_of_suc-le-suc (rw suc-add at h)))
  where
    go : {z p : List ℕ} {c : List Bool} → Same c (x ∷ p) z → ((z : List ℕ) (c : List Bool) → Same c p z → Same (mark i (length vs) c) xs z)
        → Same (mark (suc i) (length vs) c) (x ∷ xs) z
    go (inside {c = c} {ys = ys} s) f = inside (f ys c s)
    go (outside {c = c} {ys = ys} e s) f = outside e (f ys c s)

-- writes change nothing outside their addresses
pub untouched : (n : ℕ) (ws : List Write) (m : List ℕ) → length m ≡ n → AllFit n ws → Same (cover n (map span_of ws)) m (drawn ws m)
untouched n [] m e fit = rw (← e) (same_all m)
untouched n (w ∷ ws) m e fit =
    let room : w.first + length w.nibbles ≤ length m = omega (arith, fit.0.inside) in
    mark_before w.first w.nibbles m (drawn ws (written w m)) (cover n (map span_of ws)) room
    (untouched n ws (written w m) (length-paste m w.first w.nibbles (length w.nibbles) room (omega arith) ∙ e) fit.1)

-- ---- what is new outside c and a span is new outside c after the span's write

front_after : (k : ℕ) (c : List Bool) {m new : List ℕ} → Same (front k c) m new → Same c (paste m 0 (take k new) (length (take k new))) new
front_after zero c s = s
front_after (suc k) [] none = none
front_after (suc k) (b ∷ c) (inside {x = x} {y = y} {xs = xs} {ys = ys} s) =
    rw (paste_here x y xs (take k ys) (length (take k ys))) (same_more b refl (front_after k c s))

mark_after : (i k : ℕ) (c : List Bool) {m new : List ℕ} → Same (mark i k c) m new
    → Same c (written (write_of new (record { first = i; count = k })) m) new
mark_after zero k c s = front_after k c s
mark_after (suc i) k [] none = simp (take-nil, suc-add) none
mark_after (suc i) k (true ∷ c) (inside {x = x} {xs = xs} {ys = ys} s) = rw paste_later (inside (mark_after i k c s))
mark_after (suc i) k (false ∷ c) (outside e s) = rw paste_later (outside e (mark_after i k c s))

-- where a memory is new outside some spans, their writes make it new
pub renewed : (n : ℕ) (ss : List Span) {m new : List ℕ} → Same (cover n ss) m new → drawn (map (write_of new) ss) m ≡ new
renewed n [] {m} {new} s = same_none n m new s
renewed n (t ∷ ss) s = renewed n ss (mark_after t.first t.count (cover n ss) s)
