-- Where writes cost no more than the set of their addresses, none is over another: each has the new nibbles. Assumes nothing.
use mathlib.Core.Path.{◌≡◌, ◌∙◌, refl}
use mathlib.Core.Bool.{Bool}
use mathlib.Core.List.{List, [], ◌∷◌, map}
use Prim.Native.Nat.{ℕ, zero, suc, ◌+◌, ◌*◌, ◌≤◌}
use native.Mathlib.Omega.{arith}
use native.Mathlib.Nat.{suc-add, not-suc-le-zero, le_of_suc-le-suc}
use lib.ListN.{length, take, drop}
use lib.Seq.{paste, length-paste}
use Rattle.series.specs.Series.{Write, AllFit, written, drawn}
use Rattle.series.specs.Runs.{span_of, write_of}
use Rattle.series.proofs.Covers.{front, mark, cover, last, price, spans_cost, price_front, price_mark, price_cover, last_mark, Same, inside, outside}
use Rattle.series.proofs.Pastes.{paste_here, paste_later, untouched}

front_new : (vs m z : List ℕ) (c : List Bool) → length vs ≤ length m → Same c (paste m 0 vs (length vs)) z
    → 21 + 8 * length vs + price c ≤ last (front (length vs) c) + price (front (length vs) c) → take (length vs) z ≡ vs
front_new [] m z c h s p = refl
front_new (v ∷ vs) [] z c h s p = absurd (not-suc-le-zero h)
front_new (v ∷ vs) (x ∷ xs) z c h s p =
    go (rw (paste_here x v xs vs (length vs)) at s) p (λ z c. front_new vs xs z c (le_of_suc-le-suc h))
  where
    go : {z p : List ℕ} {c : List Bool} → Same c (v ∷ p) z
        → 21 + 8 * suc (length vs) + price c ≤ last (front (suc (length vs)) c) + price (front (suc (length vs)) c)
        → ((z : List ℕ) (c : List Bool) → Same c p z
        → 21 + 8 * length vs + price c ≤ last (front (length vs) c) + price (front (length vs) c) → take (length vs) z ≡ vs)
        → take (suc (length vs)) z ≡ v ∷ vs
    go (inside {c = c} s) q f = absurd (omega (arith, price_front (length vs) c))
    go (outside {c = c} {ys = ys} e s) q f = let t = f ys c s (omega arith) in cc

mark_new : (i : ℕ) (vs m z : List ℕ) (c : List Bool) → i + length vs ≤ length m → Same c (paste m i vs (length vs)) z
    → 21 + 8 * length vs + price c ≤ price (mark i (length vs) c) → take (length vs) (drop i z) ≡ vs
mark_new zero vs m z c h s p = front_new vs m z c (omega arith) s (omega arith)
mark_new (suc i) vs [] z c h s p = absurd (not-suc-le-zero (rw suc-add at h))
mark_new (suc i) vs (x ∷ xs) z c h s p =
    go (rw (paste_later x xs vs i (length vs)) at s) p (λ z c. mark_new i vs xs z c (le_of_suc-le-suc (rw suc-add at h)))
  where
    go : {z p : List ℕ} {c : List Bool} → Same c (x ∷ p) z → 21 + 8 * length vs + price c ≤ price (mark (suc i) (length vs) c)
        → ((z : List ℕ) (c : List Bool) → Same c p z → 21 + 8 * length vs + price c ≤ price (mark i (length vs) c) → take (length vs) (drop i z) ≡ vs)
        → take (length vs) (drop (suc i) z) ≡ vs
    go (inside {c = c} {ys = ys} s) q f = f ys c s (omega (arith, last_mark i (length vs) c))
    go (outside {c = c} {ys = ys} e s) q f = f ys c s q

pub faithful : (n : ℕ) (ws : List Write) (m new : List ℕ) → length m ≡ n → AllFit n ws → drawn ws m ≡ new
    → spans_cost (map span_of ws) ≤ price (cover n (map span_of ws)) → map (write_of new) (map span_of ws) ≡ ws
faithful n [] m new e fit a p = refl
faithful n (w ∷ ws) m new e fit a p =
    let c : List Bool = cover n (map span_of ws) in
    let most = price_mark w.first (length w.nibbles) c in
    let rest = price_cover n (map span_of ws) in
    let room : w.first + length w.nibbles ≤ length m = omega (arith, fit.0.inside) in
    let long : length (written w m) ≡ n = length-paste m w.first w.nibbles (length w.nibbles) room (omega arith) ∙ e in
    let s : Same c (written w m) new = rw a at (untouched n ws (written w m) long fit.1) in
    let nibbles : take (length w.nibbles) (drop w.first new) ≡ w.nibbles =
    mark_new w.first w.nibbles m new c room s (omega arith) in
    let others = faithful n ws (written w m) new long fit.1 a (omega arith) in
    rw (nibbles, others)
