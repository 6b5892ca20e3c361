-- Laws of bytes of a list, and of bytes written over a buffer. Assumes nothing.
use mathlib.Core.Path.{◌≡◌, ap, sym, ◌∙◌}
use mathlib.Core.List.{List, [], ◌∷◌, ◌++◌, append_assoc, append-nil}
use Prim.Native.Nat.{ℕ, zero, suc, ◌+◌, ◌≤◌, ◌<◌}
use native.Mathlib.Omega.{arith}
use native.Mathlib.Nat.{add-zero, zero-add, add-suc, suc-add}
use native.Mathlib.Numerals.{add-one}
use lib.ListN.{length-take, length, take, drop, get_or, set, replicate, length-append, take-append-drop, drop_of_length-le}
use lib.Seq.{drop-append_seam, paste, paste-suc, take_all, length-paste, take-paste, drop-paste, take-length, set_split, append_snoc, drop-drop, drop-cons}
use Rattle.ground.specs.Sizes.{addresses}
use Rattle.ground.specs.Written.{byte, over, Wrote, memory_from}

-- the n bytes from a place on
abbrev pub gather : ℕ → ℕ → List ℕ → List ℕ
gather zero at l = []
gather (suc n) at l = byte l at ∷ gather n (suc at) l

pub gathered : (n at : ℕ) (l : List ℕ) → at + n ≤ length l → drop at l ≡ gather n at l ++ drop (at + n) l
gathered zero at l h = ap (λ (k : ℕ). drop k l) (sym (add-zero at))
gathered (suc n) at l h =
    let e : suc at + n ≡ at + suc n = suc-add at n ∙ sym (add-suc at n) in
    drop-cons l at 0 (omega (arith, e))
    ∙ ap (λ (t : List ℕ). byte l at ∷ t) (gathered n (suc at) l (omega (arith, e)))
    ∙ ap (λ (k : ℕ). byte l at ∷ (gather n (suc at) l ++ drop k l)) e

pub over_paste : (buffer bytes : List ℕ) (at : ℕ) → paste buffer at bytes (length bytes) ≡ over buffer at bytes
over_paste buffer bytes at = ap (λ (t : List ℕ). take at buffer ++ t ++ drop (at + length bytes) buffer) (take-length bytes)

module _ (buffer bytes : List ℕ) (at : ℕ) (fits : at + length bytes ≤ length buffer) where
  pub length_over : length (over buffer at bytes) ≡ length buffer
  length_over = sym (ap length (over_paste buffer bytes at)) ∙ length-paste buffer at bytes (length bytes) fits (omega arith)

  pub take_over : take (at + length bytes) (over buffer at bytes) ≡ take at buffer ++ bytes
  take_over =
      sym (ap (take (at + length bytes)) (over_paste buffer bytes at))
      ∙ take-paste buffer at bytes (length bytes) (omega arith) (omega arith)
      ∙ ap (λ (t : List ℕ). take at buffer ++ t) (take-length bytes)

  pub drop_over : drop (at + length bytes) (over buffer at bytes) ≡ drop (at + length bytes) buffer
  drop_over =
      sym (ap (drop (at + length bytes)) (over_paste buffer bytes at))
      ∙ drop-paste buffer at bytes (length bytes) (omega arith) (omega arith)

-- one store is a write of one byte
pub set_over : (buffer : List ℕ) (at byte : ℕ) → at < length buffer → set buffer at byte ≡ over buffer at (byte ∷ [])
set_over buffer at byte h =
    set_split buffer at byte h
    ∙ sym (append_snoc (take at buffer) byte (drop (suc at) buffer))
    ∙ ap (λ (n : ℕ). take at buffer ++ (byte ∷ []) ++ drop n buffer) (sym (add-one at))

-- what is written right after what was written
pub over_over : (buffer first second : List ℕ) (at : ℕ) → at + length first + length second ≤ length buffer
    → over (over buffer at first) (at + length first) second ≡ over buffer at (first ++ second)
over_over buffer first second at h =
    let head : take (at + length first) (over buffer at first) ≡ take at buffer ++ first = take_over buffer first at (omega arith) in
    let tail : drop (at + length first + length second) (over buffer at first) ≡ drop (at + length first + length second) buffer =
    sym (drop-drop (length second) (at + length first) (over buffer at first))
    ∙ ap (drop (length second)) (drop_over buffer first at (omega arith))
    ∙ drop-drop (length second) (at + length first) buffer in
    let sum : at + length first + length second ≡ at + length (first ++ second) = omega (arith, length-append first second) in
    ap (λ (x : List ℕ). x ++ second ++ drop (at + length first + length second) (over buffer at first)) head
    ∙ ap (λ (x : List ℕ). take at buffer ++ first ++ second ++ x) (tail ∙ ap (λ (n : ℕ). drop n buffer) sum)
    ∙ ap (λ (x : List ℕ). x ++ drop (at + length (first ++ second)) buffer) (append_assoc (take at buffer) first second)

-- what is written at the start, right before what was written
pub over_under : (buffer first second : List ℕ) → length first + length second ≤ length buffer
    → over (over buffer (length first) second) 0 first ≡ over buffer 0 (first ++ second)
over_under buffer first second h =
    let rest : List ℕ = second ++ drop (length first + length second) buffer in
    let front : length (take (length first) buffer) ≡ length first = omega (arith, length-take (length first) buffer) in
    let tail : drop (length first) (take (length first) buffer ++ rest) ≡ rest =
    ap (λ (n : ℕ). drop n (take (length first) buffer ++ rest)) (sym front) ∙ drop-append_seam (take (length first) buffer) rest in
    ap (λ (l : List ℕ). first ++ drop (0 + length first) l)
    (append_assoc (take (length first) buffer) second (drop (length first + length second) buffer))
    ∙ ap (λ (n : ℕ). first ++ drop n (take (length first) buffer ++ rest)) (zero-add (length first))
    ∙ ap (λ (l : List ℕ). first ++ l) tail
    ∙ sym (append_assoc first second (drop (length first + length second) buffer))
    ∙ ap (λ (n : ℕ). (first ++ second) ++ drop n buffer) (sym (length-append first second) ∙ sym (zero-add (length (first ++ second))))

-- a write of nothing
pub wrote_none : (buffer : List ℕ) (at : ℕ) → Wrote buffer at [] buffer at
wrote_none buffer at =
    record { cursor = sym (add-zero at); buffer = sym (simp (append-nil, add-zero) (take-append-drop at buffer)) }

-- one write after another
pub wrote_then : {a b c : List ℕ} (first second : List ℕ) {at k m : ℕ} → Wrote a at first b k → Wrote b k second c m
    → at + length first + length second ≤ length a → Wrote a at (first ++ second) c m
wrote_then {a} {b} {c} first second {at} {k} {m} p q h =
    record {
      cursor = omega (arith, length-append first second);
      buffer = q.buffer ∙ rw (p.buffer, p.cursor) (over_over a first second at h);
    }

-- one entry more of a list that fills a buffer from its start
pub paste_next : (buffer bytes now : List ℕ) (i : ℕ) → now ≡ paste buffer 0 bytes i → i < length buffer → i < length bytes
    → set now i (get_or bytes i 0) ≡ paste buffer 0 bytes (i + 1)
paste_next buffer bytes now i e room more =
    ap (λ (n : ℕ). set now n (get_or bytes i 0)) (sym (zero-add i))
    ∙ ap (λ (l : List ℕ). set l (0 + i) (get_or bytes i 0)) e
    ∙ paste-suc buffer 0 bytes i 0 (omega arith) more
    ∙ ap (paste buffer 0 bytes) (sym (add-one i))

-- a write leaves the buffer as long as it was
pub wrote_length : {before bytes after : List ℕ} {at next : ℕ} → Wrote before at bytes after next
    → at + length bytes ≤ length before → length after ≡ length before
wrote_length {before} {bytes} {after} {at} {next} w h = ap length w.buffer ∙ length_over before bytes at h

-- a list as long as the buffer fills it
pub paste_whole : (buffer bytes : List ℕ) (i : ℕ) → length buffer ≤ i → length bytes ≤ i → paste buffer 0 bytes i ≡ bytes
paste_whole buffer bytes i full all =
    rw (take_all i bytes all, zero-add, drop_of_length-le buffer full) (append-nil bytes)

-- a value for each address is a memory as it stands
pub memory_from_all : (values : List ℕ) → length values ≡ addresses → memory_from values ≡ values
memory_from_all values e = rw e (paste_whole (replicate addresses 0) values addresses (omega arith) (omega arith))

-- bytes put over a buffer one by one: the length, and the whole of it
module _ (buffer block now : List ℕ) (at i : ℕ) (e : now ≡ paste buffer at block i) where
  pub put_length : at + i ≤ length buffer → i ≤ length block → length now ≡ length buffer
  put_length room more = ap length e ∙ length-paste buffer at block i room more

  pub put_whole : i ≡ length block → now ≡ over buffer at block
  put_whole whole = e ∙ ap (paste buffer at block) whole ∙ over_paste buffer block at
