-- Sets of addresses as lists of Bools, and what the cheapest writes of a set cost. Assumes nothing.
use mathlib.Core.Path.{◌≡◌, ◌∙◌, refl, ap}
use mathlib.Core.Bool.{Bool, true, false}
use mathlib.Core.List.{List, [], ◌∷◌}
use Prim.Native.Nat.{ℕ, zero, suc, ◌+◌, ◌*◌, ◌≤◌}
use native.Mathlib.Omega.{arith}
use lib.ListN.{length, replicate}
use Rattle.series.specs.Runs.{Span}

-- ---- sets of addresses

-- the set with its first k addresses put in
abbrev pub front : ℕ → List Bool → List Bool
front zero c = c
front (suc k) [] = []
front (suc k) (b ∷ c) = true ∷ front k c

-- the set with the k addresses from i on put in
abbrev pub mark : ℕ → ℕ → List Bool → List Bool
mark zero k c = front k c
mark (suc i) k [] = []
mark (suc i) k (b ∷ c) = b ∷ mark i k c

-- the addresses of some spans, of n
abbrev pub cover : ℕ → List Span → List Bool
cover n [] = replicate n false
cover n (s ∷ ss) = mark s.first s.count (cover n ss)

-- ---- the price of a set: 8 for each address, and 21 for each that is the last of its run

abbrev pub last : List Bool → ℕ
last [] = 21
last (false ∷ c) = 21
last (true ∷ c) = 0

abbrev pub price : List Bool → ℕ
price [] = 0
price (false ∷ c) = price c
price (true ∷ c) = 8 + last c + price c

abbrev pub spans_cost : List Span → ℕ
spans_cost [] = 0
spans_cost (s ∷ ss) = 21 + 8 * s.count + spans_cost ss

last_most : (c : List Bool) → last c ≤ 21
last_most [] = omega arith
last_most (false ∷ c) = omega arith
last_most (true ∷ c) = omega arith

pub price_tail : (b : Bool) (c : List Bool) → price c ≤ price (b ∷ c)
price_tail false c = omega arith
price_tail true c = omega arith

-- a span in front of a set that starts where the span ends costs no 21; any other costs at most that
pub price_front : (k : ℕ) (c : List Bool) → last (front k c) + price (front k c) ≤ 21 + 8 * k + price c
price_front zero c = let h = last_most c in omega arith
price_front (suc k) [] = omega arith
price_front (suc k) (b ∷ c) = let h = price_front k c in let t = price_tail b c in omega arith

pub last_mark : (i k : ℕ) (c : List Bool) → last (mark i k c) ≤ last c
last_mark zero zero c = omega arith
last_mark zero (suc k) [] = omega arith
last_mark zero (suc k) (b ∷ c) = omega arith
last_mark (suc i) k [] = omega arith
last_mark (suc i) k (false ∷ c) = omega arith
last_mark (suc i) k (true ∷ c) = omega arith

pub price_mark : (i k : ℕ) (c : List Bool) → price (mark i k c) ≤ 21 + 8 * k + price c
price_mark zero k c = let h = price_front k c in omega arith
price_mark (suc i) k [] = omega arith
price_mark (suc i) k (false ∷ c) = price_mark i k c
price_mark (suc i) k (true ∷ c) = let h = price_mark i k c in let l = last_mark i k c in omega arith

price_none : (n : ℕ) → price (replicate n false) ≡ 0
price_none zero = refl
price_none (suc n) = price_none n

-- no spans of a set are cheaper than its price
pub price_cover : (n : ℕ) (ss : List Span) → price (cover n ss) ≤ spans_cost ss
price_cover n [] = let h = price_none n in omega arith
price_cover n (s ∷ ss) =
    let h = price_cover n ss in
    let m = price_mark s.first s.count (cover n ss) in
    omega arith

-- ---- two memories that are the same outside a set

pub data Same : List Bool → List ℕ → List ℕ → Type 0 where
  none : Same [] [] []
  inside : {c : List Bool} {x y : ℕ} {xs ys : List ℕ} → Same c xs ys → Same (true ∷ c) (x ∷ xs) (y ∷ ys)
  outside : {c : List Bool} {x y : ℕ} {xs ys : List ℕ} → x ≡ y → Same c xs ys → Same (false ∷ c) (x ∷ xs) (y ∷ ys)

-- one more address, the same in both
pub same_more : (b : Bool) {c : List Bool} {x y : ℕ} {xs ys : List ℕ} → x ≡ y → Same c xs ys → Same (b ∷ c) (x ∷ xs) (y ∷ ys)
same_more true e s = inside s
same_more false e s = outside e s

pub same_front : (k : ℕ) {c : List Bool} {xs ys : List ℕ} → Same c xs ys → Same (front k c) xs ys
same_front zero s = s
same_front (suc k) none = none
same_front (suc k) (inside s) = inside (same_front k s)
same_front (suc k) (outside e s) = inside (same_front k s)

pub same_all : (xs : List ℕ) → Same (replicate (length xs) false) xs xs
same_all [] = none
same_all (x ∷ xs) = outside refl (same_all xs)

pub same_length : {c : List Bool} {xs ys : List ℕ} → Same c xs ys → length xs ≡ length ys
same_length none = refl
same_length (inside s) = ap suc (same_length s)
same_length (outside e s) = ap suc (same_length s)

pub same_size : {c : List Bool} {xs ys : List ℕ} → Same c xs ys → length c ≡ length ys
same_size none = refl
same_size (inside s) = ap suc (same_size s)
same_size (outside e s) = ap suc (same_size s)

pub same_none : (n : ℕ) (xs ys : List ℕ) → Same (replicate n false) xs ys → xs ≡ ys
same_none zero [] [] none = refl
same_none zero [] (y ∷ ys) s = elim s [ ]
same_none zero (x ∷ xs) ys s = elim s [ ]
same_none (suc n) [] ys s = elim s [ ]
same_none (suc n) (x ∷ xs) [] s = elim s [ ]
same_none (suc n) (x ∷ xs) (y ∷ ys) (outside e s) = ap (λ (z : ℕ). z ∷ xs) e ∙ ap (λ (zs : List ℕ). y ∷ zs) (same_none n xs ys s)
