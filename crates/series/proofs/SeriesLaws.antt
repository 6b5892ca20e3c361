-- The refresh is taken by the chip, makes the memory new, and no writes that do are cheaper. Assumes nothing.
use mathlib.Core.Path.{◌≡◌, ◌∙◌, refl, sym, ap}
use mathlib.Core.List.{List, [], ◌∷◌, map, append-nil}
use Prim.Native.Nat.{ℕ, ◌+◌, ◌*◌, ◌≤◌}
use native.Mathlib.Omega.{arith}
use native.Mathlib.Nat.{zero-add, le_of_eq}
use lib.ListN.{length, drop, length-append, length-drop, drop_of_length-le}
use lib.Seq.{length-take-le, take-length}
use Rattle.streams.specs.Streams.{write_stream}
use Rattle.streams.proofs.StreamsLaws.{write_length}
use Rattle.series.specs.Series.{Write, AllFit, series, drawn}
use Rattle.series.specs.Runs.{Span, spans, write_of, runs, span_of, places}
use Rattle.series.specs.Order.{NotAfter}
use Rattle.series.specs.Best.{Renews, Best}
use Rattle.series.proofs.Covers.{cover, spans_cost, Same, same_length}
use Rattle.series.proofs.Pastes.{untouched, renewed}
use Rattle.series.proofs.Spans.{Within, AllWithin, within, covered}
use Rattle.series.proofs.Shortest.{at_least, spans_least}
use Rattle.series.proofs.OrderLaws.{not_after_both, flat_one}
use Rattle.series.proofs.Faithful.{faithful}
use Rattle.series.proofs.Foremost.{AllSome, foremost}

-- ---- writes and their spans

nibbles_of_lem : (new : List ℕ) (s : Span) → Within (length new) s → length (write_of new s).nibbles ≡ s.count
nibbles_of_lem new s h = length-take-le s.count (drop s.first new) (rw length-drop (omega arith))

fit_of : (new : List ℕ) (ss : List Span) → AllWithin (length new) ss → AllFit (length new) (map (write_of new) ss)
fit_of new [] h = tt
fit_of new (s ∷ ss) h =
    let l = nibbles_of_lem new s h.0 in
    (record { some = omega (arith, h.0.some); inside = omega (arith, h.0.inside) }, fit_of new ss h.1)

spans_of : (new : List ℕ) (ss : List Span) → AllWithin (length new) ss → map span_of (map (write_of new) ss) ≡ ss
spans_of new [] h = refl
spans_of new (s ∷ ss) h = rw (nibbles_of_lem new s h.0, spans_of new ss h.1)

-- a series has 21 samples for each write, and 8 for each nibble
pub series_length : (ws : List Write) → length (series ws) ≡ spans_cost (map span_of ws)
series_length [] = refl
series_length (w ∷ ws) =
    omega (arith, length-append (write_stream w.first w.nibbles) (series ws), write_length w.first w.nibbles, series_length ws)

some_of : (n : ℕ) (ws : List Write) → AllFit n ws → AllSome (map span_of ws)
some_of n [] fit = tt
some_of n (w ∷ ws) fit = (fit.0.some, some_of n ws fit.1)

pub runs_length : (old new : List ℕ) → length (series (runs old new)) ≡ spans_cost (spans old new)
runs_length old new = series_length (runs old new) ∙ ap spans_cost (spans_of new (spans old new) (within old new))

-- ---- the theorems, for a memory of any size

-- The chip takes every write of a refresh.
pub taken : (old new : List ℕ) → AllFit (length new) (runs old new)
taken old new = fit_of new (spans old new) (within old new)

-- A refresh makes the memory new.
pub right : (old new : List ℕ) → length old ≡ length new → drawn (runs old new) old ≡ new
right old new e = renewed (length new) (spans old new) (covered old new e)

pub renews : (old new : List ℕ) → length old ≡ length new → Renews old new (runs old new)
renews old new e = record { fit = rw e (taken old new); done = right old new e }

module _ (old new : List ℕ) (ws : List Write) (r : Renews old new ws) where
  outside_same : Same (cover (length old) (map span_of ws)) old new
  outside_same = rw r.done at (untouched (length old) ws old refl r.fit)

  -- No writes that make the memory new cost less.
  pub shortest : length (series (runs old new)) ≤ length (series ws)
  shortest = omega (arith, spans_least (length old) (map span_of ws) outside_same, runs_length old new, series_length ws)

  -- Of those that cost the same, the refresh comes first.
  pub first_of_equals : length (series ws) ≡ length (series (runs old new)) → NotAfter (places (runs old new)) (places ws)
  first_of_equals same =
      rw (spans_of new (spans old new) (within old new))
      (foremost (map span_of ws) old new (some_of (length old) ws r.fit) (rw (same_length outside_same) at outside_same)
      (sym (series_length ws) ∙ same ∙ runs_length old new))

-- A refresh is the best of all.
pub best : (old new : List ℕ) → length old ≡ length new → Best old new (runs old new)
best old new e = record { renews = renews old new e; shortest = shortest old new; foremost = first_of_equals old new }

-- And nothing else is.
pub only_best : (old new : List ℕ) (ws : List Write) → Best old new ws → ws ≡ runs old new
only_best old new ws b =
    let s = outside_same old new ws b.renews in
    let r = renews old new (same_length s) in
    let low = b.shortest (runs old new) r in
    let high = shortest old new ws b.renews in
    let same : length (series ws) ≡ length (series (runs old new)) = omega arith in
    let lists : places ws ≡ places (runs old new) =
    not_after_both (b.foremost (runs old new) r (sym same)) (first_of_equals old new ws b.renews same) in
    let spread : map span_of ws ≡ spans old new =
    flat_one (map span_of ws) (map span_of (runs old new)) lists ∙ spans_of new (spans old new) (within old new) in
    sym (faithful (length old) ws old new refl b.renews.fit b.renews.done
    (omega (arith, (at_least s).alone, runs_length old new, series_length ws)))
    ∙ ap (map (write_of new)) spread

-- One write of everything makes the memory new, so that a refresh costs no more than it.
pub at_most : (old new : List ℕ) → length old ≡ length new → 1 ≤ length new → length (series (runs old new)) ≤ 21 + 8 * length new
at_most old new e some =
    let all : List Write = record { first = 0; nibbles = new } ∷ [] in
    let done : drawn all old ≡ new =
    rw (zero-add, take-length new, drop_of_length-le old (le_of_eq e)) (append-nil new) in
    let h = shortest old new all (record { fit = (record { some = some; inside = omega arith }, tt); done = done }) in
    omega (arith, series_length all)

-- ---- for the chip's memory of 32 nibbles

pub best_32 : (old new : List ℕ) → length old ≡ 32 → length new ≡ 32 → Best old new (runs old new)
best_32 old new e f = best old new (e ∙ sym f)

pub at_most_277 : (old new : List ℕ) → length old ≡ 32 → length new ≡ 32 → length (series (runs old new)) ≤ 277
at_most_277 old new e f = let h = at_most old new (e ∙ sym f) (omega arith) in omega arith
