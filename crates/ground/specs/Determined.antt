-- RULES "What the contracts owe": a contract determines its result. Assumes nothing.
use Rattle.std.specs.Prelude.{◌≡◌, List, ℕ}
use borrow.Fn.Kinds.{ParamKind, ResultKind, Out, Dens, ended_of, res_t}
use contract.Lifetimes.{Lfts}
use denote.Triple.Clauses.{AtExit}

-- Any two results that what a function ensures permits for the same arguments are equal. `post` is what Rattle reads off
-- the function's own contract (`Post` of its `Reads`), `ps` and `r` its signature (`Kinds`).
abbrev pub Determined : (n : ℕ) (ps : List (ParamKind n)) (r : ResultKind n) → Out n ps r → Type 0
Determined n ps r post =
    (κs : Lfts n) (args : Dens κs ps) (x y : (res_t r κs).Denot) (end end' : AtExit (ended_of n ps r) κs)
    → post κs args x end → post κs args y end' → x ≡ y

-- Where the function is lent bytes to write, the bytes that it leaves are determined too: `lent` reads them off the
-- parameters at exit.
abbrev pub DeterminedWith : (n : ℕ) (ps : List (ParamKind n)) (r : ResultKind n)
    → ((κs : Lfts n) → AtExit (ended_of n ps r) κs → List ℕ) → Out n ps r → Type 0
DeterminedWith n ps r lent post =
    (κs : Lfts n) (args : Dens κs ps) (x y : (res_t r κs).Denot) (end end' : AtExit (ended_of n ps r) κs)
    → post κs args x end → post κs args y end' → (x ≡ y) × (lent κs end ≡ lent κs end')
