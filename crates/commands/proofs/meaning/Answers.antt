-- `commands::meaning` meets its contract above the rates: the number that the match tells is the one that the rule gives the code.
-- Assumes nothing.
use mathlib.Core.Path.{◌∙◌, sym}
use native.Mathlib.Omega.{arith}
use Rattle.commands.proofs.TableLaws.{named_ruled, past_rates}
use Rattle.commands.proofs.meaning.Goals as goal

pub returns-in-224 : goal.returns-in-224
returns-in-224 c = rw c.in-224.is at (named_ruled _ _ _ c.number_of-number.ensures)

pub returns-in-227 : goal.returns-in-227
returns-in-227 c = rw c.in-227.is at (named_ruled _ _ _ c.number_of-number.ensures)

pub returns-in_default-2 : goal.returns-in_default-2
returns-in_default-2 c =
    sym (past_rates c.number_of-number.result (omega arith) (λ e. omega (arith, e)) (λ e. omega (arith, e))) ∙ named_ruled _ _ _ c.number_of-number.ensures
