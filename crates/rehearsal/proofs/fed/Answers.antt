-- `rehearsal::fed` meets its contract: a sample and its pause after the other. Assumes nothing.
use mathlib.Core.Path.{◌∙◌}
use borrow.Author.Rules.{rules}
use lib.ListN.{take}
use Rattle.std.proofs.lemmas.Iterator.{YieldsList-from_slice, YieldsList-from_take}
use Rattle.std.proofs.lemmas.Iterator.Consumers.{fold_from_yields_List}
use Rattle.chip.specs.Chip.{stepped, advanced}
use Rattle.rehearsal.proofs.RehearsalLaws.{fed_by}
use Rattle.rehearsal.proofs.fed.Goals as goal

pub returns : goal.returns
returns c =
    let fed = c.args in
    fold_from_yields_List _ (λ now s. advanced fed.pause (stepped now s).chip) fed.chip _ c.fold.ensures.ran
    (YieldsList-from_take fed.stop (YieldsList-from_slice fed.samples.now cc) cc)
    (λ a x b q k. search rules)
    ∙ fed_by fed.pause (take fed.stop fed.samples.now) fed.chip
