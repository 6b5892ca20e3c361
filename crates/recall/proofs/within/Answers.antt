-- `recall::within` meets its contract: the pairs of a byte and its maximum pass the test. Assumes nothing.
use mathlib.Core.Path.{◌∙◌}
use lib.Dec.{leb}
use borrow.Author.Rules.{rules}
use borrow.Author.Tests.{tests}
use Rattle.std.proofs.lemmas.Iterator.{YieldsList-from_slice, YieldsList-from_zip}
use Rattle.std.proofs.lemmas.Iterator.Search.{all_from_yields_List}
use Rattle.ground.proofs.RangesLaws.{up_to_all}
use Rattle.recall.proofs.within.Goals as goal

pub returns : goal.returns
returns c =
    all_from_yields_List (λ pair. leb pair.0 pair.1) c.all.new.self _ _ c.all.ensures.ran
    (YieldsList-from_zip (YieldsList-from_slice c.args.bytes.now cc) (YieldsList-from_slice c.args.most.now cc))
    (λ x b q k. search (rules, tests))
    ∙ up_to_all c.args.bytes.now c.args.most.now
