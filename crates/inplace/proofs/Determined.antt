-- Each public contract of this crate determines its result and the chip that it leaves: they are equations, and both results
-- meet them. Assumes nothing.
use mathlib.Core.Path.{◌≡◌, ◌∙◌, sym}
use seplogic.Ra.Ura.{Ura}
use base.Logic.{SProp, ent, id⊢}
use prog.Memory.{Memory}
use prog.Routine.{Routine}
use types.Logic.{Logic}
use contract.Lifetimes.{Lfts}
use contract.Monad.{Fun, conj, fact, fact_i, fact_use}
use denote.Laws.{both_say}
use denote.Triple.Clauses.{AtExit}
use denote.Triple.Entry.{Args}
use Rattle.ground.specs.Determined.{Determined}
use Rattle.answers.specs.declared.Answer.{Answer}
use Rattle.inplace.specs.contracts.step_in_place as step_in_place
use Rattle.inplace.proofs.step_by_lending.Kinds as step_by_lending_kinds
use Rattle.inplace.proofs.step_by_lending.Reads as step_by_lending_reads

-- Of the contract that lends a struct the rule is stated by the contract's own clause, in every model: two ends that it permits
-- for the same arguments say together that the answers returned are equal, and that the chips which then stand there are.
pub step_in_place_determined : {M : Type 1} {𝓤 : Ura M} (𝓛 : Logic 𝓤) (at_mem : Memory → SProp 𝓤)
    (run : Routine → Fun 𝓤) (κs : Lfts 1) (args : Args step_in_place.signature κs) (x y : Answer)
    (end end' : AtExit step_in_place.ended κs)
    → ent 𝓤
    (conj 𝓤 ((step_in_place.clauses 𝓛 at_mem run κs args).ensures tt x end)
    ((step_in_place.clauses 𝓛 at_mem run κs args).ensures tt y end'))
    (fact 𝓤 ((x ≡ y) × (end.0.now ≡ end'.0.now)))
step_in_place_determined {𝓤 = 𝓤} 𝓛 at_mem run κs args x y end end' =
    fact_use 𝓤 _ (both_say 𝓛 _ _ (id⊢ 𝓤 _) (id⊢ 𝓤 _))
    (λ both. fact_i 𝓤 _ _ (both.0.1 ∙ sym both.1.1, both.0.0 ∙ sym both.1.0))

pub step_by_lending_determined : Determined 0 step_by_lending_kinds.ps step_by_lending_kinds.r step_by_lending_reads.Post
step_by_lending_determined κs args x y end end' p q = p ∙ sym q
