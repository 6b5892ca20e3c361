-- `power::power_on` meets its contract: each refusal is the first that applies. Assumes nothing.
use Rattle.std.specs.Prelude.{ltb, Some, None}
use mathlib.Core.Path.{◌∙◌, sym}
use borrow.Author.Tests.{eq-eqb, ne_eqb}
use Rattle.ground.specs.declared.Part.TheVariants.{Ht}
use Rattle.ground.proofs.OutcomesLaws.{absent}
use Rattle.ground.proofs.PartsLaws.{part_none, part_found}
use Rattle.ground.proofs.PlacesLaws.{position_found}
use Rattle.ground.proofs.WrittenLaws.{memory_from_all}
use Rattle.power.specs.PowerOn.{powered_on}
use Rattle.power.proofs.power_on.Goals as goal

pub returns-in_err-part : goal.returns-in_err-part
unfolding powered_on
returns-in_err-part c =
    rw (absent _ c.from_residual.ensures.1 c.in_err-part.ensures.value c.in_err-part.ensures.ok_part)
    (simp (part_none _ (sym c.part_of.ensures ∙ c.in_err-part.ensures.ok_part)))

pub returns-then-miscounted : goal.returns-then-miscounted
unfolding powered_on
returns-then-miscounted c =
    let part = part_found _ _ Ht (sym c.part_of.ensures ∙ c.in_ok-part.ensures.ok_part) in
    simp (part.0, ne_eqb _ _ c.if-miscounted.true)

pub returns-in-Some : goal.returns-in-Some
unfolding powered_on
returns-in-Some c =
    let part = part_found _ _ Ht (sym c.part_of.ensures ∙ c.in_ok-part.ensures.ok_part) in
    let found = position_found (ltb 15) c.args.memory.now (Some c.in-Some.place) c.in-Some.ensures in
    simp (part.0, eq-eqb _ _ c.if-miscounted.false, found.0) (simp found.1)

pub returns : goal.returns
unfolding powered_on
returns c =
    let part = part_found _ _ Ht (sym c.part_of.ensures ∙ c.in_ok-part.ensures.ok_part) in
    let none = position_found (ltb 15) c.args.memory.now None (sym c.in_default.is ∙ c.first_above.ensures) in
    simp (
      part.0,
      part.1,
      c.fresh.ensures,
      c.memory_from.ensures,
      memory_from_all c.args.memory.now c.if-miscounted.false,
      eq-eqb _ _ c.if-miscounted.false,
      none,
    )
