use Rattle.std.proofs.Common.{Bool, inl, inr, refl, ap, ◌∙◌}
use Rattle.climbs.specs.Spent.{joined_cost}
use Rattle.climbs.proofs.PassLaws.{made_of, made_nothing}
use Rattle.climbs.proofs.pass.join_known.Goals as goal

pub returns-in_default : goal.returns-in_default
returns-in_default c = made_nothing _ _ _ refl (inr c.in_default.is-1)

pub returns-in_default-2 : goal.returns-in_default-2
returns-in_default-2 c = made_nothing _ _ _ refl (inl c.in_default.is-0)

pub returns : goal.returns
returns c = made_of _ _ _ _ _ c.in-Some-Some.is-0 c.in-Some-Some.is-1 c.join_children-node.ensures (c.join_cost.ensures ∙ ap (λ (t : Bool). joined_cost t c.in-Some-Some.l.joins c.in-Some-Some.r.joins) c.has_value.ensures)
