use mathlib.Core.Path.{ap, ap₂, sym, ◌∙◌}
use native.Mathlib.Omega.{arith}
use Rattle.spv.specs.Climb.{Sibling}
use Rattle.spv.specs.Siblings.{written_by, find_at}
use Rattle.spv.proofs.SiblingsLaws.{value_found, value-missing}
use Rattle.spv.specs.Values.{has_value, join_both, value_of}
use Rattle.spv.proofs.ValuesLaws.{join-zero, join-none, join-two}
use Rattle.spv.proofs.PositionFitsLaws.{low-left, low_right, low_fits}
use Rattle.spv.specs.Shapes.{sibling_of}
use Prim.Native.Nat.{◌+◌, ◌-◌, ◌*◌}
use Rattle.spv.proofs.values.+join_of_value_of.Goals as goal

pub join_of-returns-then-layer-eq0 : goal.join_of-returns-then-layer-eq0
join_of-returns-then-layer-eq0 t c = sym (join-zero (written_by c.args.s.now (find_at c.args.layout c.args.s.now c.args.places.now)) c.args.layer c.args.position c.if-layer-eq0.true)

pub join_of-overflow_mul-position : goal.join_of-overflow_mul-position
join_of-overflow_mul-position t c = omega (arith, low_fits (c.args.layer - 1) (2 * c.args.position + 1) (low_right c.args.layer c.args.position c.if-layer-eq0.false c.requires.1 c.requires.2))

pub join_of-value_of-l-requires : goal.join_of-value_of-l-requires
join_of-value_of-l-requires t c = (omega (arith, c.if-layer-eq0.false), (c.requires.0, omega (arith, c.requires.1, c.if-layer-eq0.false), low-left c.args.layer c.args.position c.if-layer-eq0.false c.requires.1 c.requires.2))

pub join_of-returns-then-not-has_value : goal.join_of-returns-then-not-has_value
join_of-returns-then-not-has_value t c =
    let w = written_by c.args.s.now (find_at c.args.layout c.args.s.now c.args.places.now) in
    sym (join-none w c.args.layer c.args.position c.if-layer-eq0.false (ap has_value (sym c.value_of-l.ensures) ∙ sym c.has_value.ensures ∙ c.if-not-has_value.true))

pub join_of-overflow_mul-position-2 : goal.join_of-overflow_mul-position-2
join_of-overflow_mul-position-2 t c = omega (arith, low_fits (c.args.layer - 1) (2 * c.args.position + 1) (low_right c.args.layer c.args.position c.if-layer-eq0.false c.requires.1 c.requires.2))

pub join_of-overflow_add-position : goal.join_of-overflow_add-position
join_of-overflow_add-position t c = omega (arith, low_fits (c.args.layer - 1) (2 * c.args.position + 1) (low_right c.args.layer c.args.position c.if-layer-eq0.false c.requires.1 c.requires.2))

pub join_of-value_of-r-requires : goal.join_of-value_of-r-requires
join_of-value_of-r-requires t c = (omega (arith, c.if-layer-eq0.false), (c.requires.0, omega (arith, c.requires.1, c.if-layer-eq0.false), low_right c.args.layer c.args.position c.if-layer-eq0.false c.requires.1 c.requires.2))

pub join_of-returns : goal.join_of-returns
join_of-returns t c =
    let w = written_by c.args.s.now (find_at c.args.layout c.args.s.now c.args.places.now) in
    c.join_both.ensures
    ∙ ap₂ join_both c.value_of-l.ensures (c.value_of-r.ensures ∙ ap (λ (x : Sibling). value_of w x (c.args.layer - 1) (2 * c.args.position + 1)) c.value_of-l.ensures)
    ∙ sym (join-two w c.args.layer c.args.position c.if-layer-eq0.false)

pub value_of-returns-in-Some : goal.value_of-returns-in-Some
value_of-returns-in-Some t c =
    c.value_here.ensures
    ∙ sym (value_found c.args.s.now (find_at c.args.layout c.args.s.now c.args.places.now) (sibling_of c.args.copy) c.args.layer c.args.position _ (sym c.in-Some.ensures))

pub value_of-returns-in-None : goal.value_of-returns-in-None
value_of-returns-in-None t c =
    c.join_of.ensures
    ∙ sym (value-missing c.args.s.now (find_at c.args.layout c.args.s.now c.args.places.now) (sibling_of c.args.copy) c.args.layer c.args.position (sym c.in-None.ensures))
