use Rattle.std.proofs.Common.{◌≡◌, ◌||◌, refl}
use mathlib.Core.Path.{ap₂, ap, ◌∙◌}
use Rattle.levels.proofs.FrontsLaws.{least, front-told, past-told}
use Rattle.levels.specs.Fronts.{standing_of}
use Rattle.levels.specs.Standing.{Standing}
use Rattle.merging.proofs.ChoiceLaws.{left-standing}
use Rattle.merging.specs.Merging.{is_clash}
use Rattle.merging.specs.Walk.{kept_by, kept_at}
use Rattle.merging.proofs.TallyLaws.{spots-end, spots-stop, spots_on, none_clashes, tally_start, tally_on, tally_end}
use native.Mathlib.Omega.{arith}
use Rattle.merging.proofs.uniting.tally_level.Goals as goal
use Rattle.merging.proofs.uniting.tally_level.Goals.{then-tally, else-tally}

pub loop-init : goal.loop-init
unfolding standing_of
loop-init c = (tally_start _, omega arith, omega arith, omega arith)

pub returns-in_default : goal.returns-in_default
returns-in_default c =
    let next = least _ _ c.next_offset.ensures c.next_offset-in-loop.ensures c.in_default.ensures refl in (
      tally_end _ _ _ c.loop.invariant.0 (spots-stop _ _ _ _ _ _ _ (omega arith) next),
      omega (arith, c.loop.invariant.1, c.loop.invariant.2),
      omega (arith, c.loop.invariant.1, c.loop.invariant.3),
    )

pub overflow_add-tally : goal.overflow_add-tally
overflow_add-tally c = omega (arith, c.loop.invariant.2)

pub overflow_add-tally-in-loop : goal.overflow_add-tally-in-loop
overflow_add-tally-in-loop c = omega (arith, c.loop.invariant.3, c.kept_size.ensures.1)

pub loop-preserved : goal.loop-preserved
loop-preserved c =
    let kept = c.choose-choice.ensures ∙ ap₂ (λ (p q : Standing). kept_at p q (standing_of c.args.s.now c.front-v.result) (standing_of c.args.t.now c.front-w.result)) (ap (standing_of c.args.s.now) c.left_spot-l.ensures ∙ left-standing c.args.s.now c.loop.last _ c.loop.first) (ap (standing_of c.args.t.now) c.left_spot-m.ensures ∙ left-standing c.args.t.now c.loop.last _ c.loop.second) in
    let next = least _ _ c.next_offset.ensures c.next_offset-in-loop.ensures c.in-Some.ensures refl in
    let on = spots_on 2048 c.loop.counter _ _ _ _ _ (omega arith) next (front-told _ _ _ _ c.front-v.ensures) (front-told _ _ _ _ c.front-w.ensures) kept (past-told _ _ _ _ c.past-i.ensures) (past-told _ _ _ _ c.past-j.ensures) in
    let clash : c.if-tally.tally ≡ (c.loop.tally.clash || is_clash (kept_by c.args.s.now c.args.t.now c.choose-choice.result)) =
    elim c.if-tally.branch [ then-tally w ↦ rw (w.tally-is, w.if-tally.true) refl | else-tally w ↦ rw (w.tally-is, w.if-tally.false) (none_clashes c.args.s.now c.args.t.now c.choose-choice.result _ w.is_none.ensures) ] in (
      tally_on _ _ _ _ _ _ c.loop.invariant.0 on (c.kept_size.ensures.0 c.args.s.now c.args.t.now) clash,
      omega arith,
      omega (arith, c.loop.invariant.2),
      omega (arith, c.loop.invariant.3, c.kept_size.ensures.1),
    )

pub returns : goal.returns
returns c = (tally_end _ _ _ c.loop.invariant.0 (spots-end _ _ _ _ _ _ _ (omega arith)), omega (arith, c.loop.invariant.1, c.loop.invariant.2), omega (arith, c.loop.invariant.1, c.loop.invariant.3))
