use Rattle.std.proofs.Common.{refl}
use Rattle.difference.proofs.MergeLaws.{told-there, merge-stop, merge_on, merge-end}
use Rattle.levels.proofs.FrontsLaws.{least, front-told, past-told}
use native.Mathlib.Omega.{arith}
use mathlib.Core.Path.{sym, ◌∙◌}
use Rattle.difference.proofs.listing.tell_level.Goals as goal

pub shape_of-out-in_default : goal.shape_of-out-in_default
shape_of-out-in_default c = c.loop.invariant.2

pub returns-in_default : goal.returns-in_default
returns-in_default c =
    let next = least _ _ c.next_offset.ensures c.next_offset-in-loop.ensures c.in_default.ensures refl in
    sym (c.loop.invariant.0 ∙ merge-stop _ _ _ _ _ _ _ (omega arith) next)

pub loop-preserved : goal.loop-preserved
loop-preserved c =
    let next = least _ _ c.next_offset.ensures c.next_offset-in-loop.ensures c.in-Some.ensures refl in
    let what = told-there _ _ _ (front-told _ _ _ _ c.front.ensures) (front-told _ _ _ _ c.front-in-loop.ensures) c.told-what.ensures in
    (c.loop.invariant.0 ∙ merge_on _ _ _ _ _ _ _ (omega arith) next what c.put_place-at.ensures (past-told _ _ _ _ c.past-i.ensures) (past-told _ _ _ _ c.past-j.ensures), omega arith, c.put_place-at.auto.out ∙ c.loop.invariant.2)

pub shape_of-out : goal.shape_of-out
shape_of-out c = c.loop.invariant.2

pub returns : goal.returns
returns c = sym (c.loop.invariant.0 ∙ merge-end _ _ _ _ _ _ _ (omega arith))
