use native.Mathlib.Omega.{arith}
use mathlib.Core.Path.{ap, ◌∙◌}
use Rattle.std.proofs.lemmas.Result.{err_from_is_err_and}
use Rattle.block.specs.Heap.{climb_of}
use Rattle.block.proofs.ClimbsLaws.{climbs-start, climbs-stop, climbs_on, climbs-end}
use Rattle.block.proofs.tree.climb_chosen.Goals as goal

pub loop-i-init : goal.loop-i-init
loop-i-init c = (omega arith, λ ch g m. climbs-start _ _ _)

pub climb_if_chosen-requires : goal.climb_if_chosen-requires
climb_if_chosen-requires c = (c.requires.0, c.requires.1, c.requires.2, omega arith, omega arith)

pub returns-in_err-climb_if_chosen : goal.returns-in_err-climb_if_chosen
returns-in_err-climb_if_chosen c =
    λ ch g m.
    let p = err_from_is_err_and c.from_residual.result c.from_residual.ensures.1 in
    rw (p.1, p.2) (climbs-stop _ _ _ _ (omega arith) _ (c.in_err-climb_if_chosen.ensures ch g m) ∙ ap climb_of (c.loop-i.invariant.1 ch g m))

pub loop-i-preserved : goal.loop-i-preserved
loop-i-preserved c = (omega arith, λ ch g m. climbs_on _ _ _ _ (omega arith) (c.in_ok-climb_if_chosen.ensures ch g m) ∙ c.loop-i.invariant.1 ch g m)

pub returns : goal.returns
returns c = λ ch g m. climbs-end _ _ _ _ (omega arith) ∙ ap climb_of (c.loop-i.invariant.1 ch g m)
