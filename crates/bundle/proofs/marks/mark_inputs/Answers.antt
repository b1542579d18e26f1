use mathlib.Core.Path.{refl, ◌∙◌, sym}
use native.Mathlib.Omega.{arith}
use Rattle.bundle.proofs.FlatLaws.{marking_start, marking_end, marking_stops, marking_on}
use Rattle.bundle.proofs.marks.mark_inputs.Goals as goal

pub loop-init : goal.loop-init
loop-init c = (refl, λ d. marking_start _ _ _ _ _ _ _ _)

pub returns-in_default : goal.returns-in_default
returns-in_default c = λ d. marking_stops _ _ _ _ _ _ _ _ (c.loop.invariant.1 d) (sym c.in_default.ensures)

pub loop-preserved : goal.loop-preserved
loop-preserved c = (
  c.mark_one-marked.auto.marks ∙ c.loop.invariant.0,
  λ d. marking_on _ _ _ _ _ _ _ _ (c.loop.invariant.1 d) d (omega arith)
      (sym c.in-Ok.ensures)
      c.hash_at-x.ensures c.place_among-parent.ensures c.four_at-v.ensures c.through_bundle.ensures c.mark_one-marked.ensures c.mark_one-marked.auto.marks refl,
)

pub returns : goal.returns
returns c = λ d. marking_end _ _ _ _ _ _ _ _ (c.loop.invariant.1 d) (omega arith)
