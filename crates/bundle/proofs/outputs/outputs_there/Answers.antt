use mathlib.Core.Path.{sym, ◌∙◌}
use native.Mathlib.Omega.{arith}
use native.Mathlib.Nat.{sub-zero}
use Rattle.bundle.proofs.ExistLaws.{exist-refused, exist-end, exist-missing, exist_on}
use Rattle.bundle.proofs.outputs.outputs_there.Goals as goal

pub loop-init : goal.loop-init
loop-init c = (omega arith, λ d. simp sub-zero)

pub returns-in_default : goal.returns-in_default
returns-in_default c d = sym (sym (c.loop.invariant.1 d) ∙ exist-refused _ _ _ _ _ _ (omega arith) (sym c.in_default.ensures))

pub returns-then-there-v : goal.returns-then-there-v
returns-then-there-v c d =
    sym (sym (c.loop.invariant.1 d) ∙ exist-missing _ _ _ _ _ _ d (omega arith) (sym c.in-Ok.ensures)
    c.hash_at-x.ensures c.place_among-parent.ensures c.four_at-v.ensures c.outputs_at-there.ensures c.if-there-v.true)

pub loop-preserved : goal.loop-preserved
loop-preserved c = (
  omega arith,
  λ d. sym (exist_on _ _ _ _ _ _ d (omega arith) (sym c.in-Ok.ensures)
      c.hash_at-x.ensures c.place_among-parent.ensures c.four_at-v.ensures c.outputs_at-there.ensures c.if-there-v.false) ∙ c.loop.invariant.1 d,
)

pub returns : goal.returns
returns c d = sym (sym (c.loop.invariant.1 d) ∙ exist-end _ _ _ _ _ _ (omega arith))
