use Prim.Native.Nat.{◌<◌}
use mathlib.Core.Path.{sym, ◌∙◌}
use native.Mathlib.Omega.{arith}
use native.Mathlib.Nat.{sub-zero}
use borrow.Author.Rules.{rules}
use Rattle.spv.specs.Hashes.{hashes_of}
use Rattle.bundle.proofs.FlatLaws.{finds_some, finds_none}
use Rattle.bundle.proofs.BundleHeadLaws.{parents-refused, parents-missing, parents_on, parents-end}
use Rattle.bundle.proofs.judge.rests_on.Goals as goal

pub loop-init : goal.loop-init
loop-init c = (search rules, simp sub-zero)

pub returns-in_default : goal.returns-in_default
returns-in_default c = sym (sym c.loop.invariant.1 ∙ parents-refused _ _ _ c.loop.counter _ (omega arith) (sym c.in_default.ensures))

pub returns-then-ids-parent : goal.returns-then-ids-parent
returns-then-ids-parent c =
    let low : c.loop.counter < c.args.inputs.count = omega arith in
    sym
    (sym c.loop.invariant.1
    ∙ parents-missing c.args.s.now (hashes_of c.args.ids.now) c.args.inputs.count c.loop.counter c.loop.next.at low
    (sym c.in-Ok.ensures)
    c.hash_at-x.ensures
    (finds_none _ _ _ c.place_among-parent.ensures c.if-ids-parent.true))

pub loop-preserved : goal.loop-preserved
loop-preserved c =
    let low : c.loop.counter < c.args.inputs.count = omega arith in (
      search rules,
      sym
          (parents_on c.args.s.now (hashes_of c.args.ids.now) c.args.inputs.count c.loop.counter c.loop.next.at low
          (sym c.in-Ok.ensures)
          c.hash_at-x.ensures
          (finds_some _ _ _ c.place_among-parent.ensures (omega (arith, c.if-ids-parent.false))))
          ∙ c.loop.invariant.1,
    )

pub returns : goal.returns
returns c = sym (sym c.loop.invariant.1 ∙ parents-end _ _ _ c.loop.counter _ (omega arith))
