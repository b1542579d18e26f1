use Prim.Native.Nat.{◌<◌}
use mathlib.Core.Path.{sym, ◌∙◌}
use native.Mathlib.Nat.{sub-zero}
use native.Mathlib.Omega.{arith}
use Rattle.spv.specs.Hashes.{hashes}
use Rattle.order.proofs.ParentsLaws.{filling-refused, filling_on, filling-end}
use Rattle.order.proofs.parents.fill_parents.Goals as goal

pub loop-i-init : goal.loop-i-init
loop-i-init c = (omega arith, simp sub-zero)

pub returns-in_default : goal.returns-in_default
returns-in_default c =
    sym (filling-refused c.args.s.now (hashes c.args.n c.args.ids.now) c.args.n c.loop-i.i c.loop-i.next.at c.loop-i.matrix (omega arith) (sym c.in_default.ensures))
    ∙ c.loop-i.invariant.1

pub put_parents-requires : goal.put_parents-requires
put_parents-requires c = record { n_bound = c.requires; i_bound = omega arith; keys = c.keys_of-keys.ensures }

pub loop-i-preserved : goal.loop-i-preserved
loop-i-preserved c =
    let low : c.loop-i.i < c.args.n = omega arith in (
      omega arith,
      sym (filling_on c.args.s.now (hashes c.args.n c.args.ids.now) c.args.n c.loop-i.i c.loop-i.next.at c.loop-i.matrix low
          (sym c.in-Ok.ensures) c.put_parents.ensures)
          ∙ c.loop-i.invariant.1,
    )

pub returns : goal.returns
returns c = sym (filling-end c.args.s.now (hashes c.args.n c.args.ids.now) c.args.n c.loop-i.i c.loop-i.next.at c.loop-i.matrix (omega arith)) ∙ c.loop-i.invariant.1
