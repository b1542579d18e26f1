use Prim.Native.Nat.{ℕ, ◌<◌}
use mathlib.Core.Path.{◌≡◌, sym, ◌∙◌}
use native.Mathlib.Nat.{sub-zero}
use native.Mathlib.Omega.{arith}
use Rattle.order.proofs.IdsLaws.{found-below}
use Rattle.spv.specs.Hashes.{hashes, index_of}
use Rattle.order.specs.Parents.{put_parent}
use mathlib.Core.List.{List}
use Rattle.order.proofs.parents.put_parents.Goals.{in-Some, in_default-find}
use Rattle.order.proofs.ParentsLaws.{put_found, put-none, putting_refused, putting_on, putting_end}
use Rattle.order.proofs.parents.put_parents.Goals as goal

pub loop-init : goal.loop-init
loop-init c = (omega arith, simp sub-zero)

pub returns-in_default : goal.returns-in_default
returns-in_default c =
    sym (putting_refused c.args.s.now c.args.ids.now c.args.n c.args.i c.args.inputs.count c.loop.counter c.loop.next.at c.loop.matrix (omega arith) (sym c.in_default.ensures))
    ∙ c.loop.invariant.1

pub find-requires : goal.find-requires
find-requires c = record { n_bound = c.requires.n_bound; keys = c.requires.keys }

pub put_parent-requires : goal.put_parent-requires
put_parent-requires c = let b = found-below _ _ c.in-Some.ensures in (c.requires.i_bound, omega arith)

pub loop-preserved : goal.loop-preserved
loop-preserved c =
    let low : c.loop.counter < c.args.inputs.count = omega arith in
    let on = λ (m : List ℕ) (e : m ≡ put_parent c.args.n c.loop.matrix c.args.i (index_of c.hash_at.result (hashes c.args.n c.args.ids.now))).
    sym (putting_on c.args.s.now c.args.ids.now c.args.n c.args.i c.args.inputs.count c.loop.counter c.loop.next.at c.loop.matrix low (sym c.in-Ok.ensures) c.hash_at.ensures e) ∙ c.loop.invariant.1 in
    elim c.match-find.branch [
      | in-Some w ↦
          (omega arith, on c.match-find.matrix (w.matrix-is ∙ w.put_parent.ensures ∙ put_found _ _ _ _ w.in-Some.ensures))
      | in_default-find w ↦
          (omega arith, on c.match-find.matrix (w.matrix-is ∙ put-none _ _ _ _ w.in_default-find.ensures))
    ]

pub returns : goal.returns
returns c = sym (putting_end c.args.s.now c.args.ids.now c.args.n c.args.i c.args.inputs.count c.loop.counter c.loop.next.at c.loop.matrix (omega arith)) ∙ c.loop.invariant.1
