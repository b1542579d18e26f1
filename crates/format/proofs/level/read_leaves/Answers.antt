use borrow.Author.Rules.{rules}
use native.Mathlib.Omega.{arith}
use native.Mathlib.Numerals.{add-one}
use mathlib.Core.Path.{◌≡◌, refl, sym, ◌∙◌}
use mathlib.Core.List.{[], ◌∷◌, ◌++◌}
use Prim.Native.Nat.{◌+◌}
use lib.ListN.{take, set, length-set}
use lib.Seq.{length-take-le, take-suc-set}
use Rattle.format.proofs.ParseLaws.{passed_on, count-start, count-all}
use Rattle.format.specs.Level.{holds}
use Rattle.format.proofs.SeenLaws.{slotted_more, leaves-step, leaves-refused}
use Rattle.format.proofs.level.read_leaves.Goals as goal

pub loop-i-init : goal.loop-i-init
unfolding holds
loop-i-init c = (omega arith, search rules, (search rules, λ x h. refl), count-start _ _ _ _ _ _)

pub slice_bounds-read_leaf-end : goal.slice_bounds-read_leaf-end
slice_bounds-read_leaf-end c = sym (length-take-le _ _ (omega arith))

pub read_leaf-requires : goal.read_leaf-requires
read_leaf-requires c = c.loop-i.invariant.2

pub returns-in_err-offset : goal.returns-in_err-offset
returns-in_err-offset c = passed_on _ _ c.from_residual.ensures.1 ∙ (sym (c.loop-i.invariant.3 ∙ leaves-refused _ _ _ _ _ _ _ _ (omega arith) (sym c.in_err-offset.ensures)))

pub loop-i-preserved : goal.loop-i-preserved
loop-i-preserved c =
    let grown : take (c.loop-i.i + 1) (set c.loop-i.seen c.loop-i.i c.in_ok-offset.offset) ≡ take c.loop-i.i c.loop-i.seen ++ (c.in_ok-offset.offset ∷ []) = rw add-one (take-suc-set c.loop-i.seen c.loop-i.i c.in_ok-offset.offset (omega arith)) in (
      omega arith,
      simp length-set (omega arith),
      rw grown (slotted_more c.loop-i.slots (take c.loop-i.i c.loop-i.seen) c.in_ok-offset.offset c.loop-i.invariant.2),
      c.loop-i.invariant.3 ∙ rw grown (leaves-step _ _ _ _ _ c.loop-i.i _ _ (omega arith) (sym c.in_ok-offset.ensures)),
    )

pub returns : goal.returns
returns c = sym (c.loop-i.invariant.3 ∙ count-all _ _ _ _ _ _ _ (omega arith))
