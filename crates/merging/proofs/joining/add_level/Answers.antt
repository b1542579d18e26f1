use Prim.Native.Nat.{ℕ, ◌+◌}
use lib.ListN.{length}
use Rattle.encoding.proofs.VarintEncoding.{varint-length}
use Rattle.encoding.specs.Digits.{varint_bytes}
use Rattle.merging.proofs.LevelsLaws.{added_size, tally_counts, tally_sizes, tally_clashes, over_test}
use mathlib.Core.Path.{refl, ap, ◌∙◌}
use native.Mathlib.Omega.{arith}
use Rattle.merging.specs.Levels.{Added}
use Rattle.merging.proofs.joining.add_level.Goals as goal
use Rattle.merging.proofs.joining.add_level.Goals.{then-tally, else-tally, then-tally-2, else-tally-2}

pub overflow_add-result : goal.overflow_add-result
overflow_add-result c =
    let n = varint-length c.args.l.count in
    omega (arith, c.requires.0, c.varint_size.ensures, n)

pub overflow_add-result-2 : goal.overflow_add-result-2
overflow_add-result-2 c =
    let n = varint-length c.args.l.count in
    omega (arith, c.requires.0, c.requires.3, c.varint_size.ensures, n)

pub returns : goal.returns
unfolding Added
returns c =
    let n = varint-length c.args.l.count in (
      λ v e. (
        elim c.if-tally.branch [ then-tally w ↦ rw (w.result-is, w.if-tally.true) refl | else-tally w ↦ rw (w.result-is, w.if-tally.false) (over_test _ v (tally_counts c.args.l v e)) ],
        elim c.if-tally-2.branch [ then-tally-2 w ↦ rw (w.result-is, w.if-tally-2.true) refl | else-tally-2 w ↦ rw (w.result-is, w.if-tally-2.false) (tally_clashes c.args.l v e) ],
        (let u = added_size v (c.varint_size.ensures ∙ ap (λ (m : ℕ). length (varint_bytes m)) (tally_counts c.args.l v e)) in let y = tally_sizes c.args.l v e in omega (arith, u, y)),
        ap (λ (m : ℕ). c.args.tally.leaves + m) (tally_counts c.args.l v e),
      ),
      omega (arith, c.varint_size.ensures, n, c.requires.3),
      omega (arith, c.requires.2),
    )
