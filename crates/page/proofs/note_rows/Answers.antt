use mathlib.Core.Path.{◌∙◌}
use Prim.Native.Nat.{◌+◌}
use native.Mathlib.Omega.{arith}
use lib.ListN.{length-set}
use Rattle.page.proofs.FlatLaws.{noted_on, noted-end}
use Rattle.page.proofs.note_rows.Goals as goal

pub loop-row-preserved : goal.loop-row-preserved
loop-row-preserved c =
    let kept = length-set c.args.numbers.now 512 c.args.layers in (
      length-set c.loop-row.numbers (256 + c.loop-row.row) c.from.result ∙ c.loop-row.invariant.0,
      noted_on _ _ _ _ _ _ (omega arith) (omega (arith, c.loop-row.invariant.0, kept, c.told-numbers)) c.from.ensures (omega (arith, c.from.ensures, c.fits-states c.loop-row.row)) c.loop-row.invariant.1,
    )

pub returns : goal.returns
returns c = noted-end _ c.args.numbers.now _ c.args.layers c.args.count _ (omega (arith, c.told-numbers)) (omega arith) c.loop-row.invariant.1
