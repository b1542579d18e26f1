use mathlib.Core.Path.{sym}
use native.Mathlib.Omega.{arith}
use lib.Seq.{length-take-le}
use Rattle.vectors.proofs.prefix_line.Goals as goal

pub slice_bounds-hash_line-end : goal.slice_bounds-hash_line-end
slice_bounds-hash_line-end g c = sym (length-take-le c.args.length c.args.message.now (omega arith))
