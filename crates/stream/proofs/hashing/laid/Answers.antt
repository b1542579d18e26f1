use native.Mathlib.Omega.{arith}
use lib.ListN.{length}
use mathlib.Core.Path.{refl}
use Rattle.std.proofs.lemmas.Slice.{put_mid-paste}
use Rattle.stream.proofs.hashing.laid.Goals as goal

pub returns : goal.returns
returns c = put_mid-paste _ _ _ _ c.args.part.now (length c.args.part.now) c.copy_from_slice.ensures.after (omega arith) refl
