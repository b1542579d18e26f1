use Rattle.std.proofs.Common.{◌*◌, sym, arith}
use Rattle.format.proofs.BytesLaws.{hash-none}
use Rattle.climbs.proofs.row.root_at.Goals as goal

pub returns : goal.returns
returns c = sym (hash-none c.args.hashes.now (32 * c.args.row) (omega arith))
