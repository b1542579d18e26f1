use Rattle.order.proofs.ParentsLaws.{put_made}
use Rattle.order.proofs.parents.put_parent.Goals as goal

pub returns : goal.returns
returns c = put_made c.args.matrix.now c.args.i c.args.j c.with_bit.ensures
