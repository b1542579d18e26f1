use Rattle.std.proofs.Common.{◌∙◌, ap}
use Rattle.hash.specs.Sha256.{digest}
use Rattle.lanes.proofs.SideBySide.{lanes-digests}
use Rattle.lanes.proofs.digests.Goals as goal

pub returns : goal.returns
returns c i =
    lanes-digests i c.args.s c.digest_bytes.result c.digest_bytes-2.result c.digest_bytes-3.result c.digest_bytes-4.result c.side_by_side.result
    (c.digest_bytes.ensures ∙ ap digest c.apart.ensures.0) (c.digest_bytes-2.ensures ∙ ap digest c.apart.ensures.1)
    (c.digest_bytes-3.ensures ∙ ap digest c.apart.ensures.2) (c.digest_bytes-4.ensures ∙ ap digest c.apart.ensures.3) c.side_by_side.ensures
