use mathlib.Core.Path.{◌∙◌, sym, ap}
use Rattle.spv.specs.Depth.{depth_of}
use Rattle.spv.proofs.DepthLaws.{claims_turned, claims_given}
use Rattle.spv.proofs.depth.settle_uneven.Goals as goal

pub returns-then-y-x : goal.returns-then-y-x
returns-then-y-x c = c.settle_deeper.ensures ∙ sym (ap depth_of (claims_turned c.args.a.now c.args.b.now c.args.x.claim c.args.y.claim c.args.x.root c.args.y.root c.args.id c.if-y-x.true))

pub returns : goal.returns
returns c = c.settle_deeper-2.ensures ∙ sym (ap depth_of (claims_given c.args.a.now c.args.b.now c.args.x.claim c.args.y.claim c.args.x.root c.args.y.root c.args.id c.if-y-x.false))
