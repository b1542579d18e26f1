use mathlib.Core.Path.{◌∙◌, sym, ap}
use Rattle.spv.specs.Depth.{depth_of}
use Rattle.spv.proofs.DepthLaws.{claims_shallow, claims_other, claims_lowest}
use Rattle.spv.proofs.depth.settle_deeper.Goals as goal

pub returns-then-not-is_deeper : goal.returns-then-not-is_deeper
returns-then-not-is_deeper c = rw c.reject_for.ensures (sym (ap depth_of (claims_shallow c.args.a.now c.args.b.now c.args.x.claim c.args.y.claim c.args.x.root c.args.y.root c.args.id (sym c.is_deeper.ensures ∙ c.if-not-is_deeper.true))))

pub returns-then-not-same_bytes : goal.returns-then-not-same_bytes
returns-then-not-same_bytes c = rw c.reject_for-then-not-same_bytes.ensures (sym (ap depth_of (claims_other c.args.a.now c.args.b.now c.args.x.claim c.args.y.claim c.args.x.root c.args.y.root c.args.id (sym c.same_bytes.ensures ∙ c.if-not-same_bytes.true))))

pub returns : goal.returns
returns c = c.meet_deeper.ensures ∙ claims_lowest c.args.a.now c.args.b.now c.args.x.claim c.args.y.claim c.args.x.root c.args.y.root c.args.id (sym c.is_deeper.ensures ∙ c.if-not-is_deeper.false) (sym c.same_bytes.ensures ∙ c.if-not-same_bytes.false)
