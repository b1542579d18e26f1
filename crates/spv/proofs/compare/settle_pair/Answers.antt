use Rattle.std.proofs.Common.{◌∙◌, sym, ap, arith}
use Rattle.spv.specs.Compare.{strings_of}
use Rattle.spv.proofs.PositionFitsLaws.{low-start}
use Rattle.spv.specs.Shapes.{compared_of}
use Rattle.spv.proofs.ShapesLaws.{told-met, told-never, claims_unlike, claims_same, claims_meet, claims_layers}
use Rattle.spv.proofs.compare.settle_pair.Goals as goal

pub returns-then-not-alike : goal.returns-then-not-alike
returns-then-not-alike c = rw c.reject_for.ensures (sym (ap compared_of (claims_unlike _ _ _ _ _ _ (sym c.alike.ensures ∙ c.if-not-alike.true))))

pub returns-then-same_bytes : goal.returns-then-same_bytes
returns-then-same_bytes c = rw c.reject_for-then-same_bytes.ensures (sym (ap compared_of (claims_same _ _ _ _ _ _ (sym c.alike.ensures ∙ c.if-not-alike.false) (sym c.same_bytes.ensures ∙ c.if-same_bytes.true))))

pub meet-requires : goal.meet-requires
meet-requires c = (omega (arith, claims_layers c.args.a.now c.args.b.now c.args.x.claim c.args.y.claim c.args.x.root c.args.y.root (sym c.alike.ensures ∙ c.if-not-alike.false)), low-start _ (omega arith))

pub returns-in-Some : goal.returns-in-Some
unfolding strings_of
returns-in-Some c = sym (ap compared_of (claims_meet _ _ _ _ _ _ (sym c.alike.ensures ∙ c.if-not-alike.false) (sym c.same_bytes.ensures ∙ c.if-same_bytes.false) _ (told-met _ _ c.in-Some.ensures)))

pub returns-in-None : goal.returns-in-None
unfolding strings_of
returns-in-None c = rw c.reject_for-in-None.ensures (sym (ap compared_of (claims_meet _ _ _ _ _ _ (sym c.alike.ensures ∙ c.if-not-alike.false) (sym c.same_bytes.ensures ∙ c.if-same_bytes.false) _ (told-never _ c.in-None.ensures))))
