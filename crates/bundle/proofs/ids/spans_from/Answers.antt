use Prim.Native.Nat.{suc}
use mathlib.Core.Path.{◌∙◌}
use Rattle.bundle.proofs.AheadLaws.{spans_made}
use Rattle.bundle.proofs.ids.spans_from.Goals as goal

pub returns : goal.returns
returns c = (
  spans_made _ _ _ _ _ _ _ c.span_at-a.ensures.0 (c.span_at-b.ensures.0 ∙ c.span_at-a.ensures.1 0) (c.span_at-c.ensures.0 ∙ c.span_at-b.ensures.1 0 ∙ c.span_at-a.ensures.1 1) (c.span_at-d.ensures.0 ∙ c.span_at-c.ensures.1 0 ∙ c.span_at-b.ensures.1 1 ∙ c.span_at-a.ensures.1 2),
  λ m. c.span_at-d.ensures.1 m ∙ c.span_at-c.ensures.1 (suc m) ∙ c.span_at-b.ensures.1 (suc (suc m)) ∙ c.span_at-a.ensures.1 (suc (suc (suc m))),
)
