use mathlib.Core.Path.{◌∙◌, sym}
use borrow.Author.Tests.{le-leb, lt-leb}
use Rattle.format.specs.Node.{node_field}
use Rattle.format.proofs.ParseLaws.{passed_on}
use Rattle.format.proofs.node.read_node.Goals as goal

pub returns-in_err-kind : goal.returns-in_err-kind
unfolding node_field
returns-in_err-kind c =
    passed_on _ _ c.from_residual.ensures.1 ∙ (simp (sym c.in_err-kind.ensures))

pub returns-then-kind-gt1 : goal.returns-then-kind-gt1
unfolding node_field
returns-then-kind-gt1 c = simp (sym c.in_ok-kind.ensures, lt-leb _ _ c.if-kind-gt1.true)

pub returns : goal.returns
unfolding node_field
returns c = c.read_kind.ensures ∙ simp (sym c.in_ok-kind.ensures, le-leb _ _ c.if-kind-gt1.false)
