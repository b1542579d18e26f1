use mathlib.Core.Path.{sym, ◌∙◌}
use borrow.Author.Tests.{le-leb, lt-leb}
use Rattle.format.proofs.ParseLaws.{passed_on}
use Rattle.format.specs.Tsc.{node_count_up_to}
use Rattle.format.proofs.tsc.read_node_count.Goals as goal

pub returns-in_err-count : goal.returns-in_err-count
unfolding node_count_up_to
returns-in_err-count c = passed_on _ _ c.from_residual.ensures.1 ∙ (simp (sym c.in_err-count.ensures))

pub returns-then-count-gt-MAX_NODES : goal.returns-then-count-gt-MAX_NODES
unfolding node_count_up_to
returns-then-count-gt-MAX_NODES c = simp (sym c.in_ok-count.ensures, lt-leb _ _ c.if-count-gt-MAX_NODES.true)

pub returns : goal.returns
unfolding node_count_up_to
returns c = simp (sym c.in_ok-count.ensures, le-leb _ _ c.if-count-gt-MAX_NODES.false)
