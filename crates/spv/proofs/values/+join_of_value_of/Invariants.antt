use Rattle.std.proofs.Common.{◌+◌}
use Rattle.spv.proofs.values.+join_of_value_of.Given as goal

-- Each call is on a lower layer, or on the same layer from a node's value to its join.
abbrev pub decreases-join_of : goal.decreases-join_of
decreases-join_of l = l.layer + l.layer

abbrev pub decreases-value_of : goal.decreases-value_of
decreases-value_of l = l.layer + l.layer + 1
