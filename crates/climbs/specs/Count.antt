-- The joins that a climb makes, by the definition (02, Item 11): "a computed sibling costs its own join and those of its children, a copy none, and a
-- sibling that can't be had none; a refused climb counts the layers below its fault and, for 15, what the sibling there cost".
use Rattle.std.specs.Prelude.{Option, Some, None, ℕ, zero, suc, ◌+◌, ◌*◌, ◌/◌, List, ◌++◌}
use Rattle.hash.specs.Sha256.{sha256d}
use Rattle.format.specs.Parse.{pick}
use Rattle.spv.specs.Climb.{Siblings, joins, fails, step, odd, sibling_position}
use Rattle.spv.specs.Values.{has_value, join_of, worked_out}
use Rattle.spv.specs.Joins.{joins_by}

-- over what is written, by layer and position
module _ (w : Siblings) where
  -- the join of a node's children costs itself and what they cost, which is none where something is written; one that can't be had costs none
  unfoldable pub join_cost : ℕ → ℕ → ℕ
  join_cost zero q = 0
  join_cost (suc k) q = pick (has_value (join_of w (suc k) q)) (1 + joins_by (w k (2 * q)) (join_cost k (2 * q)) + joins_by (w k (2 * q + 1)) (join_cost k (2 * q + 1))) 0

  -- what the sibling at a layer and position costs
  unfoldable pub cost_of : ℕ → ℕ → ℕ
  cost_of k q = joins_by (w k q) (join_cost k q)

  -- a climb from c at position j of layer k over n layers: each layer its sibling and one join; at a fault the sibling, which for 14 costs none
  unfoldable pub climb_cost : ℕ → ℕ → ℕ → List ℕ → ℕ
  climb_cost k zero j c = 0
  climb_cost k (suc n) j c =
      elim (step (worked_out w k (sibling_position j)) (odd j) c)
      [ joins a b ↦ cost_of k (sibling_position j) + 1 + climb_cost (suc k) n (j / 2) (sha256d (a ++ b)) | fails number ↦ cost_of k (sibling_position j) ]

  -- the climb of an id over h layers, from where it stands; one that stands nowhere makes none
  unfoldable pub start_cost : ℕ → List ℕ → Option ℕ → ℕ
  start_cost h id (Some i) = climb_cost 0 h i id
  start_cost h id None = 0
