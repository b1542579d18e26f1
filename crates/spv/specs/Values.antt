-- Siblings that can be worked out (02, Item 3): "a sibling's value is its written hash, or if nothing is written there, the join of its two
-- children one level lower, and each child's value is found the same way; a copy has the value of the node on its left, and on the climb
-- itself it repeats the working hash. At level 0 only written leaves have a value."
use Rattle.std.specs.Prelude.{ℕ, zero, suc, ◌+◌, ◌*◌, Bool, true, false, ◌++◌}
use Rattle.hash.specs.Sha256.{sha256d}
use Rattle.spv.specs.Climb.{Sibling, value, copied, absent, Siblings}

unfoldable pub has_value : Sibling → Bool
has_value (value p) = true
has_value copied = false
has_value absent = false

-- a node's value by what is written there: its hash; what a copy there has for its value; where nothing is written, the join of its children
unfoldable pub value_by : Sibling → Sibling → Sibling → Sibling
value_by (value p) copy join = value p
value_by copied copy join = copy
value_by absent copy join = join

-- the join of two children that both have a value
unfoldable pub join_both : Sibling → Sibling → Sibling
join_both (value l) (value r) = value (sha256d (l ++ r))
join_both (value l) copied = absent
join_both (value l) absent = absent
join_both copied r = absent
join_both absent r = absent

-- over what is written, by layer and position
module _ (w : Siblings) where
  -- the join of a node's children, one level lower at 2q and 2q + 1; a copy has the value of the node on its left, and never stands at an even offset
  unfoldable pub join_of : ℕ → ℕ → Sibling
  join_of zero q = absent
  join_of (suc k) q =
      join_both (value_by (w k (2 * q)) absent (join_of k (2 * q)))
      (value_by (w k (2 * q + 1)) (value_by (w k (2 * q)) absent (join_of k (2 * q))) (join_of k (2 * q + 1)))

  -- a node's value, by the value that a copy there has
  unfoldable pub value_of : Sibling → ℕ → ℕ → Sibling
  value_of copy k q = value_by (w k q) copy (join_of k q)

  -- what the climb takes: on it a copy repeats the working hash
  unfoldable pub worked_out : Siblings
  worked_out k q = value_of copied k q
