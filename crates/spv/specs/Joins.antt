-- The joins made for one sibling, and the leaves that lie under it (02, Item 3).
use Rattle.std.specs.Prelude.{ℕ, zero, suc, ◌+◌, ◌-◌, ◌*◌, ◌/◌, ◌^◌, Bool, true, false, List, [], ◌∷◌, length, get_or, eqb}
use Rattle.format.specs.declared.leaf.Leaf.{Leaf}
use Rattle.format.specs.Parse.{pick}
use Rattle.spv.specs.Climb.{Sibling, value, copied, absent, Siblings, sibling_position}
use Rattle.spv.specs.Values.{has_value, join_of, value_of}

unfoldable pub one : Bool → ℕ
one true = 1
one false = 0

-- what is written takes no join
unfoldable pub joins_by : Sibling → ℕ → ℕ
joins_by (value p) n = 0
joins_by copied n = 0
joins_by absent n = n

-- over what is written, by layer and position
module _ (w : Siblings) where
  -- for the join of a node's children: the left child's joins; if it has a value, the right child's as well; if that has one too, their own
  unfoldable pub joins_made : ℕ → ℕ → ℕ
  joins_made zero q = 0
  joins_made (suc k) q =
      joins_by (w k (2 * q)) (joins_made k (2 * q))
      + pick (has_value (value_of w absent k (2 * q))) (joins_by (w k (2 * q + 1)) (joins_made k (2 * q + 1)) + one (has_value (join_of w (suc k) q))) 0

  -- for a sibling
  unfoldable pub sibling_joins : ℕ → ℕ → ℕ
  sibling_joins k q = joins_by (w k q) (joins_made k q)

  -- for the siblings of a climb from position j of layer k, over n layers
  unfoldable pub climb_joins : ℕ → ℕ → ℕ → ℕ
  climb_joins k zero j = 0
  climb_joins k (suc n) j = sibling_joins k (sibling_position j) + climb_joins (suc k) n (j / 2)

-- the leaf of level l lies under node q of level k: its offset, halved once for each level up, is q
unfoldable pub lies_under : ℕ → ℕ → ℕ → Leaf → Bool
lies_under k q l leaf = eqb (leaf.offset / 2 ^ (k - l)) q

unfoldable pub count_under : ℕ → ℕ → ℕ → List Leaf → ℕ
count_under k q l [] = 0
count_under k q l (leaf ∷ leaves) = one (lies_under k q l leaf) + count_under k q l leaves

-- the leaves of the n lowest levels that lie under node q of level k
unfoldable pub leaves_below : List (List Leaf) → ℕ → ℕ → ℕ → ℕ
leaves_below levels k q zero = 0
leaves_below levels k q (suc n) = leaves_below levels k q n + count_under k q n (get_or levels n [])

abbrev pub leaves_under : List (List Leaf) → ℕ → ℕ → ℕ
leaves_under levels k q = leaves_below levels k q k

-- all leaves of the n lowest levels
unfoldable pub leaves_in : List (List Leaf) → ℕ → ℕ
leaves_in levels zero = 0
leaves_in levels (suc n) = leaves_in levels n + length (get_or levels n [])
