-- The leaves that a climb asks for (02, Item 3: "agree on every leaf that these values ask for").
use Prim.Native.Nat.{ℕ, zero, suc, ◌+◌, ◌*◌, ◌/◌}
use mathlib.Core.Path.{◌≡◌}
use mathlib.Core.List.{List, [], ◌∷◌, ◌++◌}
use Rattle.hash.specs.Sha256.{sha256d}
use Rattle.format.specs.Parse.{pick}
use Rattle.spv.specs.Climb.{Sibling, value, copied, absent, Siblings, joins, fails, sibling_position, odd, step}
use Rattle.spv.specs.Values.{has_value, value_of, worked_out}

-- a layer and a position there
abbrev pub Coordinates : Type 0
Coordinates = ℕ × ℕ

-- where nothing is written the children are asked for
unfoldable pub if_absent : Sibling → List Coordinates → List Coordinates
if_absent (value p) l = []
if_absent copied l = []
if_absent absent l = l

-- over what is written, by layer and position
module _ (w : Siblings) where
  -- what the join of a node's children asks for: its left child, and if that has a value its right child
  unfoldable pub join_asks : ℕ → ℕ → List Coordinates
  join_asks zero q = []
  join_asks (suc k) q =
      ((k, 2 * q) ∷ if_absent (w k (2 * q)) (join_asks k (2 * q)))
      ++ pick (has_value (value_of w absent k (2 * q))) ((k, 2 * q + 1) ∷ if_absent (w k (2 * q + 1)) (join_asks k (2 * q + 1))) []

  -- what a node's value asks for: the leaf itself, and where none is written what the join of its children asks for
  unfoldable pub value_asks : ℕ → ℕ → List Coordinates
  value_asks k q = (k, q) ∷ if_absent (w k q) (join_asks k q)

  -- what a climb asks for from c at position j of layer k, over n layers: its siblings, up to the layer where it stops
  unfoldable pub climb_asks : ℕ → ℕ → ℕ → List ℕ → List Coordinates
  climb_asks k zero j c = []
  climb_asks k (suc n) j c =
      value_asks k (sibling_position j)
      ++ elim (step (worked_out w k (sibling_position j)) (odd j) c) [ joins a b ↦ climb_asks (suc k) n (j / 2) (sha256d (a ++ b)) | fails number ↦ [] ]

-- two forms have the same written at each of these
unfoldable pub SameAt : Siblings → Siblings → List Coordinates → Type 0
SameAt w v [] = Unit
SameAt w v (x ∷ l) = (w x.0 x.1 ≡ v x.0 x.1) × SameAt w v l
