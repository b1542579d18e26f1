-- The joins of the pass, by what it does at a node: a visit with these rows under the node makes so many, whatever they wait for. A row is told by the
-- layers that it has tried before, each with one join.
use Rattle.std.proofs.Common.{◌≡◌, ℕ, suc, ◌+◌, ◌*◌, ◌≤◌, Bool, false, not, ◌&&◌, leb, List, [], ◌∷◌, ◌++◌, get_or}
use Rattle.spv.specs.Climb.{Siblings}
use Rattle.spv.specs.Values.{has_value, join_of}
use Rattle.spv.specs.Joins.{one}
use Rattle.climbs.specs.Pass.{is_written}

-- the value of a node is to be joined: it is wanted, and nothing is written there
unfoldable pub to_join : Siblings → ℕ → ℕ → Bool → Bool
to_join w k q want = want && not (is_written (w k q))

-- the layers that rows have tried
unfoldable pub tried : List ℕ → ℕ
tried [] = 0
tried (n ∷ rows) = n + tried rows

-- the rows that have not tried layer k
unfoldable pub untried : ℕ → List ℕ → ℕ
untried k [] = 0
untried k (n ∷ rows) = one (leb n k) + untried k rows

-- a visit of node q of layer k, by its rows, whether its value is wanted, and the joins that it makes
pub data Visit (w : Siblings) : ℕ → ℕ → List ℕ → Bool → ℕ → Type 0 where
  -- nothing is left to do
  rests : {k q : ℕ} {rows : List ℕ} {want : Bool} → Visit w k q rows want 0
  -- both children are visited, each once; then each row that has not tried this layer takes one step at most; the children are joined if the value is to be
  -- joined and both have one
  goes : {k q joins : ℕ} {rows : List ℕ} {want : Bool} (l r : List ℕ) (left right steps : ℕ) (want_left want_right : Bool)
      → rows ≡ l ++ r
      → Visit w k (2 * q) l want_left left
      → Visit w k (2 * q + 1) r want_right right
      → steps ≤ untried k rows
      → joins ≡ left + right + steps + one (to_join w (suc k) q want && has_value (join_of w (suc k) q))
      → Visit w (suc k) q rows want joins

-- all climbs of these rows over h layers: one join for each layer that a row tries while siblings are written, and one more at most for a layer, where three
-- rows take four lanes; then the visit of the tree
pub record Pass (w : Siblings) (h : ℕ) (rows : List ℕ) (joins : ℕ) : Type 0 where
  pub layers : (i : ℕ) → get_or rows i 0 ≤ h
  pub rise : ℕ
  pub few : rise ≤ tried rows + h
  pub tree : ℕ
  pub visit : Visit w h 0 rows false tree
  pub all : joins ≡ rise + tree
