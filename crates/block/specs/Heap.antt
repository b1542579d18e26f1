-- The tree as the code keeps it: level 0 is the lent list, the node at position j of a level of `width` places above stands at index width + j.
use Rattle.std.specs.Prelude.{◌≡◌, Bool, false, List, [], ◌++◌, ℕ, ◌+◌, ◌-◌, ◌*◌, ◌/◌, ◌%◌, ◌^◌, ◌≤◌, ◌<◌, length, get_or, ltb, eqb, Result as Answer}
use Rattle.hash.specs.Sha256.{sha256d}
use Rattle.lanes.specs.declared.Nodes.{Nodes}
use Rattle.format.specs.Bytes.{same, set_hash, hash_at}
use Rattle.format.specs.Parse.{pick}
use Rattle.spv.specs.Hashes.{hashes_of}
use Rattle.spv.specs.Result.{Result, answer_of}
use Rattle.spv.specs.declared.rejection.Rejection.{Rejection}
use Rattle.block.specs.Tree.{layer, height_for}

-- the node at position j of a level
unfoldable pub node_in : List ℕ → List ℕ → Bool → ℕ → ℕ → List ℕ
node_in list heap base width j = pick base (hash_at list (32 * j)) (hash_at heap (32 * (width + j)))

-- the right-hand one of a pair: the next of `count` nodes, or a copy
unfoldable pub right_in : List ℕ → List ℕ → Bool → ℕ → ℕ → ℕ → List ℕ
right_in list heap base width count j = pick (ltb (j + 1) count) (node_in list heap base width (j + 1)) (node_in list heap base width j)

-- the node that is made of pair j
unfoldable pub pair_in : List ℕ → List ℕ → Bool → ℕ → ℕ → ℕ → List ℕ
pair_in list heap base width count j = sha256d (node_in list heap base width (2 * j) ++ right_in list heap base width count (2 * j))

-- four hashes stored from index i on
unfoldable pub set_four : List ℕ → ℕ → Nodes → List ℕ
set_four l i n = set_hash (set_hash (set_hash (set_hash l i n.a) (i + 1) n.b) (i + 2) n.c) (i + 3) n.d

-- a layer's nodes stand in their places
abbrev pub Stored : List ℕ → List ℕ → Bool → ℕ → List (List ℕ) → Type 0
Stored list heap base width l = (j : ℕ) → j < length l → node_in list heap base width j ≡ get_or l j []

-- the layers 0 to k of a tree of height h
abbrev pub Heap : List ℕ → List ℕ → ℕ → ℕ → Type 0
Heap list heap h k = (m : ℕ) → m ≤ k → Stored list heap (eqb m 0) (2 ^ (h - m)) (layer (hashes_of list) m)

-- level k has so many places
pub record Level (h k width : ℕ) : Type 0 where
  pub low : k ≤ h
  pub wide : width ≡ 2 ^ (h - k)

-- at an odd position the node on the left is the same
unfoldable pub twin_in : List ℕ → List ℕ → Bool → ℕ → ℕ → Bool
twin_in list heap base width j = pick (eqb (j % 2) 1) (same (node_in list heap base width (j - 1)) (node_in list heap base width j)) false

-- the whole tree stands
pub record Grown (list heap : List ℕ) (h : ℕ) : Type 0 where
  pub least : h ≡ height_for (length list / 32)
  pub nodes : Heap list heap h h

-- the answer of climbing: no twin, or the refusal of the first one
abbrev pub climb_of : {A : Type 0} → Result A → Answer (Unit {0}) Rejection
climb_of = answer_of (λ a. tt)
