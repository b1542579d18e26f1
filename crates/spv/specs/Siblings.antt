-- What the forms give a climb: the leaf or node found, with its 32 bytes.
use Rattle.std.specs.Prelude.{ℕ, List, [], get_or, ltb, Option, Some, None}
use Rattle.format.specs.declared.leaf.Kind.{Kind}
use Rattle.format.specs.declared.leaf.Kind.TheVariants.{Plain, Copy, Client}
use Rattle.format.specs.declared.level.Layout.{Layout}
use Rattle.format.specs.declared.leaf.Leaf.{Leaf}
use Rattle.path.specs.declared.path.Form.{Form}
use Rattle.path.specs.declared.path.Path.{Path}
use Rattle.path.specs.Search.{lookup, leaf_of_level}
use Rattle.format.specs.Parse.{pick}
use Rattle.path.specs.Path.{leaf_in, layers_of}
use Rattle.spv.specs.Climb.{Sibling, value, copied, absent, Siblings}
use Rattle.spv.specs.Values.{value_by, join_of, worked_out}
use Rattle.format.specs.Bytes.{hash_at}

-- a leaf's 32 bytes, any flags, or a copy
unfoldable pub written : List ℕ → Kind → Sibling
written s (Plain p) = value (hash_at s p)
written s Copy = copied
written s (Client p) = value (hash_at s p)

unfoldable pub sibling : List ℕ → Option Kind → Sibling
sibling s (Some kind) = written s kind
sibling s None = absent

-- what a search by layer and position finds written
abbrev pub written_by : List ℕ → (ℕ → ℕ → Option Kind) → Siblings
written_by s find k q = sibling s (find k q)

-- the search among levels that were read
abbrev pub find_in : List (List Leaf) → ℕ → ℕ → Option Kind
find_in levels k q = lookup q (get_or levels k [])

-- the search in levels by their places
abbrev pub find_at : Layout → List ℕ → List ℕ → ℕ → ℕ → Option Kind
find_at layout s places k q = leaf_of_level layout s (get_or places k 0) q

-- of the levels of a BUMP or CMP: the leaf at the layer and position, or what is worked out
unfoldable pub level_siblings : List ℕ → List (List Leaf) → Siblings
level_siblings s levels = worked_out (written_by s (find_in levels))

-- of the nodes of a TSC proof: one for each layer
unfoldable pub node_siblings : List ℕ → List Kind → Siblings
node_siblings s nodes k q = written s (get_or nodes k Copy)

-- where nothing is written: the join of the children, but in a TSC proof, which has a node for each layer and no children
unfoldable pub join_in : Form → Siblings → Siblings
join_in Form.Bump w k q = join_of w k q
join_in Form.Cmp w k q = join_of w k q
join_in Form.Tsc w k q = absent

-- the same in a path, below its layers
unfoldable pub path_join : List ℕ → Path → Siblings
path_join s path k q = pick (ltb k (layers_of path.layers)) (join_in path.form (written_by s (leaf_in s path)) k q) absent

-- of a path of any form, by its places
unfoldable pub path_siblings : List ℕ → Path → Siblings
path_siblings s path k q = value_by (written_by s (leaf_in s path) k q) copied (path_join s path k q)
