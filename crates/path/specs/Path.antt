-- A path as the crates above search it: its form, its layers, and for each layer the place of its level, or of its node in a TSC proof.
use Rattle.std.specs.Prelude.{Option, Some, None}
use Rattle.format.specs.declared.leaf.Kind.{Kind}
use Rattle.std.specs.Prelude.{List, ℕ, zero, suc, ◌+◌, min, get_or, set, replicate, ltb}
use Rattle.format.specs.declared.level.Layout.{Layout}
use Rattle.format.specs.declared.bump.BumpHead.{BumpHead}
use Rattle.format.specs.declared.cmp.CmpHead.{CmpHead}
use Rattle.path.specs.declared.path.Form.{Form}
use Rattle.path.specs.declared.path.Path.{Path}
use Rattle.format.specs.Parse.{pick, otherwise}
use Rattle.format.specs.Refusals.{MAX_HEIGHT}
use Rattle.format.specs.Level.{level_of_turn}
use Rattle.format.specs.Bump.{Bump, head_of}
use Rattle.format.specs.Cmp.{Cmp, cmp_head_of}
use Rattle.format.specs.Node.{node_field}
use Rattle.path.specs.Search.{leaf_of_level, start_of_level}
use Rattle.path.specs.Unchecked.{unchecked_level}

-- layers that a path has room for
abbrev pub LAYERS : ℕ
LAYERS = MAX_HEIGHT

-- the node at a place
unfoldable pub node_at : List ℕ → ℕ → Option Kind
node_at s at = otherwise (node_field s at) None (λ kind _. Some kind)

-- what a form has at a place and position; a TSC node stands at whatever position is asked for
unfoldable pub leaf_at_place : List ℕ → Form → ℕ → ℕ → Option Kind
leaf_at_place s Form.Bump at j = leaf_of_level Layout.Bump s at j
leaf_at_place s Form.Cmp at j = leaf_of_level Layout.Cmp s at j
leaf_at_place s Form.Tsc at j = node_at s at

-- what a path has at a layer and position: nothing past its layers
unfoldable pub leaf_in : List ℕ → Path → ℕ → ℕ → Option Kind
leaf_in s path k j = pick (ltb k path.layers) (pick (ltb k LAYERS) (leaf_at_place s path.form (get_or path.at k 0) j) None) None

unfoldable pub start_at_place : List ℕ → Form → ℕ → List ℕ → Option ℕ
start_at_place s Form.Bump at id = start_of_level Layout.Bump s at id
start_at_place s Form.Cmp at id = start_of_level Layout.Cmp s at id
start_at_place s Form.Tsc at id = None

-- the least level-0 offset that carries the id
unfoldable pub start_in : List ℕ → Path → List ℕ → Option ℕ
start_in s path id = start_at_place s path.form (get_or path.at 0 0) id

-- the places of n levels more of a tree, from turn i on, beside those that are known; where a level can't be read the rest stay as they are
unfoldable pub placing : Layout → ℕ → ℕ → ℕ → List ℕ → ℕ → List ℕ → List ℕ
placing layout height zero i s at known = known
placing layout height (suc n) i s at known =
    otherwise (unchecked_level layout s at) (set known (level_of_turn layout height i) at)
    (λ _ next. placing layout height n (i + 1) s next (set known (level_of_turn layout height i) at))

-- the places of a tree's levels, 0 past the layers
abbrev pub places : Layout → ℕ → List ℕ → ℕ → List ℕ
places layout height s at = placing layout height height 0 s at (replicate LAYERS 0)

abbrev pub layers_of : ℕ → ℕ
layers_of height = min height LAYERS

-- the path that a reading's answer leads to
unfoldable pub bump_path_of : List ℕ → BumpHead → Path
bump_path_of s head = record { form = Form.Bump; layers = layers_of head.height; at = places Layout.Bump (layers_of head.height) s head.levels.at }

unfoldable pub cmp_path_of : List ℕ → CmpHead → Path
cmp_path_of s head = record { form = Form.Cmp; layers = layers_of head.height; at = places Layout.Cmp (layers_of head.height) s head.levels.at }

-- the path of a BUMP or CMP that was read
abbrev pub bump_path : List ℕ → Bump → Path
bump_path s b = bump_path_of s (head_of b)

abbrev pub cmp_path : List ℕ → Cmp → Path
cmp_path s p = cmp_path_of s (cmp_head_of p)
