-- The path of a TSC proof: for each layer the place of its node.
use Rattle.std.specs.Prelude.{List, ℕ, replicate}
use Rattle.path.specs.declared.path.Form.{Form}
use Rattle.path.specs.declared.path.Path.{Path}
use Rattle.format.specs.declared.tsc.TscHead.{TscHead}
use Rattle.format.specs.Parse.{Reader, pure, here, ◌>>=◌, times, otherwise}
use Rattle.format.specs.Padded.{padded}
use Rattle.format.specs.Node.{node_field}
use Rattle.path.specs.Path.{LAYERS, layers_of}
use Rattle.format.specs.Tsc.{Tsc, tsc_head_of}

-- a node, by its place
unfoldable pub node_place_field : Reader ℕ
node_place_field = do
  place ← here
  _ ← node_field
  pure place

-- the places of n nodes, 0 past the nodes, and all 0 where they can't be read
unfoldable pub node_places : ℕ → List ℕ → ℕ → List ℕ
node_places n s at = otherwise (times node_place_field n s at) (replicate LAYERS 0) (λ l _. padded LAYERS 0 l)

-- the path that a reading's answer leads to
unfoldable pub tsc_path_of : List ℕ → TscHead → Path
tsc_path_of s head = record { form = Form.Tsc; layers = layers_of head.nodes; at = node_places (layers_of head.nodes) s head.nodes_at.at }

-- the path of a TSC proof that was read
abbrev pub tsc_path : List ℕ → Tsc → Path
tsc_path s t = tsc_path_of s (tsc_head_of t)
