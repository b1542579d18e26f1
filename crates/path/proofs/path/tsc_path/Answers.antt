use native.Mathlib.Omega.{arith}
use Rattle.path.specs.TscPath.{tsc_path_of}
use Rattle.path.proofs.path.tsc_path.Goals as goal

pub node_places-at-requires : goal.node_places-at-requires
node_places-at-requires c = omega arith

pub returns : goal.returns
unfolding tsc_path_of
returns c = rw (c.node_places-at.ensures, c.layers_of-layers.ensures)
