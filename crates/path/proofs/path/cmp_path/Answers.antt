use native.Mathlib.Omega.{arith}
use Rattle.path.specs.Path.{cmp_path_of}
use Rattle.path.proofs.path.cmp_path.Goals as goal

pub level_places-at-requires : goal.level_places-at-requires
level_places-at-requires c = omega arith

pub returns : goal.returns
unfolding cmp_path_of
returns c = rw (c.level_places-at.ensures, c.layers_of-layers.ensures)
