use mathlib.Core.Path.{◌∙◌}
use borrow.Author.Tests.{le-ltb, lt-ltb}
use Rattle.path.specs.Path.{leaf_at_place, leaf_in}
use Rattle.path.proofs.path.find.Goals as goal

pub returns-then-path-layer : goal.returns-then-path-layer
unfolding leaf_in
returns-then-path-layer c = simp (le-ltb _ _ c.if-path-layer.true)

pub returns-then-layer-ge-LAYERS : goal.returns-then-layer-ge-LAYERS
unfolding leaf_in
returns-then-layer-ge-LAYERS c = simp (lt-ltb _ _ c.if-path-layer.false, le-ltb _ _ c.if-layer-ge-LAYERS.true)

pub returns-in-Bump : goal.returns-in-Bump
unfolding leaf_in leaf_at_place
returns-in-Bump c = c.find_in_level.ensures ∙ simp (lt-ltb _ _ c.if-path-layer.false, lt-ltb _ _ c.if-layer-ge-LAYERS.false, c.in-Bump.is)

pub returns-in-Cmp : goal.returns-in-Cmp
unfolding leaf_in leaf_at_place
returns-in-Cmp c = c.find_in_level-in-Cmp.ensures ∙ simp (lt-ltb _ _ c.if-path-layer.false, lt-ltb _ _ c.if-layer-ge-LAYERS.false, c.in-Cmp.is)

pub returns-in-Tsc : goal.returns-in-Tsc
unfolding leaf_in leaf_at_place
returns-in-Tsc c = c.find_node.ensures ∙ simp (lt-ltb _ _ c.if-path-layer.false, lt-ltb _ _ c.if-layer-ge-LAYERS.false, c.in-Tsc.is)
