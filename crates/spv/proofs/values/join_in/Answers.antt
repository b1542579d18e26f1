use Prim.Native.Nat.{◌<◌}
use mathlib.Core.Path.{sym, ◌∙◌}
use native.Mathlib.Omega.{arith}
use Rattle.path.specs.Path.{layers_of}
use Rattle.spv.proofs.SiblingsLaws.{join_outside, join-bump, join-cmp, join-tsc}
use Rattle.spv.proofs.values.join_in.Goals as goal

pub returns-then-path-layer : goal.returns-then-path-layer
returns-then-path-layer c = sym (join_outside c.args.s.now c.args.path c.args.layer c.args.position (omega (arith, c.if-path-layer.true)))

pub returns-then-layer-ge-LAYERS : goal.returns-then-layer-ge-LAYERS
returns-then-layer-ge-LAYERS c = sym (join_outside c.args.s.now c.args.path c.args.layer c.args.position (omega (arith, c.if-layer-ge-LAYERS.true)))

pub returns-in-Bump : goal.returns-in-Bump
returns-in-Bump c =
    let b : c.args.layer < layers_of c.args.path.layers = omega (arith, c.if-layer-ge-LAYERS.false, c.if-path-layer.false) in
    c.join_at.ensures ∙ join-bump c.args.s.now c.args.path c.args.layer c.args.position b c.in-Bump.is

pub returns-in-Cmp : goal.returns-in-Cmp
returns-in-Cmp c =
    let b : c.args.layer < layers_of c.args.path.layers = omega (arith, c.if-layer-ge-LAYERS.false, c.if-path-layer.false) in
    c.join_at-in-Cmp.ensures ∙ join-cmp c.args.s.now c.args.path c.args.layer c.args.position b c.in-Cmp.is

pub returns-in-Tsc : goal.returns-in-Tsc
returns-in-Tsc c =
    let b : c.args.layer < layers_of c.args.path.layers = omega (arith, c.if-layer-ge-LAYERS.false, c.if-path-layer.false) in
    sym (join-tsc c.args.s.now c.args.path c.args.layer c.args.position b c.in-Tsc.is)
