use mathlib.Core.Path.{ap, ◌∙◌}
use Prim.Native.Nat.{◌+◌}
use native.Mathlib.Omega.{arith}
use lib.ListN.{drop}
use Rattle.std.specs.Prelude.{Err}
use Rattle.stream.specs.Parts.{MAX_PARTS}
use Rattle.stream.specs.Progress.{Fed, run}
use Rattle.stream.proofs.Leaps.{walk_ends, walk_stops, walk_turn}
use Rattle.stream.proofs.Outputs.{walk_skips}
use Rattle.std.proofs.lemmas.Result.{err_from_is_err_and}
use Rattle.stream.proofs.walk.walk.Goals as goal

pub overflow_add-field : goal.overflow_add-field
overflow_add-field c = let s = c.pass_outputs-passed.ensures.1 c.if-i-passed.true in omega (arith, s.0)

pub loop-i-preserved-then-i-passed : goal.loop-i-preserved-then-i-passed
loop-i-preserved-then-i-passed c = (c.pass_outputs-passed.ensures.0, walk_skips MAX_PARTS c.args.f c.loop-i.field c.args.part.now c.loop-i.i c.pass_outputs-passed.result.place c.pass_outputs-passed.result.left c.loop-i.invariant.1 (c.pass_outputs-passed.ensures.1 c.if-i-passed.true) c.at_output-field.ensures)

pub taken-requires : goal.taken-requires
taken-requires c = (rw c.from.ensures (c.type_inv.part c.loop-i.i).fits, c.chunk-k.ensures.2)

pub returns-in_err-field : goal.returns-in_err-field
returns-in_err-field c =
    let p = err_from_is_err_and c.from_residual.result c.from_residual.ensures.1 in
    walk_stops MAX_PARTS c.args.f c.args.part.now _
    (walk_turn MAX_PARTS c.args.f c.loop-i.field c.args.part.now c.loop-i.i c.chunk-k.result c.loop-i.invariant.1 c.chunk-k.ensures.3 (omega arith) (omega arith) c.from.ensures c.taken.ensures)
    c.in_err-field.was (p.1 ∙ ap Err p.2)

pub loop-i-preserved : goal.loop-i-preserved
loop-i-preserved c = (
  omega arith,
  walk_turn MAX_PARTS c.args.f c.loop-i.field c.args.part.now c.loop-i.i c.chunk-k.result c.loop-i.invariant.1 c.chunk-k.ensures.3 (omega arith) (omega arith) c.from.ensures c.taken.ensures
      ∙ ap (λ (m : Fed). run MAX_PARTS m (drop (c.loop-i.i + c.chunk-k.result) c.args.part.now)) c.in_ok-field.was,
)

pub returns : goal.returns
returns c = walk_ends MAX_PARTS c.args.f c.loop-i.field c.args.part.now c.loop-i.i (omega arith) c.loop-i.invariant.1
