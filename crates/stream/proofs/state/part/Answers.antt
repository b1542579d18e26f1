use Rattle.stream.specs.declared.progress.Progress.{Progress}
use Rattle.stream.proofs.LentLaws.{absorbs_by, keeps_by, part-done, part-more, part-refused}
use mathlib.Core.Path.{◌∙◌, ap}
use Rattle.stream.specs.Lent.{resting}
use Rattle.stream.specs.Parts.{MAX_PARTS, with_part}
use Rattle.std.specs.Prelude.{Ok}
use Rattle.stream.specs.Progress.{run}
use Rattle.stream.proofs.state.part.Goals as goal

pub returns-then-st-ne0 : goal.returns-then-st-ne0
returns-then-st-ne0 c = part-done c.args.st c.args.bytes.now c.if-st-ne0.true

pub returns-in-Err : goal.returns-in-Err
returns-in-Err c =
    let em = c.walk.ensures ∙ ap (λ (f : Progress). run MAX_PARTS (Ok f) c.args.bytes.now) c.progress_of.ensures in
    keeps_by (with_part c.args.bytes.now) c.args.st (c.rested.ensures ∙ ap resting c.refusal.ensures) (part-refused c.args.st c.if-st-ne0.false c.args.bytes.now em c.in-Err.is)

pub returns-in-Ok : goal.returns-in-Ok
returns-in-Ok c =
    let em = c.walk.ensures ∙ ap (λ (f : Progress). run MAX_PARTS (Ok f) c.args.bytes.now) c.progress_of.ensures in
    keeps_by (with_part c.args.bytes.now) c.args.st c.open_state.ensures
    (part-more c.args.st c.if-st-ne0.false c.args.bytes.now em c.in-Ok.is (absorbs_by c.args.bytes.now c.hashing_in.ensures c.absorb.ensures))
