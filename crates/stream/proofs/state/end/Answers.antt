use mathlib.Core.Path.{◌∙◌, ap, sym}
use Rattle.stream.specs.Parts.{with_end}
use Rattle.stream.specs.Lent.{progress_of, resting}
use Rattle.stream.proofs.LentLaws.{end-done, end-received, end_short, finishes_by, keeps_by}
use Rattle.stream.specs.Progress.{is_end}
use Rattle.stream.proofs.state.end.Goals as goal

pub returns-then-st-ne0 : goal.returns-then-st-ne0
returns-then-st-ne0 c = keeps_by with_end c.args.st c.rested.ensures (end-done c.args.st c.if-st-ne0.true)

pub returns-then-is_end : goal.returns-then-is_end
unfolding progress_of
returns-then-is_end c =
    let t = ap is_end (sym c.stage_of.ensures) ∙ sym c.is_end.ensures ∙ c.if-is_end.true in
    keeps_by with_end c.args.st (c.rested-then-is_end.ensures ∙ ap resting c.receipt.ensures)
    (end-received c.args.st c.if-st-ne0.false t (finishes_by c.hashing_in.ensures c.finish-id.ensures))

pub returns : goal.returns
unfolding progress_of
returns c =
    let t = ap is_end (sym c.stage_of.ensures) ∙ sym c.is_end.ensures ∙ c.if-is_end.false in
    keeps_by with_end c.args.st (c.rested-2.ensures ∙ ap resting c.refusal.ensures) (end_short c.args.st c.if-st-ne0.false t)
