use Rattle.std.specs.Prelude.{Ok}
use Rattle.stream.specs.declared.progress.Progress.{Progress}
use Rattle.stream.proofs.Leaps.{next-at}
use Rattle.stream.specs.declared.progress.Stage.{Stage}
use mathlib.Core.Path.{◌∙◌, ap}
use Rattle.stream.specs.Progress.{next_at}
use Rattle.stream.proofs.progress.next.Goals as goal

pub returns-in-Version : goal.returns-in-Version
unfolding next_at
returns-in-Version c = ap (λ (p : Progress). Ok p) c.begin.ensures ∙ next-at c.args.f c.args.v Stage.Version c.in-Version.is

pub returns-in-InputCount : goal.returns-in-InputCount
unfolding next_at
returns-in-InputCount c = c.after_input_count.ensures ∙ next-at c.args.f c.args.v Stage.InputCount c.in-InputCount.is

pub returns-in-Parent : goal.returns-in-Parent
unfolding next_at
returns-in-Parent c = ap (λ (p : Progress). Ok p) c.begin-in-Parent.ensures ∙ next-at c.args.f c.args.v Stage.Parent c.in-Parent.is

pub returns-in-OutputNumber : goal.returns-in-OutputNumber
unfolding next_at
returns-in-OutputNumber c = ap (λ (p : Progress). Ok p) c.begin-in-OutputNumber.ensures ∙ next-at c.args.f c.args.v Stage.OutputNumber c.in-OutputNumber.is

pub returns-in-InputLength : goal.returns-in-InputLength
unfolding next_at
returns-in-InputLength c = c.after_input_length.ensures ∙ next-at c.args.f c.args.v Stage.InputLength c.in-InputLength.is

pub returns-in-InputScript : goal.returns-in-InputScript
unfolding next_at
returns-in-InputScript c = ap (λ (p : Progress). Ok p) c.begin-in-InputScript.ensures ∙ next-at c.args.f c.args.v Stage.InputScript c.in-InputScript.is

pub returns-in-Sequence : goal.returns-in-Sequence
unfolding next_at
returns-in-Sequence c = c.after_input.ensures ∙ next-at c.args.f c.args.v Stage.Sequence c.in-Sequence.is

pub returns-in-OutputCount : goal.returns-in-OutputCount
unfolding next_at
returns-in-OutputCount c = c.after_output_count.ensures ∙ next-at c.args.f c.args.v Stage.OutputCount c.in-OutputCount.is

pub returns-in-Amount : goal.returns-in-Amount
unfolding next_at
returns-in-Amount c = ap (λ (p : Progress). Ok p) c.begin-in-Amount.ensures ∙ next-at c.args.f c.args.v Stage.Amount c.in-Amount.is

pub returns-in-OutputLength : goal.returns-in-OutputLength
unfolding next_at
returns-in-OutputLength c = c.after_output_length.ensures ∙ next-at c.args.f c.args.v Stage.OutputLength c.in-OutputLength.is

pub returns-in-OutputScript : goal.returns-in-OutputScript
unfolding next_at
returns-in-OutputScript c = c.after_output.ensures ∙ next-at c.args.f c.args.v Stage.OutputScript c.in-OutputScript.is

pub returns-in-LockTime : goal.returns-in-LockTime
unfolding next_at
returns-in-LockTime c = c.after_lock_time.ensures ∙ next-at c.args.f c.args.v Stage.LockTime c.in-LockTime.is

pub returns-in-End : goal.returns-in-End
unfolding next_at
returns-in-End c = ap (λ (p : Progress). Ok p) c.begin-in-End.ensures ∙ next-at c.args.f c.args.v Stage.End c.in-End.is
