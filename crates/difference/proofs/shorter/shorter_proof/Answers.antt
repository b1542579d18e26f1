use mathlib.Core.Path.{◌∙◌, ap}
use Rattle.spv.specs.Result.{Result}
use Rattle.difference.specs.Shorter.{Choice, handed, why_of}
use Rattle.difference.proofs.shorter.shorter_proof.Goals as goal

pub returns : goal.returns
returns c = record { result_value = c.part_of.ensures ∙ ap (λ (x : Result Choice). handed x c.args.first c.args.second) c.weigh-weighed.ensures; why_after = c.why_of.ensures.0 ∙ ap why_of c.weigh-weighed.ensures; why_bound = c.why_of.ensures.1 }
