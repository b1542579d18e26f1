use mathlib.Core.Path.{sym, ap, ◌∙◌}
use Rattle.path.specs.Subject.{subject_hash}
use Rattle.path.proofs.subject.subject_id.Goals as goal

pub returns-in-Id : goal.returns-in-Id
unfolding subject_hash
returns-in-Id c = c.hash_at.ensures ∙ sym (ap (subject_hash c.args.s.now) c.in-Id.is)

pub returns-in-Transaction : goal.returns-in-Transaction
unfolding subject_hash
returns-in-Transaction c = c.span_hash.ensures ∙ sym (ap (subject_hash c.args.s.now) c.in-Transaction.is)
