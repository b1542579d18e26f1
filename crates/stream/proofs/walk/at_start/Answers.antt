use mathlib.Core.Path.{sym, ◌∙◌}
use borrow.Author.Tests.{leb-true}
use Rattle.stream.proofs.Outputs.{output-is}
use Rattle.stream.proofs.walk.at_start.Goals as goal

pub returns-then-f-eq0-2 : goal.returns-then-f-eq0-2
returns-then-f-eq0-2 c e =
    let t = c.if-f-eq0-2.true in
    (output-is _ (sym c.is_amount.ensures ∙ t.0) t.1 t.2 t.3 t.4, leb-true _ _ e)
