use mathlib.Core.Path.{ap, sym, ◌∙◌}
use Rattle.std.specs.Prelude.{Err}
use Rattle.bundle.proofs.BundleHeadLaws.{stands-again, stands_mined, stands_nowhere, stands_child, stands_orphan}
use Rattle.bundle.specs.Anchored.{mined_by}
use Rattle.bundle.proofs.judge.judge_entry.Goals as goal

pub returns-then-is_among : goal.returns-then-is_among
returns-then-is_among c = λ roots bumps mined. ap Err c.reject_for.ensures ∙ sym (stands-again _ _ _ _ _ _ (sym c.is_among.ensures ∙ c.if-is_among.true))

pub returns-then-n : goal.returns-then-n
returns-then-n c =
    λ roots bumps mined.
    ap Err c.reject_for-then-n.ensures
    ∙ sym (stands_nowhere _ _ _ _ _ _ (sym c.is_among.ensures ∙ c.if-is_among.false) _ c.in-Some.is c.if-n.true)

pub returns-then-not-rests_on : goal.returns-then-not-rests_on
returns-then-not-rests_on c =
    λ roots bumps mined.
    ap Err c.reject_for-then-not-rests_on.ensures
    ∙ sym
    (stands_orphan _ _ _ _ _ _ (sym c.is_among.ensures ∙ c.if-is_among.false) c.in-None.is (sym c.rests_on.ensures ∙ c.if-not-rests_on.true))

pub returns-else-n : goal.returns-else-n
unfolding mined_by
returns-else-n c =
    λ roots bumps mined.
    mined _ c.in-Some.is c.if-n.false ∙ sym (stands_mined _ _ _ _ _ _ (sym c.is_among.ensures ∙ c.if-is_among.false) _ c.in-Some.is c.if-n.false)

pub returns-else-not-rests_on : goal.returns-else-not-rests_on
returns-else-not-rests_on c =
    λ roots bumps mined.
    sym
    (stands_child _ _ _ _ _ _ (sym c.is_among.ensures ∙ c.if-is_among.false) c.in-None.is (sym c.rests_on.ensures ∙ c.if-not-rests_on.false))
