use mathlib.Core.Path.{sym, ◌∙◌}
use borrow.Author.Tests.{eqb-true, eqb-false}
use Rattle.block.proofs.CallLaws.{refuses-size, refuses-none, refuses_outside, refuses-equal}
use Rattle.block.proofs.OutputLaws.{refused_so}
use Rattle.block.proofs.block.write_bump.Goals as goal

pub returns-then-not-within_sizes : goal.returns-then-not-within_sizes
returns-then-not-within_sizes c = refused_so _ (refuses-size _ _ _ _ (sym c.within_sizes.ensures ∙ c.if-not-within_sizes.true)) c.reject_for.ensures

pub returns-then-is_empty : goal.returns-then-is_empty
returns-then-is_empty c =
    let s = sym c.within_sizes.ensures ∙ c.if-not-within_sizes.false in
    refused_so _ (refuses-none _ _ _ _ s (eqb-true _ _ (sym c.is_empty.ensures ∙ c.if-is_empty.true))) c.reject_for-then-is_empty.ensures

pub returns-then-not-all_below : goal.returns-then-not-all_below
returns-then-not-all_below c =
    let s = sym c.within_sizes.ensures ∙ c.if-not-within_sizes.false in
    let e = sym c.all_below.ensures ∙ c.if-not-all_below.true in
    refused_so _ (refuses_outside _ _ _ _ s (eqb-false _ _ (sym c.is_empty.ensures ∙ c.if-is_empty.false)) e) c.reject_for-then-not-all_below.ensures

pub returns-then-not-all_differ : goal.returns-then-not-all_differ
returns-then-not-all_differ c =
    let s = sym c.within_sizes.ensures ∙ c.if-not-within_sizes.false in
    let b = sym c.all_below.ensures ∙ c.if-not-all_below.false in
    let e = sym c.all_differ.ensures ∙ c.if-not-all_differ.true in
    refused_so _ (refuses-equal _ _ _ _ s (eqb-false _ _ (sym c.is_empty.ensures ∙ c.if-is_empty.false)) b e) c.reject_for-then-not-all_differ.ensures

pub write_tree-requires : goal.write_tree-requires
write_tree-requires c =
    let s = sym c.within_sizes.ensures ∙ c.if-not-within_sizes.false in
    let b = sym c.all_below.ensures ∙ c.if-not-all_below.false in
    let d = sym c.all_differ.ensures ∙ c.if-not-all_differ.false in
    (s, eqb-false _ _ (sym c.is_empty.ensures ∙ c.if-is_empty.false), b, d)

pub returns : goal.returns
returns c = c.write_tree.ensures
