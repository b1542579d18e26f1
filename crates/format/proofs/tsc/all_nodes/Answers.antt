use mathlib.Core.Path.{sym, ◌∙◌}
use lib.ListN.{length}
use Rattle.format.proofs.ParseLaws.{passed_on, each-ok, each-fault}
use Rattle.format.proofs.TscLaws.{nodes_no_count, nodes_outside, nodes-refused, nodes-read}
use Rattle.format.proofs.tsc.all_nodes.Goals as goal

pub returns-in_err-wanted : goal.returns-in_err-wanted
returns-in_err-wanted c =
    passed_on _ _ c.from_residual.ensures.1 ∙ (sym (nodes_no_count _ _ _ _ (sym c.in_err-wanted.ensures)))

pub returns-then-not-index_fits : goal.returns-then-not-index_fits
returns-then-not-index_fits c =
    sym (nodes_outside _ _ _ _ (sym c.in_ok-wanted.ensures)
    (sym c.index_fits.ensures ∙ c.if-not-index_fits.true))

pub returns-in_err-count : goal.returns-in_err-count
returns-in_err-count c =
    passed_on _ _ c.from_residual-in_err-count.ensures.1 ∙ (sym (nodes-refused _ _ _ _ (sym c.in_ok-wanted.ensures)
    (sym c.index_fits.ensures ∙ c.if-not-index_fits.false)
    (each-fault length _ (sym c.in_err-count.ensures))))

pub returns : goal.returns
returns c =
    let l = each-ok length _ (sym c.in_ok-count.ensures) in
    sym (nodes-read _ _ _ _ (sym c.in_ok-wanted.ensures)
    (sym c.index_fits.ensures ∙ c.if-not-index_fits.false) l.1 l.2)
