use Rattle.std.proofs.Common.{sym, ◌∙◌, ap}
use Rattle.std.proofs.lemmas.Result.{err_from_is_err_and}
use Rattle.path.specs.declared.path.Path.{Path}
use Rattle.format.proofs.ParseLaws.{each-ok, each-fault}
use Rattle.format.specs.Cmp.{cmp_head_of, cmp_whole}
use Rattle.path.specs.Path.{cmp_path_of}
use Rattle.spv.specs.Prove.{prove}
use Rattle.spv.specs.Readings.{path_reading}
use Rattle.spv.proofs.ReadingsLaws.{cmp-refused, cmp_proves}
use Rattle.spv.proofs.prove.claim_cmp.Goals as goal

pub returns-in_err-head : goal.returns-in_err-head
returns-in_err-head c =
    let p = err_from_is_err_and c.from_residual.result c.from_residual.ensures.1 in
    rw (p.1, p.2) (sym (ap prove (cmp-refused c.args.s.now c.args.id _ _ (each-fault cmp_head_of (cmp_whole c.args.s.now) (sym c.in_err-head.ensures)))))

pub returns : goal.returns
returns c =
    let e = each-ok cmp_head_of (cmp_whole c.args.s.now) (sym c.in_ok-head.ensures) in
    ap prove (c.claim_in.ensures ∙ ap (λ (p : Path). path_reading c.args.s.now p c.args.id) (c.cmp_path.ensures ∙ ap (cmp_path_of c.args.s.now) (sym e.2)))
    ∙ cmp_proves c.args.s.now c.args.id e.0 _ e.1
