use Rattle.std.proofs.Common.{sym, ap, refl}
use Rattle.std.proofs.lemmas.Result.{err_from_is_err_and}
use Rattle.format.proofs.ParseLaws.{each-ok, each-fault}
use Rattle.format.specs.Tsc.{tsc_head_of, tsc_whole}
use Rattle.spv.proofs.ShapesLaws.{tsc_claim}
use Rattle.spv.specs.Prove.{prove}
use Rattle.spv.proofs.ReadingsLaws.{tsc-refused}
use Rattle.spv.proofs.prove.claim_tsc.Goals as goal

pub returns-in_err-head : goal.returns-in_err-head
returns-in_err-head c =
    let p = err_from_is_err_and c.from_residual.result c.from_residual.ensures.1 in
    rw (p.1, p.2) (sym (ap prove (tsc-refused c.args.s.now _ _ (each-fault tsc_head_of (tsc_whole c.args.s.now) (sym c.in_err-head.ensures)))))

pub returns : goal.returns
returns c =
    let e = each-ok tsc_head_of (tsc_whole c.args.s.now) (sym c.in_ok-head.ensures) in
    tsc_claim c.args.s.now _ _ e.0 _ e.1 e.2 c.tsc_path.ensures refl c.subject_id.ensures c.tsc_target.ensures
