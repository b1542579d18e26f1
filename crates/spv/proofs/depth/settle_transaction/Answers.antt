use Rattle.std.proofs.Common.{◌∙◌, sym, ap, List, ℕ}
use Rattle.hash.proofs.Sha256Laws.{hashed-accepted}
use Rattle.format.proofs.ParseLaws.{each-ok, each-fault}
use Rattle.format.specs.Transaction.{tx_field, tx_head_of, tx_whole}
use Rattle.format.proofs.Whole.{whole-size}
use Rattle.spv.specs.Shapes.{claim_proof}
use Rattle.spv.specs.Depth.{uneven, depth_of}
use Rattle.spv.proofs.ResultLaws.{refused_on}
use Rattle.spv.proofs.DepthLaws.{reading-fault, reading-ok}
use Rattle.spv.proofs.depth.settle_transaction.Goals as goal

pub returns-in_err-read_transaction : goal.returns-in_err-read_transaction
returns-in_err-read_transaction c = refused_on _ _ _ _ c.from_residual.ensures.1 (reading-fault c.args.m.now _ _ _ (each-fault tx_head_of (tx_whole c.args.m.now) (sym c.in_err-read_transaction.ensures)))

pub returns : goal.returns
returns c =
    let e = each-ok tx_head_of (tx_whole c.args.m.now) (sym c.in_ok-read_transaction.ensures) in
    let id = c.unwrap_or-id.ensures ∙ rw (c.sha256d.ensures, hashed-accepted c.args.m.now (whole-size tx_field c.args.m.now e.1)) in
    c.settle_uneven.ensures ∙ ap (λ (i : List ℕ). depth_of (uneven i (claim_proof c.args.a.now c.args.x.claim c.args.x.root) (claim_proof c.args.b.now c.args.y.claim c.args.y.root))) id ∙ sym (ap depth_of (reading-ok c.args.m.now _ _ _ e.1))
