use Rattle.std.proofs.Common.{sym, ap, ◌∙◌}
use Rattle.climbs.proofs.WaitingLaws.{levels-bump}
use Rattle.path.specs.declared.path.Path.{Path}
use Rattle.format.specs.declared.bump.BumpHead.{BumpHead}
use Rattle.format.proofs.ParseLaws.{each-ok, each-fault}
use Rattle.format.specs.Bump.{head_of, bump_whole}
use Rattle.path.specs.Path.{bump_path_of}
use Rattle.spv.specs.Siblings.{path_siblings}
use Rattle.spv.proofs.ResultLaws.{refused_on}
use Rattle.climbs.specs.ClientsShapes.{clients_of_level, checked_of}
use Rattle.climbs.proofs.ClientsLaws.{clients-refused, bump-clients}
use Rattle.climbs.proofs.clients.check_clients.Goals as goal

pub returns-in_err-head : goal.returns-in_err-head
returns-in_err-head c =
    let e = each-fault head_of (bump_whole c.args.s.now) (sym c.in_err-head.ensures) in
    refused_on _ _ _ _ c.from_residual.ensures.1 (clients-refused c.args.s.now _ _ e)

pub check_level-requires : goal.check_level-requires
check_level-requires c = levels-bump _ _ _ c.bump_path.ensures

pub returns : goal.returns
returns c =
    let e = each-ok head_of (bump_whole c.args.s.now) (sym c.in_ok-head.ensures) in
    c.check_level.ensures
    ∙ ap (λ (p : Path). checked_of (clients_of_level (path_siblings c.args.s.now p) p.layers c.args.s.now c.in_ok-head.head.levels.at)) c.bump_path.ensures
    ∙ ap (λ (h : BumpHead). checked_of (clients_of_level (path_siblings c.args.s.now (bump_path_of c.args.s.now h)) (bump_path_of c.args.s.now h).layers c.args.s.now h.levels.at)) (sym e.2)
    ∙ ap checked_of (bump-clients c.args.s.now e.0 _ e.1)
