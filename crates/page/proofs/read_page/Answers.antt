use mathlib.Core.Path.{sym, ap, ◌∙◌}
use Rattle.std.specs.Prelude.{Ok}
use Rattle.std.proofs.lemmas.Result.{err_from_is_err_and}
use Rattle.format.proofs.ParseLaws.{each-ok, each-fault}
use Rattle.format.specs.Bump.{head_of, bump_whole}
use Rattle.path.specs.Path.{bump_path_of}
use Rattle.page.specs.Opening.{opening_of}
use Rattle.page.proofs.read_page.Goals as goal

pub returns-in_err-head : goal.returns-in_err-head
returns-in_err-head c =
    let p = err_from_is_err_and c.from_residual.result c.from_residual.ensures.1 in
    rw (p.1, p.2) (ap (opening_of c.args.s.now) (sym (each-fault head_of (bump_whole c.args.s.now) (sym c.in_err-head.ensures))))

pub returns : goal.returns
returns c =
    let e = each-ok head_of (bump_whole c.args.s.now) (sym c.in_ok-head.ensures) in
    ap Ok (c.bump_path.ensures ∙ ap (bump_path_of c.args.s.now) (sym e.2)) ∙ ap (opening_of c.args.s.now) (sym e.1)
