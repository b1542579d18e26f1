use Rattle.std.proofs.Common.{ℕ, eqb, List, get_or, sym, ap, ◌∙◌, rules, tests}
use Rattle.std.specs.List.{list_any}
use Rattle.std.proofs.lemmas.Iterator.{YieldsList-from_slice}
use Rattle.std.proofs.lemmas.Iterator.Search.{any_from_yields_List}
use Rattle.climbs.proofs.PassLaws.{none-at}
use Rattle.climbs.proofs.pass.waiting.Goals as goal

pub returns : goal.returns
returns c e =
    let found = any_from_yields_List (λ (row : ℕ). eqb (get_or c.args.states.now row 0) c.args.layer) _ _ c.any.result c.any.ensures.ran (YieldsList-from_slice c.iter.result.rest.now cc) (λ x b q k. search (rules, tests)) in
    none-at _ _ _ _ _ c.requires.1 (ap (λ (rest : List ℕ). list_any (λ (row : ℕ). eqb (get_or c.args.states.now row 0) c.args.layer) rest) (sym c.iter.ensures.rest) ∙ sym found ∙ e)
