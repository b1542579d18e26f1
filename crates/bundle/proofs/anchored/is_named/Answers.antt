use Rattle.std.proofs.Common.{◌≡◌, ℕ, true, take, length, ◌<◌, ◌∙◌, arith, length-take}
use Rattle.std.specs.List.{list_any}
use Rattle.std.proofs.lemmas.List.{get_or-take}
use Rattle.std.proofs.lemmas.List.Folds.{list_any_at}
use borrow.Author.Tests.{eq-eqb}
use lib.Dec.{eqb}
use Rattle.bundle.specs.Anchored.{Unnamed}
use Rattle.bundle.proofs.anchored.is_named.Goals as goal

pub returns : goal.returns
unfolding Unnamed
returns c = λ e k low named.
    let inside : k < length (take c.args.n c.args.anchors.now) = omega (arith, length-take c.args.n c.args.anchors.now) in
    let found : list_any (λ y. eqb y c.args.bump) (take c.args.n c.args.anchors.now) ≡ true = list_any_at (λ y. eqb y c.args.bump) _ k 0 inside (eq-eqb _ _ (get_or-take _ _ k 0 low ∙ named)) in
    let z : ◌≡◌ {A = ℕ} 0 1 = cc (c.contains.ensures.value, found, e) in
    omega arith
