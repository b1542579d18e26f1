use Rattle.std.specs.Prelude.{Option}
use Prim.Native.Nat.{ℕ}
use Rattle.barrowtide.specs.Leaves.{found_of, place_after}
use mathlib.Core.Path.{ap, ◌∙◌}
use Rattle.barrowtide.proofs.leaves.barrowtide_search_leaves.Goals as goal

pub returns : goal.returns
returns c =
    λ s b q e f.
    let w = c.search-found.ensures s b q e f in
    (c.tell_place.ensures.0 ∙ ap found_of w, c.tell_place.ensures.1 ∙ ap (λ (v : Option ℕ). place_after v c.args.place.now) w)
