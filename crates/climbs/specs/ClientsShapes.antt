-- What the answers of the all-clients check say, and the check over a level's bytes.
use Rattle.std.specs.Prelude.{Result as Answer, Ok, Err, Option, ℕ, zero, suc, List}
use Rattle.format.specs.declared.level.Layout.{Layout}
use Rattle.format.specs.Parse.{pick, otherwise}
use Rattle.format.specs.Field.{varint}
use Rattle.format.specs.Refusals.{NOT_LISTED, ROOTS_DIFFER}
use Rattle.path.specs.Unchecked.{unchecked_leaf}
use Rattle.spv.specs.Result.{Result, answer_of, accepted, refused, carrying, follow}
use Rattle.spv.specs.Climb.{Siblings}
use Rattle.spv.specs.Clients.{after_leaf, closing}
use Rattle.spv.specs.declared.rejection.Rejection.{Rejection}
use Rattle.spv.specs.Prove.{Target, hits, any, bound}
use Rattle.spv.specs.Shapes.{bound_to}

-- the answer of the check: the root, or a refusal
abbrev pub checked_of : Result (List ℕ) → Answer (List ℕ) Rejection
checked_of = answer_of (λ root. root)

-- what a leaf leaves wanted
abbrev pub want_says : Answer (Option (List ℕ)) Rejection → Result Target
want_says (Ok wanted) = accepted (bound_to wanted)
want_says (Err why) = refused why

-- what the end of a climb says
abbrev pub end_says : Answer (List ℕ) Rejection → Result (List ℕ)
end_says (Ok root) = accepted root
end_says (Err why) = refused why

-- the root wanted after a climb came to its end: 14 or 15, then 16
unfoldable pub wanted_to : Target → Result (List ℕ) → Result Target
wanted_to w (refused why) = refused why
wanted_to w (accepted r) = pick (hits w r) (accepted (bound r)) (refused (carrying ROOTS_DIFFER 0))

-- and after the first m of such ends
unfoldable pub pending : (ℕ → Result (List ℕ)) → ℕ → Result Target → Result Target
pending v zero x = x
pending v (suc m) x = follow (pending v m x) (λ w. wanted_to w (v m))

-- ---- over a level's bytes

-- of n leaves from a place, as far as they can be read
unfoldable pub clients_in : Siblings → ℕ → List ℕ → ℕ → ℕ → Target → Result (List ℕ)
clients_in σ h s zero at w = closing w
clients_in σ h s (suc n) at w =
    otherwise (unchecked_leaf Layout.Bump s at) (refused (carrying NOT_LISTED 0)) (λ leaf next. follow (after_leaf σ h s w leaf) (λ w'. clients_in σ h s n next w'))

unfoldable pub clients_of_level : Siblings → ℕ → List ℕ → ℕ → Result (List ℕ)
clients_of_level σ h s at = otherwise (varint s at) (refused (carrying NOT_LISTED 0)) (λ n next. clients_in σ h s n next any)
