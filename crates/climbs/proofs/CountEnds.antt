-- What a climb costs, by what it comes to (02, Item 11): "a refused climb counts the layers below its fault and, for 15, what the sibling there cost".
use Rattle.std.proofs.Common.{◌≡◌, ℕ, zero, suc, ◌+◌, ◌-◌, ◌/◌, ◌<◌, eqb, List, get_or}
use Rattle.format.specs.Parse.{pick}
use Rattle.format.specs.Refusals.{TWIN}
use Rattle.spv.specs.declared.rejection.Rejection.{Rejection}
use Rattle.spv.specs.Result.{Result, accepted, refused}
use Rattle.spv.specs.Climb.{absent, Siblings, sibling_position, sibling_positions}
use Rattle.climbs.specs.Count.{cost_of}

-- the layers from k on, n of them, each with its sibling and its join
unfoldable pub layers_cost : Siblings → ℕ → ℕ → ℕ → ℕ
layers_cost w k zero j = 0
layers_cost w k (suc n) j = cost_of w k (sibling_position j) + 1 + layers_cost w (suc k) n (j / 2)

-- the sibling at a fault: 15 counts it, 14 does not
unfoldable pub fault_cost : Siblings → Rejection → ℕ
fault_cost w why = pick (eqb why.number TWIN) (cost_of w why.layer why.sibling) 0

-- over n layers from k on, by the end of the climb
unfoldable pub end_cost : Siblings → ℕ → ℕ → ℕ → Result (List ℕ) → ℕ
end_cost w k n j (accepted root) = layers_cost w k n j
end_cost w k n j (refused why) = layers_cost w k (why.layer - k) j + fault_cost w why

-- every sibling of a climb from position j of layer k over n layers is written
unfoldable pub AllWritten : Siblings → ℕ → ℕ → ℕ → Type 0
AllWritten w k n j = (m : ℕ) → m < n → w (k + m) (get_or (sibling_positions j n) m 0) ≡ absent → ⊥
