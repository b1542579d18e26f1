-- Rows four at a time, as long as their siblings are written.
use Rattle.std.specs.Prelude.{◌≡◌, Option, Some, None, Result as Answer, ℕ, ◌*◌, ◌/◌, ◌^◌, ◌≤◌, true, List, length, slice_index}
use Rattle.format.specs.declared.refusal.Refusal.{Refusal}
use Rattle.format.specs.Bytes.{hash_at}
use Rattle.spv.specs.declared.climb.Halves.{Halves}
use Rattle.spv.specs.Climb.{Siblings, sibling_position, odd, step}
use Rattle.spv.specs.Values.{worked_out}
use Rattle.spv.specs.Shapes.{step_of}
use Rattle.climbs.specs.Pass.{is_written}
use Rattle.climbs.specs.Row.{made_of, states_after, hashes_after}
use Rattle.climbs.specs.Spent.{costs_after}

pub record Held (starts states hashes : List ℕ) : Type 0 where
  pub few : length starts ≤ 65536
  pub each : length starts ≤ length states
  pub room : 32 * length starts ≤ length hashes

-- the sibling of a row that moves is written, and if the row stands at the layer it hashes what its climb hashes there
unfoldable pub TurnRight : Siblings → List ℕ → List ℕ → List ℕ → ℕ → ℕ → Option (Answer Halves Refusal) → Type 0
TurnRight w starts states hashes row k None = Unit {0}
TurnRight w starts states hashes row k (Some turned) =
    (is_written (w k (sibling_position (slice_index starts row / 2 ^ k))) ≡ true)
    × (slice_index states row ≡ k → step_of turned ≡ step (worked_out w k (sibling_position (slice_index starts row / 2 ^ k))) (odd (slice_index starts row / 2 ^ k)) (hash_at hashes (32 * row)))

-- what a row makes, if it moves
abbrev pub move_of : Option (Answer Halves Refusal) → Option (Answer (List ℕ) Refusal)
move_of None = None
move_of (Some turned) = Some (made_of turned)

-- what that leaves of it
abbrev pub states_moved : List ℕ → ℕ → ℕ → Option (Answer (List ℕ) Refusal) → List ℕ
states_moved states row layer None = states
states_moved states row layer (Some made) = states_after states row layer made

abbrev pub hashes_moved : List ℕ → List ℕ → ℕ → ℕ → Option (Answer (List ℕ) Refusal) → List ℕ
hashes_moved states hashes row layer None = hashes
hashes_moved states hashes row layer (Some made) = hashes_after states hashes row layer made

abbrev pub costs_moved : List ℕ → List ℕ → ℕ → ℕ → Option (Answer (List ℕ) Refusal) → List ℕ
costs_moved states costs row layer None = costs
costs_moved states costs row layer (Some made) = costs_after states costs row layer made 0
