-- Climbs in rows: row i has a start, a state and a hash. The state is the number of layers made while the climb goes on; of one that was refused it is
-- 64 times the refusal's number, and its layer: 13 of one that was never begun, 14 or 15.
use Rattle.std.specs.Prelude.{◌≡◌, Result as Answer, Ok, Err, ℕ, ◌+◌, ◌-◌, ◌*◌, ◌/◌, ◌%◌, ◌^◌, ◌<◌, ◌≤◌, List, ◌++◌, length, ◌==◌, ◌≢◌, nat_lt, slice_index, slice_set}
use Rattle.format.specs.Parse.{pick}
use Rattle.format.specs.declared.refusal.Refusal.{Refusal}
use Rattle.format.specs.Refusals.{NOT_LISTED, MISSING, TWIN, refusal_number}
use Rattle.hash.specs.Sha256.{sha256d}
use Rattle.format.specs.Bytes.{hash_at, set_hash}
use Rattle.spv.specs.Result.{Result, accepted, refused}
use Rattle.spv.specs.Climb.{Siblings, sibling_position, ascend, end_of}
use Rattle.spv.specs.declared.rejection.Rejection.{Rejection}
use Rattle.spv.specs.declared.climb.Halves.{Halves}

unfoldable pub number_of : ℕ → ℕ
number_of state = pick (nat_lt state (64 * MISSING)) NOT_LISTED (pick (nat_lt state (64 * TWIN)) MISSING TWIN)

-- the sibling of the position that the start has at the layer; none of 13
unfoldable pub sibling_at : ℕ → ℕ → ℕ
sibling_at start state = pick (nat_lt state (64 * MISSING)) 0 (sibling_position (start / 2 ^ (state % 64)))

-- a refusal by its state
unfoldable pub refusal_of : ℕ → ℕ → Rejection
refusal_of start state = record { number = number_of state; carried = 0; layer = state % 64; sibling = sibling_at start state }

-- what a row comes to over the layers that are left of h
unfoldable pub leads : Siblings → ℕ → ℕ → ℕ → List ℕ → Result (List ℕ)
leads σ h start state c = pick (nat_lt state 128) (end_of c (ascend σ state (h - state) (start / 2 ^ state) c)) (refused (refusal_of start state))

unfoldable pub leads_at : Siblings → ℕ → List ℕ → List ℕ → List ℕ → ℕ → Result (List ℕ)
leads_at σ h starts states hashes i = leads σ h (slice_index starts i) (slice_index states i) (hash_at hashes (32 * i))

-- what a row has come to
unfoldable pub came : ℕ → ℕ → List ℕ → Result (List ℕ)
came start state c = pick (nat_lt state 128) (accepted c) (refused (refusal_of start state))

unfoldable pub came_at : List ℕ → List ℕ → List ℕ → ℕ → Result (List ℕ)
came_at starts states hashes i = came (slice_index starts i) (slice_index states i) (hash_at hashes (32 * i))

-- what a layer makes: the parent of what is hashed, or the refusal
abbrev pub made_of : Answer Halves Refusal → Answer (List ℕ) Refusal
made_of (Ok h) = Ok (sha256d (h.left ++ h.right))
made_of (Err refusal) = Err refusal

-- one layer more: how it leaves a row that stands there
unfoldable pub state_by : ℕ → Answer (List ℕ) Refusal → ℕ
state_by layer (Ok parent) = layer + 1
state_by layer (Err refusal) = 64 * refusal_number refusal + layer

unfoldable pub hashes_by : List ℕ → ℕ → Answer (List ℕ) Refusal → List ℕ
hashes_by hashes row (Ok parent) = set_hash hashes row parent
hashes_by hashes row (Err refusal) = hashes

unfoldable pub states_after : List ℕ → ℕ → ℕ → Answer (List ℕ) Refusal → List ℕ
states_after states row layer made = pick (slice_index states row == layer) (slice_set states row (state_by layer made)) states

unfoldable pub hashes_after : List ℕ → List ℕ → ℕ → ℕ → Answer (List ℕ) Refusal → List ℕ
hashes_after states hashes row layer made = pick (slice_index states row == layer) (hashes_by hashes row made) hashes

-- ---- the rows in the order of their starts

unfoldable pub Rows : List ℕ → ℕ → Type 0
Rows order n = (i : ℕ) → i < length order → slice_index order i < n

abbrev pub start_of : List ℕ → List ℕ → ℕ → ℕ
start_of starts order i = slice_index starts (slice_index order i)

abbrev pub state_of : List ℕ → List ℕ → ℕ → ℕ
state_of order states i = slice_index states (slice_index order i)

unfoldable pub Sorted : List ℕ → List ℕ → Type 0
Sorted starts order = (i j : ℕ) → i ≤ j → j < length order → start_of starts order i ≤ start_of starts order j

-- those from lo to hi lie under a position of a layer
unfoldable pub Under : List ℕ → List ℕ → ℕ → ℕ → ℕ → ℕ → Type 0
Under starts order layer q lo hi = (i : ℕ) → lo ≤ i → i < hi → start_of starts order i / 2 ^ layer ≡ q

-- none of them stands at a layer
unfoldable pub NotAt : List ℕ → List ℕ → ℕ → ℕ → ℕ → Type 0
NotAt order states layer lo hi = (i : ℕ) → lo ≤ i → i < hi → state_of order states i ≢ layer

-- all of them have come up to a layer
unfoldable pub Reached : List ℕ → List ℕ → ℕ → ℕ → ℕ → Type 0
Reached order states layer lo hi = (i : ℕ) → lo ≤ i → i < hi → layer ≤ state_of order states i

-- rows that went on, none past a layer, come to what they came to
pub record Moved (σ : Siblings) (layer : ℕ) (starts states hashes states' hashes' : List ℕ) : Type 0 where
  pub leads : (h i : ℕ) → layer ≤ h → leads_at σ h starts states' hashes' i ≡ leads_at σ h starts states hashes i
  pub grows : (i : ℕ) → slice_index states i ≤ slice_index states' i
