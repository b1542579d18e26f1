-- The joins that each row has spent (02, Item 11), in an array beside its state and hash: with those that it still owes they are always the same.
use Rattle.std.specs.Prelude.{◌≡◌, Result as Answer, Ok, Err, ℕ, ◌+◌, ◌-◌, ◌*◌, ◌/◌, ◌%◌, ◌^◌, ◌<◌, ◌≤◌, Bool, List, length, ◌==◌, nat_lt, slice_index, slice_set}
use Rattle.format.specs.Parse.{pick}
use Rattle.format.specs.Bytes.{hash_at}
use Rattle.spv.specs.Climb.{Siblings}
use Rattle.format.specs.declared.refusal.Refusal.{Refusal}
use Rattle.climbs.specs.Count.{climb_cost}

-- costs are kept modulo 2 ^ 64, so that no step needs to know that they fit; they do (`cost_fits`)
abbrev pub U64 : ℕ
U64 = 18446744073709551616

-- what a row still owes over the layers that are left of h; one that was refused owes none
unfoldable pub owes : Siblings → ℕ → ℕ → ℕ → List ℕ → ℕ
owes w h start state c = pick (nat_lt state 128) (climb_cost w state (h - state) (start / 2 ^ state) c) 0

unfoldable pub owes_at : Siblings → ℕ → List ℕ → List ℕ → List ℕ → ℕ → ℕ
owes_at w h starts states hashes i = owes w h (slice_index starts i) (slice_index states i) (hash_at hashes (32 * i))

-- what one layer costs beside a sibling that cost n: its own join too, if it was made
unfoldable pub paid : Answer (List ℕ) Refusal → ℕ → ℕ
paid (Ok parent) n = n + 1
paid (Err refusal) n = n

-- a row that stands at a layer pays for it; one that has no cost changes nothing
unfoldable pub costs_after : List ℕ → List ℕ → ℕ → ℕ → Answer (List ℕ) Refusal → ℕ → List ℕ
costs_after states costs row layer made n = pick (slice_index states row == layer) (slice_set costs row ((slice_index costs row + paid made n) % U64)) costs

-- a node's join, by what its children cost
unfoldable pub joined_cost : Bool → ℕ → ℕ → ℕ
joined_cost has l r = pick has ((1 + (l + r) % U64) % U64) 0

-- rows that went on, none past a layer: spent and owed come to what they came to
pub record Spent (w : Siblings) (layer : ℕ) (starts states hashes costs states' hashes' costs' : List ℕ) : Type 0 where
  pub total : (h i : ℕ) → layer ≤ h → i < length costs → (slice_index costs' i + owes_at w h starts states' hashes' i) % U64 ≡ (slice_index costs i + owes_at w h starts states hashes i) % U64
  pub kept : length costs' ≡ length costs

-- all rows that have a cost have paid what they owed
unfoldable pub Settled : Siblings → ℕ → List ℕ → List ℕ → List ℕ → List ℕ → List ℕ → Type 0
Settled w h starts states hashes costs costs' = (i : ℕ) → i < length starts → i < length costs → slice_index costs' i % U64 ≡ (slice_index costs i + owes_at w h starts states hashes i) % U64
