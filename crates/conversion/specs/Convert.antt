-- To and from TSC proofs (02, Item 6): what a proof comes to in the other form, by the siblings that its climb took.
use Rattle.std.specs.Prelude.{List, [], ◌∷◌, map, ℕ, ◌+◌, ◌/◌, eqb}
use Rattle.format.specs.Parse.{pick}
use Rattle.format.specs.Tsc.{Tsc, has_header, tsc_whole}
use Rattle.format.specs.Refusals.{BAD_HEIGHT}
use Rattle.encoding.specs.BumpBytes.{client, Entry, Content, bump_bytes}
use Rattle.encoding.specs.TscBytes.{TscContent, tsc_bytes}
use Rattle.spv.specs.Result.{Result, refused, carrying, after_reading, follow}
use Rattle.spv.specs.Climb.{Sibling, odd, sibling_position}
use Rattle.spv.specs.Prove.{Proof, prove}
use Rattle.spv.specs.Readings.{bump_reading, tsc_reading}
use Rattle.spv.specs.Trace.{as_carried}
use Rattle.block.specs.Output.{room_for}

-- ---- a BUMP "with one client leaf"

unfoldable pub client_entry : ℕ → List ℕ → Entry
client_entry i id = record { offset = i; carried = client id }

-- the sibling of position j; "copies stay copies"
unfoldable pub sibling_entry : ℕ → Sibling → Entry
sibling_entry j p = record { offset = sibling_position j; carried = as_carried p }

-- level 0: the client's leaf and its sibling, "and offsets rise"
unfoldable pub client_level : ℕ → List ℕ → Sibling → List Entry
client_level i id p = pick (odd i) (sibling_entry i p ∷ client_entry i id ∷ []) (client_entry i id ∷ sibling_entry i p ∷ [])

-- the levels above: the sibling alone, from position j on
unfoldable pub sibling_levels : ℕ → List Sibling → List (List Entry)
sibling_levels j [] = []
sibling_levels j (p ∷ l) = (sibling_entry j p ∷ []) ∷ sibling_levels (j / 2) l

unfoldable pub client_levels : ℕ → List ℕ → List Sibling → List (List Entry)
client_levels i id [] = []
client_levels i id (p ∷ l) = client_level i id p ∷ sibling_levels (i / 2) l

-- "the caller giving the block height"; as many levels as the proof has layers
unfoldable pub client_bump : ℕ → Proof → Content
client_bump block p = record { block = block; height = p.layers; levels = client_levels p.position p.id p.siblings }

-- the node count stands after the target
unfoldable pub node_count_at : Tsc → ℕ
node_count_at t = t.target + pick (has_header t.flags) 80 32

-- "the reader's and the climb's in 01's order; then 4 at a TSC node count of 0; then 22"
unfoldable pub tsc_to_bump : List ℕ → ℕ → ℕ → Result (List ℕ)
tsc_to_bump s block room =
    after_reading (tsc_whole s) (λ t. follow (prove (tsc_reading s)) (λ p.
    pick (eqb p.layers 0) (refused (carrying BAD_HEIGHT (node_count_at t))) (room_for room (bump_bytes (client_bump block p)))))

-- ---- "a TSC proof with id and root target"

unfoldable pub id_tsc : Proof → TscContent
id_tsc p = record { index = p.position; id = p.id; root = p.root; nodes = map as_carried p.siblings }

-- "one id's climb in a BUMP"
unfoldable pub bump_to_tsc : List ℕ → List ℕ → ℕ → Result (List ℕ)
bump_to_tsc s id room = follow (prove (bump_reading s id)) (λ p. room_for room (tsc_bytes (id_tsc p)))
