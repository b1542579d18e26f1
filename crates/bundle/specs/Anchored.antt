-- The transactions that name a BUMP, and what each comes to by it, kept in four numbers a transaction: the number of its refusal, the layer and the
-- sibling, or 0, 0 and its position; then the joins of its climb.
use Rattle.std.specs.Prelude.{Option, ℕ, ◌+◌, ◌*◌, ◌%◌, ◌≤◌, ◌<◌, ◌≡◌, List, eqb, get_or, set, Ok, Err, Some}
use Rattle.format.specs.declared.bump.BumpHead.{BumpHead}
use Rattle.format.specs.Parse.{pick}
use Rattle.format.specs.Bytes.{hash_at}
use Rattle.format.specs.BeefAnswer.{no_bump}
use Rattle.format.specs.Refusals.{MAX_BUMPS}
use Rattle.path.specs.declared.path.Path.{Path}
use Rattle.path.specs.Path.{bump_path_of}
use Rattle.spv.specs.Prove.{prove}
use Rattle.spv.specs.Readings.{path_reading}
use Rattle.spv.specs.Shapes.{proved_of}
use Rattle.climbs.specs.Proofs.{joins_in, proved_at}
use Rattle.bundle.specs.Bundle.{trusted, Ruling, standing}
use Rattle.bundle.specs.BundleHeads.{head_proving}
use Rattle.bundle.specs.Ahead.{span_at, span_id}

abbrev pub ENDS_ROOM : ℕ
ENDS_ROOM = 1024

-- ---- four numbers of a transaction

unfoldable pub end_number : Ruling → ℕ
end_number (Err why) = why.number
end_number (Ok t) = 0

unfoldable pub end_layer : Ruling → ℕ
end_layer (Err why) = why.layer
end_layer (Ok t) = 0

unfoldable pub end_place : Ruling → ℕ
end_place (Err why) = why.sibling
end_place (Ok t) = t.position

unfoldable pub put_four : List ℕ → ℕ → ℕ → ℕ → ℕ → ℕ → List ℕ
put_four ends i number layer place joins = set (set (set (set ends (4 * i) number) (4 * i + 1) layer) (4 * i + 2) place) (4 * i + 3) joins

abbrev pub put_end : List ℕ → ℕ → Ruling → ℕ → List ℕ
put_end ends i t joins = put_four ends i (end_number t) (end_layer t) (end_place t) joins

-- the ruling by the BUMP with a number, of the first three
unfoldable pub ruling_by : ℕ → ℕ → ℕ → ℕ → Ruling
ruling_by bump number layer place =
    pick (eqb (number % 256) 0) (Ok (standing 1 bump place)) (Err (record { number = number % 256; carried = 0; layer = layer; sibling = place }))

unfoldable pub ruling_at : List ℕ → ℕ → ℕ → Ruling
ruling_at ends bump i = ruling_by bump (get_or ends (4 * i) 0) (get_or ends (4 * i + 1) 0) (get_or ends (4 * i + 2) 0)

unfoldable pub joins_at : List ℕ → ℕ → ℕ
joins_at ends i = get_or ends (4 * i + 3) 0

-- ---- what they must be

-- an id by the BUMP with a number, to a root of the list
unfoldable pub mined_by : List ℕ → List ℕ → List BumpHead → ℕ → List ℕ → Ruling
mined_by s roots bumps bump id = trusted roots bump (head_proving s (get_or bumps bump no_bump) id)

-- the joins of its climb
unfoldable pub mined_joins : List ℕ → List BumpHead → ℕ → List ℕ → ℕ
mined_joins s bumps bump id = joins_in s (bump_path_of s (get_or bumps bump no_bump)) id

-- what is kept of the i-th transaction is what it comes to by the BUMP that it names
unfoldable pub Right : List ℕ → List ℕ → List BumpHead → List ℕ → List ℕ → List ℕ → ℕ → Type 0
Right s roots bumps anchors ids ends i =
    (ruling_at ends (get_or anchors i 0) i ≡ mined_by s roots bumps (get_or anchors i 0) (hash_at ids (32 * i))) × (joins_at ends i ≡ mined_joins s bumps (get_or anchors i 0) (hash_at ids (32 * i)))

-- none of n names a BUMP
unfoldable pub Unnamed : List ℕ → ℕ → ℕ → Type 0
Unnamed anchors bump n = (k : ℕ) → k < n → get_or anchors k 0 ≡ bump → ⊥

-- so many rows hold the ids of the transactions in their slots
unfoldable pub HoldIds : List ℕ → List ℕ → List ℕ → ℕ → Type 0
HoldIds ids slots hashes count = (r : ℕ) → r < count → hash_at hashes (32 * r) ≡ hash_at ids (32 * get_or slots r 0)

-- the transactions among the first n that name a BUMP, each with its id
pub record Gathered (anchors ids : List ℕ) (bump n : ℕ) (slots hashes : List ℕ) (count : ℕ) : Type 0 where
  pub few : count ≤ n
  pub low : (r : ℕ) → r < count → get_or slots r 0 < n
  pub names : (r : ℕ) → r < count → get_or anchors (get_or slots r 0) 0 ≡ bump
  pub held : HoldIds ids slots hashes count
  pub onto : (i : ℕ) → i < n → get_or anchors i 0 ≡ bump → (r : ℕ) × (r < count) × (get_or slots r 0 ≡ i)

-- the ends of the transactions in the slots are put, and none that is right is lost
unfoldable pub Settled : List ℕ → List ℕ → Path → ℕ → List ℕ → List ℕ → List ℕ → List ℕ → ℕ → Type 0
Settled s roots path bump ids slots ends ends' count =
    (bumps : List BumpHead) (anchors : List ℕ) → path ≡ bump_path_of s (get_or bumps bump no_bump) → ((r : ℕ) → r < count → get_or anchors (get_or slots r 0) 0 ≡ bump)
    → ((i : ℕ) → Right s roots bumps anchors ids ends i → Right s roots bumps anchors ids ends' i) × ((r : ℕ) → r < count → Right s roots bumps anchors ids ends' (get_or slots r 0))

-- the same by what the rows say, as far as they say what proving the ids comes to
unfoldable pub SettlesRows : List ℕ → ℕ → ℕ → List ℕ → List ℕ → List ℕ → List ℕ → List ℕ → List ℕ → List ℕ → List ℕ → ℕ → Type 0
SettlesRows roots layers bump ids slots starts states hashes costs ends ends' count =
    (s : List ℕ) (path : Path)
    → ((r : ℕ) → r < count → proved_at layers (hash_at ids (32 * get_or slots r 0)) starts states hashes r ≡ proved_of (prove (path_reading s path (hash_at ids (32 * get_or slots r 0)))))
    → ((r : ℕ) → r < count → get_or costs r 0 ≡ joins_in s path (hash_at ids (32 * get_or slots r 0)))
    → Settled s roots path bump ids slots ends ends' count

-- the same for all that name a BUMP
unfoldable pub Risen : List ℕ → List ℕ → BumpHead → ℕ → ℕ → List ℕ → List ℕ → List ℕ → List ℕ → Type 0
Risen s roots head bump n anchors ids ends ends' =
    (bumps : List BumpHead) → head ≡ get_or bumps bump no_bump
    → ((i : ℕ) → Right s roots bumps anchors ids ends i → Right s roots bumps anchors ids ends' i) × ((i : ℕ) → i < n → get_or anchors i 0 ≡ bump → Right s roots bumps anchors ids ends' i)

-- what is kept of n transactions from a place on
unfoldable pub EndsFrom : ℕ → List ℕ → List ℕ → List BumpHead → ℕ → ℕ → List ℕ → Type 0
EndsFrom count s roots bumps at n ends =
    (k : ℕ) → k < n → (span_at count s at k).anchor < MAX_BUMPS → ruling_at ends (span_at count s at k).anchor k ≡ mined_by s roots bumps (span_at count s at k).anchor (span_id s (span_at count s at k))

-- and the joins of their climbs
unfoldable pub JoinsFrom : ℕ → List ℕ → List BumpHead → ℕ → ℕ → List ℕ → Type 0
JoinsFrom count s bumps at n ends =
    (k : ℕ) → k < n → (span_at count s at k).anchor < MAX_BUMPS → joins_at ends k ≡ mined_joins s bumps (span_at count s at k).anchor (span_id s (span_at count s at k))

-- what an anchored transaction comes to
abbrev pub Mined : List ℕ → List ℕ → List BumpHead → List ℕ → Option ℕ → Ruling → Type 0
Mined s roots bumps id anchor t = (n : ℕ) → anchor ≡ Some n → n < MAX_BUMPS → t ≡ mined_by s roots bumps n id
