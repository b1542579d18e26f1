-- Proofs of many ids by one path: each row of a list of hashes holds an id, and gets what the id's own proof comes to.
use Rattle.std.specs.Prelude.{Option, Some, None, Result as Answer, Ok, Err, ℕ, zero, suc, ◌+◌, ◌*◌, Bool, true, false, ◌&&◌, List, [], ◌++◌, length, drop, replicate, ◌==◌, nat_le, slice_index}
use Rattle.format.specs.Parse.{pick}
use Rattle.format.specs.Bytes.{hash_at}
use Rattle.path.specs.declared.path.Form.{Form}
use Rattle.path.specs.declared.path.Path.{Path}
use Rattle.path.specs.Path.{LAYERS, leaf_in, start_in}
use Rattle.spv.specs.Result.{Result, accepted, refused}
use Rattle.spv.specs.Prove.{Proof, prove}
use Rattle.spv.specs.Readings.{path_reading}
use Rattle.spv.specs.Rows.{rows}
use Rattle.spv.specs.Siblings.{written_by}
use Rattle.spv.specs.Shapes.{accepted_of}
use Rattle.spv.specs.declared.prove.Proved.{Proved}
use Rattle.spv.specs.declared.rejection.Rejection.{Rejection}
use Rattle.climbs.specs.Row.{refusal_of}
use Rattle.climbs.specs.Count.{start_cost}

-- rows that are proved at once
abbrev pub ROWS : ℕ
ROWS = 256

abbrev pub is_bump : Form → Bool
is_bump Form.Bump = true
is_bump Form.Cmp = false
is_bump Form.Tsc = false

-- layers that can be climbed, and room for so many rows
unfoldable pub has_room : ℕ → ℕ → ℕ → ℕ → Bool
has_room layers count states hashes = nat_le layers LAYERS && (nat_le count ROWS && (nat_le count states && nat_le (32 * count) hashes))

-- the same of the levels of a BUMP
unfoldable pub fits : Path → ℕ → ℕ → ℕ → Bool
fits path count states hashes = is_bump path.form && has_room path.layers count states hashes

-- the root that an id's own proof comes to, or its refusal
unfoldable pub root_by : Result Proof → Result (List ℕ)
root_by (accepted p) = accepted p.root
root_by (refused why) = refused why

unfoldable pub root_in : List ℕ → Path → List ℕ → Result (List ℕ)
root_in s path id = root_by (prove (path_reading s path id))

-- the joins of the same proof, from where the id stands
unfoldable pub joins_in : List ℕ → Path → List ℕ → ℕ
joins_in s path id = start_cost (written_by s (leaf_in s path)) path.layers id (start_in s path id)

-- a row's start: where the id stands, 0 if nowhere
unfoldable pub start_row : Option ℕ → ℕ
start_row (Some position) = position
start_row None = 0

-- a row's state: 0 if accepted; of a refusal 64 times its number, and its layer
unfoldable pub state_row : Result (List ℕ) → ℕ
state_row (accepted root) = 0
state_row (refused why) = 64 * why.number + why.layer

-- a row's hash: the root, zeros if refused
unfoldable pub root_row : Result (List ℕ) → List ℕ
root_row (accepted root) = root
root_row (refused why) = replicate 32 0

-- n hashes, the i-th of them f i
unfoldable pub end_to_end : (ℕ → List ℕ) → ℕ → List ℕ
end_to_end f zero = []
end_to_end f (suc n) = end_to_end f n ++ f n

-- the id in row i
abbrev pub id_at : List ℕ → ℕ → List ℕ
id_at hashes i = hash_at hashes (32 * i)

-- as many rows as there are starts get their answers, if there is room for them; what lies past them stays as it was
module _ (s : List ℕ) (path : Path) (starts states hashes : List ℕ) where
  unfoldable pub starts_of : List ℕ
  starts_of = pick (fits path (length starts) (length states) (length hashes)) (rows (λ i. start_row (start_in s path (id_at hashes i))) (length starts)) starts

  unfoldable pub states_of : List ℕ
  states_of =
      pick (fits path (length starts) (length states) (length hashes)) (rows (λ i. state_row (root_in s path (id_at hashes i))) (length starts) ++ drop (length starts) states) states

  unfoldable pub roots_of : List ℕ
  roots_of =
      pick (fits path (length starts) (length states) (length hashes)) (end_to_end (λ i. root_row (root_in s path (id_at hashes i))) (length starts) ++ drop (32 * length starts) hashes) hashes

  -- the joins of their proofs, if there is a cost for each
  unfoldable pub costs_of : List ℕ → List ℕ
  costs_of costs =
      pick (fits path (length starts) (length states) (length hashes) && nat_le (length starts) (length costs))
      (rows (λ i. joins_in s path (id_at hashes i)) (length starts) ++ drop (length starts) costs) costs

-- what a row says of an id
unfoldable pub proved_at : ℕ → List ℕ → List ℕ → List ℕ → List ℕ → ℕ → Answer Proved Rejection
proved_at layers id starts states hashes i =
    pick (slice_index states i == 0) (Ok (accepted_of (slice_index starts i) layers id (hash_at hashes (32 * i)))) (Err (refusal_of (slice_index starts i) (slice_index states i)))
