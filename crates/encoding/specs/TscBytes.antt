-- A TSC proof with id and root target, as its writer has it: its content with the hashes themselves, and the bytes that the layout gives it (document 000; 01, "Layouts").
use Rattle.std.specs.Prelude.{List, ◌∷◌, ◌++◌, map, ℕ, ◌^◌, ◌≤◌, ◌<◌, length}
use Rattle.format.specs.Bytes.{hash_at}
use Rattle.format.specs.Tsc.{Tsc}
use Rattle.format.specs.Id.{subject_id}
use Rattle.format.specs.Refusals.{MAX_HEIGHT}
use Rattle.encoding.specs.Encode.{encode_all, Fits}
use Rattle.encoding.specs.Digits.{varint_bytes}
use Rattle.encoding.specs.BumpBytes.{Carried, plain, copy, client, carried_bytes, carried_of, HashFit}

-- position, transaction id, root, and the nodes going up: each a hash or a copy of the working hash
pub record TscContent : Type 0 where
  pub index : ℕ
  pub id : List ℕ
  pub root : List ℕ
  pub nodes : List Carried

-- ---- its bytes

-- bit 0 is not set: an id; flags AND 6 is 4: a root
abbrev pub ID_AND_ROOT : ℕ
ID_AND_ROOT = 4

-- flags one byte, index VarInt, the id, the root, a node count VarInt, then the nodes: a type byte, 0 followed by 32 bytes or 1 for a copy
unfoldable pub tsc_bytes : TscContent → List ℕ
tsc_bytes c =
    ID_AND_ROOT ∷ (varint_bytes c.index ++ (c.id ++ (c.root ++ (varint_bytes (length c.nodes) ++ encode_all carried_bytes c.nodes))))

-- ---- what a reading says: the places it gives, with the 32 bytes that stand there

abbrev pub tsc_content_of : List ℕ → Tsc → TscContent
tsc_content_of s t = record { index = t.index; id = subject_id s t.subject; root = hash_at s t.target; nodes = map (carried_of s) t.nodes }

-- ---- the limits of the layout

-- a client's id does not stand in a TSC proof
unfoldable pub NodeFit : Carried → Type 0
NodeFit (plain h) = HashFit h
NodeFit copy = Unit
NodeFit (client h) = ⊥

-- each node fits, whatever stands before it
abbrev pub NodesFit : List Carried → Type 0
NodesFit l = Fits {S = Unit {0}} (λ _. NodeFit) (λ u _. u) tt l

-- a content that the layout can have: a position is below 2 ^ layers
pub record TscFit (c : TscContent) : Type 0 where
  pub index_fits : c.index < 2 ^ length c.nodes
  pub low : length c.nodes ≤ MAX_HEIGHT
  pub id_fits : HashFit c.id
  pub root_fits : HashFit c.root
  pub nodes_fit : NodesFit c.nodes
