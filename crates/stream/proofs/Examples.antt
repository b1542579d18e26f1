-- Item 10 by computation, with the size of the paper and with small ones.
use mathlib.Core.Path.{◌≡◌, refl}
use mathlib.Core.List.{List, [], ◌∷◌, ◌++◌, map}
use Prim.Native.Nat.{ℕ}
use lib.ListN.{replicate}
use Rattle.hash.specs.Sha256.{sha256d}
use Rattle.format.specs.Parse.{many, each}
use Rattle.format.specs.Field.{bytes, byte, varint}
use Rattle.format.specs.Transaction.{script_field, input_field, takes, output_field, outputs_field, some_field, list_field, fields_by, tx_field_by}
use Rattle.format.specs.Id.{txid}
use Rattle.stream.specs.Parts.{MAX_PARTS, reading, more, refused, received, came, closed, says}

-- the smallest transaction: 60 bytes, one input and one output, scripts empty
abbrev pub t60 : List ℕ
t60 = 1 ∷ 0 ∷ 0 ∷ 0 ∷ 1 ∷ replicate 32 7 ++ 0 ∷ 0 ∷ 0 ∷ 0 ∷ 0 ∷ 255 ∷ 255 ∷ 255 ∷ 255 ∷ 1 ∷ 9 ∷ 0 ∷ 0 ∷ 0 ∷ 0 ∷ 0 ∷ 0 ∷ 0 ∷ 0 ∷ 0 ∷ 0 ∷ 0 ∷ 0 ∷ []

-- nothing; a VarInt cut; the same, then not the shortest, told by the part that completes it; no inputs
pub short : map (says MAX_PARTS) (came [] ∷ closed [] ∷ came (1 ∷ 0 ∷ 0 ∷ 0 ∷ 253 ∷ 0 ∷ []) ∷ closed (1 ∷ 0 ∷ 0 ∷ 0 ∷ 253 ∷ 0 ∷ []) ∷ came (1 ∷ 0 ∷ 0 ∷ 0 ∷ 253 ∷ 0 ∷ 0 ∷ []) ∷ came (1 ∷ 0 ∷ 0 ∷ 0 ∷ 0 ∷ []) ∷ [])
    ≡ more ∷ refused 2 0 ∷ more ∷ refused 2 4 ∷ refused 3 4 ∷ refused 11 4 ∷ []
unfolding reading fields_by tx_field_by list_field some_field varint byte bytes many each
short = refl

-- whole; one byte more; within the size, at it, and past it: 1 is ahead of 9
pub edges : map (says MAX_PARTS) (came t60 ∷ closed t60 ∷ came (t60 ++ 0 ∷ []) ∷ closed (t60 ++ 0 ∷ []) ∷ [])
    ≡ more ∷ received 60 1 1 (sha256d t60) ∷ refused 9 60 ∷ refused 9 60 ∷ []
unfolding reading fields_by tx_field_by list_field script_field some_field input_field takes output_field outputs_field varint byte bytes many each txid
edges = refl

pub sizes : (says 60 (closed t60) ≡ received 60 1 1 (sha256d t60)) × (says 60 (came (t60 ++ 0 ∷ [])) ≡ refused 1 0) × (says 59 (came t60) ≡ refused 1 0) × (says 4 (came (1 ∷ 0 ∷ 0 ∷ 0 ∷ 0 ∷ [])) ≡ refused 1 0) × (says 5 (came (1 ∷ 0 ∷ 0 ∷ 0 ∷ 0 ∷ 9 ∷ [])) ≡ refused 11 4)
unfolding reading fields_by tx_field_by list_field script_field some_field input_field takes output_field outputs_field varint byte bytes many each txid
sizes = (refl, refl, refl, refl, refl)

-- 64 bytes (02, Item 13): 11 with the last of them, ahead of 9 and of 1; nothing before it
abbrev t64 : List ℕ → List ℕ
t64 last = 1 ∷ 0 ∷ 0 ∷ 0 ∷ 1 ∷ replicate 32 7 ++ 0 ∷ 0 ∷ 0 ∷ 0 ∷ 4 ∷ 5 ∷ 5 ∷ 5 ∷ 5 ∷ 255 ∷ 255 ∷ 255 ∷ 255 ∷ 1 ∷ 9 ∷ 0 ∷ 0 ∷ 0 ∷ 0 ∷ 0 ∷ 0 ∷ 0 ∷ 0 ∷ 0 ∷ 0 ∷ 0 ∷ last

pub node-sized : (map (says MAX_PARTS) (came (t64 []) ∷ came (t64 (0 ∷ [])) ∷ closed (t64 (0 ∷ [])) ∷ came (t64 (0 ∷ 0 ∷ [])) ∷ []) ≡ more ∷ refused 11 0 ∷ refused 11 0 ∷ refused 11 0 ∷ [])
    × (map (λ size. says size (came (t64 (0 ∷ 0 ∷ [])))) (64 ∷ 63 ∷ []) ≡ refused 11 0 ∷ refused 1 0 ∷ [])
unfolding reading fields_by tx_field_by list_field script_field some_field input_field takes output_field outputs_field varint byte bytes many each txid
node-sized = (refl, refl)
