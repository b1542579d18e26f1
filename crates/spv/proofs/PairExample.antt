-- Demand 3 is not idle. Nobody knows two strings of one double SHA-256, so no example of its pair can be written down for it; the climb and the comparing
-- take any hash of 32 bytes, and by one that keeps only the first half of what it is given, two proofs of different ids do come to one root.
use Prim.Native.Nat.{ℕ}
use mathlib.Core.Path.{◌≡◌, refl, ap, ap₂}
use mathlib.Core.List.{List, [], ◌∷◌, ◌++◌}
use native.Mathlib.Omega.{arith}
use lib.ListN.{length, get_or, take, replicate, length-append, length-replicate, length-take}
use Rattle.path.specs.declared.path.Form.{Form}
use Rattle.format.specs.Bytes.{same, hash_at}
use Rattle.format.specs.Parse.{each, many, whole}
use Rattle.format.specs.Field.{bytes, byte, varint}
use Rattle.format.specs.Level.{holds, offset_field, flag_field, kind_field, carried_field, leaf_field, level_field, level_of_turn}
use Rattle.format.specs.Bump.{block_field, height_up_to, bump_up_to}
use Rattle.format.specs.Cmp.{top_up_to, cmp_up_to}
use Rattle.path.specs.Search.{carries, lesser, lookup, least_offset}
use Rattle.spv.specs.Result.{accepted}
use Rattle.spv.specs.Climb.{value, sibling_position, joined, step, ascend_by, end_by, preimages_of, siblings_of}
use Rattle.spv.specs.Compare.{meet_by, strings_of, alike, against_by, compare_by, pair}
use Rattle.spv.proofs.Collide.{CollidedBy}
use Rattle.spv.specs.Siblings.{written, sibling, level_siblings}
use Rattle.spv.specs.Values.{value_by, value_of, worked_out}
use Rattle.spv.specs.Readings.{starting, levels_reading, bump_reading_up_to, cmp_reading_up_to, reading, reading_up_to}
use Rattle.spv.proofs.Demand3.{demand3_by}
use Rattle.spv.specs.Prove.{Proof, hits, settle, prove_by}

-- the first 32 bytes, filled up with zeros
abbrev pub first_half : List ℕ → List ℕ
first_half t = take 32 (t ++ replicate 32 0)

pub half_wide : (t : List ℕ) → length (first_half t) ≡ 32
half_wide t = simp (length-take, length-append, length-replicate) (omega arith)

abbrev pub hash_of : ℕ → List ℕ
hash_of n = replicate 32 n

-- a BUMP of two layers: at position 2 the id of 1s, beside it 3s, and 4s beside the layer above
abbrev pub bump : List ℕ
bump = 0x00 ∷ 0x02 ∷ 0x02 ∷ 0x02 ∷ 0x02 ∷ (hash_of 1 ++ (0x03 ∷ 0x00 ∷ (hash_of 3 ++ (0x01 ∷ 0x00 ∷ 0x00 ∷ hash_of 4))))

-- a CMP of two layers: at position 2 the id of 2s, the rest the same
abbrev pub cmp : List ℕ
cmp = 0x01 ∷ 0x01 ∷ 0x00 ∷ (hash_of 4 ++ (0x02 ∷ 0x02 ∷ (hash_of 2 ++ (0x03 ∷ hash_of 3))))

-- what each proves: one root, position and number of layers, and different ids
abbrev pub proof_from : ℕ → Proof
proof_from n = record { id = hash_of n; position = 2; layers = 2; root = hash_of 4; preimages = (hash_of n ++ hash_of 3) ∷ (hash_of 4 ++ hash_of n) ∷ []; siblings = value (hash_of 3) ∷ value (hash_of 4) ∷ [] }

pub bump-accepted : prove_by first_half (reading Form.Bump bump (hash_of 1)) ≡ accepted (proof_from 1)
unfolding varint byte bytes many each holds offset_field flag_field kind_field carried_field leaf_field level_field level_of_turn block_field height_up_to bump_up_to whole least_offset lesser carries hash_at same lookup written sibling level_siblings worked_out value_of value_by sibling_position joined step ascend_by end_by preimages_of siblings_of hits settle prove_by starting levels_reading bump_reading_up_to reading_up_to
bump-accepted = refl

pub cmp-accepted : prove_by first_half (reading Form.Cmp cmp (hash_of 2)) ≡ accepted (proof_from 2)
unfolding varint byte bytes many each holds offset_field flag_field kind_field carried_field leaf_field level_field level_of_turn top_up_to cmp_up_to whole least_offset lesser carries hash_at same lookup written sibling level_siblings worked_out value_of value_by sibling_position joined step ascend_by end_by preimages_of siblings_of hits settle prove_by starting levels_reading cmp_reading_up_to reading_up_to
cmp-accepted = refl

ids_differ : hash_of 1 ≡ hash_of 2 → ⊥
ids_differ e = let first : ◌≡◌ {A = ℕ} 1 2 = ap (λ (l : List ℕ). get_or l 0 0) e in omega arith

-- so demand 3 speaks of them
pub demand3_example : CollidedBy first_half (proof_from 1) (proof_from 2) (compare_by first_half (prove_by first_half (reading Form.Bump bump (hash_of 1))) (prove_by first_half (reading Form.Cmp cmp (hash_of 2))))
demand3_example = demand3_by Form.Bump Form.Cmp bump cmp (hash_of 1) (hash_of 2) first_half half_wide (proof_from 1) (proof_from 2) bump-accepted cmp-accepted refl refl refl ids_differ

-- and comparing answers the strings of the second layer, the lowest where they meet
pub pair_example : compare_by first_half (prove_by first_half (reading Form.Bump bump (hash_of 1))) (prove_by first_half (reading Form.Cmp cmp (hash_of 2))) ≡ pair (hash_of 4 ++ hash_of 1) (hash_of 4 ++ hash_of 2)
unfolding compare_by against_by alike meet_by strings_of same
pair_example = ap₂ (compare_by first_half) bump-accepted cmp-accepted
