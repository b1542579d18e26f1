-- Comparing proofs of different numbers of layers is not idle: by the hash of `PairExample`, which keeps only the first half of what it is given, a raw
-- transaction has an inner node's hash, and a pair is answered, once with the transaction itself and once with two strings above it.
use Prim.Native.Nat.{ℕ, ◌<◌, zero-le, suc-le-suc}
use mathlib.Core.Path.{◌≡◌, refl, ap₂}
use mathlib.Core.List.{List, [], ◌∷◌, ◌++◌}
use lib.ListN.{take, replicate}
use Rattle.path.specs.declared.path.Form.{Form}
use Rattle.format.specs.Bytes.{same, hash_at}
use Rattle.format.specs.Parse.{each, many, whole, ok}
use Rattle.format.specs.Field.{bytes, byte, varint}
use Rattle.format.specs.Level.{holds, offset_field, flag_field, kind_field, carried_field, leaf_field, level_field, level_of_turn}
use Rattle.format.specs.Bump.{block_field, height_up_to, bump_up_to}
use Rattle.format.specs.Transaction.{script_field, input_field, takes, output_field, outputs_field, some_field, list_field, Transaction, fields_by, tx_field_by, tx_whole}
use Rattle.path.specs.Search.{carries, lesser, lookup, least_offset}
use Rattle.spv.specs.Result.{accepted}
use Rattle.spv.specs.Climb.{value, sibling_position, joined, step, ascend_by, end_by, preimages_of, siblings_of}
use Rattle.spv.specs.Compare.{meet_by}
use Rattle.spv.specs.Siblings.{written, sibling, level_siblings}
use Rattle.spv.specs.Values.{value_by, value_of, worked_out}
use Rattle.spv.specs.Readings.{starting, levels_reading, bump_reading_up_to, reading, reading_up_to}
use Rattle.spv.proofs.PairExample.{first_half, half_wide, hash_of, cmp, proof_from, cmp-accepted}
use Rattle.spv.specs.Depth.{halved, deeper, transaction, strings, pair_of, lowest_by, matched, against_deeper_by, uneven_by, depth_by}
use Rattle.spv.proofs.Demand3Depth.{DeeperBy, DepthCollided, demand3_depth_by}
use Rattle.spv.specs.Prove.{Proof, hits, settle, prove_by}

-- a raw transaction of 62 bytes: one input, one output
abbrev pub raw : List ℕ
raw = 1 ∷ 0 ∷ 0 ∷ 0 ∷ 1 ∷ (replicate 36 0 ++ (2 ∷ 7 ∷ 7 ∷ 8 ∷ 8 ∷ 8 ∷ 8 ∷ 1 ∷ (replicate 9 0 ++ (3 ∷ 3 ∷ 3 ∷ 3 ∷ []))))

abbrev pub raw_read : Transaction
raw_read = record { start = 0; end = 62; inputs_at = 5; inputs = record { parent = 5; output = 37 } ∷ []; outputs_at = 49; outputs = 0 ∷ [] }

pub raw_reads : tx_whole raw ≡ ok raw_read 62
unfolding fields_by tx_field_by list_field script_field some_field input_field output_field outputs_field takes varint bytes byte many each whole
raw_reads = refl

-- its id by that hash
abbrev pub raw_id : List ℕ
raw_id = take 32 raw

-- a BUMP of one layer: at position 1 the transaction's id, beside it 4s
abbrev pub short : List ℕ
short = 0x00 ∷ 0x01 ∷ 0x02 ∷ 0x00 ∷ 0x00 ∷ (hash_of 4 ++ (0x01 ∷ 0x02 ∷ raw_id))

abbrev pub short_proof : Proof
short_proof = record { id = raw_id; position = 1; layers = 1; root = hash_of 4; preimages = (hash_of 4 ++ raw_id) ∷ []; siblings = value (hash_of 4) ∷ [] }

pub short_accepted : prove_by first_half (reading Form.Bump short raw_id) ≡ accepted short_proof
unfolding varint byte bytes many each holds offset_field flag_field kind_field carried_field leaf_field level_field level_of_turn block_field height_up_to bump_up_to whole least_offset lesser carries hash_at same lookup written sibling level_siblings worked_out value_of value_by sibling_position joined step ascend_by end_by preimages_of siblings_of hits settle prove_by starting levels_reading bump_reading_up_to reading_up_to
short_accepted = refl

-- a BUMP of two layers: at position 3 the id of 2s, beside it the transaction's id, and 4s beside the layer above
abbrev pub long : List ℕ
long = 0x00 ∷ 0x02 ∷ 0x02 ∷ 0x02 ∷ 0x00 ∷ (raw_id ++ (0x03 ∷ 0x02 ∷ (hash_of 2 ++ (0x01 ∷ 0x00 ∷ 0x00 ∷ hash_of 4))))

abbrev pub long_proof : Proof
long_proof = record { id = hash_of 2; position = 3; layers = 2; root = hash_of 4; preimages = (raw_id ++ hash_of 2) ∷ (hash_of 4 ++ raw_id) ∷ []; siblings = value raw_id ∷ value (hash_of 4) ∷ [] }

pub long-accepted : prove_by first_half (reading Form.Bump long (hash_of 2)) ≡ accepted long_proof
unfolding varint byte bytes many each holds offset_field flag_field kind_field carried_field leaf_field level_field level_of_turn block_field height_up_to bump_up_to whole least_offset lesser carries hash_at same lookup written sibling level_siblings worked_out value_of value_by sibling_position joined step ascend_by end_by preimages_of siblings_of hits settle prove_by starting levels_reading bump_reading_up_to reading_up_to
long-accepted = refl

one-two : 1 < 2
one-two = suc-le-suc (suc-le-suc zero-le)

-- both are deeper than the short one, the longer BUMP at position 3 and the CMP of `PairExample` at 2, so demand 3 speaks of them
pub long-deeper : DeeperBy first_half raw short_proof long_proof
unfolding halved
long-deeper = record { id = refl; root = refl; fewer = one-two; position = refl }

pub cmp-deeper : DeeperBy first_half raw short_proof (proof_from 2)
unfolding halved
cmp-deeper = record { id = refl; root = refl; fewer = one-two; position = refl }

pub long_example : DepthCollided first_half half_wide (prove_by first_half (reading Form.Bump short raw_id)) (prove_by first_half (reading Form.Bump long (hash_of 2))) raw short_proof long_proof
long_example = demand3_depth_by Form.Bump Form.Bump short long raw_id (hash_of 2) raw first_half half_wide short_proof long_proof short_accepted long-accepted raw_read 62 raw_reads long-deeper

pub cmp_example : DepthCollided first_half half_wide (prove_by first_half (reading Form.Bump short raw_id)) (prove_by first_half (reading Form.Cmp cmp (hash_of 2))) raw short_proof (proof_from 2)
cmp_example = demand3_depth_by Form.Bump Form.Cmp short cmp raw_id (hash_of 2) raw first_half half_wide short_proof (proof_from 2) short_accepted cmp-accepted raw_read 62 raw_reads cmp-deeper

-- the transaction itself, and the 64 bytes hashed beside it; in either order
pub transaction_example : depth_by first_half (prove_by first_half (reading Form.Bump short raw_id)) (prove_by first_half (reading Form.Bump long (hash_of 2))) raw ≡ accepted (transaction (raw_id ++ hash_of 2))
unfolding fields_by tx_field_by list_field script_field some_field input_field output_field outputs_field takes varint bytes byte many each whole halved deeper pair_of lowest_by matched against_deeper_by uneven_by depth_by meet_by same
transaction_example = ap₂ (λ v w. depth_by first_half v w raw) short_accepted long-accepted

pub turned_example : depth_by first_half (prove_by first_half (reading Form.Bump long (hash_of 2))) (prove_by first_half (reading Form.Bump short raw_id)) raw ≡ accepted (transaction (raw_id ++ hash_of 2))
unfolding fields_by tx_field_by list_field script_field some_field input_field output_field outputs_field takes varint bytes byte many each whole halved deeper pair_of lowest_by matched against_deeper_by uneven_by depth_by meet_by same
turned_example = ap₂ (λ v w. depth_by first_half v w raw) long-accepted short_accepted

-- two strings of the layer above, where the transaction's layer doesn't meet
pub strings_example : depth_by first_half (prove_by first_half (reading Form.Bump short raw_id)) (prove_by first_half (reading Form.Cmp cmp (hash_of 2))) raw ≡ accepted (strings (hash_of 4 ++ raw_id) (hash_of 4 ++ hash_of 2))
unfolding fields_by tx_field_by list_field script_field some_field input_field output_field outputs_field takes varint bytes byte many each whole halved deeper pair_of lowest_by matched against_deeper_by uneven_by depth_by meet_by same
strings_example = ap₂ (λ v w. depth_by first_half v w raw) short_accepted cmp-accepted
