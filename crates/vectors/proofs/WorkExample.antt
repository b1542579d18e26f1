-- 004's bundle costs 31 compressions (02, Item 11), by computation: two transactions of 192 and 191 bytes, 5 each, and 3 for each of the 7 layers of one climb.
use Prim.Native.Nat.{ℕ, ◌+◌, ◌%◌}
use native.Mathlib.Omega.{arith}
use mathlib.Core.Path.{◌≡◌, refl, ap, ◌∙◌}
use mathlib.Core.Bool.{Bool, true, false}
use mathlib.Core.List.{List, [], ◌∷◌, ◌++◌}
use lib.Dec.{leb, eqb}
use borrow.Author.Tests.{eq-eqb}
use lib.ListN.{length, get_or}
use Rattle.hash.specs.Sha256.{◌⊞◌, ◌⊕◌, not32, shl, shr, rotr, Ch, Maj, Σ0, Σ1, σ0, σ1, K, big_endian, word4, zeros, padding, pad, word, words, H0, W, schedule, T1, T2, round, rounds, plus, compress, H, hash_value, digest, sha256, sha256d}
use Rattle.std.specs.Prelude.{Some, None, Ok, Err}
use Rattle.format.specs.Parse.{Parse, ok, fault, pick, each, many, whole}
use Rattle.format.specs.Bytes.{same, hash_at}
use Rattle.format.specs.Field as F
use Rattle.format.specs.Level as L
use Rattle.format.specs.Bump.{Bump, block_field, height_up_to, bump_up_to}
use Rattle.format.specs.Transaction.{script_field, input_field, takes, output_field, outputs_field, some_field, list_field, fields_by, tx_field_by}
use Rattle.format.specs.Beef.{BeefEntry, Beef, version_field, bump_count_field, bumps_up_to, tx_count_field, bump_number_field, anchor_field, entry_field, entries_field, beef_up_to, beef_whole}
use Rattle.path.specs.Search.{least_offset, lookup, carries, lesser}
use Rattle.format.specs.Id.{txid}
use Rattle.spv.specs.Climb.{sibling_position, Siblings, step, joined, joins}
use Rattle.spv.specs.Values.{value_by, value_of, worked_out}
use Rattle.spv.specs.Joins.{joins_by}
use Rattle.spv.specs.Siblings.{written, sibling, written_by, find_in}
use Rattle.spv.specs.Hashes.{among}
use Rattle.bundle.specs.Bundle.{Ruling, nth_bump, entry_id, ruling}
use Rattle.bundle.proofs.BundleTheorems.{empty_entry}
use Rattle.climbs.specs.Count.{cost_of, climb_cost, start_cost}
use Rattle.bundle.specs.Amounts.{Payment, payment_of, ids_of}
use Rattle.climbs.proofs.CountLaws.{climb_joins_lem}
use Rattle.bundle.specs.Work.{id_work, sum_of, ids_work, bump_cost, anchor_cost, ruling_cost, cost_from, entries_work, read_work, judge_work}

-- ---- a bundle of an anchored transaction and one that is not

module _ (s roots : List ℕ) (fee : ℕ) (bumps : List Bump) (x y : BeefEntry) (n cost : ℕ) (ax : x.anchor ≡ Some n) (ay : y.anchor ≡ None) (climb : bump_cost s (nth_bump bumps n) (entry_id s x) ≡ cost) where
  first : ruling_cost s bumps [] x ≡ cost
  unfolding ruling_cost among anchor_cost
  first = ap (anchor_cost s bumps (entry_id s x)) ax ∙ climb

  second : (earlier : List Payment) → ruling_cost s bumps earlier y ≡ 0
  unfolding ruling_cost anchor_cost
  second earlier = go (among (entry_id s y) (ids_of earlier))
    where
      go : (t : Bool) → pick t 0 (anchor_cost s bumps (entry_id s y) y.anchor) ≡ 0
      go true = refl
      go false = ap (anchor_cost s bumps (entry_id s y)) ay

  rest : (earlier : List Payment) → cost_from (payment_of s) (ruling s roots fee bumps) (ruling_cost s bumps) earlier (y ∷ []) ≡ 0
  unfolding cost_from
  rest earlier = go (ruling s roots fee bumps earlier y)
    where
      go : (t : Ruling) → ruling_cost s bumps earlier y + elim t [ Err why ↦ 0 | Ok st ↦ 0 ] ≡ 0
      go (Err why) = omega (arith, second earlier)
      go (Ok st) = omega (arith, second earlier)

  both : cost_from (payment_of s) (ruling s roots fee bumps) (ruling_cost s bumps) [] (x ∷ y ∷ []) ≡ cost
  unfolding cost_from
  both = go (ruling s roots fee bumps [] x)
    where
      go : (t : Ruling) → ruling_cost s bumps [] x + elim t [ Err why ↦ 0 | Ok st ↦ cost_from (payment_of s) (ruling s roots fee bumps) (ruling_cost s bumps) ([] ++ (payment_of s x ∷ [])) (y ∷ []) ] ≡ cost
      go (Err why) = omega (arith, first)
      go (Ok st) = omega (arith, first, rest ([] ++ (payment_of s x ∷ [])))

-- ---- 004's

unfoldable pub bundle : List ℕ
bundle =
    0x01 ∷ 0x00 ∷ 0xbe ∷ 0xef ∷ 0x01 ∷ 0xfe ∷ 0x63 ∷ 0x6d ∷ 0x0c ∷ 0x00 ∷ 0x07 ∷ 0x02 ∷ 0x14 ∷ 0x00 ∷ 0xfe ∷ 0x50 ∷ 0x7c ∷ 0x0c ∷ 0x7a ∷ 0xa7 ∷
    0x54 ∷ 0xce ∷ 0xf1 ∷ 0xf7 ∷ 0x88 ∷ 0x9d ∷ 0x5f ∷ 0xd3 ∷ 0x95 ∷ 0xcf ∷ 0x1f ∷ 0x78 ∷ 0x5d ∷ 0xd7 ∷ 0xde ∷ 0x98 ∷ 0xee ∷ 0xd8 ∷ 0x95 ∷ 0xdb ∷
    0xed ∷ 0xfe ∷ 0x4e ∷ 0x5b ∷ 0xc7 ∷ 0x0d ∷ 0x15 ∷ 0x02 ∷ 0xac ∷ 0x4e ∷ 0x16 ∷ 0x4f ∷ 0x5b ∷ 0xc1 ∷ 0x67 ∷ 0x46 ∷ 0xbb ∷ 0x08 ∷ 0x68 ∷ 0x40 ∷
    0x42 ∷ 0x92 ∷ 0xac ∷ 0x83 ∷ 0x18 ∷ 0xbb ∷ 0xac ∷ 0x38 ∷ 0x00 ∷ 0xe4 ∷ 0xaa ∷ 0xd1 ∷ 0x3a ∷ 0x01 ∷ 0x4d ∷ 0xa4 ∷ 0x27 ∷ 0xad ∷ 0xce ∷ 0x3e ∷
    0x01 ∷ 0x0b ∷ 0x00 ∷ 0xbc ∷ 0x4f ∷ 0xf3 ∷ 0x95 ∷ 0xef ∷ 0xd1 ∷ 0x17 ∷ 0x19 ∷ 0xb2 ∷ 0x77 ∷ 0x69 ∷ 0x4c ∷ 0xfa ∷ 0xce ∷ 0x5a ∷ 0xa5 ∷ 0x0d ∷
    0x08 ∷ 0x5a ∷ 0x0b ∷ 0xb8 ∷ 0x1f ∷ 0x61 ∷ 0x3f ∷ 0x70 ∷ 0x31 ∷ 0x3a ∷ 0xcd ∷ 0x28 ∷ 0xcf ∷ 0x45 ∷ 0x57 ∷ 0x01 ∷ 0x04 ∷ 0x00 ∷ 0x57 ∷ 0x4b ∷
    0x2d ∷ 0x91 ∷ 0x42 ∷ 0xb8 ∷ 0xd2 ∷ 0x8b ∷ 0x61 ∷ 0xd8 ∷ 0x8e ∷ 0x3b ∷ 0x2c ∷ 0x3f ∷ 0x44 ∷ 0xd8 ∷ 0x58 ∷ 0x41 ∷ 0x13 ∷ 0x56 ∷ 0xb4 ∷ 0x9a ∷
    0x28 ∷ 0xa4 ∷ 0x64 ∷ 0x3b ∷ 0x6d ∷ 0x1a ∷ 0x6a ∷ 0x09 ∷ 0x2a ∷ 0x52 ∷ 0x01 ∷ 0x03 ∷ 0x00 ∷ 0x51 ∷ 0xa0 ∷ 0x5f ∷ 0xc8 ∷ 0x4d ∷ 0x53 ∷ 0x1b ∷
    0x5d ∷ 0x25 ∷ 0x0c ∷ 0x23 ∷ 0xf4 ∷ 0xf8 ∷ 0x86 ∷ 0xf6 ∷ 0x81 ∷ 0x2f ∷ 0x9f ∷ 0xe3 ∷ 0xf4 ∷ 0x02 ∷ 0xd6 ∷ 0x16 ∷ 0x07 ∷ 0xf9 ∷ 0x77 ∷ 0xb4 ∷
    0xec ∷ 0xd2 ∷ 0x70 ∷ 0x1c ∷ 0x19 ∷ 0x01 ∷ 0x00 ∷ 0x00 ∷ 0xfd ∷ 0x78 ∷ 0x15 ∷ 0x29 ∷ 0xd5 ∷ 0x8f ∷ 0xc2 ∷ 0x52 ∷ 0x3c ∷ 0xf3 ∷ 0x96 ∷ 0xa7 ∷
    0xf2 ∷ 0x54 ∷ 0x40 ∷ 0xb4 ∷ 0x09 ∷ 0x85 ∷ 0x7e ∷ 0x7e ∷ 0x22 ∷ 0x17 ∷ 0x66 ∷ 0xc5 ∷ 0x72 ∷ 0x14 ∷ 0xb1 ∷ 0xd3 ∷ 0x8c ∷ 0x7b ∷ 0x48 ∷ 0x1f ∷
    0x01 ∷ 0x01 ∷ 0x00 ∷ 0x62 ∷ 0xf5 ∷ 0x42 ∷ 0xf4 ∷ 0x5e ∷ 0xa3 ∷ 0x66 ∷ 0x0f ∷ 0x86 ∷ 0xc0 ∷ 0x13 ∷ 0xce ∷ 0xd8 ∷ 0x05 ∷ 0x34 ∷ 0xcb ∷ 0x5f ∷
    0xd4 ∷ 0xc1 ∷ 0x9d ∷ 0x66 ∷ 0xc5 ∷ 0x6e ∷ 0x7e ∷ 0x8c ∷ 0x5d ∷ 0x4b ∷ 0xf2 ∷ 0xd4 ∷ 0x0a ∷ 0xcc ∷ 0x5e ∷ 0x01 ∷ 0x01 ∷ 0x00 ∷ 0xb1 ∷ 0x21 ∷
    0xe9 ∷ 0x18 ∷ 0x36 ∷ 0xfd ∷ 0x7c ∷ 0xd5 ∷ 0x10 ∷ 0x2b ∷ 0x65 ∷ 0x4e ∷ 0x9f ∷ 0x72 ∷ 0xf3 ∷ 0xcf ∷ 0x6f ∷ 0xdb ∷ 0xfd ∷ 0x0b ∷ 0x16 ∷ 0x1c ∷
    0x53 ∷ 0xa9 ∷ 0xc5 ∷ 0x4b ∷ 0x12 ∷ 0xc8 ∷ 0x41 ∷ 0x12 ∷ 0x63 ∷ 0x31 ∷ 0x02 ∷ 0x01 ∷ 0x00 ∷ 0x00 ∷ 0x00 ∷ 0x01 ∷ 0xcd ∷ 0x4e ∷ 0x4c ∷ 0xac ∷
    0x3c ∷ 0x7b ∷ 0x56 ∷ 0x92 ∷ 0x0d ∷ 0x1e ∷ 0x76 ∷ 0x55 ∷ 0xe7 ∷ 0xe2 ∷ 0x60 ∷ 0xd3 ∷ 0x1f ∷ 0x29 ∷ 0xd9 ∷ 0xa3 ∷ 0x88 ∷ 0xd0 ∷ 0x49 ∷ 0x10 ∷
    0xf1 ∷ 0xbb ∷ 0xd7 ∷ 0x23 ∷ 0x04 ∷ 0xa7 ∷ 0x90 ∷ 0x29 ∷ 0x01 ∷ 0x00 ∷ 0x00 ∷ 0x00 ∷ 0x6b ∷ 0x48 ∷ 0x30 ∷ 0x45 ∷ 0x02 ∷ 0x21 ∷ 0x00 ∷ 0xe7 ∷
    0x52 ∷ 0x79 ∷ 0xa2 ∷ 0x05 ∷ 0xa5 ∷ 0x47 ∷ 0xc4 ∷ 0x45 ∷ 0x71 ∷ 0x94 ∷ 0x20 ∷ 0xaa ∷ 0x31 ∷ 0x38 ∷ 0xbf ∷ 0x14 ∷ 0x74 ∷ 0x3e ∷ 0x3f ∷ 0x42 ∷
    0x61 ∷ 0x8e ∷ 0x5f ∷ 0x86 ∷ 0xa1 ∷ 0x9b ∷ 0xde ∷ 0x14 ∷ 0xbb ∷ 0x95 ∷ 0xf7 ∷ 0x02 ∷ 0x20 ∷ 0x64 ∷ 0x77 ∷ 0x7d ∷ 0x34 ∷ 0x77 ∷ 0x6b ∷ 0x05 ∷
    0xd8 ∷ 0x16 ∷ 0xda ∷ 0xf1 ∷ 0x69 ∷ 0x94 ∷ 0x93 ∷ 0xfc ∷ 0xdf ∷ 0x2e ∷ 0xf5 ∷ 0xa5 ∷ 0xab ∷ 0x1a ∷ 0xd7 ∷ 0x10 ∷ 0xd9 ∷ 0xc9 ∷ 0x7b ∷ 0xfb ∷
    0x5b ∷ 0x8f ∷ 0x7c ∷ 0xef ∷ 0x36 ∷ 0x41 ∷ 0x21 ∷ 0x02 ∷ 0x63 ∷ 0xe2 ∷ 0xde ∷ 0xe2 ∷ 0x2b ∷ 0x1d ∷ 0xdc ∷ 0x5e ∷ 0x11 ∷ 0xf6 ∷ 0xfa ∷ 0xb8 ∷
    0xbc ∷ 0xd2 ∷ 0x37 ∷ 0x8b ∷ 0xdd ∷ 0x19 ∷ 0x58 ∷ 0x0d ∷ 0x64 ∷ 0x05 ∷ 0x01 ∷ 0xea ∷ 0x95 ∷ 0x6e ∷ 0xc0 ∷ 0xe7 ∷ 0x86 ∷ 0xf9 ∷ 0x3e ∷ 0x76 ∷
    0xff ∷ 0xff ∷ 0xff ∷ 0xff ∷ 0x01 ∷ 0x3e ∷ 0x66 ∷ 0x00 ∷ 0x00 ∷ 0x00 ∷ 0x00 ∷ 0x00 ∷ 0x00 ∷ 0x19 ∷ 0x76 ∷ 0xa9 ∷ 0x14 ∷ 0x6b ∷ 0xfd ∷ 0x5c ∷
    0x7f ∷ 0xbe ∷ 0x21 ∷ 0x52 ∷ 0x9d ∷ 0x45 ∷ 0x80 ∷ 0x3d ∷ 0xbc ∷ 0xf0 ∷ 0xc8 ∷ 0x7d ∷ 0xd3 ∷ 0xc7 ∷ 0x1e ∷ 0xfb ∷ 0xc2 ∷ 0x88 ∷ 0xac ∷ 0x00 ∷
    0x00 ∷ 0x00 ∷ 0x00 ∷ 0x01 ∷ 0x00 ∷ 0x01 ∷ 0x00 ∷ 0x00 ∷ 0x00 ∷ 0x01 ∷ 0xac ∷ 0x4e ∷ 0x16 ∷ 0x4f ∷ 0x5b ∷ 0xc1 ∷ 0x67 ∷ 0x46 ∷ 0xbb ∷ 0x08 ∷
    0x68 ∷ 0x40 ∷ 0x42 ∷ 0x92 ∷ 0xac ∷ 0x83 ∷ 0x18 ∷ 0xbb ∷ 0xac ∷ 0x38 ∷ 0x00 ∷ 0xe4 ∷ 0xaa ∷ 0xd1 ∷ 0x3a ∷ 0x01 ∷ 0x4d ∷ 0xa4 ∷ 0x27 ∷ 0xad ∷
    0xce ∷ 0x3e ∷ 0x00 ∷ 0x00 ∷ 0x00 ∷ 0x00 ∷ 0x6a ∷ 0x47 ∷ 0x30 ∷ 0x44 ∷ 0x02 ∷ 0x20 ∷ 0x3a ∷ 0x61 ∷ 0xa2 ∷ 0xe9 ∷ 0x31 ∷ 0x61 ∷ 0x2b ∷ 0x4b ∷
    0xda ∷ 0x08 ∷ 0xd5 ∷ 0x41 ∷ 0xcf ∷ 0xb9 ∷ 0x80 ∷ 0x88 ∷ 0x51 ∷ 0x73 ∷ 0xb8 ∷ 0xdc ∷ 0xf6 ∷ 0x4a ∷ 0x34 ∷ 0x71 ∷ 0x23 ∷ 0x8a ∷ 0xe7 ∷ 0xab ∷
    0xcd ∷ 0x36 ∷ 0x8d ∷ 0x64 ∷ 0x02 ∷ 0x20 ∷ 0x4c ∷ 0xbf ∷ 0x24 ∷ 0xf0 ∷ 0x4b ∷ 0x9a ∷ 0xa2 ∷ 0x25 ∷ 0x6d ∷ 0x89 ∷ 0x01 ∷ 0xf0 ∷ 0xed ∷ 0x97 ∷
    0x86 ∷ 0x66 ∷ 0x03 ∷ 0xd2 ∷ 0xbe ∷ 0x83 ∷ 0x24 ∷ 0xc2 ∷ 0xbf ∷ 0xb7 ∷ 0xa3 ∷ 0x7b ∷ 0xf8 ∷ 0xfc ∷ 0x90 ∷ 0xed ∷ 0xd5 ∷ 0xb4 ∷ 0x41 ∷ 0x21 ∷
    0x02 ∷ 0x63 ∷ 0xe2 ∷ 0xde ∷ 0xe2 ∷ 0x2b ∷ 0x1d ∷ 0xdc ∷ 0x5e ∷ 0x11 ∷ 0xf6 ∷ 0xfa ∷ 0xb8 ∷ 0xbc ∷ 0xd2 ∷ 0x37 ∷ 0x8b ∷ 0xdd ∷ 0x19 ∷ 0x58 ∷
    0x0d ∷ 0x64 ∷ 0x05 ∷ 0x01 ∷ 0xea ∷ 0x95 ∷ 0x6e ∷ 0xc0 ∷ 0xe7 ∷ 0x86 ∷ 0xf9 ∷ 0x3e ∷ 0x76 ∷ 0xff ∷ 0xff ∷ 0xff ∷ 0xff ∷ 0x01 ∷ 0x3c ∷ 0x66 ∷
    0x00 ∷ 0x00 ∷ 0x00 ∷ 0x00 ∷ 0x00 ∷ 0x00 ∷ 0x19 ∷ 0x76 ∷ 0xa9 ∷ 0x14 ∷ 0x6b ∷ 0xfd ∷ 0x5c ∷ 0x7f ∷ 0xbe ∷ 0x21 ∷ 0x52 ∷ 0x9d ∷ 0x45 ∷ 0x80 ∷
    0x3d ∷ 0xbc ∷ 0xf0 ∷ 0xc8 ∷ 0x7d ∷ 0xd3 ∷ 0xc7 ∷ 0x1e ∷ 0xfb ∷ 0xc2 ∷ 0x88 ∷ 0xac ∷ 0x00 ∷ 0x00 ∷ 0x00 ∷ 0x00 ∷ 0x00 ∷ []

-- the id of its first transaction
unfoldable id : List ℕ
id =
    0xac ∷ 0x4e ∷ 0x16 ∷ 0x4f ∷ 0x5b ∷ 0xc1 ∷ 0x67 ∷ 0x46 ∷ 0xbb ∷ 0x08 ∷ 0x68 ∷ 0x40 ∷ 0x42 ∷ 0x92 ∷ 0xac ∷ 0x83 ∷ 0x18 ∷ 0xbb ∷ 0xac ∷ 0x38 ∷
    0x00 ∷ 0xe4 ∷ 0xaa ∷ 0xd1 ∷ 0x3a ∷ 0x01 ∷ 0x4d ∷ 0xa4 ∷ 0x27 ∷ 0xad ∷ 0xce ∷ 0x3e ∷ []

unfoldable beef_of : Parse Beef → Beef
beef_of (ok b next) = b
beef_of (fault number place) = record { bumps = []; entries = [] }

unfoldable read : Beef
read = beef_of (beef_whole 2 bundle)

is_read : beef_whole 2 bundle ≡ ok read 677
unfolding bundle beef_of read each many whole F.byte F.bytes F.varint L.holds L.offset_field L.flag_field L.kind_field L.carried_field L.leaf_field L.level_field L.level_of_turn block_field height_up_to bump_up_to script_field input_field takes output_field outputs_field some_field list_field fields_by tx_field_by version_field bump_count_field bumps_up_to tx_count_field bump_number_field anchor_field entry_field entries_field beef_up_to
is_read = refl

first-id : entry_id bundle (get_or read.entries 0 empty_entry) ≡ id
unfolding bundle beef_of read id txid each many whole F.byte F.bytes F.varint L.holds L.offset_field L.flag_field L.kind_field L.carried_field L.leaf_field L.level_field L.level_of_turn block_field height_up_to bump_up_to script_field input_field takes output_field outputs_field some_field list_field fields_by tx_field_by version_field bump_count_field bumps_up_to tx_count_field bump_number_field anchor_field entry_field entries_field beef_up_to ◌⊞◌ ◌⊕◌ not32 shl shr rotr Ch Maj Σ0 Σ1 σ0 σ1 K big_endian word4 zeros padding pad word words H0 W schedule T1 T2 round rounds plus compress H hash_value digest sha256 sha256d
first-id = refl

starts : least_offset bundle id (get_or (nth_bump read.bumps 0).levels 0 []) ≡ Some 21
unfolding bundle beef_of read id least_offset hash_at carries lesser same each many whole F.byte F.bytes F.varint L.holds L.offset_field L.flag_field L.kind_field L.carried_field L.leaf_field L.level_field L.level_of_turn block_field height_up_to bump_up_to script_field input_field takes output_field outputs_field some_field list_field fields_by tx_field_by version_field bump_count_field bumps_up_to tx_count_field bump_number_field anchor_field entry_field entries_field beef_up_to
starts = refl

abbrev beside : Siblings
beside = written_by bundle (find_in (nth_bump read.bumps 0).levels)

-- the hashes of its climb, from the lowest layer
unfoldable c1 : List ℕ
c1 =
    0x59 ∷ 0x35 ∷ 0x59 ∷ 0x24 ∷ 0x3f ∷ 0x68 ∷ 0x37 ∷ 0x84 ∷ 0x2c ∷ 0xbe ∷ 0x9d ∷ 0x12 ∷ 0xba ∷ 0x89 ∷ 0x7c ∷ 0xbd ∷ 0x63 ∷ 0xe4 ∷ 0xc4 ∷ 0xd3 ∷
    0x41 ∷ 0x5a ∷ 0xa3 ∷ 0xde ∷ 0x65 ∷ 0x45 ∷ 0x5f ∷ 0x1e ∷ 0xb5 ∷ 0xee ∷ 0xbd ∷ 0x31 ∷ []

unfoldable c2 : List ℕ
c2 =
    0xbe ∷ 0x01 ∷ 0xf9 ∷ 0x5f ∷ 0xd4 ∷ 0x2b ∷ 0x1b ∷ 0x63 ∷ 0x9f ∷ 0x5d ∷ 0x2c ∷ 0xcd ∷ 0x0b ∷ 0xa2 ∷ 0xc1 ∷ 0x18 ∷ 0x5d ∷ 0x41 ∷ 0x7a ∷ 0xf0 ∷
    0xc4 ∷ 0x46 ∷ 0x4b ∷ 0xbe ∷ 0x1c ∷ 0xa2 ∷ 0x3c ∷ 0x5e ∷ 0x10 ∷ 0x5d ∷ 0xc5 ∷ 0x53 ∷ []

unfoldable c3 : List ℕ
c3 =
    0x91 ∷ 0xdb ∷ 0xac ∷ 0x10 ∷ 0x82 ∷ 0x59 ∷ 0x08 ∷ 0x95 ∷ 0x1e ∷ 0xec ∷ 0xb0 ∷ 0xfb ∷ 0xeb ∷ 0x23 ∷ 0x71 ∷ 0x0a ∷ 0x47 ∷ 0x5b ∷ 0x1d ∷ 0x3c ∷
    0x14 ∷ 0xc1 ∷ 0x8e ∷ 0x13 ∷ 0xff ∷ 0xb5 ∷ 0xf2 ∷ 0x92 ∷ 0x5f ∷ 0x86 ∷ 0x31 ∷ 0x4c ∷ []

unfoldable c4 : List ℕ
c4 =
    0xed ∷ 0x4b ∷ 0x21 ∷ 0xf1 ∷ 0xb2 ∷ 0x2a ∷ 0xfb ∷ 0xd6 ∷ 0xe8 ∷ 0x85 ∷ 0xa1 ∷ 0x4f ∷ 0x4d ∷ 0xb3 ∷ 0x58 ∷ 0xf5 ∷ 0x75 ∷ 0xb8 ∷ 0xd5 ∷ 0xdd ∷
    0x34 ∷ 0xf7 ∷ 0x72 ∷ 0xa3 ∷ 0xb8 ∷ 0x25 ∷ 0x79 ∷ 0xf2 ∷ 0x0f ∷ 0xb6 ∷ 0xde ∷ 0x63 ∷ []

unfoldable c5 : List ℕ
c5 =
    0x7a ∷ 0x5e ∷ 0xcf ∷ 0xc0 ∷ 0x06 ∷ 0x12 ∷ 0xf1 ∷ 0x4f ∷ 0xbb ∷ 0x96 ∷ 0xb4 ∷ 0x5d ∷ 0x3c ∷ 0x8d ∷ 0xe9 ∷ 0xec ∷ 0x46 ∷ 0x1d ∷ 0x8e ∷ 0xc2 ∷
    0x5e ∷ 0x51 ∷ 0xe7 ∷ 0x5d ∷ 0x7a ∷ 0x93 ∷ 0x18 ∷ 0xc8 ∷ 0xc2 ∷ 0xd1 ∷ 0xc4 ∷ 0xab ∷ []

unfoldable c6 : List ℕ
c6 =
    0x81 ∷ 0x98 ∷ 0x58 ∷ 0x20 ∷ 0x15 ∷ 0x3f ∷ 0x98 ∷ 0xde ∷ 0x94 ∷ 0xec ∷ 0xb3 ∷ 0xf9 ∷ 0xc7 ∷ 0xcc ∷ 0xca ∷ 0xfd ∷ 0xac ∷ 0xae ∷ 0x17 ∷ 0x9e ∷
    0xeb ∷ 0x3f ∷ 0xa3 ∷ 0xe9 ∷ 0x3c ∷ 0x1d ∷ 0x82 ∷ 0x92 ∷ 0x41 ∷ 0xbb ∷ 0x03 ∷ 0x20 ∷ []

unfoldable c7 : List ℕ
c7 =
    0x00 ∷ 0x6e ∷ 0xca ∷ 0xc0 ∷ 0xee ∷ 0x10 ∷ 0x5d ∷ 0x73 ∷ 0xf3 ∷ 0x2b ∷ 0xb2 ∷ 0x02 ∷ 0xd2 ∷ 0xd3 ∷ 0xa2 ∷ 0xca ∷ 0x16 ∷ 0x0c ∷ 0xac ∷ 0x69 ∷
    0x19 ∷ 0x5a ∷ 0xeb ∷ 0x38 ∷ 0xbf ∷ 0x56 ∷ 0xee ∷ 0xc4 ∷ 0x0c ∷ 0x64 ∷ 0x6f ∷ 0xbb ∷ []

unfoldable p0 : List ℕ
p0 =
    0xfe ∷ 0x50 ∷ 0x7c ∷ 0x0c ∷ 0x7a ∷ 0xa7 ∷ 0x54 ∷ 0xce ∷ 0xf1 ∷ 0xf7 ∷ 0x88 ∷ 0x9d ∷ 0x5f ∷ 0xd3 ∷ 0x95 ∷ 0xcf ∷ 0x1f ∷ 0x78 ∷ 0x5d ∷ 0xd7 ∷
    0xde ∷ 0x98 ∷ 0xee ∷ 0xd8 ∷ 0x95 ∷ 0xdb ∷ 0xed ∷ 0xfe ∷ 0x4e ∷ 0x5b ∷ 0xc7 ∷ 0x0d ∷ []

step_0 : step (worked_out beside 0 (sibling_position 21)) (eqb (21 % 2) 1) id ≡ joins p0 id
unfolding bundle beef_of read id c1 c2 c3 c4 c5 c6 c7 p0 step joined same worked_out value_of value_by written sibling lookup hash_at sibling_position each many whole F.byte F.bytes F.varint L.holds L.offset_field L.flag_field L.kind_field L.carried_field L.leaf_field L.level_field L.level_of_turn block_field height_up_to bump_up_to script_field input_field takes output_field outputs_field some_field list_field fields_by tx_field_by version_field bump_count_field bumps_up_to tx_count_field bump_number_field anchor_field entry_field entries_field beef_up_to
step_0 = refl

hash_0 : sha256d (p0 ++ id) ≡ c1
unfolding id c1 c2 c3 c4 c5 c6 c7 p0 ◌⊞◌ ◌⊕◌ not32 shl shr rotr Ch Maj Σ0 Σ1 σ0 σ1 K big_endian word4 zeros padding pad word words H0 W schedule T1 T2 round rounds plus compress H hash_value digest sha256 sha256d
hash_0 = refl

free_0 : cost_of beside 0 (sibling_position 21) ≡ 0
unfolding bundle beef_of read cost_of joins_by written sibling lookup sibling_position each many whole F.byte F.bytes F.varint L.holds L.offset_field L.flag_field L.kind_field L.carried_field L.leaf_field L.level_field L.level_of_turn block_field height_up_to bump_up_to script_field input_field takes output_field outputs_field some_field list_field fields_by tx_field_by version_field bump_count_field bumps_up_to tx_count_field bump_number_field anchor_field entry_field entries_field beef_up_to
free_0 = refl

unfoldable p1 : List ℕ
p1 =
    0xbc ∷ 0x4f ∷ 0xf3 ∷ 0x95 ∷ 0xef ∷ 0xd1 ∷ 0x17 ∷ 0x19 ∷ 0xb2 ∷ 0x77 ∷ 0x69 ∷ 0x4c ∷ 0xfa ∷ 0xce ∷ 0x5a ∷ 0xa5 ∷ 0x0d ∷ 0x08 ∷ 0x5a ∷ 0x0b ∷
    0xb8 ∷ 0x1f ∷ 0x61 ∷ 0x3f ∷ 0x70 ∷ 0x31 ∷ 0x3a ∷ 0xcd ∷ 0x28 ∷ 0xcf ∷ 0x45 ∷ 0x57 ∷ []

step_1 : step (worked_out beside 1 (sibling_position 10)) (eqb (10 % 2) 1) c1 ≡ joins c1 p1
unfolding bundle beef_of read id c1 c2 c3 c4 c5 c6 c7 p1 step joined same worked_out value_of value_by written sibling lookup hash_at sibling_position each many whole F.byte F.bytes F.varint L.holds L.offset_field L.flag_field L.kind_field L.carried_field L.leaf_field L.level_field L.level_of_turn block_field height_up_to bump_up_to script_field input_field takes output_field outputs_field some_field list_field fields_by tx_field_by version_field bump_count_field bumps_up_to tx_count_field bump_number_field anchor_field entry_field entries_field beef_up_to
step_1 = refl

hash_1 : sha256d (c1 ++ p1) ≡ c2
unfolding id c1 c2 c3 c4 c5 c6 c7 p1 ◌⊞◌ ◌⊕◌ not32 shl shr rotr Ch Maj Σ0 Σ1 σ0 σ1 K big_endian word4 zeros padding pad word words H0 W schedule T1 T2 round rounds plus compress H hash_value digest sha256 sha256d
hash_1 = refl

free_1 : cost_of beside 1 (sibling_position 10) ≡ 0
unfolding bundle beef_of read cost_of joins_by written sibling lookup sibling_position each many whole F.byte F.bytes F.varint L.holds L.offset_field L.flag_field L.kind_field L.carried_field L.leaf_field L.level_field L.level_of_turn block_field height_up_to bump_up_to script_field input_field takes output_field outputs_field some_field list_field fields_by tx_field_by version_field bump_count_field bumps_up_to tx_count_field bump_number_field anchor_field entry_field entries_field beef_up_to
free_1 = refl

unfoldable p2 : List ℕ
p2 =
    0x57 ∷ 0x4b ∷ 0x2d ∷ 0x91 ∷ 0x42 ∷ 0xb8 ∷ 0xd2 ∷ 0x8b ∷ 0x61 ∷ 0xd8 ∷ 0x8e ∷ 0x3b ∷ 0x2c ∷ 0x3f ∷ 0x44 ∷ 0xd8 ∷ 0x58 ∷ 0x41 ∷ 0x13 ∷ 0x56 ∷
    0xb4 ∷ 0x9a ∷ 0x28 ∷ 0xa4 ∷ 0x64 ∷ 0x3b ∷ 0x6d ∷ 0x1a ∷ 0x6a ∷ 0x09 ∷ 0x2a ∷ 0x52 ∷ []

step_2 : step (worked_out beside 2 (sibling_position 5)) (eqb (5 % 2) 1) c2 ≡ joins p2 c2
unfolding bundle beef_of read id c1 c2 c3 c4 c5 c6 c7 p2 step joined same worked_out value_of value_by written sibling lookup hash_at sibling_position each many whole F.byte F.bytes F.varint L.holds L.offset_field L.flag_field L.kind_field L.carried_field L.leaf_field L.level_field L.level_of_turn block_field height_up_to bump_up_to script_field input_field takes output_field outputs_field some_field list_field fields_by tx_field_by version_field bump_count_field bumps_up_to tx_count_field bump_number_field anchor_field entry_field entries_field beef_up_to
step_2 = refl

hash_2 : sha256d (p2 ++ c2) ≡ c3
unfolding id c1 c2 c3 c4 c5 c6 c7 p2 ◌⊞◌ ◌⊕◌ not32 shl shr rotr Ch Maj Σ0 Σ1 σ0 σ1 K big_endian word4 zeros padding pad word words H0 W schedule T1 T2 round rounds plus compress H hash_value digest sha256 sha256d
hash_2 = refl

free_2 : cost_of beside 2 (sibling_position 5) ≡ 0
unfolding bundle beef_of read cost_of joins_by written sibling lookup sibling_position each many whole F.byte F.bytes F.varint L.holds L.offset_field L.flag_field L.kind_field L.carried_field L.leaf_field L.level_field L.level_of_turn block_field height_up_to bump_up_to script_field input_field takes output_field outputs_field some_field list_field fields_by tx_field_by version_field bump_count_field bumps_up_to tx_count_field bump_number_field anchor_field entry_field entries_field beef_up_to
free_2 = refl

unfoldable p3 : List ℕ
p3 =
    0x51 ∷ 0xa0 ∷ 0x5f ∷ 0xc8 ∷ 0x4d ∷ 0x53 ∷ 0x1b ∷ 0x5d ∷ 0x25 ∷ 0x0c ∷ 0x23 ∷ 0xf4 ∷ 0xf8 ∷ 0x86 ∷ 0xf6 ∷ 0x81 ∷ 0x2f ∷ 0x9f ∷ 0xe3 ∷ 0xf4 ∷
    0x02 ∷ 0xd6 ∷ 0x16 ∷ 0x07 ∷ 0xf9 ∷ 0x77 ∷ 0xb4 ∷ 0xec ∷ 0xd2 ∷ 0x70 ∷ 0x1c ∷ 0x19 ∷ []

step_3 : step (worked_out beside 3 (sibling_position 2)) (eqb (2 % 2) 1) c3 ≡ joins c3 p3
unfolding bundle beef_of read id c1 c2 c3 c4 c5 c6 c7 p3 step joined same worked_out value_of value_by written sibling lookup hash_at sibling_position each many whole F.byte F.bytes F.varint L.holds L.offset_field L.flag_field L.kind_field L.carried_field L.leaf_field L.level_field L.level_of_turn block_field height_up_to bump_up_to script_field input_field takes output_field outputs_field some_field list_field fields_by tx_field_by version_field bump_count_field bumps_up_to tx_count_field bump_number_field anchor_field entry_field entries_field beef_up_to
step_3 = refl

hash_3 : sha256d (c3 ++ p3) ≡ c4
unfolding id c1 c2 c3 c4 c5 c6 c7 p3 ◌⊞◌ ◌⊕◌ not32 shl shr rotr Ch Maj Σ0 Σ1 σ0 σ1 K big_endian word4 zeros padding pad word words H0 W schedule T1 T2 round rounds plus compress H hash_value digest sha256 sha256d
hash_3 = refl

free_3 : cost_of beside 3 (sibling_position 2) ≡ 0
unfolding bundle beef_of read cost_of joins_by written sibling lookup sibling_position each many whole F.byte F.bytes F.varint L.holds L.offset_field L.flag_field L.kind_field L.carried_field L.leaf_field L.level_field L.level_of_turn block_field height_up_to bump_up_to script_field input_field takes output_field outputs_field some_field list_field fields_by tx_field_by version_field bump_count_field bumps_up_to tx_count_field bump_number_field anchor_field entry_field entries_field beef_up_to
free_3 = refl

unfoldable p4 : List ℕ
p4 =
    0xfd ∷ 0x78 ∷ 0x15 ∷ 0x29 ∷ 0xd5 ∷ 0x8f ∷ 0xc2 ∷ 0x52 ∷ 0x3c ∷ 0xf3 ∷ 0x96 ∷ 0xa7 ∷ 0xf2 ∷ 0x54 ∷ 0x40 ∷ 0xb4 ∷ 0x09 ∷ 0x85 ∷ 0x7e ∷ 0x7e ∷
    0x22 ∷ 0x17 ∷ 0x66 ∷ 0xc5 ∷ 0x72 ∷ 0x14 ∷ 0xb1 ∷ 0xd3 ∷ 0x8c ∷ 0x7b ∷ 0x48 ∷ 0x1f ∷ []

step_4 : step (worked_out beside 4 (sibling_position 1)) (eqb (1 % 2) 1) c4 ≡ joins p4 c4
unfolding bundle beef_of read id c1 c2 c3 c4 c5 c6 c7 p4 step joined same worked_out value_of value_by written sibling lookup hash_at sibling_position each many whole F.byte F.bytes F.varint L.holds L.offset_field L.flag_field L.kind_field L.carried_field L.leaf_field L.level_field L.level_of_turn block_field height_up_to bump_up_to script_field input_field takes output_field outputs_field some_field list_field fields_by tx_field_by version_field bump_count_field bumps_up_to tx_count_field bump_number_field anchor_field entry_field entries_field beef_up_to
step_4 = refl

hash_4 : sha256d (p4 ++ c4) ≡ c5
unfolding id c1 c2 c3 c4 c5 c6 c7 p4 ◌⊞◌ ◌⊕◌ not32 shl shr rotr Ch Maj Σ0 Σ1 σ0 σ1 K big_endian word4 zeros padding pad word words H0 W schedule T1 T2 round rounds plus compress H hash_value digest sha256 sha256d
hash_4 = refl

free_4 : cost_of beside 4 (sibling_position 1) ≡ 0
unfolding bundle beef_of read cost_of joins_by written sibling lookup sibling_position each many whole F.byte F.bytes F.varint L.holds L.offset_field L.flag_field L.kind_field L.carried_field L.leaf_field L.level_field L.level_of_turn block_field height_up_to bump_up_to script_field input_field takes output_field outputs_field some_field list_field fields_by tx_field_by version_field bump_count_field bumps_up_to tx_count_field bump_number_field anchor_field entry_field entries_field beef_up_to
free_4 = refl

unfoldable p5 : List ℕ
p5 =
    0x62 ∷ 0xf5 ∷ 0x42 ∷ 0xf4 ∷ 0x5e ∷ 0xa3 ∷ 0x66 ∷ 0x0f ∷ 0x86 ∷ 0xc0 ∷ 0x13 ∷ 0xce ∷ 0xd8 ∷ 0x05 ∷ 0x34 ∷ 0xcb ∷ 0x5f ∷ 0xd4 ∷ 0xc1 ∷ 0x9d ∷
    0x66 ∷ 0xc5 ∷ 0x6e ∷ 0x7e ∷ 0x8c ∷ 0x5d ∷ 0x4b ∷ 0xf2 ∷ 0xd4 ∷ 0x0a ∷ 0xcc ∷ 0x5e ∷ []

step_5 : step (worked_out beside 5 (sibling_position 0)) (eqb (0 % 2) 1) c5 ≡ joins c5 p5
unfolding bundle beef_of read id c1 c2 c3 c4 c5 c6 c7 p5 step joined same worked_out value_of value_by written sibling lookup hash_at sibling_position each many whole F.byte F.bytes F.varint L.holds L.offset_field L.flag_field L.kind_field L.carried_field L.leaf_field L.level_field L.level_of_turn block_field height_up_to bump_up_to script_field input_field takes output_field outputs_field some_field list_field fields_by tx_field_by version_field bump_count_field bumps_up_to tx_count_field bump_number_field anchor_field entry_field entries_field beef_up_to
step_5 = refl

hash_5 : sha256d (c5 ++ p5) ≡ c6
unfolding id c1 c2 c3 c4 c5 c6 c7 p5 ◌⊞◌ ◌⊕◌ not32 shl shr rotr Ch Maj Σ0 Σ1 σ0 σ1 K big_endian word4 zeros padding pad word words H0 W schedule T1 T2 round rounds plus compress H hash_value digest sha256 sha256d
hash_5 = refl

free_5 : cost_of beside 5 (sibling_position 0) ≡ 0
unfolding bundle beef_of read cost_of joins_by written sibling lookup sibling_position each many whole F.byte F.bytes F.varint L.holds L.offset_field L.flag_field L.kind_field L.carried_field L.leaf_field L.level_field L.level_of_turn block_field height_up_to bump_up_to script_field input_field takes output_field outputs_field some_field list_field fields_by tx_field_by version_field bump_count_field bumps_up_to tx_count_field bump_number_field anchor_field entry_field entries_field beef_up_to
free_5 = refl

unfoldable p6 : List ℕ
p6 =
    0xb1 ∷ 0x21 ∷ 0xe9 ∷ 0x18 ∷ 0x36 ∷ 0xfd ∷ 0x7c ∷ 0xd5 ∷ 0x10 ∷ 0x2b ∷ 0x65 ∷ 0x4e ∷ 0x9f ∷ 0x72 ∷ 0xf3 ∷ 0xcf ∷ 0x6f ∷ 0xdb ∷ 0xfd ∷ 0x0b ∷
    0x16 ∷ 0x1c ∷ 0x53 ∷ 0xa9 ∷ 0xc5 ∷ 0x4b ∷ 0x12 ∷ 0xc8 ∷ 0x41 ∷ 0x12 ∷ 0x63 ∷ 0x31 ∷ []

step_6 : step (worked_out beside 6 (sibling_position 0)) (eqb (0 % 2) 1) c6 ≡ joins c6 p6
unfolding bundle beef_of read id c1 c2 c3 c4 c5 c6 c7 p6 step joined same worked_out value_of value_by written sibling lookup hash_at sibling_position each many whole F.byte F.bytes F.varint L.holds L.offset_field L.flag_field L.kind_field L.carried_field L.leaf_field L.level_field L.level_of_turn block_field height_up_to bump_up_to script_field input_field takes output_field outputs_field some_field list_field fields_by tx_field_by version_field bump_count_field bumps_up_to tx_count_field bump_number_field anchor_field entry_field entries_field beef_up_to
step_6 = refl

hash_6 : sha256d (c6 ++ p6) ≡ c7
unfolding id c1 c2 c3 c4 c5 c6 c7 p6 ◌⊞◌ ◌⊕◌ not32 shl shr rotr Ch Maj Σ0 Σ1 σ0 σ1 K big_endian word4 zeros padding pad word words H0 W schedule T1 T2 round rounds plus compress H hash_value digest sha256 sha256d
hash_6 = refl

free_6 : cost_of beside 6 (sibling_position 0) ≡ 0
unfolding bundle beef_of read cost_of joins_by written sibling lookup sibling_position each many whole F.byte F.bytes F.varint L.holds L.offset_field L.flag_field L.kind_field L.carried_field L.leaf_field L.level_field L.level_of_turn block_field height_up_to bump_up_to script_field input_field takes output_field outputs_field some_field list_field fields_by tx_field_by version_field bump_count_field bumps_up_to tx_count_field bump_number_field anchor_field entry_field entries_field beef_up_to
free_6 = refl

climb_7 : climb_cost beside 7 0 0 c7 ≡ 0
unfolding climb_cost
climb_7 = refl

climb_6 : climb_cost beside 6 1 0 c6 ≡ 1
climb_6 = climb_joins_lem beside 6 0 0 c6 c6 p6 step_6 ∙ ap (λ (x : List ℕ). cost_of beside 6 (sibling_position 0) + 1 + climb_cost beside 7 0 0 x) hash_6 ∙ omega (arith, free_6, climb_7)

climb_5 : climb_cost beside 5 2 0 c5 ≡ 2
climb_5 = climb_joins_lem beside 5 1 0 c5 c5 p5 step_5 ∙ ap (λ (x : List ℕ). cost_of beside 5 (sibling_position 0) + 1 + climb_cost beside 6 1 0 x) hash_5 ∙ omega (arith, free_5, climb_6)

climb_4 : climb_cost beside 4 3 1 c4 ≡ 3
climb_4 = climb_joins_lem beside 4 2 1 c4 p4 c4 step_4 ∙ ap (λ (x : List ℕ). cost_of beside 4 (sibling_position 1) + 1 + climb_cost beside 5 2 0 x) hash_4 ∙ omega (arith, free_4, climb_5)

climb_3 : climb_cost beside 3 4 2 c3 ≡ 4
climb_3 = climb_joins_lem beside 3 3 2 c3 c3 p3 step_3 ∙ ap (λ (x : List ℕ). cost_of beside 3 (sibling_position 2) + 1 + climb_cost beside 4 3 1 x) hash_3 ∙ omega (arith, free_3, climb_4)

climb_2 : climb_cost beside 2 5 5 c2 ≡ 5
climb_2 = climb_joins_lem beside 2 4 5 c2 p2 c2 step_2 ∙ ap (λ (x : List ℕ). cost_of beside 2 (sibling_position 5) + 1 + climb_cost beside 3 4 2 x) hash_2 ∙ omega (arith, free_2, climb_3)

climb_1 : climb_cost beside 1 6 10 c1 ≡ 6
climb_1 = climb_joins_lem beside 1 5 10 c1 c1 p1 step_1 ∙ ap (λ (x : List ℕ). cost_of beside 1 (sibling_position 10) + 1 + climb_cost beside 2 5 5 x) hash_1 ∙ omega (arith, free_1, climb_2)

climb_0 : climb_cost beside 0 7 21 id ≡ 7
climb_0 = climb_joins_lem beside 0 6 21 id p0 id step_0 ∙ ap (λ (x : List ℕ). cost_of beside 0 (sibling_position 21) + 1 + climb_cost beside 1 6 10 x) hash_0 ∙ omega (arith, free_0, climb_1)

tall : (nth_bump read.bumps 0).height ≡ 7
unfolding bundle beef_of read each many whole F.byte F.bytes F.varint L.holds L.offset_field L.flag_field L.kind_field L.carried_field L.leaf_field L.level_field L.level_of_turn block_field height_up_to bump_up_to script_field input_field takes output_field outputs_field some_field list_field fields_by tx_field_by version_field bump_count_field bumps_up_to tx_count_field bump_number_field anchor_field entry_field entries_field beef_up_to
tall = refl

climbed : bump_cost bundle (nth_bump read.bumps 0) (entry_id bundle (get_or read.entries 0 empty_entry)) ≡ 7
unfolding bump_cost start_cost
climbed =
    ap (λ (n : ℕ). start_cost beside n (entry_id bundle (get_or read.entries 0 empty_entry)) (least_offset bundle (entry_id bundle (get_or read.entries 0 empty_entry)) (get_or (nth_bump read.bumps 0).levels 0 []))) tall
    ∙ ap (λ (x : List ℕ). start_cost beside 7 x (least_offset bundle x (get_or (nth_bump read.bumps 0).levels 0 []))) first-id
    ∙ ap (start_cost beside 7 id) starts ∙ climb_0

ids : ids_work read.entries ≡ 10
unfolding ids_work id_work sum_of bundle beef_of read each many whole F.byte F.bytes F.varint L.holds L.offset_field L.flag_field L.kind_field L.carried_field L.leaf_field L.level_field L.level_of_turn block_field height_up_to bump_up_to script_field input_field takes output_field outputs_field some_field list_field fields_by tx_field_by version_field bump_count_field bumps_up_to tx_count_field bump_number_field anchor_field entry_field entries_field beef_up_to
ids = refl

entries_are : read.entries ≡ get_or read.entries 0 empty_entry ∷ get_or read.entries 1 empty_entry ∷ []
unfolding bundle beef_of read each many whole F.byte F.bytes F.varint L.holds L.offset_field L.flag_field L.kind_field L.carried_field L.leaf_field L.level_field L.level_of_turn block_field height_up_to bump_up_to script_field input_field takes output_field outputs_field some_field list_field fields_by tx_field_by version_field bump_count_field bumps_up_to tx_count_field bump_number_field anchor_field entry_field entries_field beef_up_to
entries_are = refl

anchored : ((get_or read.entries 0 empty_entry).anchor ≡ Some 0) × ((get_or read.entries 1 empty_entry).anchor ≡ None)
unfolding bundle beef_of read each many whole F.byte F.bytes F.varint L.holds L.offset_field L.flag_field L.kind_field L.carried_field L.leaf_field L.level_field L.level_of_turn block_field height_up_to bump_up_to script_field input_field takes output_field outputs_field some_field list_field fields_by tx_field_by version_field bump_count_field bumps_up_to tx_count_field bump_number_field anchor_field entry_field entries_field beef_up_to
anchored = (refl, refl)

counted : (roots : List ℕ) (fee : ℕ) → entries_work bundle roots fee read ≡ 31
unfolding entries_work
counted roots fee =
    let c = ap (cost_from (payment_of bundle) (ruling bundle roots fee read.bumps) (ruling_cost bundle read.bumps) []) entries_are
    ∙ both bundle roots fee read.bumps (get_or read.entries 0 empty_entry) (get_or read.entries 1 empty_entry) 0 7 anchored.0 anchored.1 climbed in
    omega (arith, ids)

short : leb (length bundle) 16777216 ≡ true
unfolding bundle
short = refl

-- whatever the roots and the fee: the one climb is made before the root is looked for
pub example : (roots : List ℕ) (fee : ℕ) → length roots % 32 ≡ 0 → judge_work bundle roots fee 2 ≡ 31
unfolding judge_work read_work
example roots fee e = rw (short, eq-eqb (length roots % 32) 0 e, is_read) (counted roots fee)
