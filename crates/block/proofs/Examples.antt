-- BUMPs of small blocks, by computation.
use mathlib.Core.Path.{◌≡◌, refl}
use mathlib.Core.List.{List, [], ◌∷◌, ◌++◌, append-nil}
use Prim.Native.Nat.{ℕ}
use lib.ListN.{replicate}
use Rattle.hash.specs.Sha256.{sha256d}
use Rattle.format.specs.Bytes.{same}
use Rattle.format.proofs.BytesLaws.{same_refl}
use Rattle.spv.specs.Result.{accepted, refused, carrying, at_sibling}
use Rattle.spv.specs.Climb.{sibling_position, joined, step, ascend_by, end_by}
use Rattle.spv.specs.Hashes.{hashes, hashes_of, among}
use Rattle.encoding.specs.Encode.{encode_all}
use Rattle.encoding.specs.Digits.{little, varint_bytes}
use Rattle.encoding.specs.BumpBytes.{Carried, plain, copy, client, Entry, carried_bytes, entry_bytes, level_bytes, bump_bytes}
use Rattle.block.specs.Tree.{above, layer, least_from, height_for, tree_siblings, tree_climb}
use Rattle.block.specs.BlockBump.{under, left_out, sibling_at, asked, rising, levels_for, block_bump, sized, none_chosen, all_below, distinct, climbs_from, writing}
use Rattle.block.specs.Output.{room_for}

abbrev aa : List ℕ
aa = replicate 32 0xaa

abbrev bb : List ℕ
bb = replicate 32 0xbb

abbrev cd : List ℕ
cd = replicate 32 0xcc

ex1 : writing 4294967296 [] [] 0 ≡ refused (carrying 5 0)
unfolding writing sized
ex1 = refl

ex2 : writing 1 aa (0 ∷ []) 999 ≡ refused (carrying 5 0)
unfolding writing sized
ex2 = refl

ex3 : writing 1 (aa ++ aa ++ (0 ∷ [])) [] 0 ≡ refused (carrying 5 0)
unfolding writing sized
ex3 = refl

ex4 : writing 1 (aa ++ aa) [] 0 ≡ refused (carrying 13 0)
unfolding writing sized none_chosen
ex4 = refl

ex5 : writing 1 (aa ++ aa) (1 ∷ 2 ∷ []) 0 ≡ refused (carrying 6 0)
unfolding writing sized none_chosen all_below
ex5 = refl

ex6 : writing 1 (aa ++ aa) (1 ∷ []) 0 ≡ refused (carrying 19 0)
unfolding writing sized none_chosen all_below distinct hashes_of hashes among same
ex6 = refl

ex7 : writing 1 (aa ++ bb) (1 ∷ []) 70 ≡ refused (carrying 22 0)
unfolding writing sized none_chosen all_below distinct hashes_of hashes among same climbs_from tree_climb tree_siblings layer height_for least_from ascend_by end_by step joined sibling_position block_bump levels_for rising asked under left_out sibling_at bump_bytes level_bytes entry_bytes carried_bytes encode_all varint_bytes little room_for
ex7 = refl

ex8 : writing 1 (aa ++ bb) (1 ∷ 1 ∷ []) 71 ≡ accepted (0x01 ∷ 0x01 ∷ 0x02 ∷ 0x00 ∷ 0x00 ∷ aa ++ (0x01 ∷ 0x02 ∷ bb))
unfolding writing sized none_chosen all_below distinct hashes_of hashes among same climbs_from tree_climb tree_siblings layer height_for least_from ascend_by end_by step joined sibling_position block_bump levels_for rising asked under left_out sibling_at bump_bytes level_bytes entry_bytes carried_bytes encode_all varint_bytes little room_for
ex8 = refl

-- sha256d stays shut below: a node is what it is made of
abbrev three : List (List ℕ)
three = aa ∷ bb ∷ cd ∷ []

ex9 : bump_bytes (block_bump 0 three (2 ∷ [])) ≡ 0x00 ∷ 0x02 ∷ 0x02 ∷ 0x02 ∷ 0x02 ∷ cd ++ (0x03 ∷ 0x01 ∷ 0x01 ∷ 0x00 ∷ 0x00 ∷ sha256d (aa ++ bb))
unfolding above layer height_for least_from sibling_position block_bump levels_for rising asked under left_out sibling_at bump_bytes level_bytes entry_bytes carried_bytes encode_all varint_bytes little
ex9 = simp append-nil

ex10 : bump_bytes (block_bump 0 three (0 ∷ [])) ≡ 0x00 ∷ 0x02 ∷ 0x02 ∷ 0x00 ∷ 0x02 ∷ aa ++ (0x01 ∷ 0x00 ∷ bb) ++ (0x01 ∷ 0x01 ∷ 0x00 ∷ sha256d (cd ++ cd))
unfolding above layer height_for least_from sibling_position block_bump levels_for rising asked under left_out sibling_at bump_bytes level_bytes entry_bytes carried_bytes encode_all varint_bytes little
ex10 = simp append-nil

abbrev leaf : ℕ → Carried → Entry
leaf o c = record { offset = o; carried = c }

-- a sibling that another chosen climb makes is left out
ex11 : block_bump 0 three (0 ∷ 2 ∷ []) ≡ record {
  block = 0;
  height = 2;
  levels =
      (leaf 0 (client aa) ∷ leaf 1 (plain bb) ∷ leaf 2 (client cd) ∷ leaf 3 copy ∷ [])
      ∷ [] ∷ [];
}
unfolding above layer height_for least_from sibling_position block_bump levels_for rising asked under left_out sibling_at
ex11 = refl

-- a twin is refused with its layer and the sibling's position there
ex12 : climbs_from (aa ∷ bb ∷ cd ∷ cd ∷ []) (3 ∷ []) 0 4 ≡ refused (at_sibling 15 0 2)
unfolding climbs_from under tree_climb tree_siblings layer height_for least_from ascend_by end_by step joined sibling_position same
ex12 = refl

-- .. of the least chosen position, though another that meets one at a lower layer is named first
ex13 : climbs_from (aa ∷ bb ∷ aa ∷ bb ∷ cd ∷ cd ∷ []) (5 ∷ 2 ∷ []) 0 6 ≡ refused (at_sibling 15 1 0)
unfolding climbs_from under tree_climb tree_siblings above layer height_for least_from ascend_by end_by step joined sibling_position
ex13 = rw (same_refl (sha256d (aa ++ bb)))
