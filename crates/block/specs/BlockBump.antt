-- BUMPs from a block's ids (02, Item 1).
use Rattle.std.specs.Prelude.{◌≡◌, Bool, true, false, ◌&&◌, not, ◌||◌, List, [], ◌∷◌, ℕ, zero, suc, ◌+◌, ◌-◌, ◌^◌, ◌/◌, ◌%◌, ◌≤◌, ◌<◌, length, get_or, ltb, leb, eqb}
use Rattle.std.specs.Prelude.{Option, Some, None}
use Rattle.format.specs.declared.leaf.Leaf.{Leaf}
use Rattle.format.specs.declared.leaf.Kind.{Kind}
use Rattle.format.specs.Parse.{pick, ok}
use Rattle.format.specs.Level.{holds}
use Rattle.path.specs.Search.{lookup}
use Rattle.format.specs.Bump.{Bump, bump_whole}
use Rattle.format.specs.Refusals.{OVER_LIMIT, NOT_LISTED, BAD_OFFSET, SAME_TX, MAX_BLOCK}
use Rattle.spv.specs.Climb.{sibling_position}
use Rattle.spv.specs.Result.{Result, accepted, refused, carrying, follow}
use Rattle.spv.specs.Hashes.{hashes_of, among}
use Rattle.encoding.specs.BumpBytes.{Carried, plain, copy, client, Entry, Content, bump_bytes, carried_of}
use Rattle.block.specs.Output.{room_for}
use Rattle.block.specs.Tree.{size, node, height, tree_climb}

-- ---- which leaves

-- a chosen position lies under position j of layer k: its climb passes there
unfoldable pub under : List ℕ → ℕ → ℕ → Bool
under [] k j = false
under (i ∷ chosen) k j = eqb (i / 2 ^ k) j || under chosen k j

-- every chosen position is one of the list
abbrev pub Below : List (List ℕ) → List ℕ → Type 0
Below ids chosen = (i : ℕ) → holds i chosen ≡ true → i < length ids

-- "Of the siblings needed" those left out (02, Item 3): "one above level 0 exactly when a chosen position lies under it"
unfoldable pub left_out : List ℕ → ℕ → ℕ → Bool
left_out chosen k o = ltb 0 k && under chosen k o

-- a sibling: a node, or where a layer has an odd number of nodes the copy of its last one, past its end
unfoldable pub sibling_at : List (List ℕ) → ℕ → ℕ → Carried
sibling_at ids k o = pick (ltb o (size ids k)) (plain (node ids k o)) copy

-- what is asked for at an offset of a level: "chosen ids with flags 02, and every sibling their climbs need, nothing more", but for those left out
unfoldable pub asked : List (List ℕ) → List ℕ → ℕ → ℕ → Option Carried
asked ids chosen k o =
    pick (eqb k 0 && under chosen 0 o) (Some (client (node ids 0 o)))
    (pick (under chosen k (sibling_position o) && not (left_out chosen k o)) (Some (sibling_at ids k o)) None)

-- "offsets rising": the leaves asked for at n offsets from o on
unfoldable pub rising : (ℕ → Option Carried) → ℕ → ℕ → List Entry
rising f o zero = []
rising f o (suc n) = elim (f o) [ None ↦ rising f (o + 1) n | Some c ↦ record { offset = o; carried = c } ∷ rising f (o + 1) n ]

-- a level k of h has offsets below 2 ^ (h - k)
abbrev pub level_for : List (List ℕ) → List ℕ → ℕ → ℕ → List Entry
level_for ids chosen h k = rising (asked ids chosen k) 0 (2 ^ (h - k))

-- n levels from level k on
unfoldable pub levels_for : List (List ℕ) → List ℕ → ℕ → ℕ → ℕ → List (List Entry)
levels_for ids chosen h k zero = []
levels_for ids chosen h k (suc n) = level_for ids chosen h k ∷ levels_for ids chosen h (k + 1) n

-- the BUMP of the chosen positions of a list
unfoldable pub block_bump : ℕ → List (List ℕ) → List ℕ → Content
block_bump block ids chosen = record { block = block; height = height ids; levels = levels_for ids chosen (height ids) 0 (height ids) }

-- ---- the call

-- "2 to 1,024 ids"
abbrev pub MAX_IDS : ℕ
MAX_IDS = 1024

-- a block height and a list within the sizes, the list of whole ids
unfoldable pub sized : ℕ → List ℕ → Bool
sized block list = leb block MAX_BLOCK && (eqb (length list % 32) 0 && (leb 2 (length list / 32) && leb (length list / 32) MAX_IDS))

unfoldable pub none_chosen : List ℕ → Bool
none_chosen [] = true
none_chosen (i ∷ chosen) = false

-- every chosen position stands in a list of n ids
unfoldable pub all_below : ℕ → List ℕ → Bool
all_below n [] = true
all_below n (i ∷ chosen) = ltb i n && all_below n chosen

-- no two ids of the list are equal
unfoldable pub distinct : List (List ℕ) → Bool
distinct [] = true
distinct (x ∷ l) = not (among x l) && distinct l

-- the climbs of the chosen ones of n positions from i on, least first: the first refusal stands, "the lowest such layer of the least chosen position whose climb meets a twin" (02, Item 5)
unfoldable pub climbs_from : List (List ℕ) → List ℕ → ℕ → ℕ → Result (Unit {0})
climbs_from ids chosen i zero = accepted tt
climbs_from ids chosen i (suc n) =
    pick (under chosen 0 i) (follow (tree_climb ids i) (λ _. climbs_from ids chosen (i + 1) n))
    (climbs_from ids chosen (i + 1) n)

-- a block height, a list, chosen positions and the room lent: the bytes of a BUMP, or the first of the refusals in their order
unfoldable pub writing : ℕ → List ℕ → List ℕ → ℕ → Result (List ℕ)
writing block list chosen room =
    pick (not (sized block list)) (refused (carrying OVER_LIMIT 0))
    (pick (none_chosen chosen) (refused (carrying NOT_LISTED 0))
    (pick (not (all_below (length list / 32) chosen)) (refused (carrying BAD_OFFSET 0))
    (pick (not (distinct (hashes_of list))) (refused (carrying SAME_TX 0))
    (follow (climbs_from (hashes_of list) chosen 0 (length list / 32)) (λ _. room_for room (bump_bytes (block_bump block (hashes_of list) chosen)))))))

-- ---- the rules that bytes meet

-- the leaf that was read at an offset, with its hash
unfoldable pub found_as : List ℕ → Option Kind → Option Carried
found_as s (Some kind) = Some (carried_of s kind)
found_as s None = None

-- offsets rising
unfoldable pub Rising : List Leaf → Type 0
Rising [] = Unit
Rising (a ∷ []) = Unit
Rising (a ∷ (b ∷ l)) = (a.offset < b.offset) × Rising (b ∷ l)

-- bytes that are read as a BUMP of that block height, of the least tree height that holds the list, offsets rising, with exactly the leaves asked for
pub record Meets (block : ℕ) (ids : List (List ℕ)) (chosen : List ℕ) (s : List ℕ) : Type 0 where
  pub bump : Bump
  pub end : ℕ
  pub read : bump_whole s ≡ ok bump end
  pub of_block : bump.block ≡ block
  pub holds_list : length ids ≤ 2 ^ bump.height
  pub least : (h : ℕ) → length ids ≤ 2 ^ h → bump.height ≤ h
  pub rises : (k : ℕ) → k < bump.height → Rising (get_or bump.levels k [])
  pub leaves : (k o : ℕ) → k < bump.height → o < 2 ^ (bump.height - k) → found_as s (lookup o (get_or bump.levels k [])) ≡ asked ids chosen k o
