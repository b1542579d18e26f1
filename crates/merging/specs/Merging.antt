-- Two BUMPs merged (02, Item 14): "merging another BUMP of the same block height and root (003), which keeps every leaf of either once and no other".
use Rattle.std.specs.Prelude.{List, [], ◌∷◌, ◌++◌, map, Bool, true, false, not, ◌&&◌, ◌||◌, ℕ, zero, suc, ◌*◌, ◌^◌, length, drop, eqb, leb, Result as Answer}
use Rattle.format.specs.Bytes.{same}
use Rattle.format.specs.Parse.{pick, otherwise}
use Rattle.format.specs.Refusals.{OVER_LIMIT, ROOTS_DIFFER, NO_ROOM, UNLIKE, MAX_LEAVES}
use Rattle.format.specs.Bump.{bump_whole}
use Rattle.encoding.specs.BumpBytes.{Carried, plain, copy, client, Entry, Content, bump_bytes, content_of}
use Rattle.spv.specs.Result.{Result, accepted, refused, carrying, after_reading, follow, answer_of}
use Rattle.spv.specs.Clients.{bump_clients}
use Rattle.levels.specs.Standing.{Standing, stands, nothing, standing}
use Rattle.spv.specs.declared.rejection.Rejection.{Rejection}
use Rattle.merging.specs.declared.merging.Merged.{Merged}
use Rattle.leaflist.specs.LeafList.{Row, leaf_list, words_of}

-- ---- one place

-- what the merged path has at a place where either has a leaf: that leaf, or two leaves that can't both be kept
pub data Kept : Type 0 where
  keeps : Carried → Kept
  clash : Kept

-- written there with this hash
unfoldable pub has_hash : List ℕ → Standing → Bool
has_hash h (stands (plain i)) = same i h
has_hash h (stands copy) = false
has_hash h (stands (client i)) = same i h
has_hash h nothing = false

-- "a client flag wins over a plain one, and a hash over a copy whose left neighbour has that hash", written in either path; clash: "one place with two
-- different hashes", or "a copy against a hash its left neighbour isn't written with in either path". l and m stand on the left in the first and the second
unfoldable pub agree : Standing → Standing → Carried → Carried → Kept
agree l m (plain h) (plain i) = pick (same h i) (keeps (plain h)) clash
agree l m (plain h) (client i) = pick (same h i) (keeps (client i)) clash
agree l m (client h) (plain i) = pick (same h i) (keeps (client h)) clash
agree l m (client h) (client i) = pick (same h i) (keeps (client h)) clash
agree l m (plain h) copy = pick (has_hash h l || has_hash h m) (keeps (plain h)) clash
agree l m (client h) copy = pick (has_hash h l || has_hash h m) (keeps (client h)) clash
agree l m copy (plain i) = pick (has_hash i l || has_hash i m) (keeps (plain i)) clash
agree l m copy (client i) = pick (has_hash i l || has_hash i m) (keeps (client i)) clash
agree l m copy copy = keeps copy

-- what stands on the left of an offset
unfoldable pub left_of : (ℕ → Standing) → ℕ → Standing
left_of c zero = nothing
left_of c (suc o) = c o

-- ---- a level

-- an offset where either has a leaf
pub record Spot : Type 0 where
  pub offset : ℕ
  pub kept : Kept

abbrev pub spot : ℕ → Kept → Spot
spot o v = record { offset = o; kept = v }

-- a leaf in one only stays; where both have one they agree or clash
unfoldable pub unite : ℕ → Standing → Standing → Standing → Standing → List Spot → List Spot
unite o l m nothing nothing rest = rest
unite o l m (stands c) nothing rest = spot o (keeps c) ∷ rest
unite o l m nothing (stands d) rest = spot o (keeps d) ∷ rest
unite o l m (stands c) (stands d) rest = spot o (agree l m c d) ∷ rest

-- n offsets of a level from o on, by what stands there in the first and in the second
unfoldable pub spots_from : (ℕ → Standing) → (ℕ → Standing) → ℕ → ℕ → List Spot
spots_from c d zero o = []
spots_from c d (suc n) o = unite o (left_of c o) (left_of d o) (c o) (d o) (spots_from c d n (suc o))

-- the n highest levels from k on; a level from which n lead to the root has 2 ^ n places
unfoldable pub spots : Content → Content → ℕ → ℕ → List (List Spot)
spots x y zero k = []
spots x y (suc n) k = spots_from (standing x k) (standing y k) (2 ^ suc n) 0 ∷ spots x y n (suc k)

unfoldable pub is_clash : Kept → Bool
is_clash (keeps c) = false
is_clash clash = true

unfoldable pub clashes : List Spot → Bool
clashes [] = false
clashes (v ∷ l) = is_clash v.kept || clashes l

-- the leaves that are kept
unfoldable pub keep : ℕ → Kept → List Entry → List Entry
keep o (keeps c) l = record { offset = o; carried = c } ∷ l
keep o clash l = l

unfoldable pub kept_of : List Spot → List Entry
kept_of [] = []
kept_of (v ∷ l) = keep v.offset v.kept (kept_of l)

unfoldable pub any_of : {A : Type 0} → (A → Bool) → List A → Bool
any_of t [] = false
any_of t (x ∷ l) = t x || any_of t l

-- ---- the whole

abbrev pub all_spots : Content → Content → List (List Spot)
all_spots x y = spots x y x.height 0

-- a merged level over its limit
unfoldable pub over_limit : List Spot → Bool
over_limit l = not (leb (length l) MAX_LEAVES)

-- the merged path: offsets rise
unfoldable pub merged : Content → Content → Content
merged x y = record { block = x.block; height = x.height; levels = map kept_of (all_spots x y) }

-- a path that can be read, and whose clients agree: "a path's root is the one its all-clients check gives"
pub record Checked : Type 0 where
  pub content : Content
  pub root : List ℕ

unfoldable pub checked : List ℕ → Result Checked
checked s = after_reading (bump_whole s) (λ b. follow (bump_clients s) (λ r. accepted (record { content = content_of s b; root = r })))

-- the list that a fresh build gives of bytes
unfoldable pub list_of : List ℕ → List Row
list_of s = otherwise (bump_whole s) [] (λ b _. leaf_list s b)

unfoldable pub has_root : List ℕ → Result (List ℕ) → Bool
has_root r (accepted t) = same t r
has_root r (refused why) = false

-- "23 for a differing block height, tree height or root"
unfoldable pub alike : Checked → Checked → Bool
alike p q = eqb p.content.block q.content.block && eqb p.content.height q.content.height && same p.root q.root

-- "then 22 exactly when bytes or list exceed the room lent"
unfoldable pub fitting : ℕ → ℕ → Content → Result Content
fitting bytes rows m =
    pick (leb (length (bump_bytes m)) bytes && leb (length (list_of (bump_bytes m))) rows) (accepted m) (refused (carrying NO_ROOM 0))

-- 16 "if the merged path fails that check or gives another root"
unfoldable pub rooted : ℕ → ℕ → List ℕ → Content → Result Content
rooted bytes rows r m = pick (has_root r (bump_clients (bump_bytes m))) (fitting bytes rows m) (refused (carrying ROOTS_DIFFER 0))

-- 23, 5, 16, 22 in this order
unfoldable pub joining : ℕ → ℕ → Checked → Checked → Result Content
joining bytes rows p q =
    pick (alike p q)
    (pick (any_of over_limit (all_spots p.content q.content)) (refused (carrying OVER_LIMIT 0))
    (pick (any_of clashes (all_spots p.content q.content)) (refused (carrying ROOTS_DIFFER 0))
    (rooted bytes rows p.root (merged p.content q.content))))
    (refused (carrying UNLIKE 0))

-- two inputs, room for so many bytes and so many leaves: "after each path's own, its check's included"
unfoldable pub merging : List ℕ → List ℕ → ℕ → ℕ → Result Content
merging a b bytes rows = follow (checked a) (λ p. follow (checked b) (λ q. joining bytes rows p q))

-- the memory lent: the merged path's bytes and its list, and what was there behind them; on a refusal both stay as they were
unfoldable pub bytes_in : Result Content → List ℕ → List ℕ
bytes_in (accepted m) w = bump_bytes m ++ drop (length (bump_bytes m)) w
bytes_in (refused why) w = w

unfoldable pub list_in : Result Content → List ℕ → List ℕ
list_in (accepted m) w = words_of (list_of (bump_bytes m)) ++ drop (3 * length (list_of (bump_bytes m))) w
list_in (refused why) w = w

-- what the code's answer says: how many bytes and how many leaves
abbrev pub sizes_of : Content → Merged
sizes_of m = record { bytes = length (bump_bytes m); leaves = length (list_of (bump_bytes m)) }

abbrev pub merged_of : Result Content → Answer Merged Rejection
merged_of = answer_of sizes_of
