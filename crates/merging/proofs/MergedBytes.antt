-- The merged path's bytes and leaves by its spots, where nothing clashes: what the code measures and writes.
use mathlib.Core.Path.{◌≡◌, refl, ap, ap₂, sym, ◌∙◌}
use mathlib.Core.List.{List, [], ◌∷◌, ◌++◌, map}
use mathlib.Core.Bool.{Bool, true, false, ◌||◌, false≢true}
use Prim.Native.Nat.{ℕ, suc, ◌+◌}
use lib.ListN.{length, length-map}
use Rattle.format.specs.declared.leaf.Leaf.{Leaf}
use Rattle.format.specs.Parse.{ok}
use Rattle.encoding.specs.Digits.{varint_bytes}
use Rattle.format.specs.Level.{total}
use Rattle.encoding.specs.Encode.{encode_all}
use Rattle.format.specs.Bump.{Bump, bump_whole}
use Rattle.encoding.specs.BumpBytes.{Entry, Content, entry_bytes, level_bytes, bump_bytes, entry_of, levels_of, content_of}
use Rattle.leaflist.specs.LeafList.{leaf_list}
use Rattle.leaflist.proofs.LeafListTheorems.{listed-all}
use Rattle.merging.specs.Merging.{Kept, keeps, clash, Spot, is_clash, clashes, keep, kept_of, any_of, all_spots, merged, list_of}
use Rattle.merging.specs.Levels.{level_text, total_of}

either : (a b : Bool) → (a || b) ≡ false → (a ≡ false) × (b ≡ false)
either true b e = absurd (false≢true (sym e))
either false b e = (refl, e)

kept_more : (o : ℕ) (k : Kept) (m : List Entry) → is_clash k ≡ false → length (keep o k m) ≡ suc (length m)
unfolding is_clash keep
kept_more o (keeps c) m e = refl
kept_more o clash m e = absurd (false≢true (sym e))

pub kept-all : (l : List Spot) → clashes l ≡ false → length (kept_of l) ≡ length l
unfolding clashes kept_of
kept-all [] e = refl
kept-all (v ∷ l) e = let x = either (is_clash v.kept) (clashes l) e in kept_more v.offset v.kept (kept_of l) x.0 ∙ ap suc (kept-all l x.1)

text_same : (ls : List (List Spot)) → any_of clashes ls ≡ false → encode_all level_text ls ≡ encode_all level_bytes (map kept_of ls)
unfolding encode_all any_of level_text level_bytes
text_same [] e = refl
text_same (l ∷ ls) e =
    let x = either (clashes l) (any_of clashes ls) e in
    ap₂ ◌++◌ (ap (λ (n : ℕ). varint_bytes n ++ encode_all entry_bytes (kept_of l)) (sym (kept-all l x.0))) (text_same ls x.1)

-- block height, tree height, then the levels as the code writes them
pub merged-bytes : (x y : Content) → any_of clashes (all_spots x y) ≡ false → bump_bytes (merged x y) ≡ varint_bytes x.block ++ (x.height ∷ encode_all level_text (all_spots x y))
unfolding bump_bytes merged
merged-bytes x y e = ap (λ (v : List ℕ). varint_bytes x.block ++ (x.height ∷ v)) (sym (text_same (all_spots x y) e))

-- how many leaves levels have
unfoldable entries_in : List (List Entry) → ℕ
entries_in [] = 0
entries_in (l ∷ ls) = length l + entries_in ls

total-same : (s : List ℕ) (ls : List (List Leaf)) → entries_in (levels_of s ls) ≡ total ls
unfolding entries_in total
total-same s [] = refl
total-same s (l ∷ ls) = ap₂ ◌+◌ (length-map l (entry_of s)) (total-same s ls)

spots-total : (ls : List (List Spot)) → any_of clashes ls ≡ false → entries_in (map kept_of ls) ≡ total_of ls
unfolding entries_in total_of any_of
spots-total [] e = refl
spots-total (l ∷ ls) e = let x = either (clashes l) (any_of clashes ls) e in ap₂ ◌+◌ (kept-all l x.0) (spots-total ls x.1)

pub list-is : (s : List ℕ) (z : Bump) {q : ℕ} → bump_whole s ≡ ok z q → list_of s ≡ leaf_list s z
unfolding list_of
list-is s z f = rw f refl

-- the list of the merged path has as many leaves as the code counts
pub merged-leaves : (x y : Content) (z : Bump) {q : ℕ} → any_of clashes (all_spots x y) ≡ false → bump_whole (bump_bytes (merged x y)) ≡ ok z q → content_of (bump_bytes (merged x y)) z ≡ merged x y
    → length (list_of (bump_bytes (merged x y))) ≡ total_of (all_spots x y)
unfolding merged
merged-leaves x y z {q} e f g =
    ap length (list-is (bump_bytes (merged x y)) z f)
    ∙ listed-all (bump_bytes (merged x y)) f
    ∙ sym (total-same (bump_bytes (merged x y)) z.levels)
    ∙ ap (λ (c : Content). entries_in c.levels) g
    ∙ spots-total (all_spots x y) e
