-- The differences of two BUMPs that were read, told level by level, are those of the definition.
use mathlib.Core.Path.{◌≡◌, refl, ap, sym, subst, ◌∙◌}
use mathlib.Core.List.{List, [], ◌∷◌, map}
use mathlib.Core.Bool.{Bool, true, false}
use Prim.Native.Nat.{ℕ, zero, suc, ◌+◌, ◌-◌, ◌^◌, ◌<◌, ◌≤◌}
use lib.ListN.{length, get_or, drop, length-map, get_or-map}
use lib.Seq.{get_or-drop, drop-drop}
use lib.Dec.{leb, eqb}
use lib.Pow.{pow_mono}
use native.Mathlib.Omega.{arith}
use native.Mathlib.Numerals.{add-one}
use native.Mathlib.Nat.{sub-zero}
use borrow.Author.Tests.{leb-true, leb-false}
use Rattle.format.specs.declared.level.Layout.{Layout}
use Rattle.format.specs.declared.leaf.Leaf.{Leaf}
use Rattle.format.proofs.Basics.{one_less}
use Rattle.format.specs.Parse.{many, ok}
use Rattle.format.proofs.ParseLaws.{many-told}
use Rattle.format.specs.Level.{level_of_turn, level_in_turn, next_turn}
use Rattle.format.specs.Bump.{Bump, bump_whole, head_of}
use Rattle.format.proofs.BumpLaws.{bump-whole-told}
use Rattle.encoding.specs.BumpBytes.{Entry, Content, entry_of, levels_of, content_of}
use Rattle.difference.specs.Differences.{Difference, offsets_from, levels_from, higher, differences}
use Rattle.levels.specs.Standing.{nothing, standing_in, standing}
use Rattle.difference.proofs.Once.{higher_bounds}
use Rattle.difference.specs.Filling.{Filling, put_all, put_unless}
use Rattle.difference.proofs.FillingLaws.{all-block, all-height, all_append}
use Rattle.levels.proofs.InOrder.{Under, InOrder, from_least, under_weaken}
use Rattle.levels.specs.Places.{entry_at, entries}
use Rattle.difference.proofs.MergeLaws.{level-above, level-here}
use Rattle.levels.specs.Ordered.{ordered_in}
use Rattle.levels.proofs.OrderedLaws.{level_ordered, next-read}
use Rattle.difference.specs.Merge.{merged, Gathering, gathering, gather_level, walk, walk_all}
use Rattle.difference.proofs.MergeTheorem.{offsets_same, merged-all}

-- the levels from k on, read from a place
abbrev Ahead : List ℕ → ℕ → ℕ → ℕ → List (List Leaf) → ℕ → Type 0
Ahead s h k p ls q = many (level_in_turn Layout.Bump h) next_turn (h - k) k s p ≡ ok ls q

-- what is gathered of level k, of which the levels from k on were read
record Level (s : List ℕ) (h k : ℕ) (ls : List (List Leaf)) (q : ℕ) (g : Gathering) : Type 0 where
  order : InOrder (entries s g.places)
  under : Under (2 ^ (h - k)) (entries s g.places)
  stood : (o : ℕ) → standing_in o (entries s g.places) ≡ standing_in o (map (entry_of s) (get_or ls 0 []))
  few : length g.places ≤ 1024
  ahead : Ahead s h (k + 1) g.next (drop 1 ls) q

module _ (s : List ℕ) (h k p : ℕ) where
  none_left : (ls : List (List Leaf)) (q : ℕ) → h ≤ k → Ahead s h k p ls q → Level s h k ls q (gathering [] p)
  unfolding many InOrder Under standing_in
  none_left ls q g e =
      let a : h - k ≡ 0 = omega arith in
      let b : h - (k + 1) ≡ 0 = omega arith in
      let f : ok [] p ≡ ok ls q = subst (λ (n : ℕ). many (level_in_turn Layout.Bump h) next_turn n k s p ≡ ok ls q) a e in
      let l : [] ≡ ls = cc in
      subst (λ (v : List (List Leaf)). Level s h k v q (gathering [] p)) l
      (record { order = tt; under = tt; stood = λ o. refl; few = omega arith; ahead = rw b (f ∙ ap (λ (v : List (List Leaf)). ok v q) (sym l)) })

  level-told : (g : k < h) (l : List Leaf) (r : ℕ) (rest : List (List Leaf)) (q : ℕ) → level_in_turn Layout.Bump h k s p ≡ ok l r → Ahead s h (k + 1) r rest q
      → Level s h k (l ∷ rest) q (gather_level 1024 s h k p)
  unfolding level_of_turn
  level-told g l r rest q e f =
      let o = level_ordered s (2 ^ (h - k)) k p e in
      let few = o.few in
      let size = length-map (ordered_in 1024 s p) (entry_at s) in
      subst (λ (w : Gathering). Level s h k (l ∷ rest) q w) (sym (level-here 1024 s h k p g))
      (record {
        order = o.order;
        under = o.under;
        stood = o.stood;
        few = omega (arith, few, size);
        ahead = subst (λ (w : ℕ). Ahead s h (k + 1) w rest q) (sym (next-read s (2 ^ (h - k)) k p e)) f;
      })

  gathered : (ls : List (List Leaf)) (q : ℕ) → Ahead s h k p ls q → Level s h k ls q (gather_level 1024 s h k p)
  gathered ls q e = go (leb h k) refl
    where
      some : (g : k < h) → Level s h k ls q (gather_level 1024 s h k p)
      some g =
          let x = many-told (level_in_turn Layout.Bump h) next_turn (h - (k + 1)) k s p (subst (λ (n : ℕ). many (level_in_turn Layout.Bump h) next_turn n k s p ≡ ok ls q) (one_less h k g) e) in
          subst (λ (v : List (List Leaf)). Level s h k v q (gather_level 1024 s h k p)) x.5 (level-told g x.0 x.1 x.2 q x.3 x.4)

      go : (b : Bool) → leb h k ≡ b → Level s h k ls q (gather_level 1024 s h k p)
      go true f =
          let g = leb-true h k f in
          subst (λ (w : Gathering). Level s h k ls q w) (sym (level-above 1024 s h k p g)) (none_left ls q g e)
      go false f = some (leb-false h k f)

length-map-few : (s t l m : List ℕ) → length l ≤ 1024 → length m ≤ 1024 → length (entries s l) + length (entries t m) ≤ 2048
length-map-few s t l m h i = let a = length-map l (entry_at s) in let b = length-map m (entry_at t) in omega (arith, a, b)

empty_at : (o : ℕ) → standing_in o [] ≡ nothing
unfolding standing_in
empty_at o = refl

drop-map : (s : List ℕ) (ls : List (List Leaf)) → drop 1 (levels_of s ls) ≡ levels_of s (drop 1 ls)
drop-map s [] = refl
drop-map s (l ∷ ls) = refl

-- a content's levels from k on are those read
module _ (s : List ℕ) (x : Content) (k : ℕ) (ls : List (List Leaf)) (e : drop k x.levels ≡ levels_of s ls) where
  level-is : get_or x.levels k [] ≡ map (entry_of s) (get_or ls 0 [])
  level-is =
      let a : k + 0 ≡ k = omega arith in
      ap (λ (j : ℕ). get_or x.levels j []) (sym a) ∙ sym (get_or-drop k x.levels 0 []) ∙ ap (λ (v : List (List Entry)). get_or v 0 []) e ∙ get_or-map (map (entry_of s)) ls 0 []

  levels_are : drop (k + 1) x.levels ≡ levels_of s (drop 1 ls)
  levels_are = sym (drop-drop 1 k x.levels) ∙ ap (drop 1) e ∙ drop-map s ls

module _ (write : Bool) (s : List ℕ) (x : Content) (hx qx : ℕ) (t : List ℕ) (y : Content) (hy qy : ℕ) where
  walk-told : (n k c d : ℕ) (p : Filling) (ls lt : List (List Leaf)) → Ahead s hx k c ls qx → Ahead t hy k d lt qy → drop k x.levels ≡ levels_of s ls → drop k y.levels ≡ levels_of t lt
      → hx ≤ k + n → hy ≤ k + n → walk write s hx 1024 t hy 1024 n k c d p ≡ put_all write p (levels_from x y n k)
  unfolding walk levels_from put_all standing
  walk-told zero k c d p ls lt a b e f g h = refl
  walk-told (suc n) k c d p ls lt a b e f g h =
      let u = gathered s hx k c ls qx a in
      let v = gathered t hy k d lt qy b in
      let xs : List Entry = entries s (gather_level 1024 s hx k c).places in
      let ys : List Entry = entries t (gather_level 1024 t hy k d).places in
      let wide : (m : ℕ) → m ≤ k + suc n → 2 ^ (m - k) ≤ 0 + 2 ^ suc n = λ m i. (let w : 2 ^ (m - k) ≤ 2 ^ suc n = pow_mono (omega arith) in omega (arith, w)) in
      let told : merged 2048 k xs ys ≡ offsets_from k (standing x k) (standing y k) (2 ^ suc n) 0 =
      merged-all k (2 ^ suc n) 2048 0 xs ys u.order v.order (from_least xs) (from_least ys) (under_weaken (2 ^ (hx - k)) (0 + 2 ^ suc n) xs (wide hx g) u.under) (under_weaken (2 ^ (hy - k)) (0 + 2 ^ suc n) ys (wide hy h) v.under)
      (let i = u.few in let j = v.few in length-map-few s t (gather_level 1024 s hx k c).places (gather_level 1024 t hy k d).places i j)
      ∙ offsets_same k (λ o. standing_in o xs) (standing x k) (λ o. standing_in o ys) (standing y k) (2 ^ suc n) 0
      (λ o _. u.stood o ∙ ap (standing_in o) (sym (level-is s x k ls e))) (λ o _. v.stood o ∙ ap (standing_in o) (sym (level-is t y k lt f))) in
      walk-told n (k + 1) (gather_level 1024 s hx k c).next (gather_level 1024 t hy k d).next (put_all write p (merged 2048 k xs ys)) (drop 1 ls) (drop 1 lt) u.ahead v.ahead
      (levels_are s x k ls e) (levels_are t y k lt f) (omega arith) (omega arith)
      ∙ ap (λ (j : ℕ). put_all write (put_all write p (merged 2048 k xs ys)) (levels_from x y n j)) (add-one k)
      ∙ ap (λ (l : List Difference). put_all write (put_all write p l) (levels_from x y n (suc k))) told
      ∙ sym (all_append write p (offsets_from k (standing x k) (standing y k) (2 ^ suc n) 0) (levels_from x y n (suc k)))

-- the whole of two BUMPs
pub told-all : (write : Bool) (s t : List ℕ) {x y : Bump} {q r : ℕ} (p : Filling) → bump_whole s ≡ ok x q → bump_whole t ≡ ok y r
    → walk_all write s (head_of x) t (head_of y) p ≡ put_all write p (differences (content_of s x) (content_of t y))
unfolding walk_all differences
told-all write s t {x} {y} {q} {r} p e f =
    let a : Ahead s x.height 0 x.start x.levels q = simp sub-zero (bump-whole-told s e).levels in
    let b : Ahead t y.height 0 y.start y.levels r = simp sub-zero (bump-whole-told t f).levels in
    let h = higher_bounds x.height y.height in
    let g : x.height ≤ 0 + higher x.height y.height = (let i = h.0 in omega (arith, i)) in
    let j : y.height ≤ 0 + higher x.height y.height = (let i = h.1 in omega (arith, i)) in
    walk-told write s (content_of s x) x.height q t (content_of t y) y.height r (higher x.height y.height) 0 x.start y.start
    (put_unless (eqb x.height y.height) write (put_unless (eqb x.block y.block) write p 1) 2) x.levels y.levels a b refl refl g j
    ∙ sym (all-block write p (eqb x.block y.block) _ ∙ all-height write (put_unless (eqb x.block y.block) write p 1) (eqb x.height y.height) _)
