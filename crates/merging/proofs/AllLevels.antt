-- All levels of two BUMPs that were read, as the code walks them, are the definition's.
use mathlib.Core.Path.{◌≡◌, refl, ap, ap₂, sym, subst, ◌∙◌}
use mathlib.Core.List.{List, [], ◌∷◌, map}
use Prim.Native.Nat.{ℕ, zero, suc, ◌+◌, ◌-◌, ◌^◌}
use lib.ListN.{get_or, get_or-map}
use native.Mathlib.Omega.{arith}
use native.Mathlib.Numerals.{add-one}
use Rattle.format.specs.declared.level.Layout.{Layout}
use Rattle.format.specs.declared.leaf.Leaf.{Leaf}
use Rattle.format.specs.Parse.{many, ok}
use Rattle.format.proofs.ParseLaws.{many-told}
use Rattle.format.specs.Level.{level_of_turn, level_in_turn, next_turn}
use Rattle.format.specs.Bump.{Bump, bump_whole}
use Rattle.format.proofs.BumpLaws.{bump-whole-told}
use Rattle.encoding.specs.BumpBytes.{Content, entry_of, content_of}
use Rattle.levels.specs.Standing.{standing_in, standing}
use Rattle.merging.specs.Merging.{spots_from, spots, all_spots}
use Rattle.merging.proofs.LevelWalk.{levels-walked}
use Rattle.merging.specs.Levels.{level_spots, walk_levels}
use Rattle.levels.proofs.OrderedLaws.{next-read}

module _ (s t : List ℕ) (x y : Content) (h : ℕ) where
  walked : (n k p q : ℕ) {ls ms : List (List Leaf)} {r r' : ℕ} → n + k ≡ h → many (level_in_turn Layout.Bump h) next_turn n k s p ≡ ok ls r → many (level_in_turn Layout.Bump h) next_turn n k t q ≡ ok ms r'
      → ((j o : ℕ) → standing_in o (map (entry_of s) (get_or ls j [])) ≡ standing x (k + j) o) → ((j o : ℕ) → standing_in o (map (entry_of t) (get_or ms j [])) ≡ standing y (k + j) o)
      → walk_levels s t n p q ≡ spots x y n k
  unfolding walk_levels spots many level_of_turn
  walked zero k p q e f g a b = refl
  walked (suc n) k p q {ls} {ms} e f g a b =
      let u = many-told (level_in_turn Layout.Bump h) next_turn n k s p f in
      let v = many-told (level_in_turn Layout.Bump h) next_turn n k t q g in
      let z : k + 0 ≡ k = omega arith in
      let top : h - k ≡ suc n = omega (arith, e) in
      let c : (o : ℕ) → standing_in o (map (entry_of s) u.0) ≡ standing x k o = λ o. ap (λ (w : List (List Leaf)). standing_in o (map (entry_of s) (get_or w 0 []))) u.5 ∙ a 0 o ∙ ap (λ (i : ℕ). standing x i o) z in
      let d : (o : ℕ) → standing_in o (map (entry_of t) v.0) ≡ standing y k o = λ o. ap (λ (w : List (List Leaf)). standing_in o (map (entry_of t) (get_or w 0 []))) v.5 ∙ b 0 o ∙ ap (λ (i : ℕ). standing y i o) z in
      let here : level_spots s t p q ≡ spots_from (standing x k) (standing y k) (2 ^ suc n) 0 =
      levels-walked s t (2 ^ (h - k)) k p q (standing x k) (standing y k) u.3 v.3 c d ∙ ap (λ (i : ℕ). spots_from (standing x k) (standing y k) (2 ^ i) 0) top in
      let next = next-read s (2 ^ (h - k)) k p u.3 in
      let next' = next-read t (2 ^ (h - k)) k q v.3 in
      let rest = walked n (k + 1) u.1 v.1 (omega (arith, e)) u.4 v.4
      (λ j o. ap (λ (w : List (List Leaf)). standing_in o (map (entry_of s) (get_or w (suc j) []))) u.5 ∙ a (suc j) o ∙ ap (λ (i : ℕ). standing x i o) (moved j))
      (λ j o. ap (λ (w : List (List Leaf)). standing_in o (map (entry_of t) (get_or w (suc j) []))) v.5 ∙ b (suc j) o ∙ ap (λ (i : ℕ). standing y i o) (moved j)) in
      ap₂ ◌∷◌ here (ap₂ (walk_levels s t n) next next' ∙ rest ∙ ap (spots x y n) (add-one k))
    where
      moved : (j : ℕ) → k + suc j ≡ k + 1 + j
      moved j = omega arith

level-at : (s : List ℕ) (b : Bump) (j o : ℕ) → standing_in o (map (entry_of s) (get_or b.levels j [])) ≡ standing (content_of s b) (0 + j) o
unfolding standing
level-at s b j o = let z : 0 + j ≡ j = omega arith in rw z (sym (ap (standing_in o) (get_or-map (map (entry_of s)) b.levels j [])))

-- the whole of two BUMPs of one height
pub all-walked : (s t : List ℕ) {x y : Bump} {q r : ℕ} → bump_whole s ≡ ok x q → bump_whole t ≡ ok y r → x.height ≡ y.height
    → walk_levels s t x.height x.start y.start ≡ all_spots (content_of s x) (content_of t y)
all-walked s t {x} {y} {q} {r} e f h =
    walked s t (content_of s x) (content_of t y) x.height x.height 0 x.start y.start (omega arith) (bump-whole-told s e).levels
    (subst (λ (n : ℕ). many (level_in_turn Layout.Bump n) next_turn n 0 t y.start ≡ ok y.levels r) (sym h) (bump-whole-told t f).levels) (level-at s x) (level-at t y)
