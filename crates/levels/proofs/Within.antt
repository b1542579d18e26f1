-- Nothing stands outside a BUMP's tree.
use mathlib.Core.Path.{◌≡◌, refl, ap, sym, subst, ◌∙◌}
use mathlib.Core.List.{List, [], map}
use Prim.Native.Nat.{ℕ, zero, suc, ◌+◌, ◌-◌, ◌^◌, ◌≤◌}
use lib.ListN.{get_or, get_or-map, get_or-eq_default}
use native.Mathlib.Omega.{arith}
use Rattle.format.specs.declared.level.Layout.{Layout}
use Rattle.format.specs.declared.leaf.Leaf.{Leaf}
use Rattle.format.specs.Parse.{many, ok}
use Rattle.format.proofs.ParseLaws.{many-told, many-length}
use Rattle.format.specs.Level.{level_of_turn, level_in_turn, next_turn}
use Rattle.format.specs.Bump.{Bump, bump_whole}
use Rattle.format.proofs.BumpLaws.{bump-whole-told}
use Rattle.encoding.specs.BumpBytes.{Content, entry_of, content_of}
use Rattle.levels.specs.Standing.{nothing, standing_in, standing}
use Rattle.levels.specs.Places.{entries}
use Rattle.levels.specs.Ordered.{ordered_in}
use Rattle.levels.proofs.InOrder.{standing-above}
use Rattle.levels.proofs.OrderedLaws.{level_ordered}

pub record Within (x : Content) : Type 0 where
  pub below : (k o : ℕ) → x.height ≤ k → standing x k o ≡ nothing
  pub inside : (k o : ℕ) → 2 ^ (x.height - k) ≤ o → standing x k o ≡ nothing

empty_at : (o : ℕ) → standing_in o [] ≡ nothing
unfolding standing_in
empty_at o = refl

-- the levels from k on, of which there are n
inside_from : (s : List ℕ) (h n k p : ℕ) {ls : List (List Leaf)} {q : ℕ} (j o : ℕ) → many (level_in_turn Layout.Bump h) next_turn n k s p ≡ ok ls q → 2 ^ (h - (k + j)) ≤ o
    → standing_in o (map (entry_of s) (get_or ls j [])) ≡ nothing
unfolding many level_of_turn
inside_from s h zero k p {ls} j o e g = let z : [] ≡ ls = cc in ap (λ (v : List (List Leaf)). standing_in o (map (entry_of s) (get_or v j []))) (sym z) ∙ empty_at o
inside_from s h (suc n) k p {ls} zero o e g =
    let x = many-told (level_in_turn Layout.Bump h) next_turn n k s p e in
    let u = level_ordered s (2 ^ (h - k)) k p x.3 in
    let a : k + zero ≡ k = omega arith in
    ap (λ (v : List (List Leaf)). standing_in o (map (entry_of s) (get_or v zero []))) (sym x.5)
    ∙ sym (u.stood o)
    ∙ standing-above o (2 ^ (h - k)) (entries s (ordered_in 1024 s p)) u.under (subst (λ (m : ℕ). 2 ^ (h - m) ≤ o) a g)
inside_from s h (suc n) k p {ls} (suc j) o e g =
    let x = many-told (level_in_turn Layout.Bump h) next_turn n k s p e in
    let a : k + suc j ≡ k + 1 + j = omega arith in
    ap (λ (v : List (List Leaf)). standing_in o (map (entry_of s) (get_or v (suc j) []))) (sym x.5)
    ∙ inside_from s h n (k + 1) x.1 j o x.4 (subst (λ (m : ℕ). 2 ^ (h - m) ≤ o) a g)

-- what was read stands within its tree
pub within : (s : List ℕ) {b : Bump} {q : ℕ} → bump_whole s ≡ ok b q → Within (content_of s b)
unfolding standing
within s {b} {q} e =
    let u = (bump-whole-told s e).levels in
    let n = many-length (level_in_turn Layout.Bump b.height) next_turn b.height 0 s b.start u in
    record {
      below = λ k o h. ap (standing_in o) (get_or-map (map (entry_of s)) b.levels k [] ∙ ap (map (entry_of s)) (get_or-eq_default b.levels [] (omega (arith, n, h)))) ∙ empty_at o;
      inside = λ k o h.
          ap (standing_in o) (get_or-map (map (entry_of s)) b.levels k [])
          ∙ inside_from s b.height b.height 0 b.start k o u (let a : 0 + k ≡ k = omega arith in subst (λ (m : ℕ). 2 ^ (b.height - m) ≤ o) (sym a) h);
    }
