-- A level of two BUMPs that were read, each put in order and walked from the least offset up: the definition's spots.
use mathlib.Core.Path.{◌≡◌, sym, subst, ◌∙◌}
use mathlib.Core.List.{List, map}
use Prim.Native.Nat.{ℕ, ◌+◌}
use native.Mathlib.Omega.{arith}
use Rattle.format.specs.declared.level.Layout.{Layout}
use Rattle.format.specs.declared.leaf.Leaf.{Leaf}
use Rattle.format.specs.Parse.{ok}
use Rattle.format.specs.Level.{level_field}
use Rattle.encoding.specs.BumpBytes.{entry_of}
use Rattle.levels.specs.Standing.{Standing, nothing, standing_in}
use Rattle.levels.proofs.InOrder as D
use Rattle.levels.specs.Places.{entries}
use Rattle.merging.specs.Merging.{spots_from}
use Rattle.levels.specs.Ordered.{ordered_in}
use Rattle.merging.specs.Walk.{walk_spots}
use Rattle.merging.proofs.WalkLaws.{walk-all, seen_start}
use Rattle.levels.proofs.OrderedLaws.{level_ordered}

-- two levels, by what stands in them
pub levels-walked : (s t : List ℕ) (limit level p q : ℕ) {l m : List Leaf} {p' q' : ℕ} (c d : ℕ → Standing) → level_field Layout.Bump limit level s p ≡ ok l p' → level_field Layout.Bump limit level t q ≡ ok m q'
    → ((o : ℕ) → standing_in o (map (entry_of s) l) ≡ c o) → ((o : ℕ) → standing_in o (map (entry_of t) m) ≡ d o)
    → walk_spots 2048 0 nothing nothing (entries s (ordered_in 1024 s p)) (entries t (ordered_in 1024 t q)) ≡ spots_from c d limit 0
levels-walked s t limit level p q c d e f g h =
    let u = level_ordered s limit level p e in
    let v = level_ordered t limit level q f in
    let z : 0 + limit ≡ limit = omega arith in
    let few = u.few in
    let few' = v.few in
    walk-all c d limit 2048 0 0 nothing nothing (entries s (ordered_in 1024 s p)) (entries t (ordered_in 1024 t q)) u.order v.order (D.from_least (entries s (ordered_in 1024 s p))) (D.from_least (entries t (ordered_in 1024 t q)))
    (subst (λ (n : ℕ). D.Under n (entries s (ordered_in 1024 s p))) (sym z) u.under) (subst (λ (n : ℕ). D.Under n (entries t (ordered_in 1024 t q))) (sym z) v.under) (omega (arith, few, few'))
    (λ o _. u.stood o ∙ g o) (λ o _. v.stood o ∙ h o) (seen_start c) (seen_start d)
