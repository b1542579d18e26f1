-- Laws of what the forms give a climb: by what is found, and that a path's places lead to what its levels give.
use Prim.Native.Nat.{ℕ, ◌<◌, ◌≤◌}
use mathlib.Core.Path.{◌≡◌, refl, sym, ap, ◌∙◌}
use mathlib.Core.List.{List}
use lib.ListN.{length, get_or}
use borrow.Author.Tests.{lt-ltb, le-ltb}
use native.Mathlib.Omega.{arith}
use Rattle.format.specs.declared.leaf.Kind.{Kind}
use Rattle.format.specs.declared.leaf.Kind.TheVariants.{Plain, Copy, Client}
use Rattle.format.specs.declared.level.Layout.{Layout}
use Rattle.format.specs.declared.leaf.Leaf.{Leaf}
use Rattle.std.specs.Prelude.{Option, Some, None}
use Rattle.path.specs.declared.path.Form.{Form}
use Rattle.path.specs.declared.path.Path.{Path}
use Rattle.path.specs.Search.{leaf_of_level}
use Rattle.format.proofs.BytesLaws.{hash-at-length}
use Rattle.path.specs.Path.{leaf_in, leaf_at_place, LAYERS, layers_of}
use Rattle.spv.specs.Climb.{Sibling, copied, absent, Siblings}
use Rattle.spv.proofs.Collide.{Whole}
use Rattle.spv.specs.Values.{value_by, join_of, value_of, worked_out}
use Rattle.spv.proofs.ValuesLaws.{join-same, worked_same, worked_whole}
use Rattle.spv.specs.Siblings.{written, sibling, written_by, find_in, find_at, level_siblings, node_siblings, join_in, path_join, path_siblings}
use Rattle.format.specs.Bytes.{hash_at}

pub written-whole : (s : List ℕ) (kind : Kind) → Whole (written s kind)
unfolding Whole written
written-whole s (Plain p) q e = let y : hash_at s p ≡ q = cc in ap length (sym y) ∙ hash-at-length s p
written-whole s Copy q e = let z : ◌≡◌ {A = ℕ} 0 1 = cc in absurd (omega arith)
written-whole s (Client p) q e = let y : hash_at s p ≡ q = cc in ap length (sym y) ∙ hash-at-length s p

pub sibling-whole : (s : List ℕ) (found : Option Kind) → Whole (sibling s found)
unfolding Whole sibling
sibling-whole s (Some kind) q e = written-whole s kind q e
sibling-whole s None q e = let z : ◌≡◌ {A = ℕ} 0 1 = cc in absurd (omega arith)

pub level_siblings-whole : (s : List ℕ) (levels : List (List Leaf)) (k q : ℕ) → Whole (level_siblings s levels k q)
unfolding level_siblings
level_siblings-whole s levels = worked_whole (written_by s (find_in levels)) (λ k q. sibling-whole s (find_in levels k q))

-- what is written is not overruled by its children
value-here : (s : List ℕ) (kind : Kind) (copy join other : Sibling) → value_by (written s kind) copy join ≡ value_by (written s kind) copy other
unfolding value_by written
value-here s (Plain p) copy join other = refl
value-here s Copy copy join other = refl
value-here s (Client p) copy join other = refl

module _ (s : List ℕ) (find : ℕ → ℕ → Option Kind) (copy : Sibling) (k q : ℕ) where
  pub value_found : (kind : Kind) → find k q ≡ Some kind → value_of (written_by s find) copy k q ≡ value_by (written s kind) copy absent
  unfolding value_of sibling
  value_found kind e = rw (value_of, e) (value-here s kind copy (join_of (written_by s find) k q) absent)

  pub value-missing : find k q ≡ None → value_of (written_by s find) copy k q ≡ join_of (written_by s find) k q
  unfolding value_of value_by sibling
  value-missing e = rw e

-- on the climb a copy stays a copy
value_stays : (s : List ℕ) (kind : Kind) (join : Sibling) → value_by (written s kind) copied join ≡ written s kind
unfolding value_by written
value_stays s (Plain p) join = refl
value_stays s Copy join = refl
value_stays s (Client p) join = refl

module _ (s : List ℕ) (path : Path) (k q : ℕ) where
  pub path_here : (kind : Kind) → leaf_in s path k q ≡ Some kind → path_siblings s path k q ≡ written s kind
  unfolding path_siblings sibling
  path_here kind e = rw (path_siblings, e) (value_stays s kind (path_join s path k q))

  pub path_missing : leaf_in s path k q ≡ None → path_siblings s path k q ≡ path_join s path k q
  unfolding path_siblings sibling value_by
  path_missing e = rw e

  -- a path that has a node for each layer
  pub path_nodes : (nodes : List Kind) → leaf_in s path k q ≡ Some (get_or nodes k Copy) → path_siblings s path k q ≡ node_siblings s nodes k q
  unfolding node_siblings
  path_nodes nodes e = path_here (get_or nodes k Copy) e

  pub join_outside : layers_of path.layers ≤ k → path_join s path k q ≡ absent
  unfolding path_join
  join_outside b = rw (le-ltb k (layers_of path.layers) b)

  pub join-inside : k < layers_of path.layers → path_join s path k q ≡ join_in path.form (written_by s (leaf_in s path)) k q
  unfolding path_join
  join-inside b = rw (lt-ltb k (layers_of path.layers) b)

-- a path whose places lead to the levels of h layers
pub record LeadsTo (s : List ℕ) (path : Path) (h : ℕ) (levels : List (List Leaf)) : Type 0 where
  pub layers : path.layers ≡ h
  pub few : h ≤ LAYERS
  pub leaf : (k q : ℕ) → k < h → leaf_in s path k q ≡ find_in levels k q
  pub join : (w : Siblings) (k q : ℕ) → join_in path.form w k q ≡ join_of w k q

pub path_levels : (s : List ℕ) (path : Path) (h : ℕ) (levels : List (List Leaf)) → LeadsTo s path h levels → (k q : ℕ) → k < h → path_siblings s path k q ≡ level_siblings s levels k q
unfolding level_siblings worked_out value_of path_siblings
path_levels s path h levels l k q b =
    let e = l.layers in
    let f = l.few in
    ap (value_by (written_by s (leaf_in s path) k q) copied) (join-inside s path k q (omega arith) ∙ l.join (written_by s (leaf_in s path)) k q)
    ∙ worked_same (written_by s (leaf_in s path)) (written_by s (find_in levels)) h (λ m o c. ap (sibling s) (l.leaf m o c)) k q b

-- the join in a path's levels, by their places
module _ (s : List ℕ) (path : Path) (layout : Layout) (e : (at q : ℕ) → leaf_at_place s path.form at q ≡ leaf_of_level layout s at q) where
  leaf-placed : (k q : ℕ) → k < layers_of path.layers → leaf_in s path k q ≡ find_at layout s path.at k q
  unfolding leaf_in
  leaf-placed k q b = rw (lt-ltb k path.layers (omega arith), lt-ltb k LAYERS (omega arith)) (e (get_or path.at k 0) q)

  pub join-placed : (k q : ℕ) → k < layers_of path.layers → join_of (written_by s (find_at layout s path.at)) k q ≡ join_of (written_by s (leaf_in s path)) k q
  join-placed k q b = sym (join-same (written_by s (leaf_in s path)) (written_by s (find_at layout s path.at)) (layers_of path.layers) (λ l o c. ap (sibling s) (leaf-placed l o c)) k q (omega arith))

-- by the form of a path
module _ (s : List ℕ) (path : Path) (k q : ℕ) (b : k < layers_of path.layers) where
  pub join-bump : path.form ≡ Form.Bump → join_of (written_by s (find_at Layout.Bump s path.at)) k q ≡ path_join s path k q
  unfolding join_in leaf_at_place
  join-bump f =
      join-placed s path Layout.Bump (λ at o. ap (λ (x : Form). leaf_at_place s x at o) f) k q b
      ∙ sym (join-inside s path k q b ∙ ap (λ (x : Form). join_in x (written_by s (leaf_in s path)) k q) f)

  pub join-cmp : path.form ≡ Form.Cmp → join_of (written_by s (find_at Layout.Cmp s path.at)) k q ≡ path_join s path k q
  unfolding join_in leaf_at_place
  join-cmp f =
      join-placed s path Layout.Cmp (λ at o. ap (λ (x : Form). leaf_at_place s x at o) f) k q b
      ∙ sym (join-inside s path k q b ∙ ap (λ (x : Form). join_in x (written_by s (leaf_in s path)) k q) f)

  pub join-tsc : path.form ≡ Form.Tsc → path_join s path k q ≡ absent
  unfolding join_in
  join-tsc f = join-inside s path k q b ∙ ap (λ (x : Form). join_in x (written_by s (leaf_in s path)) k q) f
