-- The pass over the tree makes every climb.
use Rattle.std.proofs.Common.{◌≡◌, ℕ, ◌+◌, ◌-◌, ◌*◌, ◌/◌, ◌^◌, ◌<◌, ◌≤◌, false, List, length, get_or, sym, ap, ◌∙◌, subst, ap₂, le_refl, arith, shr_lt, lt-ltb}
use Rattle.format.specs.declared.level.Layout.{Layout}
use Rattle.format.specs.Bytes.{hash_at}
use Rattle.path.specs.declared.path.Form.{Form}
use Rattle.path.specs.declared.path.Path.{Path}
use Rattle.path.specs.Path.{leaf_in, leaf_at_place}
use Rattle.spv.specs.Climb.{Sibling, copied, Siblings}
use Rattle.spv.specs.Values.{value_by, value_of, worked_out}
use Rattle.spv.specs.Siblings.{sibling, written_by, find_at, path_siblings}
use Rattle.spv.proofs.SiblingsLaws.{join-bump}
use Rattle.spv.specs.PositionFits.{PositionFits}
use Rattle.climbs.specs.Row.{leads_at, came_at, Under, Reached, Moved}
use Rattle.climbs.specs.Order.{Placed}
use Rattle.climbs.specs.Pass.{Spot}
use Rattle.climbs.specs.Together.{Levels, Climbed}
use Rattle.climbs.proofs.RowLaws.{leads-end}

pub all_climbed : (σ : Siblings) (h : ℕ) (starts order states hashes states' hashes' : List ℕ) → Placed starts order (length starts) → length order ≡ length starts
    → Moved σ h starts states hashes states' hashes' → Reached order states' h 0 (length order) → Climbed σ h starts states hashes states' hashes'
unfolding Climbed Reached leads_at came_at
all_climbed σ h starts order states hashes states' hashes' placed len moved reached i l =
    let o = placed.onto i l in
    let r : h ≤ get_or states' (get_or order o.0 0) 0 = reached o.0 (omega arith) (let b = o.1 in omega arith) in
    let r' : h ≤ get_or states' i 0 = subst (λ (n : ℕ). h ≤ get_or states' n 0) o.2 r in
    sym (leads-end σ h (get_or starts i 0) (get_or states' i 0) (hash_at hashes' (32 * i)) r') ∙ moved.leads h i (le_refl h)

pub low-above : (x h : ℕ) → h ≤ 64 → x < 2 ^ 64 → PositionFits h (x / 2 ^ h)
unfolding PositionFits
low-above x h b l = let e : 64 - h + h ≡ 64 = omega arith in shr_lt (64 - h) h (subst (λ (n : ℕ). x < 2 ^ n) (sym e) l)

pub spot_tree : (starts order : List ℕ) (h q lo hi : ℕ) → h ≤ 64 → PositionFits h q → lo ≤ hi → hi ≤ length order → Under starts order h q lo hi → Spot starts order h q lo hi false
spot_tree starts order h q lo hi b low s w u = record { layers = b; below = λ e. let z : ◌≡◌ {A = ℕ} 0 1 = cc in absurd (omega arith); low = low; span = s; within = w; under = u }

pub reached-end : (order states : List ℕ) (h lo n m : ℕ) → n ≡ m → Reached order states h lo n → Reached order states h lo m
reached-end order states h lo n m e r = rw e at r

-- ---- the levels of a BUMP

pub leaf-bump : (s : List ℕ) (path : Path) → Levels path → (k q : ℕ) → k < path.layers → leaf_in s path k q ≡ find_at Layout.Bump s path.at k q
unfolding leaf_in leaf_at_place
leaf-bump s path v k q b =
    let f = v.few in
    rw (lt-ltb k path.layers b, lt-ltb k 64 (omega arith)) (ap (λ (x : Form). leaf_at_place s x (get_or path.at k 0) q) v.bump)

-- below its layers they are the path's own siblings
pub path_worked : (s : List ℕ) (path : Path) → Levels path → (k q : ℕ) → k < path.layers → worked_out (written_by s (find_at Layout.Bump s path.at)) k q ≡ path_siblings s path k q
unfolding worked_out value_of path_siblings
path_worked s path v k q b =
    let f = v.few in
    ap₂ (λ (x y : Sibling). value_by x copied y) (ap (sibling s) (sym (leaf-bump s path v k q b))) (join-bump s path k q (omega arith) v.bump)
