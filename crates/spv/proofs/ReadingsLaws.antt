-- Laws of readings: a proof by its path's places is the proof by its levels or nodes.
use Prim.Native.Nat.{ℕ, ◌<◌}
use mathlib.Core.Path.{◌≡◌, refl, sym, ap, ◌∙◌}
use mathlib.Core.List.{List, []}
use lib.ListN.{length, get_or}
use native.Mathlib.Omega.{arith}
use Rattle.format.specs.declared.leaf.Leaf.{Leaf}
use Rattle.std.specs.Prelude.{Option, Some, None}
use Rattle.path.specs.declared.path.Path.{Path}
use Rattle.format.specs.Parse.{Parse, ok, fault}
use Rattle.path.specs.Search.{least_offset}
use Rattle.path.specs.Path.{start_in, bump_path_of, bump_path, cmp_path_of, cmp_path}
use Rattle.format.proofs.BumpLaws.{BumpRead, bump-whole-told, CmpRead, cmp-whole-told}
use Rattle.path.proofs.PathLaws.{bump-leaf_in, bump-start_in, cmp-leaf_in, cmp-start_in}
use Rattle.format.specs.Bump.{Bump, bump_whole}
use Rattle.format.specs.Cmp.{Cmp, cmp_whole}
use Rattle.format.specs.Tsc.{Tsc, tsc_field, tsc_whole}
use Rattle.format.proofs.TscLaws.{TscRead, tsc-whole-told}
use Rattle.path.specs.TscPath.{tsc_path_of, tsc_path}
use Rattle.path.proofs.TscPathLaws.{tsc-leaf_in}
use Rattle.format.specs.Id.{subject_id}
use Rattle.path.proofs.SubjectLaws.{subject-hash}
use Rattle.format.proofs.Whole.{whole-size}
use Rattle.spv.specs.Result.{accepted, carrying}
use Rattle.spv.specs.Climb.{Siblings}
use Rattle.spv.proofs.ClimbLaws.{ascend-same}
use Rattle.spv.proofs.CompareLaws.{prove_climb}
use Rattle.spv.specs.Siblings.{level_siblings, node_siblings, join_in, path_siblings}
use Rattle.spv.proofs.SiblingsLaws.{LeadsTo, path_levels, path_nodes}
use Rattle.spv.specs.Readings.{read_as, starting, levels_reading, bump_reading, bump_reading_up_to, cmp_reading, cmp_reading_up_to, tsc_target, tsc_reading, tsc_reading_up_to, path_reading}
use Rattle.path.specs.Subject.{subject_hash}
use Rattle.spv.specs.Prove.{Target, Reading, Proof, prove_by, prove, any, unread, read}

-- an accepted proof was read
pub read-proved : {A : Type 0} (x : Parse A) (f : A → Reading) (p : Proof) → prove (read_as x f) ≡ accepted p → (a : A) × (q : ℕ) × (x ≡ ok a q) × (prove (f a) ≡ accepted p)
unfolding prove_by
read-proved (ok a q) f p e = (a, q, refl, e)
read-proved (fault number place) f p e = let z : ◌≡◌ {A = ℕ} 0 1 = cc in absurd (omega arith)

pub prove-same : (σ τ : Siblings) (h i : ℕ) (c : List ℕ) (w : Target) → ((k q : ℕ) → k < h → σ k q ≡ τ k q) → prove (read σ h i c w) ≡ prove (read τ h i c w)
prove-same σ τ h i c w f = prove_climb σ τ h i c w (ascend-same σ τ h f i c)

starting-same : (σ τ : Siblings) (h : ℕ) (id : List ℕ) (x : Option ℕ) → ((k q : ℕ) → k < h → σ k q ≡ τ k q) → prove (starting σ h id x) ≡ prove (starting τ h id x)
unfolding starting
starting-same σ τ h id (Some i) f = prove-same σ τ h i id any f
starting-same σ τ h id None f = refl

-- a path whose places lead to the levels proves what the levels prove
pub path_proves : (s : List ℕ) (path : Path) (h : ℕ) (levels : List (List Leaf)) (id : List ℕ) → LeadsTo s path h levels
    → start_in s path id ≡ least_offset s id (get_or levels 0 [])
    → prove (path_reading s path id) ≡ prove (levels_reading s h levels id)
unfolding path_reading levels_reading
path_proves s path h levels id l e =
    ap (λ (n : ℕ). prove (starting (path_siblings s path) n id (start_in s path id))) l.layers
    ∙ ap (λ (x : Option ℕ). prove (starting (path_siblings s path) h id x)) e
    ∙ starting-same (path_siblings s path) (level_siblings s levels) h id (least_offset s id (get_or levels 0 [])) (path_levels s path h levels l)

pub bump-refused : (s id : List ℕ) (number place : ℕ) → bump_whole s ≡ fault number place → bump_reading s id ≡ unread (carrying number place)
unfolding bump_reading_up_to
bump-refused s id number place e = rw e

pub bump-read : (s id : List ℕ) (b : Bump) (q : ℕ) → bump_whole s ≡ ok b q → bump_reading s id ≡ levels_reading s b.height b.levels id
unfolding bump_reading_up_to
bump-read s id b q e = rw e

pub cmp-refused : (s id : List ℕ) (number place : ℕ) → cmp_whole s ≡ fault number place → cmp_reading s id ≡ unread (carrying number place)
unfolding cmp_reading_up_to
cmp-refused s id number place e = rw e

pub cmp-read : (s id : List ℕ) (p : Cmp) (q : ℕ) → cmp_whole s ≡ ok p q → cmp_reading s id ≡ levels_reading s p.height p.levels id
unfolding cmp_reading_up_to
cmp-read s id p q e = rw e

-- a path has the layers that were read
pub bump-layers : (s : List ℕ) {q : ℕ} (b : Bump) → BumpRead s q b → (bump_path s b).layers ≡ b.height
unfolding bump_path_of
bump-layers s b r = let low = r.low in omega arith

pub cmp-layers : (s : List ℕ) {q : ℕ} (p : Cmp) → CmpRead s q p → (cmp_path s p).layers ≡ p.height
unfolding cmp_path_of
cmp-layers s p r = let low = r.low in omega arith

-- the places of what was read lead to its levels
pub bump-leads : (s : List ℕ) {q : ℕ} (b : Bump) → BumpRead s q b → LeadsTo s (bump_path s b) b.height b.levels
unfolding bump_path_of join_in
bump-leads s b r = record { layers = bump-layers s b r; few = let low = r.low in omega arith; leaf = bump-leaf_in s b r; join = λ w k q. refl }

pub cmp-leads : (s : List ℕ) {q : ℕ} (p : Cmp) → CmpRead s q p → LeadsTo s (cmp_path s p) p.height p.levels
unfolding cmp_path_of join_in
cmp-leads s p r = record { layers = cmp-layers s p r; few = let low = r.low in omega arith; leaf = cmp-leaf_in s p r; join = λ w k q. refl }

-- a BUMP that was read, alone or in a bundle: its path proves what its levels prove
pub bump_path_proves : (s id : List ℕ) {q : ℕ} (b : Bump) → BumpRead s q b → prove (path_reading s (bump_path s b) id) ≡ prove (levels_reading s b.height b.levels id)
bump_path_proves s id b r = path_proves s (bump_path s b) b.height b.levels id (bump-leads s b r) (bump-start_in s b r id)

pub bump_proves : (s id : List ℕ) (b : Bump) (q : ℕ) → bump_whole s ≡ ok b q → prove (path_reading s (bump_path s b) id) ≡ prove (bump_reading s id)
bump_proves s id b q e = bump_path_proves s id b (bump-whole-told s e) ∙ sym (ap prove (bump-read s id b q e))

pub cmp_proves : (s id : List ℕ) (p : Cmp) (q : ℕ) → cmp_whole s ≡ ok p q → prove (path_reading s (cmp_path s p) id) ≡ prove (cmp_reading s id)
cmp_proves s id p q e =
    let r = cmp-whole-told s e in
    path_proves s (cmp_path s p) p.height p.levels id (cmp-leads s p r) (cmp-start_in s p r id) ∙ sym (ap prove (cmp-read s id p q e))

pub tsc-refused : (s : List ℕ) (number place : ℕ) → tsc_whole s ≡ fault number place → tsc_reading s ≡ unread (carrying number place)
unfolding tsc_reading_up_to
tsc-refused s number place e = rw e

pub tsc-read : (s : List ℕ) (t : Tsc) (q : ℕ) → tsc_whole s ≡ ok t q
    → tsc_reading s ≡ read (node_siblings s t.nodes) (length t.nodes) t.index (subject_id s t.subject) (tsc_target s t)
unfolding tsc_reading_up_to
tsc-read s t q e = rw e

pub tsc-layers : (s : List ℕ) {q : ℕ} (t : Tsc) → TscRead s q t → (tsc_path s t).layers ≡ length t.nodes
unfolding tsc_path_of
tsc-layers s t r = let low = r.low in omega arith

pub tsc_proves : (s : List ℕ) (t : Tsc) (q : ℕ) → tsc_whole s ≡ ok t q
    → prove (read (path_siblings s (tsc_path s t)) (tsc_path s t).layers t.index (subject_hash s t.subject) (tsc_target s t)) ≡ prove (tsc_reading s)
tsc_proves s t q e =
    let r = tsc-whole-told s e in
    ap (λ (h : ℕ). prove (read (path_siblings s (tsc_path s t)) h t.index (subject_hash s t.subject) (tsc_target s t))) (tsc-layers s t r)
    ∙ ap (λ (id : List ℕ). prove (read (path_siblings s (tsc_path s t)) (length t.nodes) t.index id (tsc_target s t))) (subject-hash s t r (whole-size tsc_field s e))
    ∙ prove-same (path_siblings s (tsc_path s t)) (node_siblings s t.nodes) (length t.nodes) t.index (subject_id s t.subject) (tsc_target s t)
    (λ k j b. path_nodes s (tsc_path s t) k j t.nodes (tsc-leaf_in s t r k j b))
    ∙ sym (ap prove (tsc-read s t q e))
