-- Laws of the siblings that a climb takes, in a BUMP and in a TSC proof: which they are, how many and how long.
use Rattle.std.specs.Prelude.{Option, Some, None}
use Prim.Native.Nat.{ℕ, zero, suc, ◌+◌, ◌*◌, ◌/◌, ◌≤◌, ◌<◌, suc-le-suc}
use mathlib.Core.Path.{◌≡◌, refl, sym, ap, ap₂, ◌∙◌, subst}
use mathlib.Core.List.{List, [], ◌∷◌, map}
use lib.ListN.{length, get_or, length-append, length-map, get_or-map}
use native.Mathlib.Omega.{arith}
use native.Mathlib.Nat.{add-zero, zero-lt-suc}
use Rattle.format.specs.declared.leaf.Kind.{Kind}
use Rattle.format.specs.declared.leaf.Kind.TheVariants.{Copy}
use Rattle.format.specs.Parse.{ok}
use Rattle.format.specs.Refusals.{MAX_HEIGHT}
use Rattle.path.specs.Search.{least_offset}
use Rattle.encoding.specs.Encode.{encode_all}
use Rattle.format.specs.Bump.{Bump, bump_whole}
use Rattle.format.proofs.BumpLaws.{bump-whole-told}
use Rattle.encoding.specs.BumpBytes.{carried_bytes}
use Rattle.format.specs.Tsc.{Tsc, tsc_whole}
use Rattle.format.specs.Id.{subject_id}
use Rattle.spv.specs.Result.{accepted}
use Rattle.spv.specs.Climb.{Sibling, value, copied, absent, Siblings, sibling_position, sibling_positions}
use Rattle.spv.proofs.Collide.{Whole}
use Rattle.spv.specs.Siblings.{written, level_siblings, node_siblings}
use Rattle.spv.proofs.SiblingsLaws.{level_siblings-whole}
use Rattle.spv.specs.Readings.{starting, levels_reading, bump_reading, bump_reading_up_to, tsc_target, tsc_reading}
use Rattle.spv.proofs.ReadingsLaws.{read-proved, tsc-read}
use Rattle.spv.specs.Trace.{as_carried, nodes_text, TRACE_ROOM}
use Rattle.conversion.proofs.Taken.{taken, proof-siblings, proof-count, proof-layers}
use Rattle.spv.specs.Prove.{Proof, prove_by, prove, any, read}

-- ---- an id's climb in a BUMP

-- an accepted one: the BUMP that was read, the offset where the id starts, and the climb from there
pub record BumpClimb (s id : List ℕ) (p : Proof) : Type 0 where
  pub bump : Bump
  pub end : ℕ
  pub parsed : bump_whole s ≡ ok bump end
  pub start : ℕ
  pub starts : least_offset s id (get_or bump.levels 0 []) ≡ Some start
  pub climbs : prove (read (level_siblings s bump.levels) bump.height start id any) ≡ accepted p

pub bump_climb : (s id : List ℕ) (p : Proof) → prove (bump_reading s id) ≡ accepted p → BumpClimb s id p
unfolding bump_reading_up_to levels_reading starting prove_by
bump_climb s id p e =
    let r = read-proved (bump_whole s) (λ b. levels_reading s b.height b.levels id) p e in
    go r.0 r.1 r.2 (least_offset s id (get_or r.0.levels 0 [])) refl r.3
  where
    go : (b : Bump) (q : ℕ) → bump_whole s ≡ ok b q → (x : Option ℕ) → least_offset s id (get_or b.levels 0 []) ≡ x
        → prove (starting (level_siblings s b.levels) b.height id x) ≡ accepted p → BumpClimb s id p
    go b q w (Some i) l f = record { bump = b; end = q; parsed = w; start = i; starts = l; climbs = f }
    go b q w None l f = let z : ◌≡◌ {A = ℕ} 0 1 = cc in absurd (omega arith)

-- ---- the siblings taken

unfoldable pub Every : (Sibling → Type 0) → List Sibling → Type 0
Every P [] = Unit
Every P (x ∷ l) = P x × Every P l

-- what holds of every sibling of a form holds of those taken
pub taken-every : (P : Sibling → Type 0) (σ : Siblings) → ((k q : ℕ) → P (σ k q)) → (k n j : ℕ) → Every P (taken σ k n j)
unfolding Every taken
taken-every P σ f k zero j = tt
taken-every P σ f k (suc n) j = (f k (sibling_position j), taken-every P σ f (suc k) n (j / 2))

-- the sibling taken m layers up
pub taken_at : (d : Sibling) (σ : Siblings) (k n j m : ℕ) → m < n → get_or (taken σ k n j) m d ≡ σ (k + m) (get_or (sibling_positions j n) m 0)
unfolding taken sibling_positions
taken_at d σ k zero j m b = absurd (omega arith)
taken_at d σ k (suc n) j zero b = rw add-zero
taken_at d σ k (suc n) j (suc m) b =
    taken_at d σ (suc k) n (j / 2) m (omega arith) ∙ ap (λ (x : ℕ). σ x (get_or (sibling_positions (j / 2) n) m 0)) (omega arith)

-- of an accepted climb in a BUMP: each that is a value has 32 bytes, and there is one for each layer
pub record SiblingsWhole (p : Proof) : Type 0 where
  pub whole : Every Whole p.siblings
  pub count : length p.siblings ≡ p.layers
  pub some : 1 ≤ p.layers
  pub low : p.layers ≤ MAX_HEIGHT

pub siblings-whole : (s id : List ℕ) (p : Proof) → prove (bump_reading s id) ≡ accepted p → SiblingsWhole p
siblings-whole s id p e =
    let c = bump_climb s id p e in
    let σ : Siblings = level_siblings s c.bump.levels in
    let h : ℕ = c.bump.height in
    let r = bump-whole-told s c.parsed in
    let layers : p.layers ≡ h = proof-layers σ h c.start id any p c.climbs in
    record {
      whole = subst (Every Whole) (sym (proof-siblings σ h c.start id any p c.climbs)) (taken-every Whole σ (level_siblings-whole s c.bump.levels) 0 h c.start);
      count = proof-count σ h c.start id any p c.climbs ∙ sym layers;
      some = rw layers r.some;
      low = rw layers r.low;
    }

-- ---- the nodes written for them

node-length : (x : Sibling) → Whole x → length (carried_bytes (as_carried x)) ≤ 33
unfolding carried_bytes as_carried Whole
node-length (value h) w = let e = w h refl in omega arith
node-length copied w = omega arith
node-length absent w = omega arith

nodes-length : (l : List Sibling) → Every Whole l → length (nodes_text l) ≤ 33 * length l
unfolding Every nodes_text encode_all
nodes-length [] f = omega arith
nodes-length (x ∷ l) f =
    let a = node-length x f.0 in
    let b = nodes-length l f.1 in
    let d = length-append (carried_bytes (as_carried x)) (encode_all carried_bytes (map as_carried l)) in
    omega arith

-- they fit the room for a trace
pub trace_fits : (s id : List ℕ) (p : Proof) → prove (bump_reading s id) ≡ accepted p → length (nodes_text p.siblings) ≤ TRACE_ROOM
trace_fits s id p e =
    let w = siblings-whole s id p e in
    let a = nodes-length p.siblings w.whole in
    let b = w.count in
    let c = w.low in
    omega arith

-- one for each layer
pub trace_count : (s id : List ℕ) (p : Proof) → prove (bump_reading s id) ≡ accepted p → length (map as_carried p.siblings) ≡ p.layers
trace_count s id p e = length-map p.siblings as_carried ∙ (siblings-whole s id p e).count

-- ---- the siblings of a TSC proof

-- a form that has the siblings of a list, layer by layer
taken-each : (σ : Siblings) (l : List Sibling) (k j : ℕ) → ((m q : ℕ) → m < length l → σ (k + m) q ≡ get_or l m copied) → taken σ k (length l) j ≡ l
unfolding taken
taken-each σ [] k j f = refl
taken-each σ (x ∷ l) k j f =
    ap₂ ◌∷◌ (rw add-zero at (f 0 (sibling_position j) (zero-lt-suc (length l))))
    (taken-each σ l (suc k) (j / 2) (λ m q b. let e : k + suc m ≡ suc k + m = omega arith in rw e at (f (suc m) q (suc-le-suc b))))

-- the node for a layer, of those that stand there
pub node_at : (s : List ℕ) (nodes : List Kind) (k q : ℕ) → node_siblings s nodes k q ≡ get_or (map (written s) nodes) k copied
unfolding node_siblings written
node_at s nodes k q = sym (get_or-map (written s) nodes k Copy)

pub nodes-taken : (s : List ℕ) (nodes : List Kind) (j : ℕ) → taken (node_siblings s nodes) 0 (length nodes) j ≡ map (written s) nodes
nodes-taken s nodes j =
    ap (λ (n : ℕ). taken (node_siblings s nodes) 0 n j) (sym (length-map nodes (written s)))
    ∙ taken-each (node_siblings s nodes) (map (written s) nodes) 0 j (λ m q b. node_at s nodes (0 + m) q ∙ ap (λ (n : ℕ). get_or (map (written s) nodes) n copied) (omega arith))

-- they are its nodes
pub tsc-siblings : (s : List ℕ) (t : Tsc) (q : ℕ) (p : Proof) → prove (tsc_reading s) ≡ accepted p → tsc_whole s ≡ ok t q → p.siblings ≡ map (written s) t.nodes
tsc-siblings s t q p e w =
    proof-siblings (node_siblings s t.nodes) (length t.nodes) t.index (subject_id s t.subject) (tsc_target s t) p (rw (tsc-read s t q w) at e)
    ∙ nodes-taken s t.nodes t.index
