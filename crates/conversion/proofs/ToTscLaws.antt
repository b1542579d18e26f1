-- Laws of a BUMP's climb and of a TSC proof's, for writing the one as the other: what is read of the one that is written.
use Prim.Native.Nat.{ℕ, ◌+◌, ◌<◌}
use mathlib.Core.Path.{◌≡◌, refl, sym, ap, ap₂, ◌∙◌, subst}
use mathlib.Core.Bool.{Bool, true, false}
use mathlib.Core.List.{List, [], ◌∷◌, map}
use lib.ListN.{length, get_or}
use native.Mathlib.Omega.{arith}
use native.Mathlib.Nat.{zero-add}
use Rattle.format.specs.declared.leaf.Kind.{Kind}
use Rattle.format.specs.declared.leaf.Kind.TheVariants.{Plain, Copy, Client}
use Rattle.format.specs.Parse.{pick, ok}
use Rattle.format.proofs.BytesLaws.{same_eq, eq_same}
use Rattle.format.specs.Refusals.{ROOTS_DIFFER}
use Rattle.format.specs.Bytes.{hash_at}
use Rattle.encoding.specs.Encode.{AllBytes, Fits}
use Rattle.encoding.specs.BumpBytes.{carried_of}
use Rattle.format.specs.Tsc.{Tsc, tsc_whole, tells_root, target_root}
use Rattle.encoding.specs.TscBytes.{TscContent, ID_AND_ROOT, tsc_content_of, NodeFit, NodesFit}
use Rattle.encoding.proofs.TscRoundTrip.{tsc-written, content-index, content-nodes, content-length}
use Rattle.format.specs.Id.{subject_id}
use Rattle.spv.specs.Result.{Result, accepted, refused, carrying}
use Rattle.spv.specs.Climb.{Sibling, value, copied, absent, Siblings, sibling_positions, ascend, end_of}
use Rattle.spv.proofs.ClimbLaws.{ascend-agree}
use Rattle.spv.proofs.CompareLaws.{prove_climb, prove-root, prove-accepted}
use Rattle.spv.specs.Siblings.{written, level_siblings, node_siblings}
use Rattle.spv.specs.Readings.{bump_reading, tsc_target, tsc_reading}
use Rattle.spv.proofs.ReadingsLaws.{tsc-read}
use Rattle.spv.specs.Trace.{as_carried}
use Rattle.conversion.specs.Convert.{id_tsc}
use Rattle.conversion.proofs.Taken.{taken, Present, AllPresent, proof-siblings, proof_present, proof-layers, proof-position, proof-id}
use Rattle.conversion.proofs.TakenLaws.{bump_climb, taken_at, trace_count, node_at, tsc-siblings}
use Rattle.spv.specs.Prove.{Target, target_of, hits, settle, Proof, proof_of, prove_by, prove, any, bound, read}

-- ---- one proof by two readings

module _ (σ : Siblings) (h i : ℕ) (c : List ℕ) (w : Target) (p : Proof) (e : prove (read σ h i c w) ≡ accepted p) where
  -- its target is its root
  pub proof-hits : hits w p.root ≡ true
  unfolding prove_by settle
  proof-hits = go (end_of c (ascend σ 0 h i c)) e
    where
      hit : (r : List ℕ) (b : Bool) → hits w r ≡ b → pick b (accepted (proof_of σ h i c r)) (refused (carrying ROOTS_DIFFER 0)) ≡ accepted p → hits w p.root ≡ true
      hit r true q f = let y : proof_of σ h i c r ≡ p = cc in rw (← y) q
      hit r false q f = let z : ◌≡◌ {A = ℕ} 0 1 = cc in absurd (omega arith)

      go : (o : Result (List ℕ)) → settle w (proof_of σ h i c) o ≡ accepted p → hits w p.root ≡ true
      go (accepted r) f = hit r (hits w r) refl f
      go (refused why) f = let z : ◌≡◌ {A = ℕ} 0 1 = cc in absurd (omega arith)

  -- a form with its siblings, layer by layer, stands beside the climb as the first one does
  beside-again : (τ : Siblings) → ((k q : ℕ) → k < h → τ k q ≡ get_or p.siblings k copied) → (m : ℕ) → m < h
      → τ (0 + m) (get_or (sibling_positions i h) m 0) ≡ σ (0 + m) (get_or (sibling_positions i h) m 0)
  beside-again τ f m b =
      f (0 + m) (get_or (sibling_positions i h) m 0) (rw (zero-add m) b)
      ∙ ap (λ (l : List Sibling). get_or l (0 + m) copied) (proof-siblings σ h i c w p e)
      ∙ ap (λ (n : ℕ). get_or (taken σ 0 h i) n copied) (zero-add m)
      ∙ taken_at copied σ 0 h i m b

  -- so a reading with its layers, position, id and siblings, whose target is its root, proves the same
  pub proved-again : (τ : Siblings) (g j : ℕ) (d : List ℕ) (v : Target) → g ≡ p.layers → j ≡ p.position → d ≡ p.id → hits v p.root ≡ true
      → ((k q : ℕ) → k < p.layers → τ k q ≡ get_or p.siblings k copied) → prove (read τ g j d v) ≡ accepted p
  proved-again τ g j d v eg ej ed hit f =
      let a = prove-accepted σ h i c w p e in
      ap (λ (n : ℕ). prove (read τ n j d v)) (eg ∙ proof-layers σ h i c w p e)
      ∙ ap (λ (n : ℕ). prove (read τ h n d v)) (ej ∙ proof-position σ h i c w p e)
      ∙ ap (λ (x : List ℕ). prove (read τ h i x v)) (ed ∙ proof-id σ h i c w p e)
      ∙ prove_climb τ σ h i c v (ascend-agree τ σ 0 h i c (beside-again τ (rw (proof-layers σ h i c w p e) at f)))
      ∙ prove-root σ h i c v p.root a.1 hit
      ∙ ap accepted (sym a.0)

-- ---- siblings as the nodes of a TSC proof, and back

-- a sibling that a climb takes is had again of its node
node_back : (s : List ℕ) (k : Kind) (x : Sibling) → Present x → carried_of s k ≡ as_carried x → written s k ≡ x
unfolding carried_of as_carried written Present
node_back s (Plain p) (value h) f e = let y : hash_at s p ≡ h = cc in ap value y
node_back s (Plain p) copied f e = let z : ◌≡◌ {A = ℕ} 0 1 = cc in absurd (omega arith)
node_back s Copy (value h) f e = let z : ◌≡◌ {A = ℕ} 0 1 = cc in absurd (omega arith)
node_back s Copy copied f e = refl
node_back s (Client p) (value h) f e = let z : ◌≡◌ {A = ℕ} 0 1 = cc in absurd (omega arith)
node_back s (Client p) copied f e = let z : ◌≡◌ {A = ℕ} 0 1 = cc in absurd (omega arith)
node_back s k absent f e = absurd (f refl)

pub nodes_back : (s : List ℕ) (ks : List Kind) (l : List Sibling) → AllPresent l → map (carried_of s) ks ≡ map as_carried l → map (written s) ks ≡ l
unfolding AllPresent
nodes_back s [] [] f e = refl
nodes_back s [] (x ∷ l) f e = let z : ◌≡◌ {A = ℕ} 0 1 = cc in absurd (omega arith)
nodes_back s (k ∷ ks) [] f e = let z : ◌≡◌ {A = ℕ} 0 1 = cc in absurd (omega arith)
nodes_back s (k ∷ ks) (x ∷ l) f e =
    let a : carried_of s k ≡ as_carried x = cc in
    let b : map (carried_of s) ks ≡ map as_carried l = cc in
    ap₂ ◌∷◌ (node_back s k x f.0 a) (nodes_back s ks l f.1 b)

-- a node of a TSC proof is written again as it stands
node-again : (s : List ℕ) (k : Kind) → NodeFit (carried_of s k) → as_carried (written s k) ≡ carried_of s k
unfolding NodeFit carried_of as_carried written
node-again s (Plain p) f = refl
node-again s Copy f = refl
node-again s (Client p) f = absurd f

pub nodes-again : (s : List ℕ) (ks : List Kind) → NodesFit (map (carried_of s) ks) → map as_carried (map (written s) ks) ≡ map (carried_of s) ks
unfolding Fits
nodes-again s [] f = refl
nodes-again s (k ∷ ks) f = ap₂ ◌∷◌ (node-again s k f.0) (nodes-again s ks f.1)

-- a root target
pub root-target : (s : List ℕ) (t : Tsc) → t.flags ≡ ID_AND_ROOT → tsc_target s t ≡ bound (hash_at s t.target)
unfolding tsc_target target_of tells_root target_root
root-target s t e = rw e

-- ---- a climb and the content of its TSC proof

-- bytes that are read as the content of an accepted climb prove what the climb proves
module _ (s id : List ℕ) (p : Proof) (e : prove (bump_reading s id) ≡ accepted p) (bytes : List ℕ) (t : Tsc) (q : ℕ) (w : tsc_whole bytes ≡ ok t q) (four : t.flags ≡ ID_AND_ROOT) (says : tsc_content_of bytes t ≡ id_tsc p) where
  same-siblings : map (written bytes) t.nodes ≡ p.siblings
  unfolding id_tsc
  same-siblings =
      let c = bump_climb s id p e in
      let σ : Siblings = level_siblings s c.bump.levels in
      let all_there : AllPresent p.siblings = subst AllPresent (sym (proof-siblings σ c.bump.height c.start id any p c.climbs)) (proof_present σ c.bump.height c.start id any p c.climbs) in
      nodes_back bytes t.nodes p.siblings all_there (content-nodes bytes t says)

  same_target : hits (tsc_target bytes t) p.root ≡ true
  unfolding id_tsc hits
  same_target = ap (λ (x : Target). hits x p.root) (root-target bytes t four) ∙ eq_same (hash_at bytes t.target) p.root (ap (λ (x : TscContent). x.root) says)

  pub content_proves : prove (tsc_reading bytes) ≡ accepted p
  unfolding id_tsc
  content_proves =
      let c = bump_climb s id p e in
      ap prove (tsc-read bytes t q w)
      ∙ proved-again (level_siblings s c.bump.levels) c.bump.height c.start id any p c.climbs
      (node_siblings bytes t.nodes) (length t.nodes) t.index (subject_id bytes t.subject) (tsc_target bytes t)
      (content-length bytes t says ∙ trace_count s id p e) (content-index bytes t says) (ap (λ (x : TscContent). x.id) says) same_target
      (λ k j b. node_at bytes t.nodes k j ∙ ap (λ (l : List Sibling). get_or l k copied) same-siblings)

-- what a TSC proof with id and root target says is what it proves
pub tsc-content : (s : List ℕ) (t : Tsc) (q : ℕ) (p : Proof) → AllBytes s → tsc_whole s ≡ ok t q → t.flags ≡ ID_AND_ROOT → prove (tsc_reading s) ≡ accepted p → tsc_content_of s t ≡ id_tsc p
unfolding id_tsc hits
tsc-content s t q p all w four e =
    let σ : Siblings = node_siblings s t.nodes in
    let h : ℕ = length t.nodes in
    let i : ℕ = t.index in
    let c : List ℕ = subject_id s t.subject in
    let f = rw (tsc-read s t q w) at e in
    let root : hash_at s t.target ≡ p.root = same_eq _ _ (rw (root-target s t four) at (proof-hits σ h i c (tsc_target s t) p f)) in
    let nodes : map (carried_of s) t.nodes ≡ map as_carried p.siblings =
    sym (nodes-again s t.nodes (tsc-written s all w four).1.nodes_fit) ∙ ap (map as_carried) (sym (tsc-siblings s t q p e w)) in
    λ x. record { index = sym (proof-position σ h i c (tsc_target s t) p f) x; id = sym (proof-id σ h i c (tsc_target s t) p f) x; root = root x; nodes = nodes x }
