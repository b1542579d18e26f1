-- Demand 3: two accepted proofs, forms mixed, that agree in root, position and layers and prove different ids give two different strings of one hash.
use Prim.Native.Nat.{ℕ}
use mathlib.Core.Path.{◌≡◌, refl, sym, ap, ◌∙◌}
use mathlib.Core.List.{List, []}
use lib.ListN.{length, get_or}
use Rattle.hash.specs.Sha256.{sha256d}
use Rattle.hash.proofs.Sha256Laws.{sha256d-length}
use Rattle.format.specs.declared.leaf.Leaf.{Leaf}
use Rattle.format.specs.declared.tsc.Subject.{Subject}
use Rattle.path.specs.declared.path.Form.{Form}
use Rattle.format.specs.Parse.{Parse, ok, fault}
use Rattle.path.specs.Search.{least_offset}
use Rattle.format.proofs.BytesLaws.{hash-at-length}
use Rattle.format.specs.Bump.{bump_whole}
use Rattle.format.specs.Cmp.{cmp_whole}
use Rattle.format.specs.Tsc.{tsc_whole}
use Rattle.spv.specs.Result.{Result, accepted, refused}
use Rattle.spv.specs.Compare.{compare_by, compare, Collision, Strings, pair}
use Rattle.spv.proofs.Collide.{WholeReading, CollidedBy, Collided, demand3_whole, Colliding, compare-pair}
use Rattle.spv.specs.Siblings.{level_siblings, node_siblings}
use Rattle.spv.proofs.SiblingsLaws.{written-whole, level_siblings-whole}
use Rattle.format.specs.Id.{subject_id}
use Rattle.spv.specs.Readings.{read_as, starting, levels_reading, bump_reading_up_to, cmp_reading_up_to, tsc_reading_up_to, reading, reading_up_to}
use Rattle.spv.proofs.Surplus.{Least, least-is}
use Rattle.spv.proofs.Position.{carrier}
use Rattle.std.specs.Prelude.{Option, Some, None, Result as Answer, Ok}
use Rattle.spv.specs.Shapes.{proved_of, compared_of}
use Rattle.spv.proofs.ResultLaws.{answered-ok}
use Rattle.spv.proofs.ShapesLaws.{told-accepted}
use Rattle.spv.specs.declared.rejection.Rejection.{Rejection}
use Rattle.spv.specs.declared.prove.Proved.{Proved}
use Rattle.spv.specs.declared.compare.Pair.{Pair}
use Rattle.spv.specs.Prove.{Reading, Proof, prove_by, prove}

-- ---- whatever a form reads has ids and siblings of 32 bytes

starting-whole : (s id : List ℕ) (h : ℕ) (levels : List (List Leaf)) (x : Option ℕ) → Least s id (get_or levels 0 []) x → WholeReading (starting (level_siblings s levels) h id x)
unfolding starting WholeReading Least
starting-whole s id h levels (Some i) l = ((carrier s id i (get_or levels 0 []) l.0).long, level_siblings-whole s levels)
starting-whole s id h levels None l = tt

levels-whole : (s id : List ℕ) (h : ℕ) (levels : List (List Leaf)) → WholeReading (levels_reading s h levels id)
unfolding levels_reading
levels-whole s id h levels = starting-whole s id h levels (least_offset s id (get_or levels 0 [])) (least-is s id (get_or levels 0 []))

subject-long : (s : List ℕ) (x : Subject) → length (subject_id s x) ≡ 32
unfolding subject_id
subject-long s (Subject.Id p) = hash-at-length s p
subject-long s (Subject.Transaction start end) = sha256d-length _

read_whole : {A : Type 0} (x : Parse A) (f : A → Reading) → ((a : A) → WholeReading (f a)) → WholeReading (read_as x f)
unfolding WholeReading
read_whole (ok a q) f h = h a
read_whole (fault number place) f h = tt

pub reading-whole : (form : Form) (s id : List ℕ) → WholeReading (reading form s id)
unfolding reading_up_to bump_reading_up_to cmp_reading_up_to tsc_reading_up_to WholeReading node_siblings
reading-whole Form.Bump s id = read_whole (bump_whole s) _ (λ b. levels-whole s id b.height b.levels)
reading-whole Form.Cmp s id = read_whole (cmp_whole s) _ (λ p. levels-whole s id p.height p.levels)
reading-whole Form.Tsc s id = read_whole (tsc_whole s) _ (λ t. (subject-long s t.subject, λ k j. written-whole s _))

-- ---- demand 3

-- two proofs by their forms, bytes and lent ids
module _ (f g : Form) (s t id jd : List ℕ) where
  -- by any hash of 32 bytes
  pub demand3_by : (hash : List ℕ → List ℕ) → ((l : List ℕ) → length (hash l) ≡ 32)
      → (x y : Proof) → prove_by hash (reading f s id) ≡ accepted x → prove_by hash (reading g t jd) ≡ accepted y
      → x.root ≡ y.root → x.position ≡ y.position → x.layers ≡ y.layers → (x.id ≡ y.id → ⊥)
      → CollidedBy hash x y (compare_by hash (prove_by hash (reading f s id)) (prove_by hash (reading g t jd)))
  demand3_by hash wide x y = demand3_whole hash wide (reading f s id) (reading g t jd) (reading-whole f s id) (reading-whole g t jd) x y

  pub demand3 : (x y : Proof) → prove (reading f s id) ≡ accepted x → prove (reading g t jd) ≡ accepted y
      → x.root ≡ y.root → x.position ≡ y.position → x.layers ≡ y.layers → (x.id ≡ y.id → ⊥)
      → Collided x y (compare (prove (reading f s id)) (prove (reading g t jd)))
  demand3 = demand3_by sha256d sha256d-length

  -- the other way: a pair is answered only for two such proofs
  pub demand3_back : (u v : List ℕ) → compare (prove (reading f s id)) (prove (reading g t jd)) ≡ pair u v → Colliding (prove (reading f s id)) (prove (reading g t jd)) u v
  demand3_back u v e = compare-pair sha256d (prove (reading f s id)) (prove (reading g t jd)) u v e

-- ---- the same of the code's answers

-- the strings that an accepted proof's climb hashed
unfoldable pub preimages_by : Result Proof → List (List ℕ)
preimages_by (refused why) = []
preimages_by (accepted x) = x.preimages

pub record Answered (v w : Result Proof) (a : Answer Pair Rejection) : Type 0 where
  pub pair : Pair
  pub is : a ≡ Ok pair
  pub long : (length pair.first ≡ 64) × (length pair.second ≡ 64)
  pub collision : Collision (preimages_by v) (preimages_by w) pair.first pair.second

-- two accepted answers of proving that agree and tell different ids
pub record Alike (x y : Answer Proved Rejection) : Type 0 where
  pub one : Proved
  pub other : Proved
  pub first : x ≡ Ok one
  pub second : y ≡ Ok other
  pub position : one.position ≡ other.position
  pub layers : one.layers ≡ other.layers
  pub root : one.root ≡ other.root
  pub differ : one.id ≡ other.id → ⊥

answer_built : (v w : Result Proof) (p q : Proof) (t u : List ℕ) (a : Answer Pair Rejection) → v ≡ accepted p → w ≡ accepted q → a ≡ compared_of (pair t u) → (length t ≡ 64) × (length u ≡ 64)
    → Collision p.preimages q.preimages t u → Answered v w a
unfolding preimages_by
answer_built v w p q t u a ev ew ea l c = rw (ev, ew, ea) (record { pair = record { first = t; second = u }; is = refl; long = l; collision = c })

alike_built : (v w : Result Proof) (t u : List ℕ) (x y : Answer Proved Rejection) → x ≡ proved_of v → y ≡ proved_of w → Colliding v w t u → Alike x y
alike_built v w t u x y ex ey c =
    record {
      one = _;
      other = _;
      first = ex ∙ ap proved_of c.first;
      second = ey ∙ ap proved_of c.second;
      position = c.position;
      layers = c.layers;
      root = c.root;
      differ = c.differ;
    }

-- x and y are what proving answers, a is what comparing answers
module _ (f g : Form) (s t id jd : List ℕ) (x y : Answer Proved Rejection) (a : Answer Pair Rejection)
    (ex : x ≡ proved_of (prove (reading f s id))) (ey : y ≡ proved_of (prove (reading g t jd))) (ea : a ≡ compared_of (compare (prove (reading f s id)) (prove (reading g t jd)))) where
  pub answered : Alike x y → Answered (prove (reading f s id)) (prove (reading g t jd)) a
  answered l =
      let p = told-accepted (prove (reading f s id)) l.one (sym l.first ∙ ex) in
      let q = told-accepted (prove (reading g t jd)) l.other (sym l.second ∙ ey) in
      let c = demand3 f g s t id jd p.0 q.0 p.1 q.1 (p.2 ∙ l.root ∙ sym q.2) (p.3 ∙ l.position ∙ sym q.3) (p.4 ∙ l.layers ∙ sym q.4) (λ e. l.differ (sym p.5 ∙ e ∙ q.5)) in
      answer_built (prove (reading f s id)) (prove (reading g t jd)) p.0 q.0 c.t c.u a p.1 q.1 (ea ∙ ap compared_of c.answer) c.long c.collision

  -- the other way: only a pair is answered as one
  pub answered_back : (p : Pair) → a ≡ Ok p → Alike x y
  answered_back p e =
      let r = answered-ok (λ (z : Strings). record { first = z.first; second = z.second }) (compare (prove (reading f s id)) (prove (reading g t jd))) p (sym e ∙ ea) in
      alike_built (prove (reading f s id)) (prove (reading g t jd)) r.0.first r.0.second x y ex ey (demand3_back f g s t id jd r.0.first r.0.second r.1)
