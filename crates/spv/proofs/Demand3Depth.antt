-- Demand 3 beyond one number of layers (02, Item 13): two accepted proofs to one root, one with fewer layers and its raw transaction, at the other's position
-- halved once per extra layer, give two different strings of one hash.
use Prim.Native.Nat.{ℕ, zero, suc, ◌-◌, ◌/◌, ◌<◌, ◌≤◌, suc-le-suc}
use native.Mathlib.Nat.{suc_inj, suc-ne-zero, not-suc-le-zero, zero-lt-suc, le_of_suc-le-suc}
use native.Mathlib.Omega.{arith}
use mathlib.Core.Path.{◌≡◌, refl, sym, ap, ◌∙◌, subst}
use mathlib.Core.Bool.{Bool, true, false, ◌&&◌}
use mathlib.Core.List.{List, [], ◌∷◌}
use lib.ListN.{length, get_or, drop, length-drop}
use lib.Dec.{ltb}
use borrow.Author.Tests.{lt-ltb, le-ltb, ltb-true, eq-eqb, eqb-true}
use Rattle.hash.specs.Sha256.{sha256d}
use Rattle.hash.proofs.Sha256Laws.{sha256d-length}
use Rattle.path.specs.declared.path.Form.{Form}
use Rattle.format.proofs.Basics.{and-true}
use Rattle.format.specs.Bytes.{same}
use Rattle.format.proofs.BytesLaws.{same_eq, same_ne, eq_same}
use Rattle.format.specs.Parse.{Parse, pick, ok, fault}
use Rattle.format.specs.Refusals.{UNLIKE}
use Rattle.format.specs.Transaction.{Transaction, tx_whole}
use Rattle.format.proofs.TransactionLaws.{tx_whole-size}
use Rattle.spv.specs.Result.{Result, accepted, refused, carrying, after_reading}
use Rattle.spv.specs.Compare.{CollisionBy}
use Rattle.spv.proofs.Collide.{Linked, WholeReading, collide, linked_long, prove_sound}
use Rattle.spv.specs.Readings.{reading}
use Rattle.spv.proofs.Demand3.{reading-whole}
use Rattle.std.specs.Prelude.{Result as Answer, Ok}
use Rattle.spv.specs.Shapes.{paired, proved_of}
use Rattle.spv.proofs.ResultLaws.{answered-ok}
use Rattle.spv.proofs.ShapesLaws.{told-accepted}
use Rattle.spv.specs.Depth.{halved, deeper, Pair, transaction, strings, pair_of, lowest_by, matched, against_deeper_by, uneven_by, depth_by, depth, first_of, second_of, depth_pair, depth_of}
use Rattle.spv.specs.declared.rejection.Rejection.{Rejection}
use Rattle.spv.specs.declared.prove.Proved.{Proved}
use Rattle.spv.specs.declared.depth.DepthPair.{DepthPair}
use Rattle.spv.specs.Prove.{Reading, Proof, prove_by, prove}

-- x a shorter proof, y a longer one to its root, m the raw transaction of x
pub record DeeperBy (hash : List ℕ → List ℕ) (m : List ℕ) (x y : Proof) : Type 0 where
  pub id : hash m ≡ x.id
  pub root : x.root ≡ y.root
  pub fewer : x.layers < y.layers
  pub position : x.position ≡ halved (y.layers - x.layers) y.position

-- what is asked of a pair: two different strings of one hash, exactly those at the lowest layer where they meet, the transaction standing below layer 0 of x;
-- each has 64 bytes but for the transaction
pub record DepthCollisionBy (hash : List ℕ → List ℕ) (m : List ℕ) (x y : Proof) (p : Pair) : Type 0 where
  pub collision : CollisionBy hash (m ∷ x.preimages) (matched x y) (first_of m p) (second_of p)
  pub long : (length (second_of p) ≡ 64) × ((t u : List ℕ) → p ≡ strings t u → length t ≡ 64)

pub halved_last : (e j : ℕ) → halved (suc e) j ≡ halved e j / 2
unfolding halved
halved_last zero j = refl
halved_last (suc e) j = halved_last e (j / 2)

module _ (hash : List ℕ → List ℕ) where
  -- a way to r above its lowest e strings
  linked_drop : (e : ℕ) (ts : List (List ℕ)) (j : ℕ) (c r : List ℕ) → Linked hash j c ts r → e ≤ length ts → (d : List ℕ) × Linked hash (halved e j) d (drop e ts) r
  unfolding Linked halved
  linked_drop zero ts j c r p h = (c, p)
  linked_drop (suc e) [] j c r p h = absurd (not-suc-le-zero h)
  linked_drop (suc e) (t ∷ ts) j c r p h = linked_drop e ts (j / 2) (hash t) r p.2 (le_of_suc-le-suc h)

  abbrev Lowest : List ℕ → List (List ℕ) → List (List ℕ) → Type 0
  Lowest m ts us = (p : Pair) × (lowest_by hash (hash m) ts us ≡ accepted p) × CollisionBy hash (m ∷ ts) us (first_of m p) (second_of p)
      × (length (second_of p) ≡ 64) × ((t u : List ℕ) → p ≡ strings t u → length t ≡ 64)

  -- the transaction below a way from position i, and a way of one string more. Here, and nowhere else, it counts that the transaction doesn't have 64 bytes:
  -- it differs from the string beside it.
  lowest_collides : (m : List ℕ) (ts us : List (List ℕ)) (i j : ℕ) (d r : List ℕ) → (length m ≡ 64 → ⊥) → i ≡ j / 2 → Linked hash i (hash m) ts r → Linked hash j d us r → suc (length ts) ≡ length us → Lowest m ts us
  unfolding Linked lowest_by pair_of first_of second_of
  lowest_collides m ts [] i j d r nm e p q l = absurd (suc-ne-zero (length ts) l)
  lowest_collides m ts (u ∷ us) i j d r nm e p q l = go (same (hash m) (hash u)) refl
    where
      above : Linked hash i (hash u) us r
      above = subst (λ (k : ℕ). Linked hash k (hash u) us r) (sym e) q.2

      go : (b : Bool) → same (hash m) (hash u) ≡ b → Lowest m ts (u ∷ us)
      go true s = (
        transaction u,
        rw (lowest_by, s),
        record {
          layer = 0;
          below = zero-lt-suc (length ts);
          first = refl;
          second = refl;
          differ = λ eq. nm (ap length eq ∙ q.1);
          equal = same_eq (hash m) (hash u) s;
          lowest = λ k h e'. absurd (not-suc-le-zero h);
        },
        q.1,
        λ t v z. (let y : ◌≡◌ {A = ℕ} 0 1 = cc in absurd (omega arith)),
      )
      go false s =
          let k = collide hash ts us i (hash m) (hash u) r p above (suc_inj l) (same_ne (hash m) (hash u) s) in
          let x = k.3 in
          let two : k.0 ≡ get_or ts x.layer [] = sym x.first in (
            strings k.0 k.1,
            rw (lowest_by, s, k.2),
            record {
              layer = suc x.layer;
              below = suc-le-suc x.below;
              first = x.first;
              second = x.second;
              differ = x.differ;
              equal = x.equal;
              lowest = λ n. elim n as (λ k. k < suc x.layer → hash (get_or (m ∷ ts) k []) ≡ hash (get_or (u ∷ us) k []) → ⊥) [ zero ↦ λ h e'. same_ne (hash m) (hash u) s e' | suc o ↦ λ h e'. x.lowest o (le_of_suc-le-suc h) e' ];
            },
            ap length (sym x.second) ∙ linked_long hash us i (hash u) r above x.layer (subst (λ (n : ℕ). x.layer < n) (suc_inj l) x.below),
            λ t v z. (let y : k.0 ≡ t = cc in ap length (sym y ∙ two) ∙ linked_long hash ts i (hash m) r p x.layer x.below),
          )

  -- ---- the answer

  deeper-true : (m : List ℕ) (x y : Proof) → DeeperBy hash m x y → (deeper x y && same (hash m) x.id) ≡ true
  unfolding deeper
  deeper-true m x y r =
      rw (eq_same x.root y.root r.root, lt-ltb x.layers y.layers r.fewer, eq-eqb x.position (halved (y.layers - x.layers) y.position) r.position, eq_same (hash m) x.id r.id)

  -- in either order
  uneven-answers : (m : List ℕ) (x y : Proof) (p : Pair) → DeeperBy hash m x y → lowest_by hash (hash m) x.preimages (matched x y) ≡ accepted p
      → (uneven_by hash (hash m) x y ≡ accepted p) × (uneven_by hash (hash m) y x ≡ accepted p)
  unfolding uneven_by against_deeper_by
  uneven-answers m x y p r e =
      let f = r.fewer in
      (rw (le-ltb y.layers x.layers (omega arith), deeper-true m x y r) e, rw (lt-ltb x.layers y.layers f, deeper-true m x y r) e)

  abbrev pub Answers : Result Proof → Result Proof → List ℕ → Pair → Type 0
  Answers v w m p = (depth_by hash v w m ≡ accepted p) × (depth_by hash w v m ≡ accepted p)

  depth-answers : (v w : Result Proof) (m : List ℕ) (x y : Proof) (t : Transaction) (q : ℕ) (p : Pair) → v ≡ accepted x → w ≡ accepted y → tx_whole m ≡ ok t q
      → DeeperBy hash m x y → lowest_by hash (hash m) x.preimages (matched x y) ≡ accepted p → Answers v w m p
  unfolding depth_by
  depth-answers v w m x y t q p ev ew et r e = let k = uneven-answers m x y p r e in (rw (ev, ew, et) k.0, rw (ev, ew, et) k.1)

  -- ---- the other way: whatever pair is answered comes from two such proofs

  -- x is the proof with fewer layers, "in either order"
  pub data Ordered (v w : Result Proof) (x y : Proof) : Type 0 where
    as_given : v ≡ accepted x → w ≡ accepted y → Ordered v w x y
    turned : w ≡ accepted x → v ≡ accepted y → Ordered v w x y

  pub record DepthCollidingBy (v w : Result Proof) (m : List ℕ) (p : Pair) : Type 0 where
    pub x : Proof
    pub y : Proof
    pub ordered : Ordered v w x y
    pub tx : Transaction
    pub end : ℕ
    pub read : tx_whole m ≡ ok tx end
    pub relation : DeeperBy hash m x y
    pub met : lowest_by hash (hash m) x.preimages (matched x y) ≡ accepted p

  deeper-told : (m : List ℕ) (x y : Proof) (p : Pair) → against_deeper_by hash (hash m) x y ≡ accepted p → DeeperBy hash m x y × (lowest_by hash (hash m) x.preimages (matched x y) ≡ accepted p)
  unfolding against_deeper_by deeper
  deeper-told m x y p e = go (deeper x y && same (hash m) x.id) refl e
    where
      go : (b : Bool) → (deeper x y && same (hash m) x.id) ≡ b → pick b (lowest_by hash (hash m) x.preimages (matched x y)) (refused (carrying UNLIKE 0)) ≡ accepted p
          → DeeperBy hash m x y × (lowest_by hash (hash m) x.preimages (matched x y) ≡ accepted p)
      go false f g = let z : ◌≡◌ {A = ℕ} 0 1 = cc in absurd (omega arith)
      go true f g =
          let a = and-true (deeper x y) _ f in
          let b = and-true (same x.root y.root) _ a.0 in
          let c = and-true (ltb x.layers y.layers) _ b.1 in
          (record { id = same_eq (hash m) x.id a.1; root = same_eq x.root y.root b.0; fewer = ltb-true x.layers y.layers c.0; position = eqb-true x.position _ c.1 }, g)

  pub depth-pair : (v w : Result Proof) (m : List ℕ) (p : Pair) → depth_by hash v w m ≡ accepted p → DepthCollidingBy v w m p
  unfolding depth_by uneven_by
  depth-pair (refused why) w m p e = let z : ◌≡◌ {A = ℕ} 0 1 = cc in absurd (omega arith)
  depth-pair (accepted x) (refused why) m p e = let z : ◌≡◌ {A = ℕ} 0 1 = cc in absurd (omega arith)
  depth-pair (accepted x) (accepted y) m p e = go (tx_whole m) refl e
    where
      turn : (t : Transaction) (q : ℕ) → tx_whole m ≡ ok t q → (b : Bool) → pick b (against_deeper_by hash (hash m) y x) (against_deeper_by hash (hash m) x y) ≡ accepted p
          → DepthCollidingBy (accepted x) (accepted y) m p
      turn t q r true f = let k = deeper-told m y x p f in record { x = y; y = x; ordered = turned refl refl; tx = t; end = q; read = r; relation = k.0; met = k.1 }
      turn t q r false f = let k = deeper-told m x y p f in record { x = x; y = y; ordered = as_given refl refl; tx = t; end = q; read = r; relation = k.0; met = k.1 }

      go : (a : Parse Transaction) → tx_whole m ≡ a → after_reading a (λ _. uneven_by hash (hash m) x y) ≡ accepted p → DepthCollidingBy (accepted x) (accepted y) m p
      go (fault n q) r f = let z : ◌≡◌ {A = ℕ} 0 1 = cc in absurd (omega arith)
      go (ok t q) r f = turn t q r (ltb y.layers x.layers) f

-- ---- demand 3, beyond one number of layers

module _ (hash : List ℕ → List ℕ) (wide : (t : List ℕ) → length (hash t) ≡ 32) where
  abbrev pub DepthCollided : Result Proof → Result Proof → List ℕ → Proof → Proof → Type 0
  DepthCollided v w m x y = (p : Pair) × Answers hash v w m p × DepthCollisionBy hash m x y p

  pub depth-whole : (a b : Reading) → WholeReading a → WholeReading b → (x y : Proof) → prove_by hash a ≡ accepted x → prove_by hash b ≡ accepted y
      → (m : List ℕ) (t : Transaction) (q : ℕ) → tx_whole m ≡ ok t q → (length m ≡ 64 → ⊥) → DeeperBy hash m x y → DepthCollided (prove_by hash a) (prove_by hash b) m x y
  unfolding matched
  depth-whole a b wa wb x y ea eb m t q et nm r =
      let sx = prove_sound hash wide a x wa ea in
      let sy = prove_sound hash wide b y wb eb in
      let e : ℕ = y.layers - x.layers - 1 in
      let f = r.fewer in
      let ly : Linked hash y.position y.id y.preimages x.root = subst (λ (c : List ℕ). Linked hash y.position y.id y.preimages c) (sym r.root) sy.0 in
      let ld = linked_drop hash e y.preimages y.position y.id x.root ly (omega (arith, sy.1)) in
      let more : y.layers - x.layers ≡ suc e = omega arith in
      let half : x.position ≡ halved e y.position / 2 = r.position ∙ ap (λ (n : ℕ). halved n y.position) more ∙ halved_last e y.position in
      let lx : Linked hash x.position (hash m) x.preimages x.root = subst (λ (c : List ℕ). Linked hash x.position c x.preimages x.root) (sym r.id) sx.0 in
      let k = lowest_collides hash m x.preimages (drop e y.preimages) x.position (halved e y.position) ld.0 x.root nm half lx ld.1 (omega (arith, sx.1, sy.1, length-drop e y.preimages)) in
      (k.0, depth-answers hash (prove_by hash a) (prove_by hash b) m x y t q k.0 ea eb et r k.1, record { collision = k.2; long = (k.3, k.4) })

-- two proofs by their forms, bytes and lent ids, and a raw transaction
module _ (f g : Form) (s t id jd m : List ℕ) where
  -- by any hash of 32 bytes; a raw transaction that was read doesn't have 64 bytes (`tx_whole-size`)
  pub demand3_depth_by : (hash : List ℕ → List ℕ) (wide : (l : List ℕ) → length (hash l) ≡ 32)
      → (x y : Proof) → prove_by hash (reading f s id) ≡ accepted x → prove_by hash (reading g t jd) ≡ accepted y
      → (tx : Transaction) (q : ℕ) → tx_whole m ≡ ok tx q → DeeperBy hash m x y
      → DepthCollided hash wide (prove_by hash (reading f s id)) (prove_by hash (reading g t jd)) m x y
  demand3_depth_by hash wide x y ea eb tx q et = depth-whole hash wide (reading f s id) (reading g t jd) (reading-whole f s id) (reading-whole g t jd) x y ea eb m tx q et (tx_whole-size m et)

  pub demand3_depth : (x y : Proof) → prove (reading f s id) ≡ accepted x → prove (reading g t jd) ≡ accepted y
      → (tx : Transaction) (q : ℕ) → tx_whole m ≡ ok tx q → DeeperBy sha256d m x y
      → DepthCollided sha256d sha256d-length (prove (reading f s id)) (prove (reading g t jd)) m x y
  demand3_depth = demand3_depth_by sha256d sha256d-length

  -- the other way
  pub demand3_depth_back : (p : Pair) → depth (prove (reading f s id)) (prove (reading g t jd)) m ≡ accepted p → DepthCollidingBy sha256d (prove (reading f s id)) (prove (reading g t jd)) m p
  demand3_depth_back p e = depth-pair sha256d (prove (reading f s id)) (prove (reading g t jd)) m p e

-- ---- the same of the code's answers

-- what two answers of proving say, x of the proof with fewer layers
pub record Deeper (m : List ℕ) (x y : Answer Proved Rejection) : Type 0 where
  pub one : Proved
  pub other : Proved
  pub first : x ≡ Ok one
  pub second : y ≡ Ok other
  pub root : one.root ≡ other.root
  pub fewer : one.layers < other.layers
  pub position : one.position ≡ halved (other.layers - one.layers) other.position
  pub id : sha256d m ≡ one.id
  pub tx : Transaction
  pub end : ℕ
  pub read : tx_whole m ≡ ok tx end

-- the shorter proof's string: the transaction, which is not handed back, or the one that is
unfoldable pub first_by : DepthPair → List ℕ → List ℕ
first_by (DepthPair.Transaction u) m = m
first_by (DepthPair.Strings p) m = p.first

unfoldable pub second_by : DepthPair → List ℕ
second_by (DepthPair.Transaction u) = u
second_by (DepthPair.Strings p) = p.second

pub record DepthAnswered (v w : Result Proof) (m : List ℕ) (a : Answer DepthPair Rejection) : Type 0 where
  pub x : Proof
  pub y : Proof
  pub shorter : v ≡ accepted x
  pub longer : w ≡ accepted y
  pub pair : DepthPair
  pub is : a ≡ Ok pair
  pub long : length (second_by pair) ≡ 64
  pub collision : CollisionBy sha256d (m ∷ x.preimages) (matched x y) (first_by pair m) (second_by pair)

answer_built : (v w : Result Proof) (m : List ℕ) (x y : Proof) (p : Pair) (a : Answer DepthPair Rejection) → v ≡ accepted x → w ≡ accepted y → a ≡ depth_of (accepted p) → DepthCollisionBy sha256d m x y p → DepthAnswered v w m a
unfolding first_by second_by first_of second_of
answer_built v w m x y (transaction u) a ev ew ea k = record { x = x; y = y; shorter = ev; longer = ew; pair = DepthPair.Transaction u; is = ea; long = k.long.0; collision = k.collision }
answer_built v w m x y (strings t u) a ev ew ea k = record { x = x; y = y; shorter = ev; longer = ew; pair = DepthPair.Strings (paired t u); is = ea; long = k.long.0; collision = k.collision }

deeper_built : (m : List ℕ) (v w : Result Proof) (x y : Answer Proved Rejection) (p q : Proof) (tx : Transaction) (end : ℕ) → x ≡ proved_of v → y ≡ proved_of w → v ≡ accepted p → w ≡ accepted q → tx_whole m ≡ ok tx end
    → DeeperBy sha256d m p q → Deeper m x y
deeper_built m v w x y p q tx end ex ey ev ew et r =
    record {
      one = _;
      other = _;
      first = ex ∙ ap proved_of ev;
      second = ey ∙ ap proved_of ew;
      root = r.root;
      fewer = r.fewer;
      position = r.position;
      id = r.id;
      tx = tx;
      end = end;
      read = et;
    }

-- which of the two has fewer layers
pub data DeeperEither (m : List ℕ) (x y : Answer Proved Rejection) : Type 0 where
  as_given : Deeper m x y → DeeperEither m x y
  turned : Deeper m y x → DeeperEither m x y

-- x and y are what proving answers
module _ (f g : Form) (s t id jd m : List ℕ) (x y : Answer Proved Rejection) (ex : x ≡ proved_of (prove (reading f s id))) (ey : y ≡ proved_of (prove (reading g t jd))) where
  module _ (l : Deeper m x y) where
    abbrev Given : Type 0
    Given = (p : Proof) × (q : Proof) × (prove (reading f s id) ≡ accepted p) × (prove (reading g t jd) ≡ accepted q) × DepthCollided sha256d sha256d-length (prove (reading f s id)) (prove (reading g t jd)) m p q

    given_pair : Given
    given_pair =
        let p = told-accepted (prove (reading f s id)) l.one (sym l.first ∙ ex) in
        let q = told-accepted (prove (reading g t jd)) l.other (sym l.second ∙ ey) in
        let half : p.0.position ≡ halved (q.0.layers - p.0.layers) q.0.position = rw (p.3, q.3, p.4, q.4) l.position in
        let less : p.0.layers < q.0.layers = rw (p.4, q.4) l.fewer in (
          p.0,
          q.0,
          p.1,
          q.1,
          demand3_depth f g s t id jd m p.0 q.0 p.1 q.1 l.tx l.end l.read
              (record { id = l.id ∙ sym p.5; root = p.2 ∙ l.root ∙ sym q.2; fewer = less; position = half }),
        )

    -- a is what comparing answers, in either order
    pub depth_answered : (a : Answer DepthPair Rejection) → a ≡ depth_of (depth (prove (reading f s id)) (prove (reading g t jd)) m) → DepthAnswered (prove (reading f s id)) (prove (reading g t jd)) m a
    depth_answered a ea = let k = given_pair in answer_built _ _ m k.0 k.1 k.4.0 a k.2 k.3 (ea ∙ ap depth_of k.4.1.0) k.4.2

    pub depth_answered_turned : (a : Answer DepthPair Rejection) → a ≡ depth_of (depth (prove (reading g t jd)) (prove (reading f s id)) m) → DepthAnswered (prove (reading f s id)) (prove (reading g t jd)) m a
    depth_answered_turned a ea = let k = given_pair in answer_built _ _ m k.0 k.1 k.4.0 a k.2 k.3 (ea ∙ ap depth_of k.4.1.1) k.4.2

  -- the other way: only a pair is answered as one
  pub depth_answered_back : (a : Answer DepthPair Rejection) → a ≡ depth_of (depth (prove (reading f s id)) (prove (reading g t jd)) m) → (p : DepthPair) → a ≡ Ok p → DeeperEither m x y
  depth_answered_back a ea p e =
      let r = answered-ok depth_pair (depth (prove (reading f s id)) (prove (reading g t jd)) m) p (sym e ∙ ea) in
      let k = demand3_depth_back f g s t id jd m r.0 r.1 in
      go k.x k.y k.ordered k.tx k.end k.read k.relation
    where
      go : (p q : Proof) → Ordered sha256d (prove (reading f s id)) (prove (reading g t jd)) p q → (tx : Transaction) (end : ℕ) → tx_whole m ≡ ok tx end → DeeperBy sha256d m p q → DeeperEither m x y
      go p q (Ordered.as_given ev ew) tx end et r = DeeperEither.as_given (deeper_built m _ _ x y p q tx end ex ey ev ew et r)
      go p q (Ordered.turned ew ev) tx end et r = DeeperEither.turned (deeper_built m _ _ y x p q tx end ey ex ew ev et r)
