-- Demand 3 for any two readings whose hashes have 32 bytes, and any hash of 32 bytes: accepted climbs of different ids to one root collide.
use Prim.Native.Nat.{ℕ, zero, suc, ◌/◌, ◌<◌, suc-le-suc}
use native.Mathlib.Nat.{suc_inj, suc-ne-zero, not-suc-le-zero, zero-lt-suc, le_of_suc-le-suc}
use mathlib.Core.Path.{◌≡◌, refl, sym, ap, ◌∙◌, subst}
use mathlib.Core.Bool.{Bool, true, false}
use mathlib.Core.List.{List, [], ◌∷◌, ◌++◌}
use lib.ListN.{length, get_or, take, drop, length-append}
use lib.Seq.{take_at, drop_at}
use native.Mathlib.Omega.{arith}
use borrow.Author.Tests.{eq-eqb}
use Rattle.hash.specs.Sha256.{sha256d}
use Rattle.format.specs.Bytes.{same}
use Rattle.format.proofs.BytesLaws.{same_eq, same_ne, eq_same, ne_same}
use Rattle.format.specs.Parse.{pick}
use Rattle.format.specs.Refusals.{TWIN, UNLIKE, SAME_ID}
use Rattle.spv.specs.Result.{Result, accepted, refused, carrying}
use Rattle.spv.specs.Climb.{Sibling, value, copied, absent, Siblings, Step, joins, fails, Ascent, odd, sibling_position, joined, step, ascend_by, end_by, preimages_of}
use Rattle.spv.proofs.ClimbLaws.{ascended_by}
use Rattle.spv.specs.Compare.{Met, meets, never, meet_by, strings_of, alike, against_by, compare_by, CollisionBy, Strings, pair}
use Rattle.spv.proofs.CompareLaws.{prove-accepted_by, alike-told}
use Rattle.spv.specs.Prove.{Reading, Proof, prove_by, unread, read}

-- ---- what a hash of 32 bytes stands in

-- where the working hash of a position stands in its layer's string
unfoldable pub side : Bool → List ℕ → List ℕ
side true t = drop 32 t
side false t = take 32 t

-- a hash that a form answers has 32 bytes
unfoldable pub Whole : Sibling → Type 0
Whole s = (p : List ℕ) → s ≡ value p → length p ≡ 32

abbrev Stands : Bool → List ℕ → List ℕ → Type 0
Stands o c t = (side o t ≡ c) × (length t ≡ 64)

joined-stands : (o : Bool) (c p a b : List ℕ) → length c ≡ 32 → length p ≡ 32 → joined o c p ≡ joins a b → Stands o c (a ++ b)
unfolding joined side
joined-stands false c p a b lc lp e =
    let ea : c ≡ a = cc in
    let eb : p ≡ b = cc in
    rw (← ea, ← eb) (take_at c p 32 lc, omega (arith, length-append c p))
joined-stands true c p a b lc lp e = go (same p c) e
  where
    go : (t : Bool) → pick t (fails TWIN) (joins p c) ≡ joins a b → Stands true c (a ++ b)
    go true x = let z : ◌≡◌ {A = ℕ} 0 1 = cc in absurd (omega arith)
    go false x =
        let ea : p ≡ a = cc in
        let eb : c ≡ b = cc in
        rw (← ea, ← eb) (drop_at p c 32 lp, omega (arith, length-append p c))

step-stands : (s : Sibling) (o : Bool) (c a b : List ℕ) → Whole s → length c ≡ 32 → step s o c ≡ joins a b → Stands o c (a ++ b)
unfolding step Whole
step-stands (value p) o c a b w lc e = joined-stands o c p a b lc (w p refl) e
step-stands copied o c a b w lc e = joined-stands o c c a b lc lc e
step-stands absent o c a b w lc e = let z : ◌≡◌ {A = ℕ} 0 1 = cc in absurd (omega arith)

-- the id and every sibling have 32 bytes
unfoldable pub WholeReading : Reading → Type 0
WholeReading (unread why) = Unit
WholeReading (read σ h i c w) = (length c ≡ 32) × ((k q : ℕ) → Whole (σ k q))

module _ (hash : List ℕ → List ℕ) where
  -- ---- strings that hang together

  -- ts leads from c at position j to r: c stands in the first string, on its side, and that string's hash leads on
  unfoldable pub Linked : ℕ → List ℕ → List (List ℕ) → List ℕ → Type 0
  Linked j c [] r = c ≡ r
  Linked j c (t ∷ ts) r = (side (odd j) t ≡ c) × (length t ≡ 64) × Linked (j / 2) (hash t) ts r

  abbrev Collides : List (List ℕ) → List (List ℕ) → Type 0
  Collides ts us = (t : List ℕ) × (u : List ℕ) × (meet_by hash ts us ≡ meets t u) × CollisionBy hash ts us t u

  -- nothing met at this layer, so the layer above is the next
  pub further : (t u : List ℕ) (ts us : List (List ℕ)) → same (hash t) (hash u) ≡ false → Collides ts us → Collides (t ∷ ts) (u ∷ us)
  unfolding meet_by
  further t u ts us f k =
      let x = k.3 in (
        k.0,
        k.1,
        rw (meet_by, f) k.2,
        record {
          layer = suc x.layer;
          below = suc-le-suc x.below;
          first = x.first;
          second = x.second;
          differ = x.differ;
          equal = x.equal;
          lowest = λ l. elim l as (λ k. k < suc x.layer → hash (get_or (t ∷ ts) k []) ≡ hash (get_or (u ∷ us) k []) → ⊥) [ zero ↦ λ h e. same_ne (hash t) (hash u) f e | suc m ↦ λ h e. x.lowest m (le_of_suc-le-suc h) e ];
        },
      )

  pub here : (t u : List ℕ) (ts us : List (List ℕ)) → (t ≡ u → ⊥) → same (hash t) (hash u) ≡ true → Collides (t ∷ ts) (u ∷ us)
  unfolding meet_by
  here t u ts us ne e = (
    t,
    u,
    rw (meet_by, e),
    record {
      layer = 0;
      below = zero-lt-suc (length ts);
      first = refl;
      second = refl;
      differ = ne;
      equal = same_eq (hash t) (hash u) e;
      lowest = λ l h e'. absurd (not-suc-le-zero h);
    },
  )

  -- two ways from different hashes at one position to one root
  pub collide : (ts us : List (List ℕ)) (j : ℕ) (c d r : List ℕ) → Linked j c ts r → Linked j d us r → length ts ≡ length us → (c ≡ d → ⊥) → Collides ts us
  unfolding Linked
  collide [] [] j c d r p q e ne = absurd (ne (p ∙ sym q))
  collide [] (u ∷ us) j c d r p q e ne = absurd (suc-ne-zero (length us) (sym e))
  collide (t ∷ ts) [] j c d r p q e ne = absurd (suc-ne-zero (length ts) e)
  collide (t ∷ ts) (u ∷ us) j c d r p q e ne =
      go (same (hash t) (hash u)) refl (λ f. collide ts us (j / 2) (hash t) (hash u) r p.2 q.2 (suc_inj e) (same_ne (hash t) (hash u) f))
    where
      go : (b : Bool) → same (hash t) (hash u) ≡ b → (same (hash t) (hash u) ≡ false → Collides ts us) → Collides (t ∷ ts) (u ∷ us)
      go true s k = here t u ts us (λ eq. ne (sym p.0 ∙ ap (side (odd j)) eq ∙ q.0)) s
      go false s k = further t u ts us s (k s)

  -- every string of a climb has 64 bytes
  pub linked_long : (ts : List (List ℕ)) (j : ℕ) (c r : List ℕ) → Linked j c ts r → (l : ℕ) → l < length ts → length (get_or ts l []) ≡ 64
  unfolding Linked
  linked_long [] j c r p l h = absurd (not-suc-le-zero h)
  linked_long (t ∷ ts) j c r p zero h = p.1
  linked_long (t ∷ ts) j c r p (suc l) h = linked_long ts (j / 2) (hash t) r p.2 l (le_of_suc-le-suc h)

  -- a climb of n layers from c at position j to r, by its strings
  abbrev Climbed : ℕ → ℕ → List ℕ → Ascent → List ℕ → Type 0
  Climbed n j c a r = Linked j c (preimages_of a) r × (length (preimages_of a) ≡ n)

  abbrev Sound : Proof → Type 0
  Sound x = Linked x.position x.id x.preimages x.root × (length x.preimages ≡ x.layers)

  -- what demand 3 asks of comparing: two different 64-byte strings of one hash, exactly those that the climbs hashed at the lowest layer where they meet
  pub record CollidedBy (x y : Proof) (v : Result Strings) : Type 0 where
    pub t : List ℕ
    pub u : List ℕ
    pub answer : v ≡ pair t u
    pub long : (length t ≡ 64) × (length u ≡ 64)
    pub collision : CollisionBy hash x.preimages y.preimages t u

  -- the other way: whatever pair comparing answers comes from two such proofs

  -- v and w accept two proofs that agree and prove different ids, whose climbs meet first in t and u
  pub record CollidingBy (v w : Result Proof) (t u : List ℕ) : Type 0 where
    pub x : Proof
    pub y : Proof
    pub first : v ≡ accepted x
    pub second : w ≡ accepted y
    pub root : x.root ≡ y.root
    pub position : x.position ≡ y.position
    pub layers : x.layers ≡ y.layers
    pub differ : x.id ≡ y.id → ⊥
    pub met : meet_by hash x.preimages y.preimages ≡ meets t u

  -- the strings of an answer are those where the climbs meet
  pair-told : {t u : List ℕ} (t' u' : List ℕ) → pair t' u' ≡ pair t u → meets t' u' ≡ meets t u
  pair-told t' u' e = ap of_result e
    where
      of_result : Result Strings → Met
      of_result (accepted x) = meets x.first x.second
      of_result (refused why) = never

  pub compare-pair : (v w : Result Proof) (t u : List ℕ) → compare_by hash v w ≡ pair t u → CollidingBy v w t u
  unfolding compare_by against_by strings_of
  compare-pair (refused why) w t u e = let z : ◌≡◌ {A = ℕ} 0 1 = cc in absurd (omega arith)
  compare-pair (accepted x) (refused why) t u e = let z : ◌≡◌ {A = ℕ} 0 1 = cc in absurd (omega arith)
  compare-pair (accepted x) (accepted y) t u e = go (alike x y) refl (same x.id y.id) refl (meet_by hash x.preimages y.preimages) refl e
    where
      go : (a : Bool) → alike x y ≡ a → (b : Bool) → same x.id y.id ≡ b → (m : Met) → meet_by hash x.preimages y.preimages ≡ m
          → pick a (pick b (refused (carrying SAME_ID 0)) (strings_of m)) (refused (carrying UNLIKE 0)) ≡ pair t u → CollidingBy (accepted x) (accepted y) t u
      go false ea b eb m em f = let z : ◌≡◌ {A = ℕ} 0 1 = cc in absurd (omega arith)
      go true ea true eb m em f = let z : ◌≡◌ {A = ℕ} 0 1 = cc in absurd (omega arith)
      go true ea false eb never em f = let z : ◌≡◌ {A = ℕ} 0 1 = cc in absurd (omega arith)
      go true ea false eb (meets t' u') em f =
          let g = alike-told x y ea in
          record {
            x = x;
            y = y;
            first = refl;
            second = refl;
            root = g.0;
            position = g.1;
            layers = g.2;
            differ = same_ne x.id y.id eb;
            met = em ∙ pair-told t' u' f;
          }

-- ---- demand 3

module _ (hash : List ℕ → List ℕ) (wide : (t : List ℕ) → length (hash t) ≡ 32) where
  -- an accepted climb is linked
  ascend_linked : (σ : Siblings) → ((k q : ℕ) → Whole (σ k q)) → (k n j : ℕ) (c r : List ℕ) → length c ≡ 32 → end_by hash c (ascend_by hash σ k n j c) ≡ accepted r → Climbed hash n j c (ascend_by hash σ k n j c) r
  unfolding ascend_by end_by preimages_of Linked
  ascend_linked σ w k zero j c r lc e = (cc, refl)
  ascend_linked σ w k (suc n) j c r lc e =
      go (step (σ k (sibling_position j)) (odd j) c) refl e (λ d x. ascend_linked σ w (suc k) n (j / 2) (hash d) r (wide d) x)
    where
      go : (s : Step) → step (σ k (sibling_position j)) (odd j) c ≡ s → end_by hash c (ascended_by hash σ k n j (σ k (sibling_position j)) s) ≡ accepted r
          → ((d : List ℕ) → end_by hash (hash d) (ascend_by hash σ (suc k) n (j / 2) (hash d)) ≡ accepted r → Climbed hash n (j / 2) (hash d) (ascend_by hash σ (suc k) n (j / 2) (hash d)) r)
          → Climbed hash (suc n) j c (ascended_by hash σ k n j (σ k (sibling_position j)) s) r
      go (joins a b) q x ih =
          let st = step-stands (σ k (sibling_position j)) (odd j) c a b (w k (sibling_position j)) lc q in
          let l = ih (a ++ b) x in
          ((st.0, st.1, l.0), ap suc l.1)
      go (fails number) q x ih = let z : ◌≡◌ {A = ℕ} 0 1 = cc in absurd (omega arith)

  pub prove_sound : (a : Reading) (x : Proof) → WholeReading a → prove_by hash a ≡ accepted x → Sound hash x
  unfolding prove_by WholeReading
  prove_sound (unread why) x w e = let z : ◌≡◌ {A = ℕ} 0 1 = cc in absurd (omega arith)
  prove_sound (read σ h i c g) x w e =
      let p = prove-accepted_by hash σ h i c g x e in
      subst (Sound hash) (sym p.0) (ascend_linked σ w.1 0 h i c x.root w.0 p.1)

  pub demand3_whole : (a b : Reading) → WholeReading a → WholeReading b → (x y : Proof) → prove_by hash a ≡ accepted x → prove_by hash b ≡ accepted y
      → x.root ≡ y.root → x.position ≡ y.position → x.layers ≡ y.layers → (x.id ≡ y.id → ⊥)
      → CollidedBy hash x y (compare_by hash (prove_by hash a) (prove_by hash b))
  unfolding compare_by against_by alike strings_of
  demand3_whole a b wa wb x y ea eb er ep el ne =
      let sx = prove_sound a x wa ea in
      let sy = prove_sound b y wb eb in
      let ly : Linked hash x.position y.id y.preimages x.root = subst (λ (r : List ℕ). Linked hash x.position y.id y.preimages r) (sym er) (subst (λ (i : ℕ). Linked hash i y.id y.preimages y.root) (sym ep) sy.0) in
      let k = collide hash x.preimages y.preimages x.position x.id y.id x.root sx.0 ly (sx.1 ∙ el ∙ sym sy.1) ne in
      record {
        t = k.0;
        u = k.1;
        answer = rw (ea, eb, compare_by, against_by, alike, eq_same x.root y.root er, eq-eqb x.position y.position ep, eq-eqb x.layers y.layers el, ne_same x.id y.id ne, k.2);
        long = (
          ap length (sym k.3.first) ∙ linked_long hash x.preimages x.position x.id x.root sx.0 k.3.layer k.3.below,
          ap length (sym k.3.second) ∙ linked_long hash y.preimages x.position y.id x.root ly k.3.layer (subst (λ (n : ℕ). k.3.layer < n) (sx.1 ∙ el ∙ sym sy.1) k.3.below),
        );
        collision = k.3;
      }

-- "Hash" is double SHA-256
abbrev pub Collided : Proof → Proof → Result Strings → Type 0
Collided = CollidedBy sha256d

abbrev pub Colliding : Result Proof → Result Proof → List ℕ → List ℕ → Type 0
Colliding = CollidingBy sha256d
