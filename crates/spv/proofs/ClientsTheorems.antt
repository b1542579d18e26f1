-- What the all-clients check promises (01, "The climb"): "climbs from every flags-02 leaf in written order and wants one root".
use Prim.Native.Nat.{ℕ, zero, suc, ◌<◌}
use mathlib.Core.Path.{◌≡◌, refl, sym, ap, ◌∙◌, subst}
use mathlib.Core.Bool.{Bool, true, false}
use mathlib.Core.List.{List, [], ◌∷◌}
use mathlib.Core.Logic.{◌↔◌}
use lib.ListN.{length, get_or}
use native.Mathlib.Omega.{arith}
use Rattle.format.specs.declared.leaf.Kind.{Kind}
use Rattle.format.specs.declared.leaf.Kind.TheVariants.{Plain, Copy, Client}
use Rattle.format.specs.declared.leaf.Leaf.{Leaf}
use Rattle.format.proofs.BytesLaws.{same_eq, eq_same}
use Rattle.format.specs.Parse.{Parse, ok, fault, pick}
use Rattle.format.specs.Refusals.{ROOTS_DIFFER}
use Rattle.format.specs.Bytes.{hash_at}
use Rattle.format.specs.Bump.{Bump, bump_whole}
use Rattle.spv.specs.Result.{Result, accepted, refused, carrying, follow, after_reading}
use Rattle.spv.specs.Climb.{Siblings, ascend, end_of}
use Rattle.spv.proofs.CompareLaws.{prove-root}
use Rattle.spv.specs.Siblings.{level_siblings}
use Rattle.spv.specs.Clients.{wanted_by, after_kind, after_leaf, closing, clients, bump_clients, clients_up_to}
use Rattle.spv.specs.Prove.{Target, hits, settle, proof_of, prove_by, prove, any, bound, read}

abbrev pub no_leaf : Leaf
no_leaf = record { offset = 0; kind = Copy }

-- some leaf is a client: its 32 bytes stand at a place
abbrev pub HasClient : List Leaf → Type 0
HasClient leaves = (k : ℕ) × (k < length leaves) × ((p : ℕ) × ((get_or leaves k no_leaf).kind ≡ Client p))

module _ (σ : Siblings) (h : ℕ) (s r : List ℕ) where
  -- from the 32 bytes at p and the offset, the climb comes to r
  abbrev pub Reaches : ℕ → ℕ → Type 0
  Reaches offset p = end_of (hash_at s p) (ascend σ 0 h offset (hash_at s p)) ≡ accepted r

  -- each client climbs from its own offset to r
  abbrev pub AllReach : List Leaf → Type 0
  AllReach leaves = (k p : ℕ) → k < length leaves → (get_or leaves k no_leaf).kind ≡ Client p → Reaches (get_or leaves k no_leaf).offset p

  -- what the leaves still have to give: a first client, or r where a root is wanted already
  unfoldable pub Still : Target → List Leaf → Type 0
  Still any leaves = HasClient leaves
  Still (bound w) leaves = w ≡ r

  -- ---- what an agreement says

  follow-told : (x : Result Target) (f : Target → Result (List ℕ)) → follow x f ≡ accepted r → (w : Target) × (x ≡ accepted w) × (f w ≡ accepted r)
  follow-told (accepted w) f e = (w, refl, e)
  follow-told (refused why) f e = absurd (let z : ◌≡◌ {A = ℕ} 0 1 = cc in omega arith)

  -- a client that is not refused came to the root that is wanted from then on
  client-told : (w v : Target) (offset : ℕ) (c : List ℕ) → wanted_by (prove (read σ h offset c w)) ≡ accepted v
      → (t : List ℕ) × (end_of c (ascend σ 0 h offset c) ≡ accepted t) × (bound t ≡ v) × (hits w t ≡ true)
  unfolding prove_by settle wanted_by
  client-told w v offset c e = go (end_of c (ascend σ 0 h offset c)) refl e
    where
      hit : (t : List ℕ) → end_of c (ascend σ 0 h offset c) ≡ accepted t → (b : Bool) → hits w t ≡ b → wanted_by (pick b (accepted (proof_of σ h offset c t)) (refused (carrying ROOTS_DIFFER 0))) ≡ accepted v
          → (t : List ℕ) × (end_of c (ascend σ 0 h offset c) ≡ accepted t) × (bound t ≡ v) × (hits w t ≡ true)
      hit t o true b m = (t, o, cc, b)
      hit t o false b m = absurd (let z : ◌≡◌ {A = ℕ} 0 1 = cc in omega arith)

      go : (o : Result (List ℕ)) → end_of c (ascend σ 0 h offset c) ≡ o → wanted_by (settle w (proof_of σ h offset c) o) ≡ accepted v
          → (t : List ℕ) × (end_of c (ascend σ 0 h offset c) ≡ accepted t) × (bound t ≡ v) × (hits w t ≡ true)
      go (accepted t) o m = hit t o (hits w t) refl m
      go (refused why) o m = absurd (let z : ◌≡◌ {A = ℕ} 0 1 = cc in omega arith)

  -- one leaf more
  module _ (leaf : Leaf) (leaves : List Leaf) where
    also : ((p : ℕ) → leaf.kind ≡ Client p → Reaches leaf.offset p) → AllReach leaves → AllReach (leaf ∷ leaves)
    also f g zero p b k = f p k
    also f g (suc n) p b k = g n p (omega arith) k

    still_more : (w : Target) → Still w leaves → Still w (leaf ∷ leaves)
    unfolding Still
    still_more any (k, b, c) = (suc k, omega arith, c)
    still_more (bound w) e = e

    after-client : (w : Target) (t : List ℕ) (p : ℕ) → leaf.kind ≡ Client p → t ≡ r → hits w t ≡ true → Still w (leaf ∷ leaves)
    unfolding Still hits
    after-client any t p is e b = (0, omega arith, (p, is))
    after-client (bound w) t p is e b = same_eq w t b ∙ e

    first-told : (w v : Target) (kind : Kind) → leaf.kind ≡ kind → after_kind σ h s w leaf.offset kind ≡ accepted v → Still v leaves × AllReach leaves
        → Still w (leaf ∷ leaves) × AllReach (leaf ∷ leaves)
    unfolding after_kind Still
    first-told w v (Client p) is m (a, g) =
        let x = client-told w v leaf.offset (hash_at s p) m in
        let t : x.0 ≡ r = subst (λ (v : Target). Still v leaves) (sym x.2) a in
        (after-client w x.0 p is t x.3, also (λ q k. let same_place : p ≡ q = cc in subst (Reaches leaf.offset) same_place (x.1 ∙ ap accepted t)) g)
    first-told w v (Plain p) is m (a, g) =
        let e : v ≡ w = cc in
        (still_more w (subst (λ (v : Target). Still v leaves) e a), also (λ q k. absurd (let z : ◌≡◌ {A = ℕ} 0 1 = cc in omega arith)) g)
    first-told w v Copy is m (a, g) =
        let e : v ≡ w = cc in
        (still_more w (subst (λ (v : Target). Still v leaves) e a), also (λ q k. absurd (let z : ◌≡◌ {A = ℕ} 0 1 = cc in omega arith)) g)

  pub agreed-told : (w : Target) (leaves : List Leaf) → clients σ h s w leaves ≡ accepted r → Still w leaves × AllReach leaves
  unfolding clients closing Still
  agreed-told any [] e = absurd (let z : ◌≡◌ {A = ℕ} 0 1 = cc in omega arith)
  agreed-told (bound w) [] e = (cc, λ k p b. absurd (omega arith))
  agreed-told w (leaf ∷ leaves) e =
      let x = follow-told (after_leaf σ h s w leaf) (λ w'. clients σ h s w' leaves) e in
      first-told leaf leaves w x.0 leaf.kind refl x.1 (agreed-told x.0 leaves x.2)

  -- ---- and the other way

  reaches_wants : (w : Target) (offset p : ℕ) → Reaches offset p → hits w r ≡ true → wanted_by (prove (read σ h offset (hash_at s p) w)) ≡ accepted (bound r)
  unfolding wanted_by
  reaches_wants w offset p e b = rw (prove-root σ h offset (hash_at s p) w r e b)

  module _ (leaf : Leaf) (leaves : List Leaf) where
    -- a leaf that is no client leaves what is wanted
    still_less : (w : Target) → ((p : ℕ) → leaf.kind ≡ Client p → ⊥) → Still w (leaf ∷ leaves) → Still w leaves
    unfolding Still
    still_less any n (zero, b, (p, e)) = absurd (n p e)
    still_less any n (suc k, b, c) = (k, omega arith, c)
    still_less (bound w) n e = e

    still_hits : (w : Target) → Still w (leaf ∷ leaves) → hits w r ≡ true
    unfolding Still hits
    still_hits any a = refl
    still_hits (bound w) e = eq_same w r e

    told-first : (w : Target) (kind : Kind) → leaf.kind ≡ kind → Still w (leaf ∷ leaves) → AllReach (leaf ∷ leaves)
        → (v : Target) × (after_kind σ h s w leaf.offset kind ≡ accepted v) × Still v leaves
    unfolding after_kind Still
    told-first w (Client p) is a g = (bound r, reaches_wants w leaf.offset p (g 0 p (omega arith) is) (still_hits w a), refl)
    told-first w (Plain p) is a g = (w, refl, still_less w (λ q k. let z : ◌≡◌ {A = ℕ} 0 1 = cc in omega arith) a)
    told-first w Copy is a g = (w, refl, still_less w (λ q k. let z : ◌≡◌ {A = ℕ} 0 1 = cc in omega arith) a)

  pub told-agreed : (w : Target) (leaves : List Leaf) → Still w leaves → AllReach leaves → clients σ h s w leaves ≡ accepted r
  unfolding clients closing Still
  told-agreed any [] (k, b, c) g = absurd (omega arith)
  told-agreed (bound w) [] e g = ap accepted e
  told-agreed w (leaf ∷ leaves) a g =
      let x = told-first leaf leaves w leaf.kind refl a g in
      ap (λ (y : Result Target). follow y (λ w'. clients σ h s w' leaves)) x.1 ∙ told-agreed x.0 leaves x.2 (λ k p b. g (suc k) p (omega arith))

-- ---- a BUMP

-- the BUMP is read, a leaf of its level 0 is a client, and each client climbs from its own offset to r
pub record Agrees (s r : List ℕ) : Type 0 where
  pub bump : Bump
  pub next : ℕ
  pub read : bump_whole s ≡ ok bump next
  pub some : HasClient (get_or bump.levels 0 [])
  pub all : AllReach (level_siblings s bump.levels) bump.height s r (get_or bump.levels 0 [])

-- all clients agree on r exactly when there is one and each climbs to r
pub clients-agree : (s r : List ℕ) → (bump_clients s ≡ accepted r) ↔ Agrees s r
unfolding clients_up_to Still
clients-agree s r = (λ e. told (bump_whole s) refl e, λ a. rw a.read (told-agreed (level_siblings s a.bump.levels) a.bump.height s r any (get_or a.bump.levels 0 []) a.some a.all))
  where
    told : (p : Parse Bump) → bump_whole s ≡ p → after_reading p (λ b. clients (level_siblings s b.levels) b.height s any (get_or b.levels 0 [])) ≡ accepted r → Agrees s r
    told (ok b q) h m =
        let x = agreed-told (level_siblings s b.levels) b.height s r any (get_or b.levels 0 []) m in
        record { bump = b; next = q; read = h; some = x.0; all = x.1 }
    told (fault number place) h m = absurd (let z : ◌≡◌ {A = ℕ} 0 1 = cc in omega arith)
