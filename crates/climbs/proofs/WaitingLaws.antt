-- Laws of the all-clients check by rows.
use Rattle.std.proofs.Common.{◌≡◌, Result as Answer, Ok, Err, ℕ, zero, suc, ◌+◌, ◌-◌, ◌*◌, ◌<◌, ◌≤◌, Bool, true, false, ltb, List, length, get_or, take, set, replicate, sym, refl, ap, ◌∙◌, ap₂, add-one, arith, length-take-le, get_or-set_other, get_or-take, get_or-set_same, ltb-false, ltb-true, le-ltb, lt-ltb, eqb, eqb-true}
use borrow.Author.Tests.{eqb-false}
use Rattle.std.specs.Result.{IsErrAnd}
use Rattle.std.proofs.lemmas.Result.{err_from_is_err_and}
use Rattle.std.proofs.lemmas.List.{get_or-replicate, length-replicate}
use native.Mathlib.Nat.{sub-zero}
use lib.ListN.{get_or-eq_default}
use lib.Seq.{paste}
use Rattle.format.specs.declared.leaf.Kind.TheVariants.{Plain, Copy, Client}
use Rattle.format.specs.declared.level.Layout.{Layout}
use Rattle.format.specs.declared.leaf.Leaf.{Leaf}
use Rattle.format.specs.declared.bump.BumpHead.{BumpHead}
use Rattle.format.specs.Bytes.{set_hash, hash_at}
use Rattle.format.proofs.BytesLaws.{set-inside, hash-at-length}
use Rattle.format.specs.Parse.{pick, ok, fault}
use Rattle.format.specs.Refusals.{NOT_LISTED, ROOTS_DIFFER}
use Rattle.path.specs.declared.path.Path.{Path}
use Rattle.path.specs.Unchecked.{unchecked_leaf}
use Rattle.path.specs.Path.{bump_path_of}
use Rattle.spv.specs.Result.{Result, accepted, refused, carrying, follow}
use Rattle.spv.specs.Climb.{Siblings, ascend, end_of}
use Rattle.spv.specs.Clients.{wanted_by, after_kind, after_leaf, closing}
use Rattle.spv.specs.Shapes.{climbed_of}
use Rattle.spv.specs.Siblings.{written_by, find_at, path_siblings}
use Rattle.spv.specs.Values.{worked_out}
use Rattle.spv.proofs.Stored.{stored_here, stored_other}
use Rattle.spv.specs.declared.rejection.Rejection.{Rejection}
use Rattle.climbs.specs.Row.{refusal_of, leads, leads_at, came, came_at}
use Rattle.climbs.specs.Together.{Levels, Roomy}
use Rattle.climbs.specs.Together as T
use Rattle.climbs.specs.ClientsShapes.{end_says, wanted_to, pending, clients_in, checked_of}
use Rattle.climbs.specs.Waiting.{climb_of, rows_say}
use Rattle.climbs.proofs.RowLaws.{leads-start}
use Rattle.climbs.specs.LookUp.{looked_up}
use Rattle.climbs.proofs.LookUpLaws.{one_path}
use Rattle.climbs.proofs.TogetherLaws.{path_worked}
use Rattle.climbs.proofs.ClientsLaws.{follow-same, follow-twice, turn-leaf, turn_short, turn_last, clients_in_same}
use Rattle.spv.specs.Prove.{Target, hits, settle, proof_of, prove_by, any, bound}

-- ---- what a function returns by `?`

pub err_is : {T E : Type 0} (r : Answer T E) (why : E) → IsErrAnd r (λ y. y ≡ why) → r ≡ Err why
err_is r why e = let p = err_from_is_err_and r e in p.1 ∙ ap Err p.2

-- ---- one climb

pub ends_said : (v : Result (List ℕ)) → end_says (climbed_of v) ≡ v
ends_said (accepted r) = refl
ends_said (refused why) = refl

-- where a row has come to
module _ (starts states hashes : List ℕ) (i state : ℕ) (es : state ≡ get_or states i 0) where
  pub row-root : (root : List ℕ) → root ≡ hash_at hashes (32 * i) → state < 128 → Ok root ≡ climbed_of (came_at starts states hashes i)
  unfolding came_at came
  row-root root e b = let c : get_or states i 0 < 128 = omega arith in rw (lt-ltb (get_or states i 0) 128 c, e)

  pub row-stop : (start : ℕ) (why : Rejection) → start ≡ get_or starts i 0 → why ≡ refusal_of start state → 128 ≤ state → Err why ≡ climbed_of (came_at starts states hashes i)
  unfolding came_at came
  row-stop start why e f b = let c : 128 ≤ get_or states i 0 = omega arith in rw (le-ltb (get_or states i 0) 128 c, f, e, es)

module _ (w : Target) (x : Answer (List ℕ) Rejection) where
  pub wanted_stop : (why : Rejection) → x ≡ Err why → refused why ≡ wanted_to w (end_says x)
  unfolding wanted_to
  wanted_stop why e = sym (ap (λ (z : Answer (List ℕ) Rejection). wanted_to w (end_says z)) e)

  module _ (root : List ℕ) (e : x ≡ Ok root) where
    wanted_root : (b : Bool) → hits w root ≡ b → wanted_to w (end_says x) ≡ pick b (accepted (bound root)) (refused (carrying ROOTS_DIFFER 0))
    unfolding wanted_to
    wanted_root b f =
        ap (λ (z : Answer (List ℕ) Rejection). wanted_to w (end_says z)) e
        ∙ ap (λ (z : Bool). pick z (accepted (bound root)) (refused (carrying ROOTS_DIFFER 0))) f

    pub wanted_hit : hits w root ≡ true → accepted (bound root) ≡ wanted_to w (end_says x)
    wanted_hit f = sym (wanted_root true f)

    pub wanted_miss : hits w root ≡ false → refused (carrying ROOTS_DIFFER 0) ≡ wanted_to w (end_says x)
    wanted_miss f = sym (wanted_root false f)

-- what a client leaf leaves wanted, by the end of its climb
module _ (σ : Siblings) (h : ℕ) (s : List ℕ) (w : Target) (offset p : ℕ) where
  pub client_wanted : wanted_to w (end_of (hash_at s p) (ascend σ 0 h offset (hash_at s p))) ≡ after_kind σ h s w offset (Client p)
  unfolding after_kind prove_by wanted_to wanted_by settle
  client_wanted = go (end_of (hash_at s p) (ascend σ 0 h offset (hash_at s p)))
    where
      hit : (t : List ℕ) (b : Bool) → pick b (accepted (bound t)) (refused (carrying ROOTS_DIFFER 0)) ≡ wanted_by (pick b (accepted (proof_of σ h offset (hash_at s p) t)) (refused (carrying ROOTS_DIFFER 0)))
      hit t true = refl
      hit t false = refl

      go : (v : Result (List ℕ)) → wanted_to w v ≡ wanted_by (settle w (proof_of σ h offset (hash_at s p)) v)
      go (refused why) = refl
      go (accepted t) = hit t (hits w t)

-- ---- ends in their order

-- only the first m ends count
pub pending-same : (v u : ℕ → Result (List ℕ)) (m : ℕ) (x : Result Target) → ((i : ℕ) → i < m → v i ≡ u i) → pending v m x ≡ pending u m x
unfolding pending
pending-same v u zero x f = refl
pending-same v u (suc m) x f =
    ap (λ (z : Result Target). follow z (λ w. wanted_to w (v m))) (pending-same v u m x (λ i b. f i (omega arith)))
    ∙ follow-same (pending u m x) (λ w. wanted_to w (v m)) (λ w. wanted_to w (u m)) (λ w. ap (wanted_to w) (f m (omega arith)))

-- one more
pub pending_on : (v : ℕ → Result (List ℕ)) (m : ℕ) (x y : Result Target) (t : Result (List ℕ)) → y ≡ pending v m x → t ≡ v m → follow y (λ w. wanted_to w t) ≡ pending v (m + 1) x
unfolding pending
pending_on v m x y t e f =
    ap (λ (z : Result Target). follow z (λ w. wanted_to w t)) e
    ∙ follow-same (pending v m x) (λ w. wanted_to w t) (λ w. wanted_to w (v m)) (λ w. ap (wanted_to w) f)
    ∙ sym (ap (λ (n : ℕ). pending v n x) (add-one m))

pending-refused : (v : ℕ → Result (List ℕ)) (m : ℕ) (why : Rejection) → pending v m (refused why) ≡ refused why
unfolding pending
pending-refused v zero why = refl
pending-refused v (suc m) why = ap (λ (z : Result Target). follow z (λ w. wanted_to w (v m))) (pending-refused v m why)

-- a refusal of one of them ends it
pub pending-halts : (v : ℕ → Result (List ℕ)) (m n : ℕ) (x : Result Target) (why : Rejection) → m ≤ n → refused why ≡ pending v m x → refused why ≡ pending v n x
unfolding pending
pending-halts v m zero x why b e = let z : m ≡ 0 = omega arith in rw z at e
pending-halts v m (suc n) x why b e = go (λ l. pending-halts v m n x why l e) (eqb m (suc n)) refl
  where
    go : (m ≤ n → refused why ≡ pending v n x) → (t : Bool) → eqb m (suc n) ≡ t → refused why ≡ pending v (suc n) x
    go below true f = rw (eqb-true m (suc n) f) at e
    go below false f = let ne = eqb-false m (suc n) f in ap (λ (z : Result Target). follow z (λ w. wanted_to w (v n))) (below (omega arith))

-- ---- a leaf is read

module _ (σ : Siblings) (h : ℕ) (s : List ℕ) (leaf : Leaf) where
  -- a client that climbs at once
  pub alone_client : (w : Target) (y : Answer (List ℕ) Rejection) (p : ℕ) (hash : List ℕ) → leaf.kind ≡ Client p → hash ≡ hash_at s p → y ≡ climbed_of (end_of hash (ascend σ 0 h leaf.offset hash))
      → wanted_to w (end_says y) ≡ after_leaf σ h s w leaf
  alone_client w y p hash e f g =
      ap (wanted_to w) (ap end_says g ∙ ends_said (end_of hash (ascend σ 0 h leaf.offset hash)))
      ∙ ap (λ (c : List ℕ). wanted_to w (end_of c (ascend σ 0 h leaf.offset c))) f
      ∙ client_wanted σ h s w leaf.offset p
      ∙ sym (ap (after_kind σ h s w leaf.offset) e)

  follow-none : (x : Result Target) (f : Target → Result Target) → ((w : Target) → f w ≡ accepted w) → x ≡ follow x f
  follow-none (accepted w) f e = sym (e w)
  follow-none (refused why) f e = refl

  pub leaf-plain : (x : Result Target) (p : ℕ) → leaf.kind ≡ Plain p → x ≡ follow x (λ w. after_leaf σ h s w leaf)
  unfolding after_kind
  leaf-plain x p e = follow-none x (λ w. after_leaf σ h s w leaf) (λ w. ap (after_kind σ h s w leaf.offset) e)

  pub leaf-copy : (x : Result Target) → leaf.kind ≡ Copy → x ≡ follow x (λ w. after_leaf σ h s w leaf)
  unfolding after_kind
  leaf-copy x e = follow-none x (λ w. after_leaf σ h s w leaf) (λ w. ap (after_kind σ h s w leaf.offset) e)

-- a client that takes a row
module _ (σ : Siblings) (h : ℕ) (s : List ℕ) (leaf : Leaf) (starts hashes : List ℕ) (count : ℕ) (x : Result Target) where
  pub row-client : (p : ℕ) (hash : List ℕ) → leaf.kind ≡ Client p → hash ≡ hash_at s p → count < length starts → 32 * length starts ≤ length hashes
      → rows_say σ h (set starts count leaf.offset) (set_hash hashes count hash) (count + 1) x ≡ follow (rows_say σ h starts hashes count x) (λ w. after_leaf σ h s w leaf)
  unfolding rows_say climb_of
  row-client p hash e f b r =
      sym (follow-same (pending (climb_of σ h starts hashes) count x) (λ w. after_leaf σ h s w leaf) (λ w. wanted_to w (climb_of σ h (set starts count leaf.offset) (set_hash hashes count hash) count)) same
      ∙ pending_on (climb_of σ h (set starts count leaf.offset) (set_hash hashes count hash)) count x (pending (climb_of σ h starts hashes) count x) (climb_of σ h (set starts count leaf.offset) (set_hash hashes count hash) count) (pending-same (climb_of σ h starts hashes) (climb_of σ h (set starts count leaf.offset) (set_hash hashes count hash)) count x before) refl)
    where
      whole : length hash ≡ 32
      whole = ap length f ∙ hash-at-length s p

      stored : set_hash hashes count hash ≡ paste hashes (32 * count) hash 32
      stored = set-inside hashes count hash (omega arith)

      here : hash_at (set_hash hashes count hash) (32 * count) ≡ hash_at s p
      here = ap (λ (l : List ℕ). hash_at l (32 * count)) stored ∙ stored_here hashes hash count whole (omega arith) ∙ f

      same : (w : Target) → after_leaf σ h s w leaf ≡ wanted_to w (climb_of σ h (set starts count leaf.offset) (set_hash hashes count hash) count)
      same w =
          ap (after_kind σ h s w leaf.offset) e ∙ sym (client_wanted σ h s w leaf.offset p)
          ∙ ap₂ (λ (c : List ℕ) (j : ℕ). wanted_to w (end_of c (ascend σ 0 h j c))) (sym here) (sym (get_or-set_same starts count leaf.offset 0 b))

      before : (i : ℕ) → i < count → climb_of σ h starts hashes i ≡ climb_of σ h (set starts count leaf.offset) (set_hash hashes count hash) i
      before i l =
          let n : i ≡ count → ⊥ = (λ z. omega arith) in
          sym (ap₂ (λ (c : List ℕ) (j : ℕ). end_of c (ascend σ 0 h j c)) (ap (λ (l : List ℕ). hash_at l (32 * i)) stored ∙ stored_other hashes hash count whole (omega arith) i n) (get_or-set_other starts count i leaf.offset 0 n))

-- ---- the first rows climb

pub zeros-throughout : (l : List ℕ) (n : ℕ) → l ≡ replicate n 0 → (i : ℕ) → get_or l i 0 ≡ 0
zeros-throughout l n e i = rw e (go (ltb i n) refl)
  where
    go : (t : Bool) → ltb i n ≡ t → ◌≡◌ {A = ℕ} (get_or (replicate n 0) i 0) 0
    go true f = get_or-replicate n i 0 0 (ltb-true i n f)
    go false f = let b = ltb-false i n f in get_or-eq_default (replicate n 0) 0 (simp length-replicate b)

pub rows_climbed : (σ : Siblings) (h : ℕ) (starts states hashes states' hashes' : List ℕ) (count : ℕ) (x : Result Target) → count ≤ length starts → ((i : ℕ) → get_or states i 0 ≡ 0)
    → T.Climbed σ h (take count starts) states hashes states' hashes'
    → pending (came_at starts states' hashes') count x ≡ rows_say σ h starts hashes count x
unfolding rows_say climb_of T.Climbed leads_at came_at
rows_climbed σ h starts states hashes states' hashes' count x b none f = pending-same (came_at starts states' hashes') (climb_of σ h starts hashes) count x each
  where
    each : (i : ℕ) → i < count → came_at starts states' hashes' i ≡ climb_of σ h starts hashes i
    each i l =
        let n = length-take-le count starts b in
        let e : get_or (take count starts) i 0 ≡ get_or starts i 0 = rw get_or-take in
        let c : List ℕ = hash_at hashes (32 * i) in
        ap (λ (p : ℕ). came p (get_or states' i 0) (hash_at hashes' (32 * i))) (sym e) ∙ f i (omega arith)
        ∙ ap₂ (λ (p m : ℕ). leads σ h p m c) e (none i)
        ∙ leads-start σ h (get_or starts i 0) c

pub levels-bump : (s : List ℕ) (head : BumpHead) (path : Path) → path ≡ bump_path_of s head → Levels path
unfolding bump_path_of
levels-bump s head path e = rw e (record { bump = refl; few = omega arith })

pub rows_none : (σ : Siblings) (h : ℕ) (starts hashes : List ℕ) (x : Result Target) → rows_say σ h starts hashes 0 x ≡ x
unfolding rows_say pending
rows_none σ h starts hashes x = refl

-- ---- a level's clients: with x wanted, what is left from here comes to what was asked at the start

pub record Checking (σ : Siblings) (h : ℕ) (s : List ℕ) (n start : ℕ) (x₀ : Result Target) (m at : ℕ) (x : Result Target) : Type 0 where
  pub done : m ≤ n
  pub kept : follow x (λ w. clients_in σ h s (n - m) at w) ≡ follow x₀ (λ w. clients_in σ h s n start w)

module _ (σ : Siblings) (h : ℕ) (s : List ℕ) (n start : ℕ) (x₀ : Result Target) where
  pub checking-start : (x : Result Target) → x ≡ x₀ → Checking σ h s n start x₀ 0 start x
  checking-start x e = record { done = omega arith; kept = rw (sub-zero, e) }

  module _ (m at : ℕ) (x : Result Target) (v : Checking σ h s n start x₀ m at x) where
    pub checking-end : n ≤ m → follow x closing ≡ follow x₀ (λ w. clients_in σ h s n start w)
    checking-end b = follow-same x closing (λ w. clients_in σ h s (n - m) at w) (λ w. sym (turn_last σ h s n m at w b)) ∙ v.kept

    pub checking_halts : (f : Rejection) → x ≡ refused f → Err f ≡ checked_of (follow x₀ (λ w. clients_in σ h s n start w))
    checking_halts f e = ap checked_of (sym (ap (λ (y : Result Target). follow y (λ w. clients_in σ h s (n - m) at w)) e) ∙ v.kept)

    module _ (b : m < n) where
      pub checking_short : (number place : ℕ) → unchecked_leaf Layout.Bump s at ≡ fault number place → follow x (λ w. refused (carrying NOT_LISTED 0)) ≡ follow x₀ (λ w. clients_in σ h s n start w)
      checking_short number place e =
          follow-same x (λ w. refused (carrying NOT_LISTED 0)) (λ w. clients_in σ h s (n - m) at w) (λ w. sym (turn_short σ h s n m at w b number place e)) ∙ v.kept

      pub checking_goes : (leaf : Leaf) (next : ℕ) → unchecked_leaf Layout.Bump s at ≡ ok leaf next → (y : Result Target) → y ≡ follow x (λ w. after_leaf σ h s w leaf) → Checking σ h s n start x₀ (m + 1) next y
      checking_goes leaf next e y f =
          record {
            done = omega arith;
            kept = ap (λ (z : Result Target). follow z (λ w. clients_in σ h s (n - (m + 1)) next w)) f
                ∙ follow-twice x (λ w. after_leaf σ h s w leaf) (λ w. clients_in σ h s (n - (m + 1)) next w)
                ∙ follow-same x (λ w. follow (after_leaf σ h s w leaf) (λ w'. clients_in σ h s (n - (m + 1)) next w')) (λ w. clients_in σ h s (n - m) at w) (λ w. sym (turn-leaf σ h s n m at w b leaf next e))
                ∙ v.kept;
          }

-- a path by itself
pub own_clients : (s : List ℕ) (path : Path) (t y : List ℕ) (n at : ℕ) → Levels path → length y ≡ 0
    → clients_in (worked_out (looked_up s path.at t y)) path.layers s n at any ≡ clients_in (path_siblings s path) path.layers s n at any
own_clients s path t y n at v e =
    ap (λ (z : Siblings). clients_in (worked_out z) path.layers s n at any) (one_path s path.at t y e)
    ∙ clients_in_same (worked_out (written_by s (find_at Layout.Bump s path.at))) (path_siblings s path) path.layers s n at any (path_worked s path v)

pub pending-none : (v : ℕ → Result (List ℕ)) (x : Result Target) → x ≡ pending v 0 x
unfolding pending
pending-none v x = refl

pub pending-end : (v : ℕ → Result (List ℕ)) (x : Result Target) (m n : ℕ) → m ≡ n → pending v m x ≡ pending v n x
pending-end v x m n e = ap (λ (k : ℕ). pending v k x) e
