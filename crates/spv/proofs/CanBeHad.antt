-- "14 is given exactly when a needed value can't be had so" (02, Item 3): which values can be had, and which climbs come how far, said by relations
-- that name nothing of what is worked out.
use Prim.Native.Nat.{ℕ, zero, suc, ◌+◌, ◌-◌, ◌*◌, ◌/◌, ◌%◌, ◌≤◌, ◌<◌}
use mathlib.Core.Path.{◌≡◌, refl, sym, ap, ap₂, ◌∙◌, subst}
use mathlib.Core.Bool.{Bool, true, false}
use mathlib.Core.List.{List, [], ◌++◌}
use mathlib.Core.Logic.{◌↔◌}
use lib.ListN.{get_or}
use native.Mathlib.Omega.{arith}
use native.Mathlib.Numerals.{add-one}
use borrow.Author.Tests.{eqb-true, eqb-false, eq-eqb, ne_eqb}
use Rattle.hash.specs.Sha256.{sha256d}
use Rattle.format.specs.Bytes.{same}
use Rattle.format.proofs.BytesLaws.{eq_same, ne_same}
use Rattle.format.specs.declared.leaf.Leaf.{Leaf}
use Rattle.std.specs.Prelude.{Option, Some, None}
use Rattle.format.specs.Parse.{ok, pick}
use Rattle.format.specs.Refusals.{NOT_LISTED, MISSING, TWIN}
use Rattle.format.specs.Bump.{Bump, bump_whole}
use Rattle.format.specs.Cmp.{Cmp, cmp_whole}
use Rattle.path.specs.Search.{least_offset}
use Rattle.spv.specs.declared.rejection.Rejection.{Rejection}
use Rattle.spv.specs.Result.{Result, accepted, refused, carrying, at_sibling}
use Rattle.spv.specs.Climb.{Sibling, value, copied, absent, Siblings, odd, sibling_position, Step, joins, fails, joined, step, ascend, ascend_by, end_of, end_by}
use Rattle.spv.proofs.ClimbLaws.{joined-odd, sibling-odd, sibling-even, ascended, turn-fails}
use Rattle.spv.specs.Values.{join_both, join_of, value_of, worked_out}
use Rattle.spv.proofs.ValuesLaws.{join-zero, value_written, value-copied, value-absent}
use Rattle.spv.proofs.CompareLaws.{prove-stop}
use Rattle.spv.specs.Siblings.{written_by, find_in, level_siblings}
use Rattle.spv.specs.Readings.{starting, levels_reading, bump_reading, cmp_reading}
use Rattle.spv.proofs.ReadingsLaws.{bump-read, cmp-read}
use Rattle.spv.proofs.Turns.{Climbing, climbing_start, climbing_up}
use Rattle.spv.proofs.OddCopies.{OddCopies, bump_copies, cmp_copies}
use Rattle.spv.specs.Prove.{Proof, hits, settle, prove, prove_by, any}

-- ---- values that can be had

-- the value of a node, over what is written by layer and position
pub data Had (w : Siblings) : ℕ → ℕ → List ℕ → Type 0 where
  -- "a sibling's value is its written hash"
  by_hash : {k q : ℕ} {p : List ℕ} → w k q ≡ value p → Had w k q p
  -- "a copy has the value of the node on its left"
  by_left : {k q : ℕ} {p : List ℕ} → w k (q + 1) ≡ copied → Had w k q p → Had w k (q + 1) p
  -- "or if nothing is written there, the join of its two children one level lower"; "at level 0 only written leaves have a value"
  by_children : {k q : ℕ} {l r : List ℕ} → w (suc k) q ≡ absent → Had w k (2 * q) l → Had w k (2 * q + 1) r → Had w (suc k) q (sha256d (l ++ r))

unfoldable pub CanBeHad : Siblings → ℕ → ℕ → Type 0
CanBeHad w k q = (p : List ℕ) × Had w k q p

no_value : (p : List ℕ) → absent ≡ value p → ⊥
no_value p e = let z : ◌≡◌ {A = ℕ} 0 1 = cc in omega arith

no_copy : (p : List ℕ) → copied ≡ value p → ⊥
no_copy p e = let z : ◌≡◌ {A = ℕ} 0 1 = cc in omega arith

both_told : (l r : Sibling) (p : List ℕ) → join_both l r ≡ value p → (a : List ℕ) × (b : List ℕ) × (l ≡ value a) × (r ≡ value b) × (sha256d (a ++ b) ≡ p)
unfolding join_both
both_told (value a) (value b) p e = (a, b, refl, refl, cc)
both_told (value a) copied p e = absurd (no_value p e)
both_told (value a) absent p e = absurd (no_value p e)
both_told copied r p e = absurd (no_value p e)
both_told absent r p e = absurd (no_value p e)

both-not-copied : (l r : Sibling) → join_both l r ≡ copied → ⊥
unfolding join_both
both-not-copied (value a) (value b) e = let z : ◌≡◌ {A = ℕ} 0 1 = cc in omega arith
both-not-copied (value a) copied e = let z : ◌≡◌ {A = ℕ} 0 1 = cc in omega arith
both-not-copied (value a) absent e = let z : ◌≡◌ {A = ℕ} 0 1 = cc in omega arith
both-not-copied copied r e = let z : ◌≡◌ {A = ℕ} 0 1 = cc in omega arith
both-not-copied absent r e = let z : ◌≡◌ {A = ℕ} 0 1 = cc in omega arith

module _ (w : Siblings) where
  two : (k q : ℕ) → join_of w (suc k) q ≡ join_both (value_of w absent k (2 * q)) (value_of w (value_of w absent k (2 * q)) k (2 * q + 1))
  unfolding join_of value_of
  two k q = refl

  -- ---- what is worked out can be had

  node_had : (copy : Sibling) (k q : ℕ) (p : List ℕ) → (w k q ≡ copied → copy ≡ value p → Had w k q p) → (w k q ≡ absent → join_of w k q ≡ value p → Had w k q p)
      → value_of w copy k q ≡ value p → Had w k q p
  node_had copy k q p c j e = go (w k q) refl
    where
      go : (x : Sibling) → w k q ≡ x → Had w k q p
      go (value v) h = by_hash (h ∙ sym (value_written w copy k q v h) ∙ e)
      go copied h = c h (sym (value-copied w copy k q h) ∙ e)
      go absent h = j h (sym (value-absent w copy k q h) ∙ e)

  join_had : (k q : ℕ) (p : List ℕ) → w k q ≡ absent → join_of w k q ≡ value p → Had w k q p
  join_had zero q p a e = absurd (no_value p (sym (join-zero w 0 q refl) ∙ e))
  join_had (suc k) q p a e =
      let t = both_told _ _ p (sym (two k q) ∙ e) in
      let left : (v : List ℕ) → value_of w absent k (2 * q) ≡ value v → Had w k (2 * q) v = λ v. node_had absent k (2 * q) v (λ h g. absurd (no_value v g)) (join_had k (2 * q) v) in
      let right : Had w k (2 * q + 1) t.1 = node_had (value_of w absent k (2 * q)) k (2 * q + 1) t.1 (λ h g. by_left h (left t.1 g)) (join_had k (2 * q + 1) t.1) t.3 in
      subst (Had w (suc k) q) t.4 (by_children a (left t.0 t.2) right)

  join-not-copied : (k q : ℕ) → join_of w k q ≡ copied → ⊥
  join-not-copied zero q e = let f = sym (join-zero w 0 q refl) ∙ e in let z : ◌≡◌ {A = ℕ} 0 1 = cc in omega arith
  join-not-copied (suc k) q e = both-not-copied _ _ (sym (two k q) ∙ e)

  -- ---- what can be had is worked out

  -- whatever a copy there has
  unfoldable Valued : ℕ → ℕ → List ℕ → Type 0
  Valued k q p = (copy : Sibling) → (w k q ≡ copied → copy ≡ value p) → value_of w copy k q ≡ value p

  module _ (odds : OddCopies w) where
    had_valued : {k q : ℕ} {p : List ℕ} → Had w k q p → Valued k q p × (w k q ≡ copied → (l : ℕ) × (q ≡ l + 1) × Valued k l p)
    unfolding Valued join_both
    had_valued (by_hash {k = k} {q = q} {p = p} e) = ((λ copy f. value_written w copy k q p e), (λ c. absurd (no_copy p (sym c ∙ e))))
    had_valued (by_left {k = k} {q = q} {p = p} e h) = ((λ copy f. value-copied w copy k (q + 1) e ∙ f e), (λ c. (q, refl, (had_valued h).0)))
    had_valued (by_children {k = k} {q = q} {l = l} {r = r} e a b) =
        let left = (had_valued a).0 absent (λ c. absurd (let o = odds k (2 * q) c in omega arith)) in
        let right = right_is (had_valued b).0 (had_valued b).1 in
        ((λ copy f. value-absent w copy (suc k) q e ∙ two k q ∙ ap₂ join_both left right), (λ c. absurd (let f = sym c ∙ e in let z : ◌≡◌ {A = ℕ} 0 1 = cc in omega arith)))
      where
        right_is : Valued k (2 * q + 1) r → (w k (2 * q + 1) ≡ copied → (m : ℕ) × (2 * q + 1 ≡ m + 1) × Valued k m r)
            → value_of w (value_of w absent k (2 * q)) k (2 * q + 1) ≡ value r
        right_is v g =
            v (value_of w absent k (2 * q)) (λ c. let x = g c in let n : x.0 ≡ 2 * q = (let m = x.1 in omega arith) in
            ap (value_of w absent k) (sym n) ∙ x.2 absent (λ d. absurd (let o = odds k x.0 d in omega arith)))

    -- the value worked out is the one that can be had: on the climb a copy stays a copy
    pub value-exactly : (k q : ℕ) (p : List ℕ) → (w k q ≡ copied → ⊥) → (worked_out w k q ≡ value p) ↔ Had w k q p
    unfolding worked_out Valued
    value-exactly k q p n = (node_had copied k q p (λ h g. absurd (n h)) (join_had k q p), λ h. (had_valued h).0 copied (λ c. absurd (n c)))

    -- there is none exactly when what stands there is no copy, and no value of it can be had
    pub none-exactly : (k q : ℕ) → (worked_out w k q ≡ absent) ↔ ((w k q ≡ copied → ⊥) × (CanBeHad w k q → ⊥))
    unfolding worked_out CanBeHad
    none-exactly k q = (to, λ x. from x.0 x.1)
      where
        not-copied : worked_out w k q ≡ absent → w k q ≡ copied → ⊥
        not-copied e c = let f = sym (value-copied w copied k q c) ∙ e in let z : ◌≡◌ {A = ℕ} 0 1 = cc in omega arith

        to : worked_out w k q ≡ absent → (w k q ≡ copied → ⊥) × (CanBeHad w k q → ⊥)
        to e = (not-copied e, λ h. no_value h.0 (sym e ∙ (value-exactly k q h.0 (not-copied e)).1 h.1))

        from : (w k q ≡ copied → ⊥) → (CanBeHad w k q → ⊥) → worked_out w k q ≡ absent
        from n h = go (worked_out w k q) refl
          where
            no_copies : (x : Sibling) → w k q ≡ x → worked_out w k q ≡ copied → ⊥
            no_copies (value p) g e = no_copy p (sym e ∙ value_written w copied k q p g)
            no_copies copied g e = n g
            no_copies absent g e = join-not-copied k q (sym (value-absent w copied k q g) ∙ e)

            go : (x : Sibling) → worked_out w k q ≡ x → worked_out w k q ≡ absent
            go (value p) e = absurd (h (p, (value-exactly k q p n).0 e))
            go copied e = absurd (no_copies (w k q) refl e)
            go absent e = e

-- ---- the climb

-- what is taken beside the working hash c: "on the climb itself [a copy] repeats the working hash"; else the value that can be had
pub data Beside (w : Siblings) (k q : ℕ) (c : List ℕ) : List ℕ → Type 0 where
  repeats : w k q ≡ copied → Beside w k q c c
  stands : {p : List ℕ} → (w k q ≡ copied → ⊥) → Had w k q p → Beside w k q c p

-- the climb of an id from position i comes to layer k, at position j with the working hash c: at every layer below there was a sibling, and no twin
pub data Climbs (w : Siblings) (i : ℕ) (id : List ℕ) : ℕ → ℕ → List ℕ → Type 0 where
  begins : Climbs w i id 0 i id
  on_even : {k j : ℕ} {c p : List ℕ} → Climbs w i id k j c → j % 2 ≡ 0 → Beside w k (j + 1) c p → Climbs w i id (k + 1) (j / 2) (sha256d (c ++ p))
  on_odd : {k j : ℕ} {c p : List ℕ} → Climbs w i id k j c → j % 2 ≡ 1 → Beside w k (j - 1) c p → (p ≡ c → ⊥) → Climbs w i id (k + 1) (j / 2) (sha256d (p ++ c))

-- a climb over h layers ends for want of a sibling, the one that the refusal tells: the lowest layer without one, "at that layer the sibling the climb
-- needs, even if the gap is further down" (02, Item 5). It is no copy, and no value of it can be had
pub record Missing (w : Siblings) (h : ℕ) (id : List ℕ) (start : Option ℕ) (why : Rejection) : Type 0 where
  pub offset : ℕ
  pub starts : start ≡ Some offset
  pub layer : ℕ
  pub below : layer < h
  pub position : ℕ
  pub working : List ℕ
  pub climbs : Climbs w offset id layer position working
  pub not-copied : w layer (sibling_position position) ≡ copied → ⊥
  pub not_had : CanBeHad w layer (sibling_position position) → ⊥
  pub told : why ≡ at_sibling MISSING layer (sibling_position position)

-- ---- one layer

joined-even-told : (c p a b : List ℕ) → joined false c p ≡ joins a b → (c ≡ a) × (p ≡ b)
unfolding joined
joined-even-told c p a b e = (cc, cc)

joined-odd-told : (c p a b : List ℕ) → joined true c p ≡ joins a b → (p ≡ a) × (c ≡ b) × (p ≡ c → ⊥)
unfolding joined
joined-odd-told c p a b e = go (same p c) refl e
  where
    go : (t : Bool) → same p c ≡ t → pick t (fails TWIN) (joins p c) ≡ joins a b → (p ≡ a) × (c ≡ b) × (p ≡ c → ⊥)
    go true h f = absurd (let z : ◌≡◌ {A = ℕ} 0 1 = cc in omega arith)
    go false h f = (cc, cc, λ q. let g = sym h ∙ eq_same p c q in let z : ◌≡◌ {A = ℕ} 0 1 = cc in omega arith)

joined-never-missing : (o : Bool) (c p : List ℕ) → joined o c p ≡ fails MISSING → ⊥
unfolding joined
joined-never-missing false c p e = let z : ◌≡◌ {A = ℕ} 0 1 = cc in omega arith
joined-never-missing true c p e = go (same p c) e
  where
    go : (t : Bool) → pick t (fails TWIN) (joins p c) ≡ fails MISSING → ⊥
    go true f = let n : ◌≡◌ {A = ℕ} TWIN MISSING = cc in omega arith
    go false f = let z : ◌≡◌ {A = ℕ} 0 1 = cc in omega arith

missing-absent : (x : Sibling) (o : Bool) (c : List ℕ) → step x o c ≡ fails MISSING → x ≡ absent
unfolding step
missing-absent (value p) o c e = absurd (joined-never-missing o c p e)
missing-absent copied o c e = absurd (joined-never-missing o c c e)
missing-absent absent o c e = refl

module _ (w : Siblings) (odds : OddCopies w) where
  -- what the climb takes is what the relation says
  beside-told : (k q : ℕ) (o : Bool) (c a b : List ℕ) → step (worked_out w k q) o c ≡ joins a b → (p : List ℕ) × Beside w k q c p × (joined o c p ≡ joins a b)
  unfolding worked_out step
  beside-told k q o c a b e = go (worked_out w k q) refl e
    where
      valued : (p : List ℕ) → worked_out w k q ≡ value p → w k q ≡ copied → ⊥
      valued p h g = no_copy p (sym (value-copied w copied k q g) ∙ h)

      copied-told : (x : Sibling) → w k q ≡ x → worked_out w k q ≡ copied → w k q ≡ copied
      copied-told (value p) g h = absurd (no_copy p (sym h ∙ value_written w copied k q p g))
      copied-told copied g h = g
      copied-told absent g h = absurd (join-not-copied w k q (sym (value-absent w copied k q g) ∙ h))

      go : (x : Sibling) → worked_out w k q ≡ x → step x o c ≡ joins a b → (p : List ℕ) × Beside w k q c p × (joined o c p ≡ joins a b)
      go (value p) h f = (p, stands (valued p h) ((value-exactly w odds k q p (valued p h)).0 h), f)
      go copied h f = (c, repeats (copied-told (w k q) refl h), f)
      go absent h f = absurd (let z : ◌≡◌ {A = ℕ} 0 1 = cc in omega arith)

  beside_steps : {k q : ℕ} {c p : List ℕ} (o : Bool) → Beside w k q c p → step (worked_out w k q) o c ≡ joined o c p
  unfolding worked_out step
  beside_steps {k} {q} {c} {p} o (repeats g) = ap (λ (x : Sibling). step x o c) (value-copied w copied k q g)
  beside_steps {k} {q} {c} {p} o (stands n h) = ap (λ (x : Sibling). step x o c) ((value-exactly w odds k q p n).1 h)

  module _ (h i : ℕ) (id : List ℕ) where
    -- ---- from the climb to the relation

    climbs-up : (k j : ℕ) (c a b : List ℕ) → Climbs w i id k j c → step (worked_out w k (sibling_position j)) (odd j) c ≡ joins a b → Climbs w i id (k + 1) (j / 2) (sha256d (a ++ b))
    climbs-up k j c a b x e = go (odd j) refl (beside-told k (sibling_position j) (odd j) c a b e)
      where
        go : (o : Bool) → odd j ≡ o → (p : List ℕ) × Beside w k (sibling_position j) c p × (joined o c p ≡ joins a b) → Climbs w i id (k + 1) (j / 2) (sha256d (a ++ b))
        go true t (p, s, f) =
            let r = joined-odd-told c p a b f in
            let u = eqb-true (j % 2) 1 t in
            rw (← r.0, ← r.1) (on_odd x u (rw (sibling-odd j u) at s) r.2)
        go false t (p, s, f) =
            let r = joined-even-told c p a b f in
            let u = eqb-false (j % 2) 1 t in
            rw (← r.0, ← r.1) (on_even x (omega arith) (rw (sibling-even j u) at s))

    climb_missing : (n k j : ℕ) (c : List ℕ) → k + n ≡ h → Climbs w i id k j c → (why : Rejection) → end_of c (ascend (worked_out w) k n j c) ≡ refused why → why.number ≡ MISSING → Missing w h id (Some i) why
    unfolding ascend_by end_by
    climb_missing zero k j c m x why e num = absurd (let z : ◌≡◌ {A = ℕ} 0 1 = cc in omega arith)
    climb_missing (suc n) k j c m x why e num =
        go (step (worked_out w k (sibling_position j)) (odd j) c) refl e (λ d y f. climb_missing n (suc k) (j / 2) d (omega arith) y why f num)
      where
        q : ℕ
        q = sibling_position j

        ends : (number : ℕ) → step (worked_out w k q) (odd j) c ≡ fails number → at_sibling number k q ≡ why → Missing w h id (Some i) why
        ends number s f =
            let is : number ≡ MISSING = ap (λ (r : Rejection). r.number) f ∙ num in
            let none = (none-exactly w odds k q).0 (missing-absent (worked_out w k q) (odd j) c (s ∙ ap fails is)) in
            record {
              offset = i;
              starts = refl;
              layer = k;
              below = omega arith;
              position = j;
              working = c;
              climbs = x;
              not-copied = none.0;
              not_had = none.1;
              told = sym f ∙ ap (λ (number : ℕ). at_sibling number k q) is;
            }

        go : (s : Step) → step (worked_out w k q) (odd j) c ≡ s → end_of c (ascended (worked_out w) k n j (worked_out w k q) s) ≡ refused why
            → ((d : List ℕ) → Climbs w i id (suc k) (j / 2) d → end_of d (ascend (worked_out w) (suc k) n (j / 2) d) ≡ refused why → Missing w h id (Some i) why)
            → Missing w h id (Some i) why
        go (joins a b) s f ih = ih (sha256d (a ++ b)) (rw add-one at (climbs-up k j c a b x s)) f
        go (fails number) s f ih = ends number s cc

    -- ---- from the relation to the climb

    climbs-kept : {k j : ℕ} {c : List ℕ} → Climbs w i id k j c → k ≤ h → Climbing (worked_out w) h i id k j c
    unfolding joined
    climbs-kept begins m = climbing_start (worked_out w) h i id
    climbs-kept (on_even {k = k} {j = j} {c = c} {p = p} x u s) m =
        let n : j % 2 ≡ 1 → ⊥ = λ z. omega arith in
        let e : step (worked_out w k (sibling_position j)) (odd j) c ≡ joins c p = rw (sibling-even j n, ne_eqb (j % 2) 1 n) (beside_steps false s) in
        climbing_up (worked_out w) h i id k j c (climbs-kept x (omega arith)) (omega arith) c p e (sha256d (c ++ p)) refl
    climbs-kept (on_odd {k = k} {j = j} {c = c} {p = p} x u s d) m =
        let e : step (worked_out w k (sibling_position j)) (odd j) c ≡ joins p c = rw (sibling-odd j u, eq-eqb (j % 2) 1 u) (beside_steps true s ∙ joined-odd c p (ne_same p c d)) in
        climbing_up (worked_out w) h i id k j c (climbs-kept x (omega arith)) (omega arith) p c e (sha256d (p ++ c)) refl

    missing_ends : (why : Rejection) (m : Missing w h id (Some i) why) → m.offset ≡ i → end_of id (ascend (worked_out w) 0 h i id) ≡ refused why
    unfolding step end_by
    missing_ends why m same =
        let x = subst (λ (o : ℕ). Climbs w o id m.layer m.position m.working) same m.climbs in
        let k : ℕ = m.layer in
        let j : ℕ = m.position in
        let c : List ℕ = m.working in
        let v = climbs-kept x (let b = m.below in omega arith) in
        let a = (none-exactly w odds k (sibling_position j)).1 (m.not-copied, m.not_had) in
        sym v.kept
        ∙ ap (end_of c) (turn-fails (worked_out w) k k h j c m.below MISSING (ap (λ (s : Sibling). step s (odd j) c) a))
        ∙ ap refused (sym m.told)

-- ---- the proofs of an id by levels

not_listed : (why : Rejection) → ◌≡◌ {A = Result Proof} (refused (carrying NOT_LISTED 0)) (refused why) → why.number ≡ MISSING → ⊥
not_listed why e n = let f : carrying NOT_LISTED 0 ≡ why = cc in omega (arith, ap (λ (r : Rejection). r.number) f ∙ n)

any-refused : (f : List ℕ → Proof) (x : Result (List ℕ)) (why : Rejection) → settle any f x ≡ refused why → x ≡ refused why
unfolding settle hits
any-refused f (accepted r) why e = absurd (let z : ◌≡◌ {A = ℕ} 0 1 = cc in omega arith)
any-refused f (refused y) why e = ap refused cc

module _ (s id : List ℕ) (h : ℕ) (levels : List (List Leaf)) (odds : OddCopies (written_by s (find_in levels))) (why : Rejection) where
  levels-missing : ((prove (levels_reading s h levels id) ≡ refused why) × (why.number ≡ MISSING)) ↔ Missing (written_by s (find_in levels)) h id (least_offset s id (get_or levels 0 [])) why
  unfolding levels_reading level_siblings starting prove_by
  levels-missing = go (least_offset s id (get_or levels 0 []))
    where
      w : Siblings
      w = written_by s (find_in levels)

      go : (x : Option ℕ) → ((prove (starting (level_siblings s levels) h id x) ≡ refused why) × (why.number ≡ MISSING)) ↔ Missing w h id x why
      go (Some i) = (
        (λ e. climb_missing w odds h i id h 0 i id (omega arith) begins why (any-refused _ _ why e.0) e.1),
        (λ m. let same : m.offset ≡ i = (let z = m.starts in cc) in
            (prove-stop (worked_out w) h i id any why (missing_ends w odds h i id why m same), ap (λ (r : Rejection). r.number) m.told)),
      )
      go None = ((λ e. absurd (not_listed why e.0 e.1)), (λ m. absurd (let z = m.starts in let y : ◌≡◌ {A = ℕ} 0 1 = cc in omega arith)))

-- a BUMP that was read: its proof of an id is refused with 14 exactly when the climb lacks a sibling so, and then with that layer and sibling
pub bump-missing : (s id : List ℕ) (b : Bump) (q : ℕ) → bump_whole s ≡ ok b q → (why : Rejection)
    → ((prove (bump_reading s id) ≡ refused why) × (why.number ≡ MISSING)) ↔ Missing (written_by s (find_in b.levels)) b.height id (least_offset s id (get_or b.levels 0 [])) why
bump-missing s id b q e why = rw (bump-read s id b q e) (levels-missing s id b.height b.levels (bump_copies s b q e) why)

-- "CMP follows the same rule"
pub cmp-missing : (s id : List ℕ) (p : Cmp) (q : ℕ) → cmp_whole s ≡ ok p q → (why : Rejection)
    → ((prove (cmp_reading s id) ≡ refused why) × (why.number ≡ MISSING)) ↔ Missing (written_by s (find_in p.levels)) p.height id (least_offset s id (get_or p.levels 0 [])) why
cmp-missing s id p q e why = rw (cmp-read s id p q e) (levels-missing s id p.height p.levels (cmp_copies s p q e) why)
