-- Laws of one pass over the tree: what children hand up is what the climb takes, and every row under a node comes up to it.
use Rattle.std.proofs.Common.{◌≡◌, ◌⊎◌, inl, inr, Option, Some, None, Result as Answer, ℕ, zero, suc, ◌+◌, ◌-◌, ◌*◌, ◌/◌, ◌%◌, ◌^◌, ◌<◌, ◌≤◌, Bool, true, false, eqb, ltb, List, length, get_or, take, drop, length-take, length-drop, get_or-take, get_or-drop, sym, refl, ap, ◌∙◌, subst, ap₂, le_trans, le_refl, arith, ltb-false, ltb-true, eq-eqb, ne_eqb, eqb-true}
use Rattle.std.specs.Option.{is_some}
use Rattle.std.specs.List.{list_any}
use Rattle.std.proofs.lemmas.List.Folds.{list_any_at}
use lib.Pow.{shr_mono}
use borrow.Author.Tests.{eqb-false}
use Rattle.format.specs.declared.refusal.Refusal.{Refusal}
use Rattle.spv.specs.Climb.{Sibling, value, copied, absent, Siblings, sibling_position}
use Rattle.spv.proofs.ClimbLaws.{sibling-odd, sibling-even}
use Rattle.spv.specs.Values.{has_value, value_by, join_both, join_of, value_of, worked_out}
use Rattle.spv.proofs.ValuesLaws.{join-two, both_left}
use Rattle.format.specs.Bytes.{hash_at}
use Rattle.spv.specs.Climb.{odd, step}
use Rattle.spv.specs.Shapes.{sibling_of}
use Rattle.spv.specs.declared.node.Node.{Node}
use Rattle.climbs.specs.declared.pass.Known.{Known}
use Rattle.climbs.specs.Row.{start_of, state_of, Sorted, Under, NotAt, Reached, Moved, states_after, hashes_after}
use Rattle.climbs.proofs.RowLaws.{half_above, Makes, moved_none, moved_on, advance_moves}
use Rattle.climbs.specs.Pass.{plain, join_children, is_written, known_sibling, known_joins, Seen, beside_of, Made, Feeds, Priced, Charged, Stepped, AllStepped}
use Rattle.climbs.specs.Count.{cost_of}
use Rattle.climbs.specs.Spent.{costs_after, joined_cost}
use Rattle.climbs.proofs.SpentLaws.{spent-none, spent_on, advance-spends}

-- ---- values

-- a join is a value or nothing
both-plain : (l r x : Sibling) → plain x (join_both l r) ≡ join_both l r
unfolding plain join_both
both-plain (value l) (value r) x = refl
both-plain (value l) copied x = refl
both-plain (value l) absent x = refl
both-plain copied r x = refl
both-plain absent r x = refl

join-plain : (w : Siblings) (k q : ℕ) (x : Sibling) → plain x (join_of w k q) ≡ join_of w k q
unfolding plain join_of
join-plain w zero q x = refl
join-plain w (suc k) q x = both-plain _ _ x

by_plain : (a join x : Sibling) → plain x join ≡ join → plain x (value_by a copied join) ≡ value_by a x join
unfolding plain value_by
by_plain (value p) join x e = refl
by_plain copied join x e = refl
by_plain absent join x e = e

-- a node's value, by what the climb takes
pub plain_worked : (w : Siblings) (x : Sibling) (k q : ℕ) → plain x (worked_out w k q) ≡ value_of w x k q
unfolding worked_out value_of
plain_worked w x k q = by_plain (w k q) (join_of w k q) x (join-plain w k q x)

-- the join of the children as they are handed up
pub children-join : (w : Siblings) (k q : ℕ) → (k ≡ 0 → ⊥) → join_children (worked_out w (k - 1) (2 * q)) (worked_out w (k - 1) (2 * q + 1)) ≡ join_of w k q
unfolding join_children
children-join w k q ne =
    rw (plain_worked w absent (k - 1) (2 * q), plain_worked w (value_of w absent (k - 1) (2 * q)) (k - 1) (2 * q + 1)) (sym (join-two w k q ne))

plain-none : (l : Sibling) → has_value l ≡ false → plain absent l ≡ absent
unfolding has_value plain
plain-none (value p) e = let z : ◌≡◌ {A = ℕ} 0 1 = cc in absurd (omega arith)
plain-none copied e = refl
plain-none absent e = refl

-- with no value on the left nothing is asked of the right
pub children-none : (l r r' : Sibling) → has_value l ≡ false → join_children l r ≡ join_children l r'
unfolding join_children join_both
children-none l r r' e = rw (plain-none l e)

pub children_valued : (l r : Sibling) → has_value (join_children l r) ≡ true → has_value l ≡ true
unfolding join_children has_value
children_valued l r e = go (has_value l) refl
  where
    go : (t : Bool) → has_value l ≡ t → has_value l ≡ true
    go true f = f
    go false f =
        let x : has_value (join_children l r) ≡ false = ap has_value (ap (λ (y : Sibling). join_both y (plain y r)) (plain-none l f) ∙ both_left absent (plain absent r) refl) in
        let z : ◌≡◌ {A = ℕ} 0 1 = cc in absurd (omega arith)

-- what is written stands for itself, and where nothing is the join does
by_written : (a join : Sibling) → is_written a ≡ true → value_by a copied join ≡ a
unfolding value_by is_written
by_written (value p) join e = refl
by_written copied join e = refl
by_written absent join e = let z : ◌≡◌ {A = ℕ} 0 1 = cc in absurd (omega arith)

by_absent : (a join : Sibling) → is_written a ≡ false → (value_by a copied join ≡ join) × (a ≡ absent)
unfolding value_by is_written
by_absent (value p) join e = let z : ◌≡◌ {A = ℕ} 0 1 = cc in absurd (omega arith)
by_absent copied join e = let z : ◌≡◌ {A = ℕ} 0 1 = cc in absurd (omega arith)
by_absent absent join e = (refl, refl)

module _ (w : Siblings) (k q : ℕ) where
  pub worked_written : is_written (w k q) ≡ true → worked_out w k q ≡ w k q
  unfolding worked_out value_of
  worked_written e = by_written (w k q) (join_of w k q) e

  pub worked_join : is_written (w k q) ≡ false → worked_out w k q ≡ join_of w k q
  unfolding worked_out value_of
  worked_join e = (by_absent (w k q) (join_of w k q) e).0

  pub nothing_written : is_written (w k q) ≡ false → w k q ≡ absent
  nothing_written e = (by_absent (w k q) (join_of w k q) e).1

-- by the right child
module _ (l r : Sibling) where
  pub children-value : (p : List ℕ) → r ≡ value p → join_children l r ≡ join_both l r
  unfolding join_children plain join_both
  children-value p e = rw e (go l)
    where
      go : (x : Sibling) → join_both (plain absent x) (value p) ≡ join_both x (value p)
      go (value q) = refl
      go copied = refl
      go absent = refl

  pub children-copied : r ≡ copied → join_children l r ≡ join_both l l
  unfolding join_children plain join_both
  children-copied e = rw e (go l)
    where
      go : (x : Sibling) → join_both (plain absent x) (plain absent x) ≡ join_both x x
      go (value q) = refl
      go copied = refl
      go absent = refl

  pub children-absent : r ≡ absent → join_children l r ≡ absent
  unfolding join_children plain join_both
  children-absent e = rw e (go l)
    where
      go : (x : Sibling) → join_both (plain absent x) absent ≡ absent
      go (value q) = refl
      go copied = refl
      go absent = refl

-- ---- beside a row

module _ (j left : ℕ) (l r : Option Known) where
  pub beside-left : j ≡ left → beside_of j left l r ≡ r
  unfolding beside_of
  beside-left e = rw (eq-eqb j left e)

  pub beside_right : j ≡ left + 1 → beside_of j left l r ≡ l
  unfolding beside_of
  beside_right e = let n : j ≡ left → ⊥ = (λ z. omega arith) in rw (ne_eqb j left n, eq-eqb j (left + 1) e)

  pub beside_neither : (j ≡ left → ⊥) → (j ≡ left + 1 → ⊥) → beside_of j left l r ≡ None
  unfolding beside_of
  beside_neither n m = rw (ne_eqb j left n, ne_eqb j (left + 1) m)

-- what is known beside a row is known of its sibling
beside-holds : (left j : ℕ) (l r : Option Known) (P : Option Known → ℕ → Type 0) → left % 2 ≡ 0 → (is_some l ≡ true → P l left) → (is_some r ≡ true → P r (left + 1)) → is_some (beside_of j left l r) ≡ true → P (beside_of j left l r) (sibling_position j)
beside-holds left j l r P ev first second e = go (eqb j left) refl
  where
    known : (x : Option Known) → beside_of j left l r ≡ x → is_some x ≡ true
    known x b = ap (λ (y : Option Known). is_some y) (sym b) ∙ e

    at : (x : Option Known) (q : ℕ) → beside_of j left l r ≡ x → sibling_position j ≡ q → P x q → P (beside_of j left l r) (sibling_position j)
    at x q b p v = subst (λ (y : Option Known). P y (sibling_position j)) (sym b) (subst (P x) (sym p) v)

    other : (t : Bool) → eqb j (left + 1) ≡ t → (j ≡ left → ⊥) → P (beside_of j left l r) (sibling_position j)
    other true g n =
        let z : j ≡ left + 1 = eqb-true j (left + 1) g in
        let b = beside_right j left l r z in
        let o : sibling_position j ≡ j - 1 = sibling-odd j (omega arith) in
        at l left b (omega arith) (first (known l b))
    other false g n =
        let b = beside_neither j left l r n (eqb-false j (left + 1) g) in
        let none : Option Known = None in
        let k : is_some none ≡ true = known none b in
        let z : ◌≡◌ {A = ℕ} 0 1 = cc in absurd (omega arith)

    go : (t : Bool) → eqb j left ≡ t → P (beside_of j left l r) (sibling_position j)
    go true g =
        let z : j ≡ left = eqb-true j left g in
        let b = beside-left j left l r z in
        let o : sibling_position j ≡ j + 1 = sibling-even j (λ q. omega arith) in
        at r (left + 1) b (omega arith) (second (known r b))
    go false g = other (eqb j (left + 1)) refl (eqb-false j left g)

pub feeds_beside : (σ : Siblings) (layer left j : ℕ) (l r : Option Known) → Feeds σ layer left l r → is_some (beside_of j left l r) ≡ true → known_sibling (beside_of j left l r) ≡ σ layer (sibling_position j)
feeds_beside σ layer left j l r f e = beside-holds left j l r (λ (x : Option Known) (q : ℕ). known_sibling x ≡ σ layer q) f.even f.first f.second e

priced_beside : (w : Siblings) (layer left j : ℕ) (l r : Option Known) → left % 2 ≡ 0 → Priced w layer left l r → is_some (beside_of j left l r) ≡ true → known_joins (beside_of j left l r) ≡ cost_of w layer (sibling_position j)
priced_beside w layer left j l r ev p e = beside-holds left j l r (λ (x : Option Known) (q : ℕ). known_joins x ≡ cost_of w layer q) ev p.first p.second e

-- ---- rows in order

-- the rows under the left child end where one is not under it: the rest are under the right one
pub under_right : (starts order : List ℕ) (k q lo m hi : ℕ) → Sorted starts order → hi ≤ length order → lo ≤ m → Under starts order (k + 1) q lo hi
    → (m < hi → start_of starts order m / 2 ^ k ≡ 2 * q → ⊥) → Under starts order k (2 * q + 1) m hi
unfolding Sorted Under
under_right starts order k q lo m hi sorted within b under ne i l u =
    let a = under i (omega arith) u in
    let d = half_above (start_of starts order i) k in
    let a' = under m b (omega arith) in
    let d' = half_above (start_of starts order m) k in
    let n : start_of starts order m / 2 ^ k ≡ 2 * q → ⊥ = ne (omega arith) in
    let le : start_of starts order m / 2 ^ k ≤ start_of starts order i / 2 ^ k = shr_mono k (sorted m i l (omega arith)) in
    omega arith

-- the rows of both children are those of the node
pub reached-both : (order states : List ℕ) (layer lo m hi : ℕ) → Reached order states layer lo m → Reached order states layer m hi → Reached order states layer lo hi
unfolding Reached
reached-both order states layer lo m hi f g i l u = go (ltb i m) refl
  where
    go : (t : Bool) → ltb i m ≡ t → layer ≤ state_of order states i
    go true e = f i l (ltb-true i m e)
    go false e = g i (ltb-false i m e) u

pub reached-grows : (order a b : List ℕ) (layer lo hi : ℕ) → ((i : ℕ) → get_or a i 0 ≤ get_or b i 0) → Reached order a layer lo hi → Reached order b layer lo hi
unfolding Reached
reached-grows order a b layer lo hi g f i l u = le_trans (f i l u) (g (get_or order i 0))

-- ---- what loops over rows show

module _ (starts order : List ℕ) (layer q lo : ℕ) where
  pub under_none : Under starts order layer q lo lo
  unfolding Under
  under_none i l u = absurd (omega arith)

  pub under_more : (m : ℕ) → Under starts order layer q lo m → start_of starts order m / 2 ^ layer ≡ q → Under starts order layer q lo (m + 1)
  unfolding Under
  under_more m f e i l u = go (eqb i m) refl
    where
      go : (t : Bool) → eqb i m ≡ t → start_of starts order i / 2 ^ layer ≡ q
      go true g = rw (eqb-true i m g) e
      go false g = let n = eqb-false i m g in f i l (omega arith)

-- none of the rows from lo to hi passes a test
none_among : (p : ℕ → Bool) (order : List ℕ) (lo hi i : ℕ) → list_any p (take (hi - lo) (drop lo order)) ≡ false → hi ≤ length order → lo ≤ i → i < hi → p (get_or order i 0) ≡ false
none_among p order lo hi i e b l u = go (p (get_or order i 0)) refl
  where
    same : lo + (i - lo) ≡ i
    same = omega arith

    at : get_or (take (hi - lo) (drop lo order)) (i - lo) 0 ≡ get_or order i 0
    at = let m : i - lo < hi - lo = omega arith in rw (get_or-take, get_or-drop, same) refl

    within : i - lo < length (take (hi - lo) (drop lo order))
    within = omega (arith, length-take {A = ℕ}, length-drop {A = ℕ})

    go : (t : Bool) → p (get_or order i 0) ≡ t → p (get_or order i 0) ≡ false
    go true f = let g = list_any_at p (take (hi - lo) (drop lo order)) (i - lo) 0 within (ap p at ∙ f) in let z : ◌≡◌ {A = ℕ} 0 1 = cc in absurd (omega arith)
    go false f = f

module _ (order states : List ℕ) (layer lo hi : ℕ) (b : hi ≤ length order) where
  pub none-at : list_any (λ row. eqb (get_or states row 0) layer) (take (hi - lo) (drop lo order)) ≡ false → NotAt order states layer lo hi
  unfolding NotAt
  none-at e i l u = eqb-false (state_of order states i) layer (none_among (λ row. eqb (get_or states row 0) layer) order lo hi i e b l u)

  pub none-below : list_any (λ row. ltb (get_or states row 0) layer) (take (hi - lo) (drop lo order)) ≡ false → Reached order states layer lo hi
  unfolding Reached
  none-below e i l u = ltb-false (state_of order states i) layer (none_among (λ row. ltb (get_or states row 0) layer) order lo hi i e b l u)

module _ (order states : List ℕ) (layer lo : ℕ) where
  pub reached-none : Reached order states layer lo lo
  unfolding Reached
  reached-none i l u = absurd (omega arith)

-- ---- a node that is written, or not

module _ (w : Siblings) (k q : ℕ) (want : Bool) (r : Option Known) where
  pub seen_unasked : want ≡ false → r ≡ None → Seen w k q want r
  seen_unasked e g =
      record {
        unasked = λ _. ap (λ (x : Option Known). is_some x) g;
        told = λ f. let z : ◌≡◌ {A = ℕ} 0 1 = cc in absurd (omega arith);
        node = λ f. let z : ◌≡◌ {A = ℕ} 0 1 = cc in absurd (omega arith);
        joins = ap known_joins g;
      }

module _ (w : Siblings) (k q : ℕ) (want : Bool) (node : Node) (asked : want ≡ true) (e : sibling_of node ≡ w k q) where
  pub seen_written : is_written (sibling_of node) ≡ true → Seen w k q want (Some (record { node = node; joins = 0 }))
  seen_written g =
      record { unasked = λ f. let z : ◌≡◌ {A = ℕ} 0 1 = cc in absurd (omega arith); told = λ f. sym g ∙ ap is_written e; node = λ f. e; joins = refl }

  pub seen_nothing : is_written (sibling_of node) ≡ false → Seen w k q want None
  seen_nothing g =
      let f : is_written (w k q) ≡ false = ap is_written (sym e) ∙ g in
      record { unasked = λ _. refl; told = λ _. sym f; node = λ _. sym (nothing_written w k q f); joins = refl }

-- ---- a row that took its step

module _ (starts states hashes : List ℕ) (row layer left : ℕ) (l r : Option Known) where
  pub stepped_not : (get_or states row 0 ≡ layer → ⊥) → Stepped starts states hashes states hashes row layer left l r
  stepped_not ne =
      record {
        moved = λ σ f. moved_none σ (layer + 1) starts states hashes;
        grows = λ i. le_refl (get_or states i 0);
        past = λ f b. omega arith;
      }

  module _ (here : get_or states row 0 ≡ layer) (j : ℕ) (x : Option Known) (ej : j ≡ get_or starts row 0 / 2 ^ layer) (ex : x ≡ beside_of j left l r) where
    at : x ≡ beside_of (get_or starts row 0 / 2 ^ layer) left l r
    at = ex ∙ ap (λ (n : ℕ). beside_of n left l r) ej

    pub stepped_unknown : is_some x ≡ false → Stepped starts states hashes states hashes row layer left l r
    stepped_unknown e =
        record {
          moved = λ σ f. moved_none σ (layer + 1) starts states hashes;
          grows = λ i. le_refl (get_or states i 0);
          past = λ f b. let y = ap (λ (z : Option Known). is_some z) at ∙ f here in let z : ◌≡◌ {A = ℕ} 0 1 = cc in absurd (omega arith);
        }

    module _ (known : is_some x ≡ true) (made : Answer (List ℕ) Refusal) (few : layer < 64) (inside : row < length states) (room : 32 * row + 32 ≤ length hashes)
        (told : Makes made (step (known_sibling x) (odd j) (hash_at hashes (32 * row)))) where
      abbrev states₃ : List ℕ
      states₃ = states_after states row layer made

      abbrev hashes₃ : List ℕ
      hashes₃ = hashes_after states hashes row layer made

      abbrev i₃ : ℕ
      i₃ = get_or starts row 0 / 2 ^ layer

      move : (σ : Siblings) → σ layer (sibling_position i₃) ≡ known_sibling x → Moved σ (layer + 1) starts states hashes states₃ hashes₃ × (layer < get_or states₃ row 0)
      move σ e =
          advance_moves σ starts states hashes row layer made few here inside room
          (subst (Makes made) (ap₂ (λ (y : Sibling) (n : ℕ). step y (odd n) (hash_at hashes (32 * row))) (sym e) ej) told)

      stepped_on : Stepped starts states hashes states₃ hashes₃ row layer left l r
      stepped_on =
          record {
            moved = λ σ f.
                (move σ (sym (ap (λ (z : Option Known). known_sibling z) at ∙ feeds_beside σ layer left i₃ l r f (ap (λ (z : Option Known). is_some z) (sym at) ∙ known)))).0;
            grows = (move (λ k q. known_sibling x) refl).0.grows;
            past = λ f b. (move (λ k q. known_sibling x) refl).1;
          }

      -- and paid for it
      charged_on : (costs : List ℕ) → Charged starts states hashes costs states₃ hashes₃ (costs_after states costs row layer made (known_joins x)) layer left l r
      unfolding Charged
      charged_on costs w f p =
          let k : is_some (beside_of i₃ left l r) ≡ true = ap (λ (z : Option Known). is_some z) (sym at) ∙ known in
          let e : known_sibling x ≡ worked_out w layer (sibling_position i₃) = ap (λ (z : Option Known). known_sibling z) at ∙ feeds_beside (worked_out w) layer left i₃ l r f k in
          advance-spends w starts states hashes costs row layer (known_joins x) made few here inside room
          (subst (Makes made) (ap₂ (λ (y : Sibling) (n : ℕ). step y (odd n) (hash_at hashes (32 * row))) e ej) told)
          (ap (λ (z : Option Known). known_joins z) at ∙ priced_beside w layer left i₃ l r f.even p k)

      pub stepped_both : (states' hashes' costs costs' : List ℕ) → states' ≡ states₃ → hashes' ≡ hashes₃ → costs' ≡ costs_after states costs row layer made (known_joins x)
          → Stepped starts states hashes states' hashes' row layer left l r × Charged starts states hashes costs states' hashes' costs' layer left l r
      stepped_both states' hashes' costs costs' es eh ec = rw (es, eh, ec) (stepped_on, charged_on costs)

module _ (starts : List ℕ) (layer left : ℕ) (l r : Option Known) where
  pub charged_none : (states hashes costs : List ℕ) → Charged starts states hashes costs states hashes costs layer left l r
  unfolding Charged
  charged_none states hashes costs w f p = spent-none w (layer + 1) starts states hashes costs

  -- one step after the other
  pub charged_both : (s h c s₁ h₁ c₁ s₂ h₂ c₂ : List ℕ) → Charged starts s h c s₁ h₁ c₁ layer left l r → Charged starts s₁ h₁ c₁ s₂ h₂ c₂ layer left l r → Charged starts s h c s₂ h₂ c₂ layer left l r
  unfolding Charged
  charged_both s h c s₁ h₁ c₁ s₂ h₂ c₂ a b w f p = spent_on w (layer + 1) starts s h c s₁ h₁ c₁ s₂ h₂ c₂ (a w f p) (b w f p)

-- ---- all rows of a range

module _ (starts order : List ℕ) (layer left lo : ℕ) (l r : Option Known) where
  pub all_none : (states hashes : List ℕ) → AllStepped starts order states hashes states hashes layer left lo lo l r
  unfolding Reached
  all_none states hashes =
      record {
        moved = λ σ f. moved_none σ (layer + 1) starts states hashes;
        grows = λ i. le_refl (get_or states i 0);
        past = λ f g i b u. absurd (omega arith);
      }

  pub all_more : (a x b y c z : List ℕ) (i : ℕ) → lo ≤ i → AllStepped starts order a x b y layer left lo i l r → Stepped starts b y c z (get_or order i 0) layer left l r
      → AllStepped starts order a x c z layer left lo (i + 1) l r
  unfolding Reached
  all_more a x b y c z i b' f g =
      record {
        moved = λ σ e. moved_on σ (layer + 1) starts a x b y c z (f.moved σ e) (g.moved σ e);
        grows = λ n. le_trans (f.grows n) (g.grows n);
        past = λ e u. each e u;
      }
    where
      each : ((i' : ℕ) → lo ≤ i' → i' < i + 1 → state_of order a i' ≡ layer → is_some (beside_of (start_of starts order i' / 2 ^ layer) left l r) ≡ true) → Reached order a layer lo (i + 1)
          → (n : ℕ) → lo ≤ n → n < i + 1 → layer + 1 ≤ state_of order c n
      each e u n p q = go (eqb n i) refl
        where
          before : (m : ℕ) → lo ≤ m → m < i → layer + 1 ≤ state_of order b m
          before = f.past (λ m v w. e m v (omega arith)) (λ m v w. u m v (omega arith))

          go : (t : Bool) → eqb n i ≡ t → layer + 1 ≤ state_of order c n
          go true h =
              let k = eqb-true n i h in
              let lo' : layer ≤ state_of order a i = u i b' (omega arith) in
              let gr : state_of order a i ≤ state_of order b i = f.grows (get_or order i 0) in
              let r' : layer < state_of order c i = g.past (λ v. e i b' (omega arith) (omega arith)) (le_trans lo' gr) in
              let s : layer + 1 ≤ state_of order c i = omega arith in
              rw k s
          go false h = let k = eqb-false n i h in let v : n < i = omega arith in le_trans (before n p v) (g.grows (get_or order n 0))

  pub all_end : (a x b y : List ℕ) (i hi : ℕ) → i ≡ hi → AllStepped starts order a x b y layer left lo i l r → AllStepped starts order a x b y layer left lo hi l r
  all_end a x b y i hi e v = rw e at v

-- of two children that are known
pub made_of : (l r : Option Known) (a b x : Known) → l ≡ Some a → r ≡ Some b → sibling_of x.node ≡ join_children (sibling_of a.node) (sibling_of b.node)
    → x.joins ≡ joined_cost (has_value (sibling_of x.node)) a.joins b.joins → Made l r (Some x)
made_of l r a b x e f g h = rw (e, f) (record { known = refl; node = g; joins = h })

-- without one of the two
pub made_nothing : (l r : Option Known) (node : Node) → sibling_of node ≡ absent → (l ≡ None) ⊎ (r ≡ None) → Made l r (Some (record { node = node; joins = 0 }))
unfolding join_children plain join_both joined_cost has_value
made_nothing l r node e f =
    record {
      known = refl;
      node = e ∙ elim f as (λ (_ : (l ≡ None) ⊎ (r ≡ None)). absent ≡ join_children (known_sibling l) (known_sibling r)) [ inl g ↦ rw g (left_none (known_sibling r)) | inr g ↦ rw g (right_none (known_sibling l)) ];
      joins = none (has_value (sibling_of node)) (ap has_value e);
    }
  where
    left_none : (x : Sibling) → absent ≡ join_children absent x
    left_none x = refl

    right_none : (x : Sibling) → absent ≡ join_children x absent
    right_none (value p) = refl
    right_none copied = refl
    right_none absent = refl

    none : (b : Bool) → b ≡ has_value absent → 0 ≡ joined_cost b (known_joins l) (known_joins r)
    none b h = rw h

pub made_none : (l r x : Option Known) (need : Bool) → need ≡ false → need ≡ true → Made l r x
made_none l r x need e f = let z : ◌≡◌ {A = ℕ} 0 1 = cc in absurd (omega arith)
