-- Surplus leaves are ignored (01, "The climb"): two well-formed paths of one form that agree on tree height, on which level-0 leaves carry
-- the id, and on every leaf that the climb's values ask for give that id the same answer. (The block height is not part of that answer.)
use Prim.Native.Nat.{ℕ, ◌<◌, ◌≤◌, min}
use mathlib.Core.Path.{◌≡◌, refl, sym, ap, ◌∙◌}
use mathlib.Core.Bool.{Bool, true, false, ◌&&◌, ◌||◌}
use mathlib.Core.List.{List, [], ◌∷◌}
use lib.ListN.{get_or}
use lib.Dec.{eqb, ltb}
use native.Mathlib.Omega.{arith}
use native.Mathlib.Nat.{min-eq_left, min-eq_right}
use borrow.Author.Tests.{eq-eqb, ne_eqb, ltb-true, ltb-false}
use Rattle.format.proofs.Basics.{and-false, or_true}
use Rattle.format.specs.declared.leaf.Leaf.{Leaf}
use Rattle.std.specs.Prelude.{Option, Some, None}
use Rattle.format.specs.Parse.{ok, pick}
use Rattle.path.specs.Search.{carries, lesser, least_offset}
use Rattle.format.specs.Bump.{Bump, bump_whole}
use Rattle.format.specs.Cmp.{Cmp, cmp_whole}
use Rattle.spv.specs.Climb.{Siblings, ascend}
use Rattle.spv.proofs.Asked.{climb_asks, SameAt}
use Rattle.spv.proofs.AskedLaws.{climb_agree}
use Rattle.spv.proofs.CompareLaws.{prove_climb}
use Rattle.spv.specs.Siblings.{written_by, find_in, level_siblings}
use Rattle.spv.specs.Readings.{starting, levels_reading, bump_reading, cmp_reading}
use Rattle.spv.proofs.ReadingsLaws.{bump-read, cmp-read}
use Rattle.spv.specs.Prove.{prove, any}

-- a leaf at the offset o carries the id
unfoldable pub carried_at : List ℕ → List ℕ → ℕ → List Leaf → Bool
carried_at s id o [] = false
carried_at s id o (leaf ∷ l) = (eqb leaf.offset o && carries s id leaf.kind) || carried_at s id o l

-- x is the least offset whose leaf carries the id
unfoldable pub Least : List ℕ → List ℕ → List Leaf → Option ℕ → Type 0
Least s id l (Some i) = (carried_at s id i l ≡ true) × ((o : ℕ) → o < i → carried_at s id o l ≡ false)
Least s id l None = (o : ℕ) → carried_at s id o l ≡ false

-- one leaf more
module _ (s id : List ℕ) (leaf : Leaf) (l : List Leaf) where
  first-here : carries s id leaf.kind ≡ true → carried_at s id leaf.offset (leaf ∷ l) ≡ true
  unfolding carried_at
  first-here e = rw (eq-eqb leaf.offset leaf.offset refl, e)

  later_here : (o : ℕ) → carried_at s id o l ≡ true → carried_at s id o (leaf ∷ l) ≡ true
  unfolding carried_at
  later_here o e = rw (carried_at, e) (or_true (eqb leaf.offset o && carries s id leaf.kind))

  not_first : (o : ℕ) → (leaf.offset ≡ o → ⊥) → carried_at s id o l ≡ false → carried_at s id o (leaf ∷ l) ≡ false
  unfolding carried_at
  not_first o n e = rw (ne_eqb leaf.offset o n) e

  not_carried : (o : ℕ) → carries s id leaf.kind ≡ false → carried_at s id o l ≡ false → carried_at s id o (leaf ∷ l) ≡ false
  unfolding carried_at
  not_carried o f e = rw (f, and-false (eqb leaf.offset o)) e

  least_add : (b : Bool) → carries s id leaf.kind ≡ b → (x : Option ℕ) → Least s id l x → Least s id (leaf ∷ l) (lesser (pick b (Some leaf.offset) None) x)
  unfolding Least lesser
  least_add false e (Some i) h = (later_here i h.0, λ o k. not_carried o e (h.1 o k))
  least_add false e None h = λ o. not_carried o e (h o)
  least_add true e None h = (first-here e, λ o k. not_first o (λ q. omega arith) (h o))
  least_add true e (Some i) h = go (ltb leaf.offset i) refl
    where
      go : (t : Bool) → ltb leaf.offset i ≡ t → (carried_at s id (min leaf.offset i) (leaf ∷ l) ≡ true) × ((o : ℕ) → o < min leaf.offset i → carried_at s id o (leaf ∷ l) ≡ false)
      go true f =
          let le : leaf.offset ≤ i = omega (arith, ltb-true leaf.offset i f) in
          rw (min-eq_left le) (first-here e, λ o k. not_first o (λ q. omega arith) (h.1 o (omega arith)))
      go false f =
          let le : i ≤ leaf.offset = ltb-false leaf.offset i f in
          rw (min-eq_right le) (later_here i h.0, λ o k. not_first o (λ q. omega arith) (h.1 o k))

pub least-is : (s id : List ℕ) (l : List Leaf) → Least s id l (least_offset s id l)
unfolding least_offset Least carried_at
least-is s id [] = λ o. refl
least-is s id (leaf ∷ l) = least_add s id leaf l (carries s id leaf.kind) refl (least_offset s id l) (least-is s id l)

-- paths that agree on which leaves carry the id start at one offset
least-same : (s t id : List ℕ) (l m : List Leaf) → ((o : ℕ) → carried_at s id o l ≡ carried_at t id o m) → (x y : Option ℕ) → Least s id l x → Least t id m y → x ≡ y
unfolding Least
least-same s t id l m e None None h k = refl
least-same s t id l m e (Some i) None h k = absurd (let f = sym h.0 ∙ e i ∙ k i in let z : ◌≡◌ {A = ℕ} 0 1 = cc in omega arith)
least-same s t id l m e None (Some j) h k = absurd (let f = sym k.0 ∙ sym (e j) ∙ h j in let z : ◌≡◌ {A = ℕ} 0 1 = cc in omega arith)
least-same s t id l m e (Some i) (Some j) h k = ap Some (go (ltb i j) refl (ltb j i) refl)
  where
    go : (a : Bool) → ltb i j ≡ a → (b : Bool) → ltb j i ≡ b → i ≡ j
    go true p b q = absurd (let f = sym h.0 ∙ e i ∙ k.1 i (ltb-true i j p) in let z : ◌≡◌ {A = ℕ} 0 1 = cc in omega arith)
    go false p true q = absurd (let f = sym k.0 ∙ sym (e j) ∙ h.1 j (ltb-true j i q) in let z : ◌≡◌ {A = ℕ} 0 1 = cc in omega arith)
    go false p false q = omega (arith, ltb-false i j p, ltb-false j i q)

pub start-same : (s t id : List ℕ) (l m : List Leaf) → ((o : ℕ) → carried_at s id o l ≡ carried_at t id o m) → least_offset s id l ≡ least_offset t id m
start-same s t id l m e = least-same s t id l m e (least_offset s id l) (least_offset t id m) (least-is s id l) (least-is t id m)

-- agreement of two paths over h layers, as far as an id asks: on the leaves that carry it, and on every leaf that its climb's values ask for
pub record Agree (s t id : List ℕ) (h : ℕ) (levels others : List (List Leaf)) : Type 0 where
  pub carriers : (o : ℕ) → carried_at s id o (get_or levels 0 []) ≡ carried_at t id o (get_or others 0 [])
  pub leaves : (i : ℕ) → least_offset s id (get_or levels 0 []) ≡ Some i
      → SameAt (written_by s (find_in levels)) (written_by t (find_in others)) (climb_asks (written_by s (find_in levels)) 0 h i id)

starting-agree : (σ τ : Siblings) (h : ℕ) (id : List ℕ) (x : Option ℕ) → ((i : ℕ) → x ≡ Some i → ascend σ 0 h i id ≡ ascend τ 0 h i id) → prove (starting σ h id x) ≡ prove (starting τ h id x)
unfolding starting
starting-agree σ τ h id None f = refl
starting-agree σ τ h id (Some i) f = prove_climb σ τ h i id any (f i refl)

pub surplus : (s t id : List ℕ) (h : ℕ) (levels others : List (List Leaf)) → Agree s t id h levels others → prove (levels_reading s h levels id) ≡ prove (levels_reading t h others id)
unfolding levels_reading level_siblings
surplus s t id h levels others a =
    starting-agree (level_siblings s levels) (level_siblings t others) h id (least_offset s id (get_or levels 0 []))
    (λ i e. climb_agree (written_by s (find_in levels)) (written_by t (find_in others)) 0 h i id (a.leaves i e))
    ∙ ap (λ (x : Option ℕ). prove (starting (level_siblings t others) h id x)) (start-same s t id (get_or levels 0 []) (get_or others 0 []) a.carriers)

-- the two forms that have such leaves
pub surplus_bump : (s t id : List ℕ) {b c : Bump} {p q : ℕ} → bump_whole s ≡ ok b p → bump_whole t ≡ ok c q → b.height ≡ c.height → Agree s t id b.height b.levels c.levels
    → prove (bump_reading s id) ≡ prove (bump_reading t id)
surplus_bump s t id {b} {c} {p} {q} e f h a =
    ap prove (bump-read s id b p e)
    ∙ surplus s t id b.height b.levels c.levels a
    ∙ ap (λ (n : ℕ). prove (levels_reading t n c.levels id)) h
    ∙ sym (ap prove (bump-read t id c q f))

pub surplus_cmp : (s t id : List ℕ) {b c : Cmp} {p q : ℕ} → cmp_whole s ≡ ok b p → cmp_whole t ≡ ok c q → b.height ≡ c.height → Agree s t id b.height b.levels c.levels
    → prove (cmp_reading s id) ≡ prove (cmp_reading t id)
surplus_cmp s t id {b} {c} {p} {q} e f h a =
    ap prove (cmp-read s id b p e)
    ∙ surplus s t id b.height b.levels c.levels a
    ∙ ap (λ (n : ℕ). prove (levels_reading t n c.levels id)) h
    ∙ sym (ap prove (cmp-read t id c q f))
