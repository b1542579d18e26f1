-- Laws of the flat form.
use Prim.Native.Nat.{ℕ, zero, suc, ◌+◌, ◌-◌, ◌*◌, ◌/◌, ◌%◌, ◌<◌, ◌≤◌}
use mathlib.Core.Path.{◌≡◌, refl, sym, ap, ap₂, ◌∙◌}
use mathlib.Core.Bool.{Bool, true, false, not, ◌||◌}
use mathlib.Core.List.{List, [], ◌∷◌}
use mathlib.Core.Logic.{inl, inr}
use native.Mathlib.Nat.{sub-zero}
use native.Mathlib.Omega.{arith}
use lib.Dec.{eqb, ltb}
use lib.ListN.{length, get_or, set, take, drop, replicate, get_or-eq_default}
use lib.Seq.{drop-drop}
use borrow.Author.Tests.{le-leb, lt-ltb, ltb-true, ltb-false, lt-leb, le-ltb, eqb-true, eqb-false, eq-eqb, ne_eqb, not-true, not-false}
use Rattle.format.specs.declared.transaction.Input.{Input}
use Rattle.format.proofs.Basics.{one_less}
use Rattle.format.specs.Parse.{ok, fault, pick}
use Rattle.format.specs.Bytes.{same, hash_at}
use Rattle.format.proofs.BytesLaws.{same_eq, eq_same}
use Rattle.format.specs.Field.{le4, number}
use Rattle.format.specs.Transaction.{input_field}
use Rattle.spv.specs.Hashes.{hashes, hashes_of, among, index_of, Distinct}
use Rattle.spv.proofs.HashesLaws.{told-among}
use Rattle.format.specs.declared.transaction.Items.{Items}
use Rattle.bundle.specs.Windows.{inside, mark_one, marked, mark_all, twice, lesser_if, marks_in, first_in}
use Rattle.format.proofs.ParseLaws.{otherwise-ok, otherwise-fault}
use Rattle.format.specs.Refusals.{U32}
use Rattle.bundle.specs.FlatForm.{column, inputs_of, lists_from, Finds, four_at, through, spent_from}

-- ---- the place of a hash

index-absent : (x : List ℕ) (l : List (List ℕ)) → among x l ≡ false → index_of x l ≡ length l
unfolding index_of among
index-absent x [] e = refl
index-absent x (y ∷ l) e = go (same y x) refl e (index-absent x l)
  where
    go : (t : Bool) → same y x ≡ t → (t || among x l) ≡ false → (among x l ≡ false → index_of x l ≡ length l) → pick t 0 (suc (index_of x l)) ≡ suc (length l)
    go true h e f = absurd (let z : ◌≡◌ {A = ℕ} 0 1 = cc in omega arith)
    go false h e f = ap suc (f e)

index-there : (x : List ℕ) (l : List (List ℕ)) (r : ℕ) → Distinct l → r < length l → get_or l r [] ≡ x → index_of x l ≡ r
unfolding index_of
index-there x [] r d h e = absurd (omega arith)
index-there x (y ∷ l) zero d h e = rw (eq_same y x e)
index-there x (y ∷ l) (suc r) d h e = go (same y x) refl (index-there x l r (λ j k a b q. d (suc j) (suc k) (omega arith) (omega arith) q) (omega arith) e)
  where
    go : (t : Bool) → same y x ≡ t → index_of x l ≡ r → pick t 0 (suc (index_of x l)) ≡ suc r
    go true q f = absurd (d 0 (suc r) (omega arith) h (same_eq y x q ∙ sym e))
    go false q f = ap suc f

pub finds_index : (x : List ℕ) (l : List (List ℕ)) (r : ℕ) → Distinct l → Finds x l r → r ≡ index_of x l
finds_index x l r d (inl (h, e)) = sym (index-there x l r d h e)
finds_index x l r d (inr (h, e)) = h ∙ sym (index-absent x l e)

among_none : (x : List ℕ) (l : List (List ℕ)) → ((k : ℕ) → k < length l → same (get_or l k []) x ≡ false) → among x l ≡ false
unfolding among
among_none x [] g = refl
among_none x (y ∷ l) g = rw (g 0 (omega arith), among_none x l (λ k h. g (suc k) (omega arith)))

-- a search from the last one back
hashes-length : (n : ℕ) (l : List ℕ) → length (hashes n l) ≡ n
unfolding hashes
hashes-length zero l = refl
hashes-length (suc n) l = ap suc (hashes-length n (drop 32 l))

hashes-at : (n k : ℕ) (l : List ℕ) → k < n → get_or (hashes n l) k [] ≡ take 32 (drop (32 * k) l)
unfolding hashes
hashes-at zero k l h = absurd (omega arith)
hashes-at (suc n) zero l h = refl
hashes-at (suc n) (suc k) l h = hashes-at n k (drop 32 l) (omega arith) ∙ ap (take 32) (drop_on k)
  where
    drop_on : (k : ℕ) → drop (32 * k) (drop 32 l) ≡ drop (32 * suc k) l
    drop_on k = let e : 32 + 32 * k ≡ 32 * suc k = omega arith in drop-drop (32 * k) 32 l ∙ ap (λ (j : ℕ). drop j l) e

module _ (x list : List ℕ) where
  pub count-is : length (hashes_of list) ≡ length list / 32
  unfolding hashes_of
  count-is = hashes-length (length list / 32) list

  pub found_at : (k : ℕ) → k < length list / 32 → same (take 32 (drop (32 * k) list)) x ≡ true → Finds x (hashes_of list) k
  unfolding hashes_of
  found_at k h e = inl (omega (arith, h, count-is), hashes-at (length list / 32) k list h ∙ same_eq (take 32 (drop (32 * k) list)) x e)

  pub found-hash : (k : ℕ) {y : List ℕ} → k < length list / 32 → y ≡ hash_at list (32 * k) → same y x ≡ true → Finds x (hashes_of list) k
  unfolding hash_at
  found-hash k h is e =
      let inside : 32 * k + 32 ≤ length list = omega arith in
      found_at k h (ap (λ (z : List ℕ). same z x) (sym (is ∙ ap (λ (b : Bool). pick b (take 32 (drop (32 * k) list)) (replicate 32 0)) (le-leb (32 * k + 32) (length list) inside))) ∙ e)

  -- none from k on
  pub nowhere : ((k : ℕ) → k < length list / 32 → same (take 32 (drop (32 * k) list)) x ≡ false) → Finds x (hashes_of list) (length list / 32)
  unfolding hashes_of
  nowhere f = inr (sym count-is, none (hashes_of list) (λ k h. let low : k < length list / 32 = omega (arith, h, count-is) in ap (λ (y : List ℕ). same y x) (hashes-at (length list / 32) k list low) ∙ f k low))
    where
      none : (l : List (List ℕ)) → ((k : ℕ) → k < length l → same (get_or l k []) x ≡ false) → among x l ≡ false
      none l g = among_none x l g

  -- what the place says of the hash
  pub finds_some : (r : ℕ) → Finds x (hashes_of list) r → r < length list / 32 → among x (hashes_of list) ≡ true
  finds_some r (inl (h, e)) low = told-among x (hashes_of list) (r, h, e)
  finds_some r (inr (h, e)) low = absurd (omega (arith, h, low, count-is))

  pub finds_none : (r : ℕ) → Finds x (hashes_of list) r → length list / 32 ≤ r → among x (hashes_of list) ≡ false
  finds_none r (inl (h, e)) past = absurd (omega (arith, h, past, count-is))
  finds_none r (inr (h, e)) past = e

  pub finds_among : (r : ℕ) → Finds x (hashes_of list) r → ltb r (length list / 32) ≡ among x (hashes_of list)
  finds_among r f = go (ltb r (length list / 32)) refl
    where
      go : (b : Bool) → ltb r (length list / 32) ≡ b → ltb r (length list / 32) ≡ among x (hashes_of list)
      go true e = e ∙ sym (finds_some r f (ltb-true r (length list / 32) e))
      go false e = e ∙ sym (finds_none r f (ltb-false r (length list / 32) e))

  pub left-more : (left : ℕ) → 0 < left → ((k : ℕ) → left ≤ k → k < length list / 32 → same (take 32 (drop (32 * k) list)) x ≡ false)
      → same (take 32 (drop (32 * (left - 1)) list)) x ≡ false → (k : ℕ) → left - 1 ≤ k → k < length list / 32 → same (take 32 (drop (32 * k) list)) x ≡ false
  left-more left some f e k a b = go (eqb k (left - 1)) refl
    where
      go : (t : Bool) → eqb k (left - 1) ≡ t → same (take 32 (drop (32 * k) list)) x ≡ false
      go true h = ap (λ (j : ℕ). same (take 32 (drop (32 * j) list)) x) (eqb-true k (left - 1) h) ∙ e
      go false h = f k (let ne = eqb-false k (left - 1) h in past ne) b
        where
          past : (k ≡ left - 1 → ⊥) → left ≤ k
          past ne = omega arith

-- ---- fields of the flat form

pub through-past : (firsts : List ℕ) (p v : ℕ) → length firsts ≤ p → v % U32 ≡ through firsts p v
unfolding through
through-past firsts p v h = let e = get_or-eq_default firsts 0 h in rw e (omega arith)

pub through-at : (firsts : List ℕ) (p v : ℕ) → get_or firsts p 0 % U32 + v % U32 ≡ through firsts p v
unfolding through
through-at firsts p v = refl

pub four-none : (s : List ℕ) (at : ℕ) {n q : ℕ} → number le4 4 s at ≡ fault n q → 0 ≡ four_at s at
unfolding four_at
four-none s at e = sym (otherwise-fault 0 (λ v next. v) e)

pub four-some : (s : List ℕ) (at : ℕ) {v q : ℕ} → number le4 4 s at ≡ ok v q → v ≡ four_at s at
unfolding four_at
four-some s at e = sym (otherwise-ok 0 (λ v next. v) e)

module _ (numbers : List ℕ) (k : ℕ) where
  pub inputs-anchored : (column numbers 3 k ≡ 0 → ⊥) → record { count = 0; at = record { at = column numbers 8 k } } ≡ inputs_of numbers k
  unfolding inputs_of
  inputs-anchored ne = rw (ne_eqb (column numbers 3 k) 0 ne)

  pub inputs_free : column numbers 3 k ≡ 0 → record { count = column numbers 7 k; at = record { at = column numbers 8 k } } ≡ inputs_of numbers k
  unfolding inputs_of
  inputs_free e = rw (eq-eqb (column numbers 3 k) 0 e)

-- ---- one number

module _ (base size x k : ℕ) (marks : List ℕ) (is : length marks ≡ size) where
  pub one_below : x < base → (marks ≡ mark_one base size k marks x) × (false ≡ marked base size marks x)
  unfolding mark_one marked inside
  one_below h = rw (lt-leb base x h) (refl, refl)

  module _ (h : base ≤ x) where
    pub one-past : length marks ≤ x - base → (marks ≡ mark_one base size k marks x) × (false ≡ marked base size marks x)
    unfolding mark_one marked inside
    one-past b = let past : base + size ≤ x = omega (arith, is) in rw (le-leb base x h, le-ltb x (base + size) past) (refl, refl)

    module _ (b : x - base < length marks) where
      pub one_again : (get_or marks (x - base) 0 ≡ 0 → ⊥) → (marks ≡ mark_one base size k marks x) × (true ≡ marked base size marks x)
      unfolding mark_one marked inside
      one_again ne = let low : x < base + size = omega (arith, is) in rw (le-leb base x h, lt-ltb x (base + size) low, ne_eqb (get_or marks (x - base) 0) 0 ne) (refl, refl)

      pub one_new : get_or marks (x - base) 0 ≡ 0 → (set marks (x - base) k ≡ mark_one base size k marks x) × (false ≡ marked base size marks x)
      unfolding mark_one marked inside
      one_new e = let low : x < base + size = omega (arith, is) in rw (le-leb base x h, lt-ltb x (base + size) low, eq-eqb (get_or marks (x - base) 0) 0 e) (refl, refl)

-- ---- the inputs of a transaction: i of n are passed

module _ (s : List ℕ) (ids : List (List ℕ)) (firsts : List ℕ) (base size k n : ℕ) where
  abbrev spends : ℕ → ℕ → List ℕ
  spends i at = spent_from s ids firsts (n - i) at

  pub spent-refused : (i at : ℕ) {c q : ℕ} → input_field s at ≡ fault c q → spends i at ≡ []
  unfolding spent_from
  spent-refused i at e = go (n - i)
    where
      go : (m : ℕ) → spent_from s ids firsts m at ≡ []
      go zero = refl
      go (suc m) = rw e

  pub spent-end : (i at : ℕ) → n ≤ i → spends i at ≡ []
  unfolding spent_from
  spent-end i at h = let none : n - i ≡ 0 = omega arith in rw none

  pub spent_on : (i at : ℕ) {input : Input} {q : ℕ} → i < n → input_field s at ≡ ok input q
      → spends i at ≡ through firsts (index_of (hash_at s input.parent) ids) (four_at s input.output) ∷ spends (i + 1) q
  unfolding spent_from
  spent_on i at low e = rw (one_less n i low) (rw e)

-- what is left of a list marked, and the answer so far
pub left_one : (base size k x : ℕ) (marks rest : List ℕ) (so_far now : Bool) → now ≡ (so_far || marked base size marks x)
    → (so_far || twice base size k marks (x ∷ rest)) ≡ (now || twice base size k (mark_one base size k marks x) rest)
unfolding twice
left_one base size k x marks rest true now e = rw e
left_one base size k x marks rest false now e = rw e

pub left_marks : (base size k x : ℕ) (marks rest : List ℕ) → mark_all base size k marks (x ∷ rest) ≡ mark_all base size k (mark_one base size k marks x) rest
unfolding mark_all
left_marks base size k x marks rest = refl

pub none_marks : (base size k : ℕ) (marks : List ℕ) → mark_all base size k marks [] ≡ marks
unfolding mark_all
none_marks base size k marks = refl

pub none-twice : (base size k : ℕ) (marks : List ℕ) (b : Bool) → (b || twice base size k marks []) ≡ b
unfolding twice
none-twice base size k marks true = refl
none-twice base size k marks false = refl

-- ---- a loop over the inputs of a transaction

module _ (s : List ℕ) (ids : List (List ℕ)) (firsts : List ℕ) (base k n start : ℕ) (marks₀ : List ℕ) where
  abbrev all : List ℕ
  all = spent_from s ids firsts n start

  abbrev size : ℕ
  size = length marks₀

  -- i of n are passed, and the next is read at a place
  pub record Marking (marks : List ℕ) (again : Bool) (i at : ℕ) : Type 0 where
    pub done : i ≤ n
    pub size_is : length marks ≡ size
    pub kept : mark_all base size k marks₀ all ≡ mark_all base size k marks (spent_from s ids firsts (n - i) at)
    pub told : twice base size k marks₀ all ≡ (again || twice base size k marks (spent_from s ids firsts (n - i) at))

  pub marking_start : Marking marks₀ false 0 start
  marking_start = record { done = omega arith; size_is = refl; kept = ap (λ (m : ℕ). mark_all base size k marks₀ (spent_from s ids firsts m start)) (sym (sub-zero n)); told = ap (λ (m : ℕ). twice base size k marks₀ (spent_from s ids firsts m start)) (sym (sub-zero n)) }

  module _ {marks : List ℕ} {again : Bool} {i at : ℕ} (m : Marking marks again i at) where
    -- nothing is left
    ends : spent_from s ids firsts (n - i) at ≡ [] → (marks ≡ mark_all base size k marks₀ all) × (again ≡ twice base size k marks₀ all)
    ends e = (sym (m.kept ∙ ap (mark_all base size k marks) e ∙ none_marks base size k marks), sym (m.told ∙ ap (λ (l : List ℕ). again || twice base size k marks l) e ∙ none-twice base size k marks again))

    pub marking_end : n ≤ i → (marks ≡ mark_all base size k marks₀ all) × (again ≡ twice base size k marks₀ all)
    marking_end h = ends (spent-end s ids firsts base size k n i at h)

    pub marking_stops : {c q : ℕ} → input_field s at ≡ fault c q → (marks ≡ mark_all base size k marks₀ all) × (again ≡ twice base size k marks₀ all)
    marking_stops e = ends (spent-refused s ids firsts base size k n i at e)

    pub marking_on : {input : Input} {q : ℕ} {x : List ℕ} {p v y : ℕ} {marks' : List ℕ} {had again' : Bool} → Distinct ids → i < n → input_field s at ≡ ok input q → x ≡ hash_at s input.parent → Finds x ids p
        → v ≡ four_at s input.output → y ≡ through firsts p v → (marks' ≡ mark_one base (length marks) k marks y) × (had ≡ marked base (length marks) marks y) → length marks' ≡ length marks → again' ≡ (again || had)
        → Marking marks' again' (i + 1) q
    marking_on {input} {q} {x} {p} {v} {y} {marks'} {had} {again'} distinct low read is finds four number (new, old) long so =
        let place : p ≡ index_of (hash_at s input.parent) ids = finds_index x ids p distinct finds ∙ ap (λ (h : List ℕ). index_of h ids) is in
        let y-is : y ≡ through firsts (index_of (hash_at s input.parent) ids) (four_at s input.output) = number ∙ ap (λ (j : ℕ). through firsts j v) place ∙ ap (through firsts (index_of (hash_at s input.parent) ids)) four in
        let rest = spent_from s ids firsts (n - (i + 1)) q in
        let here : spent_from s ids firsts (n - i) at ≡ y ∷ rest = spent_on s ids firsts base size k n i at low read ∙ ap (λ (z : ℕ). z ∷ rest) (sym y-is) in
        let new' : marks' ≡ mark_one base size k marks y = new ∙ ap (λ (z : ℕ). mark_one base z k marks y) m.size_is in
        let old' : had ≡ marked base size marks y = old ∙ ap (λ (z : ℕ). marked base z marks y) m.size_is in
        record {
          done = omega arith;
          size_is = long ∙ m.size_is;
          kept = m.kept ∙ ap (mark_all base size k marks) here ∙ left_marks base size k y marks rest ∙ ap (λ (l : List ℕ). mark_all base size k l rest) (sym new');
          told = m.told ∙ ap (λ (l : List ℕ). again || twice base size k marks l) here ∙ left_one base size k y marks rest again again' (so ∙ ap (λ (b : Bool). again || b) old')
              ∙ ap (λ (l : List ℕ). again' || twice base size k l rest) (sym new');
        }

-- ---- a loop over the transactions: those below k are passed

module _ (first k : ℕ) (meant : Bool) where
  pub lesser-not : not meant ≡ true → first ≡ lesser_if meant k first
  unfolding lesser_if
  lesser-not e = rw (not-true meant e)

  module _ (e : not meant ≡ false) where
    pub lesser-first : first ≤ k → first ≡ lesser_if meant k first
    unfolding lesser_if
    lesser-first h = rw (not-false meant e, le-leb first k h)

    pub lesser_k : k < first → k ≡ lesser_if meant k first
    unfolding lesser_if
    lesser_k h = rw (not-false meant e, lt-leb first k h)

module _ (s : List ℕ) (ids : List (List ℕ)) (numbers firsts : List ℕ) (base n : ℕ) (marks₀ : List ℕ) (first₀ : ℕ) where
  abbrev from : ℕ → List (List ℕ)
  from k = lists_from s ids numbers firsts k (n - k)

  pub record Passing (marks : List ℕ) (first k : ℕ) : Type 0 where
    pub some : 1 ≤ k
    pub long : length marks ≡ length marks₀
    pub marks_kept : marks_in base (length marks₀) 1 marks₀ (from 1) ≡ marks_in base (length marks₀) k marks (from k)
    pub first-kept : first_in base (length marks₀) 1 marks₀ first₀ (from 1) ≡ first_in base (length marks₀) k marks first (from k)

  pub passing_start : Passing marks₀ first₀ 1
  passing_start = record { some = omega arith; long = refl; marks_kept = refl; first-kept = refl }

  module _ {marks : List ℕ} {first k : ℕ} (p : Passing marks first k) where
    pub passing_end : n ≤ k → (marks ≡ marks_in base (length marks₀) 1 marks₀ (from 1)) × (first ≡ first_in base (length marks₀) 1 marks₀ first₀ (from 1))
    unfolding lists_from marks_in first_in
    passing_end h =
        let none : n - k ≡ 0 = omega arith in
        (sym (p.marks_kept ∙ ap (λ (m : ℕ). marks_in base (length marks₀) k marks (lists_from s ids numbers firsts k m)) none), sym (p.first-kept ∙ ap (λ (m : ℕ). first_in base (length marks₀) k marks first (lists_from s ids numbers firsts k m)) none))

    abbrev here : List ℕ
    here = spent_from s ids firsts (inputs_of numbers k).count (inputs_of numbers k).at.at

    next-list : k < n → from k ≡ here ∷ from (k + 1)
    unfolding lists_from
    next-list low =
        let more : n - k ≡ suc (n - (k + 1)) = omega arith in
        let one : suc k ≡ k + 1 = omega arith in
        ap (lists_from s ids numbers firsts k) more ∙ ap (λ (j : ℕ). here ∷ lists_from s ids numbers firsts j (n - (k + 1))) one

    pub passing_on : {items : Items} {marks' : List ℕ} {again : Bool} {first' : ℕ} → k < n → items ≡ inputs_of numbers k
        → (marks' ≡ mark_all base (length marks) k marks (spent_from s ids firsts items.count items.at.at)) × (again ≡ twice base (length marks) k marks (spent_from s ids firsts items.count items.at.at))
        → length marks' ≡ length marks → first' ≡ lesser_if again k first → Passing marks' first' (k + 1)
    unfolding marks_in first_in
    passing_on {items} {marks'} {again} {first'} low is (new, old) long so =
        let one : suc k ≡ k + 1 = omega arith in
        let new' : marks' ≡ mark_all base (length marks₀) k marks here = new ∙ ap (λ (i : Items). mark_all base (length marks) k marks (spent_from s ids firsts i.count i.at.at)) is ∙ ap (λ (z : ℕ). mark_all base z k marks here) p.long in
        let old' : again ≡ twice base (length marks₀) k marks here = old ∙ ap (λ (i : Items). twice base (length marks) k marks (spent_from s ids firsts i.count i.at.at)) is ∙ ap (λ (z : ℕ). twice base z k marks here) p.long in
        let so' : first' ≡ lesser_if (twice base (length marks₀) k marks here) k first = so ∙ ap (λ (b : Bool). lesser_if b k first) old' in
        record {
          some = omega arith;
          long = long ∙ p.long;
          marks_kept = p.marks_kept ∙ ap (marks_in base (length marks₀) k marks) (next-list low) ∙ ap (λ (j : ℕ). marks_in base (length marks₀) j (mark_all base (length marks₀) k marks here) (from (k + 1))) one ∙ ap (λ (l : List ℕ). marks_in base (length marks₀) (k + 1) l (from (k + 1))) (sym new');
          first-kept = p.first-kept ∙ ap (first_in base (length marks₀) k marks first) (next-list low)
              ∙ ap (λ (j : ℕ). first_in base (length marks₀) j (mark_all base (length marks₀) k marks here) (lesser_if (twice base (length marks₀) k marks here) k first) (from (k + 1))) one
              ∙ ap₂ (λ (l : List ℕ) (f : ℕ). first_in base (length marks₀) (k + 1) l f (from (k + 1))) (sym new') (sym so');
        }
