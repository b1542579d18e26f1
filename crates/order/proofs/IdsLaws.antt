-- Laws of searching among the ids of a set.
use Prim.Native.Nat.{ℕ, zero, suc, ◌+◌, ◌*◌, ◌<◌, ◌≤◌}
use mathlib.Core.Path.{◌≡◌, refl, sym, ap, ◌∙◌}
use mathlib.Core.Bool.{Bool, true, false, not, ◌&&◌}
use mathlib.Core.List.{List, [], ◌∷◌}
use native.Mathlib.Decide.{dec_lt}
use native.Mathlib.Omega.{arith}
use lib.Dec.{ltb}
use lib.ListN.{length, get_or, take, drop, set, length-set}
use lib.Seq.{length-take-le, get_or-take, take-suc, drop-cons, take-length, drop-length, get_or-set_same, get_or-set_other}
use borrow.Author.Tests.{lt-ltb, le-ltb, ltb-true, le-leb}
use Rattle.format.specs.Parse.{pick}
use Rattle.format.specs.Bytes.{same, hash_at}
use Rattle.format.proofs.BytesLaws.{same_eq, same_ne, ne_same}
use Rattle.spv.specs.Hashes.{among, hashes, index_of, Distinct, Among}
use Rattle.spv.proofs.HashesLaws.{hashes-length, hashes-at, among-told, told-among}
use Rattle.spv.proofs.TestLaws.{clash, and_left, and_right}
use Rattle.order.specs.Set.{new_from}
use Rattle.std.specs.Prelude.{Option, None, Some}
use Rattle.std.specs.Option.{is_some}
use Rattle.order.specs.Ids.{key_of, Keys}
use Rattle.order.specs.Code.{found}

hashes_fewer : (i n : ℕ) (l : List ℕ) → i ≤ n → take i (hashes n l) ≡ hashes i l
unfolding hashes
hashes_fewer zero n l h = refl
hashes_fewer (suc i) zero l h = absurd (omega arith)
hashes_fewer (suc i) (suc n) l h = ap (take 32 l ∷◌) (hashes_fewer i n (drop 32 l) (omega arith))

-- ---- a search that has passed i of them

-- none of the first i is x
abbrev pub Passed : List ℕ → List (List ℕ) → ℕ → Type 0
Passed x l i = (k : ℕ) → k < i → same (get_or l k []) x ≡ false

pub passed_start : (x : List ℕ) (l : List (List ℕ)) → Passed x l 0
passed_start x l k h = absurd (omega arith)

pub passed_on : (x : List ℕ) (l : List (List ℕ)) (i : ℕ) → Passed x l i → same (get_or l i []) x ≡ false → Passed x l (suc i)
passed_on x l i p e k h = by (dec_lt k i)
  where
    by : Dec (k < i) → same (get_or l k []) x ≡ false
    by (yes low) = p k low
    by (no low) = let q : k ≡ i = omega arith in rw q e

pub index-here : (x : List ℕ) (l : List (List ℕ)) (i : ℕ) → i < length l → Passed x l i → same (get_or l i []) x ≡ true → index_of x l ≡ i
unfolding index_of
index-here x [] i h p e = absurd (omega arith)
index-here x (y ∷ l) zero h p e = rw e
index-here x (y ∷ l) (suc i) h p e = rw (p 0 (omega arith)) (ap suc (index-here x l i (omega arith) (λ k b. p (suc k) (omega arith)) e))

pub index-end : (x : List ℕ) (l : List (List ℕ)) → Passed x l (length l) → index_of x l ≡ length l
unfolding index_of
index-end x [] p = refl
index-end x (y ∷ l) p = rw (p 0 (omega arith)) (ap suc (index-end x l (λ k b. p (suc k) (omega arith))))

-- what is found is one of them
pub found-below : (n r : ℕ) {j : ℕ} → Some j ≡ found n r → j < n
unfolding found
found-below n r {j} = go (ltb r n) refl
  where
    go : (t : Bool) → ltb r n ≡ t → Some j ≡ pick t (Some r) None → j < n
    go true q e = let z : j ≡ r = cc in let l = ltb-true r n q in omega arith
    go false q e = cc

-- ids whose first eight bytes differ are different
pub keys_differ : (a x : List ℕ) → (key_of a ≡ key_of x → ⊥) → same a x ≡ false
keys_differ a x ne = ne_same a x (λ e. ne (ap key_of e))

-- ---- what is found

pub index-told : (x : List ℕ) (l : List (List ℕ)) → index_of x l < length l → get_or l (index_of x l) [] ≡ x
unfolding index_of
index-told x [] h = absurd (omega arith)
index-told x (y ∷ l) h = go (same y x) refl h (index-told x l)
  where
    go : (t : Bool) → same y x ≡ t → pick t 0 (suc (index_of x l)) < suc (length l) → (index_of x l < length l → get_or l (index_of x l) [] ≡ x) → get_or (y ∷ l) (pick t 0 (suc (index_of x l))) [] ≡ x
    go true e h f = same_eq y x e
    go false e h f = f (omega arith)

pub index-passed : (x : List ℕ) (l : List (List ℕ)) (k : ℕ) → k < index_of x l → same (get_or l k []) x ≡ false
unfolding index_of
index-passed x [] k h = absurd (omega arith)
index-passed x (y ∷ l) k h = go (same y x) refl k h (index-passed x l)
  where
    go : (t : Bool) → same y x ≡ t → (k : ℕ) → k < pick t 0 (suc (index_of x l)) → ((k : ℕ) → k < index_of x l → same (get_or l k []) x ≡ false) → same (get_or (y ∷ l) k []) x ≡ false
    go true e k h f = absurd (omega arith)
    go false e zero h f = e
    go false e (suc k) h f = f k (omega arith)

-- one is among them exactly when it is found below their count
pub index-among : (x : List ℕ) (l : List (List ℕ)) → among x l ≡ ltb (index_of x l) (length l)
index-among x l = go (dec_lt (index_of x l) (length l))
  where
    not_there : length l ≤ index_of x l → (t : Bool) → among x l ≡ t → among x l ≡ false
    not_there h true e = let w = among-told x l e in absurd (same_ne (get_or l w.0 []) x (index-passed x l w.0 (omega (arith, h, w.1))) w.2)
    not_there h false e = e

    go : Dec (index_of x l < length l) → among x l ≡ ltb (index_of x l) (length l)
    go (yes h) = told-among x l (index_of x l, h, index-told x l h) ∙ sym (lt-ltb (index_of x l) (length l) h)
    go (no h) = let b : length l ≤ index_of x l = omega arith in not_there b (among x l) refl ∙ sym (le-ltb (index_of x l) (length l) b)

-- ---- 19

-- what is left from i on is what was asked
module _ (l : List (List ℕ)) where
  abbrev pub Newly : ℕ → Type 0
  Newly i = new_from (take i l) (drop i l) ≡ new_from [] l

  pub newly_start : Newly 0
  newly_start = refl

  new_turn : (i : ℕ) → i < length l → new_from (take i l) (drop i l) ≡ (not (among (get_or l i []) (take i l)) && new_from (take (suc i) l) (drop (suc i) l))
  new_turn i h = rw (drop-cons l i [] h, take-suc l i [] h) (unfold new_from in refl)

  pub newly_on : (i : ℕ) → i < length l → Newly i → among (get_or l i []) (take i l) ≡ false → Newly (suc i)
  newly_on i h n e = sym (new_turn i h ∙ ap (λ (t : Bool). not t && new_from (take (suc i) l) (drop (suc i) l)) e) ∙ n

  pub newly_fails : (i : ℕ) → i < length l → Newly i → among (get_or l i []) (take i l) ≡ true → new_from [] l ≡ false
  newly_fails i h n e = sym n ∙ new_turn i h ∙ ap (λ (t : Bool). not t && new_from (take (suc i) l) (drop (suc i) l)) e

  pub newly_ends : (i : ℕ) → i ≡ length l → Newly i → new_from [] l ≡ true
  newly_ends i h n = sym n ∙ done i h
    where
      done : (i : ℕ) → i ≡ length l → new_from (take i l) (drop i l) ≡ true
      done i h = rw (h, take-length l, drop-length l) (unfold new_from in refl)

  -- ids that are all new differ
  new_on : new_from [] l ≡ true → (k : ℕ) → k ≤ length l → new_from (take k l) (drop k l) ≡ true
  new_on e zero h = e
  new_on e (suc k) h = and_right (not (among (get_or l k []) (take k l))) (new_from (take (suc k) l) (drop (suc k) l)) (sym (new_turn k (omega arith)) ∙ new_on e k (omega arith))

  new_at : new_from [] l ≡ true → (k : ℕ) → k < length l → among (get_or l k []) (take k l) ≡ false
  new_at e k h = off (among (get_or l k []) (take k l)) (and_left (not (among (get_or l k []) (take k l))) (new_from (take (suc k) l) (drop (suc k) l)) (sym (new_turn k h) ∙ new_on e k (omega arith)))
    where
      off : (t : Bool) → not t ≡ true → t ≡ false
      off true q = clash false q refl
      off false q = refl

  pub new_different : new_from [] l ≡ true → Distinct l
  new_different e j k low h same_id =
      let few = length-take-le k l (omega arith) in
      clash (among (get_or l k []) (take k l)) (told-among (get_or l k []) (take k l) (j, omega arith, get_or-take k l j [] low ∙ same_id)) (new_at e k h)

-- ---- ids end to end

pub id-inside : (n : ℕ) (ids : List ℕ) (k : ℕ) → 32 * n ≤ length ids → k < n → hash_at ids (32 * k) ≡ get_or (hashes n ids) k []
unfolding hash_at
id-inside n ids k h low = rw (le-leb (32 * k + 32) (length ids) (omega arith)) (sym (hashes-at n ids k low))

pub keys_start : (ids keys : List ℕ) → length keys ≡ 256 → Keys ids keys 0
keys_start ids keys size = (size, λ k h. absurd (omega arith))

pub keys_on : (ids keys : List ℕ) (k v : ℕ) → Keys ids keys k → k < 256 → v ≡ key_of (hash_at ids (32 * k)) → Keys ids (set keys k v) (suc k)
keys_on ids keys k v (size, f) low e = (length-set keys k v ∙ size, λ j h. by j (dec_lt j k) h)
  where
    by : (j : ℕ) → Dec (j < k) → j < suc k → get_or (set keys k v) j 0 ≡ key_of (hash_at ids (32 * j))
    by j (yes below) h = get_or-set_other keys k j v 0 (λ z. absurd (omega arith)) ∙ f j below
    by j (no below) h = let q : j ≡ k = omega arith in rw q (get_or-set_same keys k v 0 (omega arith) ∙ e)

pub keys_fewer : (ids keys : List ℕ) (i n : ℕ) → i ≤ n → Keys ids keys n → Keys ids keys i
keys_fewer ids keys i n h (size, f) = (size, λ k low. f k (omega arith))

-- a search that has passed i of n ids
module _ (x ids : List ℕ) (n : ℕ) (room : 32 * n ≤ length ids) where
  pub search_on : (i : ℕ) → i < n → Passed x (hashes n ids) i → same (hash_at ids (32 * i)) x ≡ false → Passed x (hashes n ids) (suc i)
  search_on i low p e = passed_on x (hashes n ids) i p (ap (λ (y : List ℕ). same y x) (sym (id-inside n ids i room low)) ∙ e)

  pub search-here : (i : ℕ) → i < n → Passed x (hashes n ids) i → same (hash_at ids (32 * i)) x ≡ true → Some i ≡ found n (index_of x (hashes n ids))
  unfolding found
  search-here i low p e =
      let z : index_of x (hashes n ids) ≡ i = index-here x (hashes n ids) i (rw (hashes-length n ids) low) p (ap (λ (y : List ℕ). same y x) (sym (id-inside n ids i room low)) ∙ e) in
      rw (z, lt-ltb i n low)

  pub search-end : (i : ℕ) → i ≡ n → Passed x (hashes n ids) i → None ≡ found n (index_of x (hashes n ids))
  unfolding found
  search-end i h p =
      let e = hashes-length n ids in
      let z : index_of x (hashes n ids) ≡ n = index-end x (hashes n ids) (λ k low. p k (omega arith)) ∙ e in
      rw (z, le-ltb n n (omega arith))

-- the i-th id against the ids before it
module _ (ids : List ℕ) (n i : ℕ) (room : 32 * n ≤ length ids) (low : i < n) where
  here : among (get_or (hashes n ids) i []) (take i (hashes n ids)) ≡ ltb (index_of (hash_at ids (32 * i)) (hashes i ids)) i
  here =
      ap (λ (y : List ℕ). among y (take i (hashes n ids))) (sym (id-inside n ids i room low))
      ∙ ap (among (hash_at ids (32 * i))) (hashes_fewer i n ids (omega arith))
      ∙ index-among (hash_at ids (32 * i)) (hashes i ids)
      ∙ ap (λ (k : ℕ). ltb (index_of (hash_at ids (32 * i)) (hashes i ids)) k) (hashes-length i ids)

  pub new_here : {o : Option ℕ} → o ≡ found i (index_of (hash_at ids (32 * i)) (hashes i ids)) → among (get_or (hashes n ids) i []) (take i (hashes n ids)) ≡ is_some o
  unfolding found
  new_here e = here ∙ go (ltb (index_of (hash_at ids (32 * i)) (hashes i ids)) i) ∙ ap is_some (sym e)
    where
      go : (t : Bool) → t ≡ is_some (pick t (Some (index_of (hash_at ids (32 * i)) (hashes i ids))) None)
      go true = refl
      go false = refl

-- ids that differ are all new
pub different_new : (l : List (List ℕ)) → Distinct l → new_from [] l ≡ true
different_new l d = on (length l) 0 (omega arith)
  where
    fresh : (k : ℕ) → k < length l → (t : Bool) → among (get_or l k []) (take k l) ≡ t → among (get_or l k []) (take k l) ≡ false
    fresh k h true e = absurd (again (among-told (get_or l k []) (take k l) e))
      where
        again : Among (get_or l k []) (take k l) → ⊥
        again (j, b, z) = let few = length-take-le k l (omega arith) in let low : j < k = omega (arith, b) in d j k low h (sym (get_or-take k l j [] low) ∙ z)
    fresh k h false e = e

    left : ℕ → ℕ → Type 0
    left n k = new_from (take k l) (drop k l) ≡ true

    on : (n k : ℕ) → k + n ≡ length l → new_from (take k l) (drop k l) ≡ true
    on zero k h = let z : k ≡ length l = omega arith in rw (z, take-length l, drop-length l) (unfold new_from in refl)
    on (suc n) k h = new_turn l k (omega arith) ∙ ap (λ (t : Bool). not t && new_from (take (suc k) l) (drop (suc k) l)) (fresh k (omega arith) (among (get_or l k []) (take k l)) refl) ∙ on n (suc k) (omega arith)
