-- Laws of the parents that the code finds.
use Prim.Native.Nat.{ℕ, ◌+◌, ◌*◌, ◌/◌, ◌%◌, ◌-◌, ◌<◌, ◌≤◌}
use mathlib.Core.Path.{◌≡◌, refl, sym, ap, ◌∙◌}
use mathlib.Core.Bool.{Bool, true, false, ◌&&◌, ◌||◌, or-false}
use mathlib.Core.List.{List, [], ◌∷◌}
use native.Mathlib.Decide.{dec_lt}
use native.Mathlib.Numerals.{add-one}
use native.Mathlib.Omega.{arith}
use lib.Dec.{eqb, ltb}
use lib.ListN.{length, get_or, set, length-set}
use lib.Seq.{get_or-set_same, get_or-set_other}
use borrow.Author.Tests.{lt-ltb, le-ltb, eqb-true, eqb-false, eq-eqb, ne_eqb}
use Rattle.format.specs.declared.transaction.Input.{Input}
use Rattle.format.specs.declared.transaction.TxHead.{TxHead}
use Rattle.format.proofs.Basics.{one_less}
use Rattle.format.specs.Parse.{pick, each, ok, fault}
use Rattle.format.specs.Bytes.{same, hash_at}
use Rattle.format.proofs.BytesLaws.{same_eq, same_ne, eq_same, ne_same}
use Rattle.format.specs.Transaction.{input_field, tx_field, tx_head_of}
use Rattle.spv.specs.Hashes.{among, hashes, index_of, Distinct}
use Rattle.spv.proofs.HashesLaws.{hashes-length}
use Rattle.order.specs.Bits.{bit, with_bit}
use Rattle.order.proofs.BitsLaws.{bit_with}
use Rattle.std.specs.Prelude.{None, Some}
use Rattle.order.specs.Code.{depends_in, found}
use Rattle.order.proofs.IdsLaws.{index-here, index-told}
use Rattle.order.specs.Parents.{parents_from, with_parent, put_parent, named, all_named, filled_from}

-- ---- one more parent

pub with_length_lem : (m : List ℕ) (i j : ℕ) → length (with_parent m i j) ≡ length m
unfolding with_parent
with_length_lem m i j = length-set m (32 * i + j / 8) (with_bit (j % 8) (get_or m (32 * i + j / 8) 0))

or_and-false : (a b : Bool) → (a || (false && b)) ≡ a
or_and-false true b = refl
or_and-false false b = refl

with_parent_lem : (m : List ℕ) (i j k q : ℕ) → length m ≡ 8192 → i < 256 → j < 256 → q < 256 → depends_in (with_parent m i j) k q ≡ (depends_in m k q || (eqb k i && eqb q j))
unfolding with_parent depends_in
with_parent_lem m i j k q size hi hj hq = go (eqb (32 * k + q / 8) (32 * i + j / 8)) refl
  where
    old : ℕ
    old = get_or m (32 * i + j / 8) 0

    row : eqb k i ≡ true → 32 * k + q / 8 ≡ 32 * i + j / 8 → eqb (q % 8) (j % 8) ≡ eqb q j
    row e h = let same_row : k ≡ i = eqb-true k i e in by (eqb q j) refl (omega arith)
      where
        by : (t : Bool) → eqb q j ≡ t → q / 8 ≡ j / 8 → eqb (q % 8) (j % 8) ≡ eqb q j
        by true e d = let z : q ≡ j = eqb-true q j e in eq-eqb (q % 8) (j % 8) (ap (λ (x : ℕ). x % 8) z) ∙ sym e
        by false e d = let ne = eqb-false q j e in ne_eqb (q % 8) (j % 8) (λ z. ne (omega arith)) ∙ sym e

    go : (t : Bool) → eqb (32 * k + q / 8) (32 * i + j / 8) ≡ t
        → bit (q % 8) (get_or (set m (32 * i + j / 8) (with_bit (j % 8) old)) (32 * k + q / 8) 0) ≡ (bit (q % 8) (get_or m (32 * k + q / 8) 0) || (eqb k i && eqb q j))
    go true e =
        let h : 32 * k + q / 8 ≡ 32 * i + j / 8 = eqb-true (32 * k + q / 8) (32 * i + j / 8) e in
        let z : k ≡ i = omega arith in
        let t : eqb k i ≡ true = eq-eqb k i z in
        rw (h, get_or-set_same m (32 * i + j / 8) (with_bit (j % 8) old) 0 (omega arith), t) (bit_with (j % 8) (q % 8) old ∙ ap (λ (b : Bool). bit (q % 8) old || b) (row t h))
    go false e =
        let ne = eqb-false (32 * k + q / 8) (32 * i + j / 8) e in
        rw (get_or-set_other m (32 * i + j / 8) (32 * k + q / 8) (with_bit (j % 8) old) 0 ne) (apart (eqb k i) refl (eqb q j) refl ne)
      where
        apart : (a : Bool) → eqb k i ≡ a → (b : Bool) → eqb q j ≡ b → (32 * k + q / 8 ≡ 32 * i + j / 8 → ⊥)
            → bit (q % 8) (get_or m (32 * k + q / 8) 0) ≡ (bit (q % 8) (get_or m (32 * k + q / 8) 0) || (eqb k i && eqb q j))
        apart true ea true eb ne = let x : k ≡ i = eqb-true k i ea in let y : q ≡ j = eqb-true q j eb in absurd (ne (ap (λ (z : ℕ). 32 * z + q / 8) x ∙ ap (λ (z : ℕ). 32 * i + z / 8) y))
        apart true ea false eb ne = rw (ea, eb) (sym (or-false (bit (q % 8) (get_or m (32 * k + q / 8) 0))))
        apart false ea b eb ne = rw ea (sym (or-false (bit (q % 8) (get_or m (32 * k + q / 8) 0))))

-- ---- an id, if it is among them

module _ (ids : List (List ℕ)) (few : length ids ≤ 256) where
  pub named-length : (i : ℕ) (m x : List ℕ) → length (named ids i m x) ≡ length m
  unfolding named put_parent
  named-length i m x = go (ltb (index_of x ids) (length ids))
    where
      go : (t : Bool) → length (pick t (with_parent m i (index_of x ids)) m) ≡ length m
      go true = with_length_lem m i (index_of x ids)
      go false = refl

  pub all-named-length : (i : ℕ) (m : List ℕ) (l : List (List ℕ)) → length (all_named ids i m l) ≡ length m
  unfolding all_named
  all-named-length i m [] = refl
  all-named-length i m (x ∷ l) = all-named-length i (named ids i m x) l ∙ named-length i m x

  module _ (different : Distinct ids) where
    -- ids that differ: the one at q is found at q
    found_at : (q : ℕ) (x : List ℕ) → q < length ids → x ≡ get_or ids q [] → index_of x ids ≡ q
    found_at q x h e = index-here x ids q h (λ k low. ne_same (get_or ids k []) x (λ z. different k q low h (z ∙ e))) (eq_same (get_or ids q []) x (sym e))

    same-found : (q : ℕ) (x : List ℕ) → q < length ids → index_of x ids < length ids → eqb q (index_of x ids) ≡ same x (get_or ids q [])
    same-found q x h low = go (same x (get_or ids q [])) refl
      where
        go : (t : Bool) → same x (get_or ids q []) ≡ t → eqb q (index_of x ids) ≡ same x (get_or ids q [])
        go true e = eq-eqb q (index_of x ids) (sym (found_at q x h (same_eq x (get_or ids q []) e))) ∙ sym e
        go false e = ne_eqb q (index_of x ids) (λ z. same_ne x (get_or ids q []) e (sym (ap (λ (y : ℕ). get_or ids y []) z ∙ index-told x ids low))) ∙ sym e

    not_found : (q : ℕ) (x : List ℕ) → q < length ids → length ids ≤ index_of x ids → same x (get_or ids q []) ≡ false
    not_found q x h past = ne_same x (get_or ids q []) (λ e. let z : index_of x ids ≡ q = found_at q x h e in absurd (omega arith))

    named-told : (i : ℕ) (m x : List ℕ) (k q : ℕ) → length m ≡ 8192 → i < 256 → q < length ids
        → depends_in (named ids i m x) k q ≡ (depends_in m k q || (eqb k i && same x (get_or ids q [])))
    unfolding named put_parent
    named-told i m x k q size hi hq = go (dec_lt (index_of x ids) (length ids))
      where
        go : Dec (index_of x ids < length ids) → depends_in (pick (ltb (index_of x ids) (length ids)) (with_parent m i (index_of x ids)) m) k q ≡ (depends_in m k q || (eqb k i && same x (get_or ids q [])))
        go (yes h) =
            rw (lt-ltb (index_of x ids) (length ids) h)
            (with_parent_lem m i (index_of x ids) k q size hi (omega arith) (omega arith) ∙ ap (λ (t : Bool). depends_in m k q || (eqb k i && t)) (same-found q x hq h))
        go (no h) =
            let past : length ids ≤ index_of x ids = omega arith in
            rw (le-ltb (index_of x ids) (length ids) past, not_found q x hq past) (none (depends_in m k q) (eqb k i))
          where
            none : (a b : Bool) → a ≡ (a || (b && false))
            none true b = refl
            none false true = refl
            none false false = refl

    pub all-named-told : (i : ℕ) (m : List ℕ) (l : List (List ℕ)) (k q : ℕ) → length m ≡ 8192 → i < 256 → q < length ids
        → depends_in (all_named ids i m l) k q ≡ (depends_in m k q || (eqb k i && among (get_or ids q []) l))
    unfolding all_named among
    all-named-told i m [] k q size hi hq = none (depends_in m k q) (eqb k i)
      where
        none : (a b : Bool) → a ≡ (a || (b && false))
        none true b = refl
        none false true = refl
        none false false = refl
    all-named-told i m (x ∷ l) k q size hi hq =
        all-named-told i (named ids i m x) l k q (named-length i m x ∙ size) hi hq
        ∙ ap (λ (t : Bool). t || (eqb k i && among (get_or ids q []) l)) (named-told i m x k q size hi hq)
        ∙ both (depends_in m k q) (eqb k i) (same x (get_or ids q [])) (among (get_or ids q []) l)
      where
        both : (a b c d : Bool) → ((a || (b && c)) || (b && d)) ≡ (a || (b && (c || d)))
        both true b c d = refl
        both false false c d = refl
        both false true true d = refl
        both false true false d = refl

-- ---- put_parent

pub put_made : (m : List ℕ) (i j : ℕ) {x : ℕ} → x ≡ with_bit (j % 8) (get_or m (32 * i + j / 8) 0) → set m (32 * i + j / 8) x ≡ with_parent m i j
unfolding with_parent
put_made m i j e = ap (set m (32 * i + j / 8)) e

pub put_found : (n : ℕ) (m : List ℕ) (i r : ℕ) {j : ℕ} → Some j ≡ found n r → with_parent m i j ≡ put_parent n m i r
unfolding put_parent found
put_found n m i r {j} = go (ltb r n)
  where
    go : (t : Bool) → Some j ≡ pick t (Some r) None → with_parent m i j ≡ pick t (with_parent m i r) m
    go true e = let z : j ≡ r = cc in rw z
    go false e = cc

pub put-none : (n : ℕ) (m : List ℕ) (i r : ℕ) → None ≡ found n r → m ≡ put_parent n m i r
unfolding put_parent found
put-none n m i r = go (ltb r n)
  where
    go : (t : Bool) → None ≡ pick t (Some r) None → m ≡ pick t (with_parent m i r) m
    go true e = cc
    go false e = refl

pub put-length : (n : ℕ) (m : List ℕ) (i j : ℕ) → length (put_parent n m i j) ≡ length m
unfolding put_parent
put-length n m i j = go (ltb j n)
  where
    go : (t : Bool) → length (pick t (with_parent m i j) m) ≡ length m
    go true = with_length_lem m i j
    go false = refl

-- ---- put_parents: a loop that has passed k of n inputs of the i-th transaction

module _ (s bytes : List ℕ) (c i n k at : ℕ) (m : List ℕ) where
  pub putting_refused : {e q : ℕ} → k < n → input_field s at ≡ fault e q → all_named (hashes c bytes) i m (parents_from s (n - k) at) ≡ m
  unfolding parents_from all_named
  putting_refused low e = rw (one_less n k low) (rw e)

  pub putting_end : n ≤ k → all_named (hashes c bytes) i m (parents_from s (n - k) at) ≡ m
  unfolding parents_from all_named
  putting_end past = let none : n - k ≡ 0 = omega arith in rw none

  pub putting_on : {input : Input} {q : ℕ} {x m' : List ℕ} → k < n → input_field s at ≡ ok input q → x ≡ hash_at s input.parent
      → m' ≡ put_parent c m i (index_of x (hashes c bytes)) → all_named (hashes c bytes) i m (parents_from s (n - k) at) ≡ all_named (hashes c bytes) i m' (parents_from s (n - (k + 1)) q)
  unfolding parents_from all_named named
  putting_on {input} {q} {x} {m'} low e is new =
      rw (one_less n k low) (rw e (ap (λ (y : List ℕ). all_named (hashes c bytes) i y (parents_from s (n - (k + 1)) q))
      (sym (new ∙ ap (λ (y : List ℕ). put_parent c m i (index_of y (hashes c bytes))) is ∙ ap (λ (y : ℕ). put_parent y m i (index_of (hash_at s input.parent) (hashes c bytes))) (sym (hashes-length c bytes))))))

-- ---- fill_parents: a loop that has passed i of n transactions

module _ (s : List ℕ) (ids : List (List ℕ)) (n i at : ℕ) (m : List ℕ) where
  pub filling-refused : {e q : ℕ} → i < n → each tx_head_of (tx_field s at) ≡ fault e q → filled_from s ids (n - i) i at m ≡ m
  unfolding filled_from
  filling-refused low e = rw (one_less n i low) (rw e)

  pub filling-end : n ≤ i → filled_from s ids (n - i) i at m ≡ m
  unfolding filled_from
  filling-end past = let none : n - i ≡ 0 = omega arith in rw none

  pub filling_on : {t : TxHead} {q : ℕ} {m' : List ℕ} → i < n → each tx_head_of (tx_field s at) ≡ ok t q → m' ≡ all_named ids i m (parents_from s t.inputs.count t.inputs.at.at)
      → filled_from s ids (n - i) i at m ≡ filled_from s ids (n - (i + 1)) (i + 1) q m'
  unfolding filled_from
  filling_on low e new = rw (one_less n i low) (rw (e, new, add-one i))
