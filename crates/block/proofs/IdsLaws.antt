-- Laws of a list of ids and of chosen positions.
use mathlib.Core.Path.{◌≡◌, refl, sym, ap, ◌∙◌}
use mathlib.Core.Bool.{Bool, true, false, ◌&&◌, not}
use mathlib.Core.List.{List, [], ◌∷◌}
use Prim.Native.Nat.{ℕ, zero, suc, ◌+◌, ◌-◌, ◌*◌, ◌/◌, ◌≤◌, ◌<◌}
use lib.ListN.{length, get_or, drop, set, length-set, length-drop}
use lib.Seq.{length-take-le, drop-drop, get_or-take, get_or-drop, get_or-set_same, get_or-set_other}
use lib.Dec.{ltb, eqb}
use native.Mathlib.Omega.{arith}
use native.Mathlib.Nat.{sub-zero, mul-zero, add-zero}
use native.Mathlib.Numerals.{add-one}
use Rattle.std.proofs.Math.Logic.{◌↔◌}
use borrow.Author.Tests.{lt-ltb, ltb-true, eqb-true, eqb-false}
use Rattle.format.proofs.Basics.{and-false, one_less}
use Rattle.format.specs.Bytes.{same, hash_at}
use Rattle.format.proofs.BytesLaws.{ne_same, hash-there}
use Rattle.encoding.proofs.Encoding.{part_bytes}
use Rattle.spv.specs.Hashes.{hashes, hashes_of, searching}
use Rattle.spv.proofs.HashesLaws.{hashes-length, hashes-at, search-here, search_on, search-end}
use Rattle.block.proofs.TreeLaws.{Hashes}
use Rattle.block.specs.BlockBump.{all_below, distinct}
use Rattle.block.specs.Ids.{id_at, slot_at}
use Rattle.encoding.specs.Encode.{AllBytes}

pub ids_hashes : (l : List ℕ) → AllBytes l → Hashes (hashes_of l)
unfolding hashes_of Hashes
ids_hashes l h j b =
    let low : j < length l / 32 = rw (hashes-length (length l / 32) l) at b in
    rw (hashes-at (length l / 32) l j low)
    (length-take-le 32 (drop (32 * j) l) (let e = length-drop (32 * j) l in omega arith), part_bytes l (32 * j) 32 h)

-- ---- positions below the list's length

pub below_at : (n : ℕ) (chosen : List ℕ) → all_below n chosen ≡ true → (i : ℕ) → i < length chosen → get_or chosen i 0 < n
unfolding all_below
below_at n [] e i h = absurd (omega arith)
below_at n (x ∷ chosen) e i h = go (ltb x n) refl e (λ m j b. below_at n chosen m j b) i h
  where
    go : (t : Bool) → ltb x n ≡ t → (t && all_below n chosen) ≡ true → (all_below n chosen ≡ true → (j : ℕ) → j < length chosen → get_or chosen j 0 < n)
        → (i : ℕ) → i < suc (length chosen) → get_or (x ∷ chosen) i 0 < n
    go true q m r zero b = ltb-true x n q
    go true q m r (suc i) b = r m i (omega arith)
    go false q m r i b = absurd (let z : ◌≡◌ {A = ℕ} 0 1 = cc in omega arith)

all-below : (n : ℕ) (chosen : List ℕ) → ((i : ℕ) → i < length chosen → get_or chosen i 0 < n) → all_below n chosen ≡ true
unfolding all_below
all-below n [] f = refl
all-below n (x ∷ chosen) f = rw (lt-ltb x n (f 0 (omega arith))) (all-below n chosen (λ i h. f (suc i) (omega arith)))

-- a test of each
pub below_tested : (n : ℕ) (chosen : List ℕ) (t : Bool) → ((t ≡ true) ↔ ((i : ℕ) → i < length chosen → get_or chosen i 0 < n)) → t ≡ all_below n chosen
below_tested n chosen true e = sym (all-below n chosen (e.0 refl))
below_tested n chosen false e = go (all_below n chosen) refl
  where
    go : (t : Bool) → all_below n chosen ≡ t → false ≡ all_below n chosen
    go true f = e.1 (below_at n chosen f) ∙ sym f
    go false f = sym f

-- ---- ids that are all different

pub id-there : (list : List ℕ) (i : ℕ) → i < length list / 32 → hash_at list (32 * i) ≡ id_at list i
id-there list i h = hash-there list (32 * i) (omega arith)

-- an id compared with the one at a position
module _ (list x : List ℕ) (i : ℕ) (more : i < length list / 32) {h : List ℕ} {r : Bool} (e : h ≡ hash_at list (32 * i)) (f : r ≡ same h x) where
  compared : {t : Bool} → r ≡ t → same (id_at list i) x ≡ t
  compared g = ap (λ (y : List ℕ). same y x) (sym (e ∙ id-there list i more)) ∙ sym f ∙ g

  pub found_here : r ≡ true → searching x list i ≡ true
  found_here g = search-here x list i more (compared g)

  pub not-here : r ≡ false → searching x list i ≡ searching x list (i + 1)
  not-here g = search_on x list i more (compared g)

-- an id looked for after its position
pub looked_for : (list : List ℕ) (i : ℕ) → i < length list / 32 → {x : List ℕ} {r : Bool} → x ≡ hash_at list (32 * i) → r ≡ searching x list (i + 1) → r ≡ searching (id_at list i) list (i + 1)
looked_for list i h e f = f ∙ ap (λ (y : List ℕ). searching y list (i + 1)) (e ∙ id-there list i h)

-- what is left of the test from a position on
unfoldable pub distinct_from : List ℕ → ℕ → Bool
distinct_from list i = distinct (hashes (length list / 32 - i) (drop (32 * i) list))

module _ (list : List ℕ) where
  pub distinct-all : distinct_from list 0 ≡ distinct (hashes_of list)
  unfolding distinct_from hashes_of
  distinct-all = simp (sub-zero, mul-zero)

  pub distinct-end : (i : ℕ) → length list / 32 ≤ i → distinct_from list i ≡ true
  unfolding distinct_from hashes distinct
  distinct-end i h = let none : length list / 32 - i ≡ 0 = omega arith in rw none

  distinct-step : (i : ℕ) → i < length list / 32 → distinct_from list i ≡ (not (searching (id_at list i) list (i + 1)) && distinct_from list (i + 1))
  unfolding distinct_from distinct hashes searching
  distinct-step i h =
      let next : 32 * (i + 1) ≡ 32 * i + 32 = omega arith in
      rw (one_less (length list / 32) i h, next) (rw (drop-drop 32 (32 * i) list))

  pub distinct_on : (i : ℕ) → i < length list / 32 → searching (id_at list i) list (i + 1) ≡ false → distinct_from list (i + 1) ≡ true → distinct_from list i ≡ true
  distinct_on i h e f = distinct-step i h ∙ rw (e, f)

  pub distinct-stop : (i : ℕ) → i < length list / 32 → searching (id_at list i) list (i + 1) ≡ true → distinct_from list i ≡ false
  distinct-stop i h e = distinct-step i h ∙ rw e

  -- a fault at one position is a fault of the list
  pub distinct-fails : (i : ℕ) → i ≤ length list / 32 → distinct_from list i ≡ false → distinct (hashes_of list) ≡ false
  distinct-fails zero h e = sym distinct-all ∙ e
  distinct-fails (suc i) h e =
      distinct-fails i (omega arith) (distinct-step i (omega arith) ∙ rw (add-one i, e) (and-false (not (searching (id_at list i) list (suc i)))))

-- ---- slots: equal ids have the same

pub slot-below : (list : List ℕ) (at : ℕ) → slot_at list at < 16384
unfolding slot_at
slot-below list at = omega arith

-- the slots of the ids from a position on are taken
abbrev pub Taken : List ℕ → List ℕ → ℕ → Type 0
Taken list taken i = (m : ℕ) → i ≤ m → m < length list / 32 → get_or taken (slot_at list (32 * m)) 0 ≡ 1

module _ (list : List ℕ) where
  byte_of : (i m : ℕ) → m < 32 → get_or (id_at list i) m 0 ≡ get_or list (32 * i + m) 0
  byte_of i m h = get_or-take 32 (drop (32 * i) list) m 0 h ∙ get_or-drop (32 * i) list m 0

  same_byte : (i j m : ℕ) → m < 32 → id_at list i ≡ id_at list j → get_or list (32 * i + m) 0 ≡ get_or list (32 * j + m) 0
  same_byte i j m h e = sym (byte_of i m h) ∙ ap (λ (l : List ℕ). get_or l m 0) e ∙ byte_of j m h

  slot_same : (i j : ℕ) → id_at list i ≡ id_at list j → slot_at list (32 * i) ≡ slot_at list (32 * j)
  unfolding slot_at
  slot_same i j e =
      let a : get_or list (32 * i) 0 ≡ get_or list (32 * j) 0 = simp add-zero at (same_byte i j 0 (omega arith) e) in
      let b = same_byte i j 1 (omega arith) e in
      let c = same_byte i j 30 (omega arith) e in
      let d = same_byte i j 31 (omega arith) e in
      rw (a, b, c, d)

  none_from : (x : List ℕ) (n i : ℕ) → length list / 32 - i ≡ n → ((m : ℕ) → i ≤ m → m < length list / 32 → same (id_at list m) x ≡ false) → searching x list i ≡ false
  none_from x zero i e f = search-end x list i (omega arith)
  none_from x (suc n) i e f = search_on x list i (omega arith) (f i (omega arith) (omega arith)) ∙ none_from x n (i + 1) (omega arith) (λ m a b. f m (omega arith) b)

  -- an id whose slot is not taken is none of the later ones
  pub slot_free : (taken : List ℕ) (i : ℕ) → Taken list taken (i + 1) → get_or taken (slot_at list (32 * i)) 0 ≡ 0 → searching (id_at list i) list (i + 1) ≡ false
  slot_free taken i t e =
      none_from (id_at list i) (length list / 32 - (i + 1)) (i + 1) refl
      (λ m a b. ne_same (id_at list m) (id_at list i) (λ q. let s = slot_same m i q in let u = t m a b in let z : get_or taken (slot_at list (32 * m)) 0 ≡ 0 = rw s e in omega arith))

  pub taken_start : (taken : List ℕ) (n : ℕ) → n ≡ length list / 32 → Taken list taken n
  taken_start taken n e m a b = absurd (omega arith)

  pub taken_on : (taken : List ℕ) (i : ℕ) → length taken ≡ 16384 → Taken list taken (i + 1) → Taken list (set taken (slot_at list (32 * i)) 1) i
  taken_on taken i l t m a b = go (eqb (slot_at list (32 * m)) (slot_at list (32 * i))) refl (eqb m i) refl
    where
      in_table : slot_at list (32 * i) < length taken
      in_table = omega (arith, slot-below list (32 * i))

      go : (s : Bool) → eqb (slot_at list (32 * m)) (slot_at list (32 * i)) ≡ s → (u : Bool) → eqb m i ≡ u → get_or (set taken (slot_at list (32 * i)) 1) (slot_at list (32 * m)) 0 ≡ 1
      go true e u q = rw (eqb-true (slot_at list (32 * m)) (slot_at list (32 * i)) e) (get_or-set_same taken (slot_at list (32 * i)) 1 0 in_table)
      go false e true q = absurd (eqb-false _ _ e (ap (λ (k : ℕ). slot_at list (32 * k)) (eqb-true m i q)))
      go false e false q =
          let d = eqb-false m i q in
          get_or-set_other taken (slot_at list (32 * i)) (slot_at list (32 * m)) 1 0 (eqb-false _ _ e) ∙ t m (omega arith) b

-- a loop from the last id to the first: those from i on are all different, and their slots are taken
pub record Differing (list taken : List ℕ) (i : ℕ) : Type 0 where
  pub low : i ≤ length list / 32
  pub long : length taken ≡ 16384
  pub slots : Taken list taken i
  pub passed : distinct_from list i ≡ true

pub differing-start : (list taken : List ℕ) → length taken ≡ 16384 → Differing list taken (length list / 32)
differing-start list taken l = record { low = omega arith; long = l; slots = taken_start list taken (length list / 32) refl; passed = distinct-end list (length list / 32) (omega arith) }

pub differing-end : (list taken : List ℕ) (i : ℕ) → i ≤ 0 → Differing list taken i → true ≡ distinct (hashes_of list)
differing-end list taken i e d = let z : i ≡ 0 = omega arith in sym (sym (distinct-all list) ∙ (rw z at d.passed))

module _ (list taken : List ℕ) (n : ℕ) (some : 0 < n) (d : Differing list taken n) {s : ℕ} (is : s ≡ slot_at list (32 * (n - 1))) {r : Bool}
    (told : (get_or taken s 0 ≡ 0 → searching (id_at list (n - 1)) list (n - 1 + 1) ≡ false) → r ≡ searching (id_at list (n - 1)) list (n - 1 + 1)) where
  next : n - 1 + 1 ≡ n
  next = omega arith

  tested : r ≡ searching (id_at list (n - 1)) list (n - 1 + 1)
  tested = told (λ e. slot_free list taken (n - 1) (rw next d.slots) (rw (← is) e))

  pub differing-stop : r ≡ true → false ≡ distinct (hashes_of list)
  differing-stop e =
      let low = d.low in
      sym (distinct-fails list (n - 1) (omega arith) (distinct-stop list (n - 1) (omega arith) (sym tested ∙ e)))

  pub differing_on : r ≡ false → Differing list (set taken s 1) (n - 1)
  differing_on e = record {
    low = let low = d.low in omega arith;
    long = length-set taken s 1 ∙ d.long;
    slots = rw is (taken_on list taken (n - 1) d.long (rw next d.slots));
    passed = let low = d.low in distinct_on list (n - 1) (omega arith) (sym tested ∙ e) (rw next d.passed);
  }
