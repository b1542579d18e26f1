-- A set that was opened: its transactions, and the matrix of their parents.
use Prim.Native.Nat.{ℕ, zero, suc, ◌+◌, ◌*◌, ◌/◌, ◌%◌, ◌<◌, ◌≤◌}
use mathlib.Core.Path.{◌≡◌, refl, sym, ap, ◌∙◌}
use mathlib.Core.Bool.{Bool, true, false, ◌&&◌, ◌||◌, or-false}
use mathlib.Core.List.{List, [], ◌∷◌, map}
use Rattle.std.specs.Prelude.{Option, None, Some}
use native.Mathlib.Omega.{arith}
use lib.Dec.{leb, ltb}
use lib.ListN.{length, get_or, replicate, length-replicate, get_or-replicate, length-map}
use borrow.Author.Tests.{leb-true, eq-eqb, ne_eqb, le-leb, lt-leb}
use Rattle.format.specs.declared.transaction.Input.{Input}
use Rattle.format.specs.Parse.{Parse, ok, fault, pick, each, many, times}
use Rattle.format.proofs.ParseLaws.{many-told}
use Rattle.format.specs.Bytes.{hash_at}
use Rattle.format.specs.Transaction.{Transaction, input_field, tx_field}
use Rattle.format.proofs.TransactionLaws.{TxRead, tx_told}
use Rattle.format.specs.Id.{txid}
use Rattle.format.specs.Refusals.{SAME_TX, NO_ROOM, NO_ORDER, BAD_ORDER, MAX_INPUT, MAX_TXS}
use Rattle.spv.specs.declared.rejection.Rejection.{Rejection}
use Rattle.spv.specs.Result.{carrying}
use Rattle.spv.specs.Hashes.{among, hashes, Distinct}
use Rattle.std.specs.Prelude.{Ok, Err}
use Rattle.order.specs.declared.answer.SetRefusal.{SetRefusal}
use Rattle.spv.proofs.TestLaws.{clash}
use Rattle.order.specs.Bits.{bit}
use Rattle.order.specs.Order.{check, ours}
use Rattle.order.proofs.OrderSame.{check-same, ours_same}
use Rattle.std.specs.Option.{is_some}
use Rattle.order.specs.Code.{depends_in}
use Rattle.order.proofs.IdsLaws.{new_different}
use Rattle.order.specs.Parents.{parents_from, all_named, filled_from}
use Rattle.order.proofs.ParentsLaws.{all-named-length, all-named-told}
use Rattle.order.specs.Set.{SetResult, accepted, refused, refusing, follow, after, before, read_from, read_set, Handed, no_one, handed_in, id_of, new_from, new_ids, id_at, parents_at, parent_in, passes, ours_of, proposed, ordering, checking, order_set, check_set, set_refusal, ordered_of, row_after}
use Rattle.order.specs.SetRead.{ids_of, differing, opened}

-- ---- reading, one transaction at a time

pub record Turn (s : List ℕ) (n k at : ℕ) (l : List Transaction) : Type 0 where
  pub first : Transaction
  pub next : ℕ
  pub rest : List Transaction
  pub read : tx_field s at ≡ ok first next
  pub goes : read_from s n (suc k) next ≡ accepted rest
  pub whole : first ∷ rest ≡ l

pub turn-told : (s : List ℕ) (n k at : ℕ) (l : List Transaction) → read_from s (suc n) k at ≡ accepted l → Turn s n k at l
unfolding read_from before
turn-told s n k at l e = go (tx_field s at) refl e
  where
    put : (t : Transaction) (next : ℕ) → tx_field s at ≡ ok t next → (r : SetResult (List Transaction)) → read_from s n (suc k) next ≡ r → before t r ≡ accepted l → Turn s n k at l
    put t next h (accepted rest) m f = record { first = t; next = next; rest = rest; read = h; goes = m; whole = cc }
    put t next h (refused why j) m f = absurd (let z : ◌≡◌ {A = ℕ} 0 1 = cc in omega arith)

    go : (p : Parse Transaction) → tx_field s at ≡ p → after p k (λ t next. before t (read_from s n (suc k) next)) ≡ accepted l → Turn s n k at l
    go (ok t next) h f = put t next h (read_from s n (suc k) next) refl f
    go (fault number place) h f = absurd (let z : ◌≡◌ {A = ℕ} 0 1 = cc in omega arith)

pub read_length : (s : List ℕ) (n k at : ℕ) (l : List Transaction) → read_from s n k at ≡ accepted l → length l ≡ n
read_length s zero k at l e = go (ltb at (length s)) (unfold read_from in e)
  where
    go : (t : Bool) → pick t (refused (carrying 9 at) k) (accepted []) ≡ accepted l → length l ≡ 0
    go true f = absurd (let z : ◌≡◌ {A = ℕ} 0 1 = cc in omega arith)
    go false f = let q : [] ≡ l = cc in ap length (sym q)
read_length s (suc n) k at l e = let w = turn-told s n k at l e in sym (ap length w.whole) ∙ ap suc (read_length s n (suc k) w.next w.rest w.goes)

-- ---- the parents of one transaction

parents-read : (s : List ℕ) (n at : ℕ) (l : List Input) (q : ℕ) → times input_field n s at ≡ ok l q → parents_from s n at ≡ map (λ (i : Input). hash_at s i.parent) l
unfolding parents_from many
parents-read s zero at l q e = none l e
  where
    none : (l : List Input) → times input_field 0 s at ≡ ok l q → [] ≡ map (λ (i : Input). hash_at s i.parent) l
    none l e = let z : [] ≡ l = cc in rw (← z)
parents-read s (suc n) at l q e =
    let w = many-told {S = Unit {0}} (λ _. input_field) (λ u _. u) n tt s at e in
    step w.0 w.1 w.2 w.3 (parents-read s n w.1 w.2 q w.4) w.5
  where
    step : (i : Input) (r : ℕ) (rest : List Input) → input_field s at ≡ ok i r → parents_from s n r ≡ map (λ (i : Input). hash_at s i.parent) rest → i ∷ rest ≡ l
        → parents_from s (suc n) at ≡ map (λ (i : Input). hash_at s i.parent) l
    step i r rest h f g = rw (← g) (unfold parents_from in rw (h, f))

-- ---- the matrix

module _ (s : List ℕ) (ids : List (List ℕ)) (few : length ids ≤ 256) (different : Distinct ids) where
  fill-turn : (n i at : ℕ) (m : List ℕ) (t : Transaction) (next : ℕ) → tx_field s at ≡ ok t next
      → filled_from s ids (suc n) i at m ≡ filled_from s ids n (suc i) next (all_named ids i m (handed_in s t).parents)
  fill-turn n i at m t next e = made (tx_told s at e)
    where
      made : TxRead false s at next t → filled_from s ids (suc n) i at m ≡ filled_from s ids n (suc i) next (all_named ids i m (handed_in s t).parents)
      made r = unfold filled_from each in rw e (ap (λ (x : List (List ℕ)). filled_from s ids n (suc i) next (all_named ids i m x)) (found r.inputs_end r.inputs_read))
        where
          found : (q : ℕ) → times input_field (length t.inputs) s t.inputs_at ≡ ok t.inputs q → parents_from s (length t.inputs) t.inputs_at ≡ (handed_in s t).parents
          found q h = unfold handed_in in parents-read s (length t.inputs) t.inputs_at t.inputs q h

  filled-before : (n i at : ℕ) (m : List ℕ) (l : List Transaction) → read_from s n i at ≡ accepted l → length m ≡ 8192 → i + n ≤ 256 → (k q : ℕ) → k < i → q < length ids
      → depends_in (filled_from s ids n i at m) k q ≡ depends_in m k q
  filled-before zero i at m l e size most k q h low = unfold filled_from in refl
  filled-before (suc n) i at m l e size most k q h low =
      let w = turn-told s n i at l e in
      let named = all_named ids i m (handed_in s w.first).parents in
      ap (λ (x : List ℕ). depends_in x k q) (fill-turn n i at m w.first w.next w.read)
      ∙ filled-before n (suc i) w.next named w.rest w.goes (all-named-length ids few i m (handed_in s w.first).parents ∙ size) (omega arith) k q (omega arith) low
      ∙ all-named-told ids few different i m (handed_in s w.first).parents k q size (omega arith) low
      ∙ ap (λ (t : Bool). depends_in m k q || (t && among (get_or ids q []) (handed_in s w.first).parents)) (ne_eqb k i (λ z. absurd (omega arith)))
      ∙ or-false (depends_in m k q)

  pub filled_at : (n i at : ℕ) (m : List ℕ) (l : List Transaction) → read_from s n i at ≡ accepted l → length m ≡ 8192 → i + n ≤ 256 → (d q : ℕ) → d < length l → q < length ids
      → depends_in (filled_from s ids n i at m) (i + d) q ≡ (depends_in m (i + d) q || among (get_or ids q []) (get_or (map (handed_in s) l) d no_one).parents)
  filled_at zero i at m l e size most d q h low = absurd (let z = read_length s 0 i at l e in omega arith)
  filled_at (suc n) i at m l e size most d q h low = on (turn-told s n i at l e) d h (λ w d b. filled_at n (suc i) w.next (all_named ids i m (handed_in s w.first).parents) w.rest w.goes (all-named-length ids few i m (handed_in s w.first).parents ∙ size) (omega arith) d q b low)
    where
      later : Turn s n i at l → ℕ → Type 0
      later w d = d < length w.rest
          → depends_in (filled_from s ids n (suc i) w.next (all_named ids i m (handed_in s w.first).parents)) (suc i + d) q
          ≡ (depends_in (all_named ids i m (handed_in s w.first).parents) (suc i + d) q || among (get_or ids q []) (get_or (map (handed_in s) w.rest) d no_one).parents)

      on : (w : Turn s n i at l) (d : ℕ) → d < length l → ((w : Turn s n i at l) (d : ℕ) → later w d)
          → depends_in (filled_from s ids (suc n) i at m) (i + d) q ≡ (depends_in m (i + d) q || among (get_or ids q []) (get_or (map (handed_in s) l) d no_one).parents)
      on w zero h f =
          let z : i + 0 ≡ i = omega arith in
          rw (z, ← w.whole)
          (ap (λ (x : List ℕ). depends_in x i q) (fill-turn n i at m w.first w.next w.read)
          ∙ filled-before n (suc i) w.next (all_named ids i m (handed_in s w.first).parents) w.rest w.goes (all-named-length ids few i m (handed_in s w.first).parents ∙ size) (omega arith) i q (omega arith) low
          ∙ all-named-told ids few different i m (handed_in s w.first).parents i q size (omega arith) low
          ∙ ap (λ (t : Bool). depends_in m i q || (t && among (get_or ids q []) (handed_in s w.first).parents)) (eq-eqb i i refl))
      on w (suc d) h f =
          let z : i + suc d ≡ suc i + d = omega arith in
          let b = sym (ap length w.whole) in
          rw (z, ← w.whole)
          (ap (λ (x : List ℕ). depends_in x (suc i + d) q) (fill-turn n i at m w.first w.next w.read)
          ∙ f w d (omega arith)
          ∙ ap (λ (t : Bool). t || among (get_or ids q []) (get_or (map (handed_in s) w.rest) d no_one).parents)
          (all-named-told ids few different i m (handed_in s w.first).parents (suc i + d) q size (omega arith) low
          ∙ ap (λ (t : Bool). depends_in m (suc i + d) q || (t && among (get_or ids q []) (handed_in s w.first).parents)) (ne_eqb (suc i + d) i (λ y. absurd (omega arith)))
          ∙ or-false (depends_in m (suc i + d) q)))

-- nobody has a parent in a matrix of zeros
bit-zero : (b : ℕ) → bit b 0 ≡ false
unfolding bit
bit-zero zero = refl
bit-zero (suc b) = bit-zero b

pub none_yet : (i j : ℕ) → i < 256 → j < 256 → depends_in (replicate 8192 0) i j ≡ false
unfolding depends_in
none_yet i j a b = ap (bit (j % 8)) (get_or-replicate {A = ℕ} 8192 (32 * i + j / 8) 0 0 (omega arith)) ∙ bit-zero (j % 8)

-- ---- a set that was opened

pub record Opened (s ids : List ℕ) (count : ℕ) : Type 0 where
  pub transactions : List Transaction
  pub few : count ≤ MAX_TXS
  pub size : length transactions ≡ count
  pub read : read_set s count ≡ accepted transactions
  pub from : read_from s count 0 0 ≡ accepted transactions
  pub known : map (txid s) transactions ≡ hashes count ids
  pub new : new_from [] (hashes count ids) ≡ true

ids_handed : (s : List ℕ) (l : List Transaction) → map id_of (map (handed_in s) l) ≡ map (txid s) l
unfolding handed_in
ids_handed s [] = refl
ids_handed s (t ∷ l) = ap (txid s t ∷◌) (ids_handed s l)

set_told : (s : List ℕ) (count : ℕ) (l : List Transaction) → read_set s count ≡ accepted l → (count ≤ MAX_TXS) × (read_from s count 0 0 ≡ accepted l)
unfolding read_set
set_told s count l e = go (leb count MAX_TXS) refl (leb (length s) MAX_INPUT) e
  where
    go : (a : Bool) → leb count MAX_TXS ≡ a → (b : Bool) → pick a (pick b (read_from s count 0 0) (refusing 1)) (refusing 5) ≡ accepted l → (count ≤ MAX_TXS) × (read_from s count 0 0 ≡ accepted l)
    go true p true f = (leb-true count MAX_TXS p, f)
    go true p false f = absurd (let z : ◌≡◌ {A = ℕ} 0 1 = cc in omega arith)
    go false p b f = absurd (let z : ◌≡◌ {A = ℕ} 0 1 = cc in omega arith)

module _ (s : List ℕ) (count : ℕ) where
  pub opened-told : (ids : List ℕ) → accepted (hashes count ids) ≡ opened s count → Opened s ids count
  unfolding opened
  opened-told ids e = go (read_set s count) refl (sym e)
    where
      all : (l : List Transaction) → read_set s count ≡ accepted l → (t : Bool) → new_from [] (map (txid s) l) ≡ t
          → pick t (accepted (map (txid s) l)) (refusing SAME_TX) ≡ accepted (hashes count ids) → Opened s ids count
      all l m true f g =
          let w = set_told s count l m in
          let k : map (txid s) l ≡ hashes count ids = cc in
          record { transactions = l; few = w.0; size = read_length s count 0 0 l w.1; read = m; from = w.1; known = k; new = ap (new_from []) (sym k) ∙ f }
      all l m false f g = absurd (let z : ◌≡◌ {A = ℕ} 0 1 = cc in omega arith)

      go : (x : SetResult (List Transaction)) → read_set s count ≡ x → differing (ids_of s x) ≡ accepted (hashes count ids) → Opened s ids count
      go (accepted l) m f = all l m (new_from [] (map (txid s) l)) refl (unfold differing ids_of in f)
      go (refused why k) m f = absurd (let g : ◌≡◌ {A = SetResult (List (List ℕ))} (refused why k) (accepted (hashes count ids)) = (unfold differing ids_of in f) in let z : ◌≡◌ {A = ℕ} 0 1 = cc in omega arith)

  -- a set that is refused: both calls refuse it
  module _ {why : Rejection} {k : ℕ} (e : refused why k ≡ opened s count) where
    stops : {B : Type 0} (f : List Transaction → SetResult B) → ((l : List Transaction) → new_from [] (map (txid s) l) ≡ false → f l ≡ refusing SAME_TX) → follow (read_set s count) f ≡ refused why k
    unfolding opened
    stops {B = B} f again = go (read_set s count) (sym e)
      where
        all : (l : List Transaction) (t : Bool) → new_from [] (map (txid s) l) ≡ t → pick t (accepted (map (txid s) l)) (refusing SAME_TX) ≡ refused why k → f l ≡ refused why k
        all l true m g = absurd (let z : ◌≡◌ {A = ℕ} 0 1 = cc in omega arith)
        all l false m g = again l m ∙ over g
          where
            over : ◌≡◌ {A = SetResult (List (List ℕ))} (refusing SAME_TX) (refused why k) → ◌≡◌ {A = SetResult B} (refusing SAME_TX) (refused why k)
            over g = let a : carrying SAME_TX 0 ≡ why = cc in let b : 0 ≡ k = cc in rw (← a, ← b)

        go : (x : SetResult (List Transaction)) → differing (ids_of s x) ≡ refused why k → follow x f ≡ refused why k
        go (accepted l) g = all l (new_from [] (map (txid s) l)) refl (unfold differing ids_of in g)
        go (refused y j) g = over (unfold differing ids_of in g)
          where
            over : ◌≡◌ {A = SetResult (List (List ℕ))} (refused y j) (refused why k) → ◌≡◌ {A = SetResult B} (refused y j) (refused why k)
            over g = let a : y ≡ why = cc in let b : j ≡ k = cc in rw (a, b)

    old : (l : List Transaction) → new_from [] (map (txid s) l) ≡ false → new_ids (map (handed_in s) l) ≡ false
    unfolding new_ids
    old l m = ap (new_from []) (ids_handed s l) ∙ m

    pub order_refused : (room : ℕ) → order_set s count room ≡ refused why k
    order_refused room = unfold order_set in stops (λ l. ordering room (map (handed_in s) l)) (λ l m. unfold ordering in rw (old l m))

    pub check-refused : (order : List ℕ) → check_set s count order ≡ refused why k
    check-refused order = unfold check_set in stops (λ l. checking order (map (handed_in s) l)) (λ l m. unfold checking in rw (old l m))

module _ (s ids : List ℕ) (count : ℕ) (o : Opened s ids count) where
  abbrev set : List Handed
  set = map (handed_in s) o.transactions

  abbrev matrix : List ℕ
  matrix = filled_from s (hashes count ids) count 0 0 (replicate 8192 0)

  set-length : length set ≡ count
  set-length = length-map o.transactions (handed_in s) ∙ o.size

  set_new : new_ids set ≡ true
  unfolding new_ids
  set_new = ap (new_from []) (ids_handed s o.transactions ∙ o.known) ∙ o.new

  id-at : (j : ℕ) → j < count → get_or (hashes count ids) j [] ≡ id_at set j
  id-at j h = ap (λ (l : List (List ℕ)). get_or l j []) (sym (ids_handed s o.transactions ∙ o.known)) ∙ mapped set j (let e = set-length in omega arith)
    where
      mapped : (l : List Handed) (j : ℕ) → j < length l → get_or (map id_of l) j [] ≡ (get_or l j no_one).id
      mapped [] j h = absurd (omega arith)
      mapped (t ∷ l) zero h = refl
      mapped (t ∷ l) (suc j) h = mapped l j (omega arith)

  -- the matrix has the parents of the set
  pub matrix_told : (i j : ℕ) → i < length set → j < length set → depends_in matrix i j ≡ parent_in set i j
  matrix_told i j a b = unfold parent_in in found
    where
      ids_length : length (hashes count ids) ≡ count
      ids_length = ap length (sym o.known) ∙ length-map o.transactions (txid s) ∙ o.size

      low : i < count
      low = let e = set-length in omega arith

      low_j : j < count
      low_j = let e = set-length in omega arith

      found : depends_in matrix i j ≡ among (id_at set j) (parents_at set i)
      found =
          let n = ids_length in
          let f = o.few in
          let q = o.size in
          let x = low in
          let y = low_j in
          let z : 0 + i ≡ i = omega arith in
          (rw z at (filled_at s (hashes count ids) (omega arith) (new_different (hashes count ids) o.new) count 0 0 (replicate 8192 0) o.transactions o.from (length-replicate {A = ℕ} 8192 0) (omega arith) i j (omega arith) (omega arith)))
          ∙ ap (λ (t : Bool). t || among (get_or (hashes count ids) j []) (parents_at set i)) (none_yet i j (omega arith) (omega arith))
          ∙ ap (λ (t : List ℕ). among t (parents_at set i)) (id-at j low_j)

  checked : (order : List ℕ) → check count (depends_in matrix) order ≡ passes set order
  unfolding passes
  checked order = ap (λ (n : ℕ). check n (depends_in matrix) order) (sym set-length) ∙ check-same (length set) (depends_in matrix) (parent_in set) matrix_told order

  placed : ours count (depends_in matrix) ≡ ours_of set
  unfolding ours_of
  placed = ap (λ (n : ℕ). ours n (depends_in matrix)) (sym set-length) ∙ ours_same (length set) (depends_in matrix) (parent_in set) matrix_told

  pub order_short : {room : ℕ} → room < count → order_set s count room ≡ refusing NO_ROOM
  unfolding order_set ordering
  order_short {room} h = let e = set-length in rw o.read (rw (set_new, lt-leb (length set) room (omega arith)))

  -- what the code answers, by the matrix that it made
  module _ {m zeros : List ℕ} (made : m ≡ filled_from s (hashes count ids) count 0 0 zeros) (nothing : zeros ≡ replicate 8192 0) where
    own : m ≡ matrix
    own = made ∙ ap (filled_from s (hashes count ids) count 0 0) nothing

    pub check_made : (order : List ℕ) → check_set s count order ≡ pick (check count (depends_in m) order) (accepted order) (refusing BAD_ORDER)
    unfolding check_set checking
    check_made order = rw o.read (rw set_new (ap (λ (t : Bool). pick t (accepted order) (refusing BAD_ORDER)) (sym (ap (λ (x : List ℕ). check count (depends_in x) order) own ∙ checked order))))

    pub order_made : {room : ℕ} → count ≤ room → order_set s count room ≡ proposed (ours count (depends_in m))
    unfolding order_set ordering
    order_made {room} h =
        let e = set-length in
        rw o.read (rw (set_new, le-leb (length set) room (omega arith)) (ap proposed (sym (ap (λ (x : List ℕ). ours count (depends_in x)) own ∙ placed))))

-- ---- answers

-- a call that refuses
pub answer_refused : {A : Type 0} {x : SetResult A} {r : SetRefusal} {why : Rejection} {k : ℕ} → x ≡ refused why k → r ≡ set_refusal why k → Err r ≡ ordered_of x
answer_refused e h = rw (e, h)

pub row-refused : {x : SetResult (List ℕ)} {why : Rejection} {k : ℕ} {row : List ℕ} (old : List ℕ) → x ≡ refused why k → row ≡ replicate (length old) 0 → row ≡ row_after x old
unfolding row_after
row-refused old e h = rw e h

-- a proposal
module _ {x : SetResult (List ℕ)} (order : List ℕ) (t : Bool) (e : x ≡ pick t (accepted order) (refusing BAD_ORDER)) where
  pub answer_fails : t ≡ false → {r : SetRefusal} → r ≡ set_refusal (carrying BAD_ORDER 0) 0 → Err r ≡ ordered_of x
  answer_fails f h = rw (e, f, h)

  pub answer_passes : t ≡ true → Ok tt ≡ ordered_of x
  answer_passes f = rw (e, f)

-- ours
module _ {x : SetResult (List ℕ)} (o : Option (List ℕ)) {t : Bool} (e : x ≡ proposed o) (is : t ≡ is_some o) where
  pub answer_none : t ≡ false → {r : SetRefusal} → r ≡ set_refusal (carrying NO_ORDER 0) 0 → Err r ≡ ordered_of x
  unfolding proposed
  answer_none f {r} h = rw e (go o (sym is ∙ f))
    where
      go : (o : Option (List ℕ)) → is_some o ≡ false → Err r ≡ ordered_of (proposed o)
      go None g = rw h
      go (Some l) g = clash true refl g

  pub answer_some : t ≡ true → Ok tt ≡ ordered_of x
  unfolding proposed
  answer_some f = rw e (go o (sym is ∙ f))
    where
      go : (o : Option (List ℕ)) → is_some o ≡ true → Ok tt ≡ ordered_of (proposed o)
      go None g = clash false g refl
      go (Some l) g = refl

pub row-ours : {x : SetResult (List ℕ)} (o : Option (List ℕ)) {row : List ℕ} (old : List ℕ) → x ≡ proposed o → row ≡ row_after (proposed o) old → row ≡ row_after x old
row-ours o old e h = h ∙ ap (λ (y : SetResult (List ℕ)). row_after y old) (sym e)
