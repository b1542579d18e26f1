-- A set of raw transactions as it is handed in, and what its two calls come to (02, Item 12).
use Rattle.std.specs.Prelude.{ℕ, zero, suc, ◌<◌, ◌≡◌, Bool, true, not, ◌&&◌, List, [], ◌∷◌, ◌++◌, map, ltb, leb, length, get_or, drop, replicate, Result as Answer, Ok, Err}
use Rattle.std.specs.Prelude.{Option, None, Some}
use Rattle.format.specs.declared.transaction.Input.{Input}
use Rattle.format.specs.Parse.{Parse, ok, fault, pick}
use Rattle.format.specs.Bytes.{hash_at}
use Rattle.format.specs.Transaction.{Transaction, tx_field}
use Rattle.format.specs.Id.{txid}
use Rattle.format.specs.Refusals.{TOO_LONG, OVER_LIMIT, EXTRA, SAME_TX, NO_ROOM, NO_ORDER, BAD_ORDER, MAX_INPUT, MAX_TXS}
use Rattle.spv.specs.declared.rejection.Rejection.{Rejection}
use Rattle.spv.specs.Result.{Result, carrying}
use Rattle.spv.specs.Result as R
use Rattle.spv.specs.Hashes.{among, Among}
use Rattle.order.specs.declared.answer.SetRefusal.{SetRefusal}
use Rattle.order.specs.Order.{check, ours}

-- ---- what a call on a set comes to: accepted with a value, or refused; a refusal is told with the number of a transaction

pub data SetResult (A : Type 0) : Type 0 where
  accepted : A → SetResult A
  refused : Rejection → ℕ → SetResult A

-- a refusal that blames no byte and no transaction
abbrev pub refusing : {A : Type 0} → ℕ → SetResult A
refusing number = refused (carrying number 0) 0

-- first one, then with its value another
abbrev pub follow : {A B : Type 0} → SetResult A → (A → SetResult B) → SetResult B
follow (accepted a) f = f a
follow (refused why k) f = refused why k

-- ---- reading: raw transactions end to end

-- what follows the reading of the k-th transaction: "reading faults with place and transaction number"
abbrev pub after : {A B : Type 0} → Parse A → ℕ → (A → ℕ → SetResult B) → SetResult B
after (ok a next) k f = f a next
after (fault number place) k f = refused (carrying number place) k

-- with one more in front
unfoldable pub before : {A : Type 0} → A → SetResult (List A) → SetResult (List A)
before a (accepted l) = accepted (a ∷ l)
before a (refused why k) = refused why k

-- n transactions from a place, of which the first is the set's k-th; nothing may follow ("9: the count")
unfoldable pub read_from : List ℕ → ℕ → ℕ → ℕ → SetResult (List Transaction)
read_from s zero k at = pick (ltb at (length s)) (refused (carrying EXTRA at) k) (accepted [])
read_from s (suc n) k at = after (tx_field s at) k (λ t next. before t (read_from s n (suc k) next))

-- "up to 256 raw transactions, end to end with their count": 5, 1, reading faults
unfoldable pub read_set : List ℕ → ℕ → SetResult (List Transaction)
read_set s count =
    pick (leb count MAX_TXS) (pick (leb (length s) MAX_INPUT) (read_from s count 0 0) (refusing TOO_LONG)) (refusing OVER_LIMIT)

-- ---- the set

-- a transaction that is handed in, by its id and its parents' ids
pub record Handed : Type 0 where
  pub id : List ℕ
  pub parents : List (List ℕ)

abbrev pub no_one : Handed
no_one = record { id = []; parents = [] }

unfoldable pub handed_in : List ℕ → Transaction → Handed
handed_in s t = record { id = txid s t; parents = map (λ (i : Input). hash_at s i.parent) t.inputs }

abbrev pub id_of : Handed → List ℕ
id_of t = t.id

-- no id is equal to an earlier one
unfoldable pub new_from : List (List ℕ) → List (List ℕ) → Bool
new_from earlier [] = true
new_from earlier (x ∷ l) = not (among x earlier) && new_from (earlier ++ (x ∷ [])) l

unfoldable pub new_ids : List Handed → Bool
new_ids set = new_from [] (map id_of set)

module _ (set : List Handed) where
  abbrev pub id_at : ℕ → List ℕ
  id_at i = (get_or set i no_one).id

  abbrev pub parents_at : ℕ → List (List ℕ)
  parents_at i = (get_or set i no_one).parents

  -- i has j as a parent
  unfoldable pub parent_in : ℕ → ℕ → Bool
  parent_in i j = among (id_at j) (parents_at i)

  -- "it holds every transaction once, after its parents in the set"
  pub record InOrder (order : List ℕ) : Type 0 where
    pub numbers : (k : ℕ) → k < length order → get_or order k 0 < length set
    pub every : (i : ℕ) → i < length set → (k : ℕ) × (k < length order) × (get_or order k 0 ≡ i)
    pub once : (j k : ℕ) → j < length order → k < length order → get_or order j 0 ≡ get_or order k 0 → j ≡ k
    pub after : (j k : ℕ) → j < length order → k < length order → Among (id_at (get_or order j 0)) (parents_at (get_or order k 0)) → j < k

  -- the checker
  unfoldable pub passes : List ℕ → Bool
  passes order = check (length set) parent_in order

  -- "Ours each time takes the first handed in, of those not yet placed, whose parents in the set are placed"
  unfoldable pub ours_of : Option (List ℕ)
  ours_of = ours (length set) parent_in

-- ---- the calls

-- "29 exactly when no such order exists"
unfoldable pub proposed : Option (List ℕ) → SetResult (List ℕ)
proposed None = refusing NO_ORDER
proposed (Some l) = accepted l

-- "19, then 22 for an order row shorter than the set, then 29"
unfoldable pub ordering : ℕ → List Handed → SetResult (List ℕ)
ordering room set = pick (new_ids set) (pick (leb (length set) room) (proposed (ours_of set)) (refusing NO_ROOM)) (refusing SAME_TX)

-- "for a proposal, in place of 22 and 29, 30 exactly when it fails the check"
unfoldable pub checking : List ℕ → List Handed → SetResult (List ℕ)
checking order set = pick (new_ids set) (pick (passes set order) (accepted order) (refusing BAD_ORDER)) (refusing SAME_TX)

-- our order of a set, with a row of so many numbers lent
unfoldable pub order_set : List ℕ → ℕ → ℕ → SetResult (List ℕ)
order_set s count room = follow (read_set s count) (λ l. ordering room (map (handed_in s) l))

-- a proposal for a set
unfoldable pub check_set : List ℕ → ℕ → List ℕ → SetResult (List ℕ)
check_set s count order = follow (read_set s count) (λ l. checking order (map (handed_in s) l))

-- the answer
abbrev pub set_refusal : Rejection → ℕ → SetRefusal
set_refusal why k = record { rejection = why; transaction = k }

abbrev pub ordered_of : {A : Type 0} → SetResult A → Answer (Unit {0}) SetRefusal
ordered_of (accepted a) = Ok tt
ordered_of (refused why k) = Err (set_refusal why k)

-- as other calls answer, and what becomes of memory for the transaction's number
unfoldable pub result_of : {A : Type 0} → SetResult A → Result A
result_of (accepted a) = R.accepted a
result_of (refused why k) = R.refused why

unfoldable pub transaction_of : {A : Type 0} → SetResult A → ℕ → ℕ
transaction_of (accepted a) old = old
transaction_of (refused why k) old = k

-- the row that we write: "each zeroing the row"; past the set it stays
unfoldable pub row_after : SetResult (List ℕ) → List ℕ → List ℕ
row_after (accepted l) row = l ++ drop (length l) row
row_after (refused why k) row = replicate (length row) 0
