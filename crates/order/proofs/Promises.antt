-- What Item 12 promises of the bytes that are handed in.
use Prim.Native.Nat.{ℕ, ◌<◌, ◌≤◌}
use mathlib.Core.Path.{◌≡◌, refl, sym, ap, ◌∙◌}
use mathlib.Core.Bool.{Bool, true, false}
use mathlib.Core.List.{List, map}
use mathlib.Core.Logic.{◌↔◌}
use Rattle.std.specs.Prelude.{Option, None, Some}
use native.Mathlib.Omega.{arith}
use lib.Dec.{leb}
use lib.ListN.{length}
use borrow.Author.Tests.{leb-true, leb-false, le-leb, lt-leb}
use Rattle.format.specs.Parse.{pick}
use Rattle.format.specs.Transaction.{Transaction}
use Rattle.format.specs.Refusals.{SAME_TX, NO_ROOM, NO_ORDER, BAD_ORDER}
use Rattle.spv.specs.Result.{carrying}
use Rattle.spv.specs.declared.rejection.Rejection.{Rejection}
use Rattle.order.specs.Order.{NotAfter}
use Rattle.order.specs.Set.{SetResult, accepted, refused, refusing, follow, read_set, Handed, handed_in, id_of, new_ids, InOrder, passes, ours_of, proposed, ordering, checking, order_set, check_set}
use Rattle.order.proofs.SetTheorems.{passes-exactly, ours_in_order, ours-first, none-exactly}
use Rattle.spv.specs.Hashes.{Distinct}
use Rattle.order.proofs.IdsLaws.{new_different, different_new}

-- the bytes hold so many transactions, of which no two have one id
pub record Holds (s : List ℕ) (count : ℕ) : Type 0 where
  pub transactions : List Transaction
  pub read : read_set s count ≡ accepted transactions
  pub differ : Distinct (map id_of (map (handed_in s) transactions))

abbrev pub set_of : (s : List ℕ) {count : ℕ} → Holds s count → List Handed
set_of s h = map (handed_in s) h.transactions

-- refusals of different numbers differ
same-refusal : (n k : ℕ) → ◌≡◌ {A = SetResult (List ℕ)} (refusing n) (refusing k) → n ≡ k
same-refusal n k e = let r : carrying n 0 ≡ carrying k 0 = cc in ap (λ (x : Rejection). x.number) r

module _ (s : List ℕ) (count : ℕ) where
  module _ (h : Holds s count) where
    new : new_ids (set_of s h) ≡ true
    unfolding new_ids
    new = different_new (map id_of (set_of s h)) h.differ

    pub checks : (order : List ℕ) → check_set s count order ≡ pick (passes (set_of s h) order) (accepted order) (refusing BAD_ORDER)
    unfolding check_set checking
    checks order = rw h.read (rw new)

    pub orders : (room : ℕ) → order_set s count room ≡ pick (leb (length (set_of s h)) room) (proposed (ours_of (set_of s h))) (refusing NO_ROOM)
    unfolding order_set ordering
    orders room = rw h.read (rw new)

  -- what is accepted is such a set
  accepted-holds : (f : List Handed → SetResult (List ℕ)) (o : List ℕ) → follow (read_set s count) (λ l. pick (new_ids (map (handed_in s) l)) (f (map (handed_in s) l)) (refusing SAME_TX)) ≡ accepted o → Holds s count
  accepted-holds f o e = go (read_set s count) refl e
    where
      all : (l : List Transaction) → read_set s count ≡ accepted l → (t : Bool) → new_ids (map (handed_in s) l) ≡ t → pick t (f (map (handed_in s) l)) (refusing SAME_TX) ≡ accepted o → Holds s count
      all l m true n g = record { transactions = l; read = m; differ = new_different (map id_of (map (handed_in s) l)) (unfold new_ids in n) }
      all l m false n g = absurd (let z : ◌≡◌ {A = ℕ} 0 1 = cc in omega arith)

      go : (x : SetResult (List Transaction)) → read_set s count ≡ x → follow x (λ l. pick (new_ids (map (handed_in s) l)) (f (map (handed_in s) l)) (refusing SAME_TX)) ≡ accepted o → Holds s count
      go (accepted l) m g = all l m (new_ids (map (handed_in s) l)) refl g
      go (refused why k) m g = absurd (let z : ◌≡◌ {A = ℕ} 0 1 = cc in omega arith)

  pub check-holds : (order o : List ℕ) → check_set s count order ≡ accepted o → Holds s count
  check-holds order o e = accepted-holds (λ set. pick (passes set order) (accepted order) (refusing BAD_ORDER)) o (unfold check_set checking in e)

  pub order_holds : (room : ℕ) (o : List ℕ) → order_set s count room ≡ accepted o → Holds s count
  order_holds room o e = accepted-holds (λ set. pick (leb (length set) room) (proposed (ours_of set)) (refusing NO_ROOM)) o (unfold order_set ordering in e)

  module _ (h : Holds s count) where
    -- "a small checker passes either exactly when it holds every transaction once, after its parents in the set"
    pub passed-exactly : (order : List ℕ) → (check_set s count order ≡ accepted order) ↔ InOrder (set_of s h) order
    passed-exactly order = (there, λ p. checks h order ∙ rw ((passes-exactly (set_of s h) order).1 p))
      where
        there : check_set s count order ≡ accepted order → InOrder (set_of s h) order
        there e = go (passes (set_of s h) order) refl (sym (checks h order) ∙ e)
          where
            go : (t : Bool) → passes (set_of s h) order ≡ t → pick t (accepted order) (refusing BAD_ORDER) ≡ accepted order → InOrder (set_of s h) order
            go true q f = (passes-exactly (set_of s h) order).0 q
            go false q f = absurd (let z : ◌≡◌ {A = ℕ} 0 1 = cc in omega arith)

    -- "30 exactly when it fails the check"
    pub refused_30 : (order : List ℕ) → (check_set s count order ≡ refusing BAD_ORDER) ↔ (InOrder (set_of s h) order → ⊥)
    refused_30 order = (λ e p. both (check_set s count order) e ((passed-exactly order).1 p), back)
      where
        both : (x : SetResult (List ℕ)) → x ≡ refusing BAD_ORDER → x ≡ accepted order → ⊥
        both x e f = let z : ◌≡◌ {A = ℕ} 0 1 = cc in omega arith

        back : (InOrder (set_of s h) order → ⊥) → check_set s count order ≡ refusing BAD_ORDER
        back ne = go (passes (set_of s h) order) refl
          where
            go : (t : Bool) → passes (set_of s h) order ≡ t → check_set s count order ≡ refusing BAD_ORDER
            go true q = absurd (ne ((passes-exactly (set_of s h) order).0 q))
            go false q = checks h order ∙ rw q

    module _ (room : ℕ) where
      -- "22 for an order row shorter than the set", and only then
      pub refused_22 : (order_set s count room ≡ refusing NO_ROOM) ↔ (room < length (set_of s h))
      refused_22 = (λ e. go (leb (length (set_of s h)) room) refl (ours_of (set_of s h)) (sym (orders h room) ∙ e), λ short. orders h room ∙ rw (lt-leb (length (set_of s h)) room short))
        where
          go : (t : Bool) → leb (length (set_of s h)) room ≡ t → (x : Option (List ℕ)) → pick t (proposed x) (refusing NO_ROOM) ≡ refusing NO_ROOM → room < length (set_of s h)
          go true q None f = absurd (let g : ◌≡◌ {A = SetResult (List ℕ)} (refusing NO_ORDER) (refusing NO_ROOM) = (unfold proposed in f) in let z : ◌≡◌ {A = ℕ} NO_ORDER NO_ROOM = same-refusal NO_ORDER NO_ROOM g in omega arith)
          go true q (Some l) f = absurd (let g : ◌≡◌ {A = SetResult (List ℕ)} (accepted l) (refusing NO_ROOM) = (unfold proposed in f) in let z : ◌≡◌ {A = ℕ} 0 1 = cc in omega arith)
          go false q x f = leb-false (length (set_of s h)) room q

      module _ (fits : length (set_of s h) ≤ room) where
        -- "29 exactly when no such order exists"
        pub refused_29 : (order_set s count room ≡ refusing NO_ORDER) ↔ ((order : List ℕ) → InOrder (set_of s h) order → ⊥)
        refused_29 = (λ e. (none-exactly (set_of s h)).0 (go (ours_of (set_of s h)) refl (sym ours_made ∙ e)), λ f. ours_made ∙ rw ((none-exactly (set_of s h)).1 f) (unfold proposed in refl))
          where
            ours_made : order_set s count room ≡ proposed (ours_of (set_of s h))
            ours_made = orders h room ∙ rw (le-leb (length (set_of s h)) room fits)

            go : (o : Option (List ℕ)) → ours_of (set_of s h) ≡ o → proposed o ≡ refusing NO_ORDER → ours_of (set_of s h) ≡ None
            go None q f = q
            go (Some l) q f = absurd (let g : ◌≡◌ {A = SetResult (List ℕ)} (accepted l) (refusing NO_ORDER) = (unfold proposed in f) in let z : ◌≡◌ {A = ℕ} 0 1 = cc in omega arith)

      -- ours is accepted only with room for it, holds every transaction once after its parents, and is the least of all such orders
      ours-told : (o : List ℕ) → order_set s count room ≡ accepted o → (length (set_of s h) ≤ room) × (ours_of (set_of s h) ≡ Some o)
      ours-told o e = go (leb (length (set_of s h)) room) refl (ours_of (set_of s h)) refl (sym (orders h room) ∙ e)
        where
          go : (t : Bool) → leb (length (set_of s h)) room ≡ t → (x : Option (List ℕ)) → ours_of (set_of s h) ≡ x → pick t (proposed x) (refusing NO_ROOM) ≡ accepted o → (length (set_of s h) ≤ room) × (ours_of (set_of s h) ≡ Some o)
          go true q None r f = absurd (let g : ◌≡◌ {A = SetResult (List ℕ)} (refusing NO_ORDER) (accepted o) = (unfold proposed in f) in let z : ◌≡◌ {A = ℕ} 0 1 = cc in omega arith)
          go true q (Some l) r f = let g : ◌≡◌ {A = SetResult (List ℕ)} (accepted l) (accepted o) = (unfold proposed in f) in let z : l ≡ o = cc in (leb-true (length (set_of s h)) room q, r ∙ ap Some z)
          go false q x r f = absurd (let z : ◌≡◌ {A = ℕ} 0 1 = cc in omega arith)

      pub ours_ordered : (o : List ℕ) → order_set s count room ≡ accepted o → InOrder (set_of s h) o
      ours_ordered o e = ours_in_order (set_of s h) o (ours-told o e).1

      pub ours-fits : (o : List ℕ) → order_set s count room ≡ accepted o → length (set_of s h) ≤ room
      ours-fits o e = (ours-told o e).0

      pub ours-least : (o order : List ℕ) → order_set s count room ≡ accepted o → InOrder (set_of s h) order → NotAfter o order
      ours-least o order e p = ours-first (set_of s h) o order (ours-told o e).1 p

  -- our own order passes the check
  pub ours-passes : (room : ℕ) (o : List ℕ) → order_set s count room ≡ accepted o → check_set s count o ≡ accepted o
  ours-passes room o e = let h = order_holds room o e in (passed-exactly h o).1 (ours_ordered h room o e)

  -- 19 exactly when two ids of a set that is read are equal
  module _ (l : List Transaction) (m : read_set s count ≡ accepted l) where
    abbrev ids : List (List ℕ)
    ids = map id_of (map (handed_in s) l)

    old : (Distinct ids → ⊥) → new_ids (map (handed_in s) l) ≡ false
    old ne = go (new_ids (map (handed_in s) l)) refl
      where
        go : (t : Bool) → new_ids (map (handed_in s) l) ≡ t → new_ids (map (handed_in s) l) ≡ false
        go true q = absurd (ne (new_different ids (unfold new_ids in q)))
        go false q = q

    pub order_19 : (room : ℕ) → (order_set s count room ≡ refusing SAME_TX) ↔ (Distinct ids → ⊥)
    order_19 room = (λ e d. apart (record { transactions = l; read = m; differ = d }) e, λ ne. unfold order_set ordering in rw m (rw (old ne)))
      where
        apart : Holds s count → order_set s count room ≡ refusing SAME_TX → ⊥
        apart h e = go (leb (length (set_of s h)) room) (ours_of (set_of s h)) (sym (orders h room) ∙ e)
          where
            go : (t : Bool) (x : Option (List ℕ)) → pick t (proposed x) (refusing NO_ROOM) ≡ refusing SAME_TX → ⊥
            go true None f = let z : ◌≡◌ {A = ℕ} NO_ORDER SAME_TX = same-refusal NO_ORDER SAME_TX (unfold proposed in f) in omega arith
            go true (Some o) f = let g : ◌≡◌ {A = SetResult (List ℕ)} (accepted o) (refusing SAME_TX) = (unfold proposed in f) in let z : ◌≡◌ {A = ℕ} 0 1 = cc in omega arith
            go false x f = let z : ◌≡◌ {A = ℕ} NO_ROOM SAME_TX = same-refusal NO_ROOM SAME_TX f in omega arith

    pub check_19 : (order : List ℕ) → (check_set s count order ≡ refusing SAME_TX) ↔ (Distinct ids → ⊥)
    check_19 order = (λ e d. apart (record { transactions = l; read = m; differ = d }) e, λ ne. unfold check_set checking in rw m (rw (old ne)))
      where
        apart : Holds s count → check_set s count order ≡ refusing SAME_TX → ⊥
        apart h e = go (passes (set_of s h) order) (sym (checks h order) ∙ e)
          where
            go : (t : Bool) → pick t (accepted order) (refusing BAD_ORDER) ≡ refusing SAME_TX → ⊥
            go true f = let z : ◌≡◌ {A = ℕ} 0 1 = cc in omega arith
            go false f = let z : ◌≡◌ {A = ℕ} BAD_ORDER SAME_TX = same-refusal BAD_ORDER SAME_TX f in omega arith

  -- a set that is refused in reading is refused by both calls
  pub reading_stops : {why : Rejection} {k : ℕ} → read_set s count ≡ refused why k → (room : ℕ) (order : List ℕ) → (order_set s count room ≡ refused why k) × (check_set s count order ≡ refused why k)
  unfolding order_set check_set
  reading_stops e room order = (rw e, rw e)
