-- Two bundles that say the same, but that the second has a BUMP more, are judged alike.
use Prim.Native.Nat.{ℕ, suc, ◌+◌, ◌<◌}
use mathlib.Core.Path.{◌≡◌, refl, sym, ap, ap₂, ◌∙◌}
use mathlib.Core.Bool.{Bool, true, false}
use mathlib.Core.List.{List, [], ◌∷◌, ◌++◌, map}
use native.Mathlib.Omega.{arith}
use lib.ListN.{length, get_or, get_or-map}
use lib.Dec.{ltb, eqb}
use Rattle.std.specs.Prelude.{Option, None, Ok, Err, Some}
use Rattle.hash.specs.Sha256.{sha256d}
use Rattle.format.specs.declared.leaf.Kind.{Kind}
use Rattle.format.specs.declared.leaf.Kind.TheVariants.{Plain, Copy, Client}
use Rattle.format.specs.declared.leaf.Leaf.{Leaf}
use Rattle.format.specs.declared.transaction.Input.{Input}
use Rattle.format.specs.Parse.{pick}
use Rattle.path.specs.Search.{lookup, carries}
use Rattle.format.specs.Bump.{Bump}
use Rattle.format.specs.Transaction.{Transaction}
use Rattle.format.specs.Beef.{BeefEntry, Beef}
use Rattle.format.specs.Refusals.{SAME_TX, NO_PARENT, UNTRUSTED, NO_OUTPUT, SPENT_TWICE, TOO_LITTLE}
use Rattle.bundle.specs.declared.table.Record.{Record}
use Rattle.spv.specs.Result.{Result, accepted, refused, carrying}
use Rattle.spv.specs.Climb.{Sibling}
use Rattle.spv.specs.Prove.{prove, Proof}
use Rattle.spv.specs.Siblings.{written, sibling, written_by, find_in}
use Rattle.spv.proofs.AskedLaws.{same-all}
use Rattle.spv.specs.Readings.{levels_reading}
use Rattle.spv.proofs.Surplus.{carried_at, surplus}
use Rattle.format.specs.Id.{txid}
use Rattle.spv.specs.Hashes.{hashes_of, among}
use Rattle.bundle.specs.declared.judge.Standing.{Standing}
use Rattle.bundle.specs.Bundle.{rests, trusted, proving, nth_bump, entry_id, ruling_of, anchoring, ruling, entry_row, Judgement, ahead, judge_from, judge_entries, Ruling, standing}
use Rattle.bundle.proofs.BundleLaws.{from_refuses, from_passes}
use Rattle.bundle.proofs.BundleTheorems.{empty_entry}
use Rattle.bundle.proofs.RereadBundle.{leaf_said, bump_said, TxSaid, tx_said}
use Rattle.bundle.specs.Amounts.{Outpoint, outpoint_of, Payment, payment_of, is_anchored, ids_of, exist, fresh, spends, enough, funded, passes, refuses}
use Rattle.format.specs.Bytes.{hash_at}

-- ---- what says the same is judged the same

module _ (s t : List ℕ) where
  carries_same : (id : List ℕ) (j k : Kind) → written s j ≡ written t k → carries s id j ≡ carries t id k
  unfolding written carries
  carries_same id (Plain p) (Plain q) e = let h : hash_at s p ≡ hash_at t q = cc in rw h
  carries_same id (Plain p) (Client q) e = let h : hash_at s p ≡ hash_at t q = cc in rw h
  carries_same id (Client p) (Plain q) e = let h : hash_at s p ≡ hash_at t q = cc in rw h
  carries_same id (Client p) (Client q) e = let h : hash_at s p ≡ hash_at t q = cc in rw h
  carries_same id Copy Copy e = refl
  carries_same id (Plain p) Copy e = absurd (let z : ◌≡◌ {A = ℕ} 0 1 = cc in omega arith)
  carries_same id (Client p) Copy e = absurd (let z : ◌≡◌ {A = ℕ} 0 1 = cc in omega arith)
  carries_same id Copy (Plain q) e = absurd (let z : ◌≡◌ {A = ℕ} 0 1 = cc in omega arith)
  carries_same id Copy (Client q) e = absurd (let z : ◌≡◌ {A = ℕ} 0 1 = cc in omega arith)

  carried_same : (id : List ℕ) (o : ℕ) (l m : List Leaf) → map (leaf_said s) l ≡ map (leaf_said t) m → carried_at s id o l ≡ carried_at t id o m
  unfolding carried_at
  carried_same id o [] [] e = refl
  carried_same id o [] (y ∷ m) e = absurd (let n = ap length e in omega arith)
  carried_same id o (x ∷ l) [] e = absurd (let n = ap length e in omega arith)
  carried_same id o (x ∷ l) (y ∷ m) e =
      let first : leaf_said s x ≡ leaf_said t y = cc in
      let offset : x.offset ≡ y.offset = ap (λ (z : ℕ × Sibling). z.0) first in
      let rest : map (leaf_said s) l ≡ map (leaf_said t) m = cc in
      rw (offset, carries_same id x.kind y.kind (ap (λ (z : ℕ × Sibling). z.1) first), carried_same id o l m rest)

  lookup-same : (q : ℕ) (l m : List Leaf) → map (leaf_said s) l ≡ map (leaf_said t) m → sibling s (lookup q l) ≡ sibling t (lookup q m)
  unfolding lookup sibling
  lookup-same q [] [] e = refl
  lookup-same q [] (y ∷ m) e = absurd (let n = ap length e in omega arith)
  lookup-same q (x ∷ l) [] e = absurd (let n = ap length e in omega arith)
  lookup-same q (x ∷ l) (y ∷ m) e =
      let first : leaf_said s x ≡ leaf_said t y = cc in
      let offset : x.offset ≡ y.offset = ap (λ (z : ℕ × Sibling). z.0) first in
      let rest : map (leaf_said s) l ≡ map (leaf_said t) m = cc in
      rw offset (go (eqb y.offset q) (ap (λ (z : ℕ × Sibling). z.1) first) (lookup-same q l m rest))
    where
      go : (b : Bool) → written s x.kind ≡ written t y.kind → sibling s (lookup q l) ≡ sibling t (lookup q m)
          → sibling s (pick b (Some x.kind) (lookup q l)) ≡ sibling t (pick b (Some y.kind) (lookup q m))
      go true h r = h
      go false h r = r

  proving-same : (b c : Bump) (id : List ℕ) → bump_said s b ≡ bump_said t c → proving s b id ≡ proving t c id
  unfolding proving
  proving-same b c id e =
      surplus s t id b.height b.levels c.levels (record { carriers = λ o. carried_same id o (get_or b.levels 0 []) (get_or c.levels 0 []) (level 0); leaves = λ i _. same-all (written_by s (find_in b.levels)) (written_by t (find_in c.levels)) (λ k q. lookup-same q (get_or b.levels k []) (get_or c.levels k []) (level k)) _ })
      ∙ ap (λ (h : ℕ). prove (levels_reading t h c.levels id)) (ap (λ (z : ℕ × List (List (ℕ × Sibling))). z.0) e)
    where
      level : (k : ℕ) → map (leaf_said s) (get_or b.levels k []) ≡ map (leaf_said t) (get_or c.levels k [])
      level k =
          sym (get_or-map (map (leaf_said s)) b.levels k [])
          ∙ ap (λ (z : ℕ × List (List (ℕ × Sibling))). get_or z.1 k []) e
          ∙ get_or-map (map (leaf_said t)) c.levels k []

  rests-same : (ids : List (List ℕ)) (l m : List Input) → map (outpoint_of s) l ≡ map (outpoint_of t) m → rests s ids l ≡ rests t ids m
  unfolding rests
  rests-same ids [] [] e = refl
  rests-same ids [] (y ∷ m) e = absurd (let n = ap length e in omega arith)
  rests-same ids (x ∷ l) [] e = absurd (let n = ap length e in omega arith)
  rests-same ids (x ∷ l) (y ∷ m) e =
      let one : outpoint_of s x ≡ outpoint_of t y = cc in
      let first : hash_at s x.parent ≡ hash_at t y.parent = ap (λ (o : Outpoint). o.parent) one in
      let rest : map (outpoint_of s) l ≡ map (outpoint_of t) m = cc in
      rw (first, rests-same ids l m rest)

  id_same : (x y : Transaction) → tx_said s x ≡ tx_said t y → txid s x ≡ txid t y
  unfolding txid
  id_same x y e = ap (λ (z : TxSaid). sha256d z.1) e

  -- what counts of two transactions that say the same, and are anchored alike
  payment_same : (x y : BeefEntry) → tx_said s x.transaction ≡ tx_said t y.transaction → is_anchored x.anchor ≡ is_anchored y.anchor → payment_of s x ≡ payment_of t y
  unfolding payment_of
  payment_same x y e f =
      let id = id_same x.transaction y.transaction e in
      let o : x.transaction.outputs ≡ y.transaction.outputs = ap (λ (z : TxSaid). z.3) e in
      let i : map (outpoint_of s) x.transaction.inputs ≡ map (outpoint_of t) y.transaction.inputs = ap (λ (z : TxSaid). z.2) e in
      rw (id, f, o, i)

-- ---- one BUMP more

-- a BUMP's number after one more was put in at m
unfoldable pub past : ℕ → ℕ → ℕ
past m n = pick (ltb n m) n (n + 1)

unfoldable pub renumbered : ℕ → Option ℕ → Option ℕ
renumbered m (Some n) = Some (past m n)
renumbered m None = None

-- what a record says of an anchor: the number of a BUMP only where it is anchored
abbrev number_of : ℕ → ℕ → ℕ → ℕ
number_of m a n = pick (eqb a 1) (past m n) n

-- a record after one more BUMP, of d bytes, was put in at m: its transaction starts so much later, and its BUMP's number is the new one
unfoldable pub later : ℕ → ℕ → Record → Record
later m d r = record { start = r.start + d; length = r.length; id = r.id; anchored = r.anchored; bump = number_of m r.anchored r.bump; position = r.position; outputs = r.outputs; total = r.total }

-- a refusal stays, with the transaction's number
unfoldable pub each_record : (Record → Record) → Judgement → Judgement
each_record f (refused why) = refused why
each_record f (accepted records) = accepted (map f records)

abbrev renumbered_standing : ℕ → Standing → Standing
renumbered_standing m st = standing st.anchored (number_of m st.anchored st.bump) st.position

unfoldable still_stands : ℕ → Ruling → Ruling
still_stands m (Err why) = Err why
still_stands m (Ok st) = Ok (renumbered_standing m st)

-- two transactions that stand alike
record Like {A B K : Type 0} (m : ℕ) (f : Record → Record) (id : A → K) (id' : B → K) (stands : List K → A → Ruling) (stands' : List K → B → Ruling)
    (row : A → Standing → Record) (row' : B → Standing → Record) (x : A) (y : B) : Type 0 where
  ids : id x ≡ id' y
  rulings : (earlier : List K) → stands' earlier y ≡ still_stands m (stands earlier x)
  rows : (st : Standing) → row' y (renumbered_standing m st) ≡ f (row x st)

module _ {A B K : Type 0} (m : ℕ) (f : Record → Record) (id : A → K) (id' : B → K) (stands : List K → A → Ruling) (stands' : List K → B → Ruling)
    (row : A → Standing → Record) (row' : B → Standing → Record) (d : A) (d' : B) where
  each-ahead : (r : Record) (j : Judgement) → ahead (f r) (each_record f j) ≡ each_record f (ahead r j)
  unfolding ahead each_record
  each-ahead r (refused why) = refl
  each-ahead r (accepted l) = refl

  from_like : (earlier : List K) (l : List A) (l' : List B) → length l ≡ length l'
      → ((k : ℕ) → k < length l → Like m f id id' stands stands' row row' (get_or l k d) (get_or l' k d'))
      → judge_from id' stands' row' earlier l' ≡ each_record f (judge_from id stands row earlier l)
  unfolding judge_from each_record still_stands
  from_like earlier [] [] e w = refl
  from_like earlier [] (y ∷ l') e w = absurd (omega arith)
  from_like earlier (x ∷ l) [] e w = absurd (omega arith)
  from_like earlier (x ∷ l) (y ∷ l') e w =
      go (w 0 (omega arith)) (stands earlier x) refl (from_like (earlier ++ (id x ∷ [])) l l' (omega arith) (λ k h. w (suc k) (omega arith)))
    where
      go : Like m f id id' stands stands' row row' x y → (v : Ruling) → stands earlier x ≡ v
          → judge_from id' stands' row' (earlier ++ (id x ∷ [])) l' ≡ each_record f (judge_from id stands row (earlier ++ (id x ∷ [])) l)
          → judge_from id' stands' row' earlier (y ∷ l') ≡ each_record f (judge_from id stands row earlier (x ∷ l))
      go z (Err why) h rest =
          from_refuses id' stands' row' earlier y l' why (z.rulings earlier ∙ ap (still_stands m) h)
          ∙ sym (ap (each_record f) (from_refuses id stands row earlier x l why h))
      go z (Ok st) h rest =
          from_passes id' stands' row' earlier y l' (renumbered_standing m st) (z.rulings earlier ∙ ap (still_stands m) h)
          ∙ ap₂ (λ (r : Record) (c : K). ahead r (judge_from id' stands' row' (earlier ++ (c ∷ [])) l')) (z.rows st) (sym z.ids)
          ∙ ap (ahead (f (row x st))) rest
          ∙ each-ahead (row x st) (judge_from id stands row (earlier ++ (id x ∷ [])) l)
          ∙ sym (ap (each_record f) (from_passes id stands row earlier x l st h))

abbrev pub entry_at : Beef → ℕ → BeefEntry
entry_at b k = get_or b.entries k empty_entry

-- two bundles, the second with a BUMP more at m: the others say what they said, and the transactions are the same but d bytes later, anchored as before
pub record OneMore (s t : List ℕ) (m d : ℕ) (b c : Beef) : Type 0 where
  pub bumps : (n : ℕ) → n < length b.bumps → bump_said s (nth_bump b.bumps n) ≡ bump_said t (nth_bump c.bumps (past m n))
  pub count : length b.entries ≡ length c.entries
  pub transactions : (k : ℕ) → k < length b.entries → tx_said s (entry_at b k).transaction ≡ tx_said t (entry_at c k).transaction
  pub starts : (k : ℕ) → k < length b.entries → (entry_at c k).transaction.start ≡ (entry_at b k).transaction.start + d
  pub anchors : (k : ℕ) → k < length b.entries → (entry_at c k).anchor ≡ renumbered m (entry_at b k).anchor
  pub below : (k n : ℕ) → k < length b.entries → (entry_at b k).anchor ≡ Some n → n < length b.bumps

module _ (s t roots : List ℕ) (fee m d : ℕ) (b c : Beef) (more : OneMore s t m d b c) where
  trusted_still : (n : ℕ) (v : Result Proof) → trusted roots (past m n) v ≡ still_stands m (trusted roots n v)
  unfolding trusted still_stands
  trusted_still n (refused why) = refl
  trusted_still n (accepted p) = go (among p.root (hashes_of roots))
    where
      go : (x : Bool) → pick x (Ok (standing 1 (past m n) p.position)) (Err (carrying UNTRUSTED 0)) ≡ still_stands m (pick x (Ok (standing 1 n p.position)) (Err (carrying UNTRUSTED 0)))
      go true = refl
      go false = refl

  module _ (k : ℕ) (low : k < length b.entries) where
    same_id : entry_id s (entry_at b k) ≡ entry_id t (entry_at c k)
    same_id = id_same s t (entry_at b k).transaction (entry_at c k).transaction (more.transactions k low)

    same-anchored : (a : Option ℕ) → is_anchored a ≡ is_anchored (renumbered m a)
    unfolding renumbered
    same-anchored (Some n) = refl
    same-anchored None = refl

    same_payment : payment_of s (entry_at b k) ≡ payment_of t (entry_at c k)
    same_payment = payment_same s t (entry_at b k) (entry_at c k) (more.transactions k low) (same-anchored (entry_at b k).anchor ∙ ap is_anchored (sym (more.anchors k low)))

    anchoring_still : (earlier : List Payment) (a : Option ℕ) → (entry_at b k).anchor ≡ a
        → anchoring t roots fee c.bumps earlier (entry_at c k) (renumbered m a) ≡ still_stands m (anchoring s roots fee b.bumps earlier (entry_at b k) a)
    unfolding anchoring renumbered still_stands
    anchoring_still earlier (Some n) h =
        ap (trusted roots (past m n)) (ap (proving t (nth_bump c.bumps (past m n))) (sym same_id) ∙ sym (proving-same s t (nth_bump b.bumps n) (nth_bump c.bumps (past m n)) (entry_id s (entry_at b k)) (more.bumps n (more.below k n low h))))
        ∙ trusted_still n (proving s (nth_bump b.bumps n) (entry_id s (entry_at b k)))
    anchoring_still earlier None h =
        ap₂ (λ (x : Bool) (y : Payment). pick x (ruling_of (funded fee earlier y)) (Err (carrying NO_PARENT 0)))
        (sym (rests-same s t (ids_of earlier) (entry_at b k).transaction.inputs (entry_at c k).transaction.inputs (ap (λ (z : TxSaid). z.2) (more.transactions k low)))) (sym same_payment)
        ∙ go (rests s (ids_of earlier) (entry_at b k).transaction.inputs)
      where
        funds : (x y z : Bool) → ruling_of (pick x (pick y (pick z passes (refuses TOO_LITTLE)) (refuses SPENT_TWICE)) (refuses NO_OUTPUT)) ≡ still_stands m (ruling_of (pick x (pick y (pick z passes (refuses TOO_LITTLE)) (refuses SPENT_TWICE)) (refuses NO_OUTPUT)))
        funds true true true = refl
        funds true true false = refl
        funds true false z = refl
        funds false y z = refl

        go : (x : Bool) → pick x (ruling_of (funded fee earlier (payment_of s (entry_at b k)))) (Err (carrying NO_PARENT 0)) ≡ still_stands m (pick x (ruling_of (funded fee earlier (payment_of s (entry_at b k)))) (Err (carrying NO_PARENT 0)))
        go true = unfold funded in funds (exist earlier (payment_of s (entry_at b k)).inputs) (fresh (spends earlier) (payment_of s (entry_at b k)).inputs) (enough fee earlier (payment_of s (entry_at b k)))
        go false = refl

    still_stands_lem : (earlier : List Payment) → ruling t roots fee c.bumps earlier (entry_at c k) ≡ still_stands m (ruling s roots fee b.bumps earlier (entry_at b k))
    unfolding ruling still_stands
    still_stands_lem earlier =
        ap₂ (λ (x : List ℕ) (a : Option ℕ). pick (among x (ids_of earlier)) (Err (carrying SAME_TX 0)) (anchoring t roots fee c.bumps earlier (entry_at c k) a)) (sym same_id) (more.anchors k low)
        ∙ ap (pick (among (entry_id s (entry_at b k)) (ids_of earlier)) (Err (carrying SAME_TX 0))) (anchoring_still earlier (entry_at b k).anchor refl)
        ∙ go (among (entry_id s (entry_at b k)) (ids_of earlier)) (anchoring s roots fee b.bumps earlier (entry_at b k) (entry_at b k).anchor)
      where
        go : (x : Bool) (v : Ruling) → pick x (Err (carrying SAME_TX 0)) (still_stands m v) ≡ still_stands m (pick x (Err (carrying SAME_TX 0)) v)
        go true v = refl
        go false v = refl

    same_row : (st : Standing) → entry_row t (entry_at c k) (renumbered_standing m st) ≡ later m d (entry_row s (entry_at b k) st)
    unfolding entry_row later
    same_row st = rw (← same_id, ← ap (λ (z : TxSaid). z.0) (more.transactions k low), ← ap (λ (z : TxSaid). z.3) (more.transactions k low), more.starts k low)

  pub one_more : judge_entries t roots fee c ≡ each_record (later m d) (judge_entries s roots fee b)
  unfolding judge_entries
  one_more =
      from_like m (later m d) (payment_of s) (payment_of t) (ruling s roots fee b.bumps) (ruling t roots fee c.bumps) (entry_row s) (entry_row t) empty_entry empty_entry [] b.entries c.entries more.count
      (λ k low. record { ids = same_payment k low; rulings = still_stands_lem k low; rows = same_row k low })
