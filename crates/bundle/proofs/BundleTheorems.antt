-- What the bundle rule promises: the transactions of a bundle are accepted exactly when each is new in it and is mined under a listed root, or has each
-- parent earlier in the bundle and pays (02, Item 9).
use Prim.Native.Nat.{ℕ, zero, suc, ◌<◌, ◌≤◌}
use mathlib.Core.Path.{◌≡◌, refl, sym, ap, ◌∙◌}
use mathlib.Core.Bool.{Bool, true, false, ◌&&◌}
use mathlib.Core.List.{List, [], ◌∷◌, map}
use mathlib.Core.Logic.{◌⊎◌, inl, inr}
use native.Mathlib.Decide.{dec_lt}
use native.Mathlib.Omega.{arith}
use lib.ListN.{length, get_or, take, length-take, length-map}
use lib.Seq.{get_or-take}
use Rattle.std.specs.Prelude.{Option, None, Ok, Err, Some}
use Rattle.format.specs.declared.transaction.Input.{Input}
use Rattle.format.specs.Parse.{pick}
use Rattle.format.specs.Bytes.{hash_at}
use Rattle.format.specs.Beef.{BeefEntry, Beef}
use Rattle.format.specs.Refusals.{UNTRUSTED, SAME_TX, NO_PARENT}
use Rattle.bundle.specs.declared.table.Record.{Record}
use Rattle.spv.specs.Result.{Result, accepted, refused, carrying}
use Rattle.spv.specs.Prove.{Proof}
use Rattle.bundle.specs.Table.{blank_record}
use Rattle.spv.specs.Hashes.{hashes_of, among, Among}
use Rattle.spv.proofs.HashesLaws.{among-told, told-among}
use Rattle.bundle.specs.Amounts.{Payment, payment_of, ids_of, is_anchored, exist, fresh, spends, enough, funded, passes, refuses}
use Rattle.bundle.proofs.AmountLaws.{Funded, funded-told, told-funded}
use Rattle.bundle.proofs.AmountsExactly.{Pays, funded_pays, pays_funded}
use Rattle.bundle.specs.declared.judge.Standing.{Standing}
use Rattle.bundle.specs.Bundle.{rests, trusted, proving, nth_bump, entry_id, ruling_of, anchoring, ruling, entry_row, judge_entries, standing}
use Rattle.bundle.proofs.BundleLaws.{accepted-passed, all-accepted}
use Rattle.spv.proofs.RowsLaws.{map_at}
use Rattle.bundle.specs.Payments.{no_payment, Different}

-- ---- being among ids

-- among the ids of the first k transactions is the id of one of them
module _ {A : Type 0} (id : A → List ℕ) (l : List A) (d : A) (k : ℕ) (few : k ≤ length l) (x : List ℕ) where
  first-at : (j : ℕ) → j < k → get_or (map id (take k l)) j [] ≡ id (get_or l j d)
  first-at j h = map_at id (take k l) j d [] (rw length-take (omega (arith, few))) ∙ ap id (get_or-take k l j d h)

  pub earlier-told : among x (map id (take k l)) ≡ true → (j : ℕ) × (j < k) × (id (get_or l j d) ≡ x)
  earlier-told e = go (among-told x (map id (take k l)) e)
    where
      go : Among x (map id (take k l)) → (j : ℕ) × (j < k) × (id (get_or l j d) ≡ x)
      go (j, h, m) = let low : j < k = omega (arith, h, length-map (take k l) id, length-take k l, few) in (j, low, sym (first-at j low) ∙ m)

  pub told-earlier : (j : ℕ) → j < k → id (get_or l j d) ≡ x → among x (map id (take k l)) ≡ true
  told-earlier j h e = told-among x (map id (take k l)) (j, omega (arith, h, length-map (take k l) id, length-take k l, few), first-at j h ∙ e)

-- ---- how one transaction stands

abbrev pub no_input : Input
no_input = record { parent = 0; output = 0 }

-- each input has its parent among the ids
module _ (s : List ℕ) (ids : List (List ℕ)) where
  pub rests-told : (inputs : List Input) → rests s ids inputs ≡ true → (m : ℕ) → m < length inputs → among (hash_at s (get_or inputs m no_input).parent) ids ≡ true
  unfolding rests
  rests-told [] e m h = absurd (omega arith)
  rests-told (x ∷ l) e m h = go (among (hash_at s x.parent) ids) refl e m h (rests-told l)
    where
      go : (t : Bool) → among (hash_at s x.parent) ids ≡ t → (t && rests s ids l) ≡ true → (m : ℕ) → m < suc (length l)
          → (rests s ids l ≡ true → (m : ℕ) → m < length l → among (hash_at s (get_or l m no_input).parent) ids ≡ true)
          → among (hash_at s (get_or (x ∷ l) m no_input).parent) ids ≡ true
      go true q e zero h f = q
      go true q e (suc m) h f = f e m (omega arith)
      go false q e m h f = absurd (let z : ◌≡◌ {A = ℕ} 0 1 = cc in omega arith)

  pub told-rests : (inputs : List Input) → ((m : ℕ) → m < length inputs → among (hash_at s (get_or inputs m no_input).parent) ids ≡ true) → rests s ids inputs ≡ true
  unfolding rests
  told-rests [] f = refl
  told-rests (x ∷ l) f = rw (f 0 (omega arith)) (told-rests l (λ m h. f (suc m) (omega arith)))

-- an anchored transaction passes exactly if it is proved and its root is listed
pub trusted-told : (roots : List ℕ) (m : ℕ) (v : Result Proof) (st : Standing) → trusted roots m v ≡ Ok st
    → (p : Proof) × (v ≡ accepted p) × (among p.root (hashes_of roots) ≡ true) × (st ≡ standing 1 m p.position)
unfolding trusted
trusted-told roots m (refused why) st e = absurd (let z : ◌≡◌ {A = ℕ} 0 1 = cc in omega arith)
trusted-told roots m (accepted p) st e = go (among p.root (hashes_of roots)) refl e
  where
    go : (t : Bool) → among p.root (hashes_of roots) ≡ t → pick t (Ok (standing 1 m p.position)) (Err (carrying UNTRUSTED 0)) ≡ Ok st
        → (x : Proof) × (accepted p ≡ accepted x) × (among x.root (hashes_of roots) ≡ true) × (st ≡ standing 1 m x.position)
    go true h e = (p, refl, h, cc)
    go false h e = absurd (let z : ◌≡◌ {A = ℕ} 0 1 = cc in omega arith)

-- a transaction that is not anchored passes in one way
pub funded-only : (fee : ℕ) (earlier : List Payment) (t : Payment) (st : Standing) → ruling_of (funded fee earlier t) ≡ Ok st → (funded fee earlier t ≡ passes) × (st ≡ standing 0 0 0)
unfolding funded
funded-only fee earlier t st e = go (exist earlier t.inputs) (fresh (spends earlier) t.inputs) (enough fee earlier t) e
  where
    go : (x y z : Bool) → ruling_of (pick x (pick y (pick z passes (refuses 28)) (refuses 27)) (refuses 26)) ≡ Ok st → (pick x (pick y (pick z passes (refuses 28)) (refuses 27)) (refuses 26) ≡ passes) × (st ≡ standing 0 0 0)
    go true true true e = (refl, cc)
    go true true false e = absurd (let z : ◌≡◌ {A = ℕ} 0 1 = cc in omega arith)
    go true false z e = absurd (let z : ◌≡◌ {A = ℕ} 0 1 = cc in omega arith)
    go false y z e = absurd (let z : ◌≡◌ {A = ℕ} 0 1 = cc in omega arith)

pub told-trusted : (roots : List ℕ) (m : ℕ) (v : Result Proof) (p : Proof) → v ≡ accepted p → among p.root (hashes_of roots) ≡ true → trusted roots m v ≡ Ok (standing 1 m p.position)
unfolding trusted
told-trusted roots m v p e h = rw e (rw h)

-- ---- a bundle

abbrev pub empty_entry : BeefEntry
empty_entry = record { transaction = record { start = 0; end = 0; inputs_at = 0; inputs = []; outputs_at = 0; outputs = [] }; anchor = None }

pub take-map : {A B : Type 0} (f : A → B) (k : ℕ) (l : List A) → take k (map f l) ≡ map f (take k l)
take-map f zero l = refl
take-map f (suc k) [] = refl
take-map f (suc k) (x ∷ l) = ap (f x ∷◌) (take-map f k l)

-- what counts of transactions has their ids
pub ids_are : (s : List ℕ) (l : List BeefEntry) → ids_of (map (payment_of s) l) ≡ map (entry_id s) l
unfolding payment_of
ids_are s [] = refl
ids_are s (e ∷ l) = ap (entry_id s e ∷◌) (ids_are s l)

module _ (s roots : List ℕ) (fee : ℕ) (b : Beef) where
  abbrev pub nth : ℕ → BeefEntry
  nth k = get_or b.entries k empty_entry

  abbrev pub id_at : ℕ → List ℕ
  id_at k = entry_id s (nth k)

  abbrev pub inputs_at : ℕ → List Input
  inputs_at k = (nth k).transaction.inputs

  -- what counts of the transactions
  abbrev pub payments : List Payment
  payments = map (payment_of s) b.entries

  -- no earlier transaction has its id
  abbrev pub New : ℕ → Type 0
  New k = (j : ℕ) → j < k → id_at j ≡ id_at k → ⊥

  -- it is anchored and climbs in its BUMP to a listed root
  pub record Mined (k : ℕ) : Type 0 where
    pub bump : ℕ
    pub proof : Proof
    pub anchored : (nth k).anchor ≡ Some bump
    pub climbs : proving s (nth_bump b.bumps bump) (id_at k) ≡ accepted proof
    pub listed : Among proof.root (hashes_of roots)

  -- it is not anchored, each of its parents is an earlier transaction, and it pays
  pub record Child (k : ℕ) : Type 0 where
    pub unanchored : (nth k).anchor ≡ None
    pub parent : ℕ → ℕ
    pub earlier : (m : ℕ) → m < length (inputs_at k) → parent m < k
    pub named : (m : ℕ) → m < length (inputs_at k) → id_at (parent m) ≡ hash_at s (get_or (inputs_at k) m no_input).parent
    pub pays : Pays fee payments k

  abbrev pub Stands : ℕ → Type 0
  Stands k = New k × (Mined k ⊎ Child k)

  abbrev ids : ℕ → List (List ℕ)
  ids k = map (entry_id s) (take k b.entries)

  abbrev before : ℕ → List Payment
  before k = map (payment_of s) (take k b.entries)

  payment_at : (k : ℕ) → k < length b.entries → get_or payments k no_payment ≡ payment_of s (nth k)
  payment_at k low = map_at (payment_of s) b.entries k empty_entry no_payment low

  is-unanchored : (k : ℕ) → k < length b.entries → (nth k).anchor ≡ None → (get_or payments k no_payment).anchored ≡ false
  unfolding payment_of
  is-unanchored k low u = ap (λ (t : Payment). t.anchored) (payment_at k low) ∙ ap is_anchored u

  -- it passes after those before it
  abbrev PassesAt : ℕ → Type 0
  PassesAt k = (st : Standing) × (ruling s roots fee b.bumps (before k) (nth k) ≡ Ok st)

  child_of : (k : ℕ) → k < length b.entries → (nth k).anchor ≡ None → rests s (ids k) (inputs_at k) ≡ true → funded fee (before k) (payment_of s (nth k)) ≡ passes → Child k
  child_of k low u e f = record {
    unanchored = u;
    parent = λ m. find m (dec_lt m (length (inputs_at k)));
    earlier = λ m h. below m h (dec_lt m (length (inputs_at k)));
    named = λ m h. same_id m h (dec_lt m (length (inputs_at k)));
    pays = funded_pays fee payments k (omega (arith, low, length-map b.entries (payment_of s))) (is-unanchored k low u)
        (rw (take-map (payment_of s) k b.entries, payment_at k low) (funded-told fee (before k) (payment_of s (nth k)) f));
  }
    where
      found : (m : ℕ) → m < length (inputs_at k) → (j : ℕ) × (j < k) × (id_at j ≡ hash_at s (get_or (inputs_at k) m no_input).parent)
      found m h = earlier-told (entry_id s) b.entries empty_entry k (omega arith) (hash_at s (get_or (inputs_at k) m no_input).parent) (rests-told s (ids k) (inputs_at k) e m h)

      find : (m : ℕ) → Dec (m < length (inputs_at k)) → ℕ
      find m (yes h) = (found m h).0
      find m (no h) = 0

      below : (m : ℕ) → m < length (inputs_at k) → (t : Dec (m < length (inputs_at k))) → find m t < k
      below m h (yes g) = (found m g).1
      below m h (no g) = absurd (g h)

      same_id : (m : ℕ) → m < length (inputs_at k) → (t : Dec (m < length (inputs_at k))) → id_at (find m t) ≡ hash_at s (get_or (inputs_at k) m no_input).parent
      same_id m h (yes g) = (found m g).2
      same_id m h (no g) = absurd (g h)

  -- how it passed: by its BUMP and its position there, or as a child
  abbrev As : (k : ℕ) (st : Standing) → Mined k ⊎ Child k → Type 0
  As k st (inl m) = st ≡ standing 1 m.bump m.proof.position
  As k st (inr c) = st ≡ standing 0 0 0

  passed-stands : (k : ℕ) (st : Standing) → k < length b.entries → ruling s roots fee b.bumps (before k) (nth k) ≡ Ok st → New k × ((w : Mined k ⊎ Child k) × As k st w)
  unfolding ruling anchoring
  passed-stands k st low e = go (among (id_at k) (ids k)) refl (rw (ids_are s (take k b.entries)) at e)
    where
      new : among (id_at k) (ids k) ≡ false → New k
      new h j l m =
          let t = told-earlier (entry_id s) b.entries empty_entry k (omega arith) (id_at k) j l m in
          let z : ◌≡◌ {A = ℕ} 0 1 = cc in
          omega arith

      child : (nth k).anchor ≡ None → (t : Bool) → rests s (ids k) (inputs_at k) ≡ t → pick t (ruling_of (funded fee (before k) (payment_of s (nth k)))) (Err (carrying NO_PARENT 0)) ≡ Ok st → (w : Mined k ⊎ Child k) × As k st w
      child u true q h = by_funds (funded-only fee (before k) (payment_of s (nth k)) st h)
        where
          by_funds : (funded fee (before k) (payment_of s (nth k)) ≡ passes) × (st ≡ standing 0 0 0) → (w : Mined k ⊎ Child k) × As k st w
          by_funds (f, x) = (inr (child_of k low u q f), x)
      child u false q h = absurd (let z : ◌≡◌ {A = ℕ} 0 1 = cc in omega arith)

      by_anchor : (x : Option ℕ) → (nth k).anchor ≡ x → anchoring s roots fee b.bumps (before k) (nth k) x ≡ Ok st → (w : Mined k ⊎ Child k) × As k st w
      by_anchor (Some m) u h =
          let w = trusted-told roots m (proving s (nth_bump b.bumps m) (id_at k)) st h in
          (inl (record { bump = m; proof = w.0; anchored = u; climbs = w.1; listed = among-told w.0.root (hashes_of roots) w.2 }), w.3)
      by_anchor None u h = child u (rests s (ids k) (inputs_at k)) refl (rw (ids_are s (take k b.entries)) at h)

      go : (t : Bool) → among (id_at k) (ids k) ≡ t → pick t (Err (carrying SAME_TX 0)) (anchoring s roots fee b.bumps (before k) (nth k) (nth k).anchor) ≡ Ok st → New k × ((w : Mined k ⊎ Child k) × As k st w)
      go true h m = absurd (let z : ◌≡◌ {A = ℕ} 0 1 = cc in omega arith)
      go false h m = (new h, by_anchor (nth k).anchor refl m)

  all-different : ((k : ℕ) → k < length b.entries → New k) → Different payments
  unfolding payment_of
  all-different f j k a h e =
      let low : k < length b.entries = omega (arith, h, length-map b.entries (payment_of s)) in
      f k low j a (ap (λ (t : Payment). t.id) (sym (payment_at j (omega arith))) ∙ e ∙ ap (λ (t : Payment). t.id) (payment_at k low))

  stands-passed : Different payments → (k : ℕ) → k < length b.entries → Stands k → PassesAt k
  unfolding ruling anchoring
  stands-passed different k low (new, w) = by (among (id_at k) (ids k)) refl w
    where
      ids_is : ids_of (before k) ≡ ids k
      ids_is = ids_are s (take k b.entries)

      by : (t : Bool) → among (id_at k) (ids k) ≡ t → Mined k ⊎ Child k → PassesAt k
      by true h w =
          let t = earlier-told (entry_id s) b.entries empty_entry k (omega arith) (id_at k) h in
          absurd (new t.0 t.1 t.2)
      by false h (inl m) = (
        standing 1 m.bump m.proof.position,
        rw (ids_is, h, m.anchored) (told-trusted roots m.bump (proving s (nth_bump b.bumps m.bump) (id_at k)) m.proof m.climbs (told-among m.proof.root (hashes_of roots) m.listed)),
      )
      by false h (inr c) =
          let all : rests s (ids k) (inputs_at k) ≡ true = told-rests s (ids k) (inputs_at k) (λ m l. told-earlier (entry_id s) b.entries empty_entry k (omega arith) (hash_at s (get_or (inputs_at k) m no_input).parent) (c.parent m) (c.earlier m l) (c.named m l)) in
          (standing 0 0 0, rw (ids_is, h, c.unanchored) (rw (ids_is, all) (ap ruling_of (told-funded fee (before k) (payment_of s (nth k)) paid))))
        where
          paid : Funded fee (before k) (payment_of s (nth k))
          paid = rw (take-map (payment_of s) k b.entries, payment_at k low) at (pays_funded fee payments k (omega (arith, low, length-map b.entries (payment_of s))) (is-unanchored k low c.unanchored) different c.pays)

  -- what the k-th record says
  abbrev pub Recorded : List Record → (k : ℕ) → Mined k ⊎ Child k → Type 0
  Recorded records k (inl m) = get_or records k blank_record ≡ entry_row s (nth k) (standing 1 m.bump m.proof.position)
  Recorded records k (inr c) = get_or records k blank_record ≡ entry_row s (nth k) (standing 0 0 0)

  -- accepted exactly when every transaction stands, and its record then says how
  pub accepted_recorded : (records : List Record) → judge_entries s roots fee b ≡ accepted records → (k : ℕ) → k < length b.entries
      → New k × ((w : Mined k ⊎ Child k) × Recorded records k w)
  unfolding judge_entries
  accepted_recorded records e k low =
      let w = accepted-passed (payment_of s) (ruling s roots fee b.bumps) (entry_row s) empty_entry blank_record [] b.entries records e k low in
      let x = passed-stands k w.stood low w.passed in
      (x.0, (x.1.0, said w.stood x.1.0 x.1.1 w.recorded))
    where
      said : (st : Standing) (w : Mined k ⊎ Child k) → As k st w → get_or records k blank_record ≡ entry_row s (nth k) st → Recorded records k w
      said st (inl m) x r = rw x at r
      said st (inr c) x r = rw x at r

  pub stands-accepted : ((k : ℕ) → k < length b.entries → Stands k) → (records : List Record) × (judge_entries s roots fee b ≡ accepted records)
  unfolding judge_entries
  stands-accepted f =
      all-accepted (payment_of s) (ruling s roots fee b.bumps) (entry_row s) empty_entry blank_record [] b.entries (λ k low. stands-passed (all-different (λ k low. (f k low).0)) k low (f k low))

  -- what acceptance says of all: the ids differ
  pub accepted-different : (records : List Record) → judge_entries s roots fee b ≡ accepted records → Different payments
  accepted-different records e = all-different (λ k low. (accepted_recorded records e k low).0)
