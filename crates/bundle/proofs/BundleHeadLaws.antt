-- Laws of the bundle rule over heads.
use Prim.Native.Nat.{ℕ, zero, suc, ◌+◌, ◌-◌, ◌<◌, ◌≤◌}
use mathlib.Core.Path.{◌≡◌, sym, ap, ◌∙◌}
use mathlib.Core.Bool.{true, false}
use mathlib.Core.List.{List, [], ◌∷◌}
use native.Mathlib.Omega.{arith}
use lib.ListN.{get_or}
use borrow.Author.Tests.{lt-ltb, le-ltb}
use Rattle.std.specs.Prelude.{None, Ok, Err, Some}
use Rattle.format.specs.declared.transaction.Input.{Input}
use Rattle.format.specs.declared.bump.BumpHead.{BumpHead}
use Rattle.path.specs.declared.path.Path.{Path}
use Rattle.format.specs.declared.beef.EntryHead.{EntryHead}
use Rattle.format.specs.Parse.{ok, fault, many}
use Rattle.format.proofs.ParseLaws.{many-told}
use Rattle.format.specs.Bytes.{hash_at}
use Rattle.path.specs.Path.{bump_path_of}
use Rattle.format.specs.Transaction.{input_field, takes, output_field}
use Rattle.bundle.specs.Amounts.{total}
use Rattle.format.specs.BeefAnswer.{no_bump}
use Rattle.format.specs.Refusals.{UNTRUSTED, BAD_INDEX, SAME_TX, NO_PARENT, MAX_BUMPS}
use Rattle.spv.specs.declared.prove.Proved.{Proved}
use Rattle.spv.specs.declared.rejection.Rejection.{Rejection}
use Rattle.spv.specs.Result.{Result, accepted, refused, carrying}
use Rattle.spv.specs.Prove.{prove, Proof}
use Rattle.spv.specs.Readings.{path_reading}
use Rattle.spv.specs.Shapes.{proved_of, accepted_of}
use Rattle.spv.specs.Hashes.{hashes_of, among}
use Rattle.bundle.specs.Bundle.{trusted, Ruling, standing}
use Rattle.format.proofs.Basics.{one_less}
use Rattle.bundle.specs.BundleHeads.{total_from, rests_from, head_proving, head_anchoring, head_ruling, head_id, head_stands}

-- a search for parents that has passed i of n inputs
module _ (s : List ℕ) (ids : List (List ℕ)) (n i at : ℕ) where
  pub parents-refused : {k q : ℕ} → i < n → input_field s at ≡ fault k q → rests_from s ids (n - i) at ≡ false
  unfolding rests_from
  parents-refused low e = rw (one_less n i low) (rw e)

  pub parents-missing : {input : Input} {q : ℕ} {x : List ℕ} → i < n → input_field s at ≡ ok input q → x ≡ hash_at s input.parent → among x ids ≡ false
      → rests_from s ids (n - i) at ≡ false
  unfolding rests_from
  parents-missing low e is h = rw (one_less n i low) (rw (e, ← is) (rw h))

  pub parents_on : {input : Input} {q : ℕ} {x : List ℕ} → i < n → input_field s at ≡ ok input q → x ≡ hash_at s input.parent → among x ids ≡ true
      → rests_from s ids (n - i) at ≡ rests_from s ids (n - (i + 1)) q
  unfolding rests_from
  parents_on low e is h = rw (one_less n i low) (rw (e, ← is) (rw h))

  pub parents-end : n ≤ i → rests_from s ids (n - i) at ≡ true
  unfolding rests_from
  parents-end past = let none : n - i ≡ 0 = omega arith in rw none

-- a sum of outputs that has passed i of n
module _ (s : List ℕ) (n i t at : ℕ) where
  pub total-refused : {k q : ℕ} → i < n → output_field (takes true t) s at ≡ fault k q → total_from s (n - i) t at ≡ t
  unfolding total_from
  total-refused low e = rw (one_less n i low) (rw e)

  pub total_on : {a q : ℕ} → i < n → output_field (takes true t) s at ≡ ok a q → total_from s (n - i) t at ≡ total_from s (n - (i + 1)) (t + a) q
  unfolding total_from
  total_on low e = rw (one_less n i low) (rw e)

  pub total-end : n ≤ i → total_from s (n - i) t at ≡ t
  unfolding total_from
  total-end past = let none : n - i ≡ 0 = omega arith in rw none

-- outputs that were read have their total
pub total-again : (s : List ℕ) (n t at : ℕ) {l : List ℕ} {q : ℕ} → many (λ t. output_field (takes true t)) ◌+◌ n t s at ≡ ok l q → total_from s n t at ≡ t + total l
unfolding many total_from total
total-again s zero t at {l} e = let none : [] ≡ l = cc in rw (← none) (omega arith)
total-again s (suc n) t at {l} e =
    let x = many-told (λ t. output_field (takes true t)) ◌+◌ n t s at e in
    more x.0 x.1 x.2 x.3 (total-again s n (t + x.0) x.1 x.4) x.5
  where
    more : (a r : ℕ) (rest : List ℕ) → output_field (takes true t) s at ≡ ok a r → total_from s n (t + a) r ≡ (t + a) + total rest → a ∷ rest ≡ l → total_from s (suc n) t at ≡ t + total l
    more a r rest h f is = rw (h, ← is) (omega arith)

-- an id by the path of a BUMP's head
pub head_proving_lem : (s id : List ℕ) (head : BumpHead) {path : Path} → path ≡ bump_path_of s head → prove (path_reading s path id) ≡ head_proving s head id
unfolding head_proving
head_proving_lem s id head h = ap (λ (x : Path). prove (path_reading s x id)) h

-- an anchored transaction, by the answer of proving
module _ (roots : List ℕ) (n : ℕ) where
  pub trusted-refused : (v : Result Proof) (why : Rejection) → Err why ≡ proved_of v → trusted roots n v ≡ Err why
  unfolding trusted
  trusted-refused (accepted p) why e = cc
  trusted-refused (refused x) why e = cc

  pub trusted-listed : (v : Result Proof) (r : Proved) → Ok r ≡ proved_of v → among r.root (hashes_of roots) ≡ true → trusted roots n v ≡ Ok (standing 1 n r.position)
  unfolding trusted
  trusted-listed (refused why) r e g = cc
  trusted-listed (accepted p) r e g =
      let same : r ≡ accepted_of p.position p.layers p.id p.root = cc in
      let root : p.root ≡ r.root = sym (ap (λ (x : Proved). x.root) same) in
      let at : p.position ≡ r.position = sym (ap (λ (x : Proved). x.position) same) in
      rw (root, g, at)

  pub trusted-not : (v : Result Proof) (r : Proved) → Ok r ≡ proved_of v → among r.root (hashes_of roots) ≡ false → trusted roots n v ≡ Err (carrying UNTRUSTED 0)
  unfolding trusted
  trusted-not (refused why) r e g = cc
  trusted-not (accepted p) r e g =
      let same : r ≡ accepted_of p.position p.layers p.id p.root = cc in
      let root : p.root ≡ r.root = sym (ap (λ (x : Proved). x.root) same) in
      rw (root, g)

-- one transaction
module _ (s roots : List ℕ) (bumps : List BumpHead) (earlier : List (List ℕ)) (id : List ℕ) (e : EntryHead) where
  pub stands-again : among id earlier ≡ true → head_ruling s roots bumps earlier id e ≡ Err (carrying SAME_TX 0)
  unfolding head_ruling
  stands-again h = rw h

  module _ (new : among id earlier ≡ false) where
    pub stands_mined : (n : ℕ) → e.anchor ≡ Some n → n < MAX_BUMPS → head_ruling s roots bumps earlier id e ≡ trusted roots n (head_proving s (get_or bumps n no_bump) id)
    unfolding head_ruling head_anchoring
    stands_mined n a low = rw (new, a) (rw (lt-ltb n MAX_BUMPS low))

    pub stands_nowhere : (n : ℕ) → e.anchor ≡ Some n → MAX_BUMPS ≤ n → head_ruling s roots bumps earlier id e ≡ Err (carrying BAD_INDEX 0)
    unfolding head_ruling head_anchoring
    stands_nowhere n a past = rw (new, a) (rw (le-ltb n MAX_BUMPS past))

    pub stands_child : e.anchor ≡ None → rests_from s earlier e.transaction.inputs.count e.transaction.inputs.at.at ≡ true
        → head_ruling s roots bumps earlier id e ≡ Ok (standing 0 0 0)
    unfolding head_ruling head_anchoring
    stands_child a h = rw (new, a) (rw h)

    pub stands_orphan : e.anchor ≡ None → rests_from s earlier e.transaction.inputs.count e.transaction.inputs.at.at ≡ false
        → head_ruling s roots bumps earlier id e ≡ Err (carrying NO_PARENT 0)
    unfolding head_ruling head_anchoring
    stands_orphan a h = rw (new, a) (rw h)

-- what the answer for a transaction says of it
pub head_told : (s roots : List ℕ) (bumps : List BumpHead) (earlier : List (List ℕ)) (e : EntryHead) {id : List ℕ} {t x : Ruling}
    → id ≡ head_id s e → t ≡ head_ruling s roots bumps earlier id e → t ≡ x → head_stands s roots bumps earlier e ≡ x
head_told s roots bumps earlier e i h is = ap (λ (y : List ℕ). head_ruling s roots bumps earlier y e) (sym i) ∙ sym h ∙ is
