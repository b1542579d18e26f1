-- Laws of what the code's answers say.
use Rattle.std.proofs.Common.{◌≡◌, ℕ, List, true, false, ◌&&◌, eqb, Some, None, Ok, Err, refl, ap, ap₂, sym, ◌∙◌}
use Rattle.format.specs.declared.tsc.TscHead.{TscHead}
use Rattle.format.specs.Refusals.{UNLIKE, SAME_ID}
use Rattle.format.specs.Parse.{ok}
use Rattle.format.specs.Tsc.{Tsc, tsc_whole, tsc_head_of, tells_root, target_root}
use Rattle.path.specs.TscPath.{tsc_path_of}
use Rattle.format.specs.Bytes.{same}
use Rattle.path.specs.Subject.{subject_hash}
use Rattle.spv.specs.Result.{Result, accepted, refused, carrying}
use Rattle.spv.specs.Climb.{ascend, preimages_of}
use Rattle.spv.specs.Compare.{Met, meets, never, strings_of, alike, against, meet}
use Rattle.spv.proofs.CompareLaws.{prove-accepted, alike-told, against_unlike, against-same, against-meet}
use Rattle.spv.specs.Siblings.{path_siblings}
use Rattle.spv.specs.Readings.{tsc_target, tsc_reading}
use Rattle.spv.proofs.ReadingsLaws.{tsc_proves}
use Rattle.spv.proofs.ResultLaws.{answered-ok, answered-err}
use Rattle.spv.specs.Shapes.{accepted_of, proved_of, climbed_of, meeting_of, bound_to, opened, claim_proof}
use Rattle.spv.specs.declared.rejection.Rejection.{Rejection}
use Rattle.spv.specs.declared.prove.Claim.{Claim}
use Rattle.spv.specs.declared.prove.Proved.{Proved}
use Rattle.spv.specs.declared.compare.Pair.{Pair}
use Rattle.spv.specs.Prove.{target_of, Proof, prove}

-- ---- two climbs

pub told-met : (m : Met) (p : Pair) → Some p ≡ meeting_of m → m ≡ meets p.first p.second
told-met (meets t u) p e = cc
told-met never p e = cc

pub told-never : (m : Met) → None ≡ meeting_of m → m ≡ never
told-never (meets t u) e = cc
told-never never e = refl

-- ---- one proof

-- a claim made of a TSC proof's head
pub tsc_claim : (s : List ℕ) (x : Claim) (h : TscHead) (t : Tsc) (q : ℕ) → tsc_whole s ≡ ok t q → tsc_head_of t ≡ h
    → x.path ≡ tsc_path_of s h → x.position ≡ h.index → x.id ≡ subject_hash s h.subject → bound_to x.target ≡ target_of (tells_root h.flags) (target_root s h.flags h.target)
    → prove (opened s x) ≡ prove (tsc_reading s)
unfolding opened tsc_target
tsc_claim s x h t q e eh ep ei ec et = rw (ep, ei, ec, et, ← eh) (tsc_proves s t q e)

-- what the answer of a climb says
pub told-root : (o : Result (List ℕ)) (r : List ℕ) → Ok r ≡ climbed_of o → o ≡ accepted r
told-root o r e = let k = answered-ok (λ (x : List ℕ). x) o r e in k.1 ∙ ap accepted k.2

pub told-stop : (o : Result (List ℕ)) (why : Rejection) → Err why ≡ climbed_of o → o ≡ refused why
told-stop o why e = answered-err (λ (x : List ℕ). x) o why e

-- what an answer of proving says
pub told-accepted : (v : Result Proof) (r : Proved) → Ok r ≡ proved_of v → (p : Proof) × (v ≡ accepted p) × (p.root ≡ r.root) × (p.position ≡ r.position) × (p.layers ≡ r.layers) × (p.id ≡ r.id)
told-accepted v r e =
    let k = answered-ok (λ (p : Proof). accepted_of p.position p.layers p.id p.root) v r e in
    (k.0, k.1, ap (λ (q : Proved). q.root) k.2, ap (λ (q : Proved). q.position) k.2, ap (λ (q : Proved). q.layers) k.2, ap (λ (q : Proved). q.id) k.2)

pub told_unproved : (v : Result Proof) (why : Rejection) → Err why ≡ proved_of v → v ≡ refused why
told_unproved v why e = answered-err (λ (p : Proof). accepted_of p.position p.layers p.id p.root) v why e

-- an accepted claim, by its root
pub claim_accepted : (s : List ℕ) (x : Claim) (r : Proved) → Ok r ≡ proved_of (prove (opened s x)) → prove (opened s x) ≡ accepted (claim_proof s x r.root)
unfolding opened claim_proof
claim_accepted s x r e =
    let a = told-accepted (prove (opened s x)) r e in
    let b = prove-accepted (path_siblings s x.path) x.path.layers x.position x.id (bound_to x.target) a.0 a.1 in
    a.1 ∙ ap accepted (b.0 ∙ ap (λ (root : List ℕ). claim_proof s x root) a.2)

-- ---- two proofs

module _ (s t : List ℕ) (x y : Claim) (rx ry : List ℕ) (e : (same rx ry && (eqb x.position y.position && eqb x.path.layers y.path.layers)) ≡ true) where
  pub claims_layers : x.path.layers ≡ y.path.layers
  unfolding alike claim_proof
  claims_layers = (alike-told (claim_proof s x rx) (claim_proof t y ry) e).2

  pub claims_same : same x.id y.id ≡ true → against (claim_proof s x rx) (claim_proof t y ry) ≡ refused (carrying SAME_ID 0)
  unfolding alike claim_proof
  claims_same f = against-same (claim_proof s x rx) (claim_proof t y ry) e f

  -- where climbs of the first's position over the first's layers meet
  pub claims_meet : same x.id y.id ≡ false → (m : Met)
      → meet (preimages_of (ascend (path_siblings s x.path) 0 x.path.layers x.position x.id)) (preimages_of (ascend (path_siblings t y.path) 0 x.path.layers x.position y.id)) ≡ m
      → against (claim_proof s x rx) (claim_proof t y ry) ≡ strings_of m
  unfolding alike claim_proof
  claims_meet f m g =
      let k = alike-told (claim_proof s x rx) (claim_proof t y ry) e in
      against-meet (claim_proof s x rx) (claim_proof t y ry) e f
      ∙ ap (λ (us : List (List ℕ)). strings_of (meet (preimages_of (ascend (path_siblings s x.path) 0 x.path.layers x.position x.id)) us))
      (ap₂ (λ (h i : ℕ). preimages_of (ascend (path_siblings t y.path) 0 h i y.id)) (sym k.2) (sym k.1))
      ∙ ap strings_of g

pub claims_unlike : (s t : List ℕ) (x y : Claim) (rx ry : List ℕ) → (same rx ry && (eqb x.position y.position && eqb x.path.layers y.path.layers)) ≡ false
    → against (claim_proof s x rx) (claim_proof t y ry) ≡ refused (carrying UNLIKE 0)
unfolding alike claim_proof
claims_unlike s t x y rx ry e = against_unlike (claim_proof s x rx) (claim_proof t y ry) e
