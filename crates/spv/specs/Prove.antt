-- What a proof proves (01, "The climb"), whatever its form.
use Rattle.std.specs.Prelude.{ℕ, Bool, true, false, List}
use Rattle.hash.specs.Sha256.{sha256d}
use Rattle.format.specs.Bytes.{same}
use Rattle.format.specs.Parse.{pick}
use Rattle.format.specs.Refusals.{ROOTS_DIFFER}
use Rattle.spv.specs.declared.rejection.Rejection.{Rejection}
use Rattle.spv.specs.Result.{Result, accepted, refused, carrying}
use Rattle.spv.specs.Climb.{Sibling, Siblings, ascend_by, end_by, preimages_of, siblings_of}

-- what the root must be besides: a TSC proof's root or header target
pub data Target : Type 0 where
  any : Target
  bound : List ℕ → Target

-- bound to a root, or not
unfoldable pub target_of : Bool → List ℕ → Target
target_of true w = bound w
target_of false w = any

-- a proof as its reading gives it: a refusal, or siblings, layers, position, id and target
pub data Reading : Type 0 where
  unread : Rejection → Reading
  read : Siblings → ℕ → ℕ → List ℕ → Target → Reading

-- an accepted proof: what it proves, and of its climb the strings hashed and the siblings taken
pub record Proof : Type 0 where
  pub id : List ℕ
  pub position : ℕ
  pub layers : ℕ
  pub root : List ℕ
  pub preimages : List (List ℕ)
  pub siblings : List Sibling

unfoldable pub hits : Target → List ℕ → Bool
hits any r = true
hits (bound w) r = same w r

-- 14 or 15, then 16
unfoldable pub settle : Target → (List ℕ → Proof) → Result (List ℕ) → Result Proof
settle w accept (refused x) = refused x
settle w accept (accepted r) = pick (hits w r) (accepted (accept r)) (refused (carrying ROOTS_DIFFER 0))

-- the proof of c at position i over h layers, with its root
abbrev pub proof_by : (List ℕ → List ℕ) → Siblings → ℕ → ℕ → List ℕ → List ℕ → Proof
proof_by hash σ h i c r = record { id = c; position = i; layers = h; root = r; preimages = preimages_of (ascend_by hash σ 0 h i c); siblings = siblings_of (ascend_by hash σ 0 h i c) }

-- accepted when neither its reading nor its climb is refused, 16 included
unfoldable pub prove_by : (List ℕ → List ℕ) → Reading → Result Proof
prove_by hash (unread x) = refused x
prove_by hash (read σ h i c w) = settle w (proof_by hash σ h i c) (end_by hash c (ascend_by hash σ 0 h i c))

-- "Hash" is double SHA-256
abbrev pub proof_of : Siblings → ℕ → ℕ → List ℕ → List ℕ → Proof
proof_of = proof_by sha256d

abbrev pub prove : Reading → Result Proof
prove = prove_by sha256d
