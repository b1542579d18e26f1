-- Two proofs compared (01, "Two climbs"), whatever their forms.
use Rattle.std.specs.Prelude.{ℕ, ◌<◌, ◌≡◌, Bool, true, false, ◌&&◌, List, [], ◌∷◌, length, get_or, eqb}
use Rattle.hash.specs.Sha256.{sha256d}
use Rattle.format.specs.Bytes.{same}
use Rattle.format.specs.Parse.{pick}
use Rattle.format.specs.Refusals.{UNLIKE, SAME_ID}
use Rattle.spv.specs.Result.{Result, accepted, refused, carrying}
use Rattle.spv.specs.Prove.{Proof}

-- the strings of two climbs at the lowest layer where the hashes made are equal
pub data Met : Type 0 where
  meets : List ℕ → List ℕ → Met
  never : Met

unfoldable pub meet_by : (List ℕ → List ℕ) → List (List ℕ) → List (List ℕ) → Met
meet_by hash [] us = never
meet_by hash (t ∷ ts) [] = never
meet_by hash (t ∷ ts) (u ∷ us) = elim (same (hash t) (hash u)) [ true ↦ meets t u | false ↦ meet_by hash ts us ]

-- two strings of one hash
pub record Strings : Type 0 where
  pub first : List ℕ
  pub second : List ℕ

abbrev pub pair : List ℕ → List ℕ → Result Strings
pair t u = accepted (record { first = t; second = u })

-- climbs of different ids to one root do meet (`demand3`)
unfoldable pub strings_of : Met → Result Strings
strings_of (meets t u) = pair t u
strings_of never = refused (carrying SAME_ID 0)

unfoldable pub alike : Proof → Proof → Bool
alike x y = same x.root y.root && (eqb x.position y.position && eqb x.layers y.layers)

-- 23, then 24, then the strings
unfoldable pub against_by : (List ℕ → List ℕ) → Proof → Proof → Result Strings
against_by hash x y =
    pick (alike x y) (pick (same x.id y.id) (refused (carrying SAME_ID 0)) (strings_of (meet_by hash x.preimages y.preimages))) (refused (carrying UNLIKE 0))

-- the first proof's refusal, then the second's
unfoldable pub compare_by : (List ℕ → List ℕ) → Result Proof → Result Proof → Result Strings
compare_by hash (refused x) v = refused x
compare_by hash (accepted p) (refused x) = refused x
compare_by hash (accepted p) (accepted q) = against_by hash p q

-- t and u are two different strings of one hash, those of ts and us at the lowest layer where these meet
pub record CollisionBy (hash : List ℕ → List ℕ) (ts us : List (List ℕ)) (t u : List ℕ) : Type 0 where
  pub layer : ℕ
  pub below : layer < length ts
  pub first : get_or ts layer [] ≡ t
  pub second : get_or us layer [] ≡ u
  pub differ : t ≡ u → ⊥
  pub equal : hash t ≡ hash u
  pub lowest : (l : ℕ) → l < layer → hash (get_or ts l []) ≡ hash (get_or us l []) → ⊥

abbrev pub meet : List (List ℕ) → List (List ℕ) → Met
meet = meet_by sha256d

abbrev pub against : Proof → Proof → Result Strings
against = against_by sha256d

abbrev pub compare : Result Proof → Result Proof → Result Strings
compare = compare_by sha256d

abbrev pub Collision : (ts us : List (List ℕ)) (t u : List ℕ) → Type 0
Collision = CollisionBy sha256d
