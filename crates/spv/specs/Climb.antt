-- The climb (01, "The climb"), the same for every form: a form says what stands beside the climb at a layer and position, and nothing else.
use Rattle.std.specs.Prelude.{ℕ, zero, suc, ◌+◌, ◌-◌, ◌/◌, ◌%◌, Bool, true, false, List, [], ◌∷◌, ◌++◌, eqb}
use Rattle.hash.specs.Sha256.{sha256d}
use Rattle.format.specs.Bytes.{same}
use Rattle.format.specs.Parse.{pick}
use Rattle.format.specs.Refusals.{MISSING, TWIN}
use Rattle.spv.specs.declared.rejection.Rejection.{Rejection}
use Rattle.spv.specs.Result.{Result, accepted, refused, at_sibling}

-- what a form has at a layer and position: a hash, a copy of the working hash, or nothing
pub data Sibling : Type 0 where
  value : List ℕ → Sibling
  copied : Sibling
  absent : Sibling

-- a form, as the climb sees it: layer, then position
abbrev pub Siblings : Type 0
Siblings = ℕ → ℕ → Sibling

abbrev pub odd : ℕ → Bool
odd j = eqb (j % 2) 1

-- the sibling of position j is j+1 for even j, j-1 for odd j
unfoldable pub sibling_position : ℕ → ℕ
sibling_position j = pick (odd j) (j - 1) (j + 1)

-- the siblings' positions of i over h layers
unfoldable pub sibling_positions : ℕ → ℕ → List ℕ
sibling_positions i zero = []
sibling_positions i (suc h) = sibling_position i ∷ sibling_positions (i / 2) h

-- one layer: the two halves of what is hashed, or the number of the refusal
pub data Step : Type 0 where
  joins : List ℕ → List ℕ → Step
  fails : ℕ → Step

-- even j: c then p; odd j: p then c, refused if p equals c
unfoldable pub joined : Bool → List ℕ → List ℕ → Step
joined false c p = joins c p
joined true c p = pick (same p c) (fails TWIN) (joins p c)

-- a copy makes p equal c; a sibling that can't be had is 14
unfoldable pub step : Sibling → Bool → List ℕ → Step
step (value p) o c = joined o c p
step copied o c = joined o c c
step absent o c = fails MISSING

-- a climb: the sibling taken and the string hashed, layer by layer, up to the root or to a refusal with its layer and the sibling's position there
pub data Ascent : Type 0 where
  top : Ascent
  up : Sibling → List ℕ → Ascent → Ascent
  stop : Rejection → Ascent

-- the climb by any hash: from c at position j of layer k, over n layers
unfoldable pub ascend_by : (List ℕ → List ℕ) → Siblings → ℕ → ℕ → ℕ → List ℕ → Ascent
ascend_by hash σ k zero j c = top
ascend_by hash σ k (suc n) j c =
    elim (step (σ k (sibling_position j)) (odd j) c)
    [ joins a b ↦ up (σ k (sibling_position j)) (a ++ b) (ascend_by hash σ (suc k) n (j / 2) (hash (a ++ b))) | fails number ↦ stop (at_sibling number k (sibling_position j)) ]

-- what a climb from c comes to: the root
unfoldable pub end_by : (List ℕ → List ℕ) → List ℕ → Ascent → Result (List ℕ)
end_by hash c top = accepted c
end_by hash c (up p t a) = end_by hash (hash t) a
end_by hash c (stop x) = refused x

-- the strings hashed, from the lowest layer
unfoldable pub preimages_of : Ascent → List (List ℕ)
preimages_of top = []
preimages_of (up p t a) = t ∷ preimages_of a
preimages_of (stop x) = []

-- the siblings taken, from the lowest layer
unfoldable pub siblings_of : Ascent → List Sibling
siblings_of top = []
siblings_of (up p t a) = p ∷ siblings_of a
siblings_of (stop x) = []

-- "Hash" is double SHA-256
abbrev pub ascend : Siblings → ℕ → ℕ → ℕ → List ℕ → Ascent
ascend = ascend_by sha256d

abbrev pub end_of : List ℕ → Ascent → Result (List ℕ)
end_of = end_by sha256d
