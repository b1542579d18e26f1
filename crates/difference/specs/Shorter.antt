-- The shorter of two BUMPs that prove an id to one root (02, Item 7, its second call).
use Rattle.std.specs.Prelude.{ℕ, List, [], ◌∷◌, length, leb, Result as Answer, Ok, Err}
use Rattle.std.specs.Borrow.{Bor}
use Rattle.format.specs.Bytes.{same}
use Rattle.format.specs.Parse.{pick}
use Rattle.format.specs.Refusals.{UNLIKE}
use Rattle.spv.specs.Result.{Result, accepted, refused, carrying, follow}
use Rattle.spv.specs.Prove.{Proof, prove}
use Rattle.spv.specs.Readings.{bump_reading}
use Rattle.spv.specs.declared.rejection.Rejection.{Rejection}
use Rattle.difference.specs.declared.shorter.Shorter.{Shorter}
use Rattle.difference.specs.declared.shorter.Shorter.TheVariants.{First, Second}

-- which of the two is handed back
pub data Choice : Type 0 where
  first : Choice
  second : Choice

-- "the shorter of the two proofs", "the first if they are equally long"
unfoldable pub shorter_of : List ℕ → List ℕ → Choice
shorter_of a b = pick (leb (length a) (length b)) first second

-- "23 for two roots"
unfoldable pub settled : List ℕ → List ℕ → Proof → Proof → Result Choice
settled a b x y = pick (same x.root y.root) (accepted (shorter_of a b)) (refused (carrying UNLIKE 0))

-- two BUMPs and one id: "the first path's, the second's, then 23"
unfoldable pub shorter : List ℕ → List ℕ → List ℕ → Result Choice
shorter a b id = follow (prove (bump_reading a id)) (λ x. follow (prove (bump_reading b id)) (λ y. settled a b x y))

-- what the code's answer says
abbrev pub chosen : Shorter → Choice
chosen First = first
chosen Second = second

abbrev pub choice_of : Answer Shorter Rejection → Result Choice
choice_of (Ok x) = accepted (chosen x)
choice_of (Err why) = refused why

-- a part of a lent slice as its holder sees it: where it starts, and its bytes
abbrev pub Part : Type 0
Part = (ℕ × ℕ) × List ℕ

abbrev pub part : Bor (List ℕ) → Part
part r = (r.ref_ptr, r.now)

-- "the caller's own bytes": all of the first, all of the second, or "an empty part of the first proof"
unfoldable pub handed : Result Choice → Bor (List ℕ) → Bor (List ℕ) → Part
handed (accepted first) a b = part a
handed (accepted second) a b = part b
handed (refused why) a b = (a.ref_ptr, [])

-- a refusal in four numbers, as in memory that is lent for it: its number, what it carries, the layer and the sibling's position there; 0 where nothing is refused
unfoldable pub why_of : Result Choice → List ℕ
why_of (accepted x) = 0 ∷ 0 ∷ 0 ∷ 0 ∷ []
why_of (refused why) = why.number ∷ why.carried ∷ why.layer ∷ why.sibling ∷ []
