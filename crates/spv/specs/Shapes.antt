-- What the code's answers say.
use Rattle.std.specs.Prelude.{ℕ, List, Option, Some, None, Result as Answer, Ok, Err}
use Rattle.format.specs.declared.refusal.Refusal.{Refusal}
use Rattle.format.specs.Refusals.{refusal_number}
use Rattle.spv.specs.Result.{Result, answer_of}
use Rattle.spv.specs.Climb.{Sibling, value, copied, absent, Step, joins, fails}
use Rattle.spv.specs.Compare.{Met, meets, never, Strings}
use Rattle.spv.specs.Siblings.{path_siblings}
use Rattle.spv.specs.declared.rejection.Rejection.{Rejection}
use Rattle.spv.specs.declared.prove.Claim.{Claim}
use Rattle.spv.specs.declared.prove.Proved.{Proved}
use Rattle.spv.specs.declared.compare.Pair.{Pair}
use Rattle.spv.specs.declared.node.Node.{Node}
use Rattle.spv.specs.declared.node.Node.TheVariants.{Value, Copied, Absent}
use Rattle.spv.specs.declared.climb.Halves.{Halves}
use Rattle.spv.specs.Prove.{Target, any, bound, Reading, Proof, proof_of, unread, read}

-- ---- the answers

abbrev pub accepted_of : ℕ → ℕ → List ℕ → List ℕ → Proved
accepted_of position layers id root = record { position = position; layers = layers; id = id; root = root }

-- the answer of proving: position and layers, id and root, or a refusal
abbrev pub proved_of : Result Proof → Answer Proved Rejection
proved_of = answer_of (λ p. accepted_of p.position p.layers p.id p.root)

abbrev pub paired : List ℕ → List ℕ → Pair
paired t u = record { first = t; second = u }

-- the answer of comparing: two strings, or a refusal
abbrev pub compared_of : Result Strings → Answer Pair Rejection
compared_of = answer_of (λ x. paired x.first x.second)

-- the answer of a climb: its root, or a refusal
abbrev pub climbed_of : Result (List ℕ) → Answer (List ℕ) Rejection
climbed_of = answer_of (λ root. root)

-- ---- what the code holds on the way

abbrev pub sibling_of : Node → Sibling
sibling_of (Value p) = value p
sibling_of Copied = copied
sibling_of Absent = absent

abbrev pub step_of : Answer Halves Refusal → Step
step_of (Ok h) = joins h.left h.right
step_of (Err refusal) = fails (refusal_number refusal)

abbrev pub meeting_of : Met → Option Pair
meeting_of (meets t u) = Some (paired t u)
meeting_of never = None

-- the root that a proof is bound to, if any
abbrev pub bound_to : Option (List ℕ) → Target
bound_to (Some root) = bound root
bound_to None = any

-- what a claim says
unfoldable pub opened : List ℕ → Claim → Reading
opened s x = read (path_siblings s x.path) x.path.layers x.position x.id (bound_to x.target)

abbrev pub claimed : List ℕ → Answer Claim Rejection → Reading
claimed s (Ok x) = opened s x
claimed s (Err why) = unread why

-- a claim with its root
unfoldable pub claim_proof : List ℕ → Claim → List ℕ → Proof
claim_proof s x r = proof_of (path_siblings s x.path) x.path.layers x.position x.id r
