-- Hashes are 32 bytes, each below 256: those that stand in an input of bytes, and those that are worked out.
use Rattle.std.specs.Prelude.{Option, Some, None}
use Prim.Native.Nat.{ℕ, zero, suc, ◌+◌, ◌-◌, ◌/◌}
use mathlib.Core.Path.{◌≡◌, refl, subst}
use mathlib.Core.Bool.{Bool, true, false, ◌&&◌, false≢true, ◌||◌}
use mathlib.Core.List.{List, [], ◌∷◌, ◌++◌, map}
use lib.ListN.{length, take, drop, replicate}
use lib.Dec.{eqb, leb}
use native.Mathlib.Omega.{arith}
use Rattle.hash.specs.Sha256.{sha256d}
use Rattle.hash.proofs.Sha256Laws.{sha256d-length, sha256d-bytes}
use Rattle.format.specs.declared.leaf.Kind.{Kind}
use Rattle.format.specs.declared.leaf.Kind.TheVariants.{Plain, Copy, Client}
use Rattle.format.specs.declared.leaf.Leaf.{Leaf}
use Rattle.format.specs.Parse.{pick}
use Rattle.format.proofs.BytesLaws.{same_eq, hash-at-length}
use Rattle.path.specs.Search.{carries, least_offset}
use Rattle.encoding.proofs.Encoding.{part_bytes}
use Rattle.encoding.specs.BumpBytes.{HashFit}
use Rattle.encoding.specs.TscBytes.{NodeFit, NodesFit}
use Rattle.format.specs.Id.{subject_id}
use Rattle.spv.specs.Result.{accepted}
use Rattle.spv.specs.Climb.{Sibling, value, copied, absent, Siblings, Step, joins, fails, odd, sibling_position, step, ascend_by, ascend, end_by, end_of}
use Rattle.spv.proofs.ClimbLaws.{ascended}
use Rattle.spv.specs.Values.{value_by, join_both, join_of, value_of, worked_out}
use Rattle.spv.specs.Siblings.{written, sibling, written_by, find_in, level_siblings}
use Rattle.spv.proofs.Surplus.{carried_at, Least, least-is}
use Rattle.spv.specs.Trace.{as_carried}
use Rattle.format.specs.declared.tsc.Subject.{Subject}
use Rattle.conversion.proofs.TakenLaws.{Every}
use Rattle.format.specs.Bytes.{hash_at}
use Rattle.encoding.specs.Encode.{AllBytes, Fits}

zeros_fit : (n : ℕ) → AllBytes (replicate n 0)
zeros_fit zero i = omega arith
zeros_fit (suc n) zero = omega arith
zeros_fit (suc n) (suc i) = zeros_fit n i

pub hash-fits : (s : List ℕ) (p : ℕ) → AllBytes s → HashFit (hash_at s p)
unfolding hash_at
hash-fits s p all = (hash-at-length s p, go (leb (p + 32) (length s)))
  where
    go : (t : Bool) → AllBytes (pick t (take 32 (drop p s)) (replicate 32 0))
    go true = part_bytes s p 32 all
    go false = zeros_fit 32

pub digest-fits : (m : List ℕ) → HashFit (sha256d m)
digest-fits m = (sha256d-length m, sha256d-bytes m)

pub subject-fits : (s : List ℕ) (x : Subject) → AllBytes s → HashFit (subject_id s x)
unfolding subject_id
subject-fits s (Subject.Id p) all = hash-fits s p all
subject-fits s (Subject.Transaction start end) all = digest-fits (take (end - start) (drop start s))

-- a sibling whose value is such a hash
unfoldable pub SiblingFit : Sibling → Type 0
SiblingFit (value h) = HashFit h
SiblingFit copied = Unit
SiblingFit absent = Unit

pub written-fits : (s : List ℕ) (kind : Kind) → AllBytes s → SiblingFit (written s kind)
unfolding written SiblingFit
written-fits s (Plain p) all = hash-fits s p all
written-fits s Copy all = tt
written-fits s (Client p) all = hash-fits s p all

sibling-fits : (s : List ℕ) (found : Option Kind) → AllBytes s → SiblingFit (sibling s found)
unfolding sibling SiblingFit
sibling-fits s (Some kind) all = written-fits s kind all
sibling-fits s None all = tt

-- whatever is worked out of such hashes is one
module _ (w : Siblings) (fits : (k q : ℕ) → SiblingFit (w k q)) where
  value_by_fits : (x copy join : Sibling) → SiblingFit x → SiblingFit copy → SiblingFit join → SiblingFit (value_by x copy join)
  unfolding value_by
  value_by_fits (value h) copy join a b c = a
  value_by_fits copied copy join a b c = b
  value_by_fits absent copy join a b c = c

  both-fits : (l r : Sibling) → SiblingFit (join_both l r)
  unfolding join_both SiblingFit
  both-fits (value l) (value r) = digest-fits (l ++ r)
  both-fits (value l) copied = tt
  both-fits (value l) absent = tt
  both-fits copied r = tt
  both-fits absent r = tt

  join-fits : (k q : ℕ) → SiblingFit (join_of w k q)
  unfolding join_of SiblingFit
  join-fits zero q = tt
  join-fits (suc k) q = both-fits _ _

  worked_fits : (k q : ℕ) → SiblingFit (worked_out w k q)
  unfolding worked_out value_of SiblingFit
  worked_fits k q = value_by_fits (w k q) copied (join_of w k q) (fits k q) tt (join-fits k q)

pub level-siblings_fit : (s : List ℕ) (levels : List (List Leaf)) → AllBytes s → (k q : ℕ) → SiblingFit (level_siblings s levels k q)
unfolding level_siblings
level-siblings_fit s levels all = worked_fits (written_by s (find_in levels)) (λ k q. sibling-fits s (find_in levels k q) all)

node-fits : (x : Sibling) → SiblingFit x → NodeFit (as_carried x)
unfolding SiblingFit NodeFit as_carried
node-fits (value h) f = f
node-fits copied f = tt
node-fits absent f = tt

pub nodes_fit : (l : List Sibling) → Every SiblingFit l → NodesFit (map as_carried l)
unfolding Every Fits
nodes_fit [] f = tt
nodes_fit (x ∷ l) f = (node-fits x f.0, nodes_fit l f.1)

-- an id that a leaf carries
carries-fits : (s id : List ℕ) (kind : Kind) → AllBytes s → carries s id kind ≡ true → HashFit id
unfolding carries
carries-fits s id (Plain p) all e = subst HashFit (same_eq (hash_at s p) id e) (hash-fits s p all)
carries-fits s id Copy all e = absurd (false≢true e)
carries-fits s id (Client p) all e = subst HashFit (same_eq (hash_at s p) id e) (hash-fits s p all)

carried-fits : (s id : List ℕ) (o : ℕ) (l : List Leaf) → AllBytes s → carried_at s id o l ≡ true → HashFit id
unfolding carried_at
carried-fits s id o [] all e = absurd (false≢true e)
carried-fits s id o (leaf ∷ l) all e = go (eqb leaf.offset o) (carries s id leaf.kind) refl e (λ f. carried-fits s id o l all f)
  where
    go : (x y : Bool) → carries s id leaf.kind ≡ y → ((x && y) || carried_at s id o l) ≡ true → (carried_at s id o l ≡ true → HashFit id) → HashFit id
    go true true q f r = carries-fits s id leaf.kind all q
    go true false q f r = r f
    go false y q f r = r f

pub start_fits : (s id : List ℕ) (l : List Leaf) (i : ℕ) → AllBytes s → least_offset s id l ≡ Some i → HashFit id
unfolding Least
start_fits s id l i all e = carried-fits s id i l all (subst (Least s id l) e (least-is s id l)).0

-- a root
pub root_fits : (σ : Siblings) (k n j : ℕ) (c r : List ℕ) → HashFit c → end_of c (ascend σ k n j c) ≡ accepted r → HashFit r
unfolding ascend_by end_by
root_fits σ k zero j c r f e = let y : c ≡ r = cc in subst HashFit y f
root_fits σ k (suc n) j c r f e = go (step (σ k (sibling_position j)) (odd j) c) e (λ d x. root_fits σ (suc k) n (j / 2) (sha256d d) r (digest-fits d) x)
  where
    go : (x : Step) → end_of c (ascended σ k n j (σ k (sibling_position j)) x) ≡ accepted r
        → ((d : List ℕ) → end_of (sha256d d) (ascend σ (suc k) n (j / 2) (sha256d d)) ≡ accepted r → HashFit r) → HashFit r
    go (joins a b) x ih = ih (a ++ b) x
    go (fails number) x ih = let z : ◌≡◌ {A = ℕ} 0 1 = cc in absurd (omega arith)
