-- Laws of the path of a TSC proof: its layers are the nodes that were read.
use mathlib.Core.Path.{◌≡◌, refl, ap, sym, ◌∙◌}
use mathlib.Core.List.{List, [], ◌∷◌, map}
use Prim.Native.Nat.{ℕ, zero, suc, ◌<◌}
use lib.ListN.{length, get_or, replicate}
use native.Mathlib.Omega.{arith}
use borrow.Author.Tests.{lt-ltb}
use Rattle.std.specs.Prelude.{Some}
use Rattle.format.specs.declared.leaf.Kind.{Kind}
use Rattle.format.specs.Parse.{each, many, times, ok, fault}
use Rattle.format.proofs.ParseLaws.{many-told}
use Rattle.format.specs.Padded.{padded}
use Rattle.format.proofs.Gather.{padded-here, each_sames}
use Rattle.format.specs.Node.{node_field}
use Rattle.path.specs.Path.{node_at, leaf_at_place, leaf_in, layers_of}
use Rattle.format.specs.Tsc.{Tsc}
use Rattle.format.proofs.TscLaws.{TscRead}
use Rattle.path.specs.TscPath.{node_place_field, node_places, tsc_path_of, tsc_path}

-- a loop that kept the places
module _ (n : ℕ) (s : List ℕ) (at : ℕ) where
  pub places-kept : {l kept : List ℕ} {q : ℕ} → each (map (λ (k : ℕ). k)) (times node_place_field n s at) ≡ ok l q → kept ≡ padded 64 0 l → kept ≡ node_places n s at
  unfolding node_places
  places-kept e k = rw (sym (each_sames (times node_place_field n s at)) ∙ e, k)

  pub places-refused : {k q : ℕ} → each (map (λ (k : ℕ). k)) (times node_place_field n s at) ≡ fault k q → replicate 64 0 ≡ node_places n s at
  unfolding node_places
  places-refused e = rw (sym (each_sames (times node_place_field n s at)) ∙ e)

-- nodes that were read: their places, and each node again at its place
record Placed (n : ℕ) (s : List ℕ) (at q : ℕ) (l : List Kind) : Type 0 where
  places : List ℕ
  all : length places ≡ length l
  read : times node_place_field n s at ≡ ok places q
  node : (k : ℕ) → k < length l → node_at s (get_or places k 0) ≡ Some (get_or l k Kind.Copy)

placed : (s : List ℕ) (n at : ℕ) {l : List Kind} {q : ℕ} → times node_field n s at ≡ ok l q → Placed n s at q l
unfolding many each node_place_field node_at
placed s zero at {l} {q} e =
    let el : [] ≡ l = cc in
    let eq : at ≡ q = cc in
    rw (← el, ← eq) (record { places = []; all = refl; read = refl; node = λ k h. absurd (omega arith) })
placed s (suc n) at {l} {q} e =
    let x = many-told {S = Unit {0}} (λ _. node_field) (λ u _. u) n tt s at e in
    rw (← x.5) (more x.0 x.1 x.2 x.3 (placed s n x.1 x.4))
  where
    more : (a : Kind) (r : ℕ) (rest : List Kind) → node_field s at ≡ ok a r → Placed n s r q rest → Placed (suc n) s at q (a ∷ rest)
    more a r rest e p = record { places = at ∷ p.places; all = ap suc p.all; read = rw (e, p.read); node = node }
      where
        node : (k : ℕ) → k < suc (length rest) → node_at s (get_or (at ∷ p.places) k 0) ≡ Some (get_or (a ∷ rest) k Kind.Copy)
        node zero h = rw e
        node (suc k) h = p.node k (omega arith)

-- the node of a layer, whatever the position
pub tsc-leaf_in : (s : List ℕ) (t : Tsc) {q : ℕ} → TscRead s q t → (k j : ℕ) → k < length t.nodes → leaf_in s (tsc_path s t) k j ≡ Some (get_or t.nodes k Kind.Copy)
unfolding leaf_in leaf_at_place tsc_path_of node_places
tsc-leaf_in s t {q} r k j h =
    let low = r.low in
    found (placed s (length t.nodes) t.nodes_at r.nodes) (omega arith) (omega arith)
  where
    found : Placed (length t.nodes) s t.nodes_at q t.nodes → layers_of (length t.nodes) ≡ length t.nodes → k < 64 → leaf_in s (tsc_path s t) k j ≡ Some (get_or t.nodes k Kind.Copy)
    found p all low =
        let there : k < length p.places = let e = p.all in omega arith in
        let inside : k < layers_of (length t.nodes) = omega arith in
        rw (lt-ltb k (layers_of (length t.nodes)) inside, lt-ltb k 64 low, all, p.read, padded-here 64 0 p.places k there) (p.node k h)
