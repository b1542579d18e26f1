-- Laws of a proof with the siblings of its climb.
use Prim.Native.Nat.{ℕ, ◌≤◌, min}
use mathlib.Core.Path.{◌≡◌, refl, ap, ap₂, sym, ◌∙◌}
use mathlib.Core.List.{List, [], ◌∷◌, ◌++◌}
use lib.ListN.{length, replicate, take, drop, length-replicate}
use lib.Seq.{take_all, take_at}
use native.Mathlib.Omega.{arith}
use Rattle.encoding.specs.Buffer.{Buffer, buffer, write_on, filled}
use Rattle.encoding.proofs.BufferLaws.{write-whole}
use Rattle.encoding.specs.Encode.{encode_all}
use Rattle.encoding.specs.BumpBytes.{carried_bytes}
use Rattle.std.specs.Prelude.{Ok}
use Rattle.spv.specs.Result.{Result, accepted}
use Rattle.spv.specs.Climb.{Sibling, Siblings, ascend, siblings_of}
use Rattle.spv.specs.Prove.{Proof, proof_of}
use Rattle.spv.specs.Shapes.{accepted_of}
use Rattle.spv.proofs.ResultLaws.{answered-ok}
use Rattle.spv.specs.Trace.{as_carried, nodes_text, TRACE_ROOM, trace_of, traced_of}
use Rattle.spv.specs.declared.prove.Proved.{Proved}
use Rattle.spv.specs.declared.trace.Traced.{Traced}

pub text-none : nodes_text [] ≡ []
unfolding nodes_text encode_all
text-none = refl

pub text-more : (x : Sibling) (l : List Sibling) → nodes_text (x ∷ l) ≡ carried_bytes (as_carried x) ++ nodes_text l
unfolding nodes_text encode_all
text-more x l = refl

-- the trace of a climb that comes to its root
pub traced_root : (σ : Siblings) (h i : ℕ) (id r : List ℕ) (nodes : List ℕ) (n : ℕ)
    → buffer nodes n ≡ write_on (buffer (replicate TRACE_ROOM 0) 0) (nodes_text (siblings_of (ascend σ 0 h i id)))
    → ◌≡◌ {A = Traced} (record { proved = accepted_of i h id r; nodes = nodes; size = n }) (trace_of (proof_of σ h i id r))
unfolding trace_of
traced_root σ h i id r nodes n e =
    let text : List ℕ = nodes_text (siblings_of (ascend σ 0 h i id)) in
    let g : buffer nodes n ≡ buffer (filled (replicate TRACE_ROOM 0) text) (min (length {A = ℕ} (replicate TRACE_ROOM 0)) (length text)) = e ∙ write-whole (replicate TRACE_ROOM 0) text in
    ap (λ (b : Buffer). record { proved = accepted_of i h id r; nodes = b.room; size = b.at }) g
    ∙ ap (λ (k : ℕ). record { proved = accepted_of i h id r; nodes = filled (replicate TRACE_ROOM 0) text; size = min k (length text) }) (length-replicate {A = ℕ} TRACE_ROOM 0)

-- an accepted proof, and the text of its siblings if that has room
pub traced_accepted : (r : Traced) (v : Result Proof) → Ok r ≡ traced_of v
    → (p : Proof) × (v ≡ accepted p) × (p.root ≡ r.proved.root) × (p.position ≡ r.proved.position) × (p.layers ≡ r.proved.layers) × (p.id ≡ r.proved.id)
    × (r.size ≤ TRACE_ROOM) × (length (nodes_text p.siblings) ≤ TRACE_ROOM → (r.size ≡ length (nodes_text p.siblings)) × (take r.size r.nodes ≡ nodes_text p.siblings))
unfolding trace_of
traced_accepted r v e =
    let t = answered-ok trace_of v r e in
    let text : List ℕ = nodes_text t.0.siblings in
    let proved : accepted_of t.0.position t.0.layers t.0.id t.0.root ≡ r.proved = ap (λ (x : Traced). x.proved) t.2 in
    let size : min TRACE_ROOM (length text) ≡ r.size = ap (λ (x : Traced). x.size) t.2 in
    let nodes : filled (replicate TRACE_ROOM 0) text ≡ r.nodes = ap (λ (x : Traced). x.nodes) t.2 in (
      t.0,
      t.1,
      ap (λ (x : Proved). x.root) proved,
      ap (λ (x : Proved). x.position) proved,
      ap (λ (x : Proved). x.layers) proved,
      ap (λ (x : Proved). x.id) proved,
      omega arith,
      λ fits. whole text (sym size) (sym nodes) fits,
    )
  where
    whole : (text : List ℕ) → r.size ≡ min TRACE_ROOM (length text) → r.nodes ≡ filled (replicate TRACE_ROOM 0) text → length text ≤ TRACE_ROOM
        → (r.size ≡ length text) × (take r.size r.nodes ≡ text)
    whole text size nodes fits =
        let n : r.size ≡ length text = omega arith in
        let room : length {A = ℕ} (replicate TRACE_ROOM 0) ≡ TRACE_ROOM = length-replicate {A = ℕ} TRACE_ROOM 0 in
        let all : take (length {A = ℕ} (replicate TRACE_ROOM 0)) text ≡ text = take_all (length {A = ℕ} (replicate TRACE_ROOM 0)) text (omega arith) in
        let first : r.nodes ≡ text ++ drop (length text) (replicate TRACE_ROOM 0) = nodes ∙ ap (λ (x : List ℕ). x ++ drop (length text) (replicate TRACE_ROOM 0)) all in
        (n, ap₂ (λ (k : ℕ) (l : List ℕ). take k l) n first ∙ take_at text (drop (length text) (replicate TRACE_ROOM 0)) (length text) refl)
