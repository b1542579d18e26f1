-- Writing a TSC proof with id and root target and reading it, either way round: the two are inverse, and no other bytes are read as that content.
use mathlib.Core.Path.{◌≡◌, sym, ap, ◌∙◌}
use mathlib.Core.List.{List, [], ◌∷◌, ◌++◌, map}
use Prim.Native.Nat.{ℕ, ◌*◌, ◌≤◌}
use lib.ListN.{length, length-append, length-map}
use native.Mathlib.Omega.{arith}
use Rattle.format.specs.Parse.{ok}
use Rattle.format.proofs.ParseLaws.{whole-told}
use Rattle.format.proofs.Whole.{whole-ok, whole_ends}
use Rattle.format.specs.Tsc.{Tsc, tsc_field, tsc_whole}
use Rattle.format.specs.Refusals.{MAX_INPUT}
use Rattle.encoding.proofs.Stands.{stands_self, stands-all}
use Rattle.encoding.specs.Encode.{AllBytes, encode_all, Fits}
use Rattle.encoding.specs.Digits.{varint_bytes}
use Rattle.encoding.proofs.VarintEncoding.{varint-length}
use Rattle.encoding.specs.BumpBytes.{Carried, plain, copy, client, carried_bytes, carried_of}
use Rattle.encoding.specs.TscBytes.{TscContent, ID_AND_ROOT, tsc_bytes, tsc_content_of, NodeFit, NodesFit, TscFit}
use Rattle.encoding.proofs.TscEncoding.{tsc_reads, tsc-says}

-- ---- every content that fits is within the input size

node-length : (c : Carried) → NodeFit c → length (carried_bytes c) ≤ 33
unfolding carried_bytes NodeFit
node-length (plain h) f = omega (arith, f.0)
node-length copy f = omega arith
node-length (client h) f = absurd f

nodes-length : (l : List Carried) → NodesFit l → length (encode_all carried_bytes l) ≤ 33 * length l
unfolding Fits encode_all
nodes-length [] f = omega arith
nodes-length (c ∷ l) f =
    let a = node-length c f.0 in
    let b = nodes-length l f.1 in
    let d = length-append (carried_bytes c) (encode_all carried_bytes l) in
    omega arith

pub tsc-length : (c : TscContent) → TscFit c → length (tsc_bytes c) ≤ MAX_INPUT
unfolding tsc_bytes
tsc-length c f =
    let nodes : List ℕ = varint_bytes (length c.nodes) ++ encode_all carried_bytes c.nodes in
    let a = nodes-length c.nodes f.nodes_fit in
    let b = varint-length (length c.nodes) in
    let d = varint-length c.index in
    let e = length-append (varint_bytes (length c.nodes)) (encode_all carried_bytes c.nodes) in
    let g = length-append c.root nodes in
    let h = length-append c.id (c.root ++ nodes) in
    let i = length-append (varint_bytes c.index) (c.id ++ (c.root ++ nodes)) in
    let j = f.id_fits.0 in
    let k = f.root_fits.0 in
    let low = f.low in
    omega arith

-- ---- the two theorems

-- what is written is read back: the whole of it, to the content that was written
pub tsc-read_back : (c : TscContent) → TscFit c → (t : Tsc) × (tsc_whole (tsc_bytes c) ≡ ok t (length (tsc_bytes c))) × (t.flags ≡ ID_AND_ROOT) × (tsc_content_of (tsc_bytes c) t ≡ c)
tsc-read_back c f =
    let s : List ℕ = tsc_bytes c in
    let r = tsc_reads s 0 (length s) c f (stands_self s) in
    (r.0, whole-ok tsc_field s (tsc-length c f) r.1 (omega arith) ∙ r.1, r.2, r.3)

-- bytes that are read as a TSC proof with id and root target are the writing of its content, which fits
pub tsc-written : (s : List ℕ) {t : Tsc} {q : ℕ} → AllBytes s → tsc_whole s ≡ ok t q → t.flags ≡ ID_AND_ROOT → (s ≡ tsc_bytes (tsc_content_of s t)) × TscFit (tsc_content_of s t)
tsc-written s {t} {q} h e four =
    let x = tsc-says s 0 q t h (whole-told tsc_field s e) four in
    (stands-all x.0 (whole_ends tsc_field s e), x.1)

-- so two such inputs that say the same are the same
pub tsc-one-writing : (s t : List ℕ) {a b : Tsc} {p q : ℕ} → AllBytes s → AllBytes t → tsc_whole s ≡ ok a p → tsc_whole t ≡ ok b q → a.flags ≡ ID_AND_ROOT → b.flags ≡ ID_AND_ROOT
    → tsc_content_of s a ≡ tsc_content_of t b → s ≡ t
tsc-one-writing s t h g e f i j x = (tsc-written s h e i).0 ∙ ap tsc_bytes x ∙ sym (tsc-written t g f j).0

-- ---- what a reading that says a content tells of its parts

module _ (s : List ℕ) (t : Tsc) {c : TscContent} (e : tsc_content_of s t ≡ c) where
  pub content-index : t.index ≡ c.index
  content-index = ap (λ (x : TscContent). x.index) e

  pub content-nodes : map (carried_of s) t.nodes ≡ c.nodes
  content-nodes = ap (λ (x : TscContent). x.nodes) e

  pub content-length : length t.nodes ≡ length c.nodes
  content-length = sym (length-map t.nodes (carried_of s)) ∙ ap length content-nodes
