-- The TSC reader takes exactly what the writer of a proof with id and root target writes, and says its content.
use mathlib.Core.Path.{◌≡◌, refl, ap, ◌∙◌}
use mathlib.Core.List.{List, [], ◌∷◌, ◌++◌, map}
use mathlib.Core.Bool.{Bool, true, false}
use Prim.Native.Nat.{ℕ, ◌+◌, ◌^◌, ◌≤◌, ◌<◌}
use lib.ListN.{length}
use lib.Dec.{leb, eqb}
use lib.Pow.{pow_mono}
use native.Mathlib.Omega.{arith}
use borrow.Author.Tests.{lt-ltb, le-leb, ltb-true, leb-true, eqb-true, eqb-false}
use Rattle.format.specs.declared.leaf.Kind.{Kind}
use Rattle.format.specs.declared.leaf.Kind.TheVariants.{Plain, Copy, Client}
use Rattle.format.specs.declared.tsc.Subject.{Subject}
use Rattle.format.specs.Parse.{Parse, pick, each, given, pure, require, ◌passing◌else◌, times, ok}
use Rattle.format.proofs.ParseLaws.{onward-told, each-ok}
use Rattle.format.specs.Field.{bytes, byte, varint}
use Rattle.format.specs.Level.{kind_field}
use Rattle.format.specs.Node.{node_field}
use Rattle.format.specs.Transaction.{Listed}
use Rattle.format.specs.Tsc.{flags_allowed, flags_field, subject_field, target_field, index_fits, node_count_field, node_count_up_to, nodes_field, nodes_up_to, Tsc, tsc_field, tsc_up_to}
use Rattle.format.specs.Id.{subject_id}
use Rattle.format.specs.Refusals.{BAD_FLAG, BAD_OFFSET, OVER_LIMIT, MAX_HEIGHT}
use Rattle.encoding.proofs.Stands.{Stands, stands-join, stands-split}
use Rattle.format.proofs.Span.{picked-told}
use Rattle.encoding.proofs.Encoding.{Encoding, itself, byte_encoding, tested_encoding, many_encoding}
use Rattle.encoding.proofs.VarintEncoding.{varint_encoding}
use Rattle.encoding.specs.Digits.{varint_bytes}
use Rattle.encoding.specs.BumpBytes.{Carried, plain, copy, client, carried_bytes, carried_of, HashFit}
use Rattle.encoding.proofs.BumpEncoding.{refit, read_itself, hash_reads, hash-says}
use Rattle.encoding.specs.TscBytes.{TscContent, ID_AND_ROOT, tsc_bytes, tsc_content_of, NodeFit, NodesFit, TscFit}
use Rattle.encoding.specs.Encode.{AllBytes, encode_all}

-- ---- a node

type_encoding : Encoding (byte passing (λ t. leb t 1) else BAD_FLAG) itself (λ b. b ∷ []) (λ b. b ≤ 1)
type_encoding = refit (λ b f. (omega arith, le-leb b 1 f)) (λ b f. leb-true b 1 f.1) (tested_encoding (λ t. leb t 1) BAD_FLAG byte_encoding)

node_reads : (s : List ℕ) (at q : ℕ) (c : Carried) → NodeFit c → Stands s at (carried_bytes c) q → (k : Kind) × (node_field s at ≡ ok k q) × (carried_of s k ≡ c)
unfolding node_field kind_field NodeFit carried_bytes carried_of each
node_reads s at q (plain h) f a =
    let sp = stands-split (0 ∷ []) h a in
    let r = hash_reads s (at + 1) q h f.0 sp.1 in
    (Plain (at + 1), rw (read_itself type_encoding s at (at + 1) 0 (omega arith) sp.0, r.0), ap plain r.1)
node_reads s at q copy f a = (Copy, rw (read_itself type_encoding s at q 1 (omega arith) a), refl)
node_reads s at q (client h) f a = absurd f

node-says : (s : List ℕ) (at q : ℕ) (k : Kind) → AllBytes s → node_field s at ≡ ok k q → Stands s at (carried_bytes (carried_of s k)) q × NodeFit (carried_of s k)
unfolding node_field kind_field NodeFit carried_bytes carried_of
node-says s at q k h e =
    let x = onward-told ((byte passing (λ t. leb t 1) else BAD_FLAG) s at) _ e in
    let y = type_encoding.told s at x.1 x.0 h x.2 in
    go x.0 x.1 (eqb x.0 0) refl (eqb x.0 1) refl y.0 y.1 x.3
  where
    go : (type r : ℕ) (a : Bool) → eqb type 0 ≡ a → (b : Bool) → eqb type 1 ≡ b → Stands s at (type ∷ []) r → type ≤ 1
        → pick a (given Plain (bytes 32)) (pick b (pure Copy) (given Client (bytes 32))) s r ≡ ok k q
        → Stands s at (carried_bytes (carried_of s k)) q × NodeFit (carried_of s k)
    go type r true ea b eb st low m =
        let g = each-ok Plain (bytes 32 s r) m in
        let y = hash-says s r q g.0 h g.1 in
        rw (← g.2) (stands-join (rw (eqb-true type 0 ea) at st) y.0, y.1)
    go type r false ea true eb st low m =
        let y : Copy ≡ k = cc in
        let f : r ≡ q = cc in
        rw (← y) (rw (← f) (rw (eqb-true type 1 eb) at st), tt)
    go type r false ea false eb st low m = absurd (let n = eqb-false type 0 ea in let o = eqb-false type 1 eb in omega arith)

node_encoding : Encoding node_field carried_of carried_bytes NodeFit
node_encoding = record { reads = node_reads; told = node-says }

-- ---- the nodes

times_encoding : (n : ℕ) → Encoding (times node_field n) (λ s. map (carried_of s)) (encode_all carried_bytes) (λ l. (length l ≡ n) × NodesFit l)
times_encoding n = many_encoding {S = Unit {0}} (λ _. node_field) (λ u _. u) carried_of carried_bytes (λ _. NodeFit) (λ u _. u) (λ s st a. refl) (λ _. node_encoding) n tt

count_encoding : Encoding node_count_field itself varint_bytes (λ n. n ≤ MAX_HEIGHT)
unfolding node_count_up_to
count_encoding = refit (λ n f. (omega arith, le-leb n MAX_HEIGHT f)) (λ n f. leb-true n MAX_HEIGHT f.1) (tested_encoding (λ n. leb n MAX_HEIGHT) OVER_LIMIT varint_encoding)

-- node count and nodes, for an index
module _ (index index_at : ℕ) where
  nodes_encoding : Encoding (nodes_field index index_at) (λ s l. map (carried_of s) l.items) (λ l. varint_bytes (length l) ++ encode_all carried_bytes l)
      (λ l. (index < 2 ^ length l) × (length l ≤ MAX_HEIGHT) × NodesFit l)
  unfolding nodes_up_to index_fits
  nodes_encoding = record {
    reads = λ s at q l f a.
        let sp = stands-split (varint_bytes (length l)) (encode_all carried_bytes l) a in
        let mid : ℕ = at + length (varint_bytes (length l)) in
        let r = (times_encoding (length l)).reads s mid q l (refl, f.2) sp.1 in
        (record { at = mid; items = r.0 }, rw (read_itself count_encoding s at mid (length l) f.1 sp.0, lt-ltb index (2 ^ length l) f.0, r.1), r.2);
    told = λ s at q l h e.
        let x = onward-told (node_count_field s at) _ e in
        let y = onward-told (require (index_fits index x.0) BAD_OFFSET index_at s x.1) _ x.3 in
        let z = onward-told (times node_field x.0 s y.1) _ y.3 in
        let fit = picked-told {A = Unit {0}} (index_fits index x.0) tt x.1 BAD_OFFSET index_at y.2 in
        built s at q l x.0 x.1 y.1 z.0 z.1 (count_encoding.told s at x.1 x.0 h x.2) (ltb-true index (2 ^ x.0) fit.0) fit.2
        ((times_encoding x.0).told s y.1 z.1 z.0 h z.2) z.3;
  }
    where
      built : (s : List ℕ) (at q : ℕ) (l : Listed Kind) (n r from : ℕ) (ks : List Kind) (end : ℕ) → Stands s at (varint_bytes n) r × (n ≤ MAX_HEIGHT) → index < 2 ^ n → r ≡ from
          → Stands s from (encode_all carried_bytes (map (carried_of s) ks)) end × ((length (map (carried_of s) ks) ≡ n) × NodesFit (map (carried_of s) ks))
          → ◌≡◌ {A = Parse (Listed Kind)} (ok (record { at = from; items = ks }) end) (ok l q)
          → Stands s at (varint_bytes (length (map (carried_of s) l.items)) ++ encode_all carried_bytes (map (carried_of s) l.items)) q
          × ((index < 2 ^ length (map (carried_of s) l.items)) × (length (map (carried_of s) l.items) ≤ MAX_HEIGHT) × NodesFit (map (carried_of s) l.items))
      built s at q l n r from ks end x low er y is =
          let el : record { at = from; items = ks } ≡ l = cc in
          let eq : end ≡ q = cc in
          rw (← el, ← eq, y.1.0) (stands-join (rw er at x.0) y.0, (low, x.1, y.1.1))

-- ---- a TSC proof with id and root target

flags_encoding : Encoding flags_field itself (λ b. b ∷ []) (λ b. (b < 256) × (flags_allowed b ≡ true))
unfolding flags_field
flags_encoding = tested_encoding (λ f. flags_allowed f) BAD_FLAG byte_encoding

-- what is written is read, and says what was written
pub tsc_reads : (s : List ℕ) (at q : ℕ) (c : TscContent) → TscFit c → Stands s at (tsc_bytes c) q
    → (t : Tsc) × (tsc_field s at ≡ ok t q) × (t.flags ≡ ID_AND_ROOT) × (tsc_content_of s t ≡ c)
unfolding tsc_up_to subject_field target_field tsc_bytes subject_id each
tsc_reads s at q c f a =
    let nodes : List ℕ = varint_bytes (length c.nodes) ++ encode_all carried_bytes c.nodes in
    let flags-end : ℕ = at + 1 in
    let index-end : ℕ = flags-end + length (varint_bytes c.index) in
    let id-end : ℕ = index-end + length c.id in
    let root-end : ℕ = id-end + length c.root in
    let i = stands-split (ID_AND_ROOT ∷ []) (varint_bytes c.index ++ (c.id ++ (c.root ++ nodes))) a in
    let j = stands-split (varint_bytes c.index) (c.id ++ (c.root ++ nodes)) i.1 in
    let k = stands-split c.id (c.root ++ nodes) j.1 in
    let l = stands-split c.root nodes k.1 in
    let id = hash_reads s index-end id-end c.id f.id_fits.0 k.0 in
    let root = hash_reads s id-end root-end c.root f.root_fits.0 l.0 in
    let r = (nodes_encoding c.index flags-end).reads s root-end q c.nodes (f.index_fits, f.low, f.nodes_fit) l.1 in (
      record { flags = ID_AND_ROOT; index = c.index; subject = Subject.Id index-end; target = id-end; nodes_at = r.0.at; nodes = r.0.items },
      rw (
        read_itself flags_encoding s at flags-end ID_AND_ROOT (omega arith, refl) i.0,
        read_itself varint_encoding s flags-end index-end c.index (index-small c.index (length c.nodes) f.index_fits f.low) j.0,
        id.0,
        root.0,
        r.1,
      ),
      refl,
      rw (id.1, root.1, r.2),
    )
  where
    index-small : (index n : ℕ) → index < 2 ^ n → n ≤ MAX_HEIGHT → index < 18446744073709551616
    index-small index n h l = let m : 2 ^ n ≤ 2 ^ 64 = pow_mono {j = 64} (omega arith) in omega arith

-- what was read with these flags is the writing of what it says
pub tsc-says : (s : List ℕ) (at q : ℕ) (t : Tsc) → AllBytes s → tsc_field s at ≡ ok t q → t.flags ≡ ID_AND_ROOT
    → Stands s at (tsc_bytes (tsc_content_of s t)) q × TscFit (tsc_content_of s t)
unfolding tsc_up_to subject_field target_field tsc_bytes subject_id
tsc-says s at q t h e four =
    let a = onward-told (flags_field s at) _ e in
    let b = onward-told (varint s a.1) _ a.3 in
    let c = onward-told (subject_field a.0 s b.1) _ b.3 in
    let d = onward-told (target_field a.0 s c.1) _ c.3 in
    let n = onward-told (nodes_field b.0 a.1 s d.1) _ d.3 in
    built a.0 a.1 b.0 b.1 c.0 c.1 d.0 d.1 n.0 n.1 (flags_encoding.told s at a.1 a.0 h a.2).0 (varint_encoding.told s a.1 b.1 b.0 h b.2).0 c.2 d.2
    ((nodes_encoding b.0 a.1).told s d.1 n.1 n.0 h n.2) n.3
  where
    id-says : (from : ℕ) (x : Subject) (end : ℕ) → subject_field ID_AND_ROOT s from ≡ ok x end → Stands s from (subject_id s x) end × HashFit (subject_id s x)
    id-says from x end m =
        let g = each-ok Subject.Id (bytes 32 s from) m in
        rw (← g.2) (hash-says s from end g.0 h g.1)

    built : (flags flags-end index index-end : ℕ) (x : Subject) (id-end target root-end : ℕ) (l : Listed Kind) (end : ℕ) → Stands s at (flags ∷ []) flags-end
        → Stands s flags-end (varint_bytes index) index-end → subject_field flags s index-end ≡ ok x id-end → target_field flags s id-end ≡ ok target root-end
        → Stands s root-end (varint_bytes (length (map (carried_of s) l.items)) ++ encode_all carried_bytes (map (carried_of s) l.items)) end
        × ((index < 2 ^ length (map (carried_of s) l.items)) × (length (map (carried_of s) l.items) ≤ MAX_HEIGHT) × NodesFit (map (carried_of s) l.items))
        → ◌≡◌ {A = Parse Tsc} (ok (record { flags = flags; index = index; subject = x; target = target; nodes_at = l.at; nodes = l.items }) end) (ok t q)
        → Stands s at (tsc_bytes (tsc_content_of s t)) q × TscFit (tsc_content_of s t)
    built flags flags-end index index-end x id-end target root-end l end fs vs xs ts ns is =
        let et : record { flags = flags; index = index; subject = x; target = target; nodes_at = l.at; nodes = l.items } ≡ t = cc in
        let eq : end ≡ q = cc in
        let ef : flags ≡ ID_AND_ROOT = ap (λ (y : Tsc). y.flags) et ∙ four in
        let id = id-says index-end x id-end (rw ef at xs) in
        let root = hash-says s id-end root-end target h (rw ef at ts) in
        rw (← et, ← eq) (
          stands-join (rw ef at fs) (stands-join vs (stands-join id.0 (stands-join root.0 ns.0))),
          record { index_fits = ns.1.0; low = ns.1.1; id_fits = id.1; root_fits = root.1; nodes_fit = ns.1.2 },
        )
