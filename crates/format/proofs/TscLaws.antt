-- Laws of TSC proofs: what a reading answers, and what is known of a proof that was read.
use mathlib.Core.Path.{◌≡◌, refl, ap, sym, ◌∙◌}
use mathlib.Core.List.{List}
use mathlib.Core.Bool.{Bool, true, false}
use Prim.Native.Nat.{ℕ, ◌+◌, ◌*◌, ◌^◌, ◌/◌, ◌≤◌, ◌<◌}
use lib.ListN.{length, replicate}
use lib.Bits.{bit_and}
use lib.Dec.{ltb, leb, eqb}
use lib.Pow.{pow_pos, pow_mono}
use native.Mathlib.Omega.{arith}
use native.Mathlib.Nat.{div-eq_of_lt, div-lt_iff_lt-mul}
use borrow.Author.Tests.{lt-ltb, eq-eqb, ne_eqb, leb-true, ltb-true, ltb-false}
use Rattle.format.specs.declared.leaf.Kind.{Kind}
use Rattle.format.specs.declared.transaction.Items.{Items}
use Rattle.format.specs.declared.transaction.TxHead.{TxHead}
use Rattle.format.specs.declared.tsc.Subject.{Subject}
use Rattle.format.specs.Parse.{Parse, pick, given, each, require, times, ok, fault}
use Rattle.format.proofs.ParseLaws.{passing_told, onward-told, each-ok, many-length, whole-told}
use Rattle.format.specs.Field.{bytes, byte, varint}
use Rattle.format.proofs.Span.{picked-told, BytesRead, bytes-told}
use Rattle.format.specs.Node.{node_field}
use Rattle.format.proofs.BytesLaws.{hash-none}
use Rattle.format.specs.Transaction.{Listed, Transaction, tx_field, items_of, tx_head_of}
use Rattle.format.proofs.TransactionLaws.{tx_told}
use Rattle.format.specs.Tsc.{flags_allowed, flags_field, has_transaction, has_header, exactly, exact_field, as_subject, stated_field, subject_field, target_field, index_fits, node_count_field, node_count_up_to, nodes_field, nodes_up_to, Tsc, tsc_field, tsc_up_to, tsc_whole, tsc_head_of, target_root}
use Rattle.format.specs.Refusals.{OVER_LIMIT, BAD_OFFSET, BAD_FLAG, BAD_TX, MAX_HEIGHT}

-- the index test by division: 2 ^ 64 need not fit
pub fits-shifted : (index layers : ℕ) → index_fits index layers ≡ eqb (index / 2 ^ layers) 0
unfolding index_fits
fits-shifted index layers = by (ltb index (2 ^ layers)) refl
  where
    by : (t : Bool) → ltb index (2 ^ layers) ≡ t → ltb index (2 ^ layers) ≡ eqb (index / 2 ^ layers) 0
    by true h = h ∙ sym (eq-eqb (index / 2 ^ layers) 0 (div-eq_of_lt (ltb-true _ _ h)))
    by false h =
        h ∙ sym (ne_eqb (index / 2 ^ layers) 0 (λ e.
        let low : index / 2 ^ layers < 1 = omega arith in
        let small : index < 1 * 2 ^ layers = (div-lt_iff_lt-mul (pow_pos layers)).0 low in
        let large = ltb-false index (2 ^ layers) h in
        omega arith))

pub fits_all : (index layers : ℕ) → index < 2 ^ 64 → 64 ≤ layers → index_fits index layers ≡ true
unfolding index_fits
fits_all index layers h l = let m : 2 ^ 64 ≤ 2 ^ layers = pow_mono l in lt-ltb index (2 ^ layers) (omega arith)

-- a transaction of exactly its stated length
module _ (n : ℕ) (s : List ℕ) (at : ℕ) where
  pub exact_short : {k q : ℕ} → bytes n s at ≡ fault k q → each as_subject (exact_field n s at) ≡ fault k q
  unfolding exact_field each
  exact_short e = rw e

  pub exact_fault : {p e k q : ℕ} → bytes n s at ≡ ok p e → tx_field s p ≡ fault k q → each as_subject (exact_field n s at) ≡ fault BAD_TX p
  unfolding exact_field each
  exact_fault b t = rw (b, t)

  pub exact_other : {p e q : ℕ} {t : Transaction} → bytes n s at ≡ ok p e → tx_field s p ≡ ok t q → (q ≡ e → ⊥) → each as_subject (exact_field n s at) ≡ fault BAD_TX p
  unfolding exact_field each
  exact_other b t h = simp (b, t, ne_eqb _ _ h)

  pub exact_read : {p e q : ℕ} {t : Transaction} {h : TxHead} → bytes n s at ≡ ok p e → tx_field s p ≡ ok t q → tx_head_of t ≡ h → q ≡ e
      → each as_subject (exact_field n s at) ≡ ok (Subject.Transaction h.start h.end) q
  unfolding exact_field each
  exact_read {q = q} b t is h = simp (b, t, eq-eqb _ _ h) (ap (λ (x : TxHead). ok (Subject.Transaction x.start x.end) q) is)

-- the nodes with their count
module _ (index index_at : ℕ) (s : List ℕ) (at : ℕ) where
  pub nodes_no_count : {n q : ℕ} → node_count_field s at ≡ fault n q → each items_of (nodes_field index index_at s at) ≡ fault n q
  unfolding nodes_up_to each
  nodes_no_count e = rw e

  pub nodes_outside : {n q : ℕ} → node_count_field s at ≡ ok n q → index_fits index n ≡ false → each items_of (nodes_field index index_at s at) ≡ fault BAD_OFFSET index_at
  unfolding nodes_up_to each
  nodes_outside e h = rw (e, h)

  pub nodes-refused : {n q k r : ℕ} → node_count_field s at ≡ ok n q → index_fits index n ≡ true → times node_field n s q ≡ fault k r
      → each items_of (nodes_field index index_at s at) ≡ fault k r
  unfolding nodes_up_to each
  nodes-refused e h f = rw (e, h, f)

  pub nodes-read : {n q m r : ℕ} {l : List Kind} → node_count_field s at ≡ ok n q → index_fits index n ≡ true → times node_field n s q ≡ ok l r → length l ≡ m
      → each items_of (nodes_field index index_at s at) ≡ ok (record { count = m; at = record { at = q } }) r
  unfolding nodes_up_to each
  nodes-read e h f m = rw (e, h, f, m)

-- what a reading answers, by what it kept
pub tsc_head : (flags index : ℕ) (subject : Subject) (target : ℕ) (l : Listed Kind) (q : ℕ) {i : Items} → items_of l ≡ i
    → each tsc_head_of (ok (record { flags = flags; index = index; subject = subject; target = target; nodes_at = l.at; nodes = l.items }) q)
    ≡ ok (record { flags = flags; index = index; subject = subject; target = target; nodes = i.count; nodes_at = i.at }) q
unfolding each
tsc_head flags index subject target l q e = rw (← e)

-- a header that isn't all there has zeros for its root
pub root_none : (s : List ℕ) (flags target : ℕ) → bit_and flags 6 ≡ 2 → length s < target + 68 → target_root s flags target ≡ replicate 32 0
unfolding target_root
root_none s flags target h l = simp (eq-eqb (bit_and flags 6) 2 h) (hash-none s (target + 36) (omega arith))

-- a transaction of its stated length is a transaction
pub exact_told : (n : ℕ) (s : List ℕ) (at : ℕ) {t : Transaction} {q : ℕ} → exact_field n s at ≡ ok t q → tx_field s at ≡ ok t q
unfolding exact_field
exact_told n s at {t} {q} e =
    let b = onward-told (bytes n s at) _ e in
    let p = bytes-told n s at b.2 in
    ap (λ (k : ℕ). tx_field s k) (sym p.place_is) ∙ same b.0 b.1 (tx_field s b.0) b.3
  where
    same : (start end : ℕ) (p : Parse Transaction) → exactly start end p ≡ ok t q → p ≡ ok t q
    same start end (ok a r) m = let x = picked-told (eqb r end) a r BAD_TX start m in ap (λ (b : Transaction). ok b r) x.1 ∙ ap (λ (k : ℕ). ok t k) x.2
    same start end (fault k r) m = absurd (let z : ◌≡◌ {A = ℕ} 0 1 = cc in omega arith)

-- what is proved: an id in the bytes, or a transaction at its place
pub record SubjectRead (s : List ℕ) (x : Subject) : Type 0 where
  pub id : (p : ℕ) → x ≡ Subject.Id p → p + 32 ≤ length s
  pub transaction : (a e : ℕ) → x ≡ Subject.Transaction a e → (t : Transaction) × (tx_field s a ≡ ok t e)

pub subject-told : (flags : ℕ) (s : List ℕ) (at : ℕ) {x : Subject} {q : ℕ} → subject_field flags s at ≡ ok x q → SubjectRead s x
unfolding subject_field stated_field
subject-told flags s at {x} {q} e = chosen (has_transaction flags) e
  where
    stands : (t : Transaction) (from end : ℕ) → tx_field s from ≡ ok t end → as_subject t ≡ x → (a e : ℕ) → x ≡ Subject.Transaction a e → (t : Transaction) × (tx_field s a ≡ ok t e)
    stands t from end r is a e h =
        let told = tx_told s from r in
        let ea : t.start ≡ a = cc in
        let ee : t.end ≡ e = cc in
        (t, ap (λ (k : ℕ). tx_field s k) (sym ea ∙ told.start_is) ∙ r ∙ ap (λ (k : ℕ). ok t k) (sym told.end_is ∙ ee))

    here-is : (p : ℕ) {next : ℕ} → BytesRead 32 s at p next → Subject.Id p ≡ x → (k : ℕ) → x ≡ Subject.Id k → k + 32 ≤ length s
    here-is p b is k h = let z : p ≡ k = cc in omega arith

    chosen : (t : Bool) → pick t stated_field (given Subject.Id (bytes 32)) s at ≡ ok x q → SubjectRead s x
    chosen true m =
        let v = onward-told (varint s at) _ m in
        let w = each-ok as_subject (exact_field v.0 s v.1) v.3 in
        let is = w.2 in
        record {
          id = λ p h. absurd (let z : ◌≡◌ {A = ℕ} 0 1 = cc in omega arith);
          transaction = stands w.0 v.1 q (exact_told v.0 s v.1 w.1) w.2;
        }
    chosen false m =
        let w = each-ok Subject.Id (bytes 32 s at) m in
        let is = w.2 in
        record {
          id = here-is w.0 (bytes-told 32 s at w.1) w.2;
          transaction = λ a e h. absurd (let z : ◌≡◌ {A = ℕ} 0 1 = cc in omega arith);
        }

-- nodes that were read: not too many, as many as the index fits, at their place
pub record NodesRead (index : ℕ) (s : List ℕ) (next : ℕ) (l : Listed Kind) : Type 0 where
  pub low : length l.items ≤ MAX_HEIGHT
  pub fits : index_fits index (length l.items) ≡ true
  pub read : times node_field (length l.items) s l.at ≡ ok l.items next

pub nodes-told : (index index_at : ℕ) (s : List ℕ) (at : ℕ) {l : Listed Kind} {q : ℕ} → nodes_field index index_at s at ≡ ok l q → NodesRead index s q l
unfolding nodes_up_to node_count_up_to
nodes-told index index_at s at {l} {q} e =
    let x = onward-told (node_count_field s at) _ e in
    let y = onward-told (require (index_fits index x.0) BAD_OFFSET index_at s x.1) _ x.3 in
    let z = onward-told (times node_field x.0 s y.1) _ y.3 in
    let low = leb-true _ _ (passing_told varint (λ n. leb n MAX_HEIGHT) OVER_LIMIT s at x.2).1 in
    let fit = picked-told {A = Unit {0}} (index_fits index x.0) tt x.1 BAD_OFFSET index_at y.2 in
    built x.0 y.1 z.0 z.1 low fit.0 z.2 z.3
  where
    built : (n from : ℕ) (items : List Kind) (end : ℕ) → n ≤ MAX_HEIGHT → index_fits index n ≡ true → times node_field n s from ≡ ok items end
        → ◌≡◌ {A = Parse (Listed Kind)} (ok (record { at = from; items = items }) end) (ok l q) → NodesRead index s q l
    built n from items end low fit r is =
        let el : record { at = from; items = items } ≡ l = cc in
        let eq : end ≡ q = cc in
        let len = many-length {S = Unit {0}} (λ _. node_field) (λ u _. u) n tt s from r in
        rw (← el, ← eq) (record { low = rw len low; fits = rw len fit; read = rw len r })

-- a TSC proof that was read
pub record TscRead (s : List ℕ) (next : ℕ) (t : Tsc) : Type 0 where
  pub allowed : flags_allowed t.flags ≡ true
  pub subject : SubjectRead s t.subject
  pub target : t.target + pick (has_header t.flags) 80 32 ≤ length s
  pub low : length t.nodes ≤ MAX_HEIGHT
  pub fits : index_fits t.index (length t.nodes) ≡ true
  pub nodes : times node_field (length t.nodes) s t.nodes_at ≡ ok t.nodes next

pub tsc-told : (s : List ℕ) (at : ℕ) {t : Tsc} {q : ℕ} → tsc_field s at ≡ ok t q → TscRead s q t
unfolding tsc_up_to flags_field target_field
tsc-told s at {t} {q} e =
    let a = onward-told (flags_field s at) _ e in
    let b = onward-told (varint s a.1) _ a.3 in
    let c = onward-told (subject_field a.0 s b.1) _ b.3 in
    let d = onward-told (target_field a.0 s c.1) _ c.3 in
    let n = onward-told (nodes_field b.0 a.1 s d.1) _ d.3 in
    let f = passing_told byte (λ f. flags_allowed f) BAD_FLAG s at a.2 in
    built a.0 b.0 c.0 c.1 d.0 n.0 n.1 f.1 (subject-told a.0 s b.1 c.2) (bytes-told (pick (has_header a.0) 80 32) s c.1 d.2)
    (nodes-told b.0 a.1 s d.1 n.2) n.3
  where
    built : (flags index : ℕ) (subject : Subject) (from target : ℕ) (l : Listed Kind) (end : ℕ) {after : ℕ} → flags_allowed flags ≡ true → SubjectRead s subject
        → BytesRead (pick (has_header flags) 80 32) s from target after → NodesRead index s end l
        → ◌≡◌ {A = Parse Tsc} (ok (record { flags = flags; index = index; subject = subject; target = target; nodes_at = l.at; nodes = l.items }) end) (ok t q)
        → TscRead s q t
    built flags index subject from target l end permitted sub tar nod is =
        let et : record { flags = flags; index = index; subject = subject; target = target; nodes_at = l.at; nodes = l.items } ≡ t = cc in
        let eq : end ≡ q = cc in
        rw (← et, ← eq) (record {
          allowed = permitted;
          subject = sub;
          target = rw tar.place_is tar.inside;
          low = nod.low;
          fits = nod.fits;
          nodes = nod.read;
        })

pub tsc-whole-told : (s : List ℕ) {t : Tsc} {q : ℕ} → tsc_whole s ≡ ok t q → TscRead s q t
tsc-whole-told s e = tsc-told s 0 (whole-told tsc_field s e)
