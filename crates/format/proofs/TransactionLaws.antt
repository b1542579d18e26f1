-- Laws of transactions: what a reading answers, and what is known of a transaction that was read.
use mathlib.Core.Path.{◌≡◌, refl, ap, ap₂, sym, ◌∙◌}
use mathlib.Core.Bool.{Bool, true, false, not}
use mathlib.Core.List.{List, ◌∷◌}
use Prim.Native.Nat.{ℕ, zero, suc, ◌+◌, ◌-◌, ◌≤◌, ◌<◌}
use lib.ListN.{length}
use lib.Dec.{leb}
use native.Mathlib.Omega.{arith}
use native.Mathlib.Decide.{dec_le}
use borrow.Author.Tests.{leb-true, le-leb, lt-leb, eqb-false, eq-eqb, ne_eqb, not-true, not-false}
use Rattle.format.specs.declared.transaction.Input.{Input}
use Rattle.format.specs.declared.transaction.Items.{Items}
use Rattle.format.specs.declared.transaction.TxHead.{TxHead}
use Rattle.format.specs.Parse.{Parse, Reader, onward, each, ◌passing◌else◌, many, times, ok, fault}
use Rattle.format.proofs.ParseLaws.{onward-told, passing_told, many-length, count-start, count-step, count-refused, count-all, each-ok, each-fault, whole-told}
use Rattle.format.proofs.Whole.{whole_ends}
use Rattle.format.specs.Field.{bytes, le8, number, varint}
use Rattle.format.specs.Refusals.{BAD_TX, BAD_AMOUNT, MAX_TOTAL}
use Rattle.format.proofs.Span.{Within, within_then, BytesRead, bytes-told, varint-told, many-within}
use Rattle.format.specs.Transaction.{Listed, Transaction, script_field, input_field, takes, output_field, outputs_field, some_field, list_field, fields_by, node_sized, tx_field_by, tx_field, tx_whole, items_of, tx_head_of}

-- what a reading answers, by what it kept
pub list_head : {A : Type 0} (at : ℕ) (l : List A) (q n : ℕ) → length l ≡ n
    → each items_of (ok (record { at = at; items = l }) q) ≡ ok (record { count = n; at = record { at = at } }) q
unfolding each
list_head at l q n e = rw e

pub tx_head : (start end q : ℕ) (ins : Listed Input) (outs : Listed ℕ) {i o : Items} → items_of ins ≡ i → items_of outs ≡ o
    → each tx_head_of (ok (record { start = start; end = end; inputs_at = ins.at; inputs = ins.items; outputs_at = outs.at; outputs = outs.items }) q)
    ≡ ok (record { start = start; end = end; inputs = i; outputs = o }) q
unfolding each
tx_head start end q ins outs e f = rw (← e, ← f)

-- how far the parts go
bytes-within : (n : ℕ) (s : List ℕ) (at : ℕ) {p q : ℕ} → bytes n s at ≡ ok p q → Within s at q
bytes-within n s at e = let b = bytes-told n s at e in record { forward = omega arith; inside = λ h. omega arith }

varint-within : (s : List ℕ) (at : ℕ) {v q : ℕ} → varint s at ≡ ok v q → Within s at q
varint-within s at e = let v = varint-told s at e in record { forward = omega arith; inside = λ h. omega arith }

script_within : (s : List ℕ) (at : ℕ) {v q : ℕ} → script_field s at ≡ ok v q → Within s at q
unfolding script_field
script_within s at e =
    let x = onward-told (varint s at) _ e in
    within_then (varint-within s at x.2) (bytes-within x.0 s x.1 x.3)

-- an input that was read: its parent's id and its output number stand in the bytes
pub record InputRead (s : List ℕ) (at next : ℕ) (i : Input) : Type 0 where
  pub parent_is : i.parent ≡ at
  pub output-is : i.output ≡ at + 32
  pub inside : at + 36 ≤ length s
  pub goes : Within s at next

pub input-told : (s : List ℕ) (at : ℕ) {i : Input} {q : ℕ} → input_field s at ≡ ok i q → InputRead s at q i
unfolding input_field
input-told s at {i} {q} e =
    let a = onward-told (bytes 32 s at) _ e in
    let b = onward-told (bytes 4 s a.1) _ a.3 in
    let c = onward-told (script_field s b.1) _ b.3 in
    let d = onward-told (bytes 4 s c.1) _ c.3 in
    let is : ◌≡◌ {A = Parse Input} (ok (record { parent = a.0; output = b.0 }) d.1) (ok i q) = d.3 in
    built a.0 b.0 a.1 d.1 (bytes-told 32 s at a.2) (bytes-told 4 s a.1 b.2)
    (within_then (bytes-within 32 s at a.2) (within_then (bytes-within 4 s a.1 b.2)
    (within_then (script_within s b.1 c.2) (bytes-within 4 s c.1 d.2)))) is
  where
    built : (parent output mid end : ℕ) {after : ℕ} → BytesRead 32 s at parent mid → BytesRead 4 s mid output after → Within s at end
        → ◌≡◌ {A = Parse Input} (ok (record { parent = parent; output = output }) end) (ok i q) → InputRead s at q i
    built parent output mid end x y w is =
        let ei : record { parent = parent; output = output } ≡ i = cc in
        let eq : end ≡ q = cc in
        rw (← ei, ← eq) (record { parent_is = x.place_is; output-is = omega arith; inside = omega arith; goes = w })

-- an amount that was read is taken
pub output-told : (taken : ℕ → Bool) (s : List ℕ) (at : ℕ) {v q : ℕ} → output_field taken s at ≡ ok v q → (taken v ≡ true) × Within s at q
unfolding output_field
output-told taken s at {v} {q} e =
    let a = onward-told ((number le8 8 passing taken else BAD_AMOUNT) s at) _ e in
    let p = passing_told (number le8 8) taken BAD_AMOUNT s at a.2 in
    let n = onward-told (bytes 8 s at) _ p.0 in
    let b = onward-told (script_field s a.1) _ a.3 in
    let end : b.1 ≡ q = cc in
    let mid : n.1 ≡ a.1 = cc in
    let is : a.0 ≡ v = cc in
    (ap taken (sym is) ∙ p.1, rw (← end) (within_then (rw mid at (bytes-within 8 s at n.2)) (script_within s a.1 b.2)))

-- ---- a loop over outputs

-- of outputs that are not limited no running total is asked
any-total : (s : List ℕ) (n t u at : ℕ) → many (λ total. output_field (takes false total)) ◌+◌ n t s at ≡ many (λ total. output_field (takes false total)) ◌+◌ n u s at
unfolding many takes
any-total s zero t u at = refl
any-total s (suc n) t u at = ap (onward (output_field (λ _. true) s at)) (λ i a at'. each (a ∷◌) (any-total s n (t + a) (u + a) at' i))

pub unlimited : (limited : Bool) → not limited ≡ true → limited ≡ true → ⊥
unlimited true e f = let z : ◌≡◌ {A = ℕ} 0 1 = cc in omega arith
unlimited false e f = let z : ◌≡◌ {A = ℕ} 0 1 = cc in omega arith

-- which amounts are taken
module _ (limited : Bool) (total amount : ℕ) where
  pub taken-any : not limited ≡ true → true ≡ takes limited total amount
  unfolding takes
  taken-any e = rw (not-true limited e)

  module _ (e : not limited ≡ false) where
    pub taken_over : MAX_TOTAL < amount → false ≡ takes limited total amount
    unfolding takes
    taken_over h = rw (not-false limited e) (sym (lt-leb (total + amount) MAX_TOTAL (omega arith)))

    pub taken_by : amount ≤ MAX_TOTAL → leb total (MAX_TOTAL - amount) ≡ takes limited total amount
    unfolding takes
    taken_by h = rw (not-false limited e) (either (dec_le total (MAX_TOTAL - amount)))
      where
        either : Dec (total ≤ MAX_TOTAL - amount) → leb total (MAX_TOTAL - amount) ≡ leb (total + amount) MAX_TOTAL
        either (yes a) = rw (le-leb total (MAX_TOTAL - amount) a, le-leb (total + amount) MAX_TOTAL (omega arith))
        either (no a) = rw (lt-leb total (MAX_TOTAL - amount) (omega arith), lt-leb (total + amount) MAX_TOTAL (omega arith))

-- the running total that is kept while amounts are taken
pub taken-total : (limited : Bool) (total amount : ℕ) → limited ≡ true → takes limited total amount ≡ true → total + amount ≤ MAX_TOTAL
unfolding takes
taken-total limited total amount is e = leb-true (total + amount) MAX_TOTAL (rw is at e)

module _ (limited : Bool) (n : ℕ) (s : List ℕ) where
  abbrev left : ℕ → ℕ → ℕ → Parse ℕ
  left i total at = each (λ l. i + length l) (many (λ total. output_field (takes limited total)) ◌+◌ (n - i) total s at)

  pub outputs-start : (at : ℕ) → each length (outputs_field limited n s at) ≡ left 0 0 at
  unfolding outputs_field
  outputs-start at = count-start (λ total. output_field (takes limited total)) ◌+◌ n s 0 at

  pub outputs-step : (i total after at : ℕ) {a q : ℕ} → i < n → output_field (takes limited total) s at ≡ ok a q → (limited ≡ true → after ≡ total + a) → left i total at ≡ left (i + 1) after q
  outputs-step i total after at {a} {q} h e f = count-step (λ total. output_field (takes limited total)) ◌+◌ n s i total at h e ∙ same limited refl
    where
      same : (b : Bool) → limited ≡ b → left (i + 1) (total + a) q ≡ left (i + 1) after q
      same true is = ap (λ (t : ℕ). left (i + 1) t q) (sym (f is))
      same false is = ap (λ (b : Bool). each (λ l. i + 1 + length l) (many (λ total. output_field (takes b total)) ◌+◌ (n - (i + 1)) (total + a) s q)) is
          ∙ ap (each (λ l. i + 1 + length l)) (any-total s (n - (i + 1)) (total + a) after q)
          ∙ ap (λ (b : Bool). each (λ l. i + 1 + length l) (many (λ total. output_field (takes b total)) ◌+◌ (n - (i + 1)) after s q)) (sym is)

  pub outputs-refused : (i total at : ℕ) {k q : ℕ} → i < n → output_field (takes limited total) s at ≡ fault k q → left i total at ≡ fault k q
  outputs-refused i total at h e = count-refused (λ total. output_field (takes limited total)) ◌+◌ n s i total at h e

  pub outputs-done : (i total at : ℕ) → i ≡ n → left i total at ≡ ok n at
  outputs-done i total at h = count-all (λ total. output_field (takes limited total)) ◌+◌ n s i total at h

-- items that were read: at least one, at their place
pub record ListRead {A : Type 0} (list : ℕ → Reader (List A)) (s : List ℕ) (at next : ℕ) (l : Listed A) : Type 0 where
  pub some : 1 ≤ length l.items
  pub read : list (length l.items) s l.at ≡ ok l.items next
  pub goes : Within s at next

-- so many items are a list of so many, and end within the bytes
pub record Counts {A : Type 0} (list : ℕ → Reader (List A)) (s : List ℕ) : Type 0 where
  pub counted : (n at : ℕ) (l : List A) (q : ℕ) → list n s at ≡ ok l q → (length l ≡ n) × Within s at q

pub list-told : {A : Type 0} (list : ℕ → Reader (List A)) (s : List ℕ) (at : ℕ) {l : Listed A} {q : ℕ} → Counts list s → list_field list s at ≡ ok l q → ListRead list s at q l
unfolding list_field some_field
list-told {A = A} list s at {l} {q} w e =
    let a = onward-told (some_field s at) _ e in
    let b = onward-told (list a.0 s a.1) _ a.3 in
    let p = passing_told varint (λ n. leb 1 n) BAD_TX s at a.2 in
    let is : ◌≡◌ {A = Parse (Listed A)} (ok (record { at = a.1; items = b.0 }) b.1) (ok l q) = b.3 in
    let c = w.counted a.0 a.1 b.0 b.1 b.2 in
    built a.0 a.1 b.1 b.0 (leb-true _ _ p.1) b.2 c.0 (within_then (varint-within s at p.0) c.1) is
  where
    built : (n from end : ℕ) (items : List A) → 1 ≤ n → list n s from ≡ ok items end → length items ≡ n → Within s at end
        → ◌≡◌ {A = Parse (Listed A)} (ok (record { at = from; items = items }) end) (ok l q) → ListRead list s at q l
    built n from end items one r many goes is =
        let el : record { at = from; items = items } ≡ l = cc in
        let eq : end ≡ q = cc in
        rw (← el, ← eq) (record { some = omega arith; read = rw many r; goes = goes })

inputs-counted : (s : List ℕ) → Counts (times input_field) s
inputs-counted s = record { counted = λ n at l q e. (many-length {S = Unit {0}} (λ _. input_field) (λ u _. u) n tt s at e, many-within {S = Unit {0}} (λ _. input_field) (λ u _. u) s (λ _ at' x r h. (input-told s at' h).goes) n tt at e) }

outputs-counted : (limited : Bool) (s : List ℕ) → Counts (outputs_field limited) s
unfolding outputs_field
outputs-counted limited s =
    record { counted = λ n at l q e. (many-length (λ total. output_field (takes limited total)) ◌+◌ n 0 s at e, many-within (λ total. output_field (takes limited total)) ◌+◌ s (λ t at' x r h. (output-told (takes limited t) s at' h).1) n 0 at e) }

-- a transaction that was read: where it stands, and its inputs and outputs at their places
pub record TxRead (limited : Bool) (s : List ℕ) (at next : ℕ) (t : Transaction) : Type 0 where
  pub start_is : t.start ≡ at
  pub end_is : t.end ≡ next
  pub forward : at < next
  pub inside : next ≤ length s
  pub some-inputs : 1 ≤ length t.inputs
  pub some-outputs : 1 ≤ length t.outputs
  pub inputs_end : ℕ
  pub inputs_read : times input_field (length t.inputs) s t.inputs_at ≡ ok t.inputs inputs_end
  pub outputs-end : ℕ
  pub outputs-read : outputs_field limited (length t.outputs) s t.outputs_at ≡ ok t.outputs outputs-end

fields_told : {limited : Bool} (s : List ℕ) (at : ℕ) {t : Transaction} {q : ℕ} → fields_by limited s at ≡ ok t q → TxRead limited s at q t
unfolding fields_by
fields_told {limited} s at {t} {q} e =
    let a = onward-told (bytes 4 s at) _ e in
    let b = onward-told (list_field (times input_field) s a.1) _ a.3 in
    let c = onward-told (list_field (outputs_field limited) s b.1) _ b.3 in
    let d = onward-told (bytes 4 s c.1) _ c.3 in
    built a.0 a.1 b.1 c.1 d.0 d.1 b.0 c.0 (bytes-told 4 s at a.2)
    (list-told (times input_field) s a.1 (inputs-counted s) b.2)
    (list-told (outputs_field limited) s b.1 (outputs-counted limited s) c.2)
    (bytes-told 4 s c.1 d.2) d.3
  where
    built : (start one two three lock end : ℕ) (ins : Listed Input) (outs : Listed ℕ) → BytesRead 4 s at start one → ListRead (times input_field) s one two ins → ListRead (outputs_field limited) s two three outs
        → BytesRead 4 s three lock end
        → ◌≡◌ {A = Parse Transaction} (ok (record { start = start; end = end; inputs_at = ins.at; inputs = ins.items; outputs_at = outs.at; outputs = outs.items }) end) (ok t q)
        → TxRead limited s at q t
    built start one two three lock end ins outs v i o l is =
        let et : record { start = start; end = end; inputs_at = ins.at; inputs = ins.items; outputs_at = outs.at; outputs = outs.items } ≡ t = cc in
        let eq : end ≡ q = cc in
        let f = i.goes.forward in
        let g = o.goes.forward in
        rw (← et, ← eq) (record {
          start_is = v.place_is;
          end_is = refl;
          forward = omega arith;
          inside = omega arith;
          some-inputs = i.some;
          some-outputs = o.some;
          inputs_end = two;
          inputs_read = i.read;
          outputs-end = three;
          outputs-read = o.read;
        })

-- a transaction: fields that pass the test on their size
pub tx_fields : (limited : Bool) (s : List ℕ) (at : ℕ) {t : Transaction} {q : ℕ} → tx_field_by limited s at ≡ ok t q → (fields_by limited s at ≡ ok t q) × (not (node_sized t) ≡ true)
unfolding tx_field_by
tx_fields limited s at e = passing_told (fields_by limited) (λ t. not (node_sized t)) BAD_TX s at e

pub tx_told : {limited : Bool} (s : List ℕ) (at : ℕ) {t : Transaction} {q : ℕ} → tx_field_by limited s at ≡ ok t q → TxRead limited s at q t
tx_told {limited} s at e = fields_told s at (tx_fields limited s at e).0

module _ (limited : Bool) (s : List ℕ) (at : ℕ) {t : Transaction} {q : ℕ} where
  -- it does not have the size of two nodes
  pub tx_size : tx_field_by limited s at ≡ ok t q → q - at ≡ 64 → ⊥
  tx_size e h =
      let r = tx_told s at e in
      eqb-false (t.end - t.start) 64 (not-true (node_sized t) (tx_fields limited s at e).1) (ap₂ ◌-◌ r.end_is r.start_is ∙ h)

  -- fields of any other size are a transaction
  pub tx_read : fields_by limited s at ≡ ok t q → (q - at ≡ 64 → ⊥) → tx_field_by limited s at ≡ ok t q
  unfolding tx_field_by
  tx_read e n =
      let r = fields_told s at e in
      rw (e, ne_eqb (t.end - t.start) 64 (λ z. n (sym (ap₂ ◌-◌ r.end_is r.start_is) ∙ z)))

-- an input that is one raw transaction does not have 64 bytes
pub tx_whole-size : (s : List ℕ) {t : Transaction} {q : ℕ} → tx_whole s ≡ ok t q → length s ≡ 64 → ⊥
tx_whole-size s {t} {q} e h =
    let f = whole-told tx_field s e in
    let r = tx_told s 0 f in
    tx_size false s 0 f (omega (arith, whole_ends tx_field s e, r.inside))

-- what the code answers of a transaction, by its fields
module _ (limited : Bool) (s : List ℕ) (at : ℕ) where
  pub tx_unread : {n q : ℕ} → each tx_head_of (fields_by limited s at) ≡ fault n q → each tx_head_of (tx_field_by limited s at) ≡ fault n q
  unfolding tx_field_by each
  tx_unread e = rw (each-fault tx_head_of (fields_by limited s at) e)

  module _ {h : TxHead} {q : ℕ} (e : each tx_head_of (fields_by limited s at) ≡ ok h q) where
    pub tx_nodes : h.end - h.start ≡ 64 → each tx_head_of (tx_field_by limited s at) ≡ fault BAD_TX at
    unfolding tx_field_by each
    tx_nodes z =
        let t = each-ok tx_head_of (fields_by limited s at) e in
        let y : t.0.end - t.0.start ≡ 64 = ap (λ (x : TxHead). x.end - x.start) t.2 ∙ z in
        rw (t.1, eq-eqb (t.0.end - t.0.start) 64 y)

    pub tx_other : (h.end - h.start ≡ 64 → ⊥) → each tx_head_of (tx_field_by limited s at) ≡ ok h q
    unfolding tx_field_by each
    tx_other z =
        let t = each-ok tx_head_of (fields_by limited s at) e in
        let y : t.0.end - t.0.start ≡ 64 → ⊥ = λ n. z (sym (ap (λ (x : TxHead). x.end - x.start) t.2) ∙ n) in
        rw (t.1, ne_eqb (t.0.end - t.0.start) 64 y) (ap (λ (x : TxHead). ok x q) t.2)

    -- its end stands behind its start
    pub head_forward : h.start ≤ h.end
    head_forward =
        let t = each-ok tx_head_of (fields_by limited s at) e in
        let r = fields_told s at t.1 in
        let a : t.0.start ≡ h.start = ap (λ (x : TxHead). x.start) t.2 in
        let b : t.0.end ≡ h.end = ap (λ (x : TxHead). x.end) t.2 in
        omega (arith, r.start_is, r.end_is, r.forward)
