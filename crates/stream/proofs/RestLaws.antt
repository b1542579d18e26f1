-- Laws of what is left to read: from a transaction's first byte it is the reading of the transaction, and a byte changes nothing of it.
use mathlib.Core.Path.{◌≡◌, refl, sym, ap, ◌∙◌}
use mathlib.Core.List.{List, ◌∷◌}
use mathlib.Core.Bool.{Bool, true, false, not, true≢false}
use Prim.Native.Nat.{ℕ, zero, suc, ◌+◌, ◌-◌, ◌*◌, ◌≤◌, ◌<◌}
use native.Mathlib.Omega.{arith}
use native.Mathlib.Nat.{add-zero, sub-zero}
use lib.ListN.{length, get_or}
use lib.Dec.{leb, ltb, eqb}
use borrow.Author.Tests.{lt-ltb, le-ltb, le-leb, lt-leb, leb-true, leb-false, ltb-true, ltb-false}
use Rattle.format.specs.Parse.{Parse, Reader, pick, pure, onward, each, many, times, ended, at_start, ◌passing◌else◌, ok, fault}
use Rattle.format.proofs.ParseLaws.{many-length}
use Rattle.format.specs.Field.{bytes, number, varint, le2, le4, le8}
use Rattle.format.proofs.FieldLaws.{varint-none, varint-announced, bytes-here}
use Rattle.format.proofs.Span.{bytes-told}
use Rattle.format.specs.declared.transaction.Input.{Input}
use Rattle.format.specs.Transaction.{Listed, Transaction, script_field, input_field, takes, output_field, outputs_field, some_field, list_field, fields_by, tx_field_by, tx_field}
use Rattle.format.specs.Refusals.{SHORT, LONG_VARINT, EXTRA, BAD_TX}
use Rattle.stream.specs.declared.progress.Stage.{Stage}
use Rattle.stream.specs.declared.progress.Progress.{Progress}
use Rattle.std.specs.Prelude.{Ok}
use Rattle.format.specs.declared.refusal.Refusal.{Refusal}
use Rattle.stream.specs.Progress.{refused_at, is_number, is_end, begin, one_passed, count_inputs, count_outputs, after_input, after_output, after_lock_time, next_at, next, moved, passed, shift_in, width_of, scaled, least, numbered, announce, shifted, first_digit, later_digit, digit, taken, fed}
use Rattle.stream.proofs.Rest.{Counts, counts_of, end_rest, size_rest, lock_time_rest, any_output, outputs_rest, output_script_rest, output_length_rest, amount_rest, output_count_rest, inputs_rest, sequence_rest, input_script_rest, input_length_rest, output_number_rest, parent_rest, input_count_rest, version_rest, then_at, run_left, shifting, shortest, digits_left, first_left, number_left, rest, rest_of, ending}

-- ---- parses one after the other

pub onward_assoc : {A B C : Type 0} (p : Parse A) (f : A → ℕ → Parse B) (g : B → ℕ → Parse C) → onward (onward p f) g ≡ onward p (λ a at. onward (f a at) g)
onward_assoc (ok a at) f g = refl
onward_assoc (fault n at) f g = refl

pub onward-same : {A B : Type 0} (p : Parse A) (f g : A → ℕ → Parse B) → ((a : A) (at : ℕ) → f a at ≡ g a at) → onward p f ≡ onward p g
onward-same (ok a at) f g h = h a at
onward-same (fault n at) f g h = refl

pub onward-told : {A B : Type 0} (p : Parse A) (f g : A → ℕ → Parse B) → ((a : A) (at : ℕ) → p ≡ ok a at → f a at ≡ g a at) → onward p f ≡ onward p g
onward-told (ok a at) f g h = h a at refl
onward-told (fault n at) f g h = refl

onward-each : {A B C : Type 0} (h : A → B) (p : Parse A) (f : B → ℕ → Parse C) → onward (each h p) f ≡ onward p (λ a at. f (h a) at)
unfolding each
onward-each h (ok a at) f = refl
onward-each h (fault n at) f = refl

onward-pick : {A B : Type 0} (t : Bool) (p q : Parse A) (f : A → ℕ → Parse B) → onward (pick t p q) f ≡ pick t (onward p f) (onward q f)
onward-pick true p q f = refl
onward-pick false p q f = refl

-- ---- a count of one or more

some_then : {B : Type 0} (s : List ℕ) (at : ℕ) (f : ℕ → ℕ → Parse B) → onward (some_field s at) f ≡ onward (varint s at) (λ v q. pick (leb 1 v) (f v q) (fault BAD_TX at))
unfolding some_field
some_then s at f =
    onward_assoc (varint s at) _ f ∙ onward-same (varint s at) _ _ (λ v q. onward-pick (leb 1 v) (ok v q) (fault BAD_TX at) f)

-- ---- items one after the other

inputs-none : (i : ℕ) (s : List ℕ) (at : ℕ) → inputs_rest i 0 s at ≡ output_count_rest i s at
unfolding inputs_rest many
inputs-none i s at = refl

outputs-none : (i o : ℕ) (s : List ℕ) (at : ℕ) → outputs_rest i o 0 s at ≡ lock_time_rest i o s at
unfolding outputs_rest many
outputs-none i o s at = refl

input_then : {B : Type 0} (s : List ℕ) (at : ℕ) (f : ℕ → Parse B) → onward (input_field s at) (λ _ q. f q)
    ≡ onward (bytes 32 s at) (λ _ q. onward (bytes 4 s q) (λ _ r. onward (varint s r) (λ k u. onward (bytes k s u) (λ _ w. onward (bytes 4 s w) (λ _ z. f z)))))
unfolding input_field script_field
input_then s at f =
    onward_assoc (bytes 32 s at) _ _ ∙ onward-same (bytes 32 s at) _ _ (λ a q.
    onward_assoc (bytes 4 s q) _ _ ∙ onward-same (bytes 4 s q) _ _ (λ b r.
    onward_assoc (onward (varint s r) (λ k u. bytes k s u)) _ _ ∙ onward_assoc (varint s r) (λ k u. bytes k s u) _ ∙ onward-same (varint s r) _ _ (λ k u.
    onward-same (bytes k s u) _ _ (λ c w. onward_assoc (bytes 4 s w) _ _))))

output_then : {B : Type 0} (s : List ℕ) (at : ℕ) (f : ℕ → Parse B) → onward (any_output s at) (λ _ q. f q)
    ≡ onward (bytes 8 s at) (λ _ q. onward (varint s q) (λ k u. onward (bytes k s u) (λ _ w. f w)))
unfolding output_field script_field
output_then s at f =
    onward_assoc (onward (number le8 8 s at) (λ a q. ok a q)) _ _ ∙ onward_assoc (number le8 8 s at) (λ a q. ok a q) _ ∙ onward_assoc (bytes 8 s at) _ _ ∙ onward-same (bytes 8 s at) _ _ (λ a q.
    onward_assoc (onward (varint s q) (λ k u. bytes k s u)) _ _ ∙ onward_assoc (varint s q) (λ k u. bytes k s u) _)

-- of amounts that are not limited no running total is asked
outputs-any : (s : List ℕ) (n total at : ℕ) → many (λ total. output_field (takes false total)) ◌+◌ n total s at ≡ times any_output n s at
unfolding many takes
outputs-any s zero total at = refl
outputs-any s (suc n) total at = onward-same (any_output s at) _ _ (λ a q. ap (each (a ∷◌)) (outputs-any s n (total + a) q))

inputs-more : (i n : ℕ) (s : List ℕ) (at : ℕ) → inputs_rest i (suc n) s at ≡ parent_rest i n s at
unfolding inputs_rest many parent_rest output_number_rest input_length_rest input_script_rest sequence_rest
inputs-more i n s at =
    onward_assoc (input_field s at) _ _ ∙ onward-same (input_field s at) _ _ (λ a q. onward-each (a ∷◌) (times input_field n s q) (λ _ r. output_count_rest i s r))
    ∙ input_then s at (λ q. onward (times input_field n s q) (λ _ r. output_count_rest i s r))

outputs-more : (i o n : ℕ) (s : List ℕ) (at : ℕ) → outputs_rest i o (suc n) s at ≡ amount_rest i o n s at
unfolding outputs_rest many amount_rest output_length_rest output_script_rest
outputs-more i o n s at =
    onward_assoc (any_output s at) _ _ ∙ onward-same (any_output s at) _ _ (λ a q. onward-each (a ∷◌) (times any_output n s q) (λ _ r. lock_time_rest i o s r))
    ∙ output_then s at (λ q. onward (times any_output n s q) (λ _ r. lock_time_rest i o s r))

-- ---- from the first byte

list_then : {A B : Type 0} (list : ℕ → Reader (List A)) (item : Reader A) (s : List ℕ) (at : ℕ) (f : Listed A → ℕ → Parse B) (g : ℕ → ℕ → Parse B)
    → ((n q : ℕ) → list n s q ≡ times item n s q) → ((l : Listed A) (q : ℕ) → f l q ≡ g (length l.items) q)
    → onward (list_field list s at) f ≡ onward (some_field s at) (λ n q. onward (times item n s q) (λ _ r. g n r))
unfolding list_field
list_then {A = A} list item s at f g same h =
    onward_assoc (some_field s at) _ f ∙ onward-same (some_field s at) _ _ (λ n q.
    onward_assoc (list n s q) _ f ∙ ap (λ (p : Parse (List A)). onward p (λ l r. f (record { at = q; items = l }) r)) (same n q) ∙ onward-told (times item n s q) _ _ (λ l r e.
    h (record { at = q; items = l }) r ∙ ap (λ (k : ℕ). g k r) (many-length {S = Unit {0}} (λ _. item) (λ u _. u) n tt s q e)))

-- the test on the size, and nothing after it
size_then : (s : List ℕ) (ins : Listed Input) (outs : Listed ℕ) (start at : ℕ) → start ≡ 0
    → onward (pick (not (eqb (at - start) 64)) (ok (record { start = start; end = at; inputs_at = ins.at; inputs = ins.items; outputs_at = outs.at; outputs = outs.items }) at) (fault BAD_TX 0))
    (λ t next. onward (pick (ltb next (length s)) (fault EXTRA next) (ok t next)) (λ t r. ok (counts_of t) r))
    ≡ size_rest (length ins.items) (length outs.items) s at
unfolding size_rest end_rest
size_then s ins outs start at e = rw (e, sub-zero) (go (eqb at 64))
  where
    t : Transaction
    t = record { start = 0; end = at; inputs_at = ins.at; inputs = ins.items; outputs_at = outs.at; outputs = outs.items }

    go : (b : Bool) → onward (pick (not b) (ok t at) (fault BAD_TX 0)) (λ t next. onward (pick (ltb next (length s)) (fault EXTRA next) (ok t next)) (λ t r. ok (counts_of t) r))
        ≡ pick b (fault BAD_TX 0) (end_rest (length ins.items) (length outs.items) s at)
    go true = refl
    go false = onward-pick (ltb at (length s)) _ _ _

pub whole-rest : (s : List ℕ) → each counts_of (ended tx_field s 0) ≡ version_rest s 0
unfolding fields_by tx_field_by outputs_field version_rest input_count_rest inputs_rest output_count_rest outputs_rest lock_time_rest each
whole-rest s =
    onward_assoc (tx_field s 0) _ _ ∙ onward_assoc (fields_by false s 0) _ _ ∙ onward_assoc (bytes 4 s 0) _ _ ∙ onward-told (bytes 4 s 0) _ _ (λ start q first.
    onward_assoc (list_field (times input_field) s q) _ _ ∙ list_then (times input_field) input_field s q _ (λ i r. output_count_rest i s r) (λ n u. refl) (λ ins r.
    onward_assoc (list_field (outputs_field false) s r) _ _ ∙ list_then (outputs_field false) any_output s r _ (λ o u. lock_time_rest (length ins.items) o s u) (λ n u. outputs-any s n 0 u) (λ outs u.
    onward_assoc (bytes 4 s u) _ _ ∙ onward-same (bytes 4 s u) _ _ (λ a w. size_then s ins outs start w (bytes-told 4 s 0 first).place_is))))

-- ---- a VarInt by its bytes

scaled_2 : (a b : ℕ) → scaled 2 (shift_in (shift_in 0 a) b) ≡ a + 256 * b
unfolding scaled
scaled_2 a b = omega arith

scaled_4 : (a b c d : ℕ) → scaled 4 (shift_in (shift_in (shift_in (shift_in 0 a) b) c) d) ≡ a + 256 * b + 65536 * (c + 256 * d)
unfolding scaled
scaled_4 a b c d = omega arith

scaled_8 : (a b c d e f g h : ℕ) → scaled 8 (shift_in (shift_in (shift_in (shift_in (shift_in (shift_in (shift_in (shift_in 0 a) b) c) d) e) f) g) h)
    ≡ a + 256 * b + 65536 * (c + 256 * d) + 4294967296 * (e + 256 * f + 65536 * (g + 256 * h))
unfolding scaled
scaled_8 a b c d e f g h = omega arith

module _ (s : List ℕ) (q : ℕ) where
  shifting_2 : scaled 2 (shifting 0 s q 2) ≡ le2 s q
  unfolding shifting
  shifting_2 = scaled_2 (get_or s q 0) (get_or s (q + 1) 0)

  shifting_4 : scaled 4 (shifting 0 s q 4) ≡ le4 s q
  unfolding shifting
  shifting_4 =
      let e2 : q + 1 + 1 ≡ q + 2 = omega arith in
      let e3 : q + 1 + 1 + 1 ≡ q + 2 + 1 = omega arith in
      rw (e3, e2) (scaled_4 (get_or s q 0) (get_or s (q + 1) 0) (get_or s (q + 2) 0) (get_or s (q + 2 + 1) 0))

  shifting_8 : scaled 8 (shifting 0 s q 8) ≡ le8 s q
  unfolding shifting
  shifting_8 =
      let e7 : q + 1 + 1 + 1 + 1 + 1 + 1 + 1 ≡ q + 4 + 2 + 1 = omega arith in
      let e6 : q + 1 + 1 + 1 + 1 + 1 + 1 ≡ q + 4 + 2 = omega arith in
      let e5 : q + 1 + 1 + 1 + 1 + 1 ≡ q + 4 + 1 = omega arith in
      let e4 : q + 1 + 1 + 1 + 1 ≡ q + 4 = omega arith in
      let e3 : q + 1 + 1 + 1 ≡ q + 2 + 1 = omega arith in
      let e2 : q + 1 + 1 ≡ q + 2 = omega arith in
      rw (e7, e6, e5, e4, e3, e2)
      (scaled_8 (get_or s q 0) (get_or s (q + 1) 0) (get_or s (q + 2) 0) (get_or s (q + 2 + 1) 0) (get_or s (q + 4) 0) (get_or s (q + 4 + 1) 0) (get_or s (q + 4 + 2) 0) (get_or s (q + 4 + 2 + 1) 0))

least_2 : least 2 ≡ 253
unfolding least
least_2 = refl

least_4 : least 4 ≡ 65536
unfolding least
least_4 = refl

least_8 : least 8 ≡ 4294967296
unfolding least
least_8 = refl

-- a VarInt that announced `width` bytes
long-left : (value : List ℕ → ℕ → ℕ) (width low : ℕ) (s : List ℕ) (start q : ℕ) → least width ≡ low → scaled width (shifting 0 s q width) ≡ value s q
    → at_start start ((number value width passing (λ v. leb low v) else LONG_VARINT) s q) ≡ digits_left start width 0 width s q
unfolding digits_left shortest bytes
long-left value width low s start q e h = rw (e, h) (go (leb (q + width) (length s)))
  where
    tested : (v next : ℕ) (t : Bool) → at_start start (pick t (ok v next) (fault LONG_VARINT q)) ≡ pick t (ok v next) (fault LONG_VARINT start)
    tested v next true = refl
    tested v next false = refl

    go : (t : Bool)
        → at_start start (onward (onward (pick t (ok q (q + width)) (fault SHORT q)) (λ place next. ok (value s place) next)) (λ v next. pick (leb low v) (ok v next) (fault LONG_VARINT q)))
        ≡ pick t (pick (leb low (value s q)) (ok (value s q) (q + width)) (fault LONG_VARINT start)) (fault SHORT start)
    go true = tested (value s q) (q + width) (leb low (value s q))
    go false = refl

pub varint-left : (s : List ℕ) (at : ℕ) → varint s at ≡ first_left at s at
unfolding first_left
varint-left s at = go (ltb at (length s)) refl
  where
    width : (x : ℕ) (small two four : Bool)
        → at_start at (pick small (pure x)
        (pick two (number le2 2 passing (λ v. leb 253 v) else LONG_VARINT)
        (pick four (number le4 4 passing (λ v. leb 65536 v) else LONG_VARINT)
        (number le8 8 passing (λ v. leb 4294967296 v) else LONG_VARINT))) s (at + 1))
        ≡ pick small (ok x (at + 1)) (digits_left at (pick two 2 (pick four 4 8)) 0 (pick two 2 (pick four 4 8)) s (at + 1))
    width x true two four = refl
    width x false true four = long-left le2 2 253 s at (at + 1) least_2 (shifting_2 s (at + 1))
    width x false false true = long-left le4 4 65536 s at (at + 1) least_4 (shifting_4 s (at + 1))
    width x false false false = long-left le8 8 4294967296 s at (at + 1) least_8 (shifting_8 s (at + 1))

    go : (t : Bool) → ltb at (length s) ≡ t
        → varint s at ≡ pick t (pick (ltb (get_or s at 0) 253) (ok (get_or s at 0) (at + 1)) (digits_left at (width_of (get_or s at 0)) 0 (width_of (get_or s at 0)) s (at + 1))) (fault SHORT at)
    go true e = varint-announced s at (get_or s at 0) (ltb-true _ _ e) refl ∙ width (get_or s at 0) (ltb (get_or s at 0) 253) (eqb (get_or s at 0) 253) (eqb (get_or s at 0) 254)
    go false e = varint-none s at (ltb-false _ _ e)

-- ---- the field after a whole one

module _ (s : List ℕ) where
  -- a count, a script length, a run of bytes, where they start
  count-rest : (f : ℕ → ℕ → Parse Counts) (at : ℕ) → onward (first_left at s at) (λ v q. pick (leb 1 v) (f v q) (fault BAD_TX at)) ≡ onward (some_field s at) f
  count-rest f at = ap (λ (p : Parse ℕ). onward p (λ v q. pick (leb 1 v) (f v q) (fault BAD_TX at))) (sym (varint-left s at)) ∙ sym (some_then s at f)

  length_rest : (f : ℕ → ℕ → Parse Counts) (at : ℕ) → onward (first_left at s at) f ≡ onward (varint s at) f
  length_rest f at = ap (λ (p : Parse ℕ). onward p f) (sym (varint-left s at))

  nothing-rest : (f : ℕ → Parse Counts) (at : ℕ) → at ≤ length s → f at ≡ onward (bytes 0 s at) (λ _ q. f q)
  nothing-rest f at h = rw (bytes-here s at 0 (omega arith)) (ap f (sym (add-zero at)))

  some-inputs : (i n at : ℕ) → 1 ≤ n → parent_rest i (n - 1) s at ≡ inputs_rest i n s at
  some-inputs i (suc n) at h = let e : suc n - 1 ≡ n = omega arith in rw e (sym (inputs-more i n s at))
  some-inputs i zero at h = absurd (omega arith)

  some-outputs : (i o n at : ℕ) → 1 ≤ n → amount_rest i o (n - 1) s at ≡ outputs_rest i o n s at
  some-outputs i o (suc n) at h = let e : suc n - 1 ≡ n = omega arith in rw e (sym (outputs-more i o n s at))
  some-outputs i o zero at h = absurd (omega arith)

  -- what is left where each field starts
  from_input-count : (f : Progress) → rest (begin Stage.InputCount 1 f) s ≡ input_count_rest s f.at
  unfolding begin rest number_left then_at input_count_rest
  from_input-count f = count-rest (λ v q. inputs_rest v v s q) f.at

  from_parent : (f : Progress) → rest (begin Stage.Parent 32 f) s ≡ parent_rest f.inputs (f.left - 1) s f.at
  unfolding begin rest run_left bytes then_at parent_rest
  from_parent f = refl

  from_output-number : (f : Progress) → rest (begin Stage.OutputNumber 4 f) s ≡ output_number_rest f.inputs (f.left - 1) s f.at
  unfolding begin rest run_left bytes then_at output_number_rest
  from_output-number f = refl

  from_input-length : (f : Progress) → rest (begin Stage.InputLength 1 f) s ≡ input_length_rest f.inputs (f.left - 1) s f.at
  unfolding begin rest number_left then_at input_length_rest
  from_input-length f = length_rest (λ v q. input_script_rest f.inputs (f.left - 1) v s q) f.at

  from_input_script : (f : Progress) (v : ℕ) → rest (begin Stage.InputScript v f) s ≡ input_script_rest f.inputs (f.left - 1) v s f.at
  unfolding begin rest run_left bytes then_at input_script_rest
  from_input_script f v = refl

  from_sequence : (f : Progress) → rest (begin Stage.Sequence 4 f) s ≡ sequence_rest f.inputs (f.left - 1) s f.at
  unfolding begin rest run_left bytes then_at sequence_rest
  from_sequence f = refl

  from_output-count : (f : Progress) → rest (begin Stage.OutputCount 1 f) s ≡ output_count_rest f.inputs s f.at
  unfolding begin rest number_left then_at output_count_rest
  from_output-count f = count-rest (λ v q. outputs_rest f.inputs v v s q) f.at

  from_amount : (f : Progress) → rest (begin Stage.Amount 8 f) s ≡ amount_rest f.inputs f.outputs (f.left - 1) s f.at
  unfolding begin rest run_left bytes then_at amount_rest
  from_amount f = refl

  from_output-length : (f : Progress) → rest (begin Stage.OutputLength 1 f) s ≡ output_length_rest f.inputs f.outputs (f.left - 1) s f.at
  unfolding begin rest number_left then_at output_length_rest
  from_output-length f = length_rest (λ v q. output_script_rest f.inputs f.outputs (f.left - 1) v s q) f.at

  from_output_script : (f : Progress) (v : ℕ) → rest (begin Stage.OutputScript v f) s ≡ output_script_rest f.inputs f.outputs (f.left - 1) v s f.at
  unfolding begin rest run_left bytes then_at output_script_rest
  from_output_script f v = refl

  from_lock_time : (f : Progress) → rest (begin Stage.LockTime 4 f) s ≡ lock_time_rest f.inputs f.outputs s f.at
  unfolding begin rest run_left bytes then_at lock_time_rest
  from_lock_time f = refl

  from_end : (f : Progress) → rest (begin Stage.End 0 f) s ≡ end_rest f.inputs f.outputs s f.at
  unfolding begin rest
  from_end f = refl

  after_lock_time_lem : (f : Progress) → rest_of (after_lock_time f) s ≡ size_rest f.inputs f.outputs s f.at
  unfolding after_lock_time size_rest
  after_lock_time_lem f = go (eqb f.at 64)
    where
      go : (t : Bool) → rest_of (pick t (refused_at Refusal.BadTx 0) (Ok (begin Stage.End 0 f))) s ≡ pick t (fault BAD_TX 0) (end_rest f.inputs f.outputs s f.at)
      go true = refl
      go false = from_end f

  after-input : (f : Progress) → rest_of (after_input f) s ≡ inputs_rest f.inputs (f.left - 1) s f.at
  unfolding after_input one_passed
  after-input f = go (leb f.left 1) refl
    where
      go : (t : Bool) → leb f.left 1 ≡ t → rest_of (pick t (Ok (begin Stage.OutputCount 1 f)) (Ok (begin Stage.Parent 32 (one_passed f)))) s ≡ inputs_rest f.inputs (f.left - 1) s f.at
      go true e =
          let h = leb-true f.left 1 e in
          let z : f.left - 1 ≡ 0 = omega arith in
          rw z (from_output-count f ∙ sym (inputs-none f.inputs s f.at))
      go false e = let h = leb-false f.left 1 e in from_parent (one_passed f) ∙ some-inputs f.inputs (f.left - 1) f.at (omega arith)

  after-output : (f : Progress) → rest_of (after_output f) s ≡ outputs_rest f.inputs f.outputs (f.left - 1) s f.at
  unfolding after_output one_passed
  after-output f = go (leb f.left 1) refl
    where
      go : (t : Bool) → leb f.left 1 ≡ t → rest_of (pick t (Ok (begin Stage.LockTime 4 f)) (Ok (begin Stage.Amount 8 (one_passed f)))) s ≡ outputs_rest f.inputs f.outputs (f.left - 1) s f.at
      go true e =
          let h = leb-true f.left 1 e in
          let z : f.left - 1 ≡ 0 = omega arith in
          rw z (from_lock_time f ∙ sym (outputs-none f.inputs f.outputs s f.at))
      go false e = let h = leb-false f.left 1 e in from_amount (one_passed f) ∙ some-outputs f.inputs f.outputs (f.left - 1) f.at (omega arith)

  zero_is : (v : ℕ) → leb 1 v ≡ false → v ≡ 0
  zero_is v e = let h = leb-false 1 v e in omega arith

  next-rest : (stage : Stage) (f : Progress) (v : ℕ) → f.at ≤ length s → rest_of (next_at stage f v) s ≡ then_at stage f.start f.inputs f.outputs f.left v s f.at
  unfolding next_at then_at count_inputs count_outputs input_script_rest output_script_rest
  next-rest Stage.Version f v h = from_input-count f
  next-rest Stage.InputCount f v h = go (leb 1 v) refl
    where
      go : (t : Bool) → leb 1 v ≡ t → rest_of (pick t (Ok (begin Stage.Parent 32 (count_inputs v f))) (refused_at Refusal.BadTx f.start)) s ≡ pick t (inputs_rest v v s f.at) (fault BAD_TX f.start)
      go true e = from_parent (count_inputs v f) ∙ some-inputs v v f.at (leb-true 1 v e)
      go false e = refl
  next-rest Stage.Parent f v h = from_output-number f
  next-rest Stage.OutputNumber f v h = from_input-length f
  next-rest Stage.InputLength f v h = go (leb 1 v) refl
    where
      go : (t : Bool) → leb 1 v ≡ t → rest_of (pick t (Ok (begin Stage.InputScript v f)) (Ok (begin Stage.Sequence 4 f))) s ≡ input_script_rest f.inputs (f.left - 1) v s f.at
      go true e = from_input_script f v
      go false e = rw (zero_is v e) (from_sequence f ∙ nothing-rest (λ q. sequence_rest f.inputs (f.left - 1) s q) f.at h)
  next-rest Stage.InputScript f v h = from_sequence f
  next-rest Stage.Sequence f v h = after-input f
  next-rest Stage.OutputCount f v h = go (leb 1 v) refl
    where
      go : (t : Bool) → leb 1 v ≡ t → rest_of (pick t (Ok (begin Stage.Amount 8 (count_outputs v f))) (refused_at Refusal.BadTx f.start)) s ≡ pick t (outputs_rest f.inputs v v s f.at) (fault BAD_TX f.start)
      go true e = from_amount (count_outputs v f) ∙ some-outputs f.inputs v v f.at (leb-true 1 v e)
      go false e = refl
  next-rest Stage.Amount f v h = from_output-length f
  next-rest Stage.OutputLength f v h = go (leb 1 v) refl
    where
      go : (t : Bool) → leb 1 v ≡ t → rest_of (pick t (Ok (begin Stage.OutputScript v f)) (after_output f)) s ≡ output_script_rest f.inputs f.outputs (f.left - 1) v s f.at
      go true e = from_output_script f v
      go false e = rw (zero_is v e) (after-output f ∙ nothing-rest (λ q. outputs_rest f.inputs f.outputs (f.left - 1) s q) f.at h)
  next-rest Stage.OutputScript f v h = after-output f
  next-rest Stage.LockTime f v h = after_lock_time_lem f
  next-rest Stage.End f v h = from_end f

  -- ---- a byte

  raw_same : (stage : Stage) (start i o left v w at : ℕ) → is_number stage ≡ false → then_at stage start i o left v s at ≡ then_at stage start i o left w s at
  unfolding then_at
  raw_same Stage.Version start i o left v w at e = refl
  raw_same Stage.InputCount start i o left v w at e = absurd (true≢false e)
  raw_same Stage.Parent start i o left v w at e = refl
  raw_same Stage.OutputNumber start i o left v w at e = refl
  raw_same Stage.InputLength start i o left v w at e = absurd (true≢false e)
  raw_same Stage.InputScript start i o left v w at e = refl
  raw_same Stage.Sequence start i o left v w at e = refl
  raw_same Stage.OutputCount start i o left v w at e = absurd (true≢false e)
  raw_same Stage.Amount start i o left v w at e = refl
  raw_same Stage.OutputLength start i o left v w at e = absurd (true≢false e)
  raw_same Stage.OutputScript start i o left v w at e = refl
  raw_same Stage.LockTime start i o left v w at e = refl
  raw_same Stage.End start i o left v w at e = refl

  -- what is left of a field that is no VarInt, and of one that is
  rest-run : (f : Progress) → is_end f.stage ≡ false → is_number f.stage ≡ false
      → rest f s ≡ onward (run_left f.start f.need s f.at) (λ v at. then_at f.stage f.start f.inputs f.outputs f.left v s at)
  unfolding rest
  rest-run f e n = rw (e, n)

  rest-number : (f : Progress) → is_end f.stage ≡ false → is_number f.stage ≡ true
      → rest f s ≡ onward (number_left f.start f.width f.value f.need s f.at) (λ v at. then_at f.stage f.start f.inputs f.outputs f.left v s at)
  unfolding rest
  rest-number f e n = rw (e, n)

  run_step : (start need at : ℕ) → 1 ≤ need → run_left start need s at ≡ run_left start (need - 1) s (at + 1)
  unfolding run_left
  run_step start need at h = let e : at + 1 + (need - 1) ≡ at + need = omega arith in rw e

  run_none : (start k at : ℕ) → k ≡ 0 → at ≤ length s → run_left start k s at ≡ ok start at
  unfolding run_left
  run_none start k at e h = rw (e, add-zero, le-leb at (length s) h)

  run_short : (start need at : ℕ) → 1 ≤ need → length s ≤ at → run_left start need s at ≡ fault SHORT start
  unfolding run_left
  run_short start need at n h = rw (lt-leb (at + need) (length s) (omega arith))

  digits_step : (start width value need at : ℕ) → 1 ≤ need → digits_left start width value need s at ≡ digits_left start width (shift_in value (get_or s at 0)) (need - 1) s (at + 1)
  unfolding digits_left shifting
  digits_step start width value zero at h = absurd (omega arith)
  digits_step start width value (suc k) at h =
      let e : at + 1 + k ≡ at + suc k = omega arith in
      let z : suc k - 1 ≡ k = omega arith in
      rw (z, e)

  digits-none : (start width value k at : ℕ) → k ≡ 0 → at ≤ length s → digits_left start width value k s at ≡ shortest start width value at
  unfolding digits_left shifting
  digits-none start width value k at e h = rw (e, add-zero, le-leb at (length s) h)

  digits_short : (start width value need at : ℕ) → 1 ≤ need → length s ≤ at → digits_left start width value need s at ≡ fault SHORT start
  unfolding digits_left
  digits_short start width value need at n h = rw (lt-leb (at + need) (length s) (omega arith))

  number_short : (start width value need at : ℕ) → 1 ≤ need → length s ≤ at → number_left start width value need s at ≡ fault SHORT start
  unfolding number_left first_left
  number_short start width value need at n h = rw (digits_short start width value need at n h, le-ltb at (length s) h) (go (eqb width 0))
    where
      go : (t : Bool) → pick {A = Parse ℕ} t (fault SHORT start) (fault SHORT start) ≡ fault SHORT start
      go true = refl
      go false = refl

  rest_extra : (f : Progress) → is_end f.stage ≡ true → f.at < length s → rest f s ≡ fault EXTRA f.at
  unfolding rest end_rest
  rest_extra f e h = rw (e, lt-ltb f.at (length s) h)

  rest_ended : (f : Progress) → is_end f.stage ≡ true → length s ≤ f.at → rest f s ≡ ok (record { size = f.at; inputs = f.inputs; outputs = f.outputs }) f.at
  unfolding rest end_rest
  rest_ended f e h = rw (e, le-ltb f.at (length s) h)

  passed-rest : (f : Progress) → is_end f.stage ≡ false → is_number f.stage ≡ false → 1 ≤ f.need → f.at < length s → rest f s ≡ rest_of (passed f 1) s
  unfolding passed next moved
  passed-rest f e n one h = rest-run f e n ∙ ap (λ (p : Parse ℕ). onward p follows) (run_step f.start f.need f.at one) ∙ go (leb f.need 1) refl
    where
      follows : ℕ → ℕ → Parse Counts
      follows v at = then_at f.stage f.start f.inputs f.outputs f.left v s at

      go : (t : Bool) → leb f.need 1 ≡ t → onward (run_left f.start (f.need - 1) s (f.at + 1)) follows ≡ rest_of (pick t (next (moved f 1) 0) (Ok (moved f 1))) s
      go true u =
          let g = leb-true f.need 1 u in
          ap (λ (p : Parse ℕ). onward p follows) (run_none f.start (f.need - 1) (f.at + 1) (omega arith) (omega arith))
          ∙ raw_same f.stage f.start f.inputs f.outputs f.left f.start 0 (f.at + 1) n
          ∙ sym (next-rest f.stage (moved f 1) 0 (omega arith))
      go false u = sym (rest-run (moved f 1) e n)

  wide : (x : ℕ) → eqb (width_of x) 0 ≡ false
  wide x = go (eqb x 253) (eqb x 254)
    where
      go : (a b : Bool) → eqb (pick a 2 (pick b 4 8)) 0 ≡ false
      go true b = refl
      go false true = refl
      go false false = refl

  digit-rest : (f : Progress) → is_end f.stage ≡ false → is_number f.stage ≡ true → 1 ≤ f.need → f.at < length s → rest f s ≡ rest_of (digit f (get_or s f.at 0)) s
  unfolding digit number_left next moved announce shifted numbered shortest first_left first_digit later_digit
  digit-rest f e n one h = rest-number f e n ∙ go (eqb f.width 0) refl
    where
      x : ℕ
      x = get_or s f.at 0

      follows : ℕ → ℕ → Parse Counts
      follows v at = then_at f.stage f.start f.inputs f.outputs f.left v s at

      small : (t : Bool) → onward (pick t (ok x (f.at + 1)) (digits_left f.start (width_of x) 0 (width_of x) s (f.at + 1))) follows ≡ rest_of (pick t (next (moved f 1) x) (Ok (announce f x))) s
      small true = sym (next-rest f.stage (moved f 1) x (omega arith))
      small false = sym (rest-number (announce f x) e n ∙ rw (wide x))

      whole : (v : ℕ) (t : Bool) → onward (pick t (ok v (f.at + 1)) (fault LONG_VARINT f.start)) follows ≡ rest_of (pick t (next (shifted f x) v) (refused_at Refusal.LongVarint f.start)) s
      whole v true = sym (next-rest f.stage (shifted f x) v (omega arith))
      whole v false = refl

      later : eqb f.width 0 ≡ false → (t : Bool) → leb f.need 1 ≡ t
          → onward (digits_left f.start f.width (shift_in f.value x) (f.need - 1) s (f.at + 1)) follows
          ≡ rest_of (pick t (numbered (shifted f x) f.width (shift_in f.value x)) (Ok (shifted f x))) s
      later w true u =
          let g = leb-true f.need 1 u in
          ap (λ (p : Parse ℕ). onward p follows) (digits-none f.start f.width (shift_in f.value x) (f.need - 1) (f.at + 1) (omega arith) (omega arith))
          ∙ whole (scaled f.width (shift_in f.value x)) (leb (least f.width) (scaled f.width (shift_in f.value x)))
      later w false u = sym (rest-number (shifted f x) e n ∙ rw w)

      go : (t : Bool) → eqb f.width 0 ≡ t
          → onward (pick t (first_left f.start s f.at) (digits_left f.start f.width f.value f.need s f.at)) follows ≡ rest_of (pick t (first_digit f x) (later_digit f x)) s
      go true w = rw (lt-ltb f.at (length s) h) (small (ltb x 253))
      go false w = ap (λ (p : Parse ℕ). onward p follows) (digits_step f.start f.width f.value f.need f.at one) ∙ later w (leb f.need 1) refl

  -- ---- all bytes

  pub fed-rest : (size : ℕ) (f : Progress) → (is_end f.stage ≡ false → 1 ≤ f.need) → f.at < length s → f.at < size → rest f s ≡ rest_of (fed size f (get_or s f.at 0)) s
  unfolding taken
  fed-rest size f one h l = rw (lt-leb size f.at l) (go (is_end f.stage) (is_number f.stage) refl refl)
    where
      x : ℕ
      x = get_or s f.at 0

      go : (e n : Bool) → is_end f.stage ≡ e → is_number f.stage ≡ n → rest f s ≡ rest_of (pick e (refused_at Refusal.Extra f.at) (pick n (digit f x) (passed f 1))) s
      go true n e m = rest_extra f e h
      go false true e m = digit-rest f e m (one e) h
      go false false e m = passed-rest f e m (one e) h

  pub rest-done : (f : Progress) → (is_end f.stage ≡ false → 1 ≤ f.need) → length s ≤ f.at → rest f s ≡ ending (Ok f)
  rest-done f one h = go (is_end f.stage) (is_number f.stage) refl refl
    where
      follows : ℕ → ℕ → Parse Counts
      follows v at = then_at f.stage f.start f.inputs f.outputs f.left v s at

      go : (e n : Bool) → is_end f.stage ≡ e → is_number f.stage ≡ n
          → rest f s ≡ pick e (ok (record { size = f.at; inputs = f.inputs; outputs = f.outputs }) f.at) (fault SHORT f.start)
      go true n e m = rest_ended f e h
      go false true e m = rest-number f e m ∙ ap (λ (p : Parse ℕ). onward p follows) (number_short f.start f.width f.value f.need f.at (one e) h)
      go false false e m = rest-run f e m ∙ ap (λ (p : Parse ℕ). onward p follows) (run_short f.start f.need f.at (one e) h)
