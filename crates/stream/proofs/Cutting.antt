-- Item 10's sentences as theorems: every way of cutting gives what 01's rules give, answers are repeated, and where 1, 2 and 9 come.
use mathlib.Core.Path.{◌≡◌, refl, sym, ap, ap₂, ◌∙◌}
use mathlib.Core.List.{List, [], ◌∷◌, ◌++◌, append_assoc, append-nil}
use mathlib.Core.Bool.{Bool, true, false}
use Prim.Native.Nat.{ℕ, ◌+◌, ◌≤◌, ◌<◌}
use native.Mathlib.Omega.{arith}
use native.Mathlib.Nat.{zero-add}
use lib.ListN.{length, take}
use lib.Seq.{length-take-le}
use lib.Dec.{leb, eqb}
use borrow.Author.Tests.{le-leb, lt-leb}
use Rattle.hash.specs.Sha256.{sha256d}
use Rattle.format.specs.Parse.{Parse, pick, each, ended, whole, ok, fault}
use Rattle.format.specs.declared.refusal.ReadRefusal.{ReadRefusal}
use Rattle.format.specs.Refusals.{refusal_number, TOO_LONG, SHORT, EXTRA, MAX_INPUT}
use Rattle.format.specs.Transaction.{Transaction, tx_field, tx_whole}
use Rattle.stream.specs.declared.progress.Progress.{Progress}
use Rattle.std.specs.Prelude.{Ok, Err}
use Rattle.format.specs.declared.refusal.Refusal.{Refusal}
use Rattle.stream.specs.declared.state.State.{State}
use Rattle.stream.specs.Parts.{MAX_PARTS, too_long, reading, more, refused, received, part_says, end_says, Calls, came, closed, started, with_part, with_end, says}
use Rattle.stream.specs.Progress.{refused_at, Fed, is_end, first, taken, run}
use Rattle.stream.proofs.Rest.{Counts, counts_of, ending}
use Rattle.stream.proofs.Run.{Fair, run_fair, run_append, run-refused, fed_says, fed_ends, part-told, end-told, reading-run, reading-told, reading-id}
use Rattle.stream.specs.Lent.{answer_of, state_of, Keeps}
use Rattle.stream.proofs.LentLaws.{answer_in}

-- ---- 01's rules, with a size

-- "01's rules for a raw transaction .. with the size raised"
unfoldable pub sized : ℕ → List ℕ → Parse Transaction
sized size s = pick (leb (length s) size) (ended tx_field s 0) (fault TOO_LONG 0)

-- with 01's own size this is 01's reading
pub sized_01 : (s : List ℕ) → sized MAX_INPUT s ≡ tx_whole s
unfolding sized whole
sized_01 s = refl

-- up to the size it is what the calls answer by
pub within-size : (size : ℕ) (b : List ℕ) → length b ≤ size → reading size b ≡ sized size b
unfolding reading sized
within-size size b h = rw (le-leb (length b) size h)

-- and past it, by the bytes before: a fault in them, and 1 if they show none
pub past-size : (size : ℕ) (b : List ℕ) → size < length b → reading size b ≡ too_long (sized size (take size b))
unfolding reading sized
past-size size b h =
    let e = length-take-le size b (omega arith) in
    rw (lt-leb (length b) size h, le-leb (length (take size b)) size (omega arith))

-- ---- every way of cutting

unfoldable pub joined : List (List ℕ) → List ℕ
joined [] = []
joined (p ∷ ps) = p ++ joined ps

-- parts, one call after the other
unfoldable pub all_parts : Calls → List (List ℕ) → Calls
all_parts c [] = c
all_parts c (p ∷ ps) = all_parts (with_part p c) ps

parts_join : (b : List ℕ) (ps : List (List ℕ)) → all_parts (came b) ps ≡ came (b ++ joined ps)
unfolding all_parts joined
parts_join b [] = ap came (sym (append-nil b))
parts_join b (p ∷ ps) = parts_join (b ++ p) ps ∙ ap came (append_assoc b p (joined ps))

pub cutting : (ps : List (List ℕ)) → all_parts started ps ≡ came (joined ps)
cutting ps = parts_join [] ps

-- "Every way of cutting gives what 01's rules for a raw transaction give with the size raised": at the end, up to the size
pub every_cutting : (size : ℕ) (ps : List (List ℕ)) → length (joined ps) ≤ size → says size (with_end (all_parts started ps)) ≡ end_says (joined ps) (sized size (joined ps))
every_cutting size ps h = ap (λ (c : Calls). says size (with_end c)) (cutting ps) ∙ ap (end_says (joined ps)) (within-size size (joined ps) h)

-- and any bytes: refusals and places as those of the bytes up to the size, "but for 1"
pub every_cutting_past : (size : ℕ) (ps : List (List ℕ)) → size < length (joined ps)
    → says size (with_end (all_parts started ps)) ≡ end_says (joined ps) (too_long (sized size (take size (joined ps))))
every_cutting_past size ps h = ap (λ (c : Calls). says size (with_end c)) (cutting ps) ∙ ap (end_says (joined ps)) (past-size size (joined ps) h)

-- "length, counts and id": the length is that of all the bytes, and the id their hash
pub received_is : (size : ℕ) (b : List ℕ) {t : Transaction} {q : ℕ} → reading size b ≡ ok t q
    → says size (closed b) ≡ received (length b) (length t.inputs) (length t.outputs) (sha256d b)
received_is size b {t} {q} e =
    let x = reading-told size b e in
    ap (end_says b) e ∙ ap₂ (λ (l : ℕ) (id : List ℕ). received l (length t.inputs) (length t.outputs) id) x.2 (reading-id size b t q e)

-- ---- repeated

-- "After a refusal .. the state repeats that answer to every call"
module _ (size : ℕ) (b : List ℕ) {n q : ℕ} (e : says size (came b) ≡ refused n q) where
  refused_by : (m : Fed) → run size (Ok first) b ≡ m → fed_says m ≡ refused n q → (r : ReadRefusal) × (run size (Ok first) b ≡ Err r) × (refusal_number r.refusal ≡ n)
  refused_by (Ok f) h k = absurd (more-refused k)
    where
      more-refused : {n q : ℕ} → more ≡ refused n q → ⊥
      more-refused k = let z : ◌≡◌ {A = ℕ} 0 1 = cc in omega arith
  refused_by (Err r) h k = (r, h, cc)

  stopped : (r : ReadRefusal) × (run size (Ok first) b ≡ Err r) × (refusal_number r.refusal ≡ n)
  stopped = refused_by (run size (Ok first) b) refl (sym (part-told size b) ∙ e)

  pub part_repeats : (p : List ℕ) → says size (with_part p (came b)) ≡ refused n q
  part_repeats p =
      part-told size (b ++ p) ∙ ap fed_says (run_append size b p (Ok first) ∙ ap (λ (m : Fed). run size m p) stopped.1 ∙ run-refused size p stopped.0 ∙ sym stopped.1)
      ∙ sym (part-told size b) ∙ e

  pub end_repeats : says size (with_end (came b)) ≡ refused n q
  end_repeats = end-told size b ∙ ap (fed_ends (sha256d b)) stopped.1 ∙ sym (ap fed_says stopped.1) ∙ sym (part-told size b) ∙ e

  -- "2 only at the end call"
  pub never_short : eqb n SHORT ≡ false
  never_short = rw (stopped.1, stopped.2) at (run_fair size b (Ok first) 0 (refl, λ _. omega arith))

-- "After .. the end call the state repeats that answer to every call"
pub ended_repeats : (size : ℕ) (p b : List ℕ) → (says size (with_part p (closed b)) ≡ says size (closed b)) × (says size (with_end (closed b)) ≡ says size (closed b))
ended_repeats size p b = (refl, refl)

-- ---- where 9 and 1 come

going_told : (size : ℕ) (b : List ℕ) (m : Fed) → run size (Ok first) b ≡ m → says size (came b) ≡ more → (f : Progress) × (m ≡ Ok f) × (f.at ≡ length b)
going_told size b (Ok f) h e =
    let fair : Fair (Ok f) (0 + length b) = rw h at (run_fair size b (Ok first) 0 (refl, λ _. omega arith)) in
    (f, refl, fair.0 ∙ zero-add (length b))
going_told size b (Err r) h e = absurd (let k = sym (part-told size b ∙ ap fed_says h) ∙ e in let z : ◌≡◌ {A = ℕ} 0 1 = cc in omega arith)

over_refused : (size : ℕ) (f : Progress) (x : ℕ) (p : List ℕ) → size ≤ f.at → run size (Ok f) (x ∷ p) ≡ refused_at Refusal.TooLong 0
unfolding run taken
over_refused size f x p h = rw (le-leb size f.at h) (run-refused size p _)

extra_refused : (size : ℕ) (f : Progress) (x : ℕ) (p : List ℕ) → f.at < size → is_end f.stage ≡ true → run size (Ok f) (x ∷ p) ≡ refused_at Refusal.Extra f.at
unfolding run taken
extra_refused size f x p h t = rw (lt-leb size f.at h, t) (run-refused size p _)

-- "1, carrying 0, once a byte past the size comes and the bytes before it show no fault, ahead of 9 at that byte"
pub one_comes : (size : ℕ) (b p : List ℕ) (x : ℕ) → length b ≡ size → says size (came b) ≡ more → says size (with_part (x ∷ p) (came b)) ≡ refused TOO_LONG 0
one_comes size b p x l e =
    let g = going_told size b (run size (Ok first) b) refl e in
    let a = g.2 in
    part-told size (b ++ x ∷ p) ∙ ap fed_says (run_append size b (x ∷ p) (Ok first) ∙ ap (λ (m : Fed). run size m (x ∷ p)) g.1 ∙ over_refused size g.0 x p (omega arith))

-- "9 for a byte after the lock time"
pub nine_comes : (size : ℕ) (b p : List ℕ) (x : ℕ) {t : Transaction} {q : ℕ} → reading size b ≡ ok t q → length b < size → says size (with_part (x ∷ p) (came b)) ≡ refused EXTRA (length b)
unfolding each
nine_comes size b p x {t} {q} r l =
    let g = going_told size b (run size (Ok first) b) refl (ap part_says r) in
    let a = g.2 in
    let k : ending (Ok g.0) ≡ ok (counts_of t) q = ap ending (sym g.1) ∙ sym (reading-run size b) ∙ ap (each counts_of) r in
    part-told size (b ++ x ∷ p) ∙ ap fed_says (run_append size b (x ∷ p) (Ok first) ∙ ap (λ (m : Fed). run size m (x ∷ p)) g.1
    ∙ extra_refused size g.0 x p (omega arith) (at-end g.0 (is_end g.0.stage) refl k)) ∙ ap (refused EXTRA) a
  where
    at-end : (f : Progress) (v : Bool) → is_end f.stage ≡ v → ◌≡◌ {A = Parse Counts} (pick (is_end f.stage) (ok (record { size = f.at; inputs = f.inputs; outputs = f.outputs }) f.at) (fault SHORT f.start)) (ok (counts_of t) q) → is_end f.stage ≡ true
    at-end f true h k = h
    at-end f false h k = absurd (let j : ◌≡◌ {A = Parse Counts} (fault SHORT f.start) (ok (counts_of t) q) = rw h at k in let z : ◌≡◌ {A = ℕ} 0 1 = cc in omega arith)

-- ---- the code: calls that do to every state what `Keeps` says answer so, however the bytes were cut

unfoldable pub fed_through : (State → List ℕ → State) → State → List (List ℕ) → State
fed_through part st [] = st
fed_through part st (p ∷ ps) = fed_through part (part st p) ps

module _ (part : State → List ℕ → State) (end : State → State) (parts : (st : State) (p : List ℕ) → Keeps (with_part p) st (part st p)) (ends : (st : State) → Keeps with_end st (end st)) where
  through : (st : State) (c : Calls) (ps : List (List ℕ)) → st ≡ state_of c → fed_through part st ps ≡ state_of (all_parts c ps)
  unfolding fed_through all_parts
  through st c [] e = e
  through st c (p ∷ ps) e = through (part st p) (with_part p c) ps (parts st p c e)

  pub code_cutting : (st : State) → st ≡ state_of started → (ps : List (List ℕ)) → (end (fed_through part st ps)).answer ≡ answer_of (end_says (joined ps) (reading MAX_PARTS (joined ps)))
  code_cutting st e ps =
      ap (λ (x : State). x.answer) (ends (fed_through part st ps) (all_parts started ps) (through st started ps e)) ∙ answer_in (with_end (all_parts started ps))
      ∙ ap (λ (c : Calls). answer_of (says MAX_PARTS (with_end c))) (cutting ps)
