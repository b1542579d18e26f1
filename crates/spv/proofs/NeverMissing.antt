-- No refusal of reading has the number 14, so that 14 always tells of a climb (02, Item 3).
use Prim.Native.Nat.{ℕ, zero, suc, ◌+◌}
use mathlib.Core.Path.{◌≡◌, refl, sym, ap, ◌∙◌, subst}
use mathlib.Core.Logic.{◌↔◌}
use mathlib.Core.Bool.{Bool, true, false, not, ◌&&◌}
use mathlib.Core.List.{List, [], ◌∷◌}
use lib.ListN.{length, get_or}
use lib.Dec.{ltb, leb, eqb}
use native.Mathlib.Omega.{arith}
use Rattle.format.specs.declared.level.Layout.{Layout}
use Rattle.format.specs.Parse.{Parse, Reader, pick, pure, here, onward, ◌>>=◌, each, given, ◌passing◌else◌, at_start, many, require, whole, ok, fault}
use Rattle.format.specs.Field.{bytes, byte, le2, le4, le8, number, announced, varint}
use Rattle.format.specs.Level.{holds, offset_field, flag_allowed, flag_field, kind_field, carried_field, leaf_field, level_field, level_fields}
use Rattle.format.specs.Node.{node_field}
use Rattle.format.specs.Bump.{Bump, block_field, height_up_to, bump_up_to, bump_whole}
use Rattle.format.specs.Cmp.{Cmp, top_up_to, cmp_up_to, cmp_whole}
use Rattle.format.specs.Transaction.{script_field, input_field, takes, output_field, outputs_field, some_field, list_field, fields_by, node_sized, tx_field_by, tx_field, tx_whole}
use Rattle.format.specs.Tsc.{flags_allowed, flags_field, has_transaction, has_header, exactly, as_subject, exact_field, stated_field, subject_field, target_field, index_fits, node_count_up_to, nodes_up_to, tsc_up_to, tsc_whole}
use Rattle.format.specs.Beef.{VERSION, version_field, bump_count_field, bumps_up_to, tx_count_field, bump_number_field, anchor_field, entry_field, entries_field, beef_up_to, beef_whole}
use Rattle.format.specs.Refusals.{TOO_LONG, SHORT, LONG_VARINT, BAD_HEIGHT, OVER_LIMIT, BAD_OFFSET, BAD_FLAG, REPEATED, EXTRA, BAD_VERSION, BAD_TX, EMPTY, MISSING, BAD_INDEX, NO_ROOM, BAD_AMOUNT, MAX_INPUT, MAX_HEIGHT, MAX_BLOCK, MAX_LEAVES, MAX_BUMPS, MAX_TXS}
use Rattle.path.specs.Search.{least_offset}
use Rattle.spv.specs.declared.rejection.Rejection.{Rejection}
use Rattle.spv.specs.Result.{refused, carrying}
use Rattle.spv.specs.Siblings.{written_by, find_in}
use Rattle.spv.specs.Readings.{bump_reading, cmp_reading}
use Rattle.spv.proofs.ReadingsLaws.{bump-refused, cmp-refused}
use Rattle.spv.proofs.CanBeHad.{Missing, bump-missing, cmp-missing}
use Rattle.spv.specs.Prove.{prove, prove_by, unread}

abbrev Other : {A : Type 0} → Parse A → Type 0
Other (ok a at) = Unit {0}
Other (fault n at) = n ≡ MISSING → ⊥

record Spares {A : Type 0} (x : Parse A) : Type 0 where
  other : Other x

-- a reader that never refuses with 14
record Never {A : Type 0} (p : Reader A) : Type 0 where
  spares : (s : List ℕ) (at : ℕ) → Spares (p s at)

-- ---- how readers are put together

onward_spares : {A B : Type 0} (x : Parse A) (f : A → ℕ → Parse B) → Spares x → ((a : A) (at : ℕ) → Spares (f a at)) → Spares (onward x f)
onward_spares (ok a at) f h k = k a at
onward_spares (fault n at) f h k = record { other = h.other }

pick_spares : {A : Type 0} (t : Bool) {x y : Parse A} → Spares x → Spares y → Spares (pick t x y)
pick_spares true h k = h
pick_spares false h k = k

ok_spares : {A : Type 0} (a : A) (at : ℕ) → Spares (ok a at)
ok_spares a at = record { other = tt }

fault_spares : {A : Type 0} (n at : ℕ) → (n ≡ MISSING → ⊥) → Spares {A = A} (fault n at)
fault_spares n at h = record { other = h }

each_spares : {A B : Type 0} (f : A → B) (x : Parse A) → Spares x → Spares (each f x)
unfolding each
each_spares f x h = onward_spares x (λ a at. ok (f a) at) h (λ a at. ok_spares (f a) at)

and_then : {A B : Type 0} {p : Reader A} {f : A → Reader B} → Never p → ((a : A) → Never (f a)) → Never (p >>= f)
and_then {p = p} {f = f} h k = record { spares = λ s at. onward_spares (p s at) (λ a next. f a s next) (h.spares s at) (λ a next. (k a).spares s next) }

pure_never : {A : Type 0} (a : A) → Never (pure a)
pure_never a = record { spares = λ s at. ok_spares a at }

here-never : Never here
here-never = record { spares = λ s at. ok_spares at at }

given-never : {A B : Type 0} (f : A → B) {p : Reader A} → Never p → Never (given f p)
given-never f {p} h = record { spares = λ s at. each_spares f (p s at) (h.spares s at) }

under : {A : Type 0} {p : Reader A} (test : A → Bool) (n : ℕ) → (n ≡ MISSING → ⊥) → Never p → Never (p passing test else n)
under {p = p} test n m h =
    record { spares = λ s at. onward_spares (p s at) (λ a next. pick (test a) (ok a next) (fault n at)) (h.spares s at) (λ a next. pick_spares (test a) (ok_spares a next) (fault_spares n at m)) }

picked : {A : Type 0} (t : Bool) {p q : Reader A} → Never p → Never q → Never (pick t p q)
picked true h k = h
picked false h k = k

module _ {S A : Type 0} (item : S → Reader A) (next : S → A → S) (h : (st : S) → Never (item st)) where
  many_spares : (n : ℕ) (st : S) (s : List ℕ) (at : ℕ) → Spares (many item next n st s at)
  unfolding many
  many_spares zero st s at = ok_spares [] at
  many_spares (suc n) st s at =
      onward_spares (item st s at) (λ a at'. each (a ∷◌) (many item next n (next st a) s at')) ((h st).spares s at)
      (λ a at'. each_spares (a ∷◌) (many item next n (next st a) s at') (many_spares n (next st a) s at'))

  many-never : (n : ℕ) (st : S) → Never (many item next n st)
  many-never n st = record { spares = many_spares n st }

whole_spares : {A : Type 0} {p : Reader A} → Never p → (s : List ℕ) → Spares (whole p s)
unfolding whole
whole_spares {p = p} h s =
    pick_spares (leb (length s) MAX_INPUT)
    (onward_spares (p s 0) (λ a next. pick (ltb next (length s)) (fault EXTRA next) (ok a next)) (h.spares s 0)
    (λ a next. pick_spares (ltb next (length s)) (fault_spares EXTRA next (λ z. omega arith)) (ok_spares a next)))
    (fault_spares TOO_LONG 0 (λ z. omega arith))

-- ---- fields

bytes-never : (n : ℕ) → Never (bytes n)
unfolding bytes
bytes-never n = record { spares = λ s at. pick_spares (leb (at + n) (length s)) (ok_spares at (at + n)) (fault_spares SHORT at (λ z. omega arith)) }

byte-never : Never byte
unfolding byte
byte-never = record { spares = λ s at. pick_spares (ltb at (length s)) (ok_spares (get_or s at 0) (at + 1)) (fault_spares SHORT at (λ z. omega arith)) }

number-never : (value : List ℕ → ℕ → ℕ) (width : ℕ) → Never (number value width)
number-never value width = record { spares = λ s at. onward_spares (bytes width s at) (λ place next. ok (value s place) next) ((bytes-never width).spares s at) (λ place next. ok_spares (value s place) next) }

start_spares : {A : Type 0} (start : ℕ) (x : Parse A) → Spares x → Spares (at_start start x)
start_spares start (ok a at) h = h
start_spares start (fault n at) h = record { other = h.other }

announced-never : (first : ℕ) → Never (announced first)
announced-never first =
    picked (ltb first 253) (pure_never first)
    (picked (eqb first 253) (under (λ v. leb 253 v) LONG_VARINT (λ z. omega arith) (number-never le2 2))
    (picked (eqb first 254) (under (λ v. leb 65536 v) LONG_VARINT (λ z. omega arith) (number-never le4 4)) (under (λ v. leb 4294967296 v) LONG_VARINT (λ z. omega arith) (number-never le8 8))))

varint-never : Never varint
unfolding varint
varint-never = record { spares = λ s at. start_spares at _ ((and_then byte-never announced-never).spares s at) }

-- ---- levels

kind_never : (flag : ℕ) → Never (kind_field flag)
unfolding kind_field
kind_never flag = picked (eqb flag 0) (given-never _ (bytes-never 32)) (picked (eqb flag 1) (pure_never _) (given-never _ (bytes-never 32)))

carried-never : (layout : Layout) (level offset : ℕ) → Never (carried_field layout level offset)
unfolding carried_field flag_field
carried-never Layout.Bump level offset = and_then (under (λ f. flag_allowed level offset f) BAD_FLAG (λ z. omega arith) byte-never) kind_never
carried-never Layout.Cmp level offset = given-never _ (bytes-never 32)

leaf-never : (layout : Layout) (limit level : ℕ) (seen : List ℕ) → Never (leaf_field layout limit level seen)
unfolding leaf_field offset_field
leaf-never layout limit level seen =
    and_then (under (λ o. not (holds o seen)) REPEATED (λ z. omega arith) (under (λ o. ltb o limit) BAD_OFFSET (λ z. omega arith) varint-never)) (λ offset. and_then (carried-never layout level offset) (λ kind. pure_never _))

levels-never : (layout : Layout) (height : ℕ) → Never (level_fields layout height)
unfolding level_field
levels-never layout height =
    many-never _ _ (λ i. and_then (under (λ n. leb n MAX_LEAVES) OVER_LIMIT (λ z. omega arith) varint-never) (λ count. many-never _ _ (leaf-never layout _ _) count [])) height 0

bump-never : (most : ℕ) → Never (bump_up_to most)
unfolding bump_up_to block_field height_up_to
bump-never most =
    and_then (under (λ b. leb b MAX_BLOCK) OVER_LIMIT (λ z. omega arith) varint-never)
    (λ block. and_then (under (λ h. leb 1 h && leb h most) BAD_HEIGHT (λ z. omega arith) byte-never) (λ height. and_then here-never (λ start. and_then (levels-never Layout.Bump height) (λ levels. pure_never _))))

cmp-never : (most : ℕ) → Never (cmp_up_to most)
unfolding cmp_up_to top_up_to
cmp-never most = and_then (under (λ m. leb (m + 1) most) BAD_HEIGHT (λ z. omega arith) byte-never) (λ m. and_then here-never (λ start. and_then (levels-never Layout.Cmp (m + 1)) (λ levels. pure_never _)))

-- ---- transactions

script_never : Never script_field
unfolding script_field
script_never = and_then varint-never bytes-never

input-never : Never input_field
unfolding input_field
input-never = and_then (bytes-never 32) (λ parent. and_then (bytes-never 4) (λ output. and_then script_never (λ _. and_then (bytes-never 4) (λ _. pure_never _))))

outputs-never : (limited : Bool) (count : ℕ) → Never (outputs_field limited count)
unfolding outputs_field output_field
outputs-never limited count = many-never _ _ (λ total. and_then (under (takes limited total) BAD_AMOUNT (λ z. omega arith) (number-never le8 8)) (λ amount. and_then script_never (λ _. pure_never _))) count 0

list-never : {A : Type 0} (list : ℕ → Reader (List A)) → ((n : ℕ) → Never (list n)) → Never (list_field list)
unfolding list_field some_field
list-never list h = and_then (under (λ n. leb 1 n) BAD_TX (λ z. omega arith) varint-never) (λ count. and_then here-never (λ at. and_then (h count) (λ items. pure_never _)))

tx_never : (limited : Bool) → Never (tx_field_by limited)
unfolding tx_field_by fields_by
tx_never limited =
    under (λ t. not (node_sized t)) BAD_TX (λ z. omega arith)
    (and_then (bytes-never 4)
    (λ start. and_then (list-never _ (λ n. many-never _ _ (λ _. input-never) n tt))
    (λ ins. and_then (list-never _ (outputs-never limited)) (λ outs. and_then (bytes-never 4) (λ _. and_then here-never (λ end. pure_never _))))))

-- ---- TSC proofs

exactly_spares : {A : Type 0} (start end : ℕ) (x : Parse A) → Spares (exactly start end x)
exactly_spares start end (ok a q) = pick_spares (eqb q end) (ok_spares a q) (fault_spares BAD_TX start (λ z. omega arith))
exactly_spares start end (fault n q) = fault_spares BAD_TX start (λ z. omega arith)

exact_never : (n : ℕ) → Never (exact_field n)
unfolding exact_field
exact_never n =
    record { spares = λ s at. onward_spares (bytes n s at) (λ start end. exactly start end (tx_field s start)) ((bytes-never n).spares s at) (λ start end. exactly_spares start end (tx_field s start)) }

subject-never : (flags : ℕ) → Never (subject_field flags)
unfolding subject_field stated_field
subject-never flags = picked (has_transaction flags) (and_then varint-never (λ n. given-never as_subject (exact_never n))) (given-never _ (bytes-never 32))

require-never : (test : Bool) (n place : ℕ) → (n ≡ MISSING → ⊥) → Never (require test n place)
require-never test n place m = record { spares = λ s at. pick_spares test (ok_spares tt at) (fault_spares n place m) }

node-never : Never node_field
unfolding node_field
node-never = and_then (under (λ t. leb t 1) BAD_FLAG (λ z. omega arith) byte-never) kind_never

nodes-never : (most index index_at : ℕ) → Never (nodes_up_to most index index_at)
unfolding nodes_up_to node_count_up_to
nodes-never most index index_at =
    and_then (under (λ n. leb n most) OVER_LIMIT (λ z. omega arith) varint-never)
    (λ count. and_then (require-never (index_fits index count) BAD_OFFSET index_at (λ z. omega arith)) (λ _. and_then here-never (λ at. and_then (many-never _ _ (λ _. node-never) count tt) (λ nodes. pure_never _))))

tsc-never : (most : ℕ) → Never (tsc_up_to most)
unfolding tsc_up_to flags_field target_field
tsc-never most =
    and_then (under (λ f. flags_allowed f) BAD_FLAG (λ z. omega arith) byte-never)
    (λ flags. and_then here-never
    (λ index_at. and_then varint-never
    (λ index. and_then (subject-never flags) (λ subject. and_then (bytes-never (pick (has_header flags) 80 32)) (λ target. and_then (nodes-never most index index_at) (λ nodes. pure_never _))))))

-- ---- bundles

entry_never : (bumps : ℕ) → Never (entry_field bumps)
unfolding entry_field anchor_field bump_number_field
entry_never bumps =
    and_then (tx_never true)
    (λ transaction. and_then (and_then (under (λ b. leb b 1) BAD_FLAG (λ z. omega arith) byte-never) (λ mark. picked (eqb mark 0) (pure_never _) (given-never _ (under (λ n. ltb n bumps) BAD_INDEX (λ z. omega arith) varint-never))))
    (λ anchor. pure_never _))

entries-never : (bumps room : ℕ) → Never (entries_field bumps room)
unfolding entries_field tx_count_field
entries-never bumps room =
    and_then (under (λ n. leb n room) NO_ROOM (λ z. omega arith) (under (λ n. leb 1 n) EMPTY (λ z. omega arith) (under (λ n. leb n MAX_TXS) OVER_LIMIT (λ z. omega arith) varint-never)))
    (λ count. many-never _ _ (λ _. entry_never bumps) count tt)

beef-never : (most room : ℕ) → Never (beef_up_to most room)
unfolding beef_up_to version_field bumps_up_to bump_count_field
beef-never most room =
    and_then (under (λ v. eqb v VERSION) BAD_VERSION (λ z. omega arith) (number-never le4 4))
    (λ _. and_then (and_then (under (λ n. leb n MAX_BUMPS) OVER_LIMIT (λ z. omega arith) varint-never) (λ count. many-never _ _ (λ _. bump-never most) count tt))
    (λ bumps. and_then (entries-never (length bumps) room) (λ entries. pure_never _)))

-- ---- inputs

told : {A : Type 0} {x : Parse A} → Spares x → {n q : ℕ} → x ≡ fault n q → n ≡ MISSING → ⊥
told h e = subst (λ (y : Parse _). Other y) e h.other

module _ (s : List ℕ) {n q : ℕ} where
  pub bump-not-missing : bump_whole s ≡ fault n q → n ≡ MISSING → ⊥
  bump-not-missing = told (whole_spares (bump-never MAX_HEIGHT) s)

  pub cmp-not-missing : cmp_whole s ≡ fault n q → n ≡ MISSING → ⊥
  cmp-not-missing = told (whole_spares (cmp-never MAX_HEIGHT) s)

  pub tsc-not-missing : tsc_whole s ≡ fault n q → n ≡ MISSING → ⊥
  tsc-not-missing = told (whole_spares (tsc-never MAX_HEIGHT) s)

  pub tx_not-missing : tx_whole s ≡ fault n q → n ≡ MISSING → ⊥
  tx_not-missing = told (whole_spares (tx_never false) s)

  pub beef-not-missing : (room : ℕ) → beef_whole room s ≡ fault n q → n ≡ MISSING → ⊥
  beef-not-missing room = told (whole_spares (beef-never MAX_HEIGHT room) s)

unread-number : (n q : ℕ) (why : Rejection) → prove (unread (carrying n q)) ≡ refused why → n ≡ why.number
unfolding prove_by
unread-number n q why e = let f : carrying n q ≡ why = cc in ap (λ (r : Rejection). r.number) f

-- of any input: 14 exactly when it is read and the climb lacks a sibling (`Missing`)
module _ (s id : List ℕ) (why : Rejection) where
  pub bump-missing-exactly : ((prove (bump_reading s id) ≡ refused why) × (why.number ≡ MISSING))
      ↔ ((b : Bump) × (q : ℕ) × (bump_whole s ≡ ok b q) × Missing (written_by s (find_in b.levels)) b.height id (least_offset s id (get_or b.levels 0 [])) why)
  bump-missing-exactly = (λ e. go (bump_whole s) refl e, λ x. (bump-missing s id x.0 x.1 x.2 why).1 x.3)
    where
      go : (x : Parse Bump) → bump_whole s ≡ x → (prove (bump_reading s id) ≡ refused why) × (why.number ≡ MISSING)
          → (b : Bump) × (q : ℕ) × (bump_whole s ≡ ok b q) × Missing (written_by s (find_in b.levels)) b.height id (least_offset s id (get_or b.levels 0 [])) why
      go (ok b q) h e = (b, q, h, (bump-missing s id b q h why).0 e)
      go (fault n q) h e = absurd (bump-not-missing s h (unread-number n q why (sym (ap prove (bump-refused s id n q h)) ∙ e.0) ∙ e.1))

  pub cmp-missing-exactly : ((prove (cmp_reading s id) ≡ refused why) × (why.number ≡ MISSING))
      ↔ ((p : Cmp) × (q : ℕ) × (cmp_whole s ≡ ok p q) × Missing (written_by s (find_in p.levels)) p.height id (least_offset s id (get_or p.levels 0 [])) why)
  cmp-missing-exactly = (λ e. go (cmp_whole s) refl e, λ x. (cmp-missing s id x.0 x.1 x.2 why).1 x.3)
    where
      go : (x : Parse Cmp) → cmp_whole s ≡ x → (prove (cmp_reading s id) ≡ refused why) × (why.number ≡ MISSING)
          → (p : Cmp) × (q : ℕ) × (cmp_whole s ≡ ok p q) × Missing (written_by s (find_in p.levels)) p.height id (least_offset s id (get_or p.levels 0 [])) why
      go (ok p q) h e = (p, q, h, (cmp-missing s id p q h why).0 e)
      go (fault n q) h e = absurd (cmp-not-missing s h (unread-number n q why (sym (ap prove (cmp-refused s id n q h)) ∙ e.0) ∙ e.1))
