-- How far readers go: what was read ends at or after its start, and within the bytes.
use mathlib.Core.Path.{◌≡◌, refl, ap, sym, ◌∙◌}
use mathlib.Core.List.{List, []}
use mathlib.Core.Bool.{Bool, true, false}
use Prim.Native.Nat.{ℕ, zero, suc, ◌+◌, ◌≤◌, ◌<◌}
use lib.ListN.{length, get_or}
use lib.Dec.{ltb, leb, eqb}
use native.Mathlib.Omega.{arith}
use borrow.Author.Tests.{ltb-true, leb-true}
use Rattle.format.specs.Parse.{Parse, Reader, pick, pure, onward, ◌passing◌else◌, at_start, many, times, ok, fault}
use Rattle.format.proofs.ParseLaws.{onward-told, passing_told, many-told}
use Rattle.format.specs.Field.{bytes, byte, le2, le4, le8, number, announced, varint}
use Rattle.format.specs.Refusals.{SHORT, LONG_VARINT}

-- from a place to another: onward, and within the bytes if the first is
pub record Within (s : List ℕ) (at next : ℕ) : Type 0 where
  pub forward : at ≤ next
  pub inside : at ≤ length s → next ≤ length s

pub within_same : (s : List ℕ) (at : ℕ) → Within s at at
within_same s at = record { forward = omega arith; inside = λ h. h }

pub within_then : {s : List ℕ} {at mid next : ℕ} → Within s at mid → Within s mid next → Within s at next
within_then a b = record { forward = omega arith; inside = λ h. b.inside (a.inside h) }

-- of a choice between a value and a refusal, the value was chosen
pub picked-told : {A : Type 0} (t : Bool) (a : A) (p n r : ℕ) {b : A} {q : ℕ} → pick t (ok a p) (fault n r) ≡ ok b q → (t ≡ true) × (a ≡ b) × (p ≡ q)
picked-told true a p n r e = (refl, cc, cc)
picked-told false a p n r e = absurd (let z : ◌≡◌ {A = ℕ} 0 1 = cc in omega arith)

pub record BytesRead (n : ℕ) (s : List ℕ) (at place next : ℕ) : Type 0 where
  pub place_is : place ≡ at
  pub next-is : next ≡ at + n
  pub inside : at + n ≤ length s

pub bytes-told : (n : ℕ) (s : List ℕ) (at : ℕ) {p q : ℕ} → bytes n s at ≡ ok p q → BytesRead n s at p q
unfolding bytes
bytes-told n s at e =
    let x = picked-told (leb (at + n) (length s)) at (at + n) SHORT at e in
    record { place_is = sym x.1; next-is = sym x.2; inside = leb-true _ _ x.0 }

pub record ByteRead (s : List ℕ) (at value next : ℕ) : Type 0 where
  pub value-is : value ≡ get_or s at 0
  pub next-is : next ≡ at + 1
  pub inside : at < length s

pub byte-told : (s : List ℕ) (at : ℕ) {v q : ℕ} → byte s at ≡ ok v q → ByteRead s at v q
unfolding byte
byte-told s at e =
    let x = picked-told (ltb at (length s)) (get_or s at 0) (at + 1) SHORT at e in
    record { value-is = sym x.1; next-is = sym x.2; inside = ltb-true _ _ x.0 }

-- a VarInt takes a byte at least, and ends within the bytes
pub varint-told : (s : List ℕ) (at : ℕ) {v q : ℕ} → varint s at ≡ ok v q → (at < q) × (q ≤ length s)
unfolding varint
varint-told s at {v} {q} e = started (onward (byte s at) (λ a next. announced a s next)) refl e
  where
    long : (value : List ℕ → ℕ → ℕ) (width least from : ℕ) → (number value width passing (λ x. leb least x) else LONG_VARINT) s from ≡ ok v q → (from ≤ q) × (q ≤ length s)
    long value width least from m =
        let x = passing_told (number value width) (λ x. leb least x) LONG_VARINT s from m in
        let y = onward-told (bytes width s from) _ x.0 in
        let b = bytes-told width s from y.2 in
        let z : y.1 ≡ q = cc in
        (omega arith, omega arith)

    rest : (first from : ℕ) (a b c : Bool) → from ≤ length s
        → pick a (pure first)
        (pick b (number le2 2 passing (λ v. leb 253 v) else LONG_VARINT)
        (pick c (number le4 4 passing (λ v. leb 65536 v) else LONG_VARINT) (number le8 8 passing (λ v. leb 4294967296 v) else LONG_VARINT))) s from
        ≡ ok v q
        → (from ≤ q) × (q ≤ length s)
    rest first from true b c h m = let z : from ≡ q = cc in (omega arith, omega arith)
    rest first from false true c h m = long le2 2 253 from m
    rest first from false false true h m = long le4 4 65536 from m
    rest first from false false false h m = long le8 8 4294967296 from m

    after : (first next : ℕ) → ByteRead s at first next → announced first s next ≡ ok v q → (at < q) × (q ≤ length s)
    after first next b m =
        let x = rest first next (ltb first 253) (eqb first 253) (eqb first 254) (omega arith) m in
        (omega arith, x.1)

    started : (p : Parse ℕ) → onward (byte s at) (λ a next. announced a s next) ≡ p → at_start at p ≡ ok v q → (at < q) × (q ≤ length s)
    started (ok a r) h m =
        let x = onward-told (byte s at) (λ a next. announced a s next) (h ∙ m) in
        after x.0 x.1 (byte-told s at x.2) x.3
    started (fault n r) h m = absurd (let z : ◌≡◌ {A = ℕ} 0 1 = cc in omega arith)

-- items one after the other: how far, and each by itself
module _ {S A : Type 0} (item : S → Reader A) (next : S → A → S) (s : List ℕ) where
  pub many-within : ((st : S) (at : ℕ) (a : A) (q : ℕ) → item st s at ≡ ok a q → Within s at q) → (n : ℕ) (st : S) (at : ℕ) {l : List A} {q : ℕ}
      → many item next n st s at ≡ ok l q → Within s at q
  unfolding many
  many-within h zero st at {q = q} e = let z : at ≡ q = cc in rw (← z) (within_same s at)
  many-within h (suc n) st at e =
      let x = many-told item next n st s at e in
      within_then (h st at x.0 x.1 x.3) (many-within h n (next st x.0) x.1 x.4)

-- the k-th of n items of one kind, where it stands
pub record ItemRead {A : Type 0} (item : Reader A) (s : List ℕ) (a : A) : Type 0 where
  pub at : ℕ
  pub next : ℕ
  pub read : item s at ≡ ok a next

pub times-told : {A : Type 0} (item : Reader A) (s : List ℕ) (d : A) (n at : ℕ) {l : List A} {q : ℕ} → times item n s at ≡ ok l q
    → (k : ℕ) → k < length l → ItemRead item s (get_or l k d)
unfolding many
times-told item s d zero at {l} e k h = absurd (let z : [] ≡ l = cc in let y = ap length z in omega arith)
times-told item s d (suc n) at e zero h =
    let x = many-told {S = Unit {0}} (λ _. item) (λ u _. u) n tt s at e in
    rw (← x.5) (record { at = at; next = x.1; read = x.3 })
times-told item s d (suc n) at e (suc k) h =
    let x = many-told {S = Unit {0}} (λ _. item) (λ u _. u) n tt s at e in
    let y = ap length x.5 in
    rw (← x.5) (times-told item s d n x.1 x.4 k (omega arith))
