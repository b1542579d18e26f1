-- Where the readings of a BUMP end: what is read, and the place of a refusal, lie within the bytes.
use mathlib.Core.Path.{◌≡◌, refl}
use mathlib.Core.List.{List}
use mathlib.Core.Bool.{Bool, true, false, not}
use Prim.Native.Nat.{ℕ, ◌+◌, ◌≤◌, ◌<◌}
use lib.ListN.{length}
use lib.Dec.{ltb, leb, eqb}
use native.Mathlib.Omega.{arith}
use borrow.Author.Tests.{ltb-true, leb-true}
use Rattle.format.specs.declared.level.Layout.{Layout}
use Rattle.format.specs.declared.leaf.Kind.{Kind}
use Rattle.format.specs.declared.leaf.Kind.TheVariants.{Plain, Copy, Client}
use Rattle.format.specs.Refusals.{LONG_VARINT, BAD_OFFSET, BAD_FLAG, REPEATED, EXTRA}
use Rattle.format.specs.Parse.{Parse, Reader, pick, onward, each, ◌passing◌else◌, at_start, ok, fault}
use Rattle.format.specs.Field.{bytes, byte, number, le2, le4, le8, announced, varint}
use Rattle.format.specs.Level.{holds, offset_field, flag_allowed, flag_field, kind_field, carried_field, leaf_field}

-- a parse that ends at m or before, with P of what was read and of the place after it; the numbers of reading go up to 9
pub data Bounded {A : Type 0} (m : ℕ) (P : A → ℕ → Type 0) : Parse A → Type 0 where
  read : {a : A} {q : ℕ} → q ≤ m → P a q → Bounded m P (ok a q)
  refused : {n q : ℕ} → n ≤ EXTRA → q ≤ m → Bounded m P (fault n q)

module _ {A B : Type 0} {m : ℕ} {P : A → ℕ → Type 0} where
  pub within_then : (Q : B → ℕ → Type 0) {p : Parse A} (f : A → ℕ → Parse B) → Bounded m P p → ((a : A) (q : ℕ) → q ≤ m → P a q → Bounded m Q (f a q)) → Bounded m Q (onward p f)
  within_then Q f (read h k) g = g _ _ h k
  within_then Q f (refused h k) g = refused h k

  pub within-each : (Q : B → ℕ → Type 0) {p : Parse A} (f : A → B) → Bounded m P p → ((a : A) (q : ℕ) → P a q → Q (f a) q) → Bounded m Q (each f p)
  unfolding each
  within-each Q f (read h k) g = read h (g _ _ k)
  within-each Q f (refused h k) g = refused h k

module _ {A : Type 0} {m : ℕ} {P : A → ℕ → Type 0} where
  pub within_weaken : (Q : A → ℕ → Type 0) {p : Parse A} → Bounded m P p → ((a : A) (q : ℕ) → P a q → Q a q) → Bounded m Q p
  within_weaken Q (read h k) g = read h (g _ _ k)
  within_weaken Q (refused h k) g = refused h k

  pub within-start : {p : Parse A} {at : ℕ} → at ≤ m → Bounded m P p → Bounded m P (at_start at p)
  within-start l (read h k) = read h k
  within-start l (refused h k) = refused h l

  pub within_choice : (t : Bool) {x y : Parse A} → (t ≡ true → Bounded m P x) → (t ≡ false → Bounded m P y) → Bounded m P (pick t x y)
  within_choice true h k = h refl
  within_choice false h k = k refl

  pub within_reader : (t : Bool) (x y : Reader A) (s : List ℕ) (at : ℕ) → Bounded m P (x s at) → Bounded m P (y s at) → Bounded m P (pick t x y s at)
  within_reader true x y s at h k = h
  within_reader false x y s at h k = k

  -- a field with a test
  pub within_passing : (p : Reader A) (t : A → Bool) (code : ℕ) (s : List ℕ) (at : ℕ) → code ≤ EXTRA → at ≤ m → Bounded m P (p s at)
      → Bounded m (λ a q. P a q × (t a ≡ true)) ((p passing t else code) s at)
  within_passing p t code s at c l w =
      within_then (λ a q. P a q × (t a ≡ true)) (λ a q. pick (t a) (ok a q) (fault code at)) w
      (λ a q h k. choice (t a) a q refl h k)
    where
      choice : (v : Bool) (a : A) (q : ℕ) → t a ≡ v → q ≤ m → P a q → Bounded m (λ a q. P a q × (t a ≡ true)) (pick v (ok a q) (fault code at))
      choice true a q e h k = read h (k, e)
      choice false a q e h k = refused c l

-- the bytes of a leaf after its flags
abbrev pub carried_bytes : Kind → ℕ
carried_bytes (Plain _) = 32
carried_bytes Copy = 0
carried_bytes (Client _) = 32

module _ (s : List ℕ) (at : ℕ) (inside : at ≤ length s) where
  pub within-byte : Bounded (length s) (λ _ q. q ≡ at + 1) (byte s at)
  unfolding byte
  within-byte = within_choice (ltb at (length s)) (λ e. read (omega (arith, ltb-true at (length s) e)) refl) (λ _. refused (omega arith) inside)

  pub within-bytes : (n : ℕ) → Bounded (length s) (λ _ q. q ≡ at + n) (bytes n s at)
  unfolding bytes
  within-bytes n = within_choice (leb (at + n) (length s)) (λ e. read (leb-true (at + n) (length s) e) refl) (λ _. refused (omega arith) inside)

  within-number : (value : List ℕ → ℕ → ℕ) (width least : ℕ) → Bounded (length s) (λ _ q. at ≤ q) ((number value width passing (λ v. leb least v) else LONG_VARINT) s at)
  within-number value width least =
      within_weaken (λ _ q. at ≤ q)
      (within_passing (number value width) (λ v. leb least v) LONG_VARINT s at (omega arith) inside
      (within_then (λ _ q. at ≤ q) (λ place q. ok (value s place) q) (within-bytes width) (λ _ q h k. read h (omega arith))))
      (λ _ q k. k.0)

  within-announced : (first : ℕ) → Bounded (length s) (λ _ q. at ≤ q) (announced first s at)
  within-announced first =
      within_reader (ltb first 253) _ _ s at (read inside (omega arith))
      (within_reader (eqb first 253) _ _ s at (within-number le2 2 253)
      (within_reader (eqb first 254) _ _ s at (within-number le4 4 65536) (within-number le8 8 4294967296)))

pub within-varint : (s : List ℕ) (at : ℕ) → at ≤ length s → Bounded (length s) (λ _ q. at + 1 ≤ q) (varint s at)
unfolding varint
within-varint s at inside =
    within-start inside
    (within_then (λ _ q. at + 1 ≤ q) (λ first next. announced first s next) (within-byte s at inside)
    (λ first next h k. within_weaken (λ _ q. at + 1 ≤ q) (within-announced s next h first) (λ _ q l. omega arith)))

module _ (s : List ℕ) (at : ℕ) (inside : at ≤ length s) where
  pub within-offset : (limit : ℕ) (seen : List ℕ) → Bounded (length s) (λ o q. (at + 1 ≤ q) × (o < limit)) (offset_field limit seen s at)
  unfolding offset_field
  within-offset limit seen =
      within_weaken (λ o q. (at + 1 ≤ q) × (o < limit))
      (within_passing (varint passing (λ o. ltb o limit) else BAD_OFFSET) (λ o. not (holds o seen)) REPEATED s at (omega arith) inside
      (within_passing varint (λ o. ltb o limit) BAD_OFFSET s at (omega arith) inside (within-varint s at inside)))
      (λ o q k. (k.0.0, ltb-true o limit k.0.1))

  pub within_kind : (flag : ℕ) → Bounded (length s) (λ k q. at + carried_bytes k ≤ q) (kind_field flag s at)
  unfolding kind_field
  within_kind flag =
      within_reader (eqb flag 0) _ _ s at (within-each (λ k q. at + carried_bytes k ≤ q) Plain (within-bytes s at inside 32) (λ _ q e. omega arith))
      (within_reader (eqb flag 1) _ _ s at (read inside (omega arith))
      (within-each (λ k q. at + carried_bytes k ≤ q) Client (within-bytes s at inside 32) (λ _ q e. omega arith)))

pub within-carried : (s : List ℕ) (at : ℕ) → at ≤ length s → (level offset : ℕ) → Bounded (length s) (λ k q. at + 1 + carried_bytes k ≤ q) (carried_field Layout.Bump level offset s at)
unfolding carried_field flag_field
within-carried s at inside level offset =
    within_then (λ k q. at + 1 + carried_bytes k ≤ q) (λ flag q. kind_field flag s q)
    (within_passing byte (λ f. flag_allowed level offset f) BAD_FLAG s at (omega arith) inside (within-byte s at inside))
    (λ flag next h e. within_weaken (λ k q. at + 1 + carried_bytes k ≤ q) (within_kind s next h flag) (λ k q l. omega arith))

-- a leaf takes two bytes and those that it carries, and its offset is below the limit
pub within-leaf : (s : List ℕ) (at : ℕ) → at ≤ length s → (limit level : ℕ) (seen : List ℕ)
    → Bounded (length s) (λ leaf q. (at + 2 + carried_bytes leaf.kind ≤ q) × (leaf.offset < limit)) (leaf_field Layout.Bump limit level seen s at)
unfolding leaf_field
within-leaf s at inside limit level seen =
    within_then (λ leaf q. (at + 2 + carried_bytes leaf.kind ≤ q) × (leaf.offset < limit)) _ (within-offset s at inside limit seen)
    (λ offset next h e. within_then (λ leaf q. (at + 2 + carried_bytes leaf.kind ≤ q) × (leaf.offset < limit)) _ (within-carried s next h level offset)
    (λ kind q l k. read l (omega arith, e.1)))
