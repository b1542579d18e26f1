-- Laws of what a call returns and leaves in lent memory.
use Rattle.std.specs.Prelude.{Result as Answer}
use mathlib.Core.Path.{◌≡◌, refl}
use Prim.Native.Nat.{ℕ, ◌≤◌, ◌<◌}
use mathlib.Core.List.{List}
use lib.ListN.{length}
use borrow.Author.Tests.{le-leb, lt-leb}
use Rattle.format.specs.Parse.{Parse, ok, fault, each}
use Rattle.format.proofs.ParseLaws.{each-ok}
use Rattle.format.specs.Field.{varint}
use Rattle.format.specs.Refusals.{TOO_LONG, MAX_INPUT}
use Rattle.spv.specs.declared.rejection.Rejection.{Rejection}
use Rattle.spv.specs.Result.{Result, accepted, refused, carrying, answer_of}
use Rattle.barrowtide.specs.Interface.{refusal, blamed, blame, taken, number_told, blame_told, told, of_reading, of_reading_to, first_varint}

module _ {A : Type 0} (v : Result A) where
  pub refused-number : {why : Rejection} → v ≡ refused why → why.number ≡ refusal v
  unfolding refusal
  refused-number e = rw e

  pub refused-blame : {why : Rejection} (old : List ℕ) → v ≡ refused why → blamed why ≡ blame v old
  unfolding blame
  refused-blame old e = rw e

  pub refused-taken : {B : Type 0} (f : A → B) {why : Rejection} (old : B) → v ≡ refused why → old ≡ taken f v old
  unfolding taken
  refused-taken f old e = rw e

  pub given-number : {a : A} → v ≡ accepted a → 0 ≡ refusal v
  unfolding refusal
  given-number e = rw e

  pub given-blame : {a : A} (old : List ℕ) → v ≡ accepted a → old ≡ blame v old
  unfolding blame
  given-blame old e = rw e

  pub given-taken : {B : Type 0} (f : A → B) {a : A} (old : B) → v ≡ accepted a → f a ≡ taken f v old
  unfolding taken
  given-taken f old e = rw e

-- what an answer tells is what its result tells
module _ {A B : Type 0} (f : A → B) (v : Result A) {answer : Answer B Rejection} (e : answer ≡ answer_of f v) where
  pub told_number : number_told answer ≡ refusal v
  unfolding number_told refusal
  told_number = rw e (go v)
    where
      go : (v : Result A) → number_told (answer_of f v) ≡ refusal v
      go (accepted a) = refl
      go (refused why) = refl

  pub told_blame : (old : List ℕ) → blame_told answer old ≡ blame v old
  unfolding blame_told blame
  told_blame old = rw e (go v)
    where
      go : (v : Result A) → blame_told (answer_of f v) old ≡ blame v old
      go (accepted a) = refl
      go (refused why) = refl

  pub told_value : {C : Type 0} (g : B → C) (old : C) → told g answer old ≡ taken (λ a. g (f a)) v old
  unfolding told taken
  told_value g old = rw e (go v)
    where
      go : (v : Result A) → told g (answer_of f v) old ≡ taken (λ a. g (f a)) v old
      go (accepted a) = refl
      go (refused why) = refl

module _ {A : Type 0} (p : Parse A) where
  pub reading-ok : {a : A} {q : ℕ} → p ≡ ok a q → of_reading p ≡ accepted a
  unfolding of_reading
  reading-ok e = rw e

  pub reading-fault : {n q : ℕ} → p ≡ fault n q → of_reading p ≡ refused (carrying n q)
  unfolding of_reading
  reading-fault e = rw e

-- what is taken of what an answer holds is taken of what was read
pub given_view : {A B C : Type 0} (f : A → B) (g : B → C) (p : Parse A) {b : B} {q : ℕ} (old : C) → each f p ≡ ok b q → g b ≡ taken (λ a. g (f a)) (of_reading p) old
given_view f g p old e = let x = each-ok f p e in rw (← x.2) (given-taken (of_reading p) (λ a. g (f a)) old (reading-ok p x.1))

module _ (s : List ℕ) where
  pub first-ok : {v q : ℕ} → length s ≤ MAX_INPUT → varint s 0 ≡ ok v q → first_varint s ≡ accepted (v, q)
  unfolding first_varint of_reading_to
  first-ok h e = rw (le-leb (length s) MAX_INPUT h, e)

  pub first-fault : {n q : ℕ} → length s ≤ MAX_INPUT → varint s 0 ≡ fault n q → first_varint s ≡ refused (carrying n q)
  unfolding first_varint of_reading_to
  first-fault h e = rw (le-leb (length s) MAX_INPUT h, e)

  pub first_too_long : MAX_INPUT < length s → first_varint s ≡ refused (carrying TOO_LONG 0)
  unfolding first_varint
  first_too_long h = rw (lt-leb (length s) MAX_INPUT h)
