-- What reading finds, and how readers are put together. A reader takes the bytes and a place, and gives a value with the
-- place after it, or a refusal: its number and its place.
use Rattle.std.specs.Prelude.{List, [], ◌∷◌, Bool, true, false, ℕ, zero, suc, length, ltb, leb}
use Rattle.format.specs.Refusals.{TOO_LONG, EXTRA, MAX_INPUT}

pub data Parse (A : Type 0) : Type 0 where
  ok : A → ℕ → Parse A
  fault : ℕ → ℕ → Parse A

abbrev pub Reader : Type 0 → Type 0
Reader A = List ℕ → ℕ → Parse A

-- a choice by a test
abbrev pub pick : {A : Type 0} → Bool → A → A → A
pick true a b = a
pick false a b = b

-- what follows a parse: a refusal stays
abbrev pub onward : {A B : Type 0} → Parse A → (A → ℕ → Parse B) → Parse B
onward (ok a at) f = f a at
onward (fault n at) f = fault n at

-- a value with nothing read
abbrev pub pure : {A : Type 0} → A → Reader A
pure a s at = ok a at

-- the place itself
abbrev pub here : Reader ℕ
here s at = ok at at

-- then fields as they come
infixl 20 ◌>>=◌
abbrev pub ◌>>=◌ : {A B : Type 0} → Reader A → (A → Reader B) → Reader B
◌>>=◌ p f s at = onward (p s at) (λ a next. f a s next)

-- a function of what is read
unfoldable pub each : {A B : Type 0} → (A → B) → Parse A → Parse B
each f p = onward p (λ a at. ok (f a) at)

abbrev pub given : {A B : Type 0} → (A → B) → Reader A → Reader B
given f p s at = each f (p s at)

-- a field whose value fails a test is refused by the number code, at its start
abbrev pub tested : {A : Type 0} → (A → Bool) → ℕ → ℕ → Parse A → Parse A
tested test code start p = onward p (λ a at. pick (test a) (ok a at) (fault code start))

infix 30 ◌passing◌else◌
abbrev pub ◌passing◌else◌ : {A : Type 0} → Reader A → (A → Bool) → ℕ → Reader A
◌passing◌else◌ p test code s at = tested test code at (p s at)

-- one field: a refusal in it carries its start
abbrev pub at_start : {A : Type 0} → ℕ → Parse A → Parse A
at_start start (ok a at) = ok a at
at_start start (fault n at) = fault n start

abbrev pub field : {A : Type 0} → Reader A → Reader A
field p s at = at_start at (p s at)

-- n items one after the other, each read by what the state says; the state goes on with each item
unfoldable pub many : {S A : Type 0} → (S → Reader A) → (S → A → S) → ℕ → S → Reader (List A)
many item next zero st s at = ok [] at
many item next (suc n) st s at =
    onward (item st s at) (λ a at'. each (a ∷◌) (many item next n (next st a) s at'))

-- nothing after it: bytes left are refused at the first of them
abbrev pub ended : {A : Type 0} → Reader A → Reader A
ended p s at = onward (p s at) (λ a next. pick (ltb next (length s)) (fault EXTRA next) (ok a next))

-- an input that is one whole item, of at most the input size
unfoldable pub whole : {A : Type 0} → Reader A → List ℕ → Parse A
whole p s = pick (leb (length s) MAX_INPUT) (ended p s 0) (fault TOO_LONG 0)

-- n items of one kind
abbrev pub times : {A : Type 0} → Reader A → ℕ → Reader (List A)
times item n = many {S = Unit {0}} (λ _. item) (λ u _. u) n tt

-- a test of what was read before: it is refused at the place given
abbrev pub require : Bool → ℕ → ℕ → Reader (Unit {0})
require test code place s at = pick test (ok tt at) (fault code place)

abbrev pub ◌>>◌ : {A B : Type 0} → Reader A → Reader B → Reader B
◌>>◌ p q = p >>= (λ _. q)

-- what follows a parse, or another answer where it is refused
abbrev pub otherwise : {A B : Type 0} → Parse A → B → (A → ℕ → B) → B
otherwise (ok a at) b f = f a at
otherwise (fault n at) b f = b
