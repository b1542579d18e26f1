-- What a call comes to: accepted with a value, or refused.
use Rattle.std.specs.Prelude.{ℕ, Result as Answer, Ok, Err}
use Rattle.format.specs.Parse.{Parse, ok, fault}
use Rattle.format.specs.Refusals.{refusal_number}
use Rattle.format.specs.declared.refusal.ReadRefusal.{ReadRefusal}
use Rattle.spv.specs.declared.rejection.Rejection.{Rejection}

pub data Result (A : Type 0) : Type 0 where
  accepted : A → Result A
  refused : Rejection → Result A

-- a refusal's number and what it carries; "the layer and the sibling's position there" (02, Item 5) are 0 for all but 14 and 15
abbrev pub carrying : ℕ → ℕ → Rejection
carrying number carried = record { number = number; carried = carried; layer = 0; sibling = 0 }

-- 14 or 15 of a climb at layer k, where the sibling stands at q
abbrev pub at_sibling : ℕ → ℕ → ℕ → Rejection
at_sibling number k q = record { number = number; carried = 0; layer = k; sibling = q }

-- a refusal of reading carries its place
abbrev pub refused_reading : ReadRefusal → Rejection
refused_reading f = carrying (refusal_number f.refusal) f.place

-- what was read, and what it comes to
abbrev pub after_reading : {A B : Type 0} → Parse A → (A → Result B) → Result B
after_reading (ok a next) f = f a
after_reading (fault number place) f = refused (carrying number place)

-- first one, then with its value another
abbrev pub follow : {A B : Type 0} → Result A → (A → Result B) → Result B
follow (accepted a) f = f a
follow (refused x) f = refused x

-- the code's answer, with its own form of the value
abbrev pub answer_of : {A B : Type 0} → (A → B) → Result A → Answer B Rejection
answer_of f (accepted a) = Ok (f a)
answer_of f (refused why) = Err why

-- the same refusal of the n-th transaction of a bundle
abbrev pub blaming : ℕ → Rejection → Rejection
blaming n x = record { number = x.number; carried = n; layer = x.layer; sibling = x.sibling }
