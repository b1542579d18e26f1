-- Laws of what an answer of the code says of the result that it is of.
use Rattle.std.proofs.Common.{◌≡◌, refl, Result as Answer, Ok, Err}
use Rattle.std.specs.Result.{IsErrAnd}
use Rattle.std.proofs.lemmas.Result.{err_from_is_err_and}
use Rattle.spv.specs.declared.rejection.Rejection.{Rejection}
use Rattle.spv.specs.Result.{Result, accepted, refused, answer_of}

module _ {A B : Type 0} (f : A → B) where
  pub answered-ok : (r : Result A) (b : B) → Ok b ≡ answer_of f r → (a : A) × (r ≡ accepted a) × (f a ≡ b)
  answered-ok (accepted a) b e = (a, refl, cc)
  answered-ok (refused why) b e = cc

  pub answered-err : (r : Result A) (why : Rejection) → Err why ≡ answer_of f r → r ≡ refused why
  answered-err (accepted a) why e = cc
  answered-err (refused x) why e = cc

  -- the exit of a `?`
  pub refused_on : (r : Result A) (x : Answer B Rejection) (why : Rejection) → IsErrAnd x (λ y. y ≡ why) → r ≡ refused why → x ≡ answer_of f r
  refused_on r x why h e = let p = err_from_is_err_and x h in rw (p.1, p.2, e)
