-- A meaning that can be undone leaves one answer: the contract of a reading fixes what it returns.
use mathlib.Core.Path.{◌≡◌, ap, sym, ◌∙◌, refl}
use Rattle.std.specs.Prelude.{Result, Ok, Err, ℕ, ◌-◌, List, [], ◌∷◌, get_or}
use Rattle.format.specs.declared.field.Cursor.{Cursor}
use Rattle.format.specs.declared.refusal.Refusal.{Refusal}
use Rattle.format.specs.declared.refusal.ReadRefusal.{ReadRefusal}
use Rattle.format.specs.Parse.{Parse, ok, fault}
use Rattle.format.specs.Refusals.{refusal_number}
use Rattle.format.specs.Answer.{parse_of}

pub one_answer : {X P : Type 0} (meaning : X → P) (undo : P → X) → ((x : X) → undo (meaning x) ≡ x) → (a b : X) → meaning a ≡ meaning b → a ≡ b
one_answer meaning undo undone a b e = sym (undone a) ∙ ap undo e ∙ undone b

-- the refusal of a number
all_refusals : List Refusal
all_refusals = Refusal.TooLong ∷ Refusal.Short ∷ Refusal.LongVarint ∷ Refusal.BadHeight ∷ Refusal.OverLimit ∷ Refusal.BadOffset ∷ Refusal.BadFlag ∷ Refusal.Repeated ∷ Refusal.Extra ∷ Refusal.BadVersion ∷ Refusal.BadTx ∷ Refusal.Empty ∷ Refusal.NotListed ∷ Refusal.Missing ∷ Refusal.Twin ∷ Refusal.RootsDiffer ∷ Refusal.Untrusted ∷ Refusal.BadIndex ∷ Refusal.SameTx ∷ Refusal.NoParent ∷ Refusal.BadRoots ∷ Refusal.NoRoom ∷ Refusal.Unlike ∷ Refusal.SameId ∷ Refusal.BadAmount ∷ Refusal.NoOutput ∷ Refusal.SpentTwice ∷ Refusal.TooLittle ∷ Refusal.NoOrder ∷ Refusal.BadOrder ∷ []

refusal_of : ℕ → Refusal
refusal_of n = get_or all_refusals (n - 1) Refusal.TooLong

same_refusal : (r : Refusal) → refusal_of (refusal_number r) ≡ r
unfolding refusal_of all_refusals
same_refusal Refusal.TooLong = refl
same_refusal Refusal.Short = refl
same_refusal Refusal.LongVarint = refl
same_refusal Refusal.BadHeight = refl
same_refusal Refusal.OverLimit = refl
same_refusal Refusal.BadOffset = refl
same_refusal Refusal.BadFlag = refl
same_refusal Refusal.Repeated = refl
same_refusal Refusal.Extra = refl
same_refusal Refusal.BadVersion = refl
same_refusal Refusal.BadTx = refl
same_refusal Refusal.Empty = refl
same_refusal Refusal.NotListed = refl
same_refusal Refusal.Missing = refl
same_refusal Refusal.Twin = refl
same_refusal Refusal.RootsDiffer = refl
same_refusal Refusal.Untrusted = refl
same_refusal Refusal.BadIndex = refl
same_refusal Refusal.SameTx = refl
same_refusal Refusal.NoParent = refl
same_refusal Refusal.BadRoots = refl
same_refusal Refusal.NoRoom = refl
same_refusal Refusal.Unlike = refl
same_refusal Refusal.SameId = refl
same_refusal Refusal.BadAmount = refl
same_refusal Refusal.NoOutput = refl
same_refusal Refusal.SpentTwice = refl
same_refusal Refusal.TooLittle = refl
same_refusal Refusal.NoOrder = refl
same_refusal Refusal.BadOrder = refl

-- every answer of a reading is a value with its cursor, or a refusal
rebuilt : {T : Type 0} → Parse T → Result (T × Cursor) ReadRefusal
rebuilt (ok a at) = Ok (a, record { at = at })
rebuilt (fault n at) = Err (record { refusal = refusal_of n; place = at })

undone : {T : Type 0} (x : Result (T × Cursor) ReadRefusal) → rebuilt (parse_of x) ≡ x
unfolding rebuilt
undone (Ok r) = refl
undone (Err e) = ap (λ (r : Refusal). Err (record { refusal = r; place = e.place })) (same_refusal e.refusal)

pub one-reading : {T : Type 0} (a b : Result (T × Cursor) ReadRefusal) → parse_of a ≡ parse_of b → a ≡ b
one-reading = one_answer parse_of rebuilt undone
