-- The bundle rule (01, "The bundle rule"; 02, Item 9).
use Rattle.std.specs.Prelude.{Option, None, ℕ, ◌-◌, ◌%◌, Bool, true, ◌&&◌, List, [], ◌∷◌, ◌++◌, leb, eqb, length, get_or, replicate, Result as Answer, Ok, Err, Some}
use Rattle.format.specs.declared.transaction.Input.{Input}
use Rattle.format.specs.Parse.{Parse, ok, fault, pick, whole}
use Rattle.format.specs.Bytes.{hash_at}
use Rattle.format.specs.Bump.{Bump}
use Rattle.format.specs.Padded.{padded}
use Rattle.format.specs.Id.{txid}
use Rattle.format.specs.Beef.{BeefEntry, Beef, beef_up_to}
use Rattle.format.specs.Refusals.{TOO_LONG, UNTRUSTED, SAME_TX, NO_PARENT, BAD_ROOTS, MAX_INPUT, MAX_HEIGHT}
use Rattle.bundle.specs.declared.table.Record.{Record}
use Rattle.bundle.specs.declared.judge.Standing.{Standing}
use Rattle.spv.specs.declared.rejection.Rejection.{Rejection}
use Rattle.spv.specs.Result.{Result, accepted, refused, carrying, blaming, answer_of}
use Rattle.spv.specs.Prove.{Proof, prove}
use Rattle.spv.specs.Readings.{levels_reading}
use Rattle.spv.specs.Hashes.{hashes_of, among}
use Rattle.bundle.specs.Table.{blank_record}
use Rattle.bundle.specs.Amounts.{Payment, payment_of, ids_of, total, funded}

-- how a transaction stands after the earlier ones: what its record says of its anchor, or a refusal
abbrev pub Ruling : Type 0
Ruling = Answer Standing Rejection

abbrev pub standing : ℕ → ℕ → ℕ → Standing
standing a n i = record { anchored = a; bump = n; position = i }

-- what judging answers
abbrev pub Verdict : Type 0
Verdict = Answer ℕ Rejection

-- each input has its parent among the ids
unfoldable pub rests : List ℕ → List (List ℕ) → List Input → Bool
rests s ids [] = true
rests s ids (input ∷ l) = among (hash_at s input.parent) ids && rests s ids l

-- "An anchored one (byte 01) must climb in its BUMP to a root in the lent list"
unfoldable pub trusted : List ℕ → ℕ → Result Proof → Ruling
trusted roots n (refused why) = Err why
trusted roots n (accepted p) = pick (among p.root (hashes_of roots)) (Ok (standing 1 n p.position)) (Err (carrying UNTRUSTED 0))

-- an id by a BUMP of the bundle
unfoldable pub proving : List ℕ → Bump → List ℕ → Result Proof
proving s b id = prove (levels_reading s b.height b.levels id)

-- the n-th BUMP; n is below their count by the reading (18)
abbrev pub empty_bump : Bump
empty_bump = record { block = 0; height = 0; start = 0; levels = [] }

abbrev pub nth_bump : List Bump → ℕ → Bump
nth_bump bumps n = get_or bumps n empty_bump

abbrev pub entry_id : List ℕ → BeefEntry → List ℕ
entry_id s e = txid s e.transaction

-- one that is not anchored, as 26, 27 and 28 say
abbrev pub ruling_of : Result (Unit {0}) → Ruling
ruling_of (refused why) = Err why
ruling_of (accepted u) = Ok (standing 0 0 0)

module _ (s roots : List ℕ) (fee : ℕ) (bumps : List Bump) where
  -- "Any other must have, for each input, an earlier transaction with the parent's id"; then 26, 27 and 28
  unfoldable pub anchoring : List Payment → BeefEntry → Option ℕ → Ruling
  anchoring earlier e (Some n) = trusted roots n (proving s (nth_bump bumps n) (entry_id s e))
  anchoring earlier e None = pick (rests s (ids_of earlier) e.transaction.inputs) (ruling_of (funded fee earlier (payment_of s e))) (Err (carrying NO_PARENT 0))

  -- 19, then 13, 14 or 15, 17, or 20, 26, 27, 28
  unfoldable pub ruling : List Payment → BeefEntry → Ruling
  ruling earlier e = pick (among (entry_id s e) (ids_of earlier)) (Err (carrying SAME_TX 0)) (anchoring earlier e e.anchor)

-- the record of a transaction
unfoldable pub entry_row : List ℕ → BeefEntry → Standing → Record
entry_row s e x =
    record {
      start = e.transaction.start;
      length = e.transaction.end - e.transaction.start;
      id = entry_id s e;
      anchored = x.anchored;
      bump = x.bump;
      position = x.position;
      outputs = length e.transaction.outputs;
      total = total e.transaction.outputs;
    }

-- what judging comes to: a record for each transaction
abbrev pub Judgement : Type 0
Judgement = Result (List Record)

unfoldable pub ahead : Record → Judgement → Judgement
ahead r (refused why) = refused why
ahead r (accepted l) = accepted (r ∷ l)

-- "transactions are judged from the first", each after what is known of the earlier ones; a refusal carries the transaction's number, counted from 0
module _ {A B : Type 0} (known : A → B) (stands : List B → A → Ruling) (row : A → Standing → Record) where
  unfoldable pub judge_from : List B → List A → Judgement
  judge_from earlier [] = accepted []
  judge_from earlier (x ∷ l) =
      elim (stands earlier x)
      [ Err why ↦ refused (blaming (length earlier) why) | Ok t ↦ ahead (row x t) (judge_from (earlier ++ (known x ∷ [])) l) ]

unfoldable pub judge_entries : List ℕ → List ℕ → ℕ → Beef → Judgement
judge_entries s roots fee b = judge_from (payment_of s) (ruling s roots fee b.bumps) (entry_row s) [] b.entries

-- "The whole BEEF is read first"
unfoldable pub judge_read : List ℕ → List ℕ → ℕ → Parse Beef → Judgement
judge_read s roots fee (fault number place) = refused (carrying number place)
judge_read s roots fee (ok b next) = judge_entries s roots fee b

-- a BEEF, a list of roots, a fee for each transaction, and room for so many records: 1, 21, then fields as they come, with BUMPs of at most so many layers
unfoldable pub judge_up_to : ℕ → List ℕ → List ℕ → ℕ → ℕ → Judgement
judge_up_to most s roots fee room =
    pick (leb (length s) MAX_INPUT)
    (pick (eqb (length roots % 32) 0) (judge_read s roots fee (whole (beef_up_to most room) s)) (refused (carrying BAD_ROOTS 0)))
    (refused (carrying TOO_LONG 0))

-- with today's limit
abbrev pub judge_beef : List ℕ → List ℕ → ℕ → ℕ → Judgement
judge_beef = judge_up_to MAX_HEIGHT

-- the answer
abbrev pub verdict_of : Judgement → Verdict
verdict_of = answer_of length

-- the table of n rows: on acceptance the first are filled and the others zero; a refusal zeroes the whole table
unfoldable pub table_of : Judgement → ℕ → List Record
table_of (refused why) n = replicate n blank_record
table_of (accepted records) n = padded n blank_record records
