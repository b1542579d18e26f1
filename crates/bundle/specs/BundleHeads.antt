-- The bundle rule over what the code holds of a bundle that was read: heads, by places in the bytes.
use Rattle.std.specs.Prelude.{Option, None, ◌≡◌, ℕ, zero, suc, ◌+◌, ◌-◌, ◌*◌, ◌<◌, ◌≤◌, Bool, true, false, List, [], ◌∷◌, map, ltb, length, get_or, take, Ok, Err, Some}
use Rattle.format.specs.declared.transaction.TxHead.{TxHead}
use Rattle.format.specs.declared.bump.BumpHead.{BumpHead}
use Rattle.format.specs.declared.beef.EntryHead.{EntryHead}
use Rattle.format.specs.Parse.{pick, otherwise, each}
use Rattle.format.specs.Bytes.{hash_at}
use Rattle.path.specs.Path.{bump_path_of}
use Rattle.format.specs.Transaction.{input_field, takes, output_field}
use Rattle.format.specs.Beef.{entry_field}
use Rattle.format.specs.BeefAnswer.{no_bump, entry_head_of}
use Rattle.format.specs.Id.{span_hash}
use Rattle.format.specs.Refusals.{BAD_INDEX, SAME_TX, NO_PARENT, MAX_BUMPS}
use Rattle.bundle.specs.declared.table.Record.{Record}
use Rattle.spv.specs.Result.{Result, carrying}
use Rattle.bundle.specs.Table.{flat_head}
use Rattle.spv.specs.Prove.{prove, Proof}
use Rattle.spv.specs.Readings.{path_reading}
use Rattle.spv.specs.Hashes.{hashes_of, among}
use Rattle.bundle.specs.Amounts.{is_anchored}
use Rattle.bundle.specs.FlatForm.{column}
use Rattle.bundle.specs.declared.judge.Standing.{Standing}
use Rattle.bundle.specs.Bundle.{trusted, Ruling, standing}

-- the numbers of a transaction in the flat form, v its outputs' total
abbrev pub numbers_of : TxHead → ℕ → Standing → List ℕ
numbers_of t v x = t.start ∷ (t.end - t.start) ∷ x.bump ∷ x.anchored ∷ x.position ∷ t.outputs.count ∷ v ∷ t.inputs.count ∷ t.inputs.at.at ∷ t.outputs.at.at ∷ []

-- the total of n outputs from a place after others of t in all, as far as they can be read
unfoldable pub total_from : List ℕ → ℕ → ℕ → ℕ → ℕ
total_from s zero t at = t
total_from s (suc n) t at = otherwise (output_field (takes true t) s at) t (λ a next. total_from s n (t + a) next)

abbrev pub head_total : List ℕ → TxHead → ℕ
head_total s t = total_from s t.outputs.count 0 t.outputs.at.at

-- n transactions from a place, of a bundle with so many BUMPs, as far as they can be read
unfoldable pub heads_from : ℕ → List ℕ → ℕ → ℕ → List EntryHead
heads_from bumps s zero at = []
heads_from bumps s (suc n) at = otherwise (each entry_head_of (entry_field bumps s at)) [] (λ e next. e ∷ heads_from bumps s n next)

-- n inputs from a place: each has its parent among the ids
unfoldable pub rests_from : List ℕ → List (List ℕ) → ℕ → ℕ → Bool
rests_from s ids zero at = true
rests_from s ids (suc n) at =
    otherwise (input_field s at) false (λ input next. pick (among (hash_at s input.parent) ids) (rests_from s ids n next) false)

-- an id by a BUMP
unfoldable pub head_proving : List ℕ → BumpHead → List ℕ → Result Proof
head_proving s b id = prove (path_reading s (bump_path_of s b) id)

module _ (s roots : List ℕ) (bumps : List BumpHead) where
  unfoldable pub head_anchoring : List (List ℕ) → List ℕ → TxHead → Option ℕ → Ruling
  head_anchoring earlier id t (Some n) = pick (ltb n MAX_BUMPS) (trusted roots n (head_proving s (get_or bumps n no_bump) id)) (Err (carrying BAD_INDEX 0))
  head_anchoring earlier id t None = pick (rests_from s earlier t.inputs.count t.inputs.at.at) (Ok (standing 0 0 0)) (Err (carrying NO_PARENT 0))

  unfoldable pub head_ruling : List (List ℕ) → List ℕ → EntryHead → Ruling
  head_ruling earlier id e = pick (among id earlier) (Err (carrying SAME_TX 0)) (head_anchoring earlier id e.transaction e.anchor)

-- what is judged, by an entry's head
abbrev pub head_id : List ℕ → EntryHead → List ℕ
head_id s e = span_hash s e.transaction.start e.transaction.end

abbrev pub head_stands : List ℕ → List ℕ → List BumpHead → List (List ℕ) → EntryHead → Ruling
head_stands s roots bumps earlier e = head_ruling s roots bumps earlier (head_id s e) e

abbrev pub head_row : List ℕ → EntryHead → Standing → Record
head_row s e x = flat_head (head_id s e) (numbers_of e.transaction (head_total s e.transaction) x)

-- ---- what the flat form says of them

-- what a record says of an anchor
abbrev pub flag_of : Bool → ℕ
flag_of true = 1
flag_of false = 0

abbrev pub no_head : EntryHead
no_head = record {
  transaction = record { start = 0; end = 0; inputs = record { count = 0; at = record { at = 0 } }; outputs = record { count = 0; at = record { at = 0 } } };
  anchor = None;
}

pub record RowIs (s numbers : List ℕ) (k : ℕ) (e : EntryHead) : Type 0 where
  pub flag : column numbers 3 k ≡ flag_of (is_anchored e.anchor)
  pub outputs : column numbers 5 k ≡ e.transaction.outputs.count
  pub totals : column numbers 6 k ≡ head_total s e.transaction
  pub inputs : column numbers 7 k ≡ e.transaction.inputs.count
  pub inputs_at : column numbers 8 k ≡ e.transaction.inputs.at.at
  pub outputs_at : column numbers 9 k ≡ e.transaction.outputs.at.at

-- the first n of them are in the flat form
pub record Written (s ids numbers : List ℕ) (l : List EntryHead) (n : ℕ) : Type 0 where
  pub few : n ≤ length l
  pub wide : 32 * n ≤ length ids
  pub long : 10 * n ≤ length numbers
  pub ids_are : hashes_of (take (32 * n) ids) ≡ map (head_id s) (take n l)
  pub row_is : (k : ℕ) → k < n → RowIs s numbers k (get_or l k no_head)
