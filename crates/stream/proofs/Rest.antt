-- What is left to read of a raw transaction, from every field of it.
use mathlib.Core.List.{List}
use mathlib.Core.Bool.{true}
use Prim.Native.Nat.{ℕ, zero, suc, ◌+◌, ◌-◌}
use lib.ListN.{length, get_or}
use lib.Dec.{leb, ltb, eqb}
use Rattle.format.specs.Parse.{Parse, Reader, pick, onward, ◌>>=◌, times, ok, fault}
use Rattle.format.specs.Field.{bytes, varint}
use Rattle.format.specs.Transaction.{Transaction, input_field, output_field, some_field}
use Rattle.format.specs.Refusals.{refusal_number, SHORT, LONG_VARINT, EXTRA, BAD_TX}
use Rattle.stream.specs.declared.progress.Stage.{Stage}
use Rattle.stream.specs.declared.progress.Progress.{Progress}
use Rattle.std.specs.Prelude.{Ok, Err}
use Rattle.stream.specs.Progress.{Fed, is_number, is_end, shift_in, width_of, scaled, least}

-- what is kept of a transaction: its size and its counts
pub record Counts : Type 0 where
  pub size : ℕ
  pub inputs : ℕ
  pub outputs : ℕ

abbrev pub counts_of : Transaction → Counts
counts_of t = record { size = t.end; inputs = length t.inputs; outputs = length t.outputs }

-- nothing after the lock time
unfoldable pub end_rest : ℕ → ℕ → Reader Counts
end_rest i o s at = pick (ltb at (length s)) (fault EXTRA at) (ok (record { size = at; inputs = i; outputs = o }) at)

-- 64 bytes are refused at the first
unfoldable pub size_rest : ℕ → ℕ → Reader Counts
size_rest i o s at = pick (eqb at 64) (fault BAD_TX 0) (end_rest i o s at)

unfoldable pub lock_time_rest : ℕ → ℕ → Reader Counts
lock_time_rest i o = bytes 4 >>= (λ _. size_rest i o)

-- an output of any amount, and n of them more
abbrev pub any_output : Reader ℕ
any_output = output_field (λ _. true)

unfoldable pub outputs_rest : ℕ → ℕ → ℕ → Reader Counts
outputs_rest i o n = times any_output n >>= (λ _. lock_time_rest i o)

unfoldable pub output_script_rest : ℕ → ℕ → ℕ → ℕ → Reader Counts
output_script_rest i o n k = bytes k >>= (λ _. outputs_rest i o n)

unfoldable pub output_length_rest : ℕ → ℕ → ℕ → Reader Counts
output_length_rest i o n = varint >>= output_script_rest i o n

unfoldable pub amount_rest : ℕ → ℕ → ℕ → Reader Counts
amount_rest i o n = bytes 8 >>= (λ _. output_length_rest i o n)

unfoldable pub output_count_rest : ℕ → Reader Counts
output_count_rest i = some_field >>= (λ o. outputs_rest i o o)

-- n inputs more
unfoldable pub inputs_rest : ℕ → ℕ → Reader Counts
inputs_rest i n = times input_field n >>= (λ _. output_count_rest i)

unfoldable pub sequence_rest : ℕ → ℕ → Reader Counts
sequence_rest i n = bytes 4 >>= (λ _. inputs_rest i n)

unfoldable pub input_script_rest : ℕ → ℕ → ℕ → Reader Counts
input_script_rest i n k = bytes k >>= (λ _. sequence_rest i n)

unfoldable pub input_length_rest : ℕ → ℕ → Reader Counts
input_length_rest i n = varint >>= input_script_rest i n

unfoldable pub output_number_rest : ℕ → ℕ → Reader Counts
output_number_rest i n = bytes 4 >>= (λ _. input_length_rest i n)

unfoldable pub parent_rest : ℕ → ℕ → Reader Counts
parent_rest i n = bytes 32 >>= (λ _. output_number_rest i n)

unfoldable pub input_count_rest : Reader Counts
input_count_rest = some_field >>= (λ i. inputs_rest i i)

unfoldable pub version_rest : Reader Counts
version_rest = bytes 4 >>= (λ _. input_count_rest)

-- what follows a field that starts at `start` and has the value v, with the counts and the items of the list still to come with this one
unfoldable pub then_at : Stage → ℕ → ℕ → ℕ → ℕ → ℕ → Reader Counts
then_at Stage.Version start i o left v = input_count_rest
then_at Stage.InputCount start i o left v = λ s at. pick (leb 1 v) (inputs_rest v v s at) (fault BAD_TX start)
then_at Stage.Parent start i o left v = output_number_rest i (left - 1)
then_at Stage.OutputNumber start i o left v = input_length_rest i (left - 1)
then_at Stage.InputLength start i o left v = input_script_rest i (left - 1) v
then_at Stage.InputScript start i o left v = sequence_rest i (left - 1)
then_at Stage.Sequence start i o left v = inputs_rest i (left - 1)
then_at Stage.OutputCount start i o left v = λ s at. pick (leb 1 v) (outputs_rest i v v s at) (fault BAD_TX start)
then_at Stage.Amount start i o left v = output_length_rest i o (left - 1)
then_at Stage.OutputLength start i o left v = output_script_rest i o (left - 1) v
then_at Stage.OutputScript start i o left v = outputs_rest i o (left - 1)
then_at Stage.LockTime start i o left v = size_rest i o
then_at Stage.End start i o left v = end_rest i o

-- what is left of a field that is no VarInt
unfoldable pub run_left : ℕ → ℕ → List ℕ → ℕ → Parse ℕ
run_left start need s at = pick (leb (at + need) (length s)) (ok start (at + need)) (fault SHORT start)

-- what is left of a VarInt: k bytes after those that were shifted in
unfoldable pub shifting : ℕ → List ℕ → ℕ → ℕ → ℕ
shifting value s at zero = value
shifting value s at (suc k) = shifting (shift_in value (get_or s at 0)) s (at + 1) k

unfoldable pub shortest : ℕ → ℕ → ℕ → ℕ → Parse ℕ
shortest start width value at = pick (leb (least width) (scaled width value)) (ok (scaled width value) at) (fault LONG_VARINT start)

unfoldable pub digits_left : ℕ → ℕ → ℕ → ℕ → List ℕ → ℕ → Parse ℕ
digits_left start width value k s at = pick (leb (at + k) (length s)) (shortest start width (shifting value s at k) (at + k)) (fault SHORT start)

unfoldable pub first_left : ℕ → List ℕ → ℕ → Parse ℕ
first_left start s at =
    pick (ltb at (length s))
    (pick (ltb (get_or s at 0) 253) (ok (get_or s at 0) (at + 1)) (digits_left start (width_of (get_or s at 0)) 0 (width_of (get_or s at 0)) s (at + 1)))
    (fault SHORT start)

unfoldable pub number_left : ℕ → ℕ → ℕ → ℕ → List ℕ → ℕ → Parse ℕ
number_left start width value need s at = pick (eqb width 0) (first_left start s at) (digits_left start width value need s at)

-- what is left of a transaction
unfoldable pub rest : Progress → List ℕ → Parse Counts
rest f s =
    pick (is_end f.stage) (end_rest f.inputs f.outputs s f.at)
    (onward (pick (is_number f.stage) (number_left f.start f.width f.value f.need s f.at) (run_left f.start f.need s f.at))
    (λ v at. then_at f.stage f.start f.inputs f.outputs f.left v s at))

abbrev pub rest_of : Fed → List ℕ → Parse Counts
rest_of (Ok f) s = rest f s
rest_of (Err r) s = fault (refusal_number r.refusal) r.place

-- where no byte comes any more
abbrev pub ending : Fed → Parse Counts
ending (Ok f) = pick (is_end f.stage) (ok (record { size = f.at; inputs = f.inputs; outputs = f.outputs }) f.at) (fault SHORT f.start)
ending (Err r) = fault (refusal_number r.refusal) r.place
