-- TSC binary proofs (document 000; 01, "Layouts").
use Rattle.std.specs.Prelude.{List, Bool, not, ◌&&◌, ℕ, ◌+◌, ◌^◌, length, ltb, leb, eqb}
use Rattle.std.specs.Int.Bits.{bit_and}
use Rattle.format.specs.declared.leaf.Kind.{Kind}
use Rattle.format.specs.declared.tsc.Subject.{Subject}
use Rattle.format.specs.declared.tsc.TscHead.{TscHead}
use Rattle.format.specs.Parse.{Parse, Reader, pick, pure, here, onward, ◌>>=◌, ◌>>◌, given, ◌passing◌else◌, require, times, whole, ok, fault}
use Rattle.format.specs.Field.{bytes, byte, varint}
use Rattle.format.specs.Node.{node_field}
use Rattle.format.specs.Bytes.{hash_at}
use Rattle.format.specs.Transaction.{Listed, Transaction, tx_field}
use Rattle.format.specs.Refusals.{OVER_LIMIT, BAD_OFFSET, BAD_FLAG, BAD_TX, MAX_HEIGHT}

-- flags AND 6 is 0, 2 or 4; 6, or any bit above bit 2, is refused
abbrev pub flags_allowed : ℕ → Bool
flags_allowed flags = ltb flags 8 && not (eqb (bit_and flags 6) 6)

unfoldable pub flags_field : Reader ℕ
flags_field = byte passing (λ f. flags_allowed f) else BAD_FLAG

-- bit 0: the transaction stands here, and not its id
abbrev pub has_transaction : ℕ → Bool
has_transaction flags = eqb (bit_and flags 1) 1

-- flags AND 6 is 0 for a block hash, 2 for a header, 4 for a root
abbrev pub has_header : ℕ → Bool
has_header flags = eqb (bit_and flags 6) 2

-- what was read ends where its stated length does; any fault in it is 11 at its start
abbrev pub exactly : {A : Type 0} → ℕ → ℕ → Parse A → Parse A
exactly start end (ok a q) = pick (eqb q end) (ok a q) (fault BAD_TX start)
exactly start end (fault n q) = fault BAD_TX start

-- a transaction of exactly n bytes: a length past the end of the input is 2 at its start
unfoldable pub exact_field : ℕ → Reader Transaction
exact_field n s at = onward (bytes n s at) (λ start end. exactly start end (tx_field s start))

abbrev pub as_subject : Transaction → Subject
as_subject t = Subject.Transaction t.start t.end

-- transaction length VarInt, transaction
unfoldable pub stated_field : Reader Subject
stated_field = do
  n ← varint
  given as_subject (exact_field n)

-- the transaction with its length if bit 0 is set, else a 32-byte id
unfoldable pub subject_field : ℕ → Reader Subject
subject_field flags = pick (has_transaction flags) stated_field (given Subject.Id (bytes 32))

-- a header is 80 bytes, a block hash or a root 32
unfoldable pub target_field : ℕ → Reader ℕ
target_field flags = bytes (pick (has_header flags) 80 32)

-- a position is below 2 ^ layers
unfoldable pub index_fits : ℕ → ℕ → Bool
index_fits index layers = ltb index (2 ^ layers)

-- a node count VarInt, at most so many nodes; `node_count_field`, `nodes_field` and `tsc_field` have today's limit
unfoldable pub node_count_up_to : ℕ → Reader ℕ
node_count_up_to most = varint passing (λ n. leb n most) else OVER_LIMIT

-- node count, nodes; the index is tested after the count, before the nodes
unfoldable pub nodes_up_to : ℕ → ℕ → ℕ → Reader (Listed Kind)
nodes_up_to most index index_at = do
  count ← node_count_up_to most
  require (index_fits index count) BAD_OFFSET index_at
  at ← here
  nodes ← times node_field count
  pure (record { at = at; items = nodes })

-- flags, index, what is proved, the place of the target, and the nodes
pub record Tsc : Type 0 where
  pub flags : ℕ
  pub index : ℕ
  pub subject : Subject
  pub target : ℕ
  pub nodes_at : ℕ
  pub nodes : List Kind

unfoldable pub tsc_up_to : ℕ → Reader Tsc
tsc_up_to most = do
  flags ← flags_field
  index_at ← here
  index ← varint
  subject ← subject_field flags
  target ← target_field flags
  nodes ← nodes_up_to most index index_at
  pure (record { flags = flags; index = index; subject = subject; target = target; nodes_at = nodes.at; nodes = nodes.items })

abbrev pub node_count_field : Reader ℕ
node_count_field = node_count_up_to MAX_HEIGHT

abbrev pub nodes_field : ℕ → ℕ → Reader (Listed Kind)
nodes_field = nodes_up_to MAX_HEIGHT

abbrev pub tsc_field : Reader Tsc
tsc_field = tsc_up_to MAX_HEIGHT

-- an input that is one TSC proof
abbrev pub tsc_whole : List ℕ → Parse Tsc
tsc_whole s = whole tsc_field s

-- what the answer of a reading holds of a TSC proof
abbrev pub tsc_head_of : Tsc → TscHead
tsc_head_of t = record {
  flags = t.flags;
  index = t.index;
  subject = t.subject;
  target = t.target;
  nodes = length t.nodes;
  nodes_at = record { at = t.nodes_at };
}

-- a block hash tells no root
unfoldable pub tells_root : ℕ → Bool
tells_root flags = not (eqb (bit_and flags 6) 0)

-- a header holds the root in bytes 36 to 67; any other target is taken as it is
unfoldable pub target_root : List ℕ → ℕ → ℕ → List ℕ
target_root s flags target = hash_at s (pick (has_header flags) (target + 36) target)
