-- Refusals by their numbers, as 01's table "Numbers of refusal" has them, and the sizes of 01.
use Rattle.std.specs.Prelude.{ℕ}
use Rattle.hash.specs.Sha256 as S
use Rattle.format.specs.declared.refusal.Refusal.{Refusal}

-- input over its size
abbrev pub TOO_LONG : ℕ
TOO_LONG = 1

-- bytes end inside a field
abbrev pub SHORT : ℕ
SHORT = 2

-- not the shortest form
abbrev pub LONG_VARINT : ℕ
LONG_VARINT = 3

-- tree height outside its limits
abbrev pub BAD_HEIGHT : ℕ
BAD_HEIGHT = 4

-- count or block height over its limit
abbrev pub OVER_LIMIT : ℕ
OVER_LIMIT = 5

-- offset or TSC index outside the layer
abbrev pub BAD_OFFSET : ℕ
BAD_OFFSET = 6

-- flags, node type or BEEF byte not allowed
abbrev pub BAD_FLAG : ℕ
BAD_FLAG = 7

-- offset again in its level
abbrev pub REPEATED : ℕ
REPEATED = 8

-- bytes left after the end
abbrev pub EXTRA : ℕ
EXTRA = 9

-- four bytes present, not BEEF's
abbrev pub BAD_VERSION : ℕ
BAD_VERSION = 10

-- no inputs or no outputs; a transaction of 64 bytes; TSC transaction not exactly its stated length
abbrev pub BAD_TX : ℕ
BAD_TX = 11

-- BEEF with no transaction
abbrev pub EMPTY : ℕ
EMPTY = 12

-- id not at level 0
abbrev pub NOT_LISTED : ℕ
NOT_LISTED = 13

-- sibling not written and not to be worked out
abbrev pub MISSING : ℕ
MISSING = 14

-- sibling equal to the working hash at an odd position
abbrev pub TWIN : ℕ
TWIN = 15

-- client roots differ, or the TSC target is another root
abbrev pub ROOTS_DIFFER : ℕ
ROOTS_DIFFER = 16

-- root not in the list
abbrev pub UNTRUSTED : ℕ
UNTRUSTED = 17

-- BUMP number not below the count
abbrev pub BAD_INDEX : ℕ
BAD_INDEX = 18

-- id equal to an earlier one
abbrev pub SAME_TX : ℕ
SAME_TX = 19

-- an input without earlier parent
abbrev pub NO_PARENT : ℕ
NO_PARENT = 20

-- list of roots not a multiple of 32 bytes
abbrev pub BAD_ROOTS : ℕ
BAD_ROOTS = 21

-- table has fewer records than the count read
abbrev pub NO_ROOM : ℕ
NO_ROOM = 22

-- two proofs differ in root, position or layers
abbrev pub UNLIKE : ℕ
UNLIKE = 23

-- two proofs agree and prove one id
abbrev pub SAME_ID : ℕ
SAME_ID = 24

-- 02, Item 9: an amount above its limit, or one that takes its transaction's running total above it
abbrev pub BAD_AMOUNT : ℕ
BAD_AMOUNT = 25

-- output number not there
abbrev pub NO_OUTPUT : ℕ
NO_OUTPUT = 26

-- output spent twice
abbrev pub SPENT_TWICE : ℕ
SPENT_TWICE = 27

-- inputs come to too little
abbrev pub TOO_LITTLE : ℕ
TOO_LITTLE = 28

-- 02, Item 12: no order with parents first
abbrev pub NO_ORDER : ℕ
NO_ORDER = 29

-- proposed order not one
abbrev pub BAD_ORDER : ℕ
BAD_ORDER = 30

-- the number of each
abbrev pub refusal_number : Refusal → ℕ
refusal_number Refusal.TooLong = TOO_LONG
refusal_number Refusal.Short = SHORT
refusal_number Refusal.LongVarint = LONG_VARINT
refusal_number Refusal.BadHeight = BAD_HEIGHT
refusal_number Refusal.OverLimit = OVER_LIMIT
refusal_number Refusal.BadOffset = BAD_OFFSET
refusal_number Refusal.BadFlag = BAD_FLAG
refusal_number Refusal.Repeated = REPEATED
refusal_number Refusal.Extra = EXTRA
refusal_number Refusal.BadVersion = BAD_VERSION
refusal_number Refusal.BadTx = BAD_TX
refusal_number Refusal.Empty = EMPTY
refusal_number Refusal.NotListed = NOT_LISTED
refusal_number Refusal.Missing = MISSING
refusal_number Refusal.Twin = TWIN
refusal_number Refusal.RootsDiffer = ROOTS_DIFFER
refusal_number Refusal.Untrusted = UNTRUSTED
refusal_number Refusal.BadIndex = BAD_INDEX
refusal_number Refusal.SameTx = SAME_TX
refusal_number Refusal.NoParent = NO_PARENT
refusal_number Refusal.BadRoots = BAD_ROOTS
refusal_number Refusal.NoRoom = NO_ROOM
refusal_number Refusal.Unlike = UNLIKE
refusal_number Refusal.SameId = SAME_ID
refusal_number Refusal.BadAmount = BAD_AMOUNT
refusal_number Refusal.NoOutput = NO_OUTPUT
refusal_number Refusal.SpentTwice = SPENT_TWICE
refusal_number Refusal.TooLittle = TOO_LITTLE
refusal_number Refusal.NoOrder = NO_ORDER
refusal_number Refusal.BadOrder = BAD_ORDER

-- 01, "Sizes"; layers and nodes as 02, Item 8, raised them

-- bytes of an input, as for the hash
abbrev pub MAX_INPUT : ℕ
MAX_INPUT = S.MAX_INPUT

-- layers of a BUMP or CMP, nodes of a TSC proof
abbrev pub MAX_HEIGHT : ℕ
MAX_HEIGHT = 64

-- how many numbers 32 bits hold
abbrev pub U32 : ℕ
U32 = 4294967296

-- block height
abbrev pub MAX_BLOCK : ℕ
MAX_BLOCK = 4294967295

-- leaves of a level
abbrev pub MAX_LEAVES : ℕ
MAX_LEAVES = 1024

-- BUMPs of a BEEF
abbrev pub MAX_BUMPS : ℕ
MAX_BUMPS = 64

-- transactions of a BEEF
abbrev pub MAX_TXS : ℕ
MAX_TXS = 256

-- the amounts of a transaction of a BEEF, in all (02, Item 9)
abbrev pub MAX_TOTAL : ℕ
MAX_TOTAL = 2_100_000_000_000_000
