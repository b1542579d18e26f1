-- The ids of the transactions ahead of a place, as the code makes them four at a time, and the BUMPs that these name.
use Rattle.std.specs.Prelude.{ℕ, zero, suc, ◌+◌, ◌*◌, ◌/◌, ◌<◌, ◌≡◌, Option, Some, None, List, length, get_or, set}
use Rattle.format.specs.declared.field.Cursor.{Cursor}
use Rattle.format.specs.declared.beef.EntryHead.{EntryHead}
use Rattle.format.specs.Bytes.{hash_at}
use Rattle.format.specs.Parse.{Parse, otherwise, each}
use Rattle.format.specs.Beef.{entry_field}
use Rattle.format.specs.BeefAnswer.{entry_head_of}
use Rattle.format.specs.Id.{span_hash}
use Rattle.format.specs.Refusals.{MAX_BUMPS}
use Rattle.lanes.specs.Lanes as L
use Rattle.spv.specs.declared.spans.Span.{Span}
use Rattle.bundle.specs.declared.ids.NamedSpan.{NamedSpan}
use Rattle.bundle.specs.declared.ids.Spans.{Spans}

-- the number of the BUMP that an anchor names; past the BUMPs if it names none
unfoldable pub anchor_of : Option ℕ → ℕ
anchor_of (Some n) = n
anchor_of None = MAX_BUMPS

-- where no transaction can be read
unfoldable pub no_span : NamedSpan
no_span = record { start = 1; end = 0; anchor = MAX_BUMPS }

unfoldable pub span_of : EntryHead → NamedSpan
span_of e = record { start = e.transaction.start; end = e.transaction.end; anchor = anchor_of e.anchor }

-- the place in lane l
unfoldable pub span : ℕ → Spans → NamedSpan
span l x = L.in_lane l x.a x.b x.c x.d

abbrev pub entry_at : ℕ → List ℕ → ℕ → Parse EntryHead
entry_at count s at = each entry_head_of (entry_field count s at)

-- where the m-th transaction from a place on lies, as far as they can be read
unfoldable pub span_at : ℕ → List ℕ → ℕ → ℕ → NamedSpan
span_at count s at zero = otherwise (entry_at count s at) no_span (λ e _. span_of e)
span_at count s at (suc m) = otherwise (entry_at count s at) no_span (λ _ next. span_at count s next m)

-- the same from where the next one is read, if there can be one
unfoldable pub span_from : ℕ → List ℕ → Option Cursor → ℕ → NamedSpan
span_from count s None m = no_span
span_from count s (Some c) m = span_at count s c.at m

-- a step: what lies there, and from where the ones after it are read
abbrev pub Reaches : ℕ → List ℕ → Option Cursor → NamedSpan → Option Cursor → Type 0
Reaches count s from x next = (x ≡ span_from count s from 0) × ((m : ℕ) → span_from count s next m ≡ span_from count s from (suc m))

-- four steps
abbrev pub ReachesFour : ℕ → List ℕ → Option Cursor → Spans → Option Cursor → Type 0
ReachesFour count s from x next = ((l : ℕ) → l < 4 → span l x ≡ span_from count s from l) × ((m : ℕ) → span_from count s next m ≡ span_from count s from (suc (suc (suc (suc m)))))

-- after i steps from a place: from where the ones to come are read
unfoldable pub Onward : ℕ → List ℕ → ℕ → ℕ → Option Cursor → Type 0
Onward count s at i next = (m : ℕ) → span_from count s next m ≡ span_at count s at (i + m)

-- where it lies, alone
unfoldable pub plain_span : NamedSpan → Span
plain_span x = record { start = x.start; end = x.end }

unfoldable pub span_id : List ℕ → NamedSpan → List ℕ
span_id s x = span_hash s x.start x.end

-- the ids of n transactions from a place on stand end to end, as far as there is room
unfoldable pub IdsFrom : ℕ → List ℕ → ℕ → ℕ → List ℕ → Type 0
IdsFrom count s at n ids = (k : ℕ) → k < n → k < length ids / 32 → hash_at ids (32 * k) ≡ span_id s (span_at count s at k)

-- four numbers of BUMPs, from the i-th on
unfoldable pub set_anchors : List ℕ → ℕ → Spans → List ℕ
set_anchors anchors i x = set (set (set (set anchors i x.a.anchor) (i + 1) x.b.anchor) (i + 2) x.c.anchor) (i + 3) x.d.anchor

-- the numbers of the BUMPs of n transactions from a place on, as far as there is room
unfoldable pub AnchorsFrom : ℕ → List ℕ → ℕ → ℕ → List ℕ → Type 0
AnchorsFrom count s at n anchors = (k : ℕ) → k < n → k < length anchors → get_or anchors k 0 ≡ (span_at count s at k).anchor
