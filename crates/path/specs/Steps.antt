-- What a walk over the leaves of a level tells of each.
use Rattle.std.specs.Prelude.{Option, Some, None, Result, Ok, Err}
use Rattle.format.specs.declared.field.Cursor.{Cursor}
use Rattle.std.specs.Prelude.{◌≡◌, List, ℕ}
use Rattle.format.specs.declared.refusal.ReadRefusal.{ReadRefusal}
use Rattle.format.specs.declared.leaf.Leaf.{Leaf}
use Rattle.format.specs.declared.leaf.Kind.{Kind}
use Rattle.path.specs.declared.walk.Passed.{Passed}
use Rattle.format.specs.Parse.{Parse, onward, otherwise, ok, fault}
use Rattle.format.specs.Refusals.{refusal_number}
use Rattle.format.specs.Bytes.{same, hash_at}
use Rattle.path.specs.Search.{carries}

-- a leaf of a known offset
abbrev pub leaf_with : ℕ → Parse Kind → Parse Leaf
leaf_with offset p = onward p (λ kind next. ok (record { offset = offset; kind = kind }) next)

-- the place of a leaf's 32 bytes decides whether an id stands there; a copy has none
abbrev pub Carried : Option ℕ → Kind → Type 0
Carried (Some place) kind = (s id : List ℕ) → carries s id kind ≡ same (hash_at s place) id
Carried None kind = kind ≡ Kind.Copy

-- a walk says of the leaf read its offset, the place of its bytes and the place after it
abbrev pub Tells : Result (Passed × Cursor) ReadRefusal → Parse Leaf → Type 0
Tells (Ok x) r = (kind : Kind) × (r ≡ ok (record { offset = x.0.offset; kind = kind }) x.1.at) × Carried x.0.place kind
Tells (Err e) r = r ≡ fault (refusal_number e.refusal) e.place

abbrev pub kind_there : Parse Leaf → Option Kind
kind_there p = otherwise p None (λ leaf _. Some leaf.kind)
