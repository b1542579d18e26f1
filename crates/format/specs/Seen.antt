-- What a reading keeps of the leaves of a level.
use Rattle.std.specs.Prelude.{Result, Ok, Err, ◌≡◌, List, false, ℕ, ◌≤◌, ◌%◌, length, get_or}
use Rattle.format.specs.declared.field.Cursor.{Cursor}
use Rattle.format.specs.declared.refusal.ReadRefusal.{ReadRefusal}
use Rattle.format.specs.declared.leaf.Leaf.{Leaf}
use Rattle.format.specs.declared.leaf.Kind.{Kind}
use Rattle.format.specs.Parse.{Parse, ok}
use Rattle.format.specs.Level.{holds}

abbrev pub offset_of : Leaf → ℕ
offset_of leaf = leaf.offset

-- the offset that was read before what a leaf carries
abbrev pub keep_offset : ℕ → Kind → ℕ
keep_offset offset _ = offset

-- a leaf's offset is read, and is `least` or above; a refusal says nothing
abbrev pub Above : ℕ → Result (ℕ × Cursor) ReadRefusal → Parse ℕ → Type 0
Above least (Ok r) p = (p ≡ ok r.0 r.1.at) × (least ≤ r.0)
Above least (Err e) p = Unit {0}

-- an offset whose slot, by its remainder, is not marked was not seen
abbrev pub Slotted : List ℕ → List ℕ → Type 0
Slotted slots seen = (length slots ≡ 4096) × ((x : ℕ) → get_or slots (x % 4096) 0 ≡ 0 → holds x seen ≡ false)
