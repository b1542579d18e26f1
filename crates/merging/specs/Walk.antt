-- The leaves of a level of two paths, both in order, from the least offset up: what the code of merging goes through.
use Rattle.std.specs.Prelude.{List, [], ℕ, zero, suc, length, eqb, Option, Some, None}
use Rattle.format.specs.declared.leaf.Kind.{Kind}
use Rattle.format.specs.Parse.{pick}
use Rattle.encoding.specs.Encode.{encode_all}
use Rattle.encoding.specs.BumpBytes.{Entry, entry_bytes, carried_of}
use Rattle.levels.specs.Standing.{Standing, stands, nothing}
use Rattle.levels.specs.Fronts.{next_of, lesser, front, past}
use Rattle.merging.specs.declared.uniting.LevelTally.{LevelTally}
use Rattle.merging.specs.declared.uniting.Choice.{Choice}
use Rattle.merging.specs.declared.uniting.Choice.TheVariants.{First, Second}
use Rattle.merging.specs.Merging.{Kept, keeps, clash, agree, Spot, unite, clashes, kept_of}

-- what stands on the left of an offset, by what stood at the last one
unfoldable pub left_at : ℕ → ℕ → Standing → Standing
left_at last zero v = nothing
left_at last (suc o) v = pick (eqb last o) v nothing

abbrev pub on_next : Option ℕ → (ℕ → List Spot) → List Spot
on_next None f = []
on_next (Some o) f = f o

-- at most n offsets
unfoldable pub walk_spots : ℕ → ℕ → Standing → Standing → List Entry → List Entry → List Spot
walk_spots zero last f g x y = []
walk_spots (suc n) last f g x y =
    on_next (lesser (next_of x) (next_of y))
    (λ o. unite o (left_at last o f) (left_at last o g) (front o x) (front o y) (walk_spots n o (front o x) (front o y) (past o x) (past o y)))

-- ---- what the code's answers say

-- what is kept, whichever path has it
abbrev pub kind_in : Choice → Kind
kind_in (First kind) = kind
kind_in (Second kind) = kind

-- the leaf of the first or of the second is kept
abbrev pub kept_by : List ℕ → List ℕ → Option Choice → Kept
kept_by s t (Some (First kind)) = keeps (carried_of s kind)
kept_by s t (Some (Second kind)) = keeps (carried_of t kind)
kept_by s t None = clash

-- of two that stand there; of none nothing is asked
unfoldable pub kept_at : Standing → Standing → Standing → Standing → Kept
kept_at l m nothing nothing = clash
kept_at l m (stands c) nothing = keeps c
kept_at l m nothing (stands d) = keeps d
kept_at l m (stands c) (stands d) = agree l m c d

-- the spot that was the left one of an offset
unfoldable pub left_spot : ℕ → ℕ → Option Kind → Option Kind
left_spot last zero v = None
left_spot last (suc o) v = pick (eqb last o) v None

-- the bytes of what is kept at an offset
unfoldable pub kept_text : ℕ → Kept → List ℕ
kept_text o (keeps c) = entry_bytes (record { offset = o; carried = c })
kept_text o clash = []

-- how many leaves a merged level has, how many bytes they take, and whether two clash
unfoldable pub tally_of : List Spot → LevelTally
tally_of l = record { count = length l; bytes = length (encode_all entry_bytes (kept_of l)); clash = clashes l }
