-- The text that `bumplist` writes (01, "Examples at the edges").
use Rattle.std.specs.Prelude.{List, [], ◌∷◌, ◌++◌, ℕ, ◌+◌, length, leb}
use Rattle.format.specs.declared.leaf.Leaf.{Leaf}
use Rattle.format.specs.declared.leaf.Kind.{Kind}
use Rattle.format.specs.declared.leaf.Kind.TheVariants.{Plain, Copy, Client}
use Rattle.format.specs.Parse.{Parse, pick, ok, fault}
use Rattle.format.specs.Refusals.{TOO_LONG}
use Rattle.format.specs.Bump.{Bump, bump_whole}
use Rattle.format.specs.Bytes.{hash_at}
use Rattle.listing.specs.Text.{ascii, decimal, printed, line}

-- the bytes that the program takes (01, "Sizes")
abbrev pub LISTED_BYTES : ℕ
LISTED_BYTES = 65536

-- memory enough for every listing: `listing-fits` of Room.antt
abbrev pub LISTING_ROOM : ℕ
LISTING_ROOM = 1114112

-- what a leaf's line says after its offset
unfoldable pub kind_text : List ℕ → Kind → List ℕ
kind_text s (Plain place) = ascii " plain " ++ printed (hash_at s place)
kind_text s Copy = ascii " copy"
kind_text s (Client place) = ascii " client " ++ printed (hash_at s place)

unfoldable pub leaf_line : List ℕ → Leaf → List ℕ
unfolding kind_text
leaf_line s leaf = line (ascii "leaf " ++ decimal leaf.offset ++ kind_text s leaf.kind)

-- leaves come as written
unfoldable pub leaf_lines : List ℕ → List Leaf → List ℕ
leaf_lines s [] = []
leaf_lines s (leaf ∷ l) = leaf_line s leaf ++ leaf_lines s l

unfoldable pub level_line : ℕ → ℕ → List ℕ
level_line level leaves = line (ascii "level " ++ decimal level ++ ascii " leaves " ++ decimal leaves)

-- the levels from the one of this number on
unfoldable pub level_lines : List ℕ → ℕ → List (List Leaf) → List ℕ
level_lines s level [] = []
level_lines s level (l ∷ ls) = level_line level (length l) ++ leaf_lines s l ++ level_lines s (level + 1) ls

unfoldable pub bump_lines : List ℕ → Bump → List ℕ
bump_lines s b =
    line (ascii "block " ++ decimal b.block) ++ line (ascii "height " ++ decimal b.height)
    ++ level_lines s 0 b.levels
    ++ line (ascii "ok")

unfoldable pub refused_line : ℕ → ℕ → List ℕ
refused_line number place = line (ascii "refused " ++ decimal number ++ ascii " at " ++ decimal place)

unfoldable pub report : List ℕ → Parse Bump → List ℕ
report s (ok b _) = bump_lines s b
report s (fault number place) = refused_line number place

unfoldable pub listing : List ℕ → List ℕ
listing s = pick (leb (length s) LISTED_BYTES) (report s (bump_whole s)) (refused_line TOO_LONG 0)
