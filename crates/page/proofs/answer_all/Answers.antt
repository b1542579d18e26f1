-- there is room for a page
use Prim.Native.Nat.{ℕ, ◌*◌, ◌/◌, ◌≤◌, ◌<◌}
use mathlib.Core.Path.{◌≡◌, ◌∙◌}
use mathlib.Core.Bool.{true}
use mathlib.Core.List.{List, ◌++◌}
use native.Mathlib.Omega.{arith}
use lib.ListN.{length, get_or, replicate, get_or-append, length-replicate}
use lib.Seq.{length-take-le}
use borrow.Author.Tests.{le-leb}
use Rattle.format.specs.Bytes.{hash_at}
use Rattle.path.specs.declared.path.Path.{Path}
use Rattle.path.specs.Path.{LAYERS}
use Rattle.spv.specs.Prove.{prove}
use Rattle.spv.specs.Readings.{path_reading}
use Rattle.spv.specs.Shapes.{proved_of}
use Rattle.climbs.specs.Proofs.{has_room, fits, starts_of, states_of, roots_of, proved_at}
use Rattle.climbs.proofs.ProofsLaws.{rows-proved}
use Rattle.page.specs.Page.{MAX_PAGE}
use Rattle.page.specs.Flat.{Copied, Levelled}
use Rattle.page.proofs.FlatLaws.{all-proved}
use Rattle.page.proofs.answer_all.Goals as goal

page-fits : (path : Path) (count states hashes : ℕ) → Levelled path → count ≤ MAX_PAGE → MAX_PAGE ≤ states → 8192 ≤ hashes → fits path count states hashes ≡ true
unfolding fits has_room
page-fits path count states hashes v few each wide =
    rw (v.bump, le-leb path.layers LAYERS v.few, le-leb count MAX_PAGE few, le-leb count states (omega arith)) (le-leb (32 * count) hashes (omega arith))

-- rows that hold ids say what each id's own proof says
ids-proved : (s ids : List ℕ) (path : Path) (n : ℕ) (starts states roots : List ℕ) {starts' states' roots' : List ℕ} → Levelled path → n ≤ MAX_PAGE → length starts ≡ n → MAX_PAGE ≤ length states → 8192 ≤ length roots
    → Copied ids n roots → starts' ≡ starts_of s path starts states roots → states' ≡ states_of s path starts states roots → roots' ≡ roots_of s path starts states roots
    → (r : ℕ) → r < n → proved_at path.layers (hash_at ids (32 * r)) starts' states' roots' r ≡ proved_of (prove (path_reading s path (hash_at ids (32 * r))))
unfolding Copied
ids-proved s ids path n starts states roots v few count each wide copied es et er r l =
    let room = page-fits path (length starts) (length states) (length roots) v (omega arith) each wide in
    rw (es, et, er, ← copied r l) (rows-proved s path starts states roots room r (omega arith))

-- the starts stand before what was behind them
starts_first : (starts rest : List ℕ) (n : ℕ) → length starts ≡ n → (r : ℕ) → r < n → get_or (starts ++ rest) r 0 ≡ get_or starts r 0
starts_first starts rest n e r l = get_or-append starts rest 0 r (omega arith)

pub returns : goal.returns
returns c =
    let count = length-take-le (length c.args.ids.now / 32) c.args.numbers.now (omega (arith, c.requires.few, c.told-numbers)) in
    all-proved c.args.s.now c.args.ids.now c.args.path (length c.args.ids.now / 32) c.prove_all.new.starts _ _ _ _ c.requires.few c.note_rows.ensures (starts_first c.prove_all.new.starts _ (length c.args.ids.now / 32) (c.prove_all.auto.starts ∙ count))
    (ids-proved c.args.s.now c.args.ids.now c.args.path _ _ (replicate 256 0) c.copy_ids.new.roots c.requires.levelled c.requires.few count (omega (arith, length-replicate {A = ℕ} 256 0)) (omega (arith, c.copy_ids.array_long)) c.copy_ids.ensures c.prove_all.ensures.0 c.prove_all.ensures.1 c.prove_all.ensures.2)
