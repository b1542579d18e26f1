use Rattle.bundle.proofs.AheadLaws.{ids_made_lem}
use Rattle.bundle.proofs.ids.ids_of.Goals as goal

pub returns : goal.returns
returns c =
    ids_made_lem _ _ _
    (rw (← c.plain.ensures, ← c.plain-2.ensures, ← c.plain-3.ensures, ← c.plain-4.ensures) c.span_hashes.ensures)
