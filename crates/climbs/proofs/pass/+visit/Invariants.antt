use Rattle.climbs.proofs.pass.+visit.Given as goal

-- The children of a node are one layer below it.
abbrev pub decreases-visit : goal.decreases-visit
decreases-visit l = l.layer
