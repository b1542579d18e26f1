-- What a reading keeps of the BUMPs of a bundle.
use Rattle.std.specs.Prelude.{List, length}
use Rattle.format.specs.declared.bumps.Bumps.{Bumps}
use Rattle.format.specs.Bump.{Bump}
use Rattle.format.specs.BeefAnswer.{heads_of}

abbrev pub bumps_of : List Bump → Bumps
bumps_of l = record { count = length l; heads = heads_of l }
