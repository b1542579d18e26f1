-- What the other crates' answers say, as results.
use Rattle.std.specs.Prelude.{Option, Some, None, List, ℕ}
use Rattle.format.specs.Refusals.{TOO_LONG}
use Rattle.spv.specs.Result.{Result, accepted, refused, carrying}

-- The digest, or that the message is over the input size.
abbrev pub of_hashed : Option (List ℕ) → Result (List ℕ)
of_hashed (Some digest) = accepted digest
of_hashed None = refused (carrying TOO_LONG 0)
