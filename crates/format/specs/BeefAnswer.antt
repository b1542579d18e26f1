-- What the answers of the BEEF readers say.
use Rattle.std.specs.Prelude.{List, [], ◌∷◌, map, ℕ, length, replicate, leb}
use Rattle.format.specs.declared.bump.BumpHead.{BumpHead}
use Rattle.format.specs.declared.transaction.Items.{Items}
use Rattle.format.specs.declared.beef.EntryHead.{EntryHead}
use Rattle.format.specs.declared.beef.BeefHead.{BeefHead}
use Rattle.format.specs.declared.beef.Bundle.{Bundle}
use Rattle.format.specs.Parse.{Parse, Reader, pick, each, ended, fault}
use Rattle.format.specs.Padded.{padded}
use Rattle.format.specs.Bump.{Bump, head_of}
use Rattle.format.specs.Transaction.{tx_head_of}
use Rattle.format.specs.Beef.{BeefEntry, Beef, version_field, entries_field}
use Rattle.format.specs.Refusals.{TOO_LONG, MAX_INPUT, MAX_BUMPS}

-- what an answer holds of an entry
abbrev pub entry_head_of : BeefEntry → EntryHead
entry_head_of e = record { transaction = tx_head_of e.transaction; anchor = e.anchor }

-- where the first of the transactions starts
unfoldable pub first_at : List BeefEntry → ℕ
first_at [] = 0
first_at (e ∷ l) = e.transaction.start

abbrev pub entries_of : List BeefEntry → Items
entries_of l = record { count = length l; at = record { at = first_at l } }

-- how many BUMPs and transactions a bundle has, and where its first transaction starts
abbrev pub beef_head_of : Beef → BeefHead
beef_head_of b = record { bumps = length b.bumps; transactions = length b.entries; entries = record { at = first_at b.entries } }

-- a place that holds no BUMP
abbrev pub no_bump : BumpHead
no_bump = record { block = 0; height = 0; leaves = 0; levels = record { at = 0 } }

abbrev pub no_bumps : List BumpHead
no_bumps = replicate MAX_BUMPS no_bump

-- the heads of BUMPs, and places that hold none after them
abbrev pub heads_of : List Bump → List BumpHead
heads_of l = padded MAX_BUMPS no_bump (map head_of l)

-- a bundle with the heads of its BUMPs
abbrev pub bundle_of : Beef → Bundle
bundle_of b = record { head = beef_head_of b; bumps = heads_of b.bumps }

-- ---- the reading of a bundle, before its BUMPs and after n of them

unfoldable pub opened : List ℕ → Parse ℕ
opened s = pick (leb (length s) MAX_INPUT) (version_field s 0) (fault TOO_LONG 0)

unfoldable pub closing : ℕ → ℕ → Reader BeefHead
closing room n s at =
    each (λ l. record { bumps = n; transactions = length l; entries = record { at = first_at l } }) (ended (entries_field n room) s at)
