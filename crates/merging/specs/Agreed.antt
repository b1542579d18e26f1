-- Paths whose clients agree, which alone are merged: what the contracts inside of merging rest on.
use Rattle.std.specs.Prelude.{◌≡◌, List, ℕ, Ok}
use Rattle.format.specs.declared.bump.BumpHead.{BumpHead}
use Rattle.format.specs.Parse.{ok}
use Rattle.format.specs.Bump.{Bump, bump_whole, head_of}
use Rattle.encoding.specs.Encode.{AllBytes}
use Rattle.spv.specs.Result.{accepted}
use Rattle.spv.specs.Clients.{bump_clients}
use Rattle.merging.specs.Merging.{merging, merged_of}

-- clients that agree on a root, and what the path's reading gives
pub record Agreed (s : List ℕ) (head : BumpHead) (root : List ℕ) : Type 0 where
  pub bump : Bump
  pub next : ℕ
  pub read : bump_whole s ≡ ok bump next
  pub is : head_of bump ≡ head
  pub agrees : bump_clients s ≡ accepted root
  pub bytes : AllBytes s

-- two such paths that are merged to n bytes
pub record Taken (s : List ℕ) (x : BumpHead) (t : List ℕ) (y : BumpHead) (n bytes rows : ℕ) : Type 0 where
  pub root : List ℕ
  pub other : List ℕ
  pub leaves : ℕ
  pub first : Agreed s x root
  pub second : Agreed t y other
  pub says : Ok (record { bytes = n; leaves = leaves }) ≡ merged_of (merging s t bytes rows)
