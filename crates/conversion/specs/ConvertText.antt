-- The levels of a BUMP with one client leaf, over the bytes of a TSC proof: as far as its nodes can be read.
use Rattle.std.specs.Prelude.{◌≡◌, List, [], ◌∷◌, ℕ, zero, suc, ◌/◌}
use Rattle.format.specs.Parse.{ok, otherwise}
use Rattle.format.specs.Node.{node_field}
use Rattle.encoding.specs.BumpBytes.{Entry}
use Rattle.format.specs.declared.tsc.TscHead.{TscHead}
use Rattle.format.specs.Tsc.{Tsc, tsc_whole, tsc_head_of}
use Rattle.spv.specs.Result.{accepted}
use Rattle.spv.specs.Prove.{Proof, prove}
use Rattle.spv.specs.Readings.{tsc_reading}
use Rattle.spv.specs.Siblings.{written}
use Rattle.conversion.specs.Convert.{sibling_entry, client_level}

-- of n nodes from a place, from position j on
unfoldable pub levels_at : List ℕ → ℕ → ℕ → ℕ → List (List Entry)
levels_at s zero at j = []
levels_at s (suc n) at j = otherwise (node_field s at) [] (λ kind next. (sibling_entry j (written s kind) ∷ []) ∷ levels_at s n next (j / 2))

-- with the client's leaf at level 0
unfoldable pub client_levels_at : List ℕ → ℕ → ℕ → ℕ → List ℕ → List (List Entry)
client_levels_at s zero at i id = []
client_levels_at s (suc n) at i id = otherwise (node_field s at) [] (λ kind next. client_level i id (written s kind) ∷ levels_at s n next (i / 2))

-- a TSC proof of that head and id which was read and proved
pub record Proved (s : List ℕ) (head : TscHead) (id : List ℕ) : Type 0 where
  pub tsc : Tsc
  pub end : ℕ
  pub proof : Proof
  pub is_read : tsc_whole s ≡ ok tsc end
  pub is_head : tsc_head_of tsc ≡ head
  pub is_proved : prove (tsc_reading s) ≡ accepted proof
  pub is_id : proof.id ≡ id
