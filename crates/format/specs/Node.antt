-- A node of a TSC proof (01, "Layouts").
use Rattle.std.specs.Prelude.{leb}
use Rattle.format.specs.declared.leaf.Kind.{Kind}
use Rattle.format.specs.Parse.{Reader, ◌>>=◌, ◌passing◌else◌}
use Rattle.format.specs.Field.{byte}
use Rattle.format.specs.Level.{kind_field}
use Rattle.format.specs.Refusals.{BAD_FLAG}

-- a type byte, 0 followed by 32 bytes or 1 for a copy
unfoldable pub node_field : Reader Kind
node_field = do
  type ← byte passing (λ t. leb t 1) else BAD_FLAG
  kind_field type
