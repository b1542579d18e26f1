-- Leaves and levels without their tests, as code walks over what was read before. `UncheckedLaws` says that this finds the same.
use Rattle.std.specs.Prelude.{List}
use Rattle.format.specs.declared.level.Layout.{Layout}
use Rattle.format.specs.declared.leaf.Leaf.{Leaf}
use Rattle.format.specs.declared.leaf.Kind.{Kind}
use Rattle.format.specs.declared.leaf.Kind.TheVariants.{Plain}
use Rattle.format.specs.Parse.{Reader, pure, ◌>>=◌, given, times}
use Rattle.format.specs.Field.{bytes, byte, varint}
use Rattle.format.specs.Level.{kind_field}

-- a leaf and a level without their tests
unfoldable pub unchecked_carried : Layout → Reader Kind
unchecked_carried Layout.Bump = do
  flag ← byte
  kind_field flag
unchecked_carried Layout.Cmp = given Plain (bytes 32)

unfoldable pub unchecked_leaf : Layout → Reader Leaf
unchecked_leaf layout = do
  offset ← varint
  kind ← unchecked_carried layout
  pure (record { offset = offset; kind = kind })

unfoldable pub unchecked_level : Layout → Reader (List Leaf)
unchecked_level layout = do
  count ← varint
  times (unchecked_leaf layout) count
