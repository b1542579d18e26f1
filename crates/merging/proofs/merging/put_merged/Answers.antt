use Rattle.merging.proofs.MergeLaws.{taken-low, part-fits, bytes_stored, list_stored}
use lib.Seq.{length-take-le}
use mathlib.Core.Path.{refl, sym}
use Rattle.merging.proofs.merging.put_merged.Goals as goal

pub put_path-requires : goal.put_path-requires
put_path-requires c = taken-low _ _ _ _ _ _ _ c.requires

pub slice_bounds-build-end : goal.slice_bounds-build-end
slice_bounds-build-end c = part-fits _ _ _ _ _ _ _ c.requires _ _ _ refl c.put_path.ensures

pub slice_bounds-build-end-2 : goal.slice_bounds-build-end-2
slice_bounds-build-end-2 c = sym (length-take-le _ _ (part-fits _ _ _ _ _ _ _ c.requires _ _ _ refl c.put_path.ensures))

pub returns : goal.returns
returns c = record {
  bytes_after = bytes_stored _ _ _ _ _ _ _ c.requires _ _ _ refl c.put_path.ensures;
  list_after = list_stored _ _ _ _ _ _ _ c.requires _ _ _ refl c.put_path.ensures _ _ refl c.build.ensures.out_after;
}
