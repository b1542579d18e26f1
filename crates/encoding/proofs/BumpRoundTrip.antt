-- Writing a BUMP and reading it, either way round: the two are inverse, and no other bytes are read as that content.
use mathlib.Core.Path.{◌≡◌, sym, ap, ◌∙◌}
use mathlib.Core.List.{List, [], ◌∷◌}
use Prim.Native.Nat.{ℕ, ◌+◌, ◌*◌, ◌^◌, ◌-◌, ◌≤◌}
use lib.ListN.{length, length-append}
use native.Mathlib.Omega.{arith}
use Rattle.format.specs.Parse.{ok}
use Rattle.format.proofs.ParseLaws.{whole-told}
use Rattle.format.proofs.Whole.{whole-ok, whole_ends}
use Rattle.format.specs.Bump.{Bump, bump_field, bump_whole}
use Rattle.format.specs.Refusals.{MAX_INPUT}
use Rattle.encoding.proofs.Stands.{stands_self, stands-all}
use Rattle.encoding.specs.Encode.{AllBytes, encode_all, Fits}
use Rattle.encoding.specs.Digits.{varint_bytes}
use Rattle.encoding.proofs.VarintEncoding.{varint-length}
use Rattle.encoding.specs.BumpBytes.{Carried, plain, copy, client, Entry, Content, carried_bytes, entry_bytes, level_bytes, bump_bytes, content_of, CarriedFit, EntryFit, and_entry, LevelFit, next_level, ContentFit}
use Rattle.encoding.proofs.BumpEncoding.{bump_encoding}

-- ---- every content that fits is within the input size

carried-length : (level offset : ℕ) (c : Carried) → CarriedFit level offset c → length (carried_bytes c) ≤ 33
unfolding carried_bytes CarriedFit
carried-length level offset (plain h) f = omega (arith, f.0)
carried-length level offset copy f = omega arith
carried-length level offset (client h) f = omega (arith, f.1.0)

entries-length : (limit level : ℕ) (seen : List ℕ) (l : List Entry) → Fits (EntryFit limit level) and_entry seen l → length (encode_all entry_bytes l) ≤ 42 * length l
unfolding Fits encode_all entry_bytes
entries-length limit level seen [] f = omega arith
entries-length limit level seen (e ∷ l) f =
    let a = carried-length level e.offset e.carried f.0.2 in
    let b = varint-length e.offset in
    let c = entries-length limit level (and_entry seen e) l f.1 in
    let d = length-append (varint_bytes e.offset) (carried_bytes e.carried) in
    let g = length-append (entry_bytes e) (encode_all entry_bytes l) in
    omega arith

levels-length : (height i : ℕ) (ls : List (List Entry)) → Fits (LevelFit height) next_level i ls → length (encode_all level_bytes ls) ≤ 43017 * length ls
unfolding Fits encode_all level_bytes
levels-length height i [] f = omega arith
levels-length height i (l ∷ ls) f =
    let a = entries-length (2 ^ (height - i)) i [] l f.0.1 in
    let b = varint-length (length l) in
    let c = levels-length height (i + 1) ls f.1 in
    let d = length-append (varint_bytes (length l)) (encode_all entry_bytes l) in
    let g = length-append (level_bytes l) (encode_all level_bytes ls) in
    let few = f.0.0 in
    omega arith

pub bump-length : (c : Content) → ContentFit c → length (bump_bytes c) ≤ MAX_INPUT
unfolding bump_bytes
bump-length c f =
    let a = levels-length c.height 0 c.levels f.levels_fit in
    let b = varint-length c.block in
    let d = length-append (varint_bytes c.block) (c.height ∷ encode_all level_bytes c.levels) in
    let e = f.all in
    let low = f.low in
    omega arith

-- ---- the two theorems

-- what is written is read back: the whole of it, to the content that was written
pub bump-read_back : (c : Content) → ContentFit c → (b : Bump) × (bump_whole (bump_bytes c) ≡ ok b (length (bump_bytes c))) × (content_of (bump_bytes c) b ≡ c)
bump-read_back c f =
    let s : List ℕ = bump_bytes c in
    let r = bump_encoding.reads s 0 (length s) c f (stands_self s) in
    (r.0, whole-ok bump_field s (bump-length c f) r.1 (omega arith) ∙ r.1, r.2)

-- bytes that are read as a BUMP are the writing of their content, which fits
pub bump-written : (s : List ℕ) {b : Bump} {q : ℕ} → AllBytes s → bump_whole s ≡ ok b q → (s ≡ bump_bytes (content_of s b)) × ContentFit (content_of s b)
bump-written s {b} {q} h e =
    let t = bump_encoding.told s 0 q b h (whole-told bump_field s e) in
    (stands-all t.0 (whole_ends bump_field s e), t.1)

-- so two inputs that say the same are the same
pub bump-one-writing : (s t : List ℕ) {b c : Bump} {p q : ℕ} → AllBytes s → AllBytes t → bump_whole s ≡ ok b p → bump_whole t ≡ ok c q → content_of s b ≡ content_of t c → s ≡ t
bump-one-writing s t h g e f x = (bump-written s h e).0 ∙ ap bump_bytes x ∙ sym (bump-written t g f).0
