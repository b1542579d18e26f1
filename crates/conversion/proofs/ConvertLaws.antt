-- Laws of the conversions, for the code: what is written and counted, and each call case by case.
use mathlib.Core.Path.{◌≡◌, refl, sym, ap, ap₂, ◌∙◌}
use mathlib.Core.Bool.{Bool, true, false}
use mathlib.Core.List.{List, [], ◌∷◌, ◌++◌, map}
use Prim.Native.Nat.{ℕ, zero, suc, ◌+◌, ◌-◌, ◌*◌, ◌/◌, ◌%◌, ◌≤◌, ◌<◌}
use lib.ListN.{length, take, length-append}
use lib.Seq.{length-take-le}
use lib.Bits.{bit_and}
use lib.Dec.{eqb}
use native.Mathlib.Omega.{arith}
use native.Mathlib.Nat.{sub-zero}
use borrow.Author.Tests.{eq-eqb, ne_eqb}
use Rattle.format.proofs.Basics.{one_less}
use Rattle.format.specs.declared.leaf.Kind.{Kind}
use Rattle.format.specs.declared.leaf.Kind.TheVariants.{Plain, Copy, Client}
use Rattle.format.specs.Parse.{pick, times, many, ok, fault}
use Rattle.format.proofs.ParseLaws.{many-told}
use Rattle.format.specs.Node.{node_field}
use Rattle.format.specs.Bytes.{hash_at}
use Rattle.format.proofs.BytesLaws.{hash-at-length}
use Rattle.encoding.specs.Digits.{varint_bytes}
use Rattle.encoding.proofs.VarintEncoding.{varint-length}
use Rattle.encoding.specs.Encode.{encode_all}
use Rattle.encoding.specs.Buffer.{Buffer, put_on, write_on}
use Rattle.encoding.proofs.BufferLaws.{write_then, write-none, write-one, write_cons, wrote_then}
use Rattle.encoding.specs.BumpBytes.{Entry, carried_bytes, entry_bytes, level_bytes, bump_bytes}
use Rattle.encoding.specs.TscBytes.{ID_AND_ROOT, tsc_bytes}
use Rattle.format.specs.declared.tsc.TscHead.{TscHead}
use Rattle.format.specs.Tsc.{Tsc, tsc_field, tsc_whole, tsc_head_of}
use Rattle.format.proofs.TscLaws.{TscRead, tsc-whole-told}
use Rattle.format.proofs.Whole.{whole-size}
use Rattle.format.specs.Id.{subject_id}
use Rattle.format.specs.Refusals.{BAD_HEIGHT, NO_ROOM, MAX_INPUT, MAX_HEIGHT}
use Rattle.spv.specs.declared.rejection.Rejection.{Rejection}
use Rattle.spv.specs.Result.{accepted, refused, carrying}
use Rattle.spv.specs.Readings.{tsc_target, tsc_reading, bump_reading}
use Rattle.spv.proofs.ReadingsLaws.{tsc-read}
use Rattle.spv.specs.Climb.{Sibling, sibling_position}
use Rattle.spv.specs.Siblings.{written, level_siblings, node_siblings}
use Rattle.std.specs.Prelude.{Ok}
use Rattle.spv.specs.declared.trace.Traced.{Traced}
use Rattle.spv.specs.Trace.{as_carried, nodes_text, TRACE_ROOM, traced_of}
use Rattle.spv.proofs.TraceLaws.{traced_accepted}
use Rattle.block.proofs.LeavesLaws.{wrote_hashed}
use Rattle.block.specs.Output.{room_for}
use Rattle.block.proofs.OutputLaws.{room_short, room-enough}
use Rattle.conversion.proofs.Taken.{proof-layers, proof-position, proof-id}
use Rattle.conversion.proofs.TakenLaws.{bump_climb, trace_fits, trace_count, tsc-siblings}
use Rattle.conversion.specs.Convert.{client_entry, sibling_entry, client_level, sibling_levels, client_levels, client_bump, node_count_at, tsc_to_bump, id_tsc, bump_to_tsc}
use Rattle.conversion.specs.ConvertText.{levels_at, client_levels_at, Proved}
use Rattle.spv.specs.Prove.{Proof, prove, any, read}

pub varint-low : (n w : ℕ) → w ≡ length (varint_bytes n) → w ≤ 9
varint-low n w e = let l = varint-length n in omega arith

-- ---- a node as a leaf

module _ (s : List ℕ) {kind : Kind} {place : ℕ} where
  pub wrote_plain : kind ≡ Plain place → (p : Buffer) {q : Buffer} → q ≡ write_on p (0 ∷ hash_at s place) → q ≡ write_on p (carried_bytes (as_carried (written s kind)))
  unfolding carried_bytes as_carried written
  wrote_plain e p f = rw e f

  pub wrote_client : kind ≡ Client place → (p : Buffer) {q : Buffer} → q ≡ write_on p (0 ∷ hash_at s place) → q ≡ write_on p (carried_bytes (as_carried (written s kind)))
  unfolding carried_bytes as_carried written
  wrote_client e p f = rw e f

  pub size-plain : kind ≡ Plain place → 33 ≡ length (carried_bytes (as_carried (written s kind)))
  unfolding carried_bytes as_carried written
  size-plain e = rw e (omega (arith, hash-at-length s place))

  pub size-client : kind ≡ Client place → 33 ≡ length (carried_bytes (as_carried (written s kind)))
  unfolding carried_bytes as_carried written
  size-client e = rw e (omega (arith, hash-at-length s place))

module _ (s : List ℕ) {kind : Kind} where
  pub wrote_copy : kind ≡ Copy → (p : Buffer) {q : Buffer} → q ≡ put_on p 1 → q ≡ write_on p (carried_bytes (as_carried (written s kind)))
  unfolding carried_bytes as_carried written
  wrote_copy e p f = rw e (f ∙ sym (write-one p 1))

  pub size-copy : kind ≡ Copy → 1 ≡ length (carried_bytes (as_carried (written s kind)))
  unfolding carried_bytes as_carried written
  size-copy e = rw e

pub node-at_most : (s : List ℕ) (kind : Kind) → length (carried_bytes (as_carried (written s kind))) ≤ 33
unfolding carried_bytes as_carried written
node-at_most s (Plain p) = omega (arith, hash-at-length s p)
node-at_most s Copy = omega arith
node-at_most s (Client p) = omega (arith, hash-at-length s p)

-- ---- leaves and levels

module _ (p : Buffer) (j : ℕ) (x : Sibling) where
  pub wrote_sibling : {o : ℕ} {q r : Buffer} → o ≡ sibling_position j → q ≡ write_on p (varint_bytes o) → r ≡ write_on q (carried_bytes (as_carried x)) → r ≡ write_on p (entry_bytes (sibling_entry j x))
  unfolding entry_bytes sibling_entry
  wrote_sibling {o} e f g = wrote_then p (varint_bytes o) (carried_bytes (as_carried x)) f g ∙ ap (λ (n : ℕ). write_on p (varint_bytes n ++ carried_bytes (as_carried x))) e

  pub wrote_level : {q r : Buffer} → q ≡ put_on p 1 → r ≡ write_on q (entry_bytes (sibling_entry j x)) → r ≡ write_on p (level_bytes (sibling_entry j x ∷ []))
  unfolding level_bytes encode_all varint_bytes
  wrote_level {q} f g =
      write_cons p 1 (entry_bytes (sibling_entry j x) ++ []) f (wrote_then q (entry_bytes (sibling_entry j x)) [] g (sym (write-none _)))

pub wrote_client-leaf : (p : Buffer) (i : ℕ) (id : List ℕ) {q r t : Buffer} → q ≡ write_on p (varint_bytes i) → r ≡ put_on q 2 → t ≡ write_on r id → t ≡ write_on p (entry_bytes (client_entry i id))
unfolding entry_bytes client_entry carried_bytes
wrote_client-leaf p i id e f g = wrote_hashed p i 2 refl e f g

wrote_two : (p : Buffer) (a b : Entry) {q r t : Buffer} → q ≡ put_on p 2 → r ≡ write_on q (entry_bytes a) → t ≡ write_on r (entry_bytes b) → t ≡ write_on p (level_bytes (a ∷ b ∷ []))
unfolding level_bytes encode_all varint_bytes
wrote_two p a b {q} {r} f g h =
    write_cons p 2 (entry_bytes a ++ (entry_bytes b ++ [])) f (wrote_then q (entry_bytes a) (entry_bytes b ++ []) g (wrote_then r (entry_bytes b) [] h (sym (write-none _))))

module _ (p : Buffer) (i : ℕ) (id : List ℕ) (x : Sibling) {q r t : Buffer} (f : q ≡ put_on p 2) where
  pub wrote_odd : i % 2 ≡ 1 → r ≡ write_on q (entry_bytes (sibling_entry i x)) → t ≡ write_on r (entry_bytes (client_entry i id)) → t ≡ write_on p (level_bytes (client_level i id x))
  unfolding client_level
  wrote_odd o g h = rw (eq-eqb (i % 2) 1 o) (wrote_two p (sibling_entry i x) (client_entry i id) f g h)

  pub wrote_even : (i % 2 ≡ 1 → ⊥) → r ≡ write_on q (entry_bytes (client_entry i id)) → t ≡ write_on r (entry_bytes (sibling_entry i x)) → t ≡ write_on p (level_bytes (client_level i id x))
  unfolding client_level
  wrote_even o g h = rw (ne_eqb (i % 2) 1 o) (wrote_two p (client_entry i id) (sibling_entry i x) f g h)

-- ---- their bytes

sibling-size : (j : ℕ) (x : Sibling) → length (entry_bytes (sibling_entry j x)) ≡ length (varint_bytes (sibling_position j)) + length (carried_bytes (as_carried x))
unfolding entry_bytes sibling_entry
sibling-size j x = length-append (varint_bytes (sibling_position j)) (carried_bytes (as_carried x))

client-size : (i : ℕ) (id : List ℕ) → length id ≡ 32 → length (entry_bytes (client_entry i id)) ≡ length (varint_bytes i) + 33
unfolding entry_bytes client_entry carried_bytes
client-size i id e = length-append (varint_bytes i) (2 ∷ id) ∙ omega arith

level-size : (j : ℕ) (x : Sibling) → length (level_bytes (sibling_entry j x ∷ [])) ≡ 1 + (length (varint_bytes (sibling_position j)) + length (carried_bytes (as_carried x)))
unfolding level_bytes encode_all varint_bytes
level-size j x = let a = length-append (entry_bytes (sibling_entry j x)) [] in let b = sibling-size j x in omega arith

two_size : (a b : Entry) → length (level_bytes (a ∷ b ∷ [])) ≡ 1 + (length (entry_bytes a) + length (entry_bytes b))
unfolding level_bytes encode_all varint_bytes
two_size a b = let x = length-append (entry_bytes a) (entry_bytes b ++ []) in let y = length-append (entry_bytes b) [] in omega arith

pub client-level-size : (i : ℕ) (id : List ℕ) (x : Sibling) → length id ≡ 32
    → length (level_bytes (client_level i id x)) ≡ 1 + ((length (varint_bytes i) + 33) + (length (varint_bytes (sibling_position i)) + length (carried_bytes (as_carried x))))
unfolding client_level
client-level-size i id x e = go (eqb (i % 2) 1)
  where
    go : (b : Bool) → length (level_bytes (pick b (sibling_entry i x ∷ client_entry i id ∷ []) (client_entry i id ∷ sibling_entry i x ∷ [])))
        ≡ 1 + ((length (varint_bytes i) + 33) + (length (varint_bytes (sibling_position i)) + length (carried_bytes (as_carried x))))
    go true = let a = two_size (sibling_entry i x) (client_entry i id) in let c = client-size i id e in let d = sibling-size i x in omega arith
    go false = let a = two_size (client_entry i id) (sibling_entry i x) in let c = client-size i id e in let d = sibling-size i x in omega arith

-- ---- the levels of nodes, one turn of a loop after the other: k are done of n

module _ (s : List ℕ) (n k at j : ℕ) where
  levels-none : n ≤ k → levels_at s (n - k) at j ≡ []
  unfolding levels_at
  levels-none h = let e : n - k ≡ 0 = omega arith in rw e

  module _ (b : k < n) where
    levels_short : {number place : ℕ} → node_field s at ≡ fault number place → levels_at s (n - k) at j ≡ []
    unfolding levels_at
    levels_short e = rw (one_less n k b, levels_at, e)

    levels-more : {kind : Kind} {next : ℕ} → node_field s at ≡ ok kind next → levels_at s (n - k) at j ≡ (sibling_entry j (written s kind) ∷ []) ∷ levels_at s (n - (k + 1)) next (j / 2)
    unfolding levels_at
    levels-more e = rw (one_less n k b, levels_at, e)

abbrev pub levels_text : List ℕ → ℕ → ℕ → ℕ → List ℕ
levels_text s n at j = encode_all level_bytes (levels_at s n at j)

module _ (s : List ℕ) (n start i : ℕ) (p₀ : Buffer) where
  -- what is left to write from here comes to what was asked for at the start
  abbrev pub Writing : ℕ → ℕ → ℕ → Buffer → Type 0
  Writing k at j p = write_on p (levels_text s (n - k) at j) ≡ write_on p₀ (levels_text s n start i)

  pub writing_start : Writing 0 start i p₀
  writing_start = rw sub-zero

  module _ (k at j : ℕ) (p : Buffer) (v : Writing k at j p) where
    pub writing-end : n ≤ k → p ≡ write_on p₀ (levels_text s n start i)
    unfolding encode_all
    writing-end h = sym (ap (λ (l : List (List Entry)). write_on p (encode_all level_bytes l)) (levels-none s n k at j h) ∙ write-none p) ∙ v

    module _ (b : k < n) where
      pub writing_short : {number place : ℕ} → node_field s at ≡ fault number place → p ≡ write_on p₀ (levels_text s n start i)
      unfolding encode_all
      writing_short e = sym (ap (λ (l : List (List Entry)). write_on p (encode_all level_bytes l)) (levels_short s n k at j b e) ∙ write-none p) ∙ v

      pub writing_on : {kind : Kind} {next : ℕ} → node_field s at ≡ ok kind next → (q : Buffer) → q ≡ write_on p (level_bytes (sibling_entry j (written s kind) ∷ [])) → Writing (k + 1) next (j / 2) q
      unfolding encode_all
      writing_on {kind} {next} e q f =
          ap (λ (x : Buffer). write_on x (levels_text s (n - (k + 1)) next (j / 2))) f
          ∙ sym (write_then p (level_bytes (sibling_entry j (written s kind) ∷ [])) (levels_text s (n - (k + 1)) next (j / 2)))
          ∙ sym (ap (λ (l : List (List Entry)). write_on p (encode_all level_bytes l)) (levels-more s n k at j b e))
          ∙ v

module _ (s : List ℕ) (n start i : ℕ) where
  -- what is left to count from here
  pub record Counting (k at j size : ℕ) : Type 0 where
    pub done : k ≤ n
    pub low : size ≤ 43 * k
    pub kept : size + length (levels_text s (n - k) at j) ≡ length (levels_text s n start i)

  pub counting-start : Counting 0 start i 0
  counting-start = record { done = omega arith; low = omega arith; kept = let e : n - 0 ≡ n = sub-zero n in rw e (omega arith) }

  module _ (k at j size : ℕ) (v : Counting k at j size) where
    counted : {l : List (List Entry)} → levels_at s (n - k) at j ≡ l → size + length (encode_all level_bytes l) ≡ length (levels_text s n start i)
    counted e = ap (λ (x : List (List Entry)). size + length (encode_all level_bytes x)) (sym e) ∙ v.kept

    pub counting-end : n ≤ k → size ≡ length (levels_text s n start i)
    unfolding encode_all
    counting-end h = let c = counted (levels-none s n k at j h) in omega arith

    module _ (b : k < n) where
      pub counting_short : {number place : ℕ} → node_field s at ≡ fault number place → size ≡ length (levels_text s n start i)
      unfolding encode_all
      counting_short e = let c = counted (levels_short s n k at j b e) in omega arith

      pub counting_on : {kind : Kind} {next o w m : ℕ} → node_field s at ≡ ok kind next → o ≡ sibling_position j → w ≡ length (varint_bytes o) → m ≡ length (carried_bytes (as_carried (written s kind)))
          → Counting (k + 1) next (j / 2) (size + (1 + w + m))
      unfolding encode_all
      counting_on {kind} {next} {o} {w} {m} e f g h =
          let c = counted (levels-more s n k at j b e) in
          let d = length-append (level_bytes (sibling_entry j (written s kind) ∷ [])) (levels_text s (n - (k + 1)) next (j / 2)) in
          let l = level-size j (written s kind) in
          let y = varint-length o in
          let z = node-at_most s kind in
          let u : w ≡ length (varint_bytes (sibling_position j)) = g ∙ ap (λ (x : ℕ). length (varint_bytes x)) f in
          let low = v.low in
          record { done = omega arith; low = omega arith; kept = omega arith }

-- ---- with the client's leaf

client_short : (s : List ℕ) (n at i : ℕ) (id : List ℕ) {number place : ℕ} → node_field s at ≡ fault number place → client_levels_at s n at i id ≡ []
unfolding client_levels_at
client_short s zero at i id e = refl
client_short s (suc n) at i id e = rw e

client-more : (s : List ℕ) (n at i : ℕ) (id : List ℕ) (kind : Kind) (next : ℕ) → 0 < n → node_field s at ≡ ok kind next
    → client_levels_at s n at i id ≡ client_level i id (written s kind) ∷ levels_at s (n - 1) next (i / 2)
unfolding client_levels_at
client-more s zero at i id kind next b e = absurd (omega arith)
client-more s (suc n) at i id kind next b e = let f : suc n - 1 ≡ n = omega arith in rw (e, f)

abbrev pub client_text : List ℕ → ℕ → ℕ → ℕ → List ℕ → List ℕ
client_text s n at i id = encode_all level_bytes (client_levels_at s n at i id)

module _ (s : List ℕ) (n at i : ℕ) (id : List ℕ) where
  pub client_short_wrote : {number place : ℕ} → node_field s at ≡ fault number place → (p : Buffer) → p ≡ write_on p (client_text s n at i id)
  unfolding encode_all
  client_short_wrote e p = sym (ap (λ (l : List (List Entry)). write_on p (encode_all level_bytes l)) (client_short s n at i id e) ∙ write-none p)

  pub client_wrote : {kind : Kind} {next : ℕ} → 0 < n → node_field s at ≡ ok kind next → (p : Buffer) {q r : Buffer}
      → q ≡ write_on p (level_bytes (client_level i id (written s kind))) → r ≡ write_on q (levels_text s (n - 1) next (i / 2)) → r ≡ write_on p (client_text s n at i id)
  unfolding encode_all
  client_wrote {kind} {next} b e p f g =
      wrote_then p (level_bytes (client_level i id (written s kind))) (levels_text s (n - 1) next (i / 2)) f g
      ∙ sym (ap (λ (l : List (List Entry)). write_on p (encode_all level_bytes l)) (client-more s n at i id kind next b e))

  pub client_short_counted : {number place : ℕ} → node_field s at ≡ fault number place → 0 ≡ length (client_text s n at i id)
  unfolding encode_all
  client_short_counted e = sym (ap (λ (l : List (List Entry)). length (encode_all level_bytes l)) (client_short s n at i id e))

  pub client-counted : {kind : Kind} {next o v w m z : ℕ} → 0 < n → node_field s at ≡ ok kind next → length id ≡ 32
      → v ≡ length (varint_bytes i) → o ≡ sibling_position i → w ≡ length (varint_bytes o) → m ≡ length (carried_bytes (as_carried (written s kind))) → z ≡ length (levels_text s (n - 1) next (i / 2))
      → 1 + (v + 33) + (w + m) + z ≡ length (client_text s n at i id)
  unfolding encode_all
  client-counted {kind} {next} b e l ev eo ew em ez =
      let c = ap (λ (x : List (List Entry)). length (encode_all level_bytes x)) (client-more s n at i id kind next b e) in
      let d = length-append (level_bytes (client_level i id (written s kind))) (levels_text s (n - 1) next (i / 2)) in
      let f = client-level-size i id (written s kind) l in
      let u = ew ∙ ap (λ (x : ℕ). length (varint_bytes x)) eo in
      omega arith

-- ---- nodes that were read

-- the siblings beside j, j / 2, ..., of nodes that were read
levels-read : (s : List ℕ) (n at j : ℕ) (nodes : List Kind) (q : ℕ) → times node_field n s at ≡ ok nodes q → levels_at s n at j ≡ sibling_levels j (map (written s) nodes)
unfolding levels_at many sibling_levels
levels-read s zero at j nodes q e = let f : [] ≡ nodes = cc in rw (← f)
levels-read s (suc n) at j nodes q e =
    let x = many-told {S = Unit {0}} (λ _. node_field) (λ u _. u) n tt s at e in
    rw (← x.5) (more x.0 x.1 x.2 x.3 (levels-read s n x.1 (j / 2) x.2 q x.4))
  where
    more : (a : Kind) (r : ℕ) (rest : List Kind) → node_field s at ≡ ok a r → levels_at s n r (j / 2) ≡ sibling_levels (j / 2) (map (written s) rest)
        → levels_at s (suc n) at j ≡ sibling_levels j (map (written s) (a ∷ rest))
    more a r rest f ih = rw (f, ih)

client-levels-read : (s : List ℕ) (n at i : ℕ) (id : List ℕ) (nodes : List Kind) (q : ℕ) → times node_field n s at ≡ ok nodes q → client_levels_at s n at i id ≡ client_levels i id (map (written s) nodes)
unfolding client_levels_at many client_levels
client-levels-read s zero at i id nodes q e = let f : [] ≡ nodes = cc in rw (← f)
client-levels-read s (suc n) at i id nodes q e =
    let x = many-told {S = Unit {0}} (λ _. node_field) (λ u _. u) n tt s at e in
    rw (← x.5) (more x.0 x.1 x.2 x.3 (levels-read s n x.1 (i / 2) x.2 q x.4))
  where
    more : (a : Kind) (r : ℕ) (rest : List Kind) → node_field s at ≡ ok a r → levels_at s n r (i / 2) ≡ sibling_levels (i / 2) (map (written s) rest)
        → client_levels_at s (suc n) at i id ≡ client_levels i id (map (written s) (a ∷ rest))
    more a r rest f ih = rw (f, ih)

-- ---- from a TSC proof, case by case

module _ (s : List ℕ) (block room : ℕ) where
  pub from_unread : {number place : ℕ} → tsc_whole s ≡ fault number place → tsc_to_bump s block room ≡ refused (carrying number place)
  unfolding tsc_to_bump
  from_unread e = rw e

  module _ (t : Tsc) (q : ℕ) (e : tsc_whole s ≡ ok t q) where
    pub from_refused : {why : Rejection} → prove (tsc_reading s) ≡ refused why → tsc_to_bump s block room ≡ refused why
    unfolding tsc_to_bump
    from_refused f = rw (e, f)

    module _ (p : Proof) (f : prove (tsc_reading s) ≡ accepted p) where
      climbed : prove (read (node_siblings s t.nodes) (length t.nodes) t.index (subject_id s t.subject) (tsc_target s t)) ≡ accepted p
      climbed = sym (ap prove (tsc-read s t q e)) ∙ f

      from_layers : p.layers ≡ length t.nodes
      from_layers = proof-layers (node_siblings s t.nodes) (length t.nodes) t.index (subject_id s t.subject) (tsc_target s t) p climbed

      from_position : p.position ≡ t.index
      from_position = proof-position (node_siblings s t.nodes) (length t.nodes) t.index (subject_id s t.subject) (tsc_target s t) p climbed

      pub from_none : length t.nodes ≡ 0 → tsc_to_bump s block room ≡ refused (carrying BAD_HEIGHT (node_count_at t))
      unfolding tsc_to_bump
      from_none z = rw (e, f, eq-eqb p.layers 0 (from_layers ∙ z))

      module _ (z : length t.nodes ≡ 0 → ⊥) where
        from_some : tsc_to_bump s block room ≡ room_for room (bump_bytes (client_bump block p))
        unfolding tsc_to_bump
        from_some = rw (e, f, ne_eqb p.layers 0 (λ x. z (sym from_layers ∙ x)))

        pub from_room : room < length (bump_bytes (client_bump block p)) → tsc_to_bump s block room ≡ refused (carrying NO_ROOM 0)
        from_room h = from_some ∙ room_short room (bump_bytes (client_bump block p)) h

        pub from_writes : length (bump_bytes (client_bump block p)) ≤ room → tsc_to_bump s block room ≡ accepted (bump_bytes (client_bump block p))
        from_writes h = from_some ∙ room-enough room (bump_bytes (client_bump block p)) h

      -- what is written, as the code writes it
      pub from_text : bump_bytes (client_bump block p) ≡ varint_bytes block ++ (length t.nodes ∷ client_text s (length t.nodes) t.nodes_at t.index p.id)
      unfolding bump_bytes client_bump
      from_text =
          ap₂ (λ (h : ℕ) (l : List (List Entry)). varint_bytes block ++ (h ∷ encode_all level_bytes l)) from_layers
          (ap₂ (λ (i : ℕ) (l : List Sibling). client_levels i p.id l) from_position (tsc-siblings s t q p f e)
          ∙ sym (client-levels-read s (length t.nodes) t.nodes_at t.index p.id t.nodes q (tsc-whole-told s e).nodes))

-- where its node count stands
module _ (t : Tsc) (head : TscHead) (e : tsc_head_of t ≡ head) where
  pub count_header : bit_and head.flags 6 ≡ 2 → head.target + 80 ≡ node_count_at t
  unfolding node_count_at
  count_header f =
      let g : t.flags ≡ head.flags = ap (λ (x : TscHead). x.flags) e in
      let h : t.target ≡ head.target = ap (λ (x : TscHead). x.target) e in
      rw (g, h, eq-eqb (bit_and head.flags 6) 2 f)

  pub count-other : (bit_and head.flags 6 ≡ 2 → ⊥) → head.target + 32 ≡ node_count_at t
  unfolding node_count_at
  count-other f =
      let g : t.flags ≡ head.flags = ap (λ (x : TscHead). x.flags) e in
      let h : t.target ≡ head.target = ap (λ (x : TscHead). x.target) e in
      rw (g, h, ne_eqb (bit_and head.flags 6) 2 f)

-- what the code knows of a proof that was read and proved, by its head
module _ (s : List ℕ) (head : TscHead) (id : List ℕ) (v : Proved s head id) where
  known : TscRead s v.end v.tsc
  known = tsc-whole-told s v.is_read

  head_nodes : length v.tsc.nodes ≡ head.nodes
  head_nodes = ap (λ (x : TscHead). x.nodes) v.is_head

  pub read-target : head.target ≤ MAX_INPUT
  read-target =
      let e : v.tsc.target ≡ head.target = ap (λ (x : TscHead). x.target) v.is_head in
      let a = known.target in
      let b = whole-size tsc_field s v.is_read in
      omega arith

  pub read-few : head.nodes ≤ MAX_HEIGHT
  read-few = let e = head_nodes in let low = known.low in omega arith

  abbrev pub read_text : ℕ → List ℕ
  read_text block = varint_bytes block ++ (head.nodes ∷ client_text s head.nodes head.nodes_at.at head.index id)

  module _ (block room : ℕ) where
    text-read : bump_bytes (client_bump block v.proof) ≡ read_text block
    text-read =
        from_text s block room v.tsc v.end v.is_read v.proof v.is_proved
        ∙ ap₂ (λ (h : TscHead) (x : List ℕ). varint_bytes block ++ (h.nodes ∷ client_text s h.nodes h.nodes_at.at h.index x)) v.is_head v.is_id

    pub read_none : head.nodes ≡ 0 → (place : ℕ) → ((t : Tsc) → tsc_head_of t ≡ head → place ≡ node_count_at t) → tsc_to_bump s block room ≡ refused (carrying BAD_HEIGHT place)
    read_none e place f =
        from_none s block room v.tsc v.end v.is_read v.proof v.is_proved (head_nodes ∙ e)
        ∙ ap (λ (n : ℕ). refused (carrying BAD_HEIGHT n)) (sym (f v.tsc v.is_head))

    module _ (z : head.nodes ≡ 0 → ⊥) where
      pub read_short : room < length (read_text block) → tsc_to_bump s block room ≡ refused (carrying NO_ROOM 0)
      read_short h =
          from_room s block room v.tsc v.end v.is_read v.proof v.is_proved (λ e. z (sym head_nodes ∙ e)) (rw text-read h)

      pub read_writes : length (read_text block) ≤ room → tsc_to_bump s block room ≡ accepted (read_text block)
      read_writes h =
          from_writes s block room v.tsc v.end v.is_read v.proof v.is_proved (λ e. z (sym head_nodes ∙ e)) (rw text-read h) ∙ ap accepted text-read

    pub read-size : {a b : ℕ} → a ≡ length (varint_bytes block) → b ≡ length (client_text s head.nodes head.nodes_at.at head.index id) → a + 1 + b ≡ length (read_text block)
    read-size e f = let g = length-append (varint_bytes block) (head.nodes ∷ client_text s head.nodes head.nodes_at.at head.index id) in omega arith

-- ---- to a TSC proof, case by case

module _ (s id : List ℕ) (room : ℕ) where
  pub to_refused : {why : Rejection} → prove (bump_reading s id) ≡ refused why → bump_to_tsc s id room ≡ refused why
  unfolding bump_to_tsc
  to_refused e = rw e

  module _ (p : Proof) (e : prove (bump_reading s id) ≡ accepted p) where
    to_some : bump_to_tsc s id room ≡ room_for room (tsc_bytes (id_tsc p))
    unfolding bump_to_tsc
    to_some = rw e

    pub to_room : room < length (tsc_bytes (id_tsc p)) → bump_to_tsc s id room ≡ refused (carrying NO_ROOM 0)
    to_room h = to_some ∙ room_short room (tsc_bytes (id_tsc p)) h

    pub to_writes : length (tsc_bytes (id_tsc p)) ≤ room → bump_to_tsc s id room ≡ accepted (tsc_bytes (id_tsc p))
    to_writes h = to_some ∙ room-enough room (tsc_bytes (id_tsc p)) h

    pub to_text : tsc_bytes (id_tsc p) ≡ ID_AND_ROOT ∷ (varint_bytes p.position ++ (p.id ++ (p.root ++ (varint_bytes p.layers ++ nodes_text p.siblings))))
    unfolding tsc_bytes id_tsc nodes_text
    to_text = ap (λ (n : ℕ). ID_AND_ROOT ∷ (varint_bytes p.position ++ (p.id ++ (p.root ++ (varint_bytes n ++ nodes_text p.siblings))))) (trace_count s id p e)

-- the parts of a TSC proof, one after the other
pub wrote_tsc : (p : Buffer) (i h : ℕ) (id root text : List ℕ) {q r t u v w : Buffer} → q ≡ put_on p ID_AND_ROOT → r ≡ write_on q (varint_bytes i) → t ≡ write_on r id → u ≡ write_on t root → v ≡ write_on u (varint_bytes h) → w ≡ write_on v text
    → w ≡ write_on p (ID_AND_ROOT ∷ (varint_bytes i ++ (id ++ (root ++ (varint_bytes h ++ text)))))
wrote_tsc p i h id root text {q} {r} {t} {u} a b c d e f =
    write_cons p ID_AND_ROOT (varint_bytes i ++ (id ++ (root ++ (varint_bytes h ++ text)))) a
    (wrote_then q (varint_bytes i) (id ++ (root ++ (varint_bytes h ++ text))) b
    (wrote_then r id (root ++ (varint_bytes h ++ text)) c (wrote_then t root (varint_bytes h ++ text) d (wrote_then u (varint_bytes h) text e f))))

-- what the code knows of an id's climb that was traced
module _ (s id : List ℕ) (r : Traced) (e : Ok r ≡ traced_of (prove (bump_reading s id))) where
  pub traced_room : r.size ≤ TRACE_ROOM
  traced_room = (traced_accepted r (prove (bump_reading s id)) e).6

  abbrev pub traced_text : List ℕ
  traced_text = ID_AND_ROOT ∷ (varint_bytes r.proved.position ++ (id ++ (r.proved.root ++ (varint_bytes r.proved.layers ++ take r.size r.nodes))))

  text_traced : (p : Proof) × (prove (bump_reading s id) ≡ accepted p) × (tsc_bytes (id_tsc p) ≡ traced_text)
  text_traced =
      let t = traced_accepted r (prove (bump_reading s id)) e in
      let n = t.7 (trace_fits s id t.0 t.1) in
      (t.0, t.1, rw (t.3, traced_id t.0 t.1, t.2, t.4, ← n.1) at (to_text s id 0 t.0 t.1))
    where
      traced_id : (p : Proof) → prove (bump_reading s id) ≡ accepted p → p.id ≡ id
      traced_id p g = let c = bump_climb s id p g in proof-id (level_siblings s c.bump.levels) c.bump.height c.start id any p c.climbs

  pub traced_short : (room : ℕ) → room < length traced_text → bump_to_tsc s id room ≡ refused (carrying NO_ROOM 0)
  traced_short room b = let t = text_traced in to_room s id room t.0 t.1 (rw t.2 b)

  pub traced_writes : (room : ℕ) → length traced_text ≤ room → bump_to_tsc s id room ≡ accepted traced_text
  traced_writes room b = let t = text_traced in to_writes s id room t.0 t.1 (rw t.2 b) ∙ ap accepted t.2

  pub traced_size : {a b : ℕ} → length id ≡ 32 → length r.proved.root ≡ 32 → r.size ≤ length r.nodes → a ≡ length (varint_bytes r.proved.position) → b ≡ length (varint_bytes r.proved.layers) → a + b + 65 + r.size ≡ length traced_text
  traced_size x y z u v =
      let a = length-append (varint_bytes r.proved.position) (id ++ (r.proved.root ++ (varint_bytes r.proved.layers ++ take r.size r.nodes))) in
      let b = length-append id (r.proved.root ++ (varint_bytes r.proved.layers ++ take r.size r.nodes)) in
      let c = length-append r.proved.root (varint_bytes r.proved.layers ++ take r.size r.nodes) in
      let d = length-append (varint_bytes r.proved.layers) (take r.size r.nodes) in
      let l = length-take-le r.size r.nodes z in
      omega arith
