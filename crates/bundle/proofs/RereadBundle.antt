-- What a BUMP and a transaction say: the same wherever their bytes stand.
use Prim.Native.Nat.{ℕ, ◌+◌, ◌-◌, ◌≤◌}
use mathlib.Core.Path.{◌≡◌, refl, sym, ap, ap₂, ◌∙◌}
use mathlib.Core.Bool.{Bool, true, not, ◌&&◌}
use mathlib.Core.List.{List, [], ◌∷◌, ◌++◌, map, map-id}
use native.Mathlib.Omega.{arith}
use lib.ListN.{length, take, drop}
use lib.Dec.{ltb, leb, eqb}
use Rattle.std.specs.Prelude.{Option, Some, None}
use Rattle.format.specs.declared.level.Layout.{Layout}
use Rattle.format.specs.declared.leaf.Kind.TheVariants.{Plain, Copy, Client}
use Rattle.format.specs.declared.leaf.Leaf.{Leaf}
use Rattle.format.specs.Parse.{Reader, ok, ◌passing◌else◌, times}
use Rattle.format.specs.Bytes.{hash_at}
use Rattle.format.specs.Field.{bytes, byte, le4, le8, number, varint}
use Rattle.format.specs.Level.{holds, offset_field, flag_allowed, flag_field, kind_field, carried_field, leaf_field, and_offset, level_field, level_in_turn, next_turn, level_fields}
use Rattle.format.specs.Bump.{Bump, block_field, height_up_to, bump_field, bump_up_to}
use Rattle.format.specs.Transaction.{Transaction, script_field, input_field, takes, output_field, outputs_field, some_field, list_field, fields_by, tx_field_by}
use Rattle.format.proofs.TransactionLaws.{TxRead, tx_told, tx_fields, tx_size, tx_read}
use Rattle.format.specs.Beef.{BeefEntry, bump_number_field, anchor_field, entry_field}
use Rattle.format.specs.Refusals.{OVER_LIMIT, BAD_HEIGHT, BAD_OFFSET, BAD_FLAG, REPEATED, BAD_TX, BAD_INDEX, BAD_AMOUNT, MAX_LEAVES, MAX_BLOCK, MAX_HEIGHT}
use Rattle.spv.specs.Climb.{Sibling, value}
use Rattle.spv.specs.Siblings.{written}
use Rattle.bundle.proofs.Reread.{StandsIn, Again, on_pure, on_here, on_then, pure-again, here-again, then_again, then_same, passing_again, given-again, pick-again, many-again, bytes-again, byte-again, varint-again, run-again, hash-again, number-again, le4-again, le8-again}
use Rattle.bundle.specs.Amounts.{Outpoint, outpoint_of}

-- a leaf: its offset, and its 32 bytes or a copy
abbrev pub leaf_said : List ℕ → Leaf → ℕ × Sibling
leaf_said s leaf = (leaf.offset, written s leaf.kind)

-- a BUMP: its height and its levels
abbrev pub bump_said : List ℕ → Bump → ℕ × List (List (ℕ × Sibling))
bump_said s b = (b.height, map (map (leaf_said s)) b.levels)

-- a transaction: how many bytes it has, the bytes, what its inputs spend, and the amounts of its outputs
abbrev pub TxSaid : Type 0
TxSaid = ℕ × List ℕ × List Outpoint × List ℕ

abbrev pub tx_said : List ℕ → Transaction → TxSaid
tx_said s x = (x.end - x.start, take (x.end - x.start) (drop x.start s), map (outpoint_of s) x.inputs, x.outputs)

abbrev pub entry_said : List ℕ → BeefEntry → TxSaid × Option ℕ
entry_said s e = (tx_said s e.transaction, e.anchor)

module _ {u t : List ℕ} {base : ℕ} (stands : StandsIn u t base) where
  abbrev Same : {A B C : Type 0} → Reader A → Reader B → (A → C) → (B → C) → Type 0
  Same r r' c d = Again u t base r r' c d

  abbrev Equal : Reader ℕ → Type 0
  Equal r = Again u t base r r (λ x. x) (λ x. x)

  -- ---- a BUMP

  kind_again : (flag : ℕ) → Same (kind_field flag) (kind_field flag) (written u) (written t)
  unfolding kind_field written
  kind_again flag =
      let hash = bytes-again stands 32 (hash_at u) (hash_at t) (hash-again stands) in
      pick-again (eqb flag 0) (given-again Plain Plain (written u) (written t) hash (λ p q e. ap value e))
      (pick-again (eqb flag 1) (pure-again Copy Copy (written u) (written t) refl) (given-again Client Client (written u) (written t) hash (λ p q e. ap value e)))

  carried-again : (level offset : ℕ) → Same (carried_field Layout.Bump level offset) (carried_field Layout.Bump level offset) (written u) (written t)
  unfolding carried_field flag_field
  carried-again level offset =
      then_same (passing_again byte byte (flag_allowed level offset) (flag_allowed level offset) BAD_FLAG BAD_FLAG (byte-again stands) (λ x. refl)) kind_again

  offset-again : (limit : ℕ) (seen : List ℕ) → Equal (offset_field limit seen)
  unfolding offset_field
  offset-again limit seen =
      passing_again (varint passing (λ o. ltb o limit) else BAD_OFFSET) (varint passing (λ o. ltb o limit) else BAD_OFFSET) (λ o. not (holds o seen)) (λ o. not (holds o seen)) REPEATED REPEATED
      (passing_again varint varint (λ o. ltb o limit) (λ o. ltb o limit) BAD_OFFSET BAD_OFFSET (varint-again stands) (λ x. refl)) (λ x. refl)

  leaf-again : (limit level : ℕ) (seen : List ℕ) → Same (leaf_field Layout.Bump limit level seen) (leaf_field Layout.Bump limit level seen) (leaf_said u) (leaf_said t)
  unfolding leaf_field
  leaf-again limit level seen =
      then_same (offset-again limit seen) (λ offset. then_again (carried-again level offset) (λ _. on_pure)
      (λ k l e. pure-again (record { offset = offset; kind = k }) (record { offset = offset; kind = l }) (leaf_said u) (leaf_said t) (ap (λ (x : Sibling). (offset, x)) e)))

  level-again : (limit level : ℕ) → Same (level_field Layout.Bump limit level) (level_field Layout.Bump limit level) (map (leaf_said u)) (map (leaf_said t))
  unfolding level_field
  level-again limit level =
      then_same (passing_again varint varint (λ n. leb n MAX_LEAVES) (λ n. leb n MAX_LEAVES) OVER_LIMIT OVER_LIMIT (varint-again stands) (λ x. refl))
      (λ n. many-again (leaf_field Layout.Bump limit level) (leaf_field Layout.Bump limit level) and_offset and_offset (leaf_said u) (leaf_said t) (leaf-again limit level)
      (λ seen a b e. ap (λ (x : ℕ × Sibling). seen ++ (x.0 ∷ [])) e) n [])

  levels-again : (height : ℕ) → Same (level_fields Layout.Bump height) (level_fields Layout.Bump height) (map (map (leaf_said u))) (map (map (leaf_said t)))
  levels-again height =
      many-again (level_in_turn Layout.Bump height) (level_in_turn Layout.Bump height) next_turn next_turn (map (leaf_said u)) (map (leaf_said t)) (λ i. level-again _ _) (λ i a b e. refl) height 0

  pub bump-again : Same bump_field bump_field (bump_said u) (bump_said t)
  unfolding bump_up_to block_field height_up_to
  bump-again =
      then_same (passing_again varint varint (λ b. leb b MAX_BLOCK) (λ b. leb b MAX_BLOCK) OVER_LIMIT OVER_LIMIT (varint-again stands) (λ x. refl))
      (λ block. then_same (passing_again byte byte (λ h. leb 1 h && leb h MAX_HEIGHT) (λ h. leb 1 h && leb h MAX_HEIGHT) BAD_HEIGHT BAD_HEIGHT (byte-again stands) (λ x. refl))
      (λ height. then_again here-again (λ _. on_then (levels-again height).onwards (λ _. on_pure)) (λ p q _. then_again (levels-again height) (λ _. on_pure)
      (λ l m e. pure-again (record { block = block; height = height; start = p; levels = l }) (record { block = block; height = height; start = q; levels = m }) (bump_said u) (bump_said t)
      (ap (λ (x : List (List (ℕ × Sibling))). (height, x)) e)))))

  -- ---- a transaction

  nothing : ℕ → Unit {0}
  nothing _ = tt

  skip_again : (n : ℕ) → Same (bytes n) (bytes n) nothing nothing
  unfolding nothing
  skip_again n = bytes-again stands n nothing nothing (λ p h. refl)

  script_again : Same script_field script_field nothing nothing
  unfolding script_field
  script_again = then_same (varint-again stands) skip_again

  input-again : Same input_field input_field (outpoint_of u) (outpoint_of t)
  unfolding input_field
  input-again =
      then_again (bytes-again stands 32 (hash_at u) (hash_at t) (hash-again stands)) (λ _. on_then (skip_again 4).onwards (λ _. on_then script_again.onwards (λ _. on_then (skip_again 4).onwards (λ _. on_pure))))
      (λ p q e. then_again (bytes-again stands 4 (le4 u) (le4 t) (λ o h. le4-again stands o (base + o) h refl)) (λ _. on_then script_again.onwards (λ _. on_then (skip_again 4).onwards (λ _. on_pure)))
      (λ o w f. then_again script_again (λ _. on_then (skip_again 4).onwards (λ _. on_pure)) (λ _ _ _. then_again (skip_again 4) (λ _. on_pure)
      (λ _ _ _. pure-again (record { parent = p; output = o }) (record { parent = q; output = w }) (outpoint_of u) (outpoint_of t) (ap₂ (λ (x : List ℕ) (n : ℕ). record { parent = x; output = n }) e f)))))

  output-again : (taken : ℕ → Bool) → Equal (output_field taken)
  unfolding output_field
  output-again taken =
      then_same (passing_again (number le8 8) (number le8 8) taken taken BAD_AMOUNT BAD_AMOUNT (number-again stands le8 8 (λ p h. le8-again stands p (base + p) h refl)) (λ x. refl))
      (λ amount. then_again script_again (λ _. on_pure) (λ _ _ _. pure-again amount amount (λ x. x) (λ x. x) refl))

  spends-again : (n : ℕ) → Same (times input_field n) (times input_field n) (map (outpoint_of u)) (map (outpoint_of t))
  spends-again n = many-again {S = Unit {0}} (λ _. input_field) (λ _. input_field) (λ x _. x) (λ x _. x) (outpoint_of u) (outpoint_of t) (λ _. input-again) (λ _ _ _ _. refl) n tt

  outputs-again : (limited : Bool) (n : ℕ) → Same (outputs_field limited n) (outputs_field limited n) (map (λ x. x)) (map (λ x. x))
  unfolding outputs_field
  outputs-again limited n = many-again (λ total. output_field (takes limited total)) (λ total. output_field (takes limited total)) ◌+◌ ◌+◌ (λ x. x) (λ x. x) (λ total. output-again (takes limited total)) (λ total a b e. ap (λ (x : ℕ). total + x) e) n 0

  list-again : {A C : Type 0} (list : ℕ → Reader (List A)) (c d : List A → C) → ((n : ℕ) → Same (list n) (list n) c d) → Same (list_field list) (list_field list) (λ l. c l.items) (λ l. d l.items)
  unfolding list_field some_field
  list-again list c d f =
      then_same (passing_again varint varint (λ n. leb 1 n) (λ n. leb 1 n) BAD_TX BAD_TX (varint-again stands) (λ x. refl))
      (λ n. then_again here-again (λ _. on_then (f n).onwards (λ _. on_pure)) (λ p q _. then_again (f n) (λ _. on_pure)
      (λ l m e. pure-again (record { at = p; items = l }) (record { at = q; items = m }) (λ l. c l.items) (λ l. d l.items) e)))

  -- what its inputs spend, and the amounts of its outputs
  abbrev Moved : Type 0
  Moved = List Outpoint × List ℕ

  abbrev moved_of : List ℕ → Transaction → Moved
  moved_of s x = (map (outpoint_of s) x.inputs, map (λ y. y) x.outputs)

  moves_again : (limited : Bool) → Same (fields_by limited) (fields_by limited) (moved_of u) (moved_of t)
  unfolding fields_by
  moves_again limited =
      let inputs = list-again (times input_field) (map (outpoint_of u)) (map (outpoint_of t)) spends-again in
      let outputs = list-again (outputs_field limited) (map (λ x. x)) (map (λ x. x)) (outputs-again limited) in
      then_again (skip_again 4) (λ _. on_then inputs.onwards (λ _. on_then outputs.onwards (λ _. on_then (skip_again 4).onwards (λ _. on_then on_here (λ _. on_pure)))))
      (λ p q _. then_again inputs (λ _. on_then outputs.onwards (λ _. on_then (skip_again 4).onwards (λ _. on_then on_here (λ _. on_pure))))
      (λ i j e. then_again outputs (λ _. on_then (skip_again 4).onwards (λ _. on_then on_here (λ _. on_pure)))
      (λ o w f. then_again (skip_again 4) (λ _. on_then on_here (λ _. on_pure)) (λ _ _ _. then_again here-again (λ _. on_pure)
      (λ n m _. pure-again (record { start = p; end = n; inputs_at = i.at; inputs = i.items; outputs_at = o.at; outputs = o.items })
      (record { start = q; end = m; inputs_at = j.at; inputs = j.items; outputs_at = w.at; outputs = w.items }) (moved_of u) (moved_of t)
      (ap₂ (λ (x : List Outpoint) (y : List ℕ). (x, y)) e f))))))

  pub tx_again : (limited : Bool) → Same (tx_field_by limited) (tx_field_by limited) (tx_said u) (tx_said t)
  tx_again limited = record { again = moved; within = back; onwards = record { forth = λ at q b e. let x = (tx_told t at e).forward in omega arith } }
    where
      -- its bytes are those from its start to its end
      run : (a b : Transaction) (at q : ℕ) → TxRead limited u at q a → TxRead limited t (base + at) (base + q) b → map (outpoint_of u) a.inputs ≡ map (outpoint_of t) b.inputs → a.outputs ≡ b.outputs → tx_said u a ≡ tx_said t b
      run a b at q x y e o =
          let f = x.forward in
          let i = x.inside in
          let size : b.end - b.start ≡ q - at = omega arith in
          let from : b.start ≡ base + at = y.start_is in
          rw (x.start_is, x.end_is, size, from, e, o, run-again stands (q - at) at (omega arith))

      moved : (at q : ℕ) (a : Transaction) → tx_field_by limited u at ≡ ok a q → (b : Transaction) × (tx_field_by limited t (base + at) ≡ ok b (base + q)) × (tx_said u a ≡ tx_said t b)
      moved at q a e =
          let x = (moves_again limited).again at q a (tx_fields limited u at e).0 in
          let y = tx_read limited t (base + at) x.1 (λ z. tx_size limited u at e (omega arith)) in
          (x.0, y, run a x.0 at q (tx_told u at e) (tx_told t (base + at) y) (ap (λ (z : Moved). z.0) x.2) (sym (map-id a.outputs) ∙ ap (λ (z : Moved). z.1) x.2 ∙ map-id x.0.outputs))

      back : (at q : ℕ) (b : Transaction) → tx_field_by limited t (base + at) ≡ ok b (base + q) → q ≤ length u → (a : Transaction) × (tx_field_by limited u at ≡ ok a q) × (tx_said u a ≡ tx_said t b)
      back at q b e low =
          let x = (moves_again limited).within at q b (tx_fields limited t (base + at) e).0 low in
          let y = tx_read limited u at x.1 (λ z. tx_size limited t (base + at) e (omega arith)) in
          (x.0, y, run x.0 b at q (tx_told u at y) (tx_told t (base + at) e) (ap (λ (z : Moved). z.0) x.2) (sym (map-id x.0.outputs) ∙ ap (λ (z : Moved). z.1) x.2 ∙ map-id b.outputs))

  -- ---- a bundle's transaction

  pub anchor-again : (bumps : ℕ) → Same (anchor_field bumps) (anchor_field bumps) (λ x. x) (λ x. x)
  unfolding anchor_field bump_number_field
  anchor-again bumps =
      then_same (passing_again byte byte (λ b. leb b 1) (λ b. leb b 1) BAD_FLAG BAD_FLAG (byte-again stands) (λ x. refl))
      (λ mark. pick-again (eqb mark 0) (pure-again None None (λ x. x) (λ x. x) refl)
      (given-again Some Some (λ x. x) (λ x. x) (passing_again varint varint (λ n. ltb n bumps) (λ n. ltb n bumps) BAD_INDEX BAD_INDEX (varint-again stands) (λ x. refl)) (λ a b e. ap Some e)))

  pub entry_again : (bumps : ℕ) → Same (entry_field bumps) (entry_field bumps) (entry_said u) (entry_said t)
  unfolding entry_field
  entry_again bumps =
      then_again (tx_again true) (λ _. on_then (anchor-again bumps).onwards (λ _. on_pure)) (λ x y e. then_same (anchor-again bumps)
      (λ a. pure-again (record { transaction = x; anchor = a }) (record { transaction = y; anchor = a }) (entry_said u) (entry_said t) (ap (λ (z : TxSaid). (z, a)) e)))
