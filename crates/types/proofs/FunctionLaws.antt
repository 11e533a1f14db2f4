-- A function's row in straight code: what is seen of it makes its size, and its parts put one after the other make its bytes.
use Rattle.std.specs.Prelude.{Ok}
use Rattle.std.specs.Prelude.{Some}
use Prim.Native.Nat.{ℕ, ◌+◌, ◌*◌, ◌≤◌, ◌<◌}
use native.Mathlib.Omega.{arith}
use mathlib.Core.Path.{◌≡◌, refl, sym, ap, ◌∙◌, subst}
use mathlib.Core.Bool.{Bool, true, false, cond}
use mathlib.Core.List.{List, [], ◌∷◌, ◌++◌}
use lib.Dec.{eqb}
use lib.ListN.{length, drop, set}
use lib.Seq.{sets}
use Rattle.numbers.specs.Bytes as stored
use Rattle.numbers.specs.Bytes.{store}
use Rattle.numbers.specs.Leb.{unsigned}
use Rattle.numbers.specs.Numbers.{value_of}
use Rattle.numbers.specs.Stored.{Stored}
use Rattle.fields.specs.declared.Field.TheVariants as field
use Rattle.fields.specs.Words.{word, wide}
use Rattle.writing.specs.Binary.{functype, valtype, resultlist, bytes}
use Rattle.writing.specs.Judge.{flaw}
use Rattle.writing.specs.Row.{measured_row}
use Rattle.writing.specs.inside.Wrote.{Wrote}
use Rattle.fields.specs.Shape.{widths}
use Rattle.fields.specs.Table.{elements}
use Rattle.writing.proofs.WroteLaws.{then, same_size, of-store, room-first, room-then}
use Rattle.writing.specs.inside.Rows.{Known, Groups}
use Rattle.writing.proofs.GroupLaws.{labelled_element, byte-wrote}
use Rattle.writing.proofs.RowLaws.{result_known, result_at, async_at, many_known}
use Rattle.types.specs.inside.Optional.{OptionalKnown}
use Rattle.types.specs.Table.{labelvaltype}
use Rattle.types.specs.inside.Function.{function_shape, function_bytes}

-- ---- what is seen

pub result_length : (tag x : ℕ) → length (resultlist tag x) ≡ cond (eqb tag 2) 2 (1 + length (valtype tag x))
unfolding resultlist
result_length tag x = go (eqb tag 2)
  where
    go : (b : Bool) → length (cond b (0x01 ∷ 0x00 ∷ []) (0x00 ∷ valtype tag x)) ≡ cond b 2 (1 + length (valtype tag x))
    go true = refl
    go false = omega arith

-- an O that is seen is a result, whatever the pool
pub known_result : {tag x r : ℕ} → OptionalKnown 2 tag x r → (pool : List ℕ) → Known pool field.Result (tag ∷ x ∷ []) r
known_result {tag} {x} o pool = result_known tag x pool o.right (o.size ∙ sym (result_length tag x))

module _ (row pool : List ℕ) where
  abbrev N : ℕ
  N = word row 2

  -- the base of the parameters has the result's bytes in it
  pub function_known : length pool ≤ 65536 → length row ≤ 16384 → length row ≡ 5 + word row 2 * 4 → word row 1 < 2
      → {q base r : ℕ} → OptionalKnown 2 (word row (3 + word row 2 * 4)) (word row (3 + word row 2 * 4 + 1)) q
      → base ≡ 1 + length (unsigned (word row 2)) + q
      → Groups pool (field.Name ∷ field.Value ∷ []) (labelvaltype pool) (word row 2) (drop 3 row) base r
      → measured_row (Some function_shape) row pool ≡ Ok r
  unfolding wide widths flaw bytes
  function_known small short width a {q} {base} {r} o eb g =
      many_known field.Nothing field.Nothing field.Async field.Name field.Value field.Result refl refl refl row pool
      (λ ws. labelled_element pool ws) (λ ws. refl) (λ ws. refl) small short (omega arith) (async_at pool row 1 refl a) refl
      (record { right = g.right; size = refl })
      (result_at pool row (3 + N * 4) refl refl (known_result o pool))
      (omega (arith, g.size))

-- ---- what is put

pub byte_put : (old : List ℕ) (to : ℕ) {x y : ℕ} → x ≡ y → Wrote old to (y ∷ []) (to + 1) (set old to x)
byte_put old to {x} e = subst (λ z. Wrote old to (z ∷ []) (to + 1) (set old to x)) e (byte-wrote old to x)

module _ (row pool old : List ℕ) (to : ℕ) (room : to + length (function_bytes pool row) ≤ length old) where
  abbrev U : List ℕ
  U = unsigned (word row 2)

  abbrev G : List ℕ
  G = elements (word row 2) 4 (labelvaltype pool) (drop 3 row)

  abbrev R : List ℕ
  R = resultlist (word row (3 + word row 2 * 4)) (word row (4 + word row 2 * 4))

  pub lead_room : to + 1 ≤ length old
  lead_room = room-first (functype (word row 1) ∷ []) (U ++ (G ++ R)) to (length old) room

  module _ {one : List ℕ} (lead : Wrote old to (functype (word row 1) ∷ []) (to + 1) one) where
    behind_lead : to + 1 + length (U ++ (G ++ R)) ≤ length one
    behind_lead = room-then lead (U ++ (G ++ R)) room

    pub count_wrote : {two : List ℕ} {p : Stored} {s : ℕ} → stored.left p two ≡ store (unsigned (word row 2)) (to + 1) one → s ≡ value_of p
        → Wrote one (to + 1) (unsigned (word row 2)) (to + 1 + s) two
    count_wrote e v = of-store e v (room-first U (G ++ R) (to + 1) (length one) behind_lead)

    module _ {two : List ℕ} {next : ℕ} (count : Wrote one (to + 1) (unsigned (word row 2)) next two) where
      behind_count : next + length (G ++ R) ≤ length two
      behind_count = room-then count (G ++ R) behind_lead

      pub fields_room : next + length (elements (word row 2) 4 (labelvaltype pool) (drop 3 row)) ≤ length two
      fields_room = room-first G R next (length two) behind_count

      pub count_ends : next ≤ length old
      count_ends = omega (arith, behind_count, same_size lead, same_size count)

      module _ {three : List ℕ} {end : ℕ} (fields : Wrote two next (elements (word row 2) 4 (labelvaltype pool) (drop 3 row)) end three) where
        same : resultlist (word row (3 + word row 2 * 4)) (word row (3 + word row 2 * 4 + 1)) ≡ R
        same =
            let p : 3 + word row 2 * 4 + 1 ≡ 4 + word row 2 * 4 = omega arith in
            ap (λ k. resultlist (word row (3 + word row 2 * 4)) (word row k)) p

        pub result_room : end + length (resultlist (word row (3 + word row 2 * 4)) (word row (3 + word row 2 * 4 + 1))) ≤ length three
        result_room = rw same (room-then fields R behind_count)

        pub function_wrote : {four : List ℕ} {last : ℕ}
            → Wrote three end (resultlist (word row (3 + word row 2 * 4)) (word row (3 + word row 2 * 4 + 1))) last four
            → four ≡ sets old to (function_bytes pool row)
        function_wrote w = (then lead (then count (then fields (rw same at w)))).content

        pub function_length : {four : List ℕ} {last : ℕ}
            → Wrote three end (resultlist (word row (3 + word row 2 * 4)) (word row (3 + word row 2 * 4 + 1))) last four
            → length four ≡ length old
        function_length w = same_size (then lead (then count (then fields w)))
