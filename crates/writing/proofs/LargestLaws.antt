-- No row of a shape that passes a test is larger than the largest row: by the most bytes that each field has, a group has no more
-- for a word of it than half a name, and the count of a row has two bytes.
use Rattle.std.specs.Prelude.{Ok}
use Rattle.std.specs.Prelude.{Some}
use Prim.Native.Nat.{ℕ, zero, suc, ◌+◌, ◌*◌, ◌≤◌}
use native.Mathlib.Nat.{mul-le-mul_left, suc-mul}
use native.Mathlib.Omega.{arith}
use mathlib.Core.Path.{◌≡◌, refl, sym, ap, ◌∙◌}
use mathlib.Core.Bool.{Bool, true, false, ◌&&◌, cond}
use mathlib.Core.List.{List, [], ◌∷◌, ◌++◌}
use borrow.Author.Tests.{leb-true}
use lib.Dec.{leb}
use lib.ListN.{length, drop, length-append}
use lib.Seq.{drop-drop}
use Rattle.numbers.specs.Leb.{unsigned}
use Rattle.numbers.proofs.LebLaws.{few_bytes}
use Rattle.numbers.proofs.Impossible.{impossible}
use Rattle.fields.specs.declared.Field.{Field}
use Rattle.fields.specs.declared.Field.TheVariants as field
use Rattle.fields.specs.declared.Shape.{Shape}
use Rattle.fields.specs.Shape.{opening, group, closing, repeated, widths, row_width}
use Rattle.fields.specs.Words.{word, wide}
use Rattle.fields.specs.inside.Stages.{counted_fields}
use Rattle.fields.proofs.NearLaws.{first_word}
use Rattle.writing.specs.Binary.{bytes}
use Rattle.writing.specs.Largest.{largest_row}
use Rattle.writing.specs.Row.{measured_row}
use Rattle.writing.specs.inside.Rows.{Rights}
use Rattle.writing.proofs.RowLaws.{row_held, strings-append, rights-first, rights-rest}
use Rattle.writing.proofs.SizeLaws.{most, field_most}
use Rattle.writing.proofs.TableLaws.{strings}

-- the most bytes of fields one after the other
abbrev pub mosts : List Field → ℕ
mosts [] = 0
mosts (f ∷ fs) = most f + mosts fs

mosts-append : (fs gs : List Field) → mosts (fs ++ gs) ≡ mosts fs + mosts gs
mosts-append [] gs = omega arith
mosts-append (f ∷ fs) gs = omega (arith, mosts-append fs gs)

mosts-repeated : (n : ℕ) (g : List Field) → mosts (repeated n g) ≡ n * mosts g
unfolding repeated
mosts-repeated zero g = omega arith
mosts-repeated (suc n) g = omega (arith, mosts-append g (repeated n g), mosts-repeated n g, suc-mul n (mosts g))

strings-most : (pool : List ℕ) (fs : List Field) (ws : List ℕ) → length pool ≤ 65536 → Rights pool fs ws → length (strings pool fs ws) ≤ mosts fs
unfolding Rights strings
strings-most pool [] ws h r = omega arith
strings-most pool (f ∷ fs) ws h r =
    let rest = strings pool fs (drop (wide f) ws) in
    omega (arith, length-append (bytes pool f ws) rest, field_most pool f ws h r.0, strings-most pool fs (drop (wide f) ws) h r.1)

-- an index, and the fields behind it
index-first : (pool : List ℕ) (fs : List Field) (ws : List ℕ) → Rights pool (field.Index ∷ fs) ws
    → Rights pool fs (drop 1 ws) × (length (strings pool (field.Index ∷ fs) ws) ≡ length (unsigned (word ws 0)) + length (strings pool fs (drop 1 ws)))
unfolding Rights strings bytes wide
index-first pool fs ws r = (r.1, length-append (unsigned (word ws 0)) (strings pool fs (drop 1 ws)))

-- ---- the test

pub both : (a b : Bool) → (a && b) ≡ true → (a ≡ true) × (b ≡ true)
both true b e = (refl, e)
both false b e = impossible cc

-- twice the bytes of half a name for each word of the fields
abbrev pub halves : List Field → ℕ
halves fs = 65539 * widths fs

-- where groups are counted: a group has a word, and half a name at most for each of its words, and so have the other fields
-- beside a byte; else the fields have no more than the largest row
abbrev pub bounded : Shape → Bool
bounded s =
    cond s.counted
    (leb 1 (widths (group s))
    && (leb (2 * mosts (group s)) (halves (group s))
    && leb (2 * (mosts (opening s) + mosts (closing s))) (2 + (halves (opening s) + halves (closing s)))))
    (leb (mosts (opening s) + mosts (closing s)) largest_row)

-- ---- rows

pub no_larger : (s : Shape) → bounded s ≡ true → (row pool : List ℕ) (n : ℕ) → measured_row (Some s) row pool ≡ Ok n → n ≤ largest_row
unfolding row_width
no_larger s t row pool n e =
    let h = row_held s row pool e in
    let r = rights-rest pool (opening s) (cond s.counted (counted_fields s c) (closing s)) (drop 1 row) h.right in
    let o = strings-most pool (opening s) (drop 1 row) h.small
    (rights-first pool (opening s) (cond s.counted (counted_fields s c) (closing s)) (drop 1 row) h.right) in
    let l = length-append (strings pool (opening s) (drop 1 row)) (strings pool (cond s.counted (counted_fields s c) (closing s)) xs) in
    let k = ap length (strings-append pool (opening s) (cond s.counted (counted_fields s c) (closing s)) (drop 1 row)) in
    go s.counted t h.small h.short h.width r (omega (arith, h.size))
  where
    c : ℕ
    c = word row (1 + widths (opening s))

    xs : List ℕ
    xs = drop (widths (opening s)) (drop 1 row)

    count : word xs 0 ≡ c
    count = ap (λ l. word l 0) (drop-drop (widths (opening s)) 1 row) ∙ sym (first_word row (1 + widths (opening s)))

    go : (b : Bool)
        → cond b
        (leb 1 (widths (group s))
        && (leb (2 * mosts (group s)) (halves (group s))
        && leb (2 * (mosts (opening s) + mosts (closing s))) (2 + (halves (opening s) + halves (closing s)))))
        (leb (mosts (opening s) + mosts (closing s)) largest_row) ≡ true
        → length pool ≤ 65536 → length row ≤ 16384
        → length row ≡ 1 + widths (opening s) + (cond b (1 + c * widths (group s)) 0 + widths (closing s))
        → Rights pool (cond b (counted_fields s c) (closing s)) xs
        → n ≤ mosts (opening s) + length (strings pool (cond b (counted_fields s c) (closing s)) xs) → n ≤ largest_row
    go false t small short width r h = omega (arith, strings-most pool (closing s) xs small r, leb-true (mosts (opening s) + mosts (closing s)) largest_row t)
    go true t small short width r h =
        let w = both (leb 1 (widths (group s)))
        (leb (2 * mosts (group s)) (halves (group s))
        && leb (2 * (mosts (opening s) + mosts (closing s))) (2 + (halves (opening s) + halves (closing s)))) t in
        let v = both (leb (2 * mosts (group s)) (halves (group s)))
        (leb (2 * (mosts (opening s) + mosts (closing s))) (2 + (halves (opening s) + halves (closing s)))) w.1 in
        let worded = leb-true 1 (widths (group s)) w.0 in
        let some : c * 1 ≤ c * widths (group s) = mul-le-mul_left c worded in
        let few : length (unsigned c) ≤ 2 = few_bytes 128 1 c (omega arith) in
        let fs = repeated c (group s) ++ closing s in
        let first = index-first pool fs xs r in
        let all = strings-most pool fs (drop 1 xs) small first.0 in
        let groups : c * (2 * mosts (group s)) ≤ c * halves (group s) = mul-le-mul_left c (leb-true _ _ v.0) in
        omega (
          arith,
          first.1,
          ap (λ k. length (unsigned k)) count,
          mosts-append (repeated c (group s)) (closing s),
          mosts-repeated c (group s),
          leb-true (2 * (mosts (opening s) + mosts (closing s))) (2 + (halves (opening s) + halves (closing s))) v.1,
        )
