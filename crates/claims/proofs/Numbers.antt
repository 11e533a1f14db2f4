-- The numbers of each call: no other can come, and each of them does.
use Rattle.std.specs.Prelude.{Option, Some, None, Ok, Err}
use Prim.Native.Nat.{ℕ}
use native.Mathlib.Omega.{arith}
use mathlib.Core.Path.{◌≡◌, refl, ap}
use mathlib.Core.Logic.{◌⊎◌, inl, inr}
use mathlib.Core.Bool.{Bool, true, false}
use mathlib.Core.List.{List, [], ◌∷◌, ◌++◌}
use Rattle.numbers.specs.Taken.{Taken}
use Rattle.numbers.specs.Taken as taken
use Rattle.numbers.specs.Bytes.{store, part_of}
use Rattle.numbers.specs.Leb.{bytes_of, unsigned, signed, take_in, within32, number_in, more, take_unsigned, take_signed}
use Rattle.numbers.specs.Numbers as numbers
use Rattle.numbers.specs.Text as text
use Rattle.numbers.proofs.BytesLaws.{store-either}
use Rattle.fields.specs.Read.{Read}
use Rattle.fields.specs.declared.Refusal.TheVariants as refusal
use Rattle.fields.specs.declared.Shape.{Shape}
use Rattle.writing.specs.Binary.{name, primvaltype, valtype, optional, resultlist, functype, flag, representation, destructor, canonopt, slot_at, slots_at, slots, externname, slot_inside, extern_inside, extern_part, typebound, externdesc, argument, coresortidx, sortidx, bytes}
use Rattle.fields.specs.Words.{indexed, wide}
use Rattle.reading.specs.Fill.{primitive, fill_value, fill_name, fill}
use Rattle.writing.specs.Judge.{value, optional_value, named, optional_name, reference, flaw, judge}
use Rattle.reading.specs.Read.{roomed, read_item, scanned_item, refusal_of}
use Rattle.writing.specs.Row.{measured_row, row_bytes, write_row}
use Rattle.reading.specs.Scan.{scan_index, scan_name, scan_primitive, scan_value, head_scan, first_scan, second_scan, scan_extern, scan_reference, slot_scan, end_scan, scan, byte}
use Rattle.fields.specs.Shape.{plan, repeated, seq, widths, row_width}
use Rattle.fields.specs.Table.{shape_in}
use Rattle.fields.specs.View.{view}
use Rattle.fields.specs.Walk.{walk, outs}
use Rattle.fields.specs.Answers.{number_of_refusal, number_of}
use Rattle.writing.specs.Write.{written, sized, measured, stored, write_shape}
use Rattle.items.specs.ReadType.{kind_in, kind_of, lead_grade, read_type}
use Rattle.types.specs.Write as types
use Rattle.types.specs.Write.{measured_type, write_type}
use Rattle.items.specs.ReadImport.{read_import}
use Rattle.imports.specs.Write as imports
use Rattle.imports.specs.Write.{measured_import, write_import}
use Rattle.canonicals.specs.Write.{canonical_bytes, measured_canonical, write_canonical}
use Rattle.instances.specs.Write.{measured_core_instance, write_core_instance, measured_instance, write_instance}
use Rattle.sections.specs.declared.Section.{Section}
use Rattle.sections.specs.Finish.{framing, finishing}
use Rattle.sections.specs.Section.{known_family, holds_at, sounds, measured_family, family_bytes, write_family}
use Rattle.sections.specs.Steps.{Turn, rowing, opening, heading, resulting, abandoning}
use Rattle.sheets.specs.Frame as frame
use Rattle.sheets.specs.Frame.{number, words, rows_from}
use Rattle.sheets.specs.Sheet.{family_of, tries, joined, finished, sheeted}
use Rattle.cabi.specs.Read.{reply_of_read}
use Rattle.cabi.specs.State as c
use Rattle.cabi.specs.State.{given, numbers_of, step}
use Rattle.claims.specs.Kept.{number_of_read}
use Rattle.claims.specs.Numbers.{Among, Exactly, RefusesBy}
use Rattle.claims.proofs.NumberLaws.{Listed, any_shape, Tells, told, read_told, refusal_told, each_any, Allowed, all-allowed, Basic, Measures, measured_why, measured-row_why, stored_why, nameless-plan}
use Rattle.claims.proofs.ReadNumbers.{item_why, refusal_why}
use Rattle.claims.proofs.StepNumbers.{Named, canonical_why, family_why, write_canonical_why, write_family_why, row_why, open_why, head_why, result_why, abandon_why, finish_why, sheet_why}
use Rattle.claims.proofs.NumberInputs as input
use Rattle.claims.proofs.NumberInputs.{each, meets, zeros, zeros-length, too_big}
use Rattle.numbers.proofs.Impossible.{impossible}

exactly : {A : Type 0} {f : A → ℕ} {ns : List ℕ} → ((x : A) → Among (f x) ns) → (xs : List A) → each f xs ≡ ns → Exactly A f ns
exactly {A} {f} {ns} other xs e = record { no_other = other; met = meets f xs ns e }

-- ---- numbers

store_numbers : (bs : List ℕ) (at : ℕ) (out : List ℕ) → Among (numbers.number_of (store bs at out).answer) (0 ∷ 8 ∷ [])
unfolding numbers.number_of
store_numbers bs at out =
    store-either (λ l. Among (numbers.number_of l.answer) (0 ∷ 8 ∷ [])) bs at out (inl refl) (inr (inl refl))

take_numbers : (t : Taken) → Among (numbers.number_of_taken t) (0 ∷ 11 ∷ 13 ∷ [])
unfolding numbers.number_of_taken
take_numbers (Ok number) = inl refl
take_numbers taken.Cut = inr (inl refl)
take_numbers taken.Bad = inr (inr (inl refl))

-- ---- fields: rows of every shape

module _ (row pool : List ℕ) where
  shape_why : (ns : List ℕ) (s : Shape) (start : ℕ) → Tells (Listed (1 ∷ 3 ∷ 4 ∷ 5 ∷ 6 ∷ ns)) (measured s row start pool)
  unfolding number_of_refusal
  shape_why ns s start =
      let P = Listed (1 ∷ 3 ∷ 4 ∷ 5 ∷ 6 ∷ ns) in
      measured_why P s row start pool (any_shape P refl refl refl refl (λ byte. refl) s row start pool)

  found_why : (ns : List ℕ) (found : Option Shape) → Tells (Listed (1 ∷ 2 ∷ 3 ∷ 4 ∷ 5 ∷ 6 ∷ ns)) (measured_row found row pool)
  unfolding number_of_refusal
  found_why ns found =
      let P = Listed (1 ∷ 2 ∷ 3 ∷ 4 ∷ 5 ∷ 6 ∷ ns) in
      measured-row_why P found row pool
      (record { limit = refl; kind = λ e. refl; empty = refl; shape = λ s e. any_shape P refl refl refl refl (λ byte. refl) s row 1 pool })

  shape_numbers : (s : Shape) (start : ℕ) → Among (number_of (measured s row start pool)) (0 ∷ 1 ∷ 3 ∷ 4 ∷ 5 ∷ 6 ∷ [])
  shape_numbers s start = told (1 ∷ 3 ∷ 4 ∷ 5 ∷ 6 ∷ []) (measured s row start pool) (shape_why [] s start)

  found_numbers : (found : Option Shape) → Among (number_of (measured_row found row pool)) (0 ∷ 1 ∷ 2 ∷ 3 ∷ 4 ∷ 5 ∷ 6 ∷ [])
  found_numbers found = told (1 ∷ 2 ∷ 3 ∷ 4 ∷ 5 ∷ 6 ∷ []) (measured_row found row pool) (found_why [] found)

-- ---- types: the parts of a function

part_numbers : (ns : List ℕ) (s : Shape) (words pool out : List ℕ) (at : ℕ) → Listed (ns ++ 8 ∷ []) refusal.Room → Measures (Listed (ns ++ 8 ∷ [])) s words 0 pool
    → Among (number_of (write_shape s words 0 pool out at).answer) (0 ∷ (ns ++ 8 ∷ []))
unfolding write_shape
part_numbers ns s words pool out at room h =
    told (ns ++ 8 ∷ []) (write_shape s words 0 pool out at).answer
    (stored_why (Listed (ns ++ 8 ∷ [])) room (measured s words 0 pool) (written s pool words 0) out at (measured_why (Listed (ns ++ 8 ∷ [])) s words 0 pool h))

-- two words are no row too long
few_words : {X : Type 0} (b : Bool) → b ≡ true → (b ≡ false) ⊎ (b ≡ false) → X
few_words true e (inl k) = impossible cc
few_words true e (inr k) = impossible cc
few_words false e k = impossible cc

result_part : (t x : ℕ) (out : List ℕ) (at : ℕ) → Among (number_of (write_shape types.result_shape (t ∷ x ∷ []) 0 [] out at).answer) (0 ∷ 4 ∷ 8 ∷ [])
unfolding number_of_refusal row_width widths wide
result_part t x out at =
    part_numbers (4 ∷ []) types.result_shape (t ∷ x ∷ []) [] out at refl
    (record {
      limit = few_words;
      width = λ e. impossible cc;
      tag = refl;
      names = nameless-plan (Listed (4 ∷ 8 ∷ [])) types.result_shape refl;
    })

head_part : (words pool out : List ℕ) (at : ℕ) → Among (number_of (write_shape types.head_shape words 0 pool out at).answer) (0 ∷ 1 ∷ 3 ∷ 4 ∷ 5 ∷ 6 ∷ 8 ∷ [])
unfolding number_of_refusal widths wide
head_part words pool out at =
    part_numbers (1 ∷ 3 ∷ 4 ∷ 5 ∷ 6 ∷ []) types.head_shape words pool out at refl
    (record {
      limit = λ b e k. refl;
      width = λ e. refl;
      tag = refl;
      names = each_any (Allowed (Listed (1 ∷ 3 ∷ 4 ∷ 5 ∷ 6 ∷ 8 ∷ []))) (all-allowed (Listed (1 ∷ 3 ∷ 4 ∷ 5 ∷ 6 ∷ 8 ∷ [])) refl (λ byte. refl)) (plan types.head_shape);
    })

item_numbers : (found : Option Shape) (kind lead g : ℕ) (input row : List ℕ)
    → Among (number_of_read (read_item found kind lead g input row).answer) (0 ∷ 1 ∷ 6 ∷ 8 ∷ 11 ∷ 12 ∷ 13 ∷ 14 ∷ [])
unfolding number_of_refusal
item_numbers found kind lead g input row =
    let ns : List ℕ = 1 ∷ 6 ∷ 8 ∷ 11 ∷ 12 ∷ 13 ∷ 14 ∷ [] in
    read_told ns (read_item found kind lead g input row).answer
    (item_why (Listed ns) (record { text = λ byte. refl; cut = refl; code = refl; number = refl; newer = refl }) refl refl found kind lead g input row)

refusal_numbers : (found : Option Shape) (lead g : ℕ) (input : List ℕ)
    → Among (number_of_read (refusal_of (scanned_item found lead g input))) (1 ∷ 6 ∷ 8 ∷ 11 ∷ 12 ∷ 13 ∷ 14 ∷ [])
unfolding number_of_refusal
refusal_numbers found lead g input =
    let ns : List ℕ = 1 ∷ 6 ∷ 8 ∷ 11 ∷ 12 ∷ 13 ∷ 14 ∷ [] in
    refusal_told ns (scanned_item found lead g input)
    (refusal_why (Listed ns) (record { text = λ byte. refl; cut = refl; code = refl; number = refl; newer = refl }) refl refl found lead g input)

read_type_numbers : (g : ℕ) (input row : List ℕ)
    → Among (number_of_read (read_type g input row).answer) (0 ∷ 1 ∷ 6 ∷ 8 ∷ 11 ∷ 12 ∷ 13 ∷ 14 ∷ [])
unfolding read_type
read_type_numbers g input row =
    let k = kind_of (byte input 0) in
    item_numbers (types.shape_of k) k (lead_grade k) g input row

read_import_numbers : (g : ℕ) (input row : List ℕ)
    → Among (number_of_read (read_import g input row).answer) (0 ∷ 1 ∷ 6 ∷ 8 ∷ 11 ∷ 12 ∷ 13 ∷ 14 ∷ [])
unfolding read_import
read_import_numbers g input row = item_numbers (imports.shape_of 17) 17 1 g input row

-- ---- rows

basic : (ns : List ℕ) → Basic (Listed (1 ∷ 2 ∷ 3 ∷ 4 ∷ ns))
unfolding number_of_refusal
basic ns = record { limit = refl; kind = refl; empty = refl; tag = refl }

names : (ns : List ℕ) → Named (Listed (1 ∷ 2 ∷ 3 ∷ 4 ∷ 5 ∷ 6 ∷ ns))
unfolding number_of_refusal
names ns = record { basic = basic (5 ∷ 6 ∷ ns); range = refl; text = λ byte. refl }

module _ (row pool : List ℕ) where
  family_numbers : (family : ℕ) → Among (number_of (measured_family family row pool)) (0 ∷ 1 ∷ 2 ∷ 3 ∷ 4 ∷ 5 ∷ 6 ∷ [])
  family_numbers family =
      let ns : List ℕ = 1 ∷ 2 ∷ 3 ∷ 4 ∷ 5 ∷ 6 ∷ [] in
      told ns (measured_family family row pool) (family_why (Listed ns) (names []) family row pool)

  type_numbers : Among (number_of (measured_type row pool)) (0 ∷ 1 ∷ 2 ∷ 3 ∷ 4 ∷ 5 ∷ 6 ∷ [])
  unfolding measured_family
  type_numbers = family_numbers 7

  import_numbers : Among (number_of (measured_import row pool)) (0 ∷ 1 ∷ 2 ∷ 3 ∷ 4 ∷ 5 ∷ 6 ∷ [])
  unfolding measured_family
  import_numbers = family_numbers 10

  core_instance_numbers : Among (number_of (measured_core_instance row pool)) (0 ∷ 1 ∷ 2 ∷ 3 ∷ 4 ∷ 5 ∷ 6 ∷ [])
  unfolding measured_family
  core_instance_numbers = family_numbers 2

  instance_numbers : Among (number_of (measured_instance row pool)) (0 ∷ 1 ∷ 2 ∷ 3 ∷ 4 ∷ 5 ∷ 6 ∷ [])
  unfolding measured_family
  instance_numbers = family_numbers 5

  canonical_numbers : Among (number_of (measured_canonical row pool)) (0 ∷ 1 ∷ 2 ∷ 3 ∷ 4 ∷ [])
  canonical_numbers = told (1 ∷ 2 ∷ 3 ∷ 4 ∷ []) (measured_canonical row pool) (canonical_why (Listed (1 ∷ 2 ∷ 3 ∷ 4 ∷ [])) (basic []) row pool)

  module _ (out : List ℕ) (at : ℕ) where
    write_family_numbers : (family : ℕ) → Among (number_of (write_family family row pool out at).answer) (0 ∷ 1 ∷ 2 ∷ 3 ∷ 4 ∷ 5 ∷ 6 ∷ 8 ∷ [])
    unfolding number_of_refusal
    write_family_numbers family =
        let ns : List ℕ = 1 ∷ 2 ∷ 3 ∷ 4 ∷ 5 ∷ 6 ∷ 8 ∷ [] in
        told ns (write_family family row pool out at).answer (write_family_why (Listed ns) refl (names (8 ∷ [])) family row pool out at)

    write_type_numbers : Among (number_of (write_type row pool out at).answer) (0 ∷ 1 ∷ 2 ∷ 3 ∷ 4 ∷ 5 ∷ 6 ∷ 8 ∷ [])
    unfolding write_family
    write_type_numbers = write_family_numbers 7

    write_import_numbers : Among (number_of (write_import row pool out at).answer) (0 ∷ 1 ∷ 2 ∷ 3 ∷ 4 ∷ 5 ∷ 6 ∷ 8 ∷ [])
    unfolding write_family
    write_import_numbers = write_family_numbers 10

    write_core_instance_numbers : Among (number_of (write_core_instance row pool out at).answer) (0 ∷ 1 ∷ 2 ∷ 3 ∷ 4 ∷ 5 ∷ 6 ∷ 8 ∷ [])
    unfolding write_family
    write_core_instance_numbers = write_family_numbers 2

    write_instance_numbers : Among (number_of (write_instance row pool out at).answer) (0 ∷ 1 ∷ 2 ∷ 3 ∷ 4 ∷ 5 ∷ 6 ∷ 8 ∷ [])
    unfolding write_family
    write_instance_numbers = write_family_numbers 5

    write_canonical_numbers : Among (number_of (write_canonical row pool out at).answer) (0 ∷ 1 ∷ 2 ∷ 3 ∷ 4 ∷ 8 ∷ [])
    unfolding number_of_refusal
    write_canonical_numbers =
        let ns : List ℕ = 1 ∷ 2 ∷ 3 ∷ 4 ∷ 8 ∷ [] in
        told ns (write_canonical row pool out at).answer (write_canonical_why (Listed ns) refl (basic (8 ∷ [])) row pool out at)

-- ---- steps

module _ (s : Section) where
  row_numbers : (row pool body : List ℕ) → Among (number_of (rowing s row pool body).gave.answer) (0 ∷ 1 ∷ 2 ∷ 3 ∷ 4 ∷ 5 ∷ 6 ∷ 8 ∷ 9 ∷ 10 ∷ [])
  unfolding number_of_refusal
  row_numbers row pool body =
      let ns : List ℕ = 1 ∷ 2 ∷ 3 ∷ 4 ∷ 5 ∷ 6 ∷ 8 ∷ 9 ∷ 10 ∷ [] in
      told ns (rowing s row pool body).gave.answer (row_why (Listed ns) refl s body refl refl refl (names (8 ∷ 9 ∷ 10 ∷ [])) row pool)

  open_numbers : (body : List ℕ) → Among (number_of (opening s body).gave.answer) (0 ∷ 1 ∷ 2 ∷ 9 ∷ 10 ∷ [])
  unfolding number_of_refusal
  open_numbers body =
      let ns : List ℕ = 1 ∷ 2 ∷ 9 ∷ 10 ∷ [] in
      told ns (opening s body).gave.answer (open_why (Listed ns) refl s body refl refl refl)

  head_numbers : (words pool body : List ℕ) → Among (number_of (heading s words pool body).gave.answer) (0 ∷ 1 ∷ 3 ∷ 4 ∷ 5 ∷ 6 ∷ 8 ∷ 9 ∷ [])
  unfolding number_of_refusal
  head_numbers words pool body =
      let ns : List ℕ = 1 ∷ 3 ∷ 4 ∷ 5 ∷ 6 ∷ 8 ∷ 9 ∷ [] in
      told ns (heading s words pool body).gave.answer (head_why (Listed ns) refl s body refl refl refl refl refl (λ byte. refl) words pool)

  result_numbers : (t x : ℕ) (body : List ℕ) → Among (number_of (resulting s t x body).gave.answer) (0 ∷ 1 ∷ 4 ∷ 8 ∷ 9 ∷ [])
  unfolding number_of_refusal
  result_numbers t x body =
      let ns : List ℕ = 1 ∷ 4 ∷ 8 ∷ 9 ∷ [] in
      told ns (resulting s t x body).gave.answer (result_why (Listed ns) refl s body refl refl refl t x)

  abandon_numbers : (body : List ℕ) → Among (number_of (abandoning s body).gave.answer) (0 ∷ 1 ∷ 9 ∷ [])
  unfolding number_of_refusal
  abandon_numbers body =
      let ns : List ℕ = 1 ∷ 9 ∷ [] in
      told ns (abandoning s body).gave.answer (abandon_why (Listed ns) refl s body refl)

  finish_numbers : (body out : List ℕ) → Among (number_of (finishing s body out).answer) (0 ∷ 1 ∷ 7 ∷ 8 ∷ 9 ∷ [])
  unfolding number_of_refusal
  finish_numbers body out =
      let ns : List ℕ = 1 ∷ 7 ∷ 8 ∷ 9 ∷ [] in
      told ns (finishing s body out).answer (finish_why (Listed ns) refl s body refl refl refl out)

sheet_numbers : (input body out : List ℕ) → Among (number_of (sheeted input body out).answer) (0 ∷ 1 ∷ 2 ∷ 3 ∷ 4 ∷ 5 ∷ 6 ∷ 8 ∷ 15 ∷ [])
unfolding number_of_refusal
sheet_numbers input body out =
    let ns : List ℕ = 1 ∷ 2 ∷ 3 ∷ 4 ∷ 5 ∷ 6 ∷ 8 ∷ 15 ∷ [] in
    told ns (sheeted input body out).answer (sheet_why (Listed ns) refl (names (8 ∷ 15 ∷ [])) refl input body out)

-- ---- the same over five numbers: those that are no state are LIMIT

step_numbers : (ns : List ℕ) (state : List ℕ) (f : Section → Turn) (body : List ℕ)
    → ((s : Section) → Among (number_of (f s).gave.answer) (0 ∷ 1 ∷ ns)) → Among (step (given state) f state body).reply.number (0 ∷ 1 ∷ ns)
unfolding number_of number_of_refusal
step_numbers ns state f body h = go (given state)
  where
    go : (g : Option Section) → Among (step g f state body).reply.number (0 ∷ 1 ∷ ns)
    go (Some s) = h s
    go None = inr (inl refl)

finishes_numbers : (g : Option Section) (body out : List ℕ) → Among (c.finishes g body out).reply.number (0 ∷ 1 ∷ 7 ∷ 8 ∷ 9 ∷ [])
unfolding number_of number_of_refusal
finishes_numbers (Some s) body out = finish_numbers s body out
finishes_numbers None body out = inr (inl refl)

read_reply : (r : Read) → Among (number_of_read r) (0 ∷ 1 ∷ 6 ∷ 8 ∷ 11 ∷ 12 ∷ 13 ∷ 14 ∷ [])
    → Among (reply_of_read r).number (0 ∷ 1 ∷ 6 ∷ 8 ∷ 11 ∷ 12 ∷ 13 ∷ 14 ∷ [])
read_reply (Ok item) h = h
read_reply (Err fault) h = h

-- the numbers of the inputs to finishing, of which one is too long to compute with
long : each (λ x. number_of (finishing x.0 x.1 x.2).answer) input.finishes ≡ 0 ∷ 1 ∷ 7 ∷ 8 ∷ 9 ∷ []
unfolding framing finishing sounds known_family holds_at bytes_of stored number_of number_of_refusal
long =
    ap {B = List ℕ} (λ n. 0 ∷ 1 ∷ n ∷ 8 ∷ 9 ∷ [])
    (too_big 4294967295 (omega arith) (zeros 4294967295) input.room (zeros-length 4294967295))

pub refuses_by : RefusesBy
unfolding store part_of bytes_of take_in within32 number_in more numbers.number_of numbers.number_of_taken text.text text.rest text.step name primvaltype valtype optional resultlist functype flag representation destructor indexed canonopt slot_at slots_at slots externname slot_inside extern_inside extern_part typebound externdesc argument coresortidx sortidx bytes wide value optional_value named optional_name reference flaw judge measured_row row_bytes write_row repeated seq widths row_width shape_in view walk outs number_of_refusal number_of sized measured stored write_shape measured_type write_type measured_import write_import measured_canonical canonical_bytes write_canonical measured_core_instance write_core_instance measured_instance write_instance kind_in kind_of lead_grade read_type read_import read_item scanned_item roomed scan_index scan_name scan_primitive scan_value head_scan first_scan second_scan scan_extern scan_reference slot_scan end_scan scan primitive fill_value fill_name fill known_family holds_at sounds measured_family family_bytes write_family rowing opening heading resulting abandoning framing finishing number words rows_from frame.framed family_of tries joined finished sheeted given
refuses_by =
    record {
      copy = exactly (λ x. store_numbers x.0 x.1 x.2) input.copies refl;
      put_unsigned = exactly (λ x. store_numbers (unsigned x.0) x.1 x.2) input.puts refl;
      put_signed = exactly (λ x. store_numbers (signed x.0) x.1 x.2) input.puts refl;
      take_unsigned = exactly (λ x. take_numbers (take_unsigned x)) input.unsigneds refl;
      take_signed = exactly (λ x. take_numbers (take_signed x)) input.signeds refl;
      measure_shape = exactly (λ x. shape_numbers x.1 x.3 x.0 x.2) input.shapes (rw (zeros-length 16385));
      measure_row = exactly (λ x. found_numbers x.1 x.2 x.0) input.founds (rw (zeros-length 16385));
      item_refusal = exactly (λ x. refusal_numbers x.0 x.1 x.2 x.3) input.refused_items refl;
      put_value = exactly (λ x. store_numbers (valtype x.0 x.1) x.2 x.3) input.values refl;
      put_name = exactly (λ x. store_numbers (unsigned x.2 ++ part_of x.0 x.1 x.2) x.3 x.4) input.names refl;
      put_extern = exactly (λ x. store_numbers (extern_part x.0 x.1) x.2 x.3) input.externs refl;
      measure_type = exactly (λ x. type_numbers x.0 x.1) input.types (rw (zeros-length 16385));
      write_type = exactly (λ x. write_type_numbers x.0 x.1 x.2 x.3) input.written_types (rw (zeros-length 16385));
      read_type_lem = exactly (λ x. read_type_numbers x.0 x.1 x.2) input.read_types refl;
      write_head = exactly (λ x. head_part x.0 x.1 x.2 x.3) input.head_parts (rw (zeros-length 16385));
      write_result = exactly (λ x. result_part x.0 x.1 x.2 x.3) input.result_parts refl;
      measure_import = exactly (λ x. import_numbers x.0 x.1) input.imports (rw (zeros-length 16385));
      write_import = exactly (λ x. write_import_numbers x.0 x.1 x.2 x.3) input.written_imports (rw (zeros-length 16385));
      read_import_lem = exactly (λ x. read_import_numbers x.0 x.1 x.2) input.read_imports refl;
      measure_canonical = exactly (λ x. canonical_numbers x.0 x.1) input.canonicals (rw (zeros-length 16385));
      write_canonical = exactly (λ x. write_canonical_numbers x.0 x.1 x.2 x.3) input.written_canonicals (rw (zeros-length 16385));
      measure_core_instance = exactly (λ x. core_instance_numbers x.0 x.1) input.core_instances (rw (zeros-length 16385));
      write_core_instance = exactly (λ x. write_core_instance_numbers x.0 x.1 x.2 x.3) input.written_core_instances (rw (zeros-length 16385));
      measure_instance = exactly (λ x. instance_numbers x.0 x.1) input.instances (rw (zeros-length 16385));
      write_instance = exactly (λ x. write_instance_numbers x.0 x.1 x.2 x.3) input.written_instances (rw (zeros-length 16385));
      write_by = exactly (λ x. write_family_numbers x.1 x.2 x.3 x.4 x.0) input.by_family (rw (zeros-length 16385));
      row = exactly (λ x. row_numbers x.0 x.1 x.2 x.3) input.row_steps (rw (zeros-length 16385));
      open_entry = exactly (λ x. open_numbers x.0 x.1) input.open_steps refl;
      head = exactly (λ x. head_numbers x.0 x.1 x.2 x.3) input.head_steps refl;
      result = exactly (λ x. result_numbers x.0 x.1 x.2 x.3) input.result_steps refl;
      abandon = exactly (λ x. abandon_numbers x.0 x.1) input.abandon_steps refl;
      finish = exactly (λ x. finish_numbers x.0 x.1 x.2) input.finishes long;
      sheet = exactly (λ x. sheet_numbers x.0 x.1 x.2) input.sheets (rw (zeros-length 65537));
      c_row =
          exactly (λ x. step_numbers (2 ∷ 3 ∷ 4 ∷ 5 ∷ 6 ∷ 8 ∷ 9 ∷ 10 ∷ []) x.0 (λ s. rowing s x.1 x.2 x.3) x.3 (λ s. row_numbers s x.1 x.2 x.3))
          (each (λ x. (numbers_of x.0, x.1, x.2, x.3)) input.row_steps) (rw (zeros-length 16385));
      c_open =
          exactly (λ x. step_numbers (2 ∷ 9 ∷ 10 ∷ []) x.0 (λ s. opening s x.1) x.1 (λ s. open_numbers s x.1))
          (each (λ x. (numbers_of x.0, x.1)) input.open_steps) refl;
      c_head =
          exactly (λ x. step_numbers (3 ∷ 4 ∷ 5 ∷ 6 ∷ 8 ∷ 9 ∷ []) x.0 (λ s. heading s x.1 x.2 x.3) x.3 (λ s. head_numbers s x.1 x.2 x.3))
          (each (λ x. (numbers_of x.0, x.1, x.2, x.3)) input.head_steps) refl;
      c_result =
          exactly (λ x. step_numbers (4 ∷ 8 ∷ 9 ∷ []) x.0 (λ s. resulting s x.1 x.2 x.3) x.3 (λ s. result_numbers s x.1 x.2 x.3))
          (each (λ x. (numbers_of x.0, x.1, x.2, x.3)) input.result_steps) refl;
      c_abandon =
          exactly (λ x. step_numbers (9 ∷ []) x.0 (λ s. abandoning s x.1) x.1 (λ s. abandon_numbers s x.1))
          (each (λ x. (numbers_of x.0, x.1)) input.abandon_steps) refl;
      c_finish = exactly (λ x. finishes_numbers (given x.0) x.1 x.2) (each (λ x. (numbers_of x.0, x.1, x.2)) input.finishes) long;
      c_sheet = exactly (λ x. sheet_numbers x.0 x.1 x.2) input.sheets (rw (zeros-length 65537));
      c_read_type = exactly (λ x. read_reply (read_type x.0 x.1 x.2).answer (read_type_numbers x.0 x.1 x.2)) input.read_types refl;
      c_read_import =
          exactly (λ x. read_reply (read_import x.0 x.1 x.2).answer (read_import_numbers x.0 x.1 x.2)) input.read_imports refl;
    }
