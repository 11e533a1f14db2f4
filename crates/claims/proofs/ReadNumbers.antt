-- Why an item is refused: each fault of a field is TEXT, CUT, CODE, NUMBER or NEWER, and so is each of an item.
use Rattle.std.specs.Prelude.{Option, Some, None, Ok, Err}
use Prim.Native.Nat.{ℕ, ◌+◌, ◌-◌, ◌^◌}
use mathlib.Core.List.{List}
use lib.Dec.{eqb, ltb, leb}
use lib.ListN.{length, take, drop}
use Rattle.numbers.specs.Taken.{Taken}
use Rattle.numbers.specs.Taken as taken
use Rattle.numbers.specs.Leb.{take_unsigned, take_signed}
use Rattle.numbers.specs.Text.{text, stop}
use Rattle.fields.specs.declared.Field.{Field}
use Rattle.fields.specs.declared.Field.TheVariants as field
use Rattle.fields.specs.Leaf.{Leaf, Fine}
use Rattle.fields.specs.declared.Refusal.{Refusal}
use Rattle.fields.specs.declared.Refusal.TheVariants as refusal
use Rattle.fields.specs.Words.{indexed}
use Rattle.fields.specs.Answers.{LeftRow, offset_of}
use Rattle.reading.specs.Read.{reader, scanned, filled, roomed, read_found, read_item, scanned_found, scanned_item, refusal_of}
use Rattle.fields.specs.declared.Shape.{Shape}
use Rattle.fields.specs.declared.Site.TheVariants.{CanonOption}
use Rattle.fields.specs.Grades.{grade_of}
use Rattle.reading.specs.Scan.{chosen, byte, there, asked, past, numbered, scan_index, named, scan_name, scan_primitive, scan_value, zero_at, either, scan_optional, then_zero, scan_result, scan_choice, onward, string_at, counted, count_at, slot_scan, end_scan, head_scan, first_scan, second_scan, scan_extern, scan_bound, scan_module, three, scan_reference, scan_either, scan_optional_index, scan, scan_argument, scan_core_sort_index, scan_sort_index}
use Rattle.fields.specs.Shape.{plan}
use Rattle.claims.proofs.Families.{on_test}
use Rattle.claims.proofs.NumberLaws.{AnyText, Ends, TellsRead, each_any, walk_why}

pub record Scans (P : Refusal → Type 0) : Type 0 where
  pub text : AnyText P
  pub cut : P refusal.Cut
  pub code : P refusal.Code
  pub number : P refusal.Number
  pub newer : P refusal.Newer

module _ (P : Refusal → Type 0) (h : Scans P) where
  abbrev Why : Leaf → Type 0
  Why l = Ends P l

  there_why : (bs : List ℕ) (i : ℕ) (l : Leaf) → Why l → Why (there bs i l)
  there_why bs i l k = on_test Why (leb (length bs) i) h.cut k

  asked_why : (g n j : ℕ) (l : Leaf) → Why l → Why (asked g n j l)
  asked_why g n j l k = on_test Why (ltb g n) h.newer k

  past_why : (n : ℕ) (l : Leaf) → Why l → Why (past n l)
  past_why n (Ok span) k = tt
  past_why n (Err fault) k = k

  numbered_why : (bs : List ℕ) (t : Taken) (m : ℕ) → Why (numbered bs t m)
  numbered_why bs (Ok number) m = tt
  numbered_why bs taken.Cut m = h.cut
  numbered_why bs taken.Bad m = h.number

  index_why : (m : ℕ) (bs : List ℕ) → Why (scan_index m bs)
  unfolding scan_index
  index_why m bs = numbered_why bs (take_unsigned bs) m

  name_why : (bs : List ℕ) → Why (scan_name bs)
  unfolding scan_name
  name_why bs = go (take_unsigned bs)
    where
      go : (t : Taken) → Why (named bs t)
      go (Ok number) =
          let cs = take number.value (drop number.took bs) in
          on_test Why (leb (number.took + number.value) (length bs)) (on_test Why (text cs) tt (h.text (offset_of (stop cs)))) h.cut
      go taken.Cut = h.cut
      go taken.Bad = h.number

  primitive_why : (g b : ℕ) (l : Leaf) → Why l → Why (scan_primitive g b l)
  unfolding scan_primitive
  primitive_why g b l k = on_test Why (eqb b 0x64) (asked_why g 2 0 l k) (on_test Why (ltb b 0x73) h.code (on_test Why (ltb b 0x80) k h.code))

  value_why : (g : ℕ) (bs : List ℕ) → Why (scan_value g bs)
  unfolding scan_value
  value_why g bs =
      on_test Why (leb (length bs) 0) h.cut
      (on_test Why (ltb (byte bs 0) 0x40) tt
      (on_test Why (ltb (byte bs 0) 0x80) (primitive_why g (byte bs 0) (Fine 1 2) tt) (numbered_why bs (take_signed bs) 2)))

  zero_why : (bs : List ℕ) (i : ℕ) (l : Leaf) → Why l → Why (zero_at bs i l)
  zero_why bs i l k = on_test Why (leb (length bs) i) h.cut (on_test Why (eqb (byte bs i) 0) k h.code)

  either_why : (bs : List ℕ) (a : ℕ) (l : Leaf) (b : ℕ) (r : Leaf) → Why l → Why r → Why (either bs a l b r)
  either_why bs a l b r k m = on_test Why (leb (length bs) 0) h.cut (on_test Why (eqb (byte bs 0) a) k (on_test Why (eqb (byte bs 0) b) m h.code))

  optional_why : (g : ℕ) (bs : List ℕ) → Why (scan_optional g bs)
  unfolding scan_optional
  optional_why g bs =
      either_why bs 0x00 (Fine 1 2) 0x01 (past 1 (scan_value g (drop 1 bs))) tt (past_why 1 (scan_value g (drop 1 bs)) (value_why g (drop 1 bs)))

  then_zero_why : (bs : List ℕ) (l : Leaf) → Why l → Why (then_zero bs l)
  then_zero_why bs (Ok span) k = zero_why bs span.took (Fine (span.took + 1) span.made) tt
  then_zero_why bs (Err fault) k = k

  result_why : (g : ℕ) (bs : List ℕ) → Why (scan_result g bs)
  unfolding scan_result
  result_why g bs =
      either_why bs 0x00 (past 1 (scan_value g (drop 1 bs))) 0x01 (zero_at bs 1 (Fine 2 2))
      (past_why 1 (scan_value g (drop 1 bs)) (value_why g (drop 1 bs))) (zero_why bs 1 (Fine 2 2) tt)

  behind_why : (n m : ℕ) (bs : List ℕ) → Why (past n (scan_index m (drop n bs)))
  behind_why n m bs = past_why n (scan_index m (drop n bs)) (index_why m (drop n bs))

  choice_why : (g : ℕ) (bs : List ℕ) → Why (scan_choice g bs)
  unfolding scan_choice
  choice_why g bs =
      on_test Why (leb (length bs) 0) h.cut
      (on_test Why (ltb (byte bs 0) 10)
      (asked_why g (grade_of CanonOption (byte bs 0)) 0 (chosen bs) (on_test Why (indexed (byte bs 0)) (behind_why 1 2 bs) tt)) h.code)

  -- ---- extern names

  onward_why : (l : Leaf) (k : ℕ → ℕ → Leaf) → Why l → ((at due : ℕ) → Why (k at due)) → Why (onward l k)
  onward_why (Ok span) k e f = f span.took span.made
  onward_why (Err fault) k e f = e

  string_why : (bs : List ℕ) (at due : ℕ) → Why (string_at bs at due)
  string_why bs at due =
      onward_why (past at (scan_name (drop at bs))) (λ next m. Fine next due) (past_why at (scan_name (drop at bs)) (name_why (drop at bs)))
      (λ next m. tt)

  count_why : (bs : List ℕ) (at : ℕ) → Why (count_at bs at)
  unfolding count_at
  count_why bs at = go (take_unsigned (drop at bs))
    where
      go : (t : Taken) → Why (counted (length bs) t at)
      go (Ok number) = on_test Why (eqb number.value 0) h.code (on_test Why (ltb number.value 4) tt h.code)
      go taken.Cut = h.cut
      go taken.Bad = h.number

  slot_why : (k : ℕ) (bs : List ℕ) (at due : ℕ) → Why (slot_scan k bs at due)
  unfolding slot_scan
  slot_why k bs at due =
      on_test Why (eqb due 0) tt (on_test Why (leb (length bs) at) h.cut (on_test Why (eqb (byte bs at) k) (string_why bs (at + 1) (due - 1)) tt))

  end_why : (bs : List ℕ) (at due : ℕ) → Why (end_scan bs at due)
  unfolding end_scan
  end_why bs at due = on_test Why (eqb due 0) tt (on_test Why (leb (length bs) at) h.cut h.code)

  extern_why : (g : ℕ) (bs : List ℕ) → Why (scan_extern g bs)
  unfolding scan_extern second_scan first_scan head_scan
  extern_why g bs =
      onward_why (onward (second_scan g bs) (slot_scan 0x02 bs)) (end_scan bs)
      (onward_why (second_scan g bs) (slot_scan 0x02 bs)
      (onward_why (first_scan g bs) (slot_scan 0x01 bs)
      (onward_why (head_scan g bs) (slot_scan 0x00 bs)
      (either_why bs 0x00 (string_at bs 1 0) 0x02 (asked g 3 0 (onward (string_at bs 1 0) (λ at due. count_at bs at))) (string_why bs 1 0)
      (asked_why g 3 0 (onward (string_at bs 1 0) (λ at due. count_at bs at))
      (onward_why (string_at bs 1 0) (λ at due. count_at bs at) (string_why bs 1 0) (λ at due. count_why bs at))))
      (slot_why 0x00 bs)) (slot_why 0x01 bs)) (slot_why 0x02 bs)) (end_why bs)

  -- ---- references

  three_why : (l : Leaf) → Why l → Why (three l)
  three_why (Ok span) k = tt
  three_why (Err fault) k = k

  reference_why : (g : ℕ) (bs : List ℕ) → Why (scan_reference g bs)
  unfolding scan_reference scan_module scan_bound
  reference_why g bs =
      on_test Why (leb (length bs) 0) h.cut
      (on_test Why (eqb (byte bs 0) 0) (on_test Why (leb (length bs) 1) h.cut (on_test Why (eqb (byte bs 1) 0x11) (behind_why 2 3 bs) h.code))
      (on_test Why (eqb (byte bs 0) 2) (three_why (past 1 (scan_value g (drop 1 bs))) (past_why 1 (scan_value g (drop 1 bs)) (value_why g (drop 1 bs))))
      (on_test Why (eqb (byte bs 0) 3)
      (on_test Why (leb (length bs) 1) h.cut (on_test Why (eqb (byte bs 1) 0) (behind_why 2 3 bs) (on_test Why (eqb (byte bs 1) 1) tt h.code)))
      (on_test Why (ltb (byte bs 0) 6) (behind_why 1 3 bs) h.code))))

  -- ---- each field, and an item

  byte_why : (g n a b : ℕ) (bs : List ℕ) → Why (scan_either g n a b bs)
  unfolding scan_either
  byte_why g n a b bs = either_why bs a (Fine 1 1) b (asked g n 0 (Fine 1 1)) tt (asked_why g n 0 (Fine 1 1) tt)

  scan_why : (lead g : ℕ) (f : Field) (bs : List ℕ) → Why (scan lead g f bs)
  unfolding scan scan_optional_index scan_argument scan_core_sort_index scan_sort_index scan_module
  scan_why lead g field.Nothing bs = tt
  scan_why lead g (field.Fixed b) bs =
      on_test Why (leb (length bs) 0) h.cut (on_test Why (eqb (byte bs 0) b) (asked_why g lead 0 (Fine 1 0) tt) h.code)
  scan_why lead g field.Primitive bs = on_test Why (leb (length bs) 0) h.cut (primitive_why g (byte bs 0) (Fine 1 1) tt)
  scan_why lead g field.Value bs = value_why g bs
  scan_why lead g field.Optional bs = optional_why g bs
  scan_why lead g field.OptionalThenZero bs = then_zero_why bs (scan_optional g bs) (optional_why g bs)
  scan_why lead g field.Result bs = result_why g bs
  scan_why lead g field.Name bs = name_why bs
  scan_why lead g field.Index bs = index_why 1 bs
  scan_why lead g field.Async bs = byte_why g 2 0x40 0x43 bs
  scan_why lead g field.Flag bs = byte_why g 1 0x00 0x01 bs
  scan_why lead g field.Rep bs = byte_why g 1 0x7f 0x7e bs
  scan_why lead g field.OptionalIndex bs =
      either_why bs 0x00 (Fine 1 2) 0x01 (past 1 (scan_index 2 (drop 1 bs))) tt (behind_why 1 2 bs)
  scan_why lead g field.Choice bs = choice_why g bs
  scan_why lead g field.ExternName bs = extern_why g bs
  scan_why lead g field.Reference bs = reference_why g bs
  scan_why lead g field.Argument bs = on_test Why (leb (length bs) 0) h.cut (on_test Why (eqb (byte bs 0) 0x12) (behind_why 1 1 bs) h.code)
  scan_why lead g field.CoreSortIndex bs = on_test Why (leb (length bs) 0) h.cut (on_test Why (ltb (byte bs 0) 5) (behind_why 1 2 bs) h.code)
  scan_why lead g field.SortIndex bs =
      on_test Why (leb (length bs) 0) h.cut
      (on_test Why (eqb (byte bs 0) 0) (on_test Why (leb (length bs) 1) h.cut (on_test Why (eqb (byte bs 1) 0x11) (behind_why 2 2 bs) h.code))
      (on_test Why (ltb (byte bs 0) 6) (behind_why 1 2 bs) h.code))

  module _ (limit : P refusal.Limit) (room : P refusal.Room) where
    abbrev Says : LeftRow → Type 0
    Says l = TellsRead P l.answer

    roomed_why : (l : Leaf) (ws row : List ℕ) → Why l → Says (roomed l ws row)
    unfolding roomed
    roomed_why (Err fault) ws row k = k
    roomed_why (Ok span) ws row k = on_test Says (ltb 16384 span.made) room (on_test Says (leb span.made (length row)) tt room)

    found_why : (found : Option Shape) (kind lead g : ℕ) (input row : List ℕ) → Says (read_found found kind lead g input row)
    found_why (Some s) kind lead g input row =
        roomed_why (scanned lead g s input) (filled kind lead g s input) row
        (walk_why (λ f. Unit {0}) P (reader lead g input) (λ f bs u. scan_why lead g f bs) (plan s)
        (each_any (λ f. Unit {0}) (λ f. tt) (plan s)) input 0 1)
    found_why None kind lead g input row = h.code

    pub item_why : (found : Option Shape) (kind lead g : ℕ) (input row : List ℕ) → Says (read_item found kind lead g input row)
    unfolding read_item
    item_why found kind lead g input row =
        on_test Says (ltb (2 ^ 30) (length input)) limit
        (on_test Says (ltb g 1) limit
        (on_test Says (ltb 3 g) limit (on_test Says (eqb (length input) 0) h.cut (found_why found kind lead g input row))))

    -- an item that is not read
    pub refusal_why : (found : Option Shape) (lead g : ℕ) (input : List ℕ) → TellsRead P (refusal_of (scanned_item found lead g input))
    unfolding scanned_item
    refusal_why found lead g input =
        refused (scanned_item found lead g input)
        (on_test Why (ltb (2 ^ 30) (length input)) limit
        (on_test Why (ltb g 1) limit (on_test Why (ltb 3 g) limit (on_test Why (eqb (length input) 0) h.cut (scanned_why found)))))
      where
        refused : (l : Leaf) → Why l → TellsRead P (refusal_of l)
        refused (Ok span) k = room
        refused (Err fault) k = k

        scanned_why : (f : Option Shape) → Why (scanned_found f lead g input)
        scanned_why (Some s) =
            walk_why (λ x. Unit {0}) P (reader lead g input) (λ x bs u. scan_why lead g x bs) (plan s)
            (each_any (λ x. Unit {0}) (λ x. tt) (plan s)) input 0 1
        scanned_why None = h.code
