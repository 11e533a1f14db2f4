-- Demand 3, from the laws of reading a type and an import.
use Rattle.std.specs.Prelude.{Option, Some, None, Ok}
use Prim.Native.Nat.{ℕ, ◌+◌, ◌≤◌, ◌<◌, ◌^◌}
use native.Mathlib.Omega.{arith}
use mathlib.Core.Path.{◌≡◌, refl, sym, ap, ◌∙◌, subst}
use mathlib.Core.Bool.{Bool, true, false, cond}
use mathlib.Core.List.{List, [], ◌∷◌, ◌++◌}
use borrow.Author.Tests.{ltb-true, ltb-false}
use lib.Dec.{eqb, ltb}
use lib.ListN.{length, take, drop, take-append-drop}
use Rattle.numbers.specs.Bytes.{Bytes}
use Rattle.numbers.specs.Leb.{bytes_of}
use Rattle.numbers.specs.Text.{text, rest, step}
use Rattle.numbers.proofs.BytesLaws.{sets_back}
use Rattle.fields.specs.Read.{Item, Refused}
use Rattle.fields.specs.declared.Refusal.{Refusal}
use Rattle.fields.specs.declared.Refusal.TheVariants as refusal
use Rattle.fields.specs.declared.Shape.{Shape}
use Rattle.fields.specs.Words.{word, Words, wide}
use Rattle.writing.specs.Binary.{name, bytes}
use Rattle.writing.specs.Judge.{named, flaw, judge}
use Rattle.round_trip.specs.Mark.{Mark, Clear, At, SameFields}
use Rattle.fields.specs.Answers.{LeftRow, left_row}
use Rattle.reading.specs.Read.{read_found, read_item}
use Rattle.writing.specs.Row.{measured_row, row_bytes, write_row}
use Rattle.reading.specs.Scan.{byte}
use Rattle.fields.specs.Shape.{repeated, seq, widths, row_width}
use Rattle.fields.specs.Table.{shape_in}
use Rattle.fields.specs.View.{Name, view, said}
use Rattle.fields.specs.Walk.{walk, outs}
use Rattle.fields.proofs.OutcomeLaws.{item-same}
use Rattle.writing.specs.Write.{sized, measured, stored}
use Rattle.round_trip.specs.Returned.{ReadsBack}
use Rattle.round_trip.specs.Padded.{Padded}
use Rattle.round_trip.proofs.ItemLaws as item
use Rattle.round_trip.proofs.PaddedLaws.{padded_by, padded-again}
use Rattle.items.specs.ReadType.{lead_grade, read_type}
use Rattle.claims.specs.Demand3.{type_mark, import_mark, core_instance_mark, instance_mark, shape_by, flags_row, flags_pool, flags_bytes, other_words, Demand3, reads, SameBy, Same, first_above, Marking, ReadBack, Returned, WrittenAgain}
use Rattle.types.specs.Table as typeTable
use Rattle.types.specs.Write as typeWrite
use Rattle.types.specs.Write.{measured_type, write_type}
use Rattle.claims.proofs.TypesBack.{type-back, type-only}
use Rattle.items.specs.ReadImport.{read_import}
use Rattle.imports.specs.Table as importTable
use Rattle.imports.specs.Write as importWrite
use Rattle.imports.specs.Write.{measured_import, write_import}
use Rattle.claims.proofs.ImportsBack.{import-back, import-only}
use Rattle.instances.specs.Table as instanceTable
use Rattle.instances.specs.Write as instanceWrite
use Rattle.instances.specs.Write.{measured_core_instance, write_core_instance, measured_instance, write_instance}
use Rattle.instance_items.specs.ReadInstance.{read_core_instance, read_instance}
use Rattle.canonicals.specs.Write as canonicalWrite
use Rattle.canonicals.specs.Write.{write_canonical}
use Rattle.canonical_items.specs.ReadCanonical as canonicalRead
use Rattle.canonical_items.specs.ReadCanonical.{read_lift, read_canonical}
use Rattle.claims.proofs.CanonicalsBack.{canonical_back, canonical_only, canonical_newer}
use Rattle.claims.proofs.LiftBack.{lift_limits}
use Rattle.claims.proofs.InstancesBack.{core_instance-back, core_instance-only, instance_back, instance_only}
use Rattle.sections.specs.Section.{fresh, entries_of, measured_family, family_bytes, write_family}
use Rattle.sections.proofs.TurnLaws.{row_turns, accepted_size}
use Rattle.claims.specs.Valid.{Family, core_instances, instances, types, canonicals, imports, Valid, production}
use Rattle.claims.proofs.Production.{family-production}
use Rattle.claims.proofs.MarkLaws.{table_marks, of_table, row_mark_lem}
use Rattle.numbers.proofs.Impossible.{impossible}

-- ---- a valid row has a size, which is the length of its production

valid-size : (family : ℕ) (row pool : List ℕ) → Valid family row pool → measured_family family row pool ≡ Ok (length (family_bytes family pool row))
valid-size family row pool v = accepted_size (row_turns (fresh family) v.0 row pool) v.1

-- its bytes are its production
pub valid-bytes : (family : ℕ) → Family family → (row pool : List ℕ) → Valid family row pool → family_bytes family pool row ≡ production family pool row
valid-bytes family f row pool v = family-production family row pool _ (valid-size family row pool v)

pub valid_measured : (family : ℕ) → Family family → (row pool : List ℕ) → Valid family row pool
    → measured_family family row pool ≡ Ok (length (production family pool row))
valid_measured family f row pool v = valid-size family row pool v ∙ ap (λ bs. Ok (length bs)) (valid-bytes family f row pool v)

-- ---- read back

module _ (family : ℕ) (row pool input room : List ℕ) where
  abbrev found : Option Shape
  found = shape_by (entries_of family) (word row 0)

  -- what is said of the kind's shape is said of the row
  of_kind : (mk : Mark) (l : LeftRow) → ReadsBack found mk pool row input room (length (production family pool row)) l
      → ReadBack mk family pool row input room l
  of_kind (At j) l r = r.reads
  of_kind Clear l r = (
    r.reads.0,
    λ h.
        let t = r.reads.1 h in
        record {
          words = t.words;
          leaves = t.leaves;
          same = subst (λ f. SameBy f pool row input t.words) (sym r.is) t.same;
        },
  )

-- a row that has a size, by which it is written as its production
sized-back : (family : ℕ) → Family family → (row pool : List ℕ) → Words row
    → measured_family family row pool ≡ Ok (length (production family pool row)) → family_bytes family pool row ≡ production family pool row
    → (rest room : List ℕ) (g : ℕ) → 1 ≤ g → g ≤ 3 → length (production family pool row ++ rest) ≤ 2 ^ 30
    → ReadBack (first_above family g pool row) family pool row (production family pool row ++ rest) room
    (reads family g (production family pool row ++ rest) room)
unfolding measured_family family_bytes
sized-back family types row pool fw m p rest room g any top short =
    of_kind 7 row pool _ room _ _ (type-back g row pool _ fw m rest _ room (ap (λ bs. bs ++ rest) (sym p)) any top short)
sized-back family canonicals row pool fw m p rest room g any top short =
    of_kind 8 row pool _ room _ _ (canonical_back g row pool _ fw m rest _ room (ap (λ bs. bs ++ rest) (sym p)) any top short)
sized-back family imports row pool fw m p rest room g any top short =
    of_kind 10 row pool _ room _ _ (import-back g row pool _ fw m rest _ room (ap (λ bs. bs ++ rest) (sym p)) any top short)
sized-back family core_instances row pool fw m p rest room g any top short =
    of_kind 2 row pool _ room _ _ (core_instance-back g row pool _ fw m rest _ room (ap (λ bs. bs ++ rest) (sym p)) any top short)
sized-back family instances row pool fw m p rest room g any top short =
    of_kind 5 row pool _ room _ _ (instance_back g row pool _ fw m rest _ room (ap (λ bs. bs ++ rest) (sym p)) any top short)

read_back : (family : ℕ) → Family family → (row pool : List ℕ) → Words row → Valid family row pool
    → (rest room : List ℕ) (g : ℕ) → 1 ≤ g → g ≤ 3 → length (production family pool row ++ rest) ≤ 2 ^ 30
    → ReadBack (first_above family g pool row) family pool row (production family pool row ++ rest) room
    (reads family g (production family pool row ++ rest) room)
read_back family f row pool fw v = sized-back family f row pool fw (valid_measured family f row pool v) (valid-bytes family f row pool v)

-- ---- nothing else is returned

-- a refusal is no item
refused : {w : Refusal} {n q e : ℕ} {row after : List ℕ} {A : Type 0} → left_row (Refused w n) row ≡ left_row (Item q e) after → A
refused {w} {n} {q} {e} r =
    let a : Refused w n ≡ Item q e = ap (λ l. l.answer) r in
    impossible cc

-- an item is returned only at a grade, and of an input within the limit
abbrev Limits : ℕ → List ℕ → Type 0
Limits g input = (1 ≤ g) × (g ≤ 3) × (length input ≤ 2 ^ 30)

item-limits : (f : Option Shape) (kind lead g : ℕ) (input room after : List ℕ) (q e : ℕ) → read_item f kind lead g input room ≡ left_row (Item q e) after
    → Limits g input
unfolding read_item
item-limits f kind lead g input room after q e r = go (ltb (2 ^ 30) (length input)) (ltb g 1) (ltb 3 g) refl refl refl r
  where
    go : (a b c : Bool) → ltb (2 ^ 30) (length input) ≡ a → ltb g 1 ≡ b → ltb 3 g ≡ c
        → cond a (left_row (Refused refusal.Limit 0) room)
        (cond b (left_row (Refused refusal.Limit 0) room)
        (cond c (left_row (Refused refusal.Limit 0) room)
        (cond (eqb (length input) 0) (left_row (Refused refusal.Cut 0) room) (read_found f kind lead g input room)))) ≡ left_row (Item q e) after
        → Limits g input
    go true b c x y z r = refused r
    go false true c x y z r = refused r
    go false false true x y z r = refused r
    go false false false x y z r = (ltb-false _ _ y, ltb-false _ _ z, ltb-false _ _ x)

reads-limits : (family : ℕ) → Family family → (g : ℕ) (input room after : List ℕ) (q e : ℕ)
    → reads family g input room ≡ left_row (Item q e) after → Limits g input
unfolding read_type read_canonical read_import read_core_instance read_instance
reads-limits family types g input room after q e r = item-limits _ _ _ g input room after q e r
reads-limits family canonicals g input room after q e r = go (eqb (byte input 0) 0) r
  where
    go : (b : Bool)
        → cond b (read_lift g input room)
        (read_item (canonicalWrite.shape_of (256 + byte input 0)) (256 + byte input 0) (canonicalRead.lead_grade (256 + byte input 0)) g input room)
        ≡ left_row (Item q e) after
        → Limits g input
    go true r = lift_limits g input room after q e r
    go false r = item-limits _ _ _ g input room after q e r
reads-limits family imports g input room after q e r = item-limits _ _ _ g input room after q e r
reads-limits family core_instances g input room after q e r = item-limits _ _ _ g input room after q e r
reads-limits family instances g input room after q e r = item-limits _ _ _ g input room after q e r

module _ (family : ℕ) (row pool input room after : List ℕ) (q e : ℕ) where
  -- the words that are returned are as many as the row's
  same_long : (f : Option Shape) (words : List ℕ) → SameBy f pool row input words → length words ≡ length row
  same_long (Some s) words same = same.long
  same_long None words same = absurd same

  abbrev Its : Type 0
  Its = (q ≡ length row) × (e ≡ length (production family pool row)) × Same family pool row input (take q after)

  returned : length row ≤ length room → Returned family pool row input room (left_row (Item q e) after) → Its
  returned h t =
      let ws = t.words in
      let item : Item q e ≡ Item (length row) (length (production family pool row)) = ap (λ l. l.answer) t.leaves in
      let eq = (item-same item).0 in
      let ee = (item-same item).1 in
      let long = same_long (found family row pool input room) ws t.same in
      let fits : 0 + length ws ≤ length room = omega (arith, long) in
      let back : take q after ≡ ws = (λ i. take ((eq ∙ sym long) i) (t.leaves i).row) ∙ sets_back ws room 0 fits in
      (eq, ee, subst (λ l. Same family pool row input l) (sym back) t.same)

  -- of the outcomes of reading back only an item is one
  only : (mk : Mark) → ReadBack mk family pool row input room (left_row (Item q e) after) → Its
  only (At j) r = refused (sym r)
  only Clear r = go (ltb (length room) (length row)) refl
    where
      go : (b : Bool) → ltb (length room) (length row) ≡ b → Its
      go true t = refused (sym (r.0 (ltb-true _ _ t)))
      go false t = let h = ltb-false _ _ t in returned h (r.1 h)

never_another : (family : ℕ) → Family family → (row pool : List ℕ) → Words row → Valid family row pool
    → (rest room after : List ℕ) (g words bytes : ℕ)
    → reads family g (production family pool row ++ rest) room ≡ left_row (Item words bytes) after
    → (words ≡ length row) × (bytes ≡ length (production family pool row))
    × Same family pool row (production family pool row ++ rest) (take words after)
never_another family f row pool fw v rest room after g words bytes r =
    let input = production family pool row ++ rest in
    let l = reads-limits family f g input room after words bytes r in
    only family row pool input room after words bytes (first_above family g pool row)
    (subst (λ x. ReadBack (first_above family g pool row) family pool row input room x) r
    (read_back family f row pool fw v rest room g l.0 l.1 l.2))

-- ---- NEWER's place

-- every byte by which a line of a table is marked is among the marking ones
types-mark : table_marks 7 lead_grade typeTable.table ≡ true
unfolding lead_grade shape_in
types-mark = refl

imports-mark : table_marks 10 (λ k. 1) importTable.table ≡ true
imports-mark = refl

core_instances-mark : table_marks 2 (λ k. 1) instanceTable.core_table ≡ true
core_instances-mark = refl

instances-mark : table_marks 5 (λ k. 1) instanceTable.table ≡ true
instances-mark = refl

newer_at : (family : ℕ) → Family family → (row pool : List ℕ) → Words row → Valid family row pool
    → (g j : ℕ) → 1 ≤ g → first_above family g pool row ≡ At j
    → (j < length (production family pool row)) × Marking family g (byte (production family pool row) j)
unfolding measured_family family_bytes measured_type measured_import measured_core_instance measured_instance type_mark import_mark core_instance_mark instance_mark
newer_at family types row pool fw v g j any m =
    rw (← valid-bytes 7 types row pool v)
    (row_mark_lem 7 (lead_grade (word row 0)) g any (typeWrite.shape_of (word row 0)) row pool _ (valid_measured 7 types row pool v)
    (of_table 7 lead_grade typeTable.table types-mark (word row 0)) j m)
newer_at family canonicals row pool fw v g j any m =
    rw (← valid-bytes 8 canonicals row pool v) (canonical_newer row pool _ (valid_measured 8 canonicals row pool v) g j any m)
newer_at family imports row pool fw v g j any m =
    rw (← valid-bytes 10 imports row pool v)
    (row_mark_lem 10 1 g any (importWrite.shape_of (word row 0)) row pool _ (valid_measured 10 imports row pool v)
    (of_table 10 (λ k. 1) importTable.table imports-mark (word row 0)) j m)
newer_at family core_instances row pool fw v g j any m =
    rw (← valid-bytes 2 core_instances row pool v)
    (row_mark_lem 2 1 g any (instanceWrite.core_shape_of (word row 0)) row pool _ (valid_measured 2 core_instances row pool v)
    (of_table 2 (λ k. 1) instanceTable.core_table core_instances-mark (word row 0)) j m)
newer_at family instances row pool fw v g j any m =
    rw (← valid-bytes 5 instances row pool v)
    (row_mark_lem 5 1 g any (instanceWrite.shape_of (word row 0)) row pool _ (valid_measured 5 instances row pool v)
    (of_table 5 (λ k. 1) instanceTable.table instances-mark (word row 0)) j m)

-- ---- written again

-- what is said of the shape that was found is said of the family
record Rewritten (family g : ℕ) (input taken row : List ℕ) : Type 0 where
  small : Words row
  clear : first_above family g taken row ≡ Clear
  accepts : measured_family family row taken ≡ Ok (length (family_bytes family taken row))
  again : Padded taken (family_bytes family taken row)
  writes : (out : List ℕ) (at : ℕ)
      → write_family family row taken out at ≡ stored (measured_family family row taken) (family_bytes family taken row) out at
  same : (other pool : List ℕ) (m : ℕ) → measured_family family other pool ≡ Ok m → Same family pool other input row
      → family_bytes family taken row ≡ family_bytes family pool other

-- the same item is of the same kind
by_kind : (find : ℕ → Option Shape) (lead g : ℕ) (input taken row : List ℕ) → item.WrittenAgain (find (word row 0)) lead g input taken row
    → (other pool : List ℕ) (m : ℕ) → measured_row (find (word other 0)) other pool ≡ Ok m → SameBy (find (word other 0)) pool other input row
    → row_bytes (find (word row 0)) taken row ≡ row_bytes (find (word other 0)) pool other
by_kind find lead g input taken row o other pool m a same = go (find (word other 0)) refl same
  where
    go : (f : Option Shape) → find (word other 0) ≡ f → SameBy f pool other input row → row_bytes (find (word row 0)) taken row ≡ row_bytes (find (word other 0)) pool other
    go (Some s) e same =
        let kind : word row 0 ≡ word other 0 = same.kind in
        o.same s (ap find kind ∙ e) pool other m (ap (λ k. measured_row (find k) other pool) kind ∙ a) same
        ∙ ap (λ k. row_bytes (find k) pool other) kind
    go None e same = absurd same

rewritten : (family : ℕ) → Family family → (input room after : List ℕ) (g words bytes : ℕ) → Bytes input → 1 ≤ g
    → reads family g input room ≡ left_row (Item words bytes) after → bytes ≤ 65536
    → Rewritten family g input (take bytes input) (take words after)
unfolding measured_family family_bytes write_family measured_type write_type measured_import write_import write_canonical measured_core_instance write_core_instance measured_instance write_instance write_row type_mark import_mark core_instance_mark instance_mark
rewritten family types input room after g words bytes fi any r few =
    let o = type-only g input room after words bytes fi any r few in
    record {
      small = o.small;
      clear = o.clear;
      accepts = o.accepts;
      again = o.again;
      writes = λ out at. refl;
      same = by_kind typeWrite.shape_of _ g input (take bytes input) (take words after) o;
    }
rewritten family canonicals input room after g words bytes fi any r few =
    let o = canonical_only g input room after words bytes fi any r few in
    record {
      small = o.small;
      clear = o.clear;
      accepts = o.accepts;
      again = o.again;
      writes = λ out at. refl;
      same = o.same;
    }
rewritten family imports input room after g words bytes fi any r few =
    let o = import-only g input room after words bytes fi any r few in
    record {
      small = o.small;
      clear = o.clear;
      accepts = o.accepts;
      again = o.again;
      writes = λ out at. refl;
      same = by_kind importWrite.shape_of _ g input (take bytes input) (take words after) o;
    }
rewritten family core_instances input room after g words bytes fi any r few =
    let o = core_instance-only g input room after words bytes fi any r few in
    record {
      small = o.small;
      clear = o.clear;
      accepts = o.accepts;
      again = o.again;
      writes = λ out at. refl;
      same = by_kind instanceWrite.core_shape_of _ g input (take bytes input) (take words after) o;
    }
rewritten family instances input room after g words bytes fi any r few =
    let o = instance_only g input room after words bytes fi any r few in
    record {
      small = o.small;
      clear = o.clear;
      accepts = o.accepts;
      again = o.again;
      writes = λ out at. refl;
      same = by_kind instanceWrite.shape_of _ g input (take bytes input) (take words after) o;
    }

written_again : (family : ℕ) → Family family → (input room after : List ℕ) (g words bytes : ℕ) → Bytes input
    → reads family g input room ≡ left_row (Item words bytes) after → bytes ≤ 65536 → WrittenAgain family g (take bytes input) (take words after)
written_again family f input room after g words bytes fi r few =
    let taken = take bytes input in
    let row = take words after in
    let l = reads-limits family f g input room after words bytes r in
    let o = rewritten family f input room after g words bytes fi l.0 r few in
    let p : family_bytes family taken row ≡ production family taken row = family-production family row taken _ o.accepts in
    let m : measured_family family row taken ≡ Ok (length (production family taken row)) = o.accepts ∙ ap (λ bs. Ok (length bs)) p in
    record {
      writes = λ out at. o.writes out at ∙ (λ i. stored (m i) (p i) out at);
      padded = padded_by (sym p) o.again refl;
      again = padded-again (padded_by (sym p) o.again refl);
      unpadded = λ other pool fw v is.
          let rest = drop bytes input in
          let whole : production family pool other ++ rest ≡ input = ap (λ l. l ++ rest) (sym is) ∙ take-append-drop bytes input in
          let read = subst (λ l. reads family g l room ≡ left_row (Item words bytes) after) (sym whole) r in
          let same = subst (λ l. Same family pool other l row) whole (never_another family f other pool fw v rest room after g words bytes read).2 in
          sym p ∙ o.same other pool _ (valid-size family other pool v) same ∙ valid-bytes family f other pool v ∙ sym is;
      same_item = λ rest space short fits.
          let input' = production family taken row ++ rest in
          (subst (λ k. ReadBack k family taken row input' space (reads family g input' space)) o.clear
          (sized-back family f row taken o.small m p rest space g l.0 l.1 short)).1 fits;
    }

-- ---- names that only run together alike

not_the_same : ((out : List ℕ) (at : ℕ) → write_family 7 flags_row flags_pool out at ≡ stored (Ok 6) flags_bytes out at)
    × (Same 7 flags_pool flags_row flags_bytes other_words → ⊥)
unfolding write_family write_type write_row measured_row measured sized row_bytes row_width widths walk outs seq repeated judge flaw named wide text rest step bytes_of name bytes view shape_in SameFields said
not_the_same = ((λ out at. refl), other)
  where
    other : Same 7 flags_pool flags_row flags_bytes other_words → ⊥
    other same =
        let names : Name 1 [] ∷ [] ≡ Name 1 (0x02 ∷ []) ∷ [] = same.says.1.1.1.1.1.0 in
        impossible cc

pub demand_3 : Demand3
demand_3 =
    record {
      read_back = read_back;
      never_another = never_another;
      newer_at = newer_at;
      written_again = written_again;
      not_the_same = not_the_same;
    }
