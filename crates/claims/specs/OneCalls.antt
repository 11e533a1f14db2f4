-- Demand 1, (a): no second outcome meets the contract of a public call, a line for each call of each library and of the C interface.
use Rattle.std.specs.Prelude.{◌≡◌}
use contract.Lifetimes.{Lfts}
use denote.Triple.Clauses.{Ended, closing}
use denote.Triple.Entry.{Args}
use borrow.Fn.World.{World, w₀}
use Rattle.numbers.specs.contracts.bytes.copy as call-copy
use Rattle.numbers.specs.contracts.bytes.stored_size as call-stored-size
use Rattle.numbers.specs.contracts.leb.unsigned_size as call-unsigned-size
use Rattle.numbers.specs.contracts.leb.signed_size as call-signed-size
use Rattle.numbers.specs.contracts.leb.put_unsigned as call-put-unsigned
use Rattle.numbers.specs.contracts.leb.put_signed as call-put-signed
use Rattle.numbers.specs.contracts.leb.take_unsigned as call-take-unsigned
use Rattle.numbers.specs.contracts.leb.take_signed as call-take-signed
use Rattle.numbers.specs.contracts.leb.seen_unsigned as call-seen-unsigned
use Rattle.numbers.specs.contracts.leb.seen_signed as call-seen-signed
use Rattle.numbers.specs.contracts.leb.short_signed as call-short-signed
use Rattle.numbers.specs.contracts.text.is_text as call-is-text
use Rattle.numbers.specs.contracts.text.spelling_of as call-spelling-of
use Rattle.fields.specs.contracts.grade_of as call-grade-of
use Rattle.fields.specs.contracts.is_indexed as call-is-indexed
use Rattle.fields.specs.contracts.kind_of as call-kind-of
use Rattle.fields.specs.contracts.two_of as call-two-of
use Rattle.fields.specs.contracts.many_of as call-many-of
use Rattle.writing.specs.contracts.measure_row as call-measure-row
use Rattle.fields.specs.contracts.number_of as call-number-of
use Rattle.fields.specs.contracts.offset_of as call-offset-of
use Rattle.fields.specs.contracts.byte_of as call-byte-of
use Rattle.writing.specs.contracts.measure_shape as call-measure-shape
use Rattle.fields.specs.contracts.first_of as call-first-of
use Rattle.reading.specs.contracts.item_refusal as call-item-refusal
use Rattle.writing.specs.contracts.fits as call-fits
use Rattle.writing.specs.contracts.value_size as call-value-size
use Rattle.writing.specs.contracts.name_size as call-name-size
use Rattle.writing.specs.contracts.put_value as call-put-value
use Rattle.writing.specs.contracts.put_name as call-put-name
use Rattle.writing.specs.contracts.extern_size as call-extern-size
use Rattle.writing.specs.contracts.put_extern as call-put-extern
use Rattle.reading.specs.contracts.primitive as call-read-primitive
use Rattle.reading.specs.contracts.value as call-read-value
use Rattle.reading.specs.contracts.optional as call-read-optional
use Rattle.reading.specs.contracts.result as call-read-result
use Rattle.reading.specs.contracts.name as call-read-name
use Rattle.reading.specs.contracts.is_within as call-is-within
use Rattle.reading.specs.contracts.has_room as call-has-room
use Rattle.types.specs.contracts.shape_of as call-shape-of-type
use Rattle.types.specs.contracts.measure as call-measure-type
use Rattle.types.specs.contracts.write as call-write-type
use Rattle.items.specs.contracts.read_type as call-read-type
use Rattle.types.specs.contracts.steps.write_head as call-write-head
use Rattle.types.specs.contracts.steps.write_result as call-write-result
use Rattle.imports.specs.contracts.shape_of as call-shape-of-import
use Rattle.imports.specs.contracts.measure as call-measure-import
use Rattle.imports.specs.contracts.write as call-write-import
use Rattle.items.specs.contracts.read_import as call-read-import
use Rattle.canonicals.specs.contracts.class_of as call-class-of
use Rattle.canonicals.specs.contracts.shape_of as call-shape-of-canonical
use Rattle.canonicals.specs.contracts.measure as call-measure-canonical
use Rattle.canonicals.specs.contracts.write as call-write-canonical
use Rattle.instances.specs.contracts.core_shape_of as call-shape-of-core-instance
use Rattle.instances.specs.contracts.shape_of as call-shape-of-instance
use Rattle.instances.specs.contracts.measure_core as call-measure-core-instance
use Rattle.instances.specs.contracts.write_core as call-write-core-instance
use Rattle.instances.specs.contracts.measure as call-measure-instance
use Rattle.instances.specs.contracts.write as call-write-instance
use Rattle.canonical_items.specs.contracts.read_canonical as call-read-canonical
use Rattle.instance_items.specs.contracts.read_core_instance as call-read-core-instance
use Rattle.instance_items.specs.contracts.read_instance as call-read-instance
use Rattle.sections.specs.contracts.write_by as call-write-by
use Rattle.sections.specs.contracts.Section.new as call-new
use Rattle.sections.specs.contracts.Section.row as call-row
use Rattle.sections.specs.contracts.Section.open as call-open-entry
use Rattle.sections.specs.contracts.Section.head as call-head
use Rattle.sections.specs.contracts.Section.result as call-result
use Rattle.sections.specs.contracts.Section.abandon as call-abandon
use Rattle.sections.specs.contracts.Section.finish as call-finish
use Rattle.sheets.specs.contracts.sheet as call-sheet
use Rattle.lent.specs.contracts.row as call-lent-row
use Rattle.lent.specs.contracts.open as call-lent-open
use Rattle.lent.specs.contracts.head as call-lent-head
use Rattle.lent.specs.contracts.result as call-lent-result
use Rattle.lent.specs.contracts.abandon as call-lent-abandon
use Rattle.lent.specs.contracts.finish as call-lent-finish
use Rattle.cabi.specs.contracts.tb_sheet as call-tb-sheet
use Rattle.cabi.specs.contracts.tb_read_type as call-tb-read-type
use Rattle.cabi.specs.contracts.tb_read_import as call-tb-read-import
use Rattle.cabi.specs.contracts.tb_row as call-tb-row
use Rattle.cabi.specs.contracts.tb_open as call-tb-open
use Rattle.cabi.specs.contracts.tb_head as call-tb-head
use Rattle.cabi.specs.contracts.tb_result as call-tb-result
use Rattle.cabi.specs.contracts.tb_abandon as call-tb-abandon
use Rattle.cabi.specs.contracts.tb_finish as call-tb-finish
use Rattle.telling.specs.contracts.say as call-say
use Rattle.telling.specs.contracts.say_line as call-say-line
use Rattle.telling.specs.contracts.say_number as call-say-number
use Rattle.telling.specs.contracts.say_field as call-say-field
use Rattle.telling.specs.contracts.say_count as call-say-count
use Rattle.telling.specs.contracts.say_bytes as call-say-bytes
use Rattle.telling.specs.contracts.say_name as call-say-name
use Rattle.telling.specs.contracts.say_meaning as call-say-meaning
use Rattle.telling.specs.contracts.say_byte as call-say-byte
use Rattle.telling.specs.contracts.say_refusal as call-say-refusal
use Rattle.telling.specs.contracts.starts_with as call-starts-with
use Rattle.telling.specs.contracts.next_of as call-next-of
use Rattle.telling.specs.contracts.size_after as call-size-after
use Rattle.telling.specs.contracts.number_at as call-number-at
use Rattle.telling.specs.contracts.words_of as call-words-of
use Rattle.telling.specs.contracts.word as call-word
use Rattle.telling.specs.contracts.word_of as call-word-of
use Rattle.telling.specs.contracts.pattern as call-pattern
use Rattle.telling.specs.contracts.fill as call-fill
use Rattle.telling.specs.contracts.is_kept as call-is-kept
use Rattle.telling.specs.contracts.end_line as call-end-line
use Rattle.numbers.specs.contracts.bytes.part as call-part
use Rattle.claims.specs.One.{Contract, Outcome, Ghost, says, OneOutcome, OneSeen}

pub record NoSecondOutcome : Type 2 where
  -- numbers
  pub copy : OneOutcome call-copy.ended (λ M 𝓤. call-copy.clauses)
  pub stored_size : OneOutcome call-stored-size.ended (λ M 𝓤. call-stored-size.clauses)
  pub unsigned_size : OneOutcome call-unsigned-size.ended (λ M 𝓤. call-unsigned-size.clauses)
  pub signed_size : OneOutcome call-signed-size.ended (λ M 𝓤. call-signed-size.clauses)
  pub put_unsigned : OneOutcome call-put-unsigned.ended (λ M 𝓤. call-put-unsigned.clauses)
  pub put_signed : OneOutcome call-put-signed.ended (λ M 𝓤. call-put-signed.clauses)
  pub take_unsigned : OneOutcome call-take-unsigned.ended (λ M 𝓤. call-take-unsigned.clauses)
  pub take_signed : OneOutcome call-take-signed.ended (λ M 𝓤. call-take-signed.clauses)
  pub seen_unsigned : OneOutcome call-seen-unsigned.ended (λ M 𝓤. call-seen-unsigned.clauses)
  pub seen_signed : OneOutcome call-seen-signed.ended (λ M 𝓤. call-seen-signed.clauses)
  pub short_signed : OneOutcome call-short-signed.ended (λ M 𝓤. call-short-signed.clauses)
  pub is_text : OneOutcome call-is-text.ended (λ M 𝓤. call-is-text.clauses)
  pub spelling_of : OneOutcome call-spelling-of.ended (λ M 𝓤. call-spelling-of.clauses)
  -- fields
  pub grade_of : OneOutcome call-grade-of.ended (λ M 𝓤. call-grade-of.clauses)
  pub is_indexed : OneOutcome call-is-indexed.ended (λ M 𝓤. call-is-indexed.clauses)
  pub kind_of : OneOutcome call-kind-of.ended (λ M 𝓤. call-kind-of.clauses)
  pub two_of : OneOutcome call-two-of.ended (λ M 𝓤. call-two-of.clauses)
  pub many_of : OneOutcome call-many-of.ended (λ M 𝓤. call-many-of.clauses)
  pub number_of : OneOutcome call-number-of.ended (λ M 𝓤. call-number-of.clauses)
  pub offset_of : OneOutcome call-offset-of.ended (λ M 𝓤. call-offset-of.clauses)
  pub byte_of : OneOutcome call-byte-of.ended (λ M 𝓤. call-byte-of.clauses)
  pub first_of : OneOutcome call-first-of.ended (λ M 𝓤. call-first-of.clauses)
  -- writing
  pub measure_row : OneOutcome call-measure-row.ended (λ M 𝓤. call-measure-row.clauses)
  pub measure_shape : OneOutcome call-measure-shape.ended (λ M 𝓤. call-measure-shape.clauses)
  pub fits : OneOutcome call-fits.ended (λ M 𝓤. call-fits.clauses)
  pub value_size : OneOutcome call-value-size.ended (λ M 𝓤. call-value-size.clauses)
  pub name_size : OneOutcome call-name-size.ended (λ M 𝓤. call-name-size.clauses)
  pub put_value : OneOutcome call-put-value.ended (λ M 𝓤. call-put-value.clauses)
  pub put_name : OneOutcome call-put-name.ended (λ M 𝓤. call-put-name.clauses)
  pub extern_size : OneOutcome call-extern-size.ended (λ M 𝓤. call-extern-size.clauses)
  pub put_extern : OneOutcome call-put-extern.ended (λ M 𝓤. call-put-extern.clauses)
  -- reading
  pub item_refusal : OneOutcome call-item-refusal.ended (λ M 𝓤. call-item-refusal.clauses)
  pub read_primitive : OneOutcome call-read-primitive.ended (λ M 𝓤. call-read-primitive.clauses)
  pub read_value : OneOutcome call-read-value.ended (λ M 𝓤. call-read-value.clauses)
  pub read_optional : OneOutcome call-read-optional.ended (λ M 𝓤. call-read-optional.clauses)
  pub read_result : OneOutcome call-read-result.ended (λ M 𝓤. call-read-result.clauses)
  pub read_name : OneOutcome call-read-name.ended (λ M 𝓤. call-read-name.clauses)
  pub is_within : OneOutcome call-is-within.ended (λ M 𝓤. call-is-within.clauses)
  pub has_room : OneOutcome call-has-room.ended (λ M 𝓤. call-has-room.clauses)
  -- types
  pub shape_of_type : OneOutcome call-shape-of-type.ended (λ M 𝓤. call-shape-of-type.clauses)
  pub measure_type : OneOutcome call-measure-type.ended (λ M 𝓤. call-measure-type.clauses)
  pub write_type : OneOutcome call-write-type.ended (λ M 𝓤. call-write-type.clauses)
  pub write_head : OneOutcome call-write-head.ended (λ M 𝓤. call-write-head.clauses)
  pub write_result : OneOutcome call-write-result.ended (λ M 𝓤. call-write-result.clauses)
  -- imports
  pub shape_of_import : OneOutcome call-shape-of-import.ended (λ M 𝓤. call-shape-of-import.clauses)
  pub measure_import : OneOutcome call-measure-import.ended (λ M 𝓤. call-measure-import.clauses)
  pub write_import : OneOutcome call-write-import.ended (λ M 𝓤. call-write-import.clauses)
  -- canonicals
  pub class_of : OneOutcome call-class-of.ended (λ M 𝓤. call-class-of.clauses)
  pub shape_of_canonical : OneOutcome call-shape-of-canonical.ended (λ M 𝓤. call-shape-of-canonical.clauses)
  pub measure_canonical : OneOutcome call-measure-canonical.ended (λ M 𝓤. call-measure-canonical.clauses)
  pub write_canonical : OneOutcome call-write-canonical.ended (λ M 𝓤. call-write-canonical.clauses)
  -- instances
  pub shape_of_core_instance : OneOutcome call-shape-of-core-instance.ended (λ M 𝓤. call-shape-of-core-instance.clauses)
  pub shape_of_instance : OneOutcome call-shape-of-instance.ended (λ M 𝓤. call-shape-of-instance.clauses)
  pub measure_core_instance : OneOutcome call-measure-core-instance.ended (λ M 𝓤. call-measure-core-instance.clauses)
  pub write_core_instance : OneOutcome call-write-core-instance.ended (λ M 𝓤. call-write-core-instance.clauses)
  pub measure_instance : OneOutcome call-measure-instance.ended (λ M 𝓤. call-measure-instance.clauses)
  pub write_instance : OneOutcome call-write-instance.ended (λ M 𝓤. call-write-instance.clauses)
  -- items
  pub read_type : OneOutcome call-read-type.ended (λ M 𝓤. call-read-type.clauses)
  pub read_import : OneOutcome call-read-import.ended (λ M 𝓤. call-read-import.clauses)
  -- canonical_items, instance_items
  pub read_canonical : OneOutcome call-read-canonical.ended (λ M 𝓤. call-read-canonical.clauses)
  pub read_core_instance : OneOutcome call-read-core-instance.ended (λ M 𝓤. call-read-core-instance.clauses)
  pub read_instance : OneOutcome call-read-instance.ended (λ M 𝓤. call-read-instance.clauses)
  -- sections
  pub write_by : OneOutcome call-write-by.ended (λ M 𝓤. call-write-by.clauses)
  pub new : OneOutcome call-new.ended (λ M 𝓤. call-new.clauses)
  pub row : OneOutcome call-row.ended (λ M 𝓤. call-row.clauses)
  pub open_entry : OneOutcome call-open-entry.ended (λ M 𝓤. call-open-entry.clauses)
  pub head : OneOutcome call-head.ended (λ M 𝓤. call-head.clauses)
  pub result : OneOutcome call-result.ended (λ M 𝓤. call-result.clauses)
  pub abandon : OneOutcome call-abandon.ended (λ M 𝓤. call-abandon.clauses)
  pub finish : OneOutcome call-finish.ended (λ M 𝓤. call-finish.clauses)
  -- sheets
  pub sheet : OneOutcome call-sheet.ended (λ M 𝓤. call-sheet.clauses)
  -- lent: the state at exit is part of the outcome
  pub lent_row : OneOutcome call-lent-row.ended (λ M 𝓤. call-lent-row.clauses)
  pub lent_open : OneOutcome call-lent-open.ended (λ M 𝓤. call-lent-open.clauses)
  pub lent_head : OneOutcome call-lent-head.ended (λ M 𝓤. call-lent-head.clauses)
  pub lent_result : OneOutcome call-lent-result.ended (λ M 𝓤. call-lent-result.clauses)
  pub lent_abandon : OneOutcome call-lent-abandon.ended (λ M 𝓤. call-lent-abandon.clauses)
  pub lent_finish : OneOutcome call-lent-finish.ended (λ M 𝓤. call-lent-finish.clauses)
  -- cabi
  pub tb_sheet : OneOutcome call-tb-sheet.ended (λ M 𝓤. call-tb-sheet.clauses)
  pub tb_read_type : OneOutcome call-tb-read-type.ended (λ M 𝓤. call-tb-read-type.clauses)
  pub tb_read_import : OneOutcome call-tb-read-import.ended (λ M 𝓤. call-tb-read-import.clauses)
  pub tb_row : OneOutcome call-tb-row.ended (λ M 𝓤. call-tb-row.clauses)
  pub tb_open : OneOutcome call-tb-open.ended (λ M 𝓤. call-tb-open.clauses)
  pub tb_head : OneOutcome call-tb-head.ended (λ M 𝓤. call-tb-head.clauses)
  pub tb_result : OneOutcome call-tb-result.ended (λ M 𝓤. call-tb-result.clauses)
  pub tb_abandon : OneOutcome call-tb-abandon.ended (λ M 𝓤. call-tb-abandon.clauses)
  pub tb_finish : OneOutcome call-tb-finish.ended (λ M 𝓤. call-tb-finish.clauses)
  -- telling: what is printed is no part of an outcome
  pub say : OneOutcome call-say.ended (λ M 𝓤. call-say.clauses)
  pub say_line : OneOutcome call-say-line.ended (λ M 𝓤. call-say-line.clauses)
  pub say_number : OneOutcome call-say-number.ended (λ M 𝓤. call-say-number.clauses)
  pub say_field : OneOutcome call-say-field.ended (λ M 𝓤. call-say-field.clauses)
  pub say_count : OneOutcome call-say-count.ended (λ M 𝓤. call-say-count.clauses)
  pub say_bytes : OneOutcome call-say-bytes.ended (λ M 𝓤. call-say-bytes.clauses)
  pub say_name : OneOutcome call-say-name.ended (λ M 𝓤. call-say-name.clauses)
  pub say_meaning : OneOutcome call-say-meaning.ended (λ M 𝓤. call-say-meaning.clauses)
  pub say_byte : OneOutcome call-say-byte.ended (λ M 𝓤. call-say-byte.clauses)
  pub say_refusal : OneOutcome call-say-refusal.ended (λ M 𝓤. call-say-refusal.clauses)
  pub starts_with : OneOutcome call-starts-with.ended (λ M 𝓤. call-starts-with.clauses)
  pub next_of : OneOutcome call-next-of.ended (λ M 𝓤. call-next-of.clauses)
  pub size_after : OneOutcome call-size-after.ended (λ M 𝓤. call-size-after.clauses)
  pub number_at : OneOutcome call-number-at.ended (λ M 𝓤. call-number-at.clauses)
  pub words_of : OneOutcome call-words-of.ended (λ M 𝓤. call-words-of.clauses)
  pub word : OneOutcome call-word.ended (λ M 𝓤. call-word.clauses)
  pub word_of : OneOutcome call-word-of.ended (λ M 𝓤. call-word-of.clauses)
  pub pattern : OneOutcome call-pattern.ended (λ M 𝓤. call-pattern.clauses)
  pub fill : OneOutcome call-fill.ended (λ M 𝓤. call-fill.clauses)
  pub is_kept : OneOutcome call-is-kept.ended (λ M 𝓤. call-is-kept.clauses)
  pub end_line : OneOutcome call-end-line.ended (λ M 𝓤. call-end-line.clauses)
  -- the exception: of a part the bytes are told, and not where it stands (input 61 61, start 0, size 1: either byte's place)
  pub part : OneSeen call-part.ended (λ M 𝓤. call-part.clauses) (λ κs a x. x.0.now)
  -- it is an exception indeed: as they stand, its clauses leave the place open
  pub part_is_an_exception : OneOutcome call-part.ended (λ M 𝓤. call-part.clauses) → ⊥
  -- outside the logic: at the closed model two outcomes of which the clauses hold are equal
  pub plainly : (T : Ended) (C : Contract T) → OneOutcome T C
      → (κs : Lfts T.signature.lifetimes) (a : Args T.signature κs) (g : Ghost T C w₀ κs a) (x y : Outcome T κs a) (m : w₀.M)
      → (says T C w₀ κs a g x).holds m → (says T C w₀ κs a g y).holds m → ∥ x ≡ y ∥₁
  -- the clauses are those that the call's theorem is about, of a writer and of a step
  pub write_type_tied : (w : World)
      → closing w.𝓛 call-write-type.ended (call-write-type.clauses w.𝓛 w.𝓜.mem w.𝓡.run)
      ≡ call-write-type.spec w.𝓛 w.𝓜.mem w.𝓡.run
  pub row_tied : (w : World)
      → closing w.𝓛 call-row.ended (call-row.clauses w.𝓛 w.𝓜.mem w.𝓡.run)
      ≡ call-row.spec w.𝓛 w.𝓜.mem w.𝓡.run
