-- Document 01's whole case: a sheet with the one type string becomes the section 07 02 01 73.
use Rattle.std.specs.Prelude.{Ok}
use Prim.Native.Nat.{ℕ}
use mathlib.Core.Path.{◌≡◌, refl}
use mathlib.Core.List.{List, [], ◌∷◌}
use Rattle.numbers.specs.Leb.{bytes_of}
use Rattle.fields.specs.Answer.{Refused}
use Rattle.fields.specs.declared.Refusal.TheVariants as refusal
use Rattle.writing.specs.Binary.{primvaltype, bytes}
use Rattle.fields.specs.Words.{wide}
use Rattle.writing.specs.Judge.{flaw, judge}
use Rattle.writing.specs.Row.{measured_row, row_bytes}
use Rattle.fields.specs.Shape.{repeated, seq, widths, row_width}
use Rattle.fields.specs.Table.{shape_in}
use Rattle.fields.specs.View.{view}
use Rattle.fields.specs.Walk.{walk, outs}
use Rattle.writing.specs.Write.{sized, measured}
use Rattle.types.specs.Write.{measured_type}
use Rattle.sheets.specs.Frame.{number, words, rows_from, framed}
use Rattle.sections.specs.Section.{measured_family, family_bytes}
use Rattle.sheets.specs.Sheet.{left, family_of, tries, joined, finished, sheeted}

abbrev input : List ℕ
input = 1 ∷ 0 ∷ 0 ∷ 0 ∷ 0 ∷ 0 ∷ 0 ∷ 0 ∷ 2 ∷ 0 ∷ 0 ∷ 0 ∷ 0 ∷ 0 ∷ 0 ∷ 0 ∷ 12 ∷ []

whole-case : sheeted input (9 ∷ 9 ∷ []) (8 ∷ 8 ∷ 8 ∷ 8 ∷ 8 ∷ []) ≡ left (Ok 4) (0x73 ∷ 9 ∷ []) (0x07 ∷ 0x02 ∷ 0x01 ∷ 0x73 ∷ 8 ∷ [])
unfolding bytes_of primvaltype bytes wide flaw judge measured_row row_bytes repeated seq widths row_width shape_in view walk outs sized measured measured_type number words rows_from framed family_of measured_family family_bytes tries joined finished sheeted
whole-case = refl

-- without room for the section: ROOM at row 1
short_output : sheeted input (9 ∷ 9 ∷ []) (8 ∷ 8 ∷ 8 ∷ []) ≡ left (Refused refusal.Room 1) (9 ∷ 9 ∷ []) (8 ∷ 8 ∷ 8 ∷ [])
unfolding bytes_of primvaltype bytes wide flaw judge measured_row row_bytes repeated seq widths row_width shape_in view walk outs sized measured measured_type number words rows_from framed family_of measured_family family_bytes tries joined finished sheeted
short_output = refl
