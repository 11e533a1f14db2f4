-- Each item of the bench is written as its bytes, and each reading is refused or taken as it says, by computation.
use Rattle.std.specs.Prelude.{Ok}
use Prim.Native.Nat.{ℕ}
use mathlib.Core.Path.{◌≡◌, refl}
use mathlib.Core.Bool.{cond}
use mathlib.Core.List.{List, [], ◌∷◌}
use lib.ListN.{length, drop}
use Rattle.numbers.specs.Leb.{bytes_of, take_in, within32, number_in, more}
use Rattle.numbers.specs.Text.{text, rest, step}
use Rattle.fields.specs.Read as read
use Rattle.writing.specs.Binary.{name, primvaltype, valtype, optional, resultlist, functype, flag, slot_at, slots_at, slots, externname, typebound, externdesc, argument, sortidx, bytes}
use Rattle.reading.specs.Fill.{primitive, fill_value, fill_name, fill_slot, fill_slots, fill_extern, fill_reference, fill}
use Rattle.fields.specs.Words.{wide}
use Rattle.writing.specs.Judge.{value, optional_value, named, optional_name, reference, flaw, judge}
use Rattle.fields.specs.Answers.{left_row, left}
use Rattle.reading.specs.Read.{roomed, read_item}
use Rattle.writing.specs.Row.{measured_row, row_bytes, write_row}
use Rattle.reading.specs.Scan.{scan_index, scan_name, scan_primitive, scan_value, head_scan, first_scan, second_scan, scan_extern, slot_scan, end_scan, count_at, scan_reference, scan}
use Rattle.fields.specs.Shape.{repeated, seq, widths, row_width}
use Rattle.fields.specs.Table.{shape_in}
use Rattle.fields.specs.View.{view}
use Rattle.fields.specs.Walk.{walk, outs}
use Rattle.writing.specs.Write.{sized, measured, stored}
use Rattle.items.specs.ReadType.{kind_in, kind_of, lead_grade, read_type}
use Rattle.types.specs.Write.{write_type}
use Rattle.items.specs.ReadImport.{read_import}
use Rattle.imports.specs.Write.{write_import}
use Rattle.instances.specs.Write.{write_core_instance, write_instance}
use Rattle.sections.specs.Section.{write_family}
use Rattle.claims.specs.Bench.{Item, Reading, Taking, Line, Written, Refused, Taken, bench}

-- a buffer as long as the bytes
abbrev pub blank : List ℕ → List ℕ
blank [] = []
blank (b ∷ bs) = 0 ∷ blank bs

-- the writer of the item's family puts exactly the bytes into a buffer of their size
abbrev pub AsWritten : Item → Type 0
AsWritten i =
    write_family i.family i.row i.pool (blank i.bytes) 0 ≡ left (Ok (length i.bytes)) i.bytes

-- the reader of the family says the number and the place, and leaves every row as it was
abbrev pub AsRefused : Reading → Type 0
AsRefused r =
    (room : List ℕ)
    → cond r.import (read_import r.grade r.bytes room) (read_type r.grade r.bytes room) ≡ left_row (read.Refused r.why r.place) room

-- the reader of the family takes all the bytes, and leaves the row in a room of its size
abbrev pub AsTaken : Taking → Type 0
AsTaken t =
    cond t.import (read_import 3 t.bytes (blank t.row)) (read_type 3 t.bytes (blank t.row))
    ≡ left_row (read.Item (length t.row) (length t.bytes)) t.row

abbrev pub All : List Line → Type 0
All [] = Unit {0}
All (Written i ∷ ls) = AsWritten i × All ls
All (Refused r ∷ ls) = AsRefused r × All ls
All (Taken t ∷ ls) = AsTaken t × All ls

pub bench_is_written : All bench
unfolding bytes_of text rest step name primvaltype valtype optional resultlist functype flag slot_at slots_at slots externname typebound externdesc argument sortidx bytes wide value optional_value named optional_name reference flaw judge measured_row row_bytes write_row repeated seq widths row_width shape_in view walk outs sized measured stored write_type write_import write_core_instance write_instance write_family take_in within32 number_in more kind_in kind_of lead_grade read_type read_import read_item roomed scan_index scan_name scan_primitive scan_value head_scan first_scan second_scan scan_extern scan primitive fill_value fill_name fill_slot fill_slots fill_extern fill_reference fill slot_scan end_scan count_at scan_reference
bench_is_written = (
  refl,
  (
    refl,
    (
      refl,
      (
        refl,
        (
          refl,
          (
            refl,
            (
              refl,
              (
                refl,
                (
                  refl,
                  (
                    refl,
                    (
                      refl,
                      (
                        refl,
                        (
                          refl,
                          (refl, (refl, (refl, ((λ room. refl), ((λ room. refl), ((λ room. refl), padded)))))),
                        ),
                      ),
                    ),
                  ),
                ),
              ),
            ),
          ),
        ),
      ),
    ),
  ),
)
  where
    padded : All (drop 19 bench)
    padded = (
      refl,
      (refl, (refl, (refl, (refl, (refl, ((λ room. refl), ((λ room. refl), ((λ room. refl), ((λ room. refl), tt))))))))),
    )
