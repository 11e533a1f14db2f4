-- Demand 1, (b) and (c): a refusal changes nothing that is lent; what is accepted changes only the bytes or words that it counts, and
-- the state as document 01 tells.
use Rattle.std.specs.Prelude.{ℕ, ◌+◌, ◌-◌, ◌≤◌, ◌<◌, ◌≡◌, ◌⊎◌, List, [], ◌∷◌, ◌++◌, length, get_or, Some, Ok, Err}
use Rattle.numbers.specs.Bytes as bytes
use Rattle.numbers.specs.Bytes.{store, part_of}
use Rattle.numbers.specs.Leb.{unsigned, signed}
use Rattle.numbers.specs.Numbers as numbers
use Rattle.fields.specs.Answer.{Answer}
use Rattle.fields.specs.Read.{Read}
use Rattle.writing.specs.Binary.{valtype, extern_part}
use Rattle.fields.specs.Answers.{LeftRow, number_of_refusal, number_of, value_of, Left}
use Rattle.writing.specs.Write.{write_shape}
use Rattle.items.specs.ReadType.{read_type}
use Rattle.types.specs.Write.{write_type, head_shape, result_shape}
use Rattle.items.specs.ReadImport.{read_import}
use Rattle.canonical_items.specs.ReadCanonical.{read_canonical}
use Rattle.instance_items.specs.ReadInstance.{read_core_instance, read_instance}
use Rattle.imports.specs.Write.{write_import}
use Rattle.canonicals.specs.Write.{write_canonical}
use Rattle.instances.specs.Write.{write_core_instance, write_instance}
use Rattle.sections.specs.declared.Phase.{Phase}
use Rattle.sections.specs.declared.Phase.TheVariants.{Closed, Opened, Headed}
use Rattle.sections.specs.declared.Section.{Section}
use Rattle.sections.specs.Finish.{finishing}
use Rattle.sections.specs.Runs.{Step, Row, Open, Head, Result, Abandon, turn}
use Rattle.sections.specs.Section.{write_family}
use Rattle.sections.specs.Steps.{Turn, turned, gives}
use Rattle.sheets.specs.Sheet.{sheeted}
use Rattle.cabi.specs.Read.{of_read}
use Rattle.cabi.specs.Sheet.{of_sheet}
use Rattle.cabi.specs.State.{given, start_number, numbers_of, Stepped, step, finishes}
use Rattle.claims.specs.Valid.{productions, entries, family_in}

-- outside `size` elements from `at` on, `new` is as `old` was
pub record Outside (at size : ℕ) (old new : List ℕ) : Type 0 where
  pub long : length new ≡ length old
  pub same : (i : ℕ) → (i < at) ⊎ (at + size ≤ i) → get_or new i 0 ≡ get_or old i 0

-- a lent buffer, by the call's number: as it was where that is not 0, and else changed in `size` elements from `at` on alone
pub record Kept (number at size : ℕ) (old new : List ℕ) : Type 0 where
  pub refused : (number ≡ 0 → ⊥) → new ≡ old
  pub accepted : number ≡ 0 → Outside at size old new

-- what a storing, a writing and a reading call leave
abbrev pub Stores : ℕ → List ℕ → bytes.Left → Type 0
Stores at out l = Kept (numbers.number_of l.answer) at (numbers.value_of l.answer) out l.buffer

abbrev pub Writes : ℕ → List ℕ → Left → Type 0
Writes at out l = Kept (number_of l.answer) at (value_of l.answer) out l.buffer

abbrev pub number_of_read : Read → ℕ
number_of_read (Ok item) = 0
number_of_read (Err fault) = number_of_refusal fault.why

abbrev pub words_of_read : Read → ℕ
words_of_read (Ok item) = item.words
words_of_read (Err fault) = 0

abbrev pub Reads : List ℕ → LeftRow → Type 0
Reads row l = Kept (number_of_read l.answer) 0 (words_of_read l.answer) row l.row

-- ---- the state

abbrev grown : Section → ℕ → ℕ → Phase → Section
grown s n count phase = record { family = s.family; used = s.used + n; count = count; phase = phase }

-- the state behind a step that added n bytes: "a row adds its bytes and 1", "opening adds 1 to the count", "result closes the entry",
-- "abandoning restores used and count from before the opening"
abbrev pub told : Step → Section → ℕ → Section
told (Row row pool) s n = grown s n (s.count + 1) Closed
told Open s n = grown s n (s.count + 1) (Opened s.used)
told (Head words pool) s n = grown s n s.count (Headed (start_number s.phase))
told (Result tag x) s n = grown s n s.count Closed
told Abandon s n = record { family = s.family; used = start_number s.phase; count = s.count - 1; phase = Closed }

-- what a step leaves of the state
pub record Turns (k : Step) (s : Section) (t : Turn) : Type 0 where
  pub refused : (number_of t.gave.answer ≡ 0 → ⊥) → t.gave.section ≡ s
  pub accepted : number_of t.gave.answer ≡ 0 → t.gave.section ≡ told k s (value_of t.gave.answer)

-- the same of five numbers: a state that a step takes has only one form
pub record Counts (k : Step) (state : List ℕ) (t : Stepped) : Type 0 where
  pub refused : (t.reply.number ≡ 0 → ⊥) → t.state ≡ state
  pub accepted : t.reply.number ≡ 0 → (s : Section) × (given state ≡ Some s) × (t.state ≡ numbers_of (told k s t.reply.value))

-- ---- a sheet: the rows' bytes stand at the front of the body, and the section at the front of the output

abbrev pub row_bytes : List ℕ → List ℕ
row_bytes input = productions (family_in (entries input)) (entries input)

-- ---- every call that is lent something to write

pub record ChangesNothingElse : Type 0 where
  -- numbers
  pub copy : (src : List ℕ) (at : ℕ) (out : List ℕ) → Stores at out (store src at out)
  pub put_unsigned : (n at : ℕ) (out : List ℕ) → Stores at out (store (unsigned n) at out)
  pub put_signed : (n at : ℕ) (out : List ℕ) → Stores at out (store (signed n) at out)
  -- writing
  pub put_value : (tag x at : ℕ) (out : List ℕ) → Stores at out (store (valtype tag x) at out)
  pub put_name : (pool : List ℕ) (start size at : ℕ) (out : List ℕ) → Stores at out (store (unsigned size ++ part_of pool start size) at out)
  pub put_extern : (pool ws : List ℕ) (at : ℕ) (out : List ℕ) → Stores at out (store (extern_part pool ws) at out)
  -- types, imports, canonicals, instances
  pub write_type : (row pool out : List ℕ) (at : ℕ) → Writes at out (write_type row pool out at)
  pub write_head : (words pool out : List ℕ) (at : ℕ) → Writes at out (write_shape head_shape words 0 pool out at)
  pub write_result : (tag x : ℕ) (out : List ℕ) (at : ℕ) → Writes at out (write_shape result_shape (tag ∷ x ∷ []) 0 [] out at)
  pub write_import : (row pool out : List ℕ) (at : ℕ) → Writes at out (write_import row pool out at)
  pub write_canonical : (row pool out : List ℕ) (at : ℕ) → Writes at out (write_canonical row pool out at)
  pub write_core_instance : (row pool out : List ℕ) (at : ℕ) → Writes at out (write_core_instance row pool out at)
  pub write_instance : (row pool out : List ℕ) (at : ℕ) → Writes at out (write_instance row pool out at)
  -- (the plain word would hide the definition that `c_read_type` names; so `read_import_lem`)
  pub read_type_lem : (g : ℕ) (input row : List ℕ) → Reads row (read_type g input row)
  pub read_import_lem : (g : ℕ) (input row : List ℕ) → Reads row (read_import g input row)
  pub read_canonical : (g : ℕ) (input row : List ℕ) → Reads row (read_canonical g input row)
  pub read_core_instance : (g : ℕ) (input row : List ℕ) → Reads row (read_core_instance g input row)
  pub read_instance : (g : ℕ) (input row : List ℕ) → Reads row (read_instance g input row)
  -- sections: row, open, head, result, abandon, and finish, which leaves the state to its owner
  pub write_by : (family : ℕ) (row pool body : List ℕ) (at : ℕ) → Writes at body (write_family family row pool body at)
  pub step_state : (k : Step) (s : Section) (body : List ℕ) → Turns k s (turn k s body)
  pub step_body : (k : Step) (s : Section) (body : List ℕ)
      → Kept (number_of (turn k s body).gave.answer) s.used (value_of (turn k s body).gave.answer) body (turn k s body).body
  pub finish : (s : Section) (body out : List ℕ) → Writes 0 out (finishing s body out)
  -- lent: the answer r, the state and the body at exit, of which a step's contract says that they are the step's by value
  pub lent_state : (k : Step) (s after : Section) (r : Answer) (body new : List ℕ) → turned (gives after r) new ≡ turn k s body
      → Turns k s (turned (gives after r) new)
  pub lent_body : (k : Step) (s after : Section) (r : Answer) (body new : List ℕ) → turned (gives after r) new ≡ turn k s body
      → Kept (number_of r) s.used (value_of r) body new
  -- sheets
  pub sheet_body : (input body out : List ℕ)
      → Kept (number_of (sheeted input body out).answer) 0 (length (row_bytes input)) body (sheeted input body out).body
  pub sheet_out : (input body out : List ℕ)
      → Kept (number_of (sheeted input body out).answer) 0 (value_of (sheeted input body out).answer) out (sheeted input body out).out
  -- cabi: tb_row, tb_open, tb_head, tb_result, tb_abandon; tb_finish, tb_sheet, tb_read_type, tb_read_import
  pub c_step_state : (k : Step) (state body : List ℕ) → length state ≡ 5 → Counts k state (step (given state) (λ s. turn k s body) state body)
  pub c_step_body : (k : Step) (state body : List ℕ)
      → Kept (step (given state) (λ s. turn k s body) state body).reply.number (get_or state 1 0)
      (step (given state) (λ s. turn k s body) state body).reply.value body (step (given state) (λ s. turn k s body) state body).body
  pub c_finish : (state body out : List ℕ)
      → Kept (finishes (given state) body out).reply.number 0 (finishes (given state) body out).reply.value out
      (finishes (given state) body out).out
  pub c_sheet_body : (input body out : List ℕ)
      → Kept (of_sheet (sheeted input body out)).reply.number 0 (length (row_bytes input)) body (of_sheet (sheeted input body out)).body
  pub c_sheet_out : (input body out : List ℕ)
      → Kept (of_sheet (sheeted input body out)).reply.number 0 (of_sheet (sheeted input body out)).reply.value out
      (of_sheet (sheeted input body out)).out
  pub c_read_type : (g : ℕ) (input row : List ℕ)
      → Kept (of_read (read_type g input row)).reply.number 0 (of_read (read_type g input row)).reply.also row (of_read (read_type g input row)).row
  pub c_read_import : (g : ℕ) (input row : List ℕ)
      → Kept (of_read (read_import g input row)).reply.number 0 (of_read (read_import g input row)).reply.also row
      (of_read (read_import g input row)).row
