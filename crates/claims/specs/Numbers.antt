-- Demand 1, (d): the numbers of document 01 with which each call can answer, each met by an input, and that no other can come.
use Rattle.std.specs.Prelude.{ℕ, ◌≡◌, ◌⊎◌, List, [], ◌∷◌, ◌++◌, Option}
use Rattle.numbers.specs.Bytes.{store, part_of}
use Rattle.numbers.specs.Leb.{unsigned, signed, take_unsigned, take_signed}
use Rattle.numbers.specs.Numbers as numbers
use Rattle.fields.specs.declared.Shape.{Shape}
use Rattle.writing.specs.Binary.{valtype, extern_part}
use Rattle.reading.specs.Read.{scanned_item, refusal_of}
use Rattle.writing.specs.Row.{measured_row}
use Rattle.fields.specs.Answers.{number_of}
use Rattle.writing.specs.Write.{measured, write_shape}
use Rattle.items.specs.ReadType.{read_type}
use Rattle.types.specs.Write.{measured_type, write_type, head_shape, result_shape}
use Rattle.items.specs.ReadImport.{read_import}
use Rattle.imports.specs.Write.{measured_import, write_import}
use Rattle.canonicals.specs.Write.{measured_canonical, write_canonical}
use Rattle.instances.specs.Write.{measured_core_instance, write_core_instance, measured_instance, write_instance}
use Rattle.sections.specs.declared.Section.{Section}
use Rattle.sections.specs.Finish.{finishing}
use Rattle.sections.specs.Section.{write_family}
use Rattle.sections.specs.Steps.{rowing, opening, heading, resulting, abandoning}
use Rattle.sheets.specs.Sheet.{sheeted}
use Rattle.cabi.specs.Read.{of_read}
use Rattle.cabi.specs.Sheet.{of_sheet}
use Rattle.cabi.specs.State.{given, step, finishes}
use Rattle.claims.specs.Kept.{number_of_read}

-- n is one of the list
abbrev pub Among : ℕ → List ℕ → Type 0
Among n [] = ⊥
Among n (m ∷ ms) = (n ≡ m) ⊎ Among n ms

-- each of the list comes of an input
abbrev pub Met : {A : Type 0} → (A → ℕ) → List ℕ → Type 0
Met f [] = Unit {0}
Met {A} f (n ∷ ns) = ((x : A) × (f x ≡ n)) × Met f ns

-- the numbers of a call, as a function of its input, are exactly these
pub record Exactly (A : Type 0) (f : A → ℕ) (ns : List ℕ) : Type 0 where
  pub no_other : (x : A) → Among (f x) ns
  pub met : Met f ns

pub record RefusesBy : Type 0 where
  -- numbers: OK, ROOM; OK, CUT, NUMBER
  pub copy : Exactly (List ℕ × ℕ × List ℕ) (λ x. numbers.number_of (store x.0 x.1 x.2).answer) (0 ∷ 8 ∷ [])
  pub put_unsigned : Exactly (ℕ × ℕ × List ℕ) (λ x. numbers.number_of (store (unsigned x.0) x.1 x.2).answer) (0 ∷ 8 ∷ [])
  pub put_signed : Exactly (ℕ × ℕ × List ℕ) (λ x. numbers.number_of (store (signed x.0) x.1 x.2).answer) (0 ∷ 8 ∷ [])
  pub take_unsigned : Exactly (List ℕ) (λ x. numbers.number_of_taken (take_unsigned x)) (0 ∷ 11 ∷ 13 ∷ [])
  pub take_signed : Exactly (List ℕ) (λ x. numbers.number_of_taken (take_signed x)) (0 ∷ 11 ∷ 13 ∷ [])
  -- fields: by every shape
  pub measure_shape : Exactly (Shape × List ℕ × ℕ × List ℕ) (λ x. number_of (measured x.0 x.1 x.2 x.3)) (0 ∷ 1 ∷ 3 ∷ 4 ∷ 5 ∷ 6 ∷ [])
  pub measure_row : Exactly (Option Shape × List ℕ × List ℕ) (λ x. number_of (measured_row x.0 x.1 x.2)) (0 ∷ 1 ∷ 2 ∷ 3 ∷ 4 ∷ 5 ∷ 6 ∷ [])
  pub item_refusal : Exactly (Option Shape × ℕ × ℕ × List ℕ) (λ x. number_of_read (refusal_of (scanned_item x.0 x.1 x.2 x.3))) (1 ∷ 6 ∷ 8 ∷ 11 ∷ 12 ∷ 13 ∷ 14 ∷ [])
  -- writing
  pub put_value : Exactly (ℕ × ℕ × ℕ × List ℕ) (λ x. numbers.number_of (store (valtype x.0 x.1) x.2 x.3).answer) (0 ∷ 8 ∷ [])
  pub put_name : Exactly (List ℕ × ℕ × ℕ × ℕ × List ℕ) (λ x. numbers.number_of (store (unsigned x.2 ++ part_of x.0 x.1 x.2) x.3 x.4).answer) (0 ∷ 8 ∷ [])
  pub put_extern : Exactly (List ℕ × List ℕ × ℕ × List ℕ) (λ x. numbers.number_of (store (extern_part x.0 x.1) x.2 x.3).answer) (0 ∷ 8 ∷ [])
  -- types and imports
  pub measure_type : Exactly (List ℕ × List ℕ) (λ x. number_of (measured_type x.0 x.1)) (0 ∷ 1 ∷ 2 ∷ 3 ∷ 4 ∷ 5 ∷ 6 ∷ [])
  pub write_type : Exactly (List ℕ × List ℕ × List ℕ × ℕ) (λ x. number_of (write_type x.0 x.1 x.2 x.3).answer) (0 ∷ 1 ∷ 2 ∷ 3 ∷ 4 ∷ 5 ∷ 6 ∷ 8 ∷ [])
  -- (the plain word would hide the definition that `c_read_type` names; so `read_import_lem`)
  pub read_type_lem : Exactly (ℕ × List ℕ × List ℕ) (λ x. number_of_read (read_type x.0 x.1 x.2).answer) (0 ∷ 1 ∷ 6 ∷ 8 ∷ 11 ∷ 12 ∷ 13 ∷ 14 ∷ [])
  pub write_head : Exactly (List ℕ × List ℕ × List ℕ × ℕ) (λ x. number_of (write_shape head_shape x.0 0 x.1 x.2 x.3).answer) (0 ∷ 1 ∷ 3 ∷ 4 ∷ 5 ∷ 6 ∷ 8 ∷ [])
  pub write_result : Exactly (ℕ × ℕ × List ℕ × ℕ) (λ x. number_of (write_shape result_shape (x.0 ∷ x.1 ∷ []) 0 [] x.2 x.3).answer) (0 ∷ 4 ∷ 8 ∷ [])
  pub measure_import : Exactly (List ℕ × List ℕ) (λ x. number_of (measured_import x.0 x.1)) (0 ∷ 1 ∷ 2 ∷ 3 ∷ 4 ∷ 5 ∷ 6 ∷ [])
  pub write_import : Exactly (List ℕ × List ℕ × List ℕ × ℕ) (λ x. number_of (write_import x.0 x.1 x.2 x.3).answer) (0 ∷ 1 ∷ 2 ∷ 3 ∷ 4 ∷ 5 ∷ 6 ∷ 8 ∷ [])
  pub read_import_lem : Exactly (ℕ × List ℕ × List ℕ) (λ x. number_of_read (read_import x.0 x.1 x.2).answer) (0 ∷ 1 ∷ 6 ∷ 8 ∷ 11 ∷ 12 ∷ 13 ∷ 14 ∷ [])
  -- canonicals: they have no names
  pub measure_canonical : Exactly (List ℕ × List ℕ) (λ x. number_of (measured_canonical x.0 x.1)) (0 ∷ 1 ∷ 2 ∷ 3 ∷ 4 ∷ [])
  pub write_canonical : Exactly (List ℕ × List ℕ × List ℕ × ℕ) (λ x. number_of (write_canonical x.0 x.1 x.2 x.3).answer) (0 ∷ 1 ∷ 2 ∷ 3 ∷ 4 ∷ 8 ∷ [])
  -- instances, which have names
  pub measure_core_instance : Exactly (List ℕ × List ℕ) (λ x. number_of (measured_core_instance x.0 x.1)) (0 ∷ 1 ∷ 2 ∷ 3 ∷ 4 ∷ 5 ∷ 6 ∷ [])
  pub write_core_instance : Exactly (List ℕ × List ℕ × List ℕ × ℕ) (λ x. number_of (write_core_instance x.0 x.1 x.2 x.3).answer) (0 ∷ 1 ∷ 2 ∷ 3 ∷ 4 ∷ 5 ∷ 6 ∷ 8 ∷ [])
  pub measure_instance : Exactly (List ℕ × List ℕ) (λ x. number_of (measured_instance x.0 x.1)) (0 ∷ 1 ∷ 2 ∷ 3 ∷ 4 ∷ 5 ∷ 6 ∷ [])
  pub write_instance : Exactly (List ℕ × List ℕ × List ℕ × ℕ) (λ x. number_of (write_instance x.0 x.1 x.2 x.3).answer) (0 ∷ 1 ∷ 2 ∷ 3 ∷ 4 ∷ 5 ∷ 6 ∷ 8 ∷ [])
  -- sections: TOO_BIG comes of finishing alone
  pub write_by : Exactly (ℕ × List ℕ × List ℕ × List ℕ × ℕ) (λ x. number_of (write_family x.0 x.1 x.2 x.3 x.4).answer) (0 ∷ 1 ∷ 2 ∷ 3 ∷ 4 ∷ 5 ∷ 6 ∷ 8 ∷ [])
  pub row : Exactly (Section × List ℕ × List ℕ × List ℕ) (λ x. number_of (rowing x.0 x.1 x.2 x.3).gave.answer) (0 ∷ 1 ∷ 2 ∷ 3 ∷ 4 ∷ 5 ∷ 6 ∷ 8 ∷ 9 ∷ 10 ∷ [])
  pub open_entry : Exactly (Section × List ℕ) (λ x. number_of (opening x.0 x.1).gave.answer) (0 ∷ 1 ∷ 2 ∷ 9 ∷ 10 ∷ [])
  pub head : Exactly (Section × List ℕ × List ℕ × List ℕ) (λ x. number_of (heading x.0 x.1 x.2 x.3).gave.answer) (0 ∷ 1 ∷ 3 ∷ 4 ∷ 5 ∷ 6 ∷ 8 ∷ 9 ∷ [])
  pub result : Exactly (Section × ℕ × ℕ × List ℕ) (λ x. number_of (resulting x.0 x.1 x.2 x.3).gave.answer) (0 ∷ 1 ∷ 4 ∷ 8 ∷ 9 ∷ [])
  pub abandon : Exactly (Section × List ℕ) (λ x. number_of (abandoning x.0 x.1).gave.answer) (0 ∷ 1 ∷ 9 ∷ [])
  pub finish : Exactly (Section × List ℕ × List ℕ) (λ x. number_of (finishing x.0 x.1 x.2).answer) (0 ∷ 1 ∷ 7 ∷ 8 ∷ 9 ∷ [])
  -- sheets
  pub sheet : Exactly (List ℕ × List ℕ × List ℕ) (λ x. number_of (sheeted x.0 x.1 x.2).answer) (0 ∷ 1 ∷ 2 ∷ 3 ∷ 4 ∷ 5 ∷ 6 ∷ 8 ∷ 15 ∷ [])
  -- cabi: the state is five numbers
  pub c_row : Exactly (List ℕ × List ℕ × List ℕ × List ℕ) (λ x. (step (given x.0) (λ s. rowing s x.1 x.2 x.3) x.0 x.3).reply.number) (0 ∷ 1 ∷ 2 ∷ 3 ∷ 4 ∷ 5 ∷ 6 ∷ 8 ∷ 9 ∷ 10 ∷ [])
  pub c_open : Exactly (List ℕ × List ℕ) (λ x. (step (given x.0) (λ s. opening s x.1) x.0 x.1).reply.number) (0 ∷ 1 ∷ 2 ∷ 9 ∷ 10 ∷ [])
  pub c_head : Exactly (List ℕ × List ℕ × List ℕ × List ℕ) (λ x. (step (given x.0) (λ s. heading s x.1 x.2 x.3) x.0 x.3).reply.number) (0 ∷ 1 ∷ 3 ∷ 4 ∷ 5 ∷ 6 ∷ 8 ∷ 9 ∷ [])
  pub c_result : Exactly (List ℕ × ℕ × ℕ × List ℕ) (λ x. (step (given x.0) (λ s. resulting s x.1 x.2 x.3) x.0 x.3).reply.number) (0 ∷ 1 ∷ 4 ∷ 8 ∷ 9 ∷ [])
  pub c_abandon : Exactly (List ℕ × List ℕ) (λ x. (step (given x.0) (λ s. abandoning s x.1) x.0 x.1).reply.number) (0 ∷ 1 ∷ 9 ∷ [])
  pub c_finish : Exactly (List ℕ × List ℕ × List ℕ) (λ x. (finishes (given x.0) x.1 x.2).reply.number) (0 ∷ 1 ∷ 7 ∷ 8 ∷ 9 ∷ [])
  pub c_sheet : Exactly (List ℕ × List ℕ × List ℕ) (λ x. (of_sheet (sheeted x.0 x.1 x.2)).reply.number) (0 ∷ 1 ∷ 2 ∷ 3 ∷ 4 ∷ 5 ∷ 6 ∷ 8 ∷ 15 ∷ [])
  pub c_read_type : Exactly (ℕ × List ℕ × List ℕ) (λ x. (of_read (read_type x.0 x.1 x.2)).reply.number) (0 ∷ 1 ∷ 6 ∷ 8 ∷ 11 ∷ 12 ∷ 13 ∷ 14 ∷ [])
  pub c_read_import : Exactly (ℕ × List ℕ × List ℕ) (λ x. (of_read (read_import x.0 x.1 x.2)).reply.number) (0 ∷ 1 ∷ 6 ∷ 8 ∷ 11 ∷ 12 ∷ 13 ∷ 14 ∷ [])
