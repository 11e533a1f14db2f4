-- Bad versions of the calls, as document 01 names them ("How far a contract reaches"): each falls, and the contracts can be met.
use Rattle.std.specs.Prelude.{ℕ, ◌+◌, ◌≤◌, ◌<◌, ◌≡◌, List, get_or}
use contract.Lifetimes.{Lfts}
use Rattle.std.specs.Borrow.{Bor, MutBor}
use denote.Triple.Clauses.{Ended}
use denote.Triple.Entry.{Args, Res}
use borrow.Fn.World.{w₀}
use Rattle.fields.specs.Answers.{number_of}
use Rattle.types.specs.contracts.write as call-write-type
use Rattle.items.specs.contracts.read_type as call-read-type
use Rattle.imports.specs.contracts.write as call-write-import
use Rattle.items.specs.contracts.read_import as call-read-import
use Rattle.canonicals.specs.contracts.write as call-write-canonical
use Rattle.instances.specs.contracts.write_core as call-write-core-instance
use Rattle.instances.specs.contracts.write as call-write-instance
use Rattle.sections.specs.declared.Section.{Section}
use Rattle.sections.specs.contracts.Section.row as call-row
use Rattle.sections.specs.contracts.Section.open as call-open-entry
use Rattle.sections.specs.contracts.Section.finish as call-finish
use Rattle.sheets.specs.contracts.sheet as call-sheet
use Rattle.claims.specs.Kept.{number_of_read}
use Rattle.claims.specs.One.{Contract, Outcome, Ghost, says}

-- ---- versions

abbrev pub Lifetimes : Ended → Type 0
Lifetimes T = Lfts T.signature.lifetimes

-- a version of a call: an outcome for every input
abbrev pub Version : Ended → Type 0
Version T = (κs : Lifetimes T) (a : Args T.signature κs) → Outcome T κs a

-- it meets a contract where the `ensures` clauses hold of each of its outcomes; here at the closed model alone
abbrev pub Meets : (T : Ended) → Contract T → Version T → Type 1
Meets T C v =
    (κs : Lifetimes T) (a : Args T.signature κs) (g : Ghost T C w₀ κs a) → (says T C w₀ κs a g (v κs a)).holds w₀.𝓤.one

-- some version meets the contract
abbrev pub Possible : (T : Ended) → Contract T → Type 1
Possible T C = (v : Version T) × Meets T C v

-- no bad version does
abbrev pub Falls : (T : Ended) → Contract T → (Version T → Type 0) → Type 1
Falls T C Bad = (v : Version T) → Bad v → Meets T C v → ⊥

-- ---- what makes a version bad

-- the number of what it returns is never 0
abbrev pub RefusesAll : (T : Ended) → ((κs : Lifetimes T) → Res T.signature κs → ℕ) → Version T → Type 0
RefusesAll T number v = (κs : Lifetimes T) (a : Args T.signature κs) → number κs (v κs a).0 ≡ 0 → ⊥

-- bytes or words in memory, lent to be read, and lent to be written
abbrev pub Lent : Type 0
Lent = Bor (List ℕ)

abbrev pub LentMut : Type 0
LentMut = MutBor (List ℕ)

-- the writers of types, imports, canonicals and instances have one form: the number, and the buffer that is left
abbrev pub Writer : Type 0
Writer = Version call-write-type.ended

module _ (v : Writer) where
  module _ (κs : Lifetimes call-write-type.ended) (row pool : Lent) (out : LentMut) (at : ℕ) where
    abbrev pub number : ℕ
    number = number_of (v κs (row, (pool, (out, (at, tt))))).0

    abbrev pub buffer : List ℕ
    buffer = (v κs (row, (pool, (out, (at, tt))))).1.1.1.0

  -- where it says OK of two rows, the buffer is the same
  abbrev pub SameBytes : Type 0
  SameBytes =
      (κs : Lifetimes call-write-type.ended) (row other pool : Lent) (out : LentMut) (at : ℕ)
      → number κs row pool out at ≡ 0 → number κs other pool out at ≡ 0 → buffer κs row pool out at ≡ buffer κs other pool out at

  -- where it says OK, the buffer is as it was
  abbrev pub WritesNothing : Type 0
  WritesNothing =
      (κs : Lifetimes call-write-type.ended) (row pool : Lent) (out : LentMut) (at : ℕ) → number κs row pool out at ≡ 0 → buffer κs row pool out at ≡ out.now

-- a row: the number, and the section and the body it leaves
module _ (v : Version call-row.ended) where
  module _ (κs : Lifetimes call-row.ended) (s : Section) (row pool : Lent) (body : LentMut) where
    abbrev pub row_number : ℕ
    row_number = number_of (v κs (s, (row, (pool, (body, tt))))).0.answer

    abbrev pub row_section : Section
    row_section = (v κs (s, (row, (pool, (body, tt))))).0.section

    abbrev pub row_body : List ℕ
    row_body = (v κs (s, (row, (pool, (body, tt))))).1.1.1.1.0

  -- behind the first row, where it says OK, the body is as it was
  abbrev pub OnlySaysOk : Type 0
  OnlySaysOk =
      (κs : Lifetimes call-row.ended) (s : Section) (row pool : Lent) (body : LentMut) → 0 < s.count → row_number κs s row pool body ≡ 0
      → row_body κs s row pool body ≡ body.now

  -- somewhere it says OK, and does not add 1 to the count
  pub record RowMiscounts : Type 0 where
    pub κs : Lifetimes call-row.ended
    pub s : Section
    pub row : Lent
    pub pool : Lent
    pub body : LentMut
    pub says_ok : row_number κs s row pool body ≡ 0
    pub another : (row_section κs s row pool body).count ≡ s.count + 1 → ⊥

-- the same of an opening
pub record OpenMiscounts (v : Version call-open-entry.ended) : Type 0 where
  pub κs : Lifetimes call-open-entry.ended
  pub s : Section
  pub body : LentMut
  pub says_ok : number_of (v κs (s, (body, tt))).0.answer ≡ 0
  pub another : (v κs (s, (body, tt))).0.section.count ≡ s.count + 1 → ⊥

-- a small section is finished, and the byte behind its id and its size is another than the count
pub record FinishMiscounts (v : Version call-finish.ended) : Type 0 where
  pub κs : Lifetimes call-finish.ended
  pub s : Section
  pub body : Lent
  pub out : LentMut
  pub few_rows : s.count < 128
  pub few_bytes : s.used < 127
  pub says_ok : number_of (v κs (s, (body, (out, tt)))).0 ≡ 0
  pub another : get_or (v κs (s, (body, (out, tt)))).1.1.1.0 2 0 ≡ s.count → ⊥

-- the two readers have one form
abbrev pub Reader : Type 0
Reader = Version call-read-type.ended

-- at one of the three grades, whatever the input, it says NEWER
pub record AlwaysNewer (v : Reader) : Type 0 where
  pub g : ℕ
  pub from : 1 ≤ g
  pub to : g ≤ 3
  pub newer : (κs : Lifetimes call-read-type.ended) (input : Lent) (row : LentMut) → number_of_read (v κs (input, (g, (row, tt)))).0 ≡ 14

-- ---- each of them falls

pub record BadVersions : Type 1 where
  -- the contracts can be met
  pub write_type_met : Possible call-write-type.ended (λ M 𝓤. call-write-type.clauses)
  pub write_import_met : Possible call-write-import.ended (λ M 𝓤. call-write-import.clauses)
  pub write_canonical_met : Possible call-write-canonical.ended (λ M 𝓤. call-write-canonical.clauses)
  pub write_core_instance_met : Possible call-write-core-instance.ended (λ M 𝓤. call-write-core-instance.clauses)
  pub write_instance_met : Possible call-write-instance.ended (λ M 𝓤. call-write-instance.clauses)
  pub read_type_met : Possible call-read-type.ended (λ M 𝓤. call-read-type.clauses)
  pub read_import_met : Possible call-read-import.ended (λ M 𝓤. call-read-import.clauses)
  pub row_met : Possible call-row.ended (λ M 𝓤. call-row.clauses)
  pub open_met : Possible call-open-entry.ended (λ M 𝓤. call-open-entry.clauses)
  pub finish_met : Possible call-finish.ended (λ M 𝓤. call-finish.clauses)
  pub sheet_met : Possible call-sheet.ended (λ M 𝓤. call-sheet.clauses)
  -- "one that refuses everything"
  pub write_type_refuses : Falls call-write-type.ended (λ M 𝓤. call-write-type.clauses) (RefusesAll call-write-type.ended (λ κs r. number_of r))
  pub write_import_refuses : Falls call-write-import.ended (λ M 𝓤. call-write-import.clauses)
      (RefusesAll call-write-import.ended (λ κs r. number_of r))
  pub write_canonical_refuses : Falls call-write-canonical.ended (λ M 𝓤. call-write-canonical.clauses)
      (RefusesAll call-write-canonical.ended (λ κs r. number_of r))
  pub write_core_instance_refuses : Falls call-write-core-instance.ended (λ M 𝓤. call-write-core-instance.clauses)
      (RefusesAll call-write-core-instance.ended (λ κs r. number_of r))
  pub write_instance_refuses : Falls call-write-instance.ended (λ M 𝓤. call-write-instance.clauses)
      (RefusesAll call-write-instance.ended (λ κs r. number_of r))
  pub read_type_refuses : Falls call-read-type.ended (λ M 𝓤. call-read-type.clauses) (RefusesAll call-read-type.ended (λ κs r. number_of_read r))
  pub read_import_refuses : Falls call-read-import.ended (λ M 𝓤. call-read-import.clauses)
      (RefusesAll call-read-import.ended (λ κs r. number_of_read r))
  pub row_refuses : Falls call-row.ended (λ M 𝓤. call-row.clauses) (RefusesAll call-row.ended (λ κs r. number_of r.answer))
  pub open_refuses : Falls call-open-entry.ended (λ M 𝓤. call-open-entry.clauses)
      (RefusesAll call-open-entry.ended (λ κs r. number_of r.answer))
  pub finish_refuses : Falls call-finish.ended (λ M 𝓤. call-finish.clauses) (RefusesAll call-finish.ended (λ κs r. number_of r))
  pub sheet_refuses : Falls call-sheet.ended (λ M 𝓤. call-sheet.clauses) (RefusesAll call-sheet.ended (λ κs r. number_of r))
  -- "one that writes the same bytes for all rows"
  pub write_type_same : Falls call-write-type.ended (λ M 𝓤. call-write-type.clauses) SameBytes
  pub write_import_same : Falls call-write-import.ended (λ M 𝓤. call-write-import.clauses) SameBytes
  pub write_canonical_same : Falls call-write-canonical.ended (λ M 𝓤. call-write-canonical.clauses) SameBytes
  pub write_core_instance_same : Falls call-write-core-instance.ended (λ M 𝓤. call-write-core-instance.clauses) SameBytes
  pub write_instance_same : Falls call-write-instance.ended (λ M 𝓤. call-write-instance.clauses) SameBytes
  -- "one that writes nothing"
  pub write_type_nothing : Falls call-write-type.ended (λ M 𝓤. call-write-type.clauses) WritesNothing
  pub write_import_nothing : Falls call-write-import.ended (λ M 𝓤. call-write-import.clauses) WritesNothing
  pub write_canonical_nothing : Falls call-write-canonical.ended (λ M 𝓤. call-write-canonical.clauses) WritesNothing
  pub write_core_instance_nothing : Falls call-write-core-instance.ended (λ M 𝓤. call-write-core-instance.clauses) WritesNothing
  pub write_instance_nothing : Falls call-write-instance.ended (λ M 𝓤. call-write-instance.clauses) WritesNothing
  -- "a section that adds the first row and then only says OK"
  pub row_only_says_ok : Falls call-row.ended (λ M 𝓤. call-row.clauses) OnlySaysOk
  -- "a made-up count", which is told by "a row adds 1" and by the framed bytes: even once
  pub row_miscounts : Falls call-row.ended (λ M 𝓤. call-row.clauses) RowMiscounts
  pub open_miscounts : Falls call-open-entry.ended (λ M 𝓤. call-open-entry.clauses) OpenMiscounts
  pub finish_miscounts : Falls call-finish.ended (λ M 𝓤. call-finish.clauses) FinishMiscounts
  -- "a reader that always says NEWER"
  pub read_type_newer : Falls call-read-type.ended (λ M 𝓤. call-read-type.clauses) AlwaysNewer
  pub read_import_newer : Falls call-read-import.ended (λ M 𝓤. call-read-import.clauses) AlwaysNewer
