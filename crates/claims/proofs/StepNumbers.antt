-- Why a row of each family, a step of a section, its finishing and a sheet are refused, by a predicate over refusals.
use Rattle.std.specs.Prelude.{Some, Ok, Err}
use Prim.Native.Nat.{ℕ, ◌+◌}
use mathlib.Core.Path.{◌≡◌, refl}
use mathlib.Core.Bool.{Bool, true, false, cond}
use mathlib.Core.List.{List, [], ◌∷◌}
use lib.Dec.{eqb, ltb, leb}
use lib.ListN.{length, take}
use Rattle.numbers.specs.Leb.{unsigned}
use Rattle.fields.specs.Answer.{Answer}
use Rattle.fields.specs.Leaf.{Leaf}
use Rattle.fields.specs.declared.Refusal.{Refusal}
use Rattle.fields.specs.declared.Refusal.TheVariants as refusal
use Rattle.fields.specs.declared.Shape.{Shape}
use Rattle.fields.specs.Words.{word, wide}
use Rattle.writing.specs.Row.{measured_row}
use Rattle.fields.specs.Shape.{plan, widths, row_width}
use Rattle.fields.specs.Table.{Line, shape_in}
use Rattle.fields.specs.Answers.{Left}
use Rattle.writing.specs.Write.{measured, written, stored, write_shape}
use Rattle.writing.proofs.TableRows.{every, of_every}
use Rattle.types.specs.Table as types
use Rattle.types.specs.Write.{head_shape, result_shape, measured_type}
use Rattle.imports.specs.Table as imports
use Rattle.imports.specs.Write.{measured_import}
use Rattle.canonicals.specs.Table as canonicals
use Rattle.canonicals.specs.Table.{lift_shape}
use Rattle.canonicals.specs.Write.{canonical_bytes, measured_canonical, write_canonical}
use Rattle.instances.specs.Table as instances
use Rattle.instances.specs.Write.{measured_core_instance, measured_instance}
use Rattle.sections.specs.declared.Phase.{Phase}
use Rattle.sections.specs.declared.Phase.TheVariants.{Closed, Opened, Headed}
use Rattle.sections.specs.declared.Section.{Section}
use Rattle.sections.specs.Finish.{framed, framing, finishing}
use Rattle.sections.specs.Section.{Entries, Types, Canonicals, Imports, CoreInstances, Instances, None, entries_of, measured_by, opened, sounds, measured_family, family_bytes, write_family}
use Rattle.sections.specs.Steps.{Turn, wrote, taken, head_in, result_in, abandon_in, rowing, opening, heading, resulting, abandoning}
use Rattle.sections.proofs.FamilyLaws.{family-stored}
use Rattle.sheets.specs.Frame as frame
use Rattle.sheets.specs.Frame.{Rows, Are, Broken, pool_of}
use Rattle.sheets.specs.Sheet as sheet
use Rattle.sheets.specs.Sheet.{family_of, tried, tries, joined, finished, of_rows, sheeted}
use Rattle.claims.proofs.Families.{on_test}
use Rattle.claims.proofs.NumberLaws.{AnyText, Ends, Tells, Allowed, each_any, all-allowed, Measures, measured_why, nameless_shape, nameless-plan, measured-row_why, stored_why, Basic, shape_why, table_why}
use Rattle.numbers.proofs.Impossible.{impossible}

-- ---- rows

-- what a row that has names can meet
pub record Named (P : Refusal → Type 0) : Type 0 where
  pub basic : Basic P
  pub range : P refusal.Range
  pub text : AnyText P

module _ (P : Refusal → Type 0) where
  -- no canonical has a name
  pub canonical_why : Basic P → (row pool : List ℕ) → Tells P (measured_canonical row pool)
  unfolding measured_canonical every
  canonical_why h row pool = go (eqb (word row 0) 256)
    where
      go : (b : Bool) → Tells P (measured_row (cond b (Some lift_shape) (shape_in canonicals.table (word row 0))) row pool)
      go true =
          measured-row_why P (Some lift_shape) row pool
          (record {
            limit = h.limit;
            kind = λ e. h.kind;
            empty = h.empty;
            shape = λ s e. let same : lift_shape ≡ s = cc in rw (← same) (shape_why P h lift_shape (nameless-plan P lift_shape refl) row pool);
          })
      go false =
          table_why P h canonicals.table (word row 0)
          (λ s e. nameless-plan P s (of_every nameless_shape canonicals.table refl (word row 0) s e)) row pool

  -- the other families have names
  pub family_why : Named P → (family : ℕ) (row pool : List ℕ) → Tells P (measured_family family row pool)
  unfolding measured_family measured_type measured_import measured_core_instance measured_instance
  family_why h family row pool = go (entries_of family)
    where
      named : (ls : List Line) → Tells P (measured_row (shape_in ls (word row 0)) row pool)
      named ls =
          table_why P h.basic ls (word row 0) (λ s e. each_any (Allowed P) (all-allowed P h.range h.text) (plan s)) row pool

      go : (x : Entries) → Tells P (measured_by x row pool)
      go Types = named types.table
      go Canonicals = canonical_why h.basic row pool
      go Imports = named imports.table
      go CoreInstances = named instances.core_table
      go Instances = named instances.table
      go None = h.basic.limit

  -- ---- writing them

  module _ (room : P refusal.Room) where
    pub write_canonical_why : Basic P → (row pool out : List ℕ) (at : ℕ) → Tells P (write_canonical row pool out at).answer
    unfolding write_canonical
    write_canonical_why h row pool out at =
        stored_why P room (measured_canonical row pool) (canonical_bytes pool row) out at (canonical_why h row pool)

    pub write_family_why : Named P → (family : ℕ) (row pool out : List ℕ) (at : ℕ) → Tells P (write_family family row pool out at).answer
    write_family_why h family row pool out at =
        rw family-stored (stored_why P room (measured_family family row pool) (family_bytes family pool row) out at (family_why h family row pool))

-- ---- steps

module _ (P : Refusal → Type 0) (limit : P refusal.Limit) (s : Section) (body : List ℕ) where
  abbrev Turns : Turn → Type 0
  Turns t = Tells P t.gave.answer

  wrote_why : (count : ℕ) (phase : Phase) (l : Left) → Tells P l.answer → Turns (wrote s count phase l)
  wrote_why count phase l h = go l.answer h
    where
      go : (a : Answer) → Tells P a → Tells P (taken s a count phase).answer
      go (Ok n) k = tt
      go (Err fault) k = k

  pub row_why : P refusal.Room → P refusal.Order → P refusal.Count → Named P → (row pool : List ℕ) → Turns (rowing s row pool body)
  unfolding rowing
  row_why room order count h row pool =
      on_test Turns (sounds s (length body))
      (on_test Turns (ltb 16384 (length row)) limit
      (on_test Turns (ltb 65536 (length pool)) limit
      (on_test Turns (opened s.phase) order
      (on_test Turns (eqb s.count 4294967295) count
      (wrote_why (s.count + 1) Closed (write_family s.family row pool body s.used)
      (write_family_why P room h s.family row pool body s.used))))))
      limit

  pub open_why : P refusal.Order → P refusal.Count → P refusal.Kind → Turns (opening s body)
  unfolding opening
  open_why order count kind =
      on_test Turns (sounds s (length body))
      (on_test Turns (opened s.phase) order (on_test Turns (eqb s.count 4294967295) count (on_test Turns (eqb s.family 7) tt kind)))
      limit

  pub abandon_why : P refusal.Order → Turns (abandoning s body)
  unfolding abandoning
  abandon_why order = on_test Turns (sounds s (length body)) (go s.phase) limit
    where
      go : (p : Phase) → Turns (abandon_in p s body)
      go Closed = order
      go (Opened start) = tt
      go (Headed start) = tt

  -- the words of an entry's shape, in their turn
  module _ (room : P refusal.Room) (order : P refusal.Order) (tag : P refusal.Tag) where
    words_why : (count : ℕ) (phase : Phase) (shape : Shape) (words pool : List ℕ) → Measures P shape words 0 pool
        → Turns (wrote s count phase (write_shape shape words 0 pool body s.used))
    unfolding write_shape
    words_why count phase shape words pool h =
        wrote_why count phase (stored (measured shape words 0 pool) (written shape pool words 0) body s.used)
        (stored_why P room (measured shape words 0 pool) (written shape pool words 0) body s.used (measured_why P shape words 0 pool h))

    pub result_why : (t x : ℕ) → Turns (resulting s t x body)
    unfolding resulting row_width widths wide
    result_why t x = on_test Turns (sounds s (length body)) (go s.phase) limit
      where
        fields : Measures P result_shape (t ∷ x ∷ []) 0 []
        fields =
            record {
              limit = λ b e k. limit;
              width = λ e. impossible cc;
              tag = tag;
              names = nameless-plan P result_shape refl;
            }

        go : (p : Phase) → Turns (result_in p s t x body)
        go Closed = order
        go (Opened start) = order
        go (Headed start) = words_why s.count Closed result_shape (t ∷ x ∷ []) [] fields

    pub head_why : P refusal.Row → P refusal.Range → AnyText P → (words pool : List ℕ) → Turns (heading s words pool body)
    unfolding heading widths wide
    head_why row range text words pool =
        on_test Turns (sounds s (length body))
        (on_test Turns (ltb 16384 (length words)) limit (on_test Turns (ltb 65536 (length pool)) limit (go s.phase))) limit
      where
        fields : Measures P head_shape words 0 pool
        fields =
            record {
              limit = λ b e k. limit;
              width = λ e. row;
              tag = tag;
              names = each_any (Allowed P) (all-allowed P range text) (plan head_shape);
            }

        go : (p : Phase) → Turns (head_in p s words pool body)
        go Closed = order
        go (Opened start) = words_why s.count (Headed start) head_shape words pool fields
        go (Headed start) = order

  pub finish_why : P refusal.Order → P refusal.TooBig → P refusal.Room → (out : List ℕ) → Tells P (finishing s body out).answer
  unfolding finishing framing
  finish_why order big room out =
      on_test Says (sounds s (length body))
      (on_test Says (opened s.phase) order
      (on_test Says (ltb 4294967295 (length (unsigned s.count) + length (take s.used body))) big
      (stored_why P room (Ok (length whole)) whole out 0 tt)))
      limit
    where
      Says : Left → Type 0
      Says l = Tells P l.answer

      whole : List ℕ
      whole = framed s.family (length (unsigned s.count) + length (take s.used body)) s.count (take s.used body)

-- ---- sheets

module _ (P : Refusal → Type 0) (room : P refusal.Room) (h : Named P) where
  tries_why : (family : ℕ) (pool : List ℕ) (size : ℕ) (rows : List (List ℕ)) (r used : ℕ) → Ends P (tries family pool size rows r used)
  unfolding tries
  tries_why family pool size [] r used = tt
  tries_why family pool size (row ∷ rows) r used =
      go (measured_family family row pool) (family_why P h family row pool) (λ u. tries_why family pool size rows (r + 1) u)
    where
      more : ℕ → Leaf
      more u = tries family pool size rows (r + 1) u

      go : (a : Answer) → Tells P a → ((u : ℕ) → Ends P (more u)) → Ends P (tried a size used r more)
      go (Ok m) k rest = on_test (Ends P) (leb (used + m) size) (rest (used + m)) room
      go (Err fault) k rest = k

  abbrev Sheets : sheet.Left → Type 0
  Sheets l = Tells P l.answer

  pub sheet_why : P refusal.Sheet → (input body out : List ℕ) → Sheets (sheeted input body out)
  unfolding sheeted finished
  sheet_why broken input body out = on_test Sheets (ltb 65536 (length input)) h.basic.limit (go (frame.framed input))
    where
      end : (l : Leaf) (family : ℕ) (bytes : List ℕ) → Ends P l → Sheets (sheet.written l family bytes body out)
      end (Ok span) family bytes k = on_test Sheets (leb (length (sheet.section family span.took bytes)) (length out)) tt room
      end (Err fault) family bytes k = k

      go : (rs : Rows) → Sheets (of_rows rs (pool_of input) body out)
      go Broken = broken
      go (Are []) = broken
      go (Are (row ∷ rows)) =
          end (tries (family_of (word row 0)) (pool_of input) (length body) (row ∷ rows) 0 0) (family_of (word row 0))
          (joined (family_of (word row 0)) (pool_of input) (row ∷ rows))
          (tries_why (family_of (word row 0)) (pool_of input) (length body) (row ∷ rows) 0 0)
