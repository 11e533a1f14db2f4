-- A refusal changes nothing that is lent, and what is accepted changes only what it counts: the state as it is told, and of a buffer
-- the bytes or words that stand at the place.
use Rattle.std.specs.Prelude.{Option, Some, None, Ok, Err}
use Prim.Native.Nat.{ℕ, ◌+◌, ◌-◌, ◌^◌, ◌≤◌}
use native.Mathlib.Omega.{arith}
use mathlib.Core.Path.{◌≡◌, refl, sym, ap, ◌∙◌, subst}
use mathlib.Core.Bool.{Bool, true, false, cond}
use mathlib.Core.List.{List, [], ◌∷◌, ◌++◌}
use borrow.Author.Tests.{eqb-true}
use lib.Dec.{eqb, ltb, leb}
use lib.ListN.{length, get_or, take, drop, length-append}
use lib.Seq.{sets, length-sets, length-take-le}
use Rattle.numbers.specs.Bytes.{store, part_of}
use Rattle.numbers.specs.Leb.{unsigned, signed}
use Rattle.numbers.specs.Numbers as numbers
use Rattle.numbers.proofs.BytesLaws.{sets-outside, store-either}
use Rattle.fields.specs.Answer.{Answer}
use Rattle.fields.specs.Leaf.{Leaf}
use Rattle.fields.specs.Read.{Read}
use Rattle.fields.specs.Read as read
use Rattle.fields.specs.declared.Refusal.{Refusal}
use Rattle.fields.specs.declared.Refusal.TheVariants as refusal
use Rattle.fields.specs.declared.Shape.{Shape}
use Rattle.fields.specs.Words.{word, wide}
use Rattle.writing.specs.Binary.{valtype, extern_part}
use Rattle.reading.specs.Fill.{fill}
use Rattle.fields.specs.Answers.{LeftRow, left_row, number_of_refusal, number_of, value_of, left, refuse}
use Rattle.reading.specs.Read.{reader, scanned, filled, roomed, read_found, read_item}
use Rattle.reading.specs.Scan.{byte, scan}
use Rattle.fields.specs.Shape.{plan, seq}
use Rattle.fields.specs.View.{view}
use Rattle.fields.specs.Walk.{Plan, end, step, next, took, walk, outs}
use Rattle.writing.specs.Write.{measured, written, stored, write_shape}
use Rattle.writing.proofs.AnswerLaws.{measured_sized}
use Rattle.reading.proofs.FilledLaws.{fill-length}
use Rattle.reading.proofs.ScanLaws.{Within, scan-within}
use Rattle.writing.proofs.WholeLaws.{size_is_length}
use Rattle.items.specs.ReadType.{read_type}
use Rattle.types.specs.Write as types
use Rattle.types.specs.Write.{write_type}
use Rattle.items.specs.ReadImport.{read_import}
use Rattle.canonicals.specs.Table.{lift_bytes}
use Rattle.canonical_items.specs.ReadCanonical.{type_third, read_lift, read_canonical}
use Rattle.instance_items.specs.ReadInstance.{read_core_instance, read_instance}
use Rattle.claims.proofs.Families.{on_test}
use Rattle.imports.specs.Write.{write_import}
use Rattle.canonicals.specs.Write.{write_canonical}
use Rattle.instances.specs.Write.{write_core_instance, write_instance}
use Rattle.sections.specs.declared.Phase.{Phase}
use Rattle.sections.specs.declared.Phase.TheVariants.{Closed, Opened, Headed}
use Rattle.sections.specs.declared.Section.{Section}
use Rattle.sections.specs.Finish as frame
use Rattle.sections.specs.Finish.{framing, finishing}
use Rattle.sections.specs.Runs.{Step, Row, Open, Head, Result, Abandon, turn}
use Rattle.sections.specs.Section.{opened, sounds, measured_family, family_bytes, write_family}
use Rattle.sections.specs.Steps.{Turn, turned, refused, taken, withdrawn, head_in, result_in, abandon_in, heading, resulting, abandoning}
use Rattle.sections.proofs.FamilyLaws.{family-stored, family-size}
use Rattle.sections.proofs.TurnLaws as law
use Rattle.sections.proofs.TurnLaws.{either, shape_turns, row_turns, open_turns}
use Rattle.sheets.specs.Frame.{Rows, Are, Broken, framed, pool_of, listed}
use Rattle.sheets.specs.Sheet as sheet
use Rattle.sheets.specs.Sheet.{family_of, tries, joined, finished, of_rows, sheeted}
use Rattle.cabi.specs.Read.{reply_of_read, of_read}
use Rattle.cabi.specs.State as state
use Rattle.cabi.specs.State.{section_of, given, start_number, numbers_of, finishes}
use Rattle.claims.specs.Kept.{Kept, Stores, Writes, number_of_read, words_of_read, Reads, told, Turns, Counts, ChangesNothingElse}
use Rattle.claims.specs.Valid.{productions, beside, family_in, entries}
use Rattle.claims.proofs.Production.{joined-productions}
use Rattle.numbers.proofs.Impossible.{impossible}

-- ---- any buffer

-- no refusal has the number 0
pub refusal_number : (w : Refusal) → number_of_refusal w ≡ 0 → ⊥
unfolding number_of_refusal
refusal_number refusal.Limit e = omega (arith, e)
refusal_number refusal.Kind e = omega (arith, e)
refusal_number refusal.Row e = omega (arith, e)
refusal_number refusal.Tag e = omega (arith, e)
refusal_number refusal.Range e = omega (arith, e)
refusal_number (refusal.Text offset) e = omega (arith, e)
refusal_number refusal.TooBig e = omega (arith, e)
refusal_number refusal.Room e = omega (arith, e)
refusal_number refusal.Order e = omega (arith, e)
refusal_number refusal.Count e = omega (arith, e)
refusal_number refusal.Cut e = omega (arith, e)
refusal_number refusal.Code e = omega (arith, e)
refusal_number refusal.Number e = omega (arith, e)
refusal_number refusal.Newer e = omega (arith, e)
refusal_number refusal.Sheet e = omega (arith, e)
refusal_number refusal.Frame e = omega (arith, e)

-- as it was
kept_as_was : (number at size : ℕ) (l : List ℕ) → Kept number at size l l
kept_as_was number at size l = record { refused = λ n. refl; accepted = λ e. record { long = refl; same = λ i o. refl } }

-- with elements stored, as many as are counted
kept-stored : (at size : ℕ) (vs l : List ℕ) → size ≡ length vs → Kept 0 at size l (sets l at vs)
kept-stored at size vs l e =
    record {
      refused = λ n. absurd (n refl);
      accepted = λ z. record { long = length-sets l at vs; same = λ i o. sets-outside vs l at i (rw e at o) };
    }

-- ---- numbers

stores : (src : List ℕ) (at : ℕ) (out : List ℕ) → Stores at out (store src at out)
unfolding numbers.number_of numbers.value_of
stores src at out = store-either (Stores at out) src at out (kept-stored at (length src) src out refl) (kept_as_was _ at _ out)

-- ---- writing

-- bytes of the size that was found
writes : (a : Answer) (bs out : List ℕ) (at : ℕ) → ((size : ℕ) → a ≡ Ok size → size ≡ length bs) → Writes at out (stored a bs out at)
unfolding stored number_of value_of
writes (Ok m) bs out at long = go (leb (at + m) (length out))
  where
    go : (b : Bool) → Writes at out (cond b (left (Ok m) (sets out at bs)) (refuse refusal.Room m out))
    go true = kept-stored at m bs out (long m refl)
    go false = kept_as_was _ at _ out
writes (Err fault) bs out at long = kept_as_was _ at _ out

writes_shape : (s : Shape) (row : List ℕ) (start : ℕ) (pool out : List ℕ) (at : ℕ) → Writes at out (write_shape s row start pool out at)
unfolding write_shape
writes_shape s row start pool out at =
    writes (measured s row start pool) (written s pool row start) out at
    (λ size e. size_is_length (measured_sized s row start pool refl size e))

writes-family : (family : ℕ) (row pool out : List ℕ) (at : ℕ) → Writes at out (write_family family row pool out at)
writes-family family row pool out at =
    rw family-stored (writes (measured_family family row pool) (family_bytes family pool row) out at (family-size family row pool))

writes-type : (row pool out : List ℕ) (at : ℕ) → Writes at out (write_type row pool out at)
unfolding write_family
writes-type row pool out at = writes-family 7 row pool out at

writes_canonical : (row pool out : List ℕ) (at : ℕ) → Writes at out (write_canonical row pool out at)
unfolding write_family
writes_canonical row pool out at = writes-family 8 row pool out at

writes-import : (row pool out : List ℕ) (at : ℕ) → Writes at out (write_import row pool out at)
unfolding write_family
writes-import row pool out at = writes-family 10 row pool out at

writes-core_instance : (row pool out : List ℕ) (at : ℕ) → Writes at out (write_core_instance row pool out at)
unfolding write_family
writes-core_instance row pool out at = writes-family 2 row pool out at

writes_instance : (row pool out : List ℕ) (at : ℕ) → Writes at out (write_instance row pool out at)
unfolding write_family
writes_instance row pool out at = writes-family 5 row pool out at

-- ---- reading

-- a walk that ends has made n elements
abbrev Made : Leaf → ℕ → Type 0
Made (Ok span) n = span.made ≡ n
Made (Err fault) n = Unit {0}

-- the words that are counted are those that are filled
fills : (lead g : ℕ) (input : List ℕ) (p : Plan) (xs : List ℕ) (at made : ℕ)
    → Made (walk (reader lead g input) p xs at made) (made + length (outs (reader lead g input) p at xs))
unfolding walk outs
fills lead g input end xs at made = omega arith
fills lead g input (step f k) xs at made =
    go (scan lead g f xs) (scan-within lead g f xs) (λ t m. fills lead g input (k (view input f ws)) (drop t xs) (at + t) (made + m))
  where
    ws : List ℕ
    ws = fill g f at xs

    rest : Plan
    rest = k (view input f ws)

    go : (l : Leaf) → Within l (length xs) (wide f)
        → ((t m : ℕ)
        → Made (walk (reader lead g input) rest (drop t xs) (at + t) (made + m))
        (made + m + length (outs (reader lead g input) rest (at + t) (drop t xs))))
        → Made (next l (λ t m. walk (reader lead g input) rest (drop t xs) (at + t) (made + m)) at)
        (made + length (ws ++ outs (reader lead g input) rest (at + took l) (drop (took l) xs)))
    go (Ok span) w ih =
        let vs = outs (reader lead g input) rest (at + span.took) (drop span.took xs) in
        let n : made + span.made + length vs ≡ made + length (ws ++ vs) = omega (arith, w.1, fill-length g f at xs, length-append ws vs) in
        subst (λ n. Made (walk (reader lead g input) rest (drop span.took xs) (at + span.took) (made + span.made)) n) n (ih span.took span.made)
    go (Err fault) b ih = tt

reads-roomed : (l : Leaf) (ws row : List ℕ) → Made l (length ws) → Reads row (roomed l ws row)
unfolding roomed
reads-roomed (Err fault) ws row h = kept_as_was _ 0 _ row
reads-roomed (Ok span) ws row h = go (ltb 16384 span.made) (leb span.made (length row))
  where
    go : (a b : Bool)
        → Reads row (cond a (left_row (read.Refused refusal.Room span.made) row)
        (cond b (left_row (read.Item span.made span.took) (sets row 0 ws)) (left_row (read.Refused refusal.Room span.made) row)))
    go true b = kept_as_was _ 0 _ row
    go false true = kept-stored 0 span.made ws row h
    go false false = kept_as_was _ 0 _ row

reads-item : (f : Option Shape) (kind lead g : ℕ) (input row : List ℕ) → Reads row (read_item f kind lead g input row)
unfolding read_item
reads-item f kind lead g input row = go (ltb (2 ^ 30) (length input)) (ltb g 1) (ltb 3 g) (eqb (length input) 0)
  where
    shaped : (f : Option Shape) → Reads row (read_found f kind lead g input row)
    shaped (Some s) =
        let n : 1 + length (outs (reader lead g input) (plan s) 0 input) ≡ length (filled kind lead g s input) = omega arith in
        reads-roomed (scanned lead g s input) (filled kind lead g s input) row
        (subst (λ n. Made (scanned lead g s input) n) n (fills lead g input (plan s) input 0 1))
    shaped None = kept_as_was _ 0 _ row

    go : (a b c d : Bool)
        → Reads row (cond a (left_row (read.Refused refusal.Limit 0) row)
        (cond b (left_row (read.Refused refusal.Limit 0) row)
        (cond c (left_row (read.Refused refusal.Limit 0) row)
        (cond d (left_row (read.Refused refusal.Cut 0) row) (read_found f kind lead g input row)))))
    go true b c d = kept_as_was _ 0 _ row
    go false true c d = kept_as_was _ 0 _ row
    go false false true d = kept_as_was _ 0 _ row
    go false false false true = kept_as_was _ 0 _ row
    go false false false false = shaped f

reads_type : (g : ℕ) (input row : List ℕ) → Reads row (read_type g input row)
unfolding read_type
reads_type g input row = reads-item _ _ _ g input row

-- a lift: its words are as many in both orders
third_long : (ws : List ℕ) → 3 ≤ length ws → length (type_third ws) ≡ length ws
unfolding type_third
third_long (a ∷ b ∷ c ∷ ws) h =
    let n : length (take (length (a ∷ b ∷ c ∷ ws) - 3) (c ∷ ws)) ≡ length (a ∷ b ∷ c ∷ ws) - 3 = length-take-le _ _ (omega arith) in
    omega (arith, n)
third_long [] h = absurd (omega (arith, h))
third_long (a ∷ []) h = absurd (omega (arith, h))
third_long (a ∷ b ∷ []) h = absurd (omega (arith, h))

reads-import : (g : ℕ) (input row : List ℕ) → Reads row (read_import g input row)
unfolding read_import
reads-import g input row = reads-item _ _ _ g input row

reads-lift : (g : ℕ) (input row : List ℕ) → Reads row (read_lift g input row)
unfolding read_lift outs seq fill
reads-lift g input row = go (ltb (2 ^ 30) (length input)) (ltb g 1) (ltb 3 g) (eqb (length input) 0)
  where
    ws : List ℕ
    ws = filled 256 1 g lift_bytes input

    shaped : Reads row (roomed (scanned 1 g lift_bytes input) (type_third ws) row)
    shaped =
        let n : 1 + length (outs (reader 1 g input) (plan lift_bytes) 0 input) ≡ length (type_third ws) = omega (arith, third_long ws (omega arith)) in
        reads-roomed (scanned 1 g lift_bytes input) (type_third ws) row
        (subst (λ n. Made (scanned 1 g lift_bytes input) n) n (fills 1 g input (plan lift_bytes) input 0 1))

    go : (a b c d : Bool)
        → Reads row (cond a (left_row (read.Refused refusal.Limit 0) row)
        (cond b (left_row (read.Refused refusal.Limit 0) row)
        (cond c (left_row (read.Refused refusal.Limit 0) row)
        (cond d (left_row (read.Refused refusal.Cut 0) row) (roomed (scanned 1 g lift_bytes input) (type_third ws) row)))))
    go true b c d = kept_as_was _ 0 _ row
    go false true c d = kept_as_was _ 0 _ row
    go false false true d = kept_as_was _ 0 _ row
    go false false false true = kept_as_was _ 0 _ row
    go false false false false = shaped

reads_canonical : (g : ℕ) (input row : List ℕ) → Reads row (read_canonical g input row)
unfolding read_canonical
reads_canonical g input row = on_test (Reads row) (eqb (byte input 0) 0) (reads-lift g input row) (reads-item _ _ _ g input row)

reads-core_instance : (g : ℕ) (input row : List ℕ) → Reads row (read_core_instance g input row)
unfolding read_core_instance
reads-core_instance g input row = reads-item _ _ _ g input row

reads_instance : (g : ℕ) (input row : List ℕ) → Reads row (read_instance g input row)
unfolding read_instance
reads_instance g input row = reads-item _ _ _ g input row

-- ---- steps

-- what a step leaves, of the state and of the body
record Leaves (k : Step) (s : Section) (body : List ℕ) (t : Turn) : Type 0 where
  on_state : Turns k s t
  on_body : Kept (number_of t.gave.answer) s.used (value_of t.gave.answer) body t.body

module _ (s : Section) (body : List ℕ) where
  refuses : (k : Step) (w : Refusal) (n : ℕ) → Leaves k s body (turned (refused s w n) body)
  unfolding number_of
  refuses k w n =
      record {
        on_state = record { refused = λ e. refl; accepted = λ e. absurd (refusal_number w e) };
        on_body = kept_as_was _ s.used _ body;
      }

  -- a turn that stores bytes, where what is told is the state that it grows to
  leaves : {r : Answer} {bs : List ℕ} {count : ℕ} {phase : Phase} {t : Turn} (k : Step)
      → ((n : ℕ) → (taken s (Ok n) count phase).section ≡ told k s n) → law.Turns s body r bs count phase t → Leaves k s body t
  unfolding number_of value_of
  leaves k tells (law.refuses w n) = refuses k w n
  leaves {r} {bs} k tells (law.stores e h) =
      record {
        on_state = record { refused = λ n. absurd (n refl); accepted = λ z. tells (length bs) };
        on_body = kept-stored s.used (length bs) bs body refl;
      }

  -- the steps of an open entry, by the phase
  on_head : (words pool : List ℕ) (p : Phase) → s.phase ≡ p → Leaves (Head words pool) s body (head_in p s words pool body)
  on_head words pool Closed e = refuses _ refusal.Order 0
  on_head words pool (Opened start) e =
      leaves (Head words pool) (λ n. simp e) (shape_turns s body s.count (Headed start) types.head_shape words pool)
  on_head words pool (Headed start) e = refuses _ refusal.Order 0

  on_result : (tag x : ℕ) (p : Phase) → Leaves (Result tag x) s body (result_in p s tag x body)
  on_result tag x Closed = refuses _ refusal.Order 0
  on_result tag x (Opened start) = refuses _ refusal.Order 0
  on_result tag x (Headed start) =
      leaves (Result tag x) (λ n. refl) (shape_turns s body s.count Closed types.result_shape (tag ∷ x ∷ []) [])

  withdraws : (start : ℕ) → start ≡ start_number s.phase → Leaves Abandon s body (turned (withdrawn s start) body)
  unfolding number_of
  withdraws start e =
      record {
        on_state = record { refused = λ n. absurd (n refl); accepted = λ z. simp e };
        on_body = kept_as_was _ s.used _ body;
      }

  on_abandon : (p : Phase) → s.phase ≡ p → Leaves Abandon s body (abandon_in p s body)
  on_abandon Closed e = refuses _ refusal.Order 0
  on_abandon (Opened start) e = withdraws start (simp e)
  on_abandon (Headed start) e = withdraws start (simp e)

step-leaves : (k : Step) (s : Section) (body : List ℕ) → Leaves k s body (turn k s body)
unfolding heading resulting abandoning
step-leaves (Row row pool) s body = leaves s body (Row row pool) (λ n. refl) (row_turns s body row pool)
step-leaves Open s body = leaves s body Open (λ n. refl) (open_turns s body)
step-leaves (Head words pool) s body =
    let limit = refuses s body (Head words pool) refusal.Limit 0 in
    either (Leaves (Head words pool) s body) (sounds s (length body)) _ _
    (either (Leaves (Head words pool) s body) (ltb 16384 (length words)) _ _ limit
    (either (Leaves (Head words pool) s body) (ltb 65536 (length pool)) _ _ limit (on_head s body words pool s.phase refl)))
    limit
step-leaves (Result tag x) s body =
    either (Leaves (Result tag x) s body) (sounds s (length body)) _ _ (on_result s body tag x s.phase) (refuses s body _ refusal.Limit 0)
step-leaves Abandon s body =
    either (Leaves Abandon s body) (sounds s (length body)) _ _ (on_abandon s body s.phase refl) (refuses s body _ refusal.Limit 0)

-- finishing stores the frame
writes-finished : (s : Section) (body out : List ℕ) → Writes 0 out (finishing s body out)
unfolding finishing framing
writes-finished s body out = go (sounds s (length body)) (opened s.phase) (ltb 4294967295 (length (unsigned s.count) + length used))
  where
    used : List ℕ
    used = take s.used body

    bs : List ℕ
    bs = frame.framed s.family (length (unsigned s.count) + length used) s.count used

    long : (size : ℕ) → ◌≡◌ {A = Answer} (Ok (length bs)) (Ok size) → size ≡ length bs
    long size e = cc

    go : (a b c : Bool)
        → Writes 0 out (cond a (cond b (refuse refusal.Order 0 out) (cond c (refuse refusal.TooBig 0 out) (stored (Ok (length bs)) bs out 0)))
        (refuse refusal.Limit 0 out))
    go true true c = kept_as_was _ 0 _ out
    go true false true = kept_as_was _ 0 _ out
    go true false false = writes (Ok (length bs)) bs out 0 long
    go false b c = kept_as_was _ 0 _ out

-- ---- sheets

-- what a sheet leaves of the body and of the output, with so many bytes of rows
record Sheets (size : ℕ) (body out : List ℕ) (l : sheet.Left) : Type 0 where
  on_body : Kept (number_of l.answer) 0 size body l.body
  on_out : Kept (number_of l.answer) 0 (value_of l.answer) out l.out

module _ (size : ℕ) (body out : List ℕ) where
  sheet_refused : (w : Refusal) (n : ℕ) → Sheets size body out (sheet.refuse w n body out)
  sheet_refused w n = record { on_body = kept_as_was _ 0 _ body; on_out = kept_as_was _ 0 _ out }

  sheet_finished : (family r : ℕ) (bs : List ℕ) → size ≡ length bs → Sheets size body out (finished family r bs body out)
  unfolding finished number_of value_of
  sheet_finished family r bs e = go (leb (length whole) (length out))
    where
      whole : List ℕ
      whole = sheet.section family r bs

      go : (b : Bool)
          → Sheets size body out (cond b (sheet.left (Ok (length whole)) (sets body 0 bs) (sets out 0 whole)) (sheet.refuse refusal.Room r body out))
      go true = record { on_body = kept-stored 0 size bs body e; on_out = kept-stored 0 (length whole) whole out refl }
      go false = sheet_refused refusal.Room r

sheet_rows_lem : (rows : Rows) (pool body out : List ℕ)
    → let es = beside pool (listed rows) in Sheets (length (productions (family_in es) es)) body out (of_rows rows pool body out)
sheet_rows_lem Broken pool body out = sheet_refused _ body out refusal.Sheet 0
sheet_rows_lem (Are []) pool body out = sheet_refused _ body out refusal.Sheet 0
sheet_rows_lem (Are (row ∷ rows)) pool body out = go (tries family pool (length body) (row ∷ rows) 0 0) refl
  where
    family : ℕ
    family = family_of (word row 0)

    bs : List ℕ
    bs = joined family pool (row ∷ rows)

    size : ℕ
    size = length (productions family (beside pool (row ∷ rows)))

    go : (l : Leaf) → tries family pool (length body) (row ∷ rows) 0 0 ≡ l → Sheets size body out (sheet.written l family bs body out)
    go (Ok span) e =
        sheet_finished size body out family span.took bs (ap length (sym (joined-productions family pool (length body) (row ∷ rows) 0 0 span.took span.made e)))
    go (Err fault) e = sheet_refused size body out fault.why fault.value

sheet_leaves : (input body out : List ℕ)
    → Sheets (length (productions (family_in (entries input)) (entries input))) body out (sheeted input body out)
unfolding sheeted
sheet_leaves input body out = go (ltb 65536 (length input))
  where
    go : (b : Bool)
        → Sheets (length (productions (family_in (entries input)) (entries input))) body out
        (cond b (sheet.refuse refusal.Limit 0 body out) (of_rows (framed input) (pool_of input) body out))
    go true = sheet_refused _ body out refusal.Limit 0
    go false = sheet_rows_lem (framed input) (pool_of input) body out

-- ---- the C interface

-- five numbers that are a state are the numbers of that state
numbers_given : (x : List ℕ) (s : Section) → given x ≡ Some s
    → numbers_of s ≡ get_or x 0 0 ∷ get_or x 1 0 ∷ get_or x 2 0 ∷ get_or x 3 0 ∷ get_or x 4 0 ∷ []
unfolding given
numbers_given x s e =
    go (ltb (get_or x 0 0) (2 ^ 32)) (ltb (get_or x 2 0) (2 ^ 32)) (eqb (get_or x 3 0) 0) (eqb (get_or x 4 0) 0) (eqb (get_or x 3 0) 1) (eqb (get_or x 3 0) 2) refl
    refl refl refl e
  where
    phase : ℕ
    phase = get_or x 3 0

    start : ℕ
    start = get_or x 4 0

    section : Phase → Option Section
    section p = section_of (get_or x 0 0) (get_or x 1 0) (get_or x 2 0) p

    -- the section that is found has these numbers
    is : (p : Phase) → section p ≡ Some s → state.phase_number p ≡ phase → start_number p ≡ start
        → numbers_of s ≡ get_or x 0 0 ∷ get_or x 1 0 ∷ get_or x 2 0 ∷ phase ∷ start ∷ []
    is p e a b =
        let t : Section = record { family = get_or x 0 0; used = get_or x 1 0; count = get_or x 2 0; phase = p } in
        let same : t ≡ s = cc in
        ap numbers_of (sym same) ∙ (λ i. get_or x 0 0 ∷ get_or x 1 0 ∷ get_or x 2 0 ∷ a i ∷ b i ∷ [])

    go : (a b c d f g : Bool) → eqb phase 0 ≡ c → eqb start 0 ≡ d → eqb phase 1 ≡ f → eqb phase 2 ≡ g
        → cond a
        (cond b
        (cond c (cond d (section Closed) None) (cond f (section (Opened start)) (cond g (section (Headed start)) None))) None) None ≡ Some s
        → numbers_of s ≡ get_or x 0 0 ∷ get_or x 1 0 ∷ get_or x 2 0 ∷ phase ∷ start ∷ []
    go true true true true f g p q r t e = is Closed e (sym (eqb-true _ _ p)) (sym (eqb-true _ _ q))
    go true true true false f g p q r t e = impossible cc
    go true true false d true g p q r t e = is (Opened start) e (sym (eqb-true _ _ r)) refl
    go true true false d false true p q r t e = is (Headed start) e (sym (eqb-true _ _ t)) refl
    go true true false d false false p q r t e = impossible cc
    go true false c d f g p q r t e = impossible cc
    go false b c d f g p q r t e = impossible cc

five : (x : List ℕ) → length x ≡ 5 → get_or x 0 0 ∷ get_or x 1 0 ∷ get_or x 2 0 ∷ get_or x 3 0 ∷ get_or x 4 0 ∷ [] ≡ x
five [] e = absurd (omega (arith, e))
five (a ∷ []) e = absurd (omega (arith, e))
five (a ∷ b ∷ []) e = absurd (omega (arith, e))
five (a ∷ b ∷ c ∷ []) e = absurd (omega (arith, e))
five (a ∷ b ∷ c ∷ d ∷ []) e = absurd (omega (arith, e))
five (a ∷ b ∷ c ∷ d ∷ f ∷ []) e = refl
five (a ∷ b ∷ c ∷ d ∷ f ∷ g ∷ x) e = absurd (omega (arith, e))

counts : (k : Step) (x body : List ℕ) → length x ≡ 5 → Counts k x (state.step (given x) (λ s. turn k s body) x body)
unfolding number_of
counts k x body five-long = go (given x) refl
  where
    go : (g : Option Section) → given x ≡ g → Counts k x (state.step g (λ s. turn k s body) x body)
    go (Some s) e =
        let t = (step-leaves k s body).on_state in
        record {
          refused = λ n. ap numbers_of (t.refused n) ∙ numbers_given x s e ∙ five x five-long;
          accepted = λ n. (s, e, ap numbers_of (t.accepted n));
        }
    go None e = record { refused = λ n. refl; accepted = λ n. absurd (refusal_number refusal.Limit n) }

c_body : (k : Step) (x body : List ℕ)
    → let t = state.step (given x) (λ s. turn k s body) x body in Kept t.reply.number (get_or x 1 0) t.reply.value body t.body
c_body k x body = go (given x) refl
  where
    go : (g : Option Section) → given x ≡ g
        → let t = state.step g (λ s. turn k s body) x body in Kept t.reply.number (get_or x 1 0) t.reply.value body t.body
    go (Some s) e =
        let used : s.used ≡ get_or x 1 0 = ap (λ l. get_or l 1 0) (numbers_given x s e) in
        let t = turn k s body in
        subst (λ at. Kept (number_of t.gave.answer) at (value_of t.gave.answer) body t.body) used (step-leaves k s body).on_body
    go None e = kept_as_was _ (get_or x 1 0) _ body

c_finishes : (x body out : List ℕ)
    → let l = finishes (given x) body out in Kept l.reply.number 0 l.reply.value out l.out
c_finishes x body out = go (given x)
  where
    go : (g : Option Section) → let l = finishes g body out in Kept l.reply.number 0 l.reply.value out l.out
    go (Some s) = writes-finished s body out
    go None = kept_as_was _ 0 _ out

c_reads : (row : List ℕ) (l : LeftRow) → Reads row l → Kept (of_read l).reply.number 0 (of_read l).reply.also row (of_read l).row
c_reads row l h = go l.answer h
  where
    go : (r : Read) → Kept (number_of_read r) 0 (words_of_read r) row l.row
        → Kept (reply_of_read r).number 0 (reply_of_read r).also row l.row
    go (Ok item) h = h
    go (Err fault) h = record { refused = h.refused; accepted = λ e. absurd (refusal_number fault.why e) }

-- ---- every call

pub changes_nothing_else : ChangesNothingElse
changes_nothing_else =
    record {
      copy = stores;
      put_unsigned = λ n. stores (unsigned n);
      put_signed = λ n. stores (signed n);
      put_value = λ tag x. stores (valtype tag x);
      put_name = λ pool start size. stores (unsigned size ++ part_of pool start size);
      put_extern = λ pool ws. stores (extern_part pool ws);
      write_type = writes-type;
      write_head = λ words pool out at. writes_shape types.head_shape words 0 pool out at;
      write_result = λ tag x out at. writes_shape types.result_shape (tag ∷ x ∷ []) 0 [] out at;
      write_import = writes-import;
      write_canonical = writes_canonical;
      write_core_instance = writes-core_instance;
      write_instance = writes_instance;
      read_type_lem = reads_type;
      read_import_lem = reads-import;
      read_canonical = reads_canonical;
      read_core_instance = reads-core_instance;
      read_instance = reads_instance;
      write_by = writes-family;
      step_state = λ k s body. (step-leaves k s body).on_state;
      step_body = λ k s body. (step-leaves k s body).on_body;
      finish = writes-finished;
      lent_state = λ k s after r body new e. subst (λ t. Turns k s t) (sym e) (step-leaves k s body).on_state;
      lent_body = λ k s after r body new e.
          subst (λ (t : Turn). Kept (number_of t.gave.answer) s.used (value_of t.gave.answer) body t.body) (sym e)
          (step-leaves k s body).on_body;
      sheet_body = λ input body out. (sheet_leaves input body out).on_body;
      sheet_out = λ input body out. (sheet_leaves input body out).on_out;
      c_step_state = counts;
      c_step_body = c_body;
      c_finish = c_finishes;
      c_sheet_body = λ input body out. (sheet_leaves input body out).on_body;
      c_sheet_out = λ input body out. (sheet_leaves input body out).on_out;
      c_read_type = λ g input row. c_reads row (read_type g input row) (reads_type g input row);
      c_read_import = λ g input row. c_reads row (read_import g input row) (reads-import g input row);
    }
