-- Bad versions fall at one small input each: what the contract names is computed there; a miscount falls wherever it is.
use Rattle.std.specs.Prelude.{Ok, Err}
use Prim.Native.Nat.{ℕ, zero, suc, ◌+◌, ◌≤◌, ◌<◌}
use native.Mathlib.Nat.{min-le_left}
use native.Mathlib.Omega.{arith}
use mathlib.Core.Path.{◌≡◌, refl, sym, ◌∙◌, ap, subst}
use mathlib.Core.Logic.{∥∥₁_elim}
use mathlib.Core.HLevel.{⊥_prop}
use mathlib.Core.Bool.{Bool, true, false, cond}
use mathlib.Core.List.{List, [], ◌∷◌}
use borrow.Author.Tests.{leb-true}
use lib.Dec.{ltb, leb}
use lib.ListN.{length, get_or, take, length-take}
use lib.Seq.{sets, get_or-take}
use contract.Lifetimes.{Lfts}
use contract.Monad.{fact}
use borrow.Fn.World.{w₀}
use Rattle.numbers.specs.Leb.{unsigned, bytes_of, take_in, within32, number_in}
use Rattle.numbers.specs.Text.{text, rest, step}
use Rattle.numbers.proofs.BytesLaws.{sets_back}
use Rattle.numbers.proofs.LebLaws.{one_byte}
use Rattle.fields.specs.Answer.{Answer}
use Rattle.fields.specs.Read as read
use Rattle.fields.specs.declared.Refusal.{Refusal}
use Rattle.fields.specs.declared.Refusal.TheVariants as refusal
use Rattle.writing.specs.Binary.{name, primvaltype, flag, slot_at, slots_at, slots, externname, externdesc, bytes}
use Rattle.reading.specs.Fill.{primitive, fill_name, fill_extern, fill_slots, fill_slot, fill_reference, fill}
use Rattle.fields.specs.Words.{wide}
use Rattle.writing.specs.Judge.{named, optional_name, reference, flaw, judge}
use Rattle.fields.specs.Answers.{LeftRow, left_row, number_of, Left, left, refuse}
use Rattle.reading.specs.Read.{roomed, read_item}
use Rattle.writing.specs.Row.{measured_row, row_bytes, write_row}
use Rattle.reading.specs.Scan.{scan_index, scan_name, scan_primitive, head_scan, first_scan, second_scan, scan_extern, slot_scan, end_scan, scan_reference, scan}
use Rattle.fields.specs.Shape.{repeated, seq, widths, row_width}
use Rattle.fields.specs.Table.{shape_in}
use Rattle.fields.specs.View.{view}
use Rattle.fields.specs.Walk.{walk, outs}
use Rattle.writing.specs.Write.{sized, measured, stored}
use Rattle.items.specs.ReadType.{kind_in, kind_of, lead_grade, read_type}
use Rattle.types.specs.Write.{measured_type, write_type}
use Rattle.items.specs.ReadImport.{read_import}
use Rattle.imports.specs.Write.{write_import}
use Rattle.canonicals.specs.Write.{canonical_bytes, measured_canonical, write_canonical}
use Rattle.instances.specs.Write.{write_core_instance, write_instance}
use Rattle.sections.specs.declared.Phase.TheVariants.{Closed}
use Rattle.sections.specs.declared.Section.{Section}
use Rattle.sections.specs.Runs.{IsSize}
use Rattle.sections.specs.Finish.{framed, framing, finishing}
use Rattle.sections.specs.Section.{fresh, opened, known_family, sounds, measured_family, family_bytes, write_family}
use Rattle.sections.specs.Steps.{Turn, turned, gives, rowing, opening}
use Rattle.sections.proofs.TurnLaws.{row_turns, open_turns, accepted_grows}
use Rattle.sheets.specs.Frame as frame
use Rattle.sheets.specs.Sheet.{family_of, tries, joined, finished, sheeted}
use Rattle.claims.specs.Bad.{Lent, LentMut, Writer, SameBytes, WritesNothing, Reader, AlwaysNewer, BadVersions}
use Rattle.claims.specs.Kept.{number_of_read}
use Rattle.claims.proofs.Kept.{refusal_number}

-- a clause that holds states what cannot be refuted
told : {P : Type 0} → (fact w₀.𝓤 P).holds w₀.𝓤.one → (P → ⊥) → ⊥
told h f = ∥∥₁_elim h ⊥_prop (λ t. f t.0)

sized_by : (r : Answer) → number_of r ≡ 0 → IsSize r
unfolding number_of
sized_by (Ok n) e = tt
sized_by (Err fault) e = absurd (refusal_number fault.why e)

-- ---- the small inputs

-- the lifetimes of n references
abbrev lifetimes : (n : ℕ) → Lfts n
lifetimes zero = tt
lifetimes (suc n) = ([], lifetimes n)

-- bytes or words at the front of a block
abbrev lent : List ℕ → Lent
lent l = record { ref_ptr = (0, 0); now = l }

abbrev lent_mut : List ℕ → LentMut
lent_mut l = record { ref_ptr = (0, 0); ghost_name = 0; now = l }

-- two rows of each family: string and bool
abbrev string : List ℕ
string = 0 ∷ 12 ∷ []

abbrev bool : List ℕ
bool = 0 ∷ 0 ∷ []

-- imports of function i, by a name of one byte at `start`; the bytes, where the name is `f`
abbrev function : ℕ → ℕ → List ℕ
function start i = 17 ∷ start ∷ 1 ∷ 0 ∷ 0 ∷ 0 ∷ 0 ∷ 0 ∷ 0 ∷ 0 ∷ 0 ∷ 0 ∷ 1 ∷ i ∷ 0 ∷ []

abbrev function_bytes : ℕ → List ℕ
function_bytes i = 0x00 ∷ 0x01 ∷ 0x66 ∷ 0x01 ∷ i ∷ []

-- canonicals that are their lead alone
abbrev bare : ℕ → List ℕ
bare lead = (256 + lead) ∷ []

-- instances of module or component i with no arguments
abbrev instance_of : ℕ → ℕ → List ℕ
instance_of kind i = kind ∷ i ∷ 0 ∷ []

-- room
abbrev zeros : ℕ → List ℕ
zeros zero = []
zeros (suc n) = 0 ∷ zeros n

-- a section of the one row string, over the body 73 00
abbrev begun : Section
begun = record { family = 7; used = 1; count = 1; phase = Closed }

-- a sheet of the one row string
abbrev string_sheet : List ℕ
string_sheet = 1 ∷ 0 ∷ 0 ∷ 0 ∷ 0 ∷ 0 ∷ 0 ∷ 0 ∷ 2 ∷ 0 ∷ 0 ∷ 0 ∷ 0 ∷ 0 ∷ 0 ∷ 0 ∷ 12 ∷ []

-- what the calls are given: a row and its pool over a buffer, bytes at a grade over a row, sections and sheets
abbrev writing : List ℕ → List ℕ → List ℕ → Lent × (Lent × (LentMut × (ℕ × Unit {0})))
writing row pool out = (lent row, (lent pool, (lent_mut out, (0, tt))))

abbrev reading : List ℕ → ℕ → List ℕ → Lent × (ℕ × (LentMut × Unit {0}))
reading input g row = (lent input, (g, (lent_mut row, tt)))

abbrev adding : Section × (Lent × (Lent × (LentMut × Unit {0})))
adding = (begun, (lent string, (lent [], (lent_mut (0x73 ∷ 0 ∷ []), tt))))

abbrev starting : Section × (LentMut × Unit {0})
starting = (fresh 7, (lent_mut [], tt))

abbrev ending : Section × (Lent × (LentMut × Unit {0}))
ending = (begun, (lent (0x73 ∷ 0 ∷ []), (lent_mut (zeros 4), tt)))

abbrev sheeting : Lent × (LentMut × (LentMut × Unit {0}))
sheeting = (lent string_sheet, (lent_mut (zeros 1), (lent_mut (zeros 4), tt)))

-- ---- what the contracts name there

string-written : write_type string [] (zeros 1) 0 ≡ left (Ok 1) (0x73 ∷ [])
unfolding primvaltype bytes wide flaw judge measured_row row_bytes write_row seq widths row_width shape_in walk outs sized measured stored write_type
string-written = refl

bool-written : write_type bool [] (zeros 1) 0 ≡ left (Ok 1) (0x7f ∷ [])
unfolding primvaltype bytes wide flaw judge measured_row row_bytes write_row seq widths row_width shape_in walk outs sized measured stored write_type
bool-written = refl

function-written : (i : ℕ) → i ≤ 1 → write_import (function 0 i) (0x66 ∷ []) (zeros 5) 0 ≡ left (Ok 5) (function_bytes i)
unfolding bytes_of text rest step name flag slot_at slots_at slots externname externdesc bytes wide named optional_name reference flaw judge measured_row row_bytes write_row seq widths row_width shape_in walk outs sized measured stored write_import
function-written zero h = refl
function-written (suc zero) h = refl
function-written (suc (suc i)) h = absurd (omega (arith, h))

cancel_written : write_canonical (bare 0x05) [] (zeros 1) 0 ≡ left (Ok 1) (0x05 ∷ [])
unfolding bytes wide flaw judge measured_row row_bytes seq widths row_width shape_in walk outs sized measured stored canonical_bytes measured_canonical write_canonical
cancel_written = refl

drop-written : write_canonical (bare 0x0d) [] (zeros 1) 0 ≡ left (Ok 1) (0x0d ∷ [])
unfolding bytes wide flaw judge measured_row row_bytes seq widths row_width shape_in walk outs sized measured stored canonical_bytes measured_canonical write_canonical
drop-written = refl

core_written : (i : ℕ) → i ≤ 1 → write_core_instance (instance_of 18 i) [] (zeros 3) 0 ≡ left (Ok 3) (0x00 ∷ i ∷ 0x00 ∷ [])
unfolding bytes_of bytes wide flaw judge measured_row row_bytes write_row repeated seq widths row_width shape_in view walk outs sized measured stored write_core_instance
core_written zero h = refl
core_written (suc zero) h = refl
core_written (suc (suc i)) h = absurd (omega (arith, h))

instance_written : (i : ℕ) → i ≤ 1 → write_instance (instance_of 19 i) [] (zeros 3) 0 ≡ left (Ok 3) (0x00 ∷ i ∷ 0x00 ∷ [])
unfolding bytes_of bytes wide flaw judge measured_row row_bytes write_row repeated seq widths row_width shape_in view walk outs sized measured stored write_instance
instance_written zero h = refl
instance_written (suc zero) h = refl
instance_written (suc (suc i)) h = absurd (omega (arith, h))

string_read : (g : ℕ) → 1 ≤ g → g ≤ 3 → read_type g (0x73 ∷ []) (zeros 2) ≡ left_row (read.Item 2 1) string
unfolding kind_in kind_of lead_grade read_type read_item roomed scan_primitive scan primitive fill seq shape_in walk outs
string_read zero h k = absurd (omega (arith, h))
string_read (suc zero) h k = refl
string_read (suc (suc zero)) h k = refl
string_read (suc (suc (suc zero))) h k = refl
string_read (suc (suc (suc (suc g)))) h k = absurd (omega (arith, k))

function_read : (g : ℕ) → 1 ≤ g → g ≤ 3 → read_import g (function_bytes 0) (zeros 15) ≡ left_row (read.Item 15 5) (function 2 0)
unfolding text rest step take_in within32 number_in read_import read_item roomed scan_index scan_name head_scan first_scan second_scan scan_extern slot_scan end_scan scan_reference scan fill_name fill_extern fill_slots fill_slot fill_reference fill seq shape_in walk outs
function_read zero h k = absurd (omega (arith, h))
function_read (suc zero) h k = refl
function_read (suc (suc zero)) h k = refl
function_read (suc (suc (suc zero))) h k = refl
function_read (suc (suc (suc (suc g)))) h k = absurd (omega (arith, k))

row_added : rowing begun string [] (0x73 ∷ 0 ∷ [])
    ≡ turned (gives (record { family = 7; used = 2; count = 2; phase = Closed }) (Ok 1)) (0x73 ∷ 0x73 ∷ [])
unfolding primvaltype bytes wide flaw judge measured_row row_bytes write_row seq widths row_width shape_in walk outs sized measured stored write_type write_family known_family sounds rowing
row_added = refl

opened-fresh : number_of (opening (fresh 7) []).gave.answer ≡ 0
unfolding number_of known_family sounds opening
opened-fresh = refl

finished-begun : finishing begun (0x73 ∷ 0 ∷ []) (zeros 4) ≡ left (Ok 4) (7 ∷ 2 ∷ 1 ∷ 0x73 ∷ [])
unfolding bytes_of known_family sounds stored framing finishing
finished-begun = refl

string-sheeted : number_of (sheeted string_sheet (zeros 1) (zeros 4)).answer ≡ 0
unfolding number_of bytes_of primvaltype bytes wide flaw judge measured_row row_bytes seq widths row_width shape_in walk outs sized measured measured_type measured_family family_bytes frame.number frame.words frame.rows_from frame.framed family_of tries joined finished sheeted
string-sheeted = refl

-- ---- each falls

-- lists that differ at a place
apart : (i : ℕ) {bs cs : List ℕ} → (get_or bs i 0 ≡ get_or cs i 0 → ⊥) → bs ≡ cs → ⊥
apart i h e = h (ap (λ l. get_or l i 0) e)

-- OK is the number of a size
ok : {l : Left} {n : ℕ} {bs : List ℕ} → l ≡ left (Ok n) bs → number_of l.answer ≡ 0
unfolding number_of
ok e = ap (λ l. number_of l.answer) e

turned_ok : {t : Turn} {s : Section} {n : ℕ} {body : List ℕ} → t ≡ turned (gives s (Ok n)) body → number_of t.gave.answer ≡ 0
unfolding number_of
turned_ok e = ap (λ t. number_of t.gave.answer) e

-- a writer that leaves what a contract names
abbrev names : (List ℕ → List ℕ → List ℕ → ℕ → Left) → Writer
names write κs a = let l = write a.0.now a.1.0.now a.1.1.0.now a.1.1.1.0 in (l.answer, (tt, (tt, (l.buffer, (tt, tt)))))

-- a writer of any family, by what it writes of one row and of another
module _ (write : List ℕ → List ℕ → List ℕ → ℕ → Left) (v : Writer)
    (met : (κs : Lfts 3) (a : Lent × (Lent × (LentMut × (ℕ × Unit {0})))) → Unit {0}
    → (fact w₀.𝓤 (left (v κs a).0 (v κs a).1.1.1.0 ≡ write a.0.now a.1.0.now a.1.1.0.now a.1.1.1.0)).holds w₀.𝓤.one)
    {row pool out bs : List ℕ} {m : ℕ} (first : write row pool out 0 ≡ left (Ok m) bs) where
  writer_refuses : ((κs : Lfts 3) (a : Lent × (Lent × (LentMut × (ℕ × Unit {0})))) → number_of (v κs a).0 ≡ 0 → ⊥) → ⊥
  writer_refuses bad = told (met (lifetimes 3) (writing row pool out) tt) (λ p. bad (lifetimes 3) (writing row pool out) (ok (p ∙ first)))

  writer_nothing : (bs ≡ out → ⊥) → WritesNothing v → ⊥
  writer_nothing some bad =
      told (met (lifetimes 3) (writing row pool out) tt) (λ p.
      some (ap (λ l. l.buffer) (sym (p ∙ first)) ∙ bad (lifetimes 3) (lent row) (lent pool) (lent_mut out) 0 (ok (p ∙ first))))

  writer_same : {other cs : List ℕ} {k : ℕ} → write other pool out 0 ≡ left (Ok k) cs → (bs ≡ cs → ⊥) → SameBytes v → ⊥
  writer_same {other} second differ bad =
      told (met (lifetimes 3) (writing row pool out) tt) (λ p.
      told (met (lifetimes 3) (writing other pool out) tt) (λ q.
      differ (ap (λ l. l.buffer) (sym (p ∙ first))
      ∙ bad (lifetimes 3) (lent row) (lent other) (lent pool) (lent_mut out) 0 (ok (p ∙ first)) (ok (q ∙ second))
      ∙ ap (λ l. l.buffer) (q ∙ second))))

-- a reader, by bytes that it takes at each grade
module _ (reads : ℕ → List ℕ → List ℕ → LeftRow) (v : Reader)
    (met : (κs : Lfts 2) (a : Lent × (ℕ × (LentMut × Unit {0}))) → Unit {0}
    → (fact w₀.𝓤 (left_row (v κs a).0 (v κs a).1.1.1.0 ≡ reads a.1.0 a.0.now a.1.1.0.now)).holds w₀.𝓤.one)
    {input row ws : List ℕ} {n k : ℕ} (fine : (g : ℕ) → 1 ≤ g → g ≤ 3 → reads g input row ≡ left_row (read.Item n k) ws) where
  reader_refuses : ((κs : Lfts 2) (a : Lent × (ℕ × (LentMut × Unit {0}))) → number_of_read (v κs a).0 ≡ 0 → ⊥) → ⊥
  reader_refuses bad =
      told (met (lifetimes 2) (reading input 1 row) tt) (λ p.
      bad (lifetimes 2) (reading input 1 row) (ap (λ l. number_of_read l.answer) (p ∙ fine 1 (omega arith) (omega arith))))

  reader_newer : AlwaysNewer v → ⊥
  reader_newer b =
      told (met (lifetimes 2) (reading input b.g row) tt) (λ p.
      let z : ◌≡◌ {A = ℕ} 14 0 =
      sym (b.newer (lifetimes 2) (lent input) (lent_mut row)) ∙ ap (λ l. number_of_read l.answer) (p ∙ fine b.g b.from b.to)
      in omega (arith, z))

-- the count of a small section stands behind its id and its size
counted : (family size count : ℕ) (body out : List ℕ) → size < 128 → count < 128
    → length (framed family size count body) ≤ length out → get_or (sets out 0 (framed family size count body)) 2 0 ≡ count
counted family size count body out h k =
    rw (one_byte 128 size h, one_byte 128 count k)
    (λ room. sym (get_or-take (suc (suc (suc (length body)))) (sets out 0 (family ∷ size ∷ count ∷ body)) 2 0 (omega arith))
    ∙ ap (λ l. get_or l 2 0) (sets_back (family ∷ size ∷ count ∷ body) out 0 (omega (arith, room))))

-- what is finished counts right where it says OK
record Counts (count : ℕ) (l : Left) : Type 0 where
  right : number_of l.answer ≡ 0 → get_or l.buffer 2 0 ≡ count

refusing : {count n : ℕ} {w : Refusal} {out : List ℕ} → Counts count (refuse w n out)
unfolding number_of
refusing {w = w} = record { right = λ e. absurd (refusal_number w e) }

either : {count : ℕ} (b : Bool) {x y : Left} → Counts count x → Counts count y → Counts count (cond b x y)
either true h k = h
either false h k = k

finish_counts : (s : Section) (body out : List ℕ) → s.count < 128 → s.used < 127 → Counts s.count (finishing s body out)
unfolding stored framing finishing
finish_counts s body out few small =
    either (sounds s (length body))
    (either (opened s.phase) refusing (either (ltb 4294967295 size) refusing (fits (leb (0 + length whole) (length out)) refl))) refusing
  where
    size : ℕ
    size = length (unsigned s.count) + length (take s.used body)

    whole : List ℕ
    whole = framed s.family size s.count (take s.used body)

    fits : (b : Bool) → leb (0 + length whole) (length out) ≡ b
        → Counts s.count (cond b (left (Ok (length whole)) (sets out 0 whole)) (refuse refusal.Room (length whole) out))
    fits true e =
        let short : length (take s.used body) ≤ s.used = rw (length-take s.used body) (min-le_left s.used (length body)) in
        let one = ap length (one_byte 128 s.count few) in
        let room = leb-true (0 + length whole) (length out) e in
        record {
          right = λ o.
              counted s.family size s.count (take s.used body) out (omega (arith, short, one)) few (omega (arith, room));
        }
    fits false e = refusing

row_counts : (s : Section) (row pool body : List ℕ) → number_of (rowing s row pool body).gave.answer ≡ 0
    → (rowing s row pool body).gave.section.count ≡ s.count + 1
row_counts s row pool body e = (accepted_grows (row_turns s body row pool) (sized_by _ e)).counts

open-counts : (s : Section) (body : List ℕ) → number_of (opening s body).gave.answer ≡ 0 → (opening s body).gave.section.count ≡ s.count + 1
open-counts s body e = (accepted_grows (open_turns s body) (sized_by _ e)).counts

pub bad_versions : BadVersions
bad_versions = record {
  -- what the contract names is the outcome
  write_type_met = (names write_type, (λ κs a g. ∣ (refl, tt) ∣₁));
  write_import_met = (names write_import, (λ κs a g. ∣ (refl, tt) ∣₁));
  write_canonical_met = (names write_canonical, (λ κs a g. ∣ (refl, tt) ∣₁));
  write_core_instance_met = (names write_core_instance, (λ κs a g. ∣ (refl, tt) ∣₁));
  write_instance_met = (names write_instance, (λ κs a g. ∣ (refl, tt) ∣₁));
  read_type_met = (
    (λ κs a. let l = read_type a.1.0 a.0.now a.1.1.0.now in (l.answer, (tt, (tt, (l.row, tt))))),
    (λ κs a g. ∣ (refl, tt) ∣₁),
  );
  read_import_met = (
    (λ κs a. let l = read_import a.1.0 a.0.now a.1.1.0.now in (l.answer, (tt, (tt, (l.row, tt))))),
    (λ κs a g. ∣ (refl, tt) ∣₁),
  );
  row_met = (
    (λ κs a. let t = rowing a.0 a.1.0.now a.1.1.0.now a.1.1.1.0.now in (t.gave, (tt, (tt, (tt, (t.body, tt)))))),
    (λ κs a g. ∣ (refl, tt) ∣₁),
  );
  open_met = ((λ κs a. let t = opening a.0 a.1.0.now in (t.gave, (tt, (t.body, tt)))), (λ κs a g. ∣ (refl, tt) ∣₁));
  finish_met = (
    (λ κs a. let l = finishing a.0 a.1.0.now a.1.1.0.now in (l.answer, (tt, (tt, (l.buffer, tt))))),
    (λ κs a g. ∣ (refl, tt) ∣₁),
  );
  sheet_met = (
    (λ κs a. let l = sheeted a.0.now a.1.0.now a.1.1.0.now in (l.answer, (tt, (l.body, (l.out, tt))))),
    (λ κs a g. ∣ (refl, tt) ∣₁),
  );
  write_type_refuses = λ v bad h. writer_refuses write_type v h string-written bad;
  write_import_refuses = λ v bad h. writer_refuses write_import v h (function-written 0 (omega arith)) bad;
  write_canonical_refuses = λ v bad h. writer_refuses write_canonical v h cancel_written bad;
  write_core_instance_refuses = λ v bad h. writer_refuses write_core_instance v h (core_written 0 (omega arith)) bad;
  write_instance_refuses = λ v bad h. writer_refuses write_instance v h (instance_written 0 (omega arith)) bad;
  read_type_refuses = λ v bad h. reader_refuses read_type v h string_read bad;
  read_import_refuses = λ v bad h. reader_refuses read_import v h function_read bad;
  row_refuses = λ v bad h. told (h (lifetimes 3) adding tt) (λ p. bad (lifetimes 3) adding (turned_ok (p ∙ row_added)));
  open_refuses = λ v bad h.
      told (h (lifetimes 1) starting tt) (λ p. bad (lifetimes 1) starting (ap (λ t. number_of t.gave.answer) p ∙ opened-fresh));
  finish_refuses = λ v bad h. told (h (lifetimes 2) ending tt) (λ p. bad (lifetimes 2) ending (ok (p ∙ finished-begun)));
  sheet_refuses = λ v bad h.
      told (h (lifetimes 3) sheeting tt) (λ p. bad (lifetimes 3) sheeting (ap (λ l. number_of l.answer) p ∙ string-sheeted));
  write_type_same = λ v bad h. writer_same write_type v h string-written bool-written (apart 0 (λ e. omega (arith, e))) bad;
  write_import_same = λ v bad h.
      writer_same write_import v h (function-written 0 (omega arith)) (function-written 1 (omega arith)) (apart 4 (λ e. omega (arith, e))) bad;
  write_canonical_same = λ v bad h. writer_same write_canonical v h cancel_written drop-written (apart 0 (λ e. omega (arith, e))) bad;
  write_core_instance_same = λ v bad h.
      writer_same write_core_instance v h (core_written 0 (omega arith)) (core_written 1 (omega arith)) (apart 1 (λ e. omega (arith, e))) bad;
  write_instance_same = λ v bad h.
      writer_same write_instance v h (instance_written 0 (omega arith)) (instance_written 1 (omega arith)) (apart 1 (λ e. omega (arith, e))) bad;
  write_type_nothing = λ v bad h. writer_nothing write_type v h string-written (apart 0 (λ e. omega (arith, e))) bad;
  write_import_nothing = λ v bad h. writer_nothing write_import v h (function-written 0 (omega arith)) (apart 1 (λ e. omega (arith, e))) bad;
  write_canonical_nothing = λ v bad h. writer_nothing write_canonical v h cancel_written (apart 0 (λ e. omega (arith, e))) bad;
  write_core_instance_nothing = λ v bad h. writer_nothing write_core_instance v h (core_written 1 (omega arith)) (apart 1 (λ e. omega (arith, e))) bad;
  write_instance_nothing = λ v bad h. writer_nothing write_instance v h (instance_written 1 (omega arith)) (apart 1 (λ e. omega (arith, e))) bad;
  row_only_says_ok = λ v bad h.
      told (h (lifetimes 3) adding tt) (λ p.
      apart 1 (λ e. omega (arith, e)) (ap (λ t. t.body) (sym (p ∙ row_added))
      ∙ bad (lifetimes 3) begun (lent string) (lent []) (lent_mut (0x73 ∷ 0 ∷ [])) (omega arith) (turned_ok (p ∙ row_added))));
  row_miscounts = λ v b h.
      told (h b.κs (b.s, (b.row, (b.pool, (b.body, tt)))) tt) (λ p.
      b.another (subst (λ t. number_of t.gave.answer ≡ 0 → t.gave.section.count ≡ b.s.count + 1) (sym p)
      (row_counts b.s b.row.now b.pool.now b.body.now) b.says_ok));
  open_miscounts = λ v b h.
      told (h b.κs (b.s, (b.body, tt)) tt) (λ p.
      b.another (subst (λ t. number_of t.gave.answer ≡ 0 → t.gave.section.count ≡ b.s.count + 1) (sym p)
      (open-counts b.s b.body.now) b.says_ok));
  finish_miscounts = λ v b h.
      told (h b.κs (b.s, (b.body, (b.out, tt))) tt) (λ p.
      b.another ((subst (Counts b.s.count) (sym p) (finish_counts b.s b.body.now b.out.now b.few_rows b.few_bytes)).right b.says_ok));
  read_type_newer = λ v bad h. reader_newer read_type v h string_read bad;
  read_import_newer = λ v bad h. reader_newer read_import v h function_read bad;
}
