-- The proof of `specs/Demand2.antt`: what an accepted row is written as, and a finished section, and a sheet.
use Rattle.std.specs.Prelude.{Err, Ok}
use Prim.Native.Nat.{ℕ, ◌+◌, ◌^◌, ◌≤◌, ◌<◌}
use native.Mathlib.Omega.{arith}
use mathlib.Core.Path.{◌≡◌, refl, sym, ap, ◌∙◌, subst}
use mathlib.Core.Bool.{Bool, true, false, cond}
use mathlib.Core.List.{List, [], ◌∷◌, ◌++◌}
use borrow.Author.Tests.{le-ltb}
use lib.Dec.{eqb, ltb, leb}
use lib.ListN.{length, take}
use lib.Seq.{sets}
use Rattle.numbers.specs.Bytes.{Bytes}
use Rattle.numbers.specs.Leb.{unsigned}
use Rattle.fields.specs.Answer.{Answer, Refused}
use Rattle.fields.specs.Leaf.{Leaf, Fine, Bad}
use Rattle.fields.specs.declared.Refusal.{Refusal}
use Rattle.fields.specs.declared.Refusal.TheVariants as refusal
use Rattle.fields.specs.Words.{word, Words}
use Rattle.fields.specs.Answers.{Left, left, refuse}
use Rattle.fields.proofs.OutcomeLaws.{fine-same}
use Rattle.writing.specs.Write.{stored}
use Rattle.writing.proofs.ByteLaws.{ByteList, none, some, append-bytes, to_bytes, of_bytes}
use Rattle.writing.proofs.WholeLaws.{accepted}
use Rattle.sections.specs.declared.Phase.TheVariants.{Closed}
use Rattle.sections.specs.declared.Section.{Section}
use Rattle.sections.specs.declared.Turned.{Turned}
use Rattle.sections.specs.Finish.{framed, framing, finishing}
use Rattle.sections.specs.Runs.{Row, turn, runs, Accepted, AllAccepted, Entry, rows, all_bytes}
use Rattle.sections.specs.Section.{fresh, known_family, opened, sounds, measured_family, family_bytes, write_family}
use Rattle.sections.specs.Steps.{turned, gives, wrote, rowing}
use Rattle.sections.proofs.BegunFresh.{begun_fresh}
use Rattle.sections.proofs.FamilyLaws.{family-stored, family-size}
use Rattle.sections.proofs.StepLaws.{family-small}
use Rattle.sections.proofs.TurnLaws.{accepted_size, accepted_grows, row_turns}
use Rattle.sheets.specs.Frame as frame
use Rattle.sheets.specs.Frame.{Rows, Are, Broken, listed}
use Rattle.sheets.specs.Sheet as sheet
use Rattle.sheets.specs.Sheet.{family_of, tried, tries, joined, of_rows, sheeted}
use Rattle.sheets.proofs.FamilyLaws.{family-written}
use Rattle.claims.specs.Valid.{Family, core_instances, instances, types, canonicals, imports, Takes, Valid, production, productions, section, beside, entries}
use Rattle.claims.specs.Demand2.{AllValid, AllWords, Made, Demand2}
use Rattle.claims.proofs.Families.{on_test, on_family}
use Rattle.claims.proofs.Production.{leb_bytes, family-right, family-production}
use Rattle.numbers.proofs.Impossible.{impossible}
use Rattle.types.proofs.Productions.{types-agree}
use Rattle.imports.proofs.Productions.{imports-agree}
use Rattle.canonicals.proofs.Productions.{canonicals-agree}
use Rattle.instances.proofs.Productions.{core_instances-agree, instances-agree}

-- a refusal is no size
no_size : {X : Type 0} {w : Refusal} {n size : ℕ} → Refused w n ≡ Ok size → X
no_size e = impossible cc

-- ---- a row

-- a row that has a size keeps within the limits, and so does its pool
within : (family : ℕ) (row pool : List ℕ) (size : ℕ) → measured_family family row pool ≡ Ok size → (length row ≤ 16384) × (length pool ≤ 65536)
within family row pool size e =
    on_family (λ a. a ≡ Ok size → (length row ≤ 16384) × (length pool ≤ 65536)) family row pool
    (λ found e. let k = (accepted found row pool size e).sized in (k.short, k.small)) (λ e. no_size e) e

-- a fresh section stands over any body
is_known : {family : ℕ} → Family family → known_family family ≡ true
unfolding known_family
is_known core_instances = refl
is_known instances = refl
is_known types = refl
is_known canonicals = refl
is_known imports = refl

stands : {family : ℕ} → Family family → (n : ℕ) → sounds (fresh family) n ≡ true
unfolding sounds
stands f n = simp (le-ltb n 0 (omega arith), is_known f)

-- the section after its first row
abbrev grown : ℕ → ℕ → Turned
grown family size = gives (record { family = family; used = size; count = 1; phase = Closed }) (Ok size)

-- a row that has a size is taken where there is room
takes : {family : ℕ} → Family family → (row pool body : List ℕ) (size : ℕ) → measured_family family row pool ≡ Ok size → size ≤ length body
    → rowing (fresh family) row pool body ≡ turned (grown family size) (sets body 0 (family_bytes family pool row))
unfolding rowing
takes {family} f row pool body size e h =
    let w = within family row pool size e in
    let room : 0 + size ≤ length body = omega arith in
    let used : 0 + size ≡ size = omega arith in
    simp (stands f (length body), le-ltb _ _ w.0, le-ltb _ _ w.1)
    (ap (λ l. wrote (fresh family) 1 Closed l) (family-written family row pool body 0 size e room)
    ∙ ap (λ n. turned (gives (record { family = family; used = n; count = 1; phase = Closed }) (Ok size)) (sets body 0 (family_bytes family pool row))) used)

-- and only such a row
sized_where_taken : (family : ℕ) (row pool body : List ℕ) → Takes family row pool body
    → (size : ℕ) × (measured_family family row pool ≡ Ok size) × (size ≤ length body)
sized_where_taken family row pool body t =
    let r = row_turns (fresh family) body row pool in
    (length (family_bytes family pool row), accepted_size r t, omega (arith, (accepted_grows r t).room))

taken_where_sized : {family : ℕ} → Family family → (row pool body : List ℕ) (size : ℕ) → measured_family family row pool ≡ Ok size
    → size ≤ length body → Takes family row pool body
taken_where_sized f row pool body size e h = subst Accepted (sym (takes f row pool body size e h)) tt

-- the size is the production's length
production-size : (family : ℕ) (row pool : List ℕ) (size : ℕ) → measured_family family row pool ≡ Ok size → size ≡ length (production family pool row)
production-size family row pool size e = family-size family row pool size e ∙ ap length (family-production family row pool size e)

-- so the body begins with the production
written : {family : ℕ} → Family family → (row pool body : List ℕ) → Takes family row pool body
    → rowing (fresh family) row pool body
    ≡ turned (grown family (length (production family pool row))) (sets body 0 (production family pool row))
written {family} f row pool body t =
    let z = sized_where_taken family row pool body t in
    takes f row pool body z.0 z.1 z.2
    ∙ (λ i. turned (grown family (production-size family row pool z.0 z.1 i))
    (sets body 0 (family-production family row pool z.0 z.1 i)))

at_any_place : (family : ℕ) (row pool : List ℕ) → Valid family row pool → (out : List ℕ) (at : ℕ)
    → write_family family row pool out at ≡ stored (Ok (length (production family pool row))) (production family pool row) out at
at_any_place family row pool v out at =
    let z = sized_where_taken family row pool v.0 v.1 in
    family-stored family row pool out at
    ∙ (λ i. stored ((z.1 ∙ ap Ok (production-size family row pool z.0 z.1)) i) (family-production family row pool z.0 z.1 i) out at)

-- a row that has a size is valid
valid_where_sized : {family : ℕ} → Family family → (row pool : List ℕ) (size : ℕ) → measured_family family row pool ≡ Ok size → Valid family row pool
valid_where_sized {family} f row pool size e =
    let body = family_bytes family pool row in
    (body, taken_where_sized f row pool body size e (omega (arith, family-size family row pool size e)))

-- ---- a section

-- rows that are all accepted are valid
rows_are_valid : (family : ℕ) → Family family → (es : List Entry) (s : Section) (body : List ℕ) → s.family ≡ family → AllAccepted (rows es) s body
    → AllValid family es
rows_are_valid family f [] s body p a = tt
rows_are_valid family f (e ∷ es) s body p a =
    let r = row_turns s body e.row e.pool in
    let g = accepted_grows r a.0 in
    let t = turn (Row e.row e.pool) s body in
    let m = ap (λ k. measured_family k e.row e.pool) (sym p) ∙ accepted_size r a.0 in
    (valid_where_sized f e.row e.pool _ m, rows_are_valid family f es t.gave.section t.body (g.family ∙ p) a.1)

-- and valid rows make their productions
all-productions : (family : ℕ) (es : List Entry) → AllValid family es → all_bytes family es ≡ productions family es
unfolding productions
all-productions family [] v = refl
all-productions family (e ∷ es) v =
    let z = sized_where_taken family e.row e.pool v.0.0 v.0.1 in
    λ i. family-production family e.row e.pool z.0 z.1 i ++ all-productions family es v.1 i

-- an answer that is a size came past the tests
framing-made : (family count : ℕ) (body out : List ℕ) (size : ℕ) → (framing family count body out).answer ≡ Ok size
    → let bytes = framed family (length (unsigned count) + length body) count body in
    framing family count body out ≡ left (Ok (length bytes)) (sets out 0 bytes)
unfolding framing stored
framing-made family count body out size e = go (ltb 4294967295 (length (unsigned count) + length body)) (leb (0 + length bytes) (length out)) e
  where
    bytes : List ℕ
    bytes = framed family (length (unsigned count) + length body) count body

    go : (a b : Bool)
        → (cond a (refuse refusal.TooBig 0 out) (cond b (left (Ok (length bytes)) (sets out 0 bytes)) (refuse refusal.Room (length bytes) out))).answer ≡ Ok size
        → cond a (refuse refusal.TooBig 0 out) (cond b (left (Ok (length bytes)) (sets out 0 bytes)) (refuse refusal.Room (length bytes) out))
        ≡ left (Ok (length bytes)) (sets out 0 bytes)
    go true b e = no_size e
    go false true e = refl
    go false false e = no_size e

finishing-made : (s : Section) (body out : List ℕ) (size : ℕ) → (finishing s body out).answer ≡ Ok size
    → finishing s body out ≡ framing s.family s.count (take s.used body) out
unfolding finishing
finishing-made s body out size e = go (sounds s (length body)) (opened s.phase) e
  where
    frames : Left
    frames = framing s.family s.count (take s.used body) out

    go : (a b : Bool) → (cond a (cond b (refuse refusal.Order 0 out) frames) (refuse refusal.Limit 0 out)).answer ≡ Ok size
        → cond a (cond b (refuse refusal.Order 0 out) frames) (refuse refusal.Limit 0 out) ≡ frames
    go true true e = no_size e
    go true false e = refl
    go false b e = no_size e

-- the section at the end is framed over its used part, which is the productions
finishes : (family : ℕ) → Family family → (es : List Entry) (body out : List ℕ) → AllAccepted (rows es) (fresh family) body → (size : ℕ)
    → (finishing (runs (rows es) (fresh family) body).section (runs (rows es) (fresh family) body).body out).answer ≡ Ok size
    → finishing (runs (rows es) (fresh family) body).section (runs (rows es) (fresh family) body).body out
    ≡ left (Ok (length (section family es))) (sets out 0 (section family es))
finishes family f es body out a size e =
    let b = begun_fresh family es body a in
    let end = runs (rows es) (fresh family) body in
    let made = finishing-made end.section end.body out size e in
    let used = b.used_part ∙ all-productions family es (rows_are_valid family f es (fresh family) body refl a) in
    let whole : finishing end.section end.body out ≡ framing family (length es) (productions family es) out =
    made ∙ (λ i. framing (b.family_is i) (b.count_is i) (used i) out) in
    whole ∙ framing-made family (length es) (productions family es) out size (ap (λ l. l.answer) (sym whole) ∙ e)

-- ---- a sheet

-- each kind has a section's family
every-family : (kind : ℕ) → Family (family_of kind)
unfolding family_of
every-family kind =
    on_test Family (leb 256 kind) canonicals
    (on_test Family (eqb kind 17) imports
    (on_test Family (eqb kind 18) core_instances
    (on_test Family (eqb kind 19) instances (on_test Family (eqb kind 20) core_instances (on_test Family (eqb kind 21) instances types)))))

-- rows that are taken, behind r others: how many they then are, and that they are valid and make their productions
record TriedRows (family : ℕ) (pool : List ℕ) (rs : List (List ℕ)) (r last : ℕ) : Type 0 where
  count : last ≡ r + length (beside pool rs)
  valid : AllValid family (beside pool rs)
  bytes : joined family pool rs ≡ productions family (beside pool rs)

tried-rows : {family : ℕ} → Family family → (pool : List ℕ) (room : ℕ) (rs : List (List ℕ)) (r used last end : ℕ)
    → tries family pool room rs r used ≡ Fine last end → TriedRows family pool rs r last
unfolding tries joined productions
tried-rows f pool room [] r used last end e =
    let p = (fine-same e).0 in
    record { count = omega arith; valid = tt; bytes = refl }
tried-rows {family} f pool room (row ∷ rs) r used last end e =
    go (measured_family family row pool) refl e (λ u. tried-rows f pool room rs (r + 1) u last end)
  where
    go : (a : Answer) → measured_family family row pool ≡ a → tried a room used r (λ u. tries family pool room rs (r + 1) u) ≡ Fine last end
        → ((u : ℕ) → tries family pool room rs (r + 1) u ≡ Fine last end → TriedRows family pool rs (r + 1) last)
        → TriedRows family pool (row ∷ rs) r last
    go (Err fault) m e ih = impossible cc
    go (Ok size) m e ih = room_for (leb (used + size) room) e
      where
        room_for : (b : Bool) → cond b (tries family pool room rs (r + 1) (used + size)) (Bad refusal.Room r) ≡ Fine last end
            → TriedRows family pool (row ∷ rs) r last
        room_for true e =
            let k = ih (used + size) e in
            record {
              count = omega (arith, k.count);
              valid = (valid_where_sized f row pool size m, k.valid);
              bytes = λ i. family-production family row pool size m i ++ k.bytes i;
            }
        room_for false e = impossible cc

-- a sheet whose answer is a size has its room
sheet_finished : (family r : ℕ) (bytes body out : List ℕ) (size : ℕ) → (sheet.finished family r bytes body out).answer ≡ Ok size
    → let all = sheet.section family r bytes in
    sheet.finished family r bytes body out ≡ sheet.left (Ok (length all)) (sets body 0 bytes) (sets out 0 all)
unfolding sheet.finished
sheet_finished family r bytes body out size e = go (leb (length all) (length out)) e
  where
    all : List ℕ
    all = sheet.section family r bytes

    whole : sheet.Left
    whole = sheet.left (Ok (length all)) (sets body 0 bytes) (sets out 0 all)

    go : (b : Bool) → (cond b whole (sheet.refuse refusal.Room r body out)).answer ≡ Ok size → cond b whole (sheet.refuse refusal.Room r body out) ≡ whole
    go true e = refl
    go false e = no_size e

-- the sheet of these rows
made-rows : (rs : Rows) (pool body out : List ℕ) (size : ℕ) → (of_rows rs pool body out).answer ≡ Ok size
    → Made (beside pool (listed rs)) body out (of_rows rs pool body out)
made-rows Broken pool body out size e = no_size e
made-rows (Are []) pool body out size e = no_size e
made-rows (Are (row ∷ rs)) pool body out size e = go (tries family pool (length body) (row ∷ rs) 0 0) refl e
  where
    family : ℕ
    family = family_of (word row 0)

    es : List Entry
    es = beside pool (row ∷ rs)

    go : (l : Leaf) → tries family pool (length body) (row ∷ rs) 0 0 ≡ l → (sheet.written l family (joined family pool (row ∷ rs)) body out).answer ≡ Ok size
        → Made es body out (sheet.written l family (joined family pool (row ∷ rs)) body out)
    go (Err fault) p e = no_size e
    go (Ok span) p e =
        let f = every-family (word row 0) in
        let k = tried-rows f pool (length body) (row ∷ rs) 0 0 span.took span.made p in
        let n : span.took ≡ length es = omega (arith, k.count) in
        let whole = sheet_finished family span.took (joined family pool (row ∷ rs)) body out size e
        ∙ (λ i. let all = sheet.section family (n i) (k.bytes i) in sheet.left (Ok (length all)) (sets body 0 (k.bytes i)) (sets out 0 all)) in
        record {
          family = f;
          valid = k.valid;
          size = ap (λ l. l.answer) whole;
          at_body = ap (λ l. l.body) whole;
          at_out = ap (λ l. l.out) whole;
        }

made_sheet : (input body out : List ℕ) (size : ℕ) → (sheeted input body out).answer ≡ Ok size → Made (entries input) body out (sheeted input body out)
unfolding sheeted
made_sheet input body out size e = go (ltb 65536 (length input)) e
  where
    rest : sheet.Left
    rest = of_rows (frame.framed input) (frame.pool_of input) body out

    go : (b : Bool) → (cond b (sheet.refuse refusal.Limit 0 body out) rest).answer ≡ Ok size
        → Made (entries input) body out (cond b (sheet.refuse refusal.Limit 0 body out) rest)
    go true e = no_size e
    go false e = made-rows (frame.framed input) (frame.pool_of input) body out size e

-- ---- bytes

-- those of a production are bytes
production-bytes : (family : ℕ) (row pool : List ℕ) → Valid family row pool → Words row → Bytes pool → Bytes (production family pool row)
production-bytes family row pool v fw fp =
    let z = sized_where_taken family row pool v.0 v.1 in
    let r = family-right family row pool z.0 z.1 in
    subst Bytes r.as_production (r.are_bytes fw fp)

productions-bytes : (family : ℕ) (es : List Entry) → AllValid family es → AllWords es → ByteList (productions family es)
unfolding productions
productions-bytes family [] v w = none
productions-bytes family (e ∷ es) v w =
    append-bytes (of_bytes (production family e.pool e.row) (production-bytes family e.row e.pool v.0 w.0 w.1))
    (productions-bytes family es v.1 w.2)

-- the id is a byte, and the size and the count are numbers
framed-bytes : {family : ℕ} → Family family → (es : List Entry) → AllValid family es → AllWords es → Bytes (section family es)
framed-bytes {family} f es v w =
    let id : family < 2 ^ 8 = family-small (fresh family) 0 (stands f 0) in
    to_bytes (some id (append-bytes (leb_bytes 5 _) (append-bytes (leb_bytes 5 _) (productions-bytes family es v w))))

pub demand_2 : Demand2
demand_2 =
    record {
      tables_agree = (types-agree, imports-agree, canonicals-agree, core_instances-agree, instances-agree);
      valid_measured = λ family f row pool body. (sized_where_taken family row pool body, λ z. taken_where_sized f row pool body z.0 z.1 z.2);
      valid_written = λ family f row pool body t. written f row pool body t;
      written_at = λ family f row pool v out at. at_any_place family row pool v out at;
      finished = finishes;
      sheet_made = made_sheet;
      bytes = λ family f row pool v fw fp. production-bytes family row pool v fw fp;
      rows_valid = λ family f es body a. rows_are_valid family f es (fresh family) body refl a;
      section_bytes = λ family f es v w. framed-bytes f es v w;
    }
