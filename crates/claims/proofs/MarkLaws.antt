-- The byte at a row's first mark: it stands among the row's bytes, and marks a form above the grade.
use Rattle.std.specs.Prelude.{Option, Some, Ok, Err}
use Prim.Native.Nat.{ℕ, zero, suc, ◌+◌, ◌≤◌, ◌<◌}
use native.Mathlib.Omega.{arith}
use mathlib.Core.Path.{◌≡◌, refl, sym, ap, ◌∙◌, subst}
use mathlib.Core.Logic.{◌⊎◌, inl, inr}
use mathlib.Core.Bool.{Bool, true, false, ◌&&◌, cond}
use mathlib.Core.List.{List, [], ◌∷◌, ◌++◌}
use borrow.Author.Tests.{ltb-true, leb-true, eqb-true}
use lib.Dec.{eqb, ltb, leb}
use lib.ListN.{length, drop, length-append, get_or-append}
use lib.Seq.{get_or-append-add}
use Rattle.fields.specs.declared.Field.{Field}
use Rattle.fields.specs.declared.Field.TheVariants as field
use Rattle.fields.specs.Flaw.{Flaw, Right}
use Rattle.fields.specs.Leaf.{Fine}
use Rattle.fields.specs.declared.Shape.{Shape}
use Rattle.fields.specs.declared.Site.{Site}
use Rattle.fields.specs.declared.Site.TheVariants.{Primitive, TypeLead, NameLead, CanonLead, CanonOption}
use Rattle.fields.specs.Grades.{grade_of}
use Rattle.fields.specs.Words.{word, wide}
use Rattle.writing.specs.Binary.{name, primvaltype, valtype, optional, resultlist, functype, canonopt, slots, slots_at, externname, externdesc, bytes}
use Rattle.writing.specs.Judge.{flaw, unless, judge}
use Rattle.round_trip.specs.Mark.{Mark, Clear, At, asks, primitive_grade, value_mark, mark, ahead, first_mark, row_mark}
use Rattle.writing.specs.Row.{measured_row, row_bytes}
use Rattle.reading.specs.Scan.{byte}
use Rattle.fields.specs.Shape.{opening, group, closing, repeated, seq, counts, plan}
use Rattle.fields.specs.Table.{Line, shape_in}
use Rattle.fields.specs.View.{view}
use Rattle.fields.specs.Walk.{Plan, end, step, next, took, walk, outs}
use Rattle.writing.specs.Write.{writer, written}
use Rattle.round_trip.proofs.Back.{Reaches}
use Rattle.writing.proofs.WholeLaws.{accepted}
use Rattle.claims.specs.Demand3.{sites, MarkingAt, Marking}
use Rattle.numbers.proofs.Impossible.{impossible}

-- ---- the test

-- b marks a form of grade n at a site
abbrev marking_at : ℕ → ℕ → List Site → Bool
marking_at n b [] = false
marking_at n b (s ∷ ss) = cond (leb n (grade_of s b)) true (marking_at n b ss)

-- b marks the forms of grade n, as far as they are above grade 1
abbrev marking : ℕ → ℕ → ℕ → Bool
marking family n b = cond (leb n 1) true (marking_at n b (sites family))

-- options of canonicals mark
abbrev option_in : List Site → Bool
option_in [] = false
option_in (Primitive ∷ ss) = option_in ss
option_in (TypeLead ∷ ss) = option_in ss
option_in (NameLead ∷ ss) = option_in ss
option_in (CanonLead ∷ ss) = option_in ss
option_in (CanonOption ∷ ss) = true

-- the bytes by which a field is marked are among those
abbrev pub marks : ℕ → ℕ → Field → Bool
marks family lead field.Nothing = true
marks family lead (field.Fixed b) = marking family lead b
marks family lead field.Primitive = marking family (grade_of Primitive 0x64) 0x64
marks family lead field.Value = marking family 2 0x64
marks family lead field.Optional = marking family 2 0x64
marks family lead field.OptionalThenZero = marking family 2 0x64
marks family lead field.Result = marking family 2 0x64
marks family lead field.Name = true
marks family lead field.Index = true
marks family lead field.Async = marking family 2 0x43
marks family lead field.Flag = true
marks family lead field.Rep = true
marks family lead field.OptionalIndex = true
marks family lead field.Choice = option_in (sites family)
marks family lead field.ExternName = marking family 3 0x02
marks family lead field.Reference = marking family 2 0x64
marks family lead field.Argument = true
marks family lead field.CoreSortIndex = true
marks family lead field.SortIndex = true

abbrev all_mark : ℕ → ℕ → List Field → Bool
all_mark family lead [] = true
all_mark family lead (f ∷ fs) = marks family lead f && all_mark family lead fs

abbrev pub shape_marks : ℕ → ℕ → Shape → Bool
shape_marks family lead s = all_mark family lead (opening s) && (all_mark family lead (group s) && all_mark family lead (closing s))

-- so of every line of a table, by the grade of its kind's lead
abbrev pub table_marks : ℕ → (ℕ → ℕ) → List Line → Bool
table_marks family grade [] = true
table_marks family grade (l ∷ ls) = shape_marks family (grade l.kind) l.shape && table_marks family grade ls

both : (a b : Bool) → (a && b) ≡ true → (a ≡ true) × (b ≡ true)
both true b e = (refl, e)
both false b e = impossible cc

pub of_table : (family : ℕ) (grade : ℕ → ℕ) (ls : List Line) → table_marks family grade ls ≡ true → (k : ℕ) (s : Shape) → shape_in ls k ≡ Some s
    → shape_marks family (grade k) s ≡ true
unfolding shape_in
of_table family grade [] t k s f = impossible cc
of_table family grade (l ∷ ls) t k s f =
    go (eqb k l.kind) refl f (both (shape_marks family (grade l.kind) l.shape) (table_marks family grade ls) t).0
    (of_table family grade ls (both (shape_marks family (grade l.kind) l.shape) (table_marks family grade ls) t).1 k s)
  where
    here : Bool
    here = shape_marks family (grade l.kind) l.shape

    go : (b : Bool) → eqb k l.kind ≡ b → cond b (Some l.shape) (shape_in ls k) ≡ Some s → here ≡ true
        → (shape_in ls k ≡ Some s → shape_marks family (grade k) s ≡ true) → shape_marks family (grade k) s ≡ true
    go true e f h ih =
        let q : l.shape ≡ s = cc in
        sym (λ i. shape_marks family (grade (sym (eqb-true k l.kind e) i)) (q i)) ∙ h
    go false e f h ih = ih f

-- ---- what it says, of a family at a grade

marking_true : (g n b : ℕ) (ss : List Site) → marking_at n b ss ≡ true → g < n → MarkingAt g b ss
marking_true g n b [] e above = impossible cc
marking_true g n b (s ∷ ss) e above = go (leb n (grade_of s b)) refl e (λ k. marking_true g n b ss k above)
  where
    go : (t : Bool) → leb n (grade_of s b) ≡ t → cond t true (marking_at n b ss) ≡ true → (marking_at n b ss ≡ true → MarkingAt g b ss)
        → (g < grade_of s b) ⊎ MarkingAt g b ss
    go true t e ih = let h = leb-true n (grade_of s b) t in inl (omega (arith, above, h))
    go false t e ih = inr (ih e)

option_true : (g b : ℕ) (ss : List Site) → option_in ss ≡ true → g < grade_of CanonOption b → MarkingAt g b ss
option_true g b [] e above = impossible cc
option_true g b (Primitive ∷ ss) e above = inr (option_true g b ss e above)
option_true g b (TypeLead ∷ ss) e above = inr (option_true g b ss e above)
option_true g b (NameLead ∷ ss) e above = inr (option_true g b ss e above)
option_true g b (CanonLead ∷ ss) e above = inr (option_true g b ss e above)
option_true g b (CanonOption ∷ ss) e above = inl above

module _ (family lead g : ℕ) (any : 1 ≤ g) where
  is_marking : (n b : ℕ) → marking family n b ≡ true → g < n → Marking family g b
  is_marking n b e above = go (leb n 1) refl e
    where
      go : (x : Bool) → leb n 1 ≡ x → cond x true (marking_at n b (sites family)) ≡ true → Marking family g b
      go true p e = let h = leb-true n 1 p in absurd (omega (arith, any, above, h))
      go false p e = marking_true g n b (sites family) e above

  -- a marking byte stands at i
  record Stands (bs : List ℕ) (i : ℕ) : Type 0 where
    inside : i < length bs
    above : Marking family g (byte bs i)

  -- a field's own mark; and the first of fields that have b bytes before them
  abbrev Mine : Mark → List ℕ → Type 0
  Mine Clear bs = Unit {0}
  Mine (At j) bs = Stands bs j

  abbrev First : Mark → ℕ → List ℕ → Type 0
  First Clear b bs = Unit {0}
  First (At j) b bs = (i : ℕ) × (j ≡ b + i) × Stands bs i

  front : (xs ys : List ℕ) (i : ℕ) → Stands xs i → Stands (xs ++ ys) i
  front xs ys i s =
      let h = s.inside in
      record { inside = omega (arith, length-append xs ys); above = rw (get_or-append xs ys 0 i h) s.above }

  behind : (mk : Mark) (b : ℕ) (xs ys : List ℕ) → First mk (b + length xs) ys → First mk b (xs ++ ys)
  behind Clear b xs ys h = tt
  behind (At j) b xs ys h =
      let e = h.1 in
      let n = h.2.inside in (
        length xs + h.0,
        omega arith,
        record { inside = omega (arith, length-append xs ys); above = rw (get_or-append-add xs ys h.0 0) h.2.above },
      )

  -- ---- fields

  asked : (n j : ℕ) (bs : List ℕ) → (g < n → Stands bs j) → Mine (asks g n j) bs
  asked n j bs h = go (ltb g n) refl
    where
      go : (b : Bool) → ltb g n ≡ b → Mine (cond b (At j) Clear) bs
      go true e = h (ltb-true g n e)
      go false e = tt

  -- a byte by which a form of grade n is marked, behind others or not
  first : (n b : ℕ) (bs : List ℕ) → marking family n b ≡ true → g < n → Stands (b ∷ bs) 0
  first n b bs k h = record { inside = omega arith; above = is_marking n b k h }

  second : (a b : ℕ) (bs : List ℕ) → marking family 2 b ≡ true → g < 2 → Stands (a ∷ b ∷ bs) 1
  second a b bs k h = record { inside = omega arith; above = is_marking 2 b k h }

  -- primitive 13, and a value that is it; their bytes are a function of them
  primitive : (j p : ℕ) (F : ℕ → List ℕ) → (g < 2 → Stands (F 13) j) → Mine (asks g (primitive_grade p) j) (F p)
  primitive j p F h = go (eqb p 13) refl
    where
      go : (b : Bool) → eqb p 13 ≡ b → Mine (asks g (cond b 2 1) j) (F p)
      go true e = subst (λ x. Mine (asks g 2 j) (F x)) (sym (eqb-true p 13 e)) (asked 2 j (F 13) h)
      go false e = asked 1 j (F p) (λ l. absurd (omega arith))

  value : (j tag x : ℕ) (F : ℕ → ℕ → List ℕ) → (g < 2 → Stands (F 0 13) j) → Mine (value_mark g tag x j) (F tag x)
  value j tag x F h = go (eqb tag 0) refl
    where
      go : (b : Bool) → eqb tag 0 ≡ b → Mine (cond b (asks g (primitive_grade x) j) Clear) (F tag x)
      go true e = subst (λ t. Mine (asks g (primitive_grade x) j) (F t x)) (sym (eqb-true tag 0 e)) (primitive j x (λ y. F 0 y) h)
      go false e = tt

  field_mark : (pool : List ℕ) (f : Field) (ws : List ℕ) → marks family lead f ≡ true → Mine (mark lead g f ws) (bytes pool f ws)
  unfolding mark bytes primvaltype valtype optional resultlist functype canonopt externname externdesc
  field_mark pool field.Nothing ws k = tt
  field_mark pool (field.Fixed b) ws k = asked lead 0 (b ∷ []) (first lead b [] k)
  field_mark pool field.Primitive ws k = primitive 0 (word ws 0) (λ p. primvaltype p ∷ []) (first 2 0x64 [] k)
  field_mark pool field.Value ws k = value 0 (word ws 0) (word ws 1) valtype (first 2 0x64 [] k)
  field_mark pool field.Optional ws k = value 1 (word ws 0) (word ws 1) optional (second 0x01 0x64 [] k)
  field_mark pool field.OptionalThenZero ws k =
      value 1 (word ws 0) (word ws 1) (λ t x. optional t x ++ 0x00 ∷ []) (second 0x01 0x64 (0x00 ∷ []) k)
  field_mark pool field.Result ws k = value 1 (word ws 0) (word ws 1) resultlist (second 0x00 0x64 [] k)
  field_mark pool field.Name ws k = tt
  field_mark pool field.Index ws k = tt
  field_mark pool field.Async ws k = go (eqb (word ws 0) 0)
    where
      go : (b : Bool) → Mine (cond b Clear (asks g 2 0)) (cond b 0x40 0x43 ∷ [])
      go true = tt
      go false = asked 2 0 (0x43 ∷ []) (first 2 0x43 [] k)
  field_mark pool field.Flag ws k = tt
  field_mark pool field.Rep ws k = tt
  field_mark pool field.OptionalIndex ws k = tt
  field_mark pool field.Choice ws k =
      asked (grade_of CanonOption (word ws 0)) 0 (canonopt (word ws 0) (word ws 1))
      (λ h. record { inside = omega arith; above = option_true g (word ws 0) (sites family) k h })
  field_mark pool field.ExternName ws k = go (eqb (slots ws) 0)
    where
      plain : List ℕ
      plain = name pool (word ws 0) (word ws 1)

      more : List ℕ
      more = plain ++ (slots ws ∷ slots_at pool ws)

      go : (b : Bool) → Mine (cond b Clear (asks g 3 0)) (cond b (0x00 ∷ plain) (0x02 ∷ more))
      go true = tt
      go false = asked 3 0 (0x02 ∷ more) (first 3 0x02 more k)
  field_mark pool field.Argument ws k = tt
  field_mark pool field.CoreSortIndex ws k = tt
  field_mark pool field.SortIndex ws k = tt
  field_mark pool field.Reference ws k = go (eqb (word ws 0) 2) refl
    where
      x : ℕ
      x = word ws 1

      y : ℕ
      y = word ws 2

      go : (b : Bool) → eqb (word ws 0) 2 ≡ b → Mine (cond b (value_mark g x y 1) Clear) (externdesc (word ws 0) x y)
      go true e =
          subst (λ s. Mine (value_mark g x y 1) (externdesc s x y)) (sym (eqb-true (word ws 0) 2 e))
          (value 1 x y (λ t v. 0x02 ∷ valtype t v) (second 0x02 0x64 [] k))
      go false e = tt

  -- ---- plans

  -- each field that a plan can come to, and each of a list
  abbrev Known : Plan → Type 0
  Known end = Unit {0}
  Known (step f k) = (marks family lead f ≡ true) × ((v : List ℕ) → Known (k v))

  abbrev KnownAll : List Field → Type 0
  KnownAll [] = Unit {0}
  KnownAll (f ∷ fs) = (marks family lead f ≡ true) × KnownAll fs

  plan_mark : (pool : List ℕ) (p : Plan) (ws : List ℕ) (at made b : ℕ) → Reaches (walk (writer pool) p ws at made) → Known p
      → First (first_mark lead g pool p ws b) b (outs (writer pool) p at ws)
  unfolding walk outs first_mark judge
  plan_mark pool end ws at made b r k = tt
  plan_mark pool (step f k) ws at made b r known =
      go (flaw pool f ws)
      (λ u. plan_mark pool (k (view pool f ws)) (drop (wide f) ws) (at + wide f) (made + length (bytes pool f ws)) (b + length (bytes pool f ws)) u
      (known.1 (view pool f ws)))
      r
    where
      p : Plan
      p = k (view pool f ws)

      bs : List ℕ
      bs = bytes pool f ws

      due : ℕ → List ℕ
      due t = outs (writer pool) p (at + t) (drop t ws)

      later : Mark
      later = first_mark lead g pool p (drop (wide f) ws) (b + length bs)

      -- a field's own mark comes before those behind it
      join : (mk : Mark) → Mine mk bs → First later (b + length bs) (due (wide f)) → First (ahead mk b later) b (bs ++ due (wide f))
      join Clear h ih = behind later b bs (due (wide f)) ih
      join (At j) h ih = (j, refl, front bs (due (wide f)) j h)

      go : (l : Flaw)
          → (Reaches (walk (writer pool) p (drop (wide f) ws) (at + wide f) (made + length bs)) → First later (b + length bs) (due (wide f)))
          → Reaches (next (unless l (Fine (wide f) (length bs))) (λ t m. walk (writer pool) p (drop t ws) (at + t) (made + m)) at)
          → First (ahead (mark lead g f ws) b later) b (bs ++ due (took (unless l (Fine (wide f) (length bs)))))
      go (Err fault) ih u = absurd u
      go Right ih u = join (mark lead g f ws) (field_mark pool f ws known.0) (ih u)

  known_all : (fs : List Field) → all_mark family lead fs ≡ true → KnownAll fs
  known_all [] e = tt
  known_all (f ∷ fs) e = let h = both (marks family lead f) (all_mark family lead fs) e in (h.0, known_all fs h.1)

  known_append : (fs gs : List Field) → KnownAll fs → KnownAll gs → KnownAll (fs ++ gs)
  known_append [] gs h k = k
  known_append (f ∷ fs) gs h k = (h.0, known_append fs gs h.1 k)

  known_repeated : (n : ℕ) (fs : List Field) → KnownAll fs → KnownAll (repeated n fs)
  unfolding repeated
  known_repeated zero fs h = tt
  known_repeated (suc n) fs h = known_append fs (repeated n fs) h (known_repeated n fs h)

  known_seq : (fs : List Field) (p : Plan) → KnownAll fs → Known p → Known (seq fs p)
  unfolding seq
  known_seq [] p h k = k
  known_seq (f ∷ fs) p h k = (h.0, λ v. known_seq fs p h.1 k)

  known_plan : (s : Shape) → shape_marks family lead s ≡ true → Known (plan s)
  known_plan s e = known_seq (opening s) (cond s.counted (counts s) (seq (closing s) end)) (known_all (opening s) a.0) (go s.counted)
    where
      a : (all_mark family lead (opening s) ≡ true) × ((all_mark family lead (group s) && all_mark family lead (closing s)) ≡ true)
      a = both (all_mark family lead (opening s)) (all_mark family lead (group s) && all_mark family lead (closing s)) e

      b : (all_mark family lead (group s) ≡ true) × (all_mark family lead (closing s) ≡ true)
      b = both (all_mark family lead (group s)) (all_mark family lead (closing s)) a.1

      last : KnownAll (closing s)
      last = known_all (closing s) b.1

      go : (c : Bool) → Known (cond c (counts s) (seq (closing s) end))
      go true = (
        refl,
        λ v.
            known_seq (repeated (word v 0) (group s) ++ closing s) end
            (known_append (repeated (word v 0) (group s)) (closing s) (known_repeated (word v 0) (group s) (known_all (group s) b.0)) last) tt,
      )
      go false = known_seq (closing s) end last tt

  -- ---- rows

  -- with no bytes before them
  at_start : (mk : Mark) (bs : List ℕ) (j : ℕ) → First mk 0 bs → mk ≡ At j → Stands bs j
  at_start Clear bs j h m = impossible cc
  at_start (At k) bs j h m =
      let q : k ≡ j = cc in
      let e = h.1 in
      let same : h.0 ≡ j = omega arith in
      subst (λ i. Stands bs i) same h.2

  -- the first mark of a row that is accepted
  pub row_mark_lem : (found : Option Shape) (row pool : List ℕ) (size : ℕ) → measured_row found row pool ≡ Ok size
      → ((s : Shape) → found ≡ Some s → shape_marks family lead s ≡ true) → (j : ℕ) → row_mark found lead g pool row ≡ At j
      → (j < length (row_bytes found pool row)) × Marking family g (byte (row_bytes found pool row) j)
  unfolding row_mark row_bytes
  row_mark_lem found row pool size e tested j m =
      let a = accepted found row pool size e in
      let s = a.shape in
      let is = a.is in
      let reaches : Reaches (walk (writer pool) (plan s) (drop 1 row) 1 0) = subst (λ l. Reaches l) (sym a.sized.judges) tt in
      let mine = plan_mark pool (plan s) (drop 1 row) 1 0 0 reaches (known_plan s (tested s is)) in
      let t = at_start (first_mark lead g pool (plan s) (drop 1 row) 0) (written s pool row 1) j mine (sym (ap (λ f. row_mark f lead g pool row) is) ∙ m) in
      rw is (t.inside, t.above)
