-- Why fields, rows and items are refused, by a predicate over refusals: what holds of the refusals of each field holds of those of a
-- whole row or item.
use Rattle.std.specs.Prelude.{Option, Some, None, Ok, Err}
use Prim.Native.Nat.{ℕ, zero, suc, ◌+◌}
use mathlib.Core.Path.{◌≡◌, refl, sym}
use mathlib.Core.Logic.{◌⊎◌, inl, inr}
use mathlib.Core.Bool.{Bool, true, false, ◌&&◌, cond}
use mathlib.Core.List.{List, [], ◌∷◌, ◌++◌}
use borrow.Author.Tests.{eqb-true}
use lib.Dec.{eqb, ltb, leb}
use lib.ListN.{length, get_or, drop}
use Rattle.numbers.specs.Text.{text, stop}
use Rattle.fields.specs.Answer.{Answer, Refused}
use Rattle.fields.specs.declared.Field.{Field}
use Rattle.fields.specs.declared.Field.TheVariants as field
use Rattle.fields.specs.Flaw.{Flaw, Right}
use Rattle.fields.specs.Leaf.{Leaf, Fine}
use Rattle.fields.specs.Read.{Read}
use Rattle.fields.specs.declared.Offset.{Offset}
use Rattle.fields.specs.declared.Refusal.{Refusal}
use Rattle.fields.specs.declared.Refusal.TheVariants as refusal
use Rattle.fields.specs.declared.Shape.{Shape}
use Rattle.fields.specs.Words.{word, chars, indexed, wide}
use Rattle.writing.specs.Binary.{bytes}
use Rattle.writing.specs.Judge.{then, below, unused, value, optional_value, named, optional_index, choice, optional_name, reference, flaw, unless, judge}
use Rattle.reading.specs.Read.{refusal_of}
use Rattle.writing.specs.Row.{measured_found, measured_row}
use Rattle.fields.specs.Shape.{opening, group, closing, repeated, seq, counts, plan, row_width}
use Rattle.fields.specs.Table.{Line, shape_in}
use Rattle.fields.specs.Walk.{Plan, end, step, Side, next, walk}
use Rattle.fields.specs.Answers.{offset_of, number_of_refusal, number_of, Left}
use Rattle.writing.specs.Write.{writer, judged, sized, measured, stored}
use Rattle.claims.specs.Kept.{number_of_read}
use Rattle.claims.specs.Numbers.{Among}
use Rattle.claims.proofs.Families.{on_test}
use Rattle.numbers.proofs.Impossible.{impossible}

-- ---- a list of numbers as a test

abbrev pub member : ℕ → List ℕ → Bool
member n [] = false
member n (m ∷ ms) = cond (eqb n m) true (member n ms)

pub among : (n : ℕ) (ns : List ℕ) → member n ns ≡ true → Among n ns
among n [] e = impossible cc
among n (m ∷ ms) e = go (eqb n m) refl e (among n ms)
  where
    go : (b : Bool) → eqb n m ≡ b → cond b true (member n ms) ≡ true → (member n ms ≡ true → Among n ms) → (n ≡ m) ⊎ Among n ms
    go true p e ih = inl (eqb-true _ _ p)
    go false p e ih = inr (ih e)

-- the number of a refusal is one of the list
abbrev pub Listed : List ℕ → Refusal → Type 0
Listed ns w = member (number_of_refusal w) ns ≡ true

-- ---- a predicate over what is refused

abbrev pub Faulty : (Refusal → Type 0) → Flaw → Type 0
Faulty P Right = Unit {0}
Faulty P (Err fault) = P fault.why

abbrev pub Ends : (Refusal → Type 0) → Leaf → Type 0
Ends P (Ok span) = Unit {0}
Ends P (Err fault) = P fault.why

abbrev pub Tells : (Refusal → Type 0) → Answer → Type 0
Tells P (Ok n) = Unit {0}
Tells P (Err fault) = P fault.why

abbrev pub TellsRead : (Refusal → Type 0) → Read → Type 0
TellsRead P (Ok item) = Unit {0}
TellsRead P (Err fault) = P fault.why

pub told : (ns : List ℕ) (a : Answer) → Tells (Listed ns) a → Among (number_of a) (0 ∷ ns)
unfolding number_of
told ns (Ok n) h = inl refl
told ns (Err fault) h = inr (among (number_of_refusal fault.why) ns h)

pub read_told : (ns : List ℕ) (r : Read) → TellsRead (Listed ns) r → Among (number_of_read r) (0 ∷ ns)
read_told ns (Ok item) h = inl refl
read_told ns (Err fault) h = inr (among (number_of_refusal fault.why) ns h)

-- of a refusal the number is no 0
pub refusal_told : (ns : List ℕ) (l : Leaf) → TellsRead (Listed ns) (refusal_of l) → Among (number_of_read (refusal_of l)) ns
refusal_told ns (Ok span) h = among (number_of_refusal refusal.Room) ns h
refusal_told ns (Err fault) h = among (number_of_refusal fault.why) ns h

-- ---- the words of a field

-- a field that has no name
abbrev pub nameless : Field → Bool
nameless field.Nothing = true
nameless (field.Fixed b) = true
nameless field.Primitive = true
nameless field.Value = true
nameless field.Optional = true
nameless field.OptionalThenZero = true
nameless field.Result = true
nameless field.Name = false
nameless field.Index = true
nameless field.Async = true
nameless field.Flag = true
nameless field.Rep = true
nameless field.OptionalIndex = true
nameless field.Choice = true
nameless field.ExternName = false
nameless field.Reference = true
nameless field.Argument = true
nameless field.CoreSortIndex = true
nameless field.SortIndex = true

-- TEXT, wherever the name stops
abbrev pub AnyText : (Refusal → Type 0) → Type 0
AnyText P = (offset : Offset) → P (refusal.Text offset)

-- where there are names, RANGE and TEXT come
abbrev pub Names : (Refusal → Type 0) → Bool → Type 0
Names P true = Unit {0}
Names P false = P refusal.Range × AnyText P

abbrev pub Allowed : (Refusal → Type 0) → Field → Type 0
Allowed P f = Names P (nameless f)

module _ (P : Refusal → Type 0) (tag : P refusal.Tag) where
  below_why : (n : ℕ) (ws : List ℕ) (i : ℕ) → Faulty P (below n ws i)
  below_why n ws i = on_test (Faulty P) (ltb (word ws i) n) tt tag

  unused_why : (ws : List ℕ) (i : ℕ) → Faulty P (unused ws i)
  unused_why ws i = on_test (Faulty P) (eqb (word ws i) 0) tt tag

  then_why : (x y : Flaw) → Faulty P x → Faulty P y → Faulty P (then x y)
  then_why Right y h k = k
  then_why (Err fault) y h k = h

  value_why : (ws : List ℕ) (i : ℕ) → Faulty P (value ws i)
  unfolding value
  value_why ws i = on_test (Faulty P) (eqb (word ws i) 0) (below_why 14 ws (i + 1)) (on_test (Faulty P) (eqb (word ws i) 1) tt tag)

  optional_why : (ws : List ℕ) (i : ℕ) → Faulty P (optional_value ws i)
  unfolding optional_value
  optional_why ws i = on_test (Faulty P) (eqb (word ws i) 2) (unused_why ws (i + 1)) (value_why ws i)

  named_why : P refusal.Range × AnyText P → (pool ws : List ℕ) (i : ℕ) → Faulty P (named pool ws i)
  unfolding named
  named_why h pool ws i =
      on_test (Faulty P) (leb (word ws i + word ws (i + 1)) (length pool))
      (on_test (Faulty P) (text (chars pool (word ws i) (word ws (i + 1)))) tt (h.1 (offset_of (stop (chars pool (word ws i) (word ws (i + 1))))))) h.0

  optional_name_why : P refusal.Range × AnyText P → (pool ws : List ℕ) (i : ℕ) → Faulty P (optional_name pool ws i)
  unfolding optional_name
  optional_name_why h pool ws i =
      on_test (Faulty P) (eqb (word ws i) 0) (then_why (unused ws (i + 1)) (unused ws (i + 2)) (unused_why ws (i + 1)) (unused_why ws (i + 2)))
      (on_test (Faulty P) (eqb (word ws i) 1) (named_why h pool ws (i + 1)) tag)

  reference_why : (ws : List ℕ) → Faulty P (reference ws)
  unfolding reference
  reference_why ws =
      on_test (Faulty P) (eqb (word ws 0) 2) (value_why ws 1)
      (on_test (Faulty P) (eqb (word ws 0) 3)
      (on_test (Faulty P) (eqb (word ws 1) 0) tt (on_test (Faulty P) (eqb (word ws 1) 1) (unused_why ws 2) tag))
      (on_test (Faulty P) (ltb (word ws 0) 6) (unused_why ws 2) tag))

  flaw_why : (pool : List ℕ) (f : Field) (ws : List ℕ) → Allowed P f → Faulty P (flaw pool f ws)
  unfolding flaw optional_index choice
  flaw_why pool field.Nothing ws h = tt
  flaw_why pool (field.Fixed b) ws h = tt
  flaw_why pool field.Primitive ws h = below_why 14 ws 0
  flaw_why pool field.Value ws h = value_why ws 0
  flaw_why pool field.Optional ws h = optional_why ws 0
  flaw_why pool field.OptionalThenZero ws h = optional_why ws 0
  flaw_why pool field.Result ws h = optional_why ws 0
  flaw_why pool field.Name ws h = named_why h pool ws 0
  flaw_why pool field.Index ws h = tt
  flaw_why pool field.Async ws h = below_why 2 ws 0
  flaw_why pool field.Flag ws h = below_why 2 ws 0
  flaw_why pool field.Rep ws h = below_why 2 ws 0
  flaw_why pool field.OptionalIndex ws h =
      on_test (Faulty P) (eqb (word ws 0) 0) (unused_why ws 1) (on_test (Faulty P) (eqb (word ws 0) 1) tt tag)
  flaw_why pool field.Choice ws h =
      on_test (Faulty P) (ltb (word ws 0) 10) (on_test (Faulty P) (indexed (word ws 0)) tt (unused_why ws 1)) tag
  flaw_why pool field.ExternName ws h =
      let a = named_why h pool ws 0 in
      let b = optional_name_why h pool ws in
      then_why (named pool ws 0) _ a
      (then_why (optional_name pool ws 2) _ (b 2) (then_why (optional_name pool ws 5) (optional_name pool ws 8) (b 5) (b 8)))
  flaw_why pool field.Reference ws h = reference_why ws
  flaw_why pool field.Argument ws h = tt
  flaw_why pool field.CoreSortIndex ws h = below_why 5 ws 0
  flaw_why pool field.SortIndex ws h = below_why 6 ws 0

  judge_why : (pool : List ℕ) (f : Field) (ws : List ℕ) → Allowed P f → Ends P (judge pool f ws)
  unfolding judge
  judge_why pool f ws h = go (flaw pool f ws) (flaw_why pool f ws h)
    where
      go : (x : Flaw) → Faulty P x → Ends P (unless x (Fine (wide f) (length (bytes pool f ws))))
      go Right k = tt
      go (Err fault) k = k

-- ---- the fields of a plan

module _ (C : Field → Type 0) where
  abbrev pub Each : Plan → Type 0
  Each end = Unit {0}
  Each (step f k) = C f × ((v : List ℕ) → Each (k v))

  abbrev pub All : List Field → Type 0
  All [] = Unit {0}
  All (f ∷ fs) = C f × All fs

  all_append : (fs gs : List Field) → All fs → All gs → All (fs ++ gs)
  all_append [] gs h k = k
  all_append (f ∷ fs) gs h k = (h.0, all_append fs gs h.1 k)

  all_repeated : (n : ℕ) (g : List Field) → All g → All (repeated n g)
  unfolding repeated
  all_repeated zero g h = tt
  all_repeated (suc n) g h = all_append g (repeated n g) h (all_repeated n g h)

  each_seq : (fs : List Field) (p : Plan) → All fs → Each p → Each (seq fs p)
  unfolding seq
  each_seq [] p h k = k
  each_seq (f ∷ fs) p h k = (h.0, (λ v. each_seq fs p h.1 k))

  pub each_plan : (s : Shape) → All (opening s) → C field.Index → All (group s) → All (closing s) → Each (plan s)
  each_plan s o i g c =
      each_seq (opening s) (cond s.counted (counts s) (seq (closing s) end)) o
      (on_test Each s.counted (i, (λ v. groups (get_or v 0 0))) (each_seq (closing s) end c tt))
    where
      groups : (n : ℕ) → Each (seq (repeated n (group s) ++ closing s) end)
      groups n = each_seq (repeated n (group s) ++ closing s) end (all_append (repeated n (group s)) (closing s) (all_repeated n (group s) g) c) tt

  pub each_any : ((f : Field) → C f) → (p : Plan) → Each p
  each_any h end = tt
  each_any h (step f k) = (h f, (λ v. each_any h (k v)))

  pub walk_why : (P : Refusal → Type 0) (s : Side) → ((f : Field) (xs : List ℕ) → C f → Ends P (s.look f xs))
      → (p : Plan) → Each p → (xs : List ℕ) (at made : ℕ) → Ends P (walk s p xs at made)
  unfolding walk
  walk_why P s look end h xs at made = tt
  walk_why P s look (step f k) h xs at made =
      go (s.look f xs) (look f xs h.0)
      (λ t m. walk_why P s look (k (s.tell f at xs)) (h.1 (s.tell f at xs)) (drop t xs) (at + t) (made + m))
    where
      more : ℕ → ℕ → Leaf
      more t m = walk s (k (s.tell f at xs)) (drop t xs) (at + t) (made + m)

      go : (l : Leaf) → Ends P l → ((t m : ℕ) → Ends P (more t m)) → Ends P (next l more at)
      go (Ok span) e rest = rest span.took span.made
      go (Err fault) e rest = e

-- ---- rows

-- every field, where RANGE and TEXT may come
pub all-allowed : (P : Refusal → Type 0) → P refusal.Range → AnyText P → (f : Field) → Allowed P f
all-allowed P r t f = go (nameless f)
  where
    go : (b : Bool) → Names P b
    go true = tt
    go false = (r, t)

-- what a row of a shape can meet
pub record Measures (P : Refusal → Type 0) (s : Shape) (row : List ℕ) (start : ℕ) (pool : List ℕ) : Type 0 where
  pub limit : (b : Bool) → b ≡ true → (b ≡ ltb 16384 (length row)) ⊎ (b ≡ ltb 65536 (length pool)) → P refusal.Limit
  pub width : eqb (row_width s row start) (length row) ≡ false → P refusal.Row
  pub tag : P refusal.Tag
  pub names : Each (Allowed P) (plan s)

-- a row of any shape
pub any_shape : (P : Refusal → Type 0) → P refusal.Limit → P refusal.Row → P refusal.Tag → P refusal.Range → AnyText P
    → (s : Shape) (row : List ℕ) (start : ℕ) (pool : List ℕ) → Measures P s row start pool
any_shape P limit empty tag range text s row start pool =
    record {
      limit = λ b e k. limit;
      width = λ e. empty;
      tag = tag;
      names = each_any (Allowed P) (all-allowed P range text) (plan s);
    }

pub measured_why : (P : Refusal → Type 0) (s : Shape) (row : List ℕ) (start : ℕ) (pool : List ℕ) → Measures P s row start pool
    → Tells P (measured s row start pool)
unfolding measured sized
measured_why P s row start pool h = rows (ltb 16384 (length row)) refl
  where
    made : (l : Leaf) → Ends P l → Tells P (sized l)
    made (Err fault) k = k
    made (Ok span) k = tt

    widths : (b : Bool) → eqb (row_width s row start) (length row) ≡ b → Tells P (cond b (sized (judged s pool row start)) (Refused refusal.Row 0))
    widths true p =
        made (judged s pool row start)
        (walk_why (Allowed P) P (writer pool) (judge_why P h.tag pool) (plan s) h.names (drop start row) start 0)
    widths false p = h.width p

    pools : (b : Bool) → ltb 65536 (length pool) ≡ b
        → Tells P (cond b (Refused refusal.Limit 0)
        (cond (eqb (row_width s row start) (length row)) (sized (judged s pool row start)) (Refused refusal.Row 0)))
    pools true p = h.limit true refl (inr (sym p))
    pools false p = widths (eqb (row_width s row start) (length row)) refl

    rows : (b : Bool) → ltb 16384 (length row) ≡ b
        → Tells P (cond b (Refused refusal.Limit 0)
        (cond (ltb 65536 (length pool)) (Refused refusal.Limit 0)
        (cond (eqb (row_width s row start) (length row)) (sized (judged s pool row start)) (Refused refusal.Row 0))))
    rows true p = h.limit true refl (inl (sym p))
    rows false p = pools (ltb 65536 (length pool)) refl

-- a row of a kind: an empty one is ROW, and no kind is KIND
pub record MeasuresRow (P : Refusal → Type 0) (found : Option Shape) (row pool : List ℕ) : Type 0 where
  pub limit : P refusal.Limit
  pub kind : found ≡ None → P refusal.Kind
  pub empty : P refusal.Row
  pub shape : (s : Shape) → found ≡ Some s → Measures P s row 1 pool

pub measured-row_why : (P : Refusal → Type 0) (found : Option Shape) (row pool : List ℕ) → MeasuresRow P found row pool
    → Tells P (measured_row found row pool)
unfolding measured_row
measured-row_why P found row pool h =
    on_test (Tells P) (ltb 16384 (length row)) h.limit
    (on_test (Tells P) (ltb 65536 (length pool)) h.limit
    (on_test (Tells P) (eqb (length row) 0) h.empty (go found refl)))
  where
    go : (f : Option Shape) → found ≡ f → Tells P (measured_found f row pool)
    go (Some s) e = measured_why P s row 1 pool (h.shape s e)
    go None e = h.kind e

-- bytes of a size that was found, stored
pub stored_why : (P : Refusal → Type 0) → P refusal.Room → (a : Answer) (bs out : List ℕ) (at : ℕ) → Tells P a → Tells P (stored a bs out at).answer
unfolding stored
stored_why P room (Ok m) bs out at h = on_test (λ (l : Left). Tells P l.answer) (leb (at + m) (length out)) tt room
stored_why P room (Err fault) bs out at h = h

-- ---- tables

both : (a b : Bool) → (a && b) ≡ true → (a ≡ true) × (b ≡ true)
both true b e = (refl, e)
both false b e = impossible cc

abbrev nameless_all : List Field → Bool
nameless_all [] = true
nameless_all (f ∷ fs) = nameless f && nameless_all fs

abbrev pub nameless_shape : Shape → Bool
nameless_shape s = nameless_all (opening s) && (nameless_all (group s) && nameless_all (closing s))

pub nameless-plan : (P : Refusal → Type 0) (s : Shape) → nameless_shape s ≡ true → Each (Allowed P) (plan s)
nameless-plan P s e =
    let a = both (nameless_all (opening s)) (nameless_all (group s) && nameless_all (closing s)) e in
    let b = both (nameless_all (group s)) (nameless_all (closing s)) a.1 in
    each_plan (Allowed P) s (go (opening s) a.0) tt (go (group s) b.0) (go (closing s) b.1)
  where
    one : (b : Bool) → b ≡ true → Names P b
    one true q = tt
    one false q = impossible cc

    go : (fs : List Field) → nameless_all fs ≡ true → All (Allowed P) fs
    go [] q = tt
    go (f ∷ fs) q = let h = both (nameless f) (nameless_all fs) q in (one (nameless f) h.0, go fs h.1)

-- what every row can meet
pub record Basic (P : Refusal → Type 0) : Type 0 where
  pub limit : P refusal.Limit
  pub kind : P refusal.Kind
  pub empty : P refusal.Row
  pub tag : P refusal.Tag

pub shape_why : (P : Refusal → Type 0) → Basic P → (s : Shape) → Each (Allowed P) (plan s) → (row pool : List ℕ)
    → Measures P s row 1 pool
shape_why P h s names row pool = record { limit = λ b e k. h.limit; width = λ e. h.empty; tag = h.tag; names = names }

-- the rows of a table
pub table_why : (P : Refusal → Type 0) → Basic P → (ls : List Line) (k : ℕ)
    → ((s : Shape) → shape_in ls k ≡ Some s → Each (Allowed P) (plan s)) → (row pool : List ℕ) → Tells P (measured_row (shape_in ls k) row pool)
table_why P h ls k names row pool =
    measured-row_why P (shape_in ls k) row pool
    (record {
      limit = h.limit;
      kind = λ e. h.kind;
      empty = h.empty;
      shape = λ s e. shape_why P h s (names s e) row pool;
    })
