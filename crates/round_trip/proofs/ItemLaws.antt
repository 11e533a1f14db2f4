-- Reading a whole item: what its section takes is read back, or refused at the first byte above the grade; and what is accepted is
-- written again beside its own bytes, with each number in its shortest form, and has no byte above the grade.
use Rattle.std.specs.Prelude.{None, Some, Option, Err, Ok}
use Prim.Native.Nat.{ℕ, ◌+◌, ◌^◌, ◌≤◌, ◌<◌}
use native.Mathlib.Omega.{arith}
use mathlib.Core.Path.{◌≡◌, refl, sym, ap, ◌∙◌, subst}
use mathlib.Core.List.{List, [], ◌++◌, append-nil}
use borrow.Author.Tests.{le-ltb, le-leb, lt-leb, ne_eqb}
use lib.ListN.{length, take, drop, length-take}
use Rattle.numbers.specs.Bytes.{Bytes}
use Rattle.numbers.proofs.BytesLaws.{sets_back}
use Rattle.fields.specs.Flaw.{Flaw, Right}
use Rattle.fields.specs.Leaf.{Leaf, Fine}
use Rattle.fields.specs.declared.Refusal.TheVariants as refusal
use Rattle.fields.specs.Read.{Item, Refused}
use Rattle.fields.specs.declared.Shape.{Shape}
use Rattle.fields.specs.Words.{word, Words, wide}
use Rattle.writing.specs.Binary.{bytes}
use Rattle.writing.specs.Judge.{flaw, unless, judge}
use Rattle.round_trip.specs.Padded.{Padded}
use Rattle.round_trip.proofs.PaddedLaws.{padded_by}
use Rattle.round_trip.specs.Mark.{Mark, Clear, At, first_mark, row_mark, SameFields, SameItem}
use Rattle.round_trip.specs.inside.Width.{plan_width}
use Rattle.fields.specs.Answers.{left_row}
use Rattle.reading.specs.Read.{reader, scanned, filled, roomed, read_item}
use Rattle.writing.specs.Row.{measured_row, row_bytes}
use Rattle.fields.specs.Shape.{plan}
use Rattle.fields.specs.View.{view}
use Rattle.fields.specs.Walk.{Plan, end, step, next, walk, outs}
use Rattle.writing.specs.Write.{writer, judged, written}
use Rattle.writing.proofs.AnswerLaws.{Sized}
use Rattle.round_trip.proofs.Back.{Reaches, Got, Retells}
use Rattle.round_trip.proofs.ReadLaws.{shape_back, shape_only}
use Rattle.round_trip.proofs.SameBytes.{same_bytes}
use Rattle.writing.proofs.WholeLaws.{accepted, sized-accepted, judged-ends, size_is_length, reaches_end}
use Rattle.reading.proofs.TakenLaws.{taken}
use Rattle.numbers.proofs.Impossible.{impossible}
use Rattle.round_trip.specs.Returned.{Returned, ReadBack, ReadsBack}

-- ---- what was written is read back

-- a walk over words that ends, ends past the words of its plan
abbrev EndsAt : Leaf → ℕ → Type 0
EndsAt (Ok span) n = span.took ≡ n
EndsAt (Err fault) n = Unit {0}

plan-ends : (pool : List ℕ) (p : Plan) (ws : List ℕ) (at made : ℕ) → EndsAt (walk (writer pool) p ws at made) (at + plan_width pool p ws)
unfolding walk plan_width judge
plan-ends pool end ws at made = omega arith
plan-ends pool (step f k) ws at made =
    go (flaw pool f ws) (plan-ends pool (k (view pool f ws)) (drop (wide f) ws) (at + wide f) (made + length (bytes pool f ws)))
  where
    due : Leaf
    due = walk (writer pool) (k (view pool f ws)) (drop (wide f) ws) (at + wide f) (made + length (bytes pool f ws))

    more : ℕ
    more = plan_width pool (k (view pool f ws)) (drop (wide f) ws)

    go : (l : Flaw) → EndsAt due (at + wide f + more)
        → EndsAt (next (unless l (Fine (wide f) (length (bytes pool f ws)))) (λ t m. walk (writer pool) (k (view pool f ws)) (drop t ws) (at + t) (made + m)) at)
        (at + (wide f + more))
    go Right h =
        let sum : at + wide f + more ≡ at + (wide f + more) = omega arith in
        subst (λ n. EndsAt due n) sum h
    go (Err fault) h = tt

-- where nothing is refused before, an item is read by its shape
read_shaped : (s : Shape) (kind lead g : ℕ) (input room : List ℕ) → 1 ≤ g → g ≤ 3 → length input ≤ 2 ^ 30 → 1 ≤ length input
    → read_item (Some s) kind lead g input room ≡ roomed (scanned lead g s input) (filled kind lead g s input) room
unfolding read_item
read_shaped s kind lead g input room any top short some =
    let full : length input ≡ 0 → ⊥ = λ z. omega arith in
    simp (le-ltb _ _ short, le-ltb _ _ any, le-ltb _ _ top, ne_eqb _ _ full)

-- the bytes of a row that its section takes, with anything behind them, are read as the same item and taken as far as they were
-- written; or NEWER at the first byte above the grade
pub item_back : (s : Shape) (lead g : ℕ) (row pool : List ℕ) (m : ℕ) → Words row → measured_row (Some s) row pool ≡ Ok m
    → (rest input room : List ℕ) → input ≡ written s pool row 1 ++ rest
    → 1 ≤ g → g ≤ 3 → length input ≤ 2 ^ 30 → 1 ≤ length input
    → ReadBack (row_mark (Some s) lead g pool row) s pool row input room m (read_item (Some s) (word row 0) lead g input room)
unfolding row_mark roomed
item_back s lead g row pool m fw e rest input room q any top short some =
    rw (read_shaped s (word row 0) lead g input room any top short some)
    (marked (first_mark lead g pool (plan s) (drop 1 row) 0) (shape_back lead g any s pool row 1 fw reaches rest input q))
  where
    k : Sized s row 1 pool m
    k =
        let a = accepted (Some s) row pool m e in
        let same : a.shape ≡ s = cc a.is in
        subst (λ t. Sized t row 1 pool m) same a.sized

    reaches : Reaches (judged s pool row 1)
    reaches = subst (λ l. Reaches l) (sym k.judges) tt

    width : 1 + plan_width pool (plan s) (drop 1 row) ≡ length row
    width =
        let ends : k.end ≡ 1 + plan_width pool (plan s) (drop 1 row) =
        subst (λ l. EndsAt l (1 + plan_width pool (plan s) (drop 1 row))) k.judges (plan-ends pool (plan s) (drop 1 row) 1 0) in
        omega (arith, reaches_end k)

    scan : Leaf
    scan = scanned lead g s input

    words : List ℕ
    words = filled (word row 0) lead g s input

    marked : (mk : Mark)
        → Got mk scan (length (written s pool row 1)) (1 + plan_width pool (plan s) (drop 1 row))
        (Retells pool input (plan s) (drop 1 row) (outs (reader lead g input) (plan s) 0 input))
        → ReadBack mk s pool row input room m (roomed scan words room)
    marked (At j) b = ap (λ l. roomed l words room) b
    marked Clear b = (cramped, whole)
      where
        ends : scan ≡ Fine m (length row)
        ends = b.0 ∙ (λ i. Fine (sym (size_is_length k) i) (width i))

        cramped : length room < length row → roomed scan words room ≡ left_row (Refused refusal.Room (length row)) room
        cramped h = rw ends (simp (le-ltb _ _ k.short, lt-leb _ _ h))

        whole : length row ≤ length room → Returned s pool row input room m (roomed scan words room)
        whole h =
            let ws = outs (reader lead g input) (plan s) 0 input in
            let long = b.1.long in
            record {
              words = words;
              leaves = rw ends (simp (le-ltb _ _ k.short, le-leb _ _ h));
              same =
                  record {
                    kind = refl;
                    long = omega (arith, width);
                    says = subst (λ l. SameFields pool input (plan s) (drop 1 row) l) (append-nil ws) (b.1.same []);
                  };
            }

-- the same of a kind that is found
pub found_back : (found : Option Shape) (lead g : ℕ) (row pool : List ℕ) (m : ℕ) → Words row → measured_row found row pool ≡ Ok m
    → (rest input room : List ℕ) → input ≡ row_bytes found pool row ++ rest
    → 1 ≤ g → g ≤ 3 → length input ≤ 2 ^ 30 → 1 ≤ length input
    → ReadsBack found (row_mark found lead g pool row) pool row input room m (read_item found (word row 0) lead g input room)
unfolding row_bytes
found_back (Some s) lead g row pool m fw e rest input room q any top short some =
    record { shape = s; is = refl; reads = item_back s lead g row pool m fw e rest input room q any top short some }
found_back None lead g row pool m fw e rest input room q any top short some =
    let no = (accepted None row pool m e).is in
    impossible cc

-- ---- what is accepted is written again

-- a row that was read at a grade, and the bytes that were taken: the writer accepts it, those bytes as the pool, and writes it again
pub record WrittenAgain (found : Option Shape) (lead g : ℕ) (input taken row : List ℕ) : Type 0 where
  pub small : Words row
  pub clear : row_mark found lead g taken row ≡ Clear
  pub accepts : measured_row found row taken ≡ Ok (length (row_bytes found taken row))
  pub again : Padded taken (row_bytes found taken row)
  -- as the bytes of any row that is the same item
  pub same : (s : Shape) → found ≡ Some s → (pool other : List ℕ) (m : ℕ) → measured_row found other pool ≡ Ok m → SameItem s pool other input row
      → row_bytes found taken row ≡ row_bytes found pool other

-- words that are judged right beside a pool, and say what a row that is taken says, are written as that row
same-written : (s : Shape) (pool row : List ℕ) (m : ℕ) → measured_row (Some s) row pool ≡ Ok m
    → (pool' ws : List ℕ) (q n : ℕ) → judged s pool' ws 1 ≡ Fine q n → SameFields pool pool' (plan s) (drop 1 row) (drop 1 ws)
    → written s pool' ws 1 ≡ written s pool row 1
same-written s pool row m a pool' ws q n j same =
    let k = accepted (Some s) row pool m a in
    let here : k.shape ≡ s = cc k.is in
    let sized : Sized s row 1 pool m = subst (λ t. Sized t row 1 pool m) here k.sized in
    same_bytes pool pool' (plan s) (drop 1 row) (drop 1 ws) 1 0 1 0 (subst Reaches (sym sized.judges) tt) (subst Reaches (sym j) tt) same

-- what is accepted and took at most 65,536 bytes
pub item-only : (found : Option Shape) (kind lead g : ℕ) (input room after : List ℕ) (q e : ℕ) → Bytes input → 1 ≤ g → kind < 2 ^ 32
    → read_item found kind lead g input room ≡ left_row (Item q e) after → e ≤ 65536
    → (word (take q after) 0 ≡ kind) × WrittenAgain found lead g input (take e input) (take q after)
unfolding row_bytes row_mark
item-only found kind lead g input room after q e fi any known r few =
    let t = taken kind lead g input room after q e found r in
    let s = t.shape in
    let pool = take e input in
    let ws = filled kind lead g s input in
    let o = shape_only kind lead g s input e q fi any (omega arith) known t.ends in
    let long : length ws ≡ q = o.long in
    let inside : 0 + length ws ≤ length room = omega (arith, t.fits) in
    let back : take q after ≡ ws = (λ i. take (sym long i) (t.leaves i)) ∙ sets_back ws room 0 inside in
    let n = length (written s pool ws 1) in
    let k : Sized s ws 1 pool n =
    record {
      width = sym (judged-ends s pool ws 1 q n o.judges) ∙ sym long;
      short = omega (arith, t.short);
      small = omega (arith, length-take e input);
      end = q;
      judges = o.judges;
    } in
    let is : row_bytes found pool (take q after) ≡ written s pool ws 1 = λ i. row_bytes (t.is i) pool (back i) in (
      ap (λ l. word l 0) back,
      record {
        small = subst Words (sym back) o.small;
        clear = (λ i. row_mark (t.is i) lead g pool (back i)) ∙ o.clear;
        accepts =
            (λ i. measured_row (t.is i) (back i) pool) ∙ sized-accepted s ws pool n k
            ∙ ap (λ l. Ok (length l)) (sym is);
        again = padded_by is o.again refl;
        same = λ s' is' pool' other m a same.
            let here : s ≡ s' = let f = sym t.is ∙ is' in cc in
            let sized = subst (λ f. measured_row f other pool' ≡ Ok m) is' a in
            is ∙ ap (λ x. written x pool ws 1) here ∙ same-written s' pool' other m sized pool ws q n (subst (λ x. judged x pool ws 1 ≡ Fine q n) here o.judges)
            (subst (λ x. SameFields pool' pool (plan x) (drop 1 other) (drop 1 ws)) here
            (o.tells pool' (drop 1 other)
            (subst (λ x. SameFields pool' input (plan x) (drop 1 other) (drop 1 ws)) (sym here)
            (subst (λ l. SameFields pool' input (plan s') (drop 1 other) (drop 1 l)) back same.says))))
            ∙ ap (λ f. row_bytes f pool' other) (sym is');
      },
    )

-- so the row that is read, whose kind finds its shape again, is written again
pub written_again : (find : ℕ → Option Shape) (lead : ℕ → ℕ) (kind g : ℕ) (input room after : List ℕ) (q e : ℕ) → Bytes input → 1 ≤ g → kind < 2 ^ 32
    → read_item (find kind) kind (lead kind) g input room ≡ left_row (Item q e) after → e ≤ 65536
    → WrittenAgain (find (word (take q after) 0)) (lead (word (take q after) 0)) g input (take e input) (take q after)
written_again find lead kind g input room after q e fi any known r few =
    let o = item-only (find kind) kind (lead kind) g input room after q e fi any known r few in
    subst (λ k. WrittenAgain (find k) (lead k) g input (take e input) (take q after)) (sym o.0) o.1
