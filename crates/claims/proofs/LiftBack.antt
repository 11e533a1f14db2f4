-- A lift: its words in the order of its row, the type third, and in that of its bytes, the type last. A row that is taken is, in the
-- order of its bytes, a row of that shape, and written as such; so it is read back.
use Rattle.std.specs.Prelude.{Some, Ok, Err}
use Prim.Native.Nat.{ℕ, zero, suc, ◌+◌, ◌-◌, ◌*◌, ◌^◌, ◌≤◌, ◌<◌}
use native.Mathlib.Omega.{arith}
use mathlib.Core.Path.{◌≡◌, refl, sym, ap, ◌∙◌, subst}
use mathlib.Core.Bool.{Bool, true, false, cond}
use mathlib.Core.List.{List, [], ◌∷◌, ◌++◌, append-nil, append_assoc}
use borrow.Author.Tests.{le-ltb, le-leb, lt-leb, ne_eqb, ltb-false, leb-true}
use lib.Dec.{eqb, ltb, leb}
use lib.ListN.{length, take, drop, length-append, length-take}
use lib.Seq.{sets, get_or-append-add, take-append_seam, length-take-le}
use Rattle.numbers.specs.Bytes.{Bytes}
use Rattle.numbers.proofs.BytesLaws.{sets_back}
use Rattle.numbers.specs.Leb.{unsigned}
use Rattle.fields.specs.declared.Field.TheVariants as field
use Rattle.fields.specs.Leaf.{Leaf, Fine}
use Rattle.fields.specs.Read.{Item, Refused}
use Rattle.fields.specs.declared.Refusal.{Refusal}
use Rattle.fields.specs.declared.Refusal.TheVariants as refusal
use Rattle.fields.specs.Answers.{left_row}
use Rattle.fields.specs.Shape.{plan, repeated, seq, widths, row_width}
use Rattle.fields.specs.Table.{elements}
use Rattle.fields.specs.View.{said, view, Word}
use Rattle.fields.specs.Walk.{end, outs}
use Rattle.fields.specs.Words.{word, wide, Words}
use Rattle.fields.proofs.OutcomeLaws.{item-same}
use Rattle.writing.specs.Binary.{canonopt, bytes}
use Rattle.writing.specs.Judge.{choice, flaw}
use Rattle.writing.specs.Row.{measured_row}
use Rattle.writing.specs.Write.{judged, written}
use Rattle.reading.specs.Read.{reader, scanned, filled, roomed}
use Rattle.writing.specs.inside.Rows.{Rights}
use Rattle.writing.proofs.PutLaws.{all_fields}
use Rattle.writing.proofs.TableLaws.{strings}
use Rattle.writing.proofs.RowLaws.{rights-first, rights_join, row-known, row_held}
use Rattle.writing.proofs.AnswerLaws.{Sized}
use Rattle.writing.proofs.WholeLaws.{accepted, sized-accepted, judged-ends, size_is_length}
use Rattle.round_trip.specs.Mark.{Mark, Clear, At, first_mark, row_mark, SameFields}
use Rattle.round_trip.specs.Returned.{Returned, ReadBack}
use Rattle.round_trip.specs.inside.Width.{plan_width}
use Rattle.round_trip.proofs.Back.{Reaches, Got, Retells}
use Rattle.round_trip.specs.Padded.{Padded}
use Rattle.round_trip.proofs.PaddedLaws.{padded_by}
use Rattle.round_trip.proofs.ReadLaws.{shape_back, shape_only}
use Rattle.canonicals.specs.Table.{lift_shape, lift_bytes, lift}
use Rattle.canonicals.specs.inside.Class.{Choices, choices, Lifted, lifted_size}
use Rattle.canonicals.proofs.ClassLaws.{one, choices-rights, rights-choices}
use Rattle.canonical_items.specs.ReadCanonical.{type_third, read_lift}
use Rattle.numbers.proofs.Impossible.{impossible}

-- the words in both orders
abbrev pub in_row : ℕ → ℕ → ℕ → ℕ → List ℕ → List ℕ
in_row k f t n os = k ∷ f ∷ t ∷ n ∷ os

abbrev pub in_bytes : ℕ → ℕ → ℕ → ℕ → List ℕ → List ℕ
in_bytes k f t n os = k ∷ f ∷ n ∷ (os ++ t ∷ [])

-- the type, put third
pub third : (k f t n : ℕ) (os : List ℕ) → type_third (in_bytes k f t n os) ≡ in_row k f t n os
unfolding type_third
third k f t n os =
    let ws = in_bytes k f t n os in
    let a : length ws - 1 ≡ length (k ∷ f ∷ n ∷ os) + 0 = omega (arith, length-append os (t ∷ [])) in
    let b : length ws - 3 ≡ length (n ∷ os) = omega (arith, length-append os (t ∷ [])) in
    (λ i. k ∷ f ∷ (word ws (a i) ∷ take (b i) (drop 2 ws)))
    ∙ (λ i. k ∷ f ∷ (get_or-append-add (k ∷ f ∷ n ∷ os) (t ∷ []) 0 0 i ∷ take-append_seam (n ∷ os) (t ∷ []) i))

-- ---- options with a word behind them

choices-more : (n : ℕ) (os ys : List ℕ) → length os ≡ n * 2 → Choices n os → Choices n (os ++ ys)
unfolding Choices choice
choices-more zero os ys l h = tt
choices-more (suc n) [] ys l h = absurd (omega (arith, l))
choices-more (suc n) (a ∷ []) ys l h = absurd (omega (arith, l))
choices-more (suc n) (a ∷ b ∷ os) ys l h = (h.0, choices-more n os ys (omega (arith, l)) h.1)

choices_less : (n : ℕ) (os ys : List ℕ) → length os ≡ n * 2 → Choices n (os ++ ys) → Choices n os
unfolding Choices choice
choices_less zero os ys l h = tt
choices_less (suc n) [] ys l h = absurd (omega (arith, l))
choices_less (suc n) (a ∷ []) ys l h = absurd (omega (arith, l))
choices_less (suc n) (a ∷ b ∷ os) ys l h = (h.0, choices_less n os ys (omega (arith, l)) h.1)

-- their bytes
last-strings : (pool : List ℕ) (n t : ℕ) (os : List ℕ) → length os ≡ n * 2
    → strings pool (repeated n one ++ field.Index ∷ []) (os ++ t ∷ []) ≡ choices n os ++ unsigned t
unfolding strings repeated bytes wide elements
last-strings pool zero t [] l = append-nil (unsigned t)
last-strings pool zero t (a ∷ os) l = absurd (omega (arith, l))
last-strings pool (suc n) t [] l = absurd (omega (arith, l))
last-strings pool (suc n) t (a ∷ []) l = absurd (omega (arith, l))
last-strings pool (suc n) t (a ∷ b ∷ os) l =
    ap (λ v. canonopt a b ++ v) (last-strings pool n t os (omega (arith, l))) ∙ sym (append_assoc (canonopt a b) (choices n os) (unsigned t))

-- ---- a lift that is right is one as its bytes stand, and is written as it

module _ (k f t n : ℕ) (os pool : List ℕ) (h : Lifted (in_row k f t n os) pool) where
  long : length os ≡ n * 2
  long = omega (arith, h.width)

  lift_strings : strings pool (all_fields lift_bytes (in_bytes k f t n os) 1) (f ∷ n ∷ (os ++ t ∷ []))
      ≡ 0x00 ∷ 0x00 ∷ (unsigned f ++ (unsigned n ++ (choices n os ++ unsigned t)))
  unfolding strings bytes widths wide
  lift_strings = ap (λ v. 0x00 ∷ 0x00 ∷ (unsigned f ++ (unsigned n ++ v))) (last-strings pool n t os long)

  pub lift_known : measured_row (Some lift_bytes) (in_bytes k f t n os) pool ≡ Ok (2 + lifted_size (in_row k f t n os))
  unfolding row_width widths wide Rights flaw
  lift_known =
      let l = length-append os (t ∷ []) in
      row-known lift_bytes pool (in_bytes k f t n os) h.small (omega (arith, h.short, l)) (omega (arith, h.width, l)) (
        refl,
        (
          refl,
          (
            refl,
            (
              refl,
              (
                refl,
                rights_join pool (repeated n one) (field.Index ∷ []) (os ++ t ∷ [])
                    (choices-rights pool n (os ++ t ∷ []) (choices-more n os (t ∷ []) long h.right)) (refl, tt),
              ),
            ),
          ),
        ),
      )
      (omega (
        arith,
        ap length lift_strings,
        length-append (unsigned f) (unsigned n ++ (choices n os ++ unsigned t)),
        length-append (unsigned n) (choices n os ++ unsigned t),
        length-append (choices n os) (unsigned t),
      ))

  pub lift_made : written lift_bytes pool (in_bytes k f t n os) 1 ≡ lift (f ∷ t ∷ n ∷ os)
  unfolding lift
  lift_made =
      (row_held lift_bytes (in_bytes k f t n os) pool lift_known).made ∙ lift_strings
      ∙ ap (λ v. 0x00 ∷ 0x00 ∷ (unsigned f ++ v)) (sym (append_assoc (unsigned n) (choices n os) (unsigned t)))

  pub lift_long : 2 + lifted_size (in_row k f t n os) ≡ length (lift (f ∷ t ∷ n ∷ os))
  lift_long =
      (row_held lift_bytes (in_bytes k f t n os) pool lift_known).size
      ∙ ap length (sym (row_held lift_bytes (in_bytes k f t n os) pool lift_known).made ∙ lift_made)

-- a row that has a size as a lift is one
pub lift-rows : (row : List ℕ) → length row ≡ row_width lift_shape row 1 → row ≡ in_row (word row 0) (word row 1) (word row 2) (word row 3) (drop 4 row)
unfolding row_width widths wide
lift-rows [] w = absurd (omega (arith, w))
lift-rows (k ∷ []) w = absurd (omega (arith, w))
lift-rows (k ∷ f ∷ []) w = absurd (omega (arith, w))
lift-rows (k ∷ f ∷ t ∷ []) w = absurd (omega (arith, w))
lift-rows (k ∷ f ∷ t ∷ n ∷ os) w = refl

pub lift_is : (k f t n : ℕ) (os pool : List ℕ) {m : ℕ} → measured_row (Some lift_shape) (in_row k f t n os) pool ≡ Ok m
    → Lifted (in_row k f t n os) pool
unfolding row_width widths wide Rights
lift_is k f t n os pool e =
    let h = row_held lift_shape (in_row k f t n os) pool e in
    record {
      small = h.small;
      short = h.short;
      width = omega (arith, h.width);
      right = rights-choices pool n os (rights-first pool (repeated n one) (field.Nothing ∷ []) os h.right.1.1.1.1.1);
    }

-- ---- words that say the same are the same

same_word : (a b : ℕ) → ◌≡◌ {A = List _} (Word a ∷ []) (Word b ∷ []) → a ≡ b
same_word a b e = cc

same-options : (pool input : List ℕ) (n : ℕ) (xs ys : List ℕ) → SameFields pool input (seq (repeated n one ++ field.Index ∷ []) end) xs ys
    → length xs ≡ n * 2 + 1 → length ys ≡ n * 2 + 1 → ys ≡ xs
unfolding SameFields seq repeated said wide view
same-options pool input zero (a ∷ []) (b ∷ []) s l m = ap (λ v. v ∷ []) (same_word b a s.0)
same-options pool input zero [] ys s l m = absurd (omega (arith, l))
same-options pool input zero (a ∷ b ∷ xs) ys s l m = absurd (omega (arith, l))
same-options pool input zero (a ∷ []) [] s l m = absurd (omega (arith, m))
same-options pool input zero (a ∷ []) (b ∷ c ∷ ys) s l m = absurd (omega (arith, m))
same-options pool input (suc n) [] ys s l m = absurd (omega (arith, l))
same-options pool input (suc n) (a ∷ []) ys s l m = absurd (omega (arith, l))
same-options pool input (suc n) (a ∷ b ∷ xs) [] s l m = absurd (omega (arith, m))
same-options pool input (suc n) (a ∷ b ∷ xs) (c ∷ []) s l m = absurd (omega (arith, m))
same-options pool input (suc n) (a ∷ b ∷ xs) (c ∷ d ∷ ys) s l m =
    let p : ◌≡◌ {A = List _} (Word c ∷ Word d ∷ []) (Word a ∷ Word b ∷ []) = s.0 in
    let x : c ≡ a = cc in
    let y : d ≡ b = cc in
    λ i. x i ∷ y i ∷ same-options pool input n xs ys s.1.1 (omega (arith, l)) (omega (arith, m)) i

same-lift : (pool input : List ℕ) (f t n : ℕ) (os ws : List ℕ) → length os ≡ n * 2 → SameFields pool input (plan lift_bytes) (f ∷ n ∷ (os ++ t ∷ [])) ws
    → length ws ≡ 3 + n * 2 → ws ≡ f ∷ n ∷ (os ++ t ∷ [])
unfolding SameFields seq said wide view
same-lift pool input f t n os [] l s m = absurd (omega (arith, m))
same-lift pool input f t n os (a ∷ []) l s m = absurd (omega (arith, m))
same-lift pool input f t n os (a ∷ b ∷ ys) l s m =
    let x = same_word a f s.1.1.0 in
    let y = same_word b n s.1.1.1.1.0 in
    λ i. x i ∷ y i ∷ same-options pool input n (os ++ t ∷ []) ys s.1.1.1.1.1 (omega (arith, l, length-append os (t ∷ []))) (omega (arith, m)) i

-- the same in the order of a row
same-choices : (pool input : List ℕ) (n : ℕ) (xs ys : List ℕ) → SameFields pool input (seq (repeated n one ++ field.Nothing ∷ []) end) xs ys
    → length xs ≡ n * 2 → length ys ≡ n * 2 → ys ≡ xs
unfolding SameFields seq repeated said wide view
same-choices pool input zero [] [] s l m = refl
same-choices pool input zero (a ∷ xs) ys s l m = absurd (omega (arith, l))
same-choices pool input zero [] (b ∷ ys) s l m = absurd (omega (arith, m))
same-choices pool input (suc n) [] ys s l m = absurd (omega (arith, l))
same-choices pool input (suc n) (a ∷ []) ys s l m = absurd (omega (arith, l))
same-choices pool input (suc n) (a ∷ b ∷ xs) [] s l m = absurd (omega (arith, m))
same-choices pool input (suc n) (a ∷ b ∷ xs) (c ∷ []) s l m = absurd (omega (arith, m))
same-choices pool input (suc n) (a ∷ b ∷ xs) (c ∷ d ∷ ys) s l m =
    let p : ◌≡◌ {A = List _} (Word c ∷ Word d ∷ []) (Word a ∷ Word b ∷ []) = s.0 in
    let x : c ≡ a = cc in
    let y : d ≡ b = cc in
    λ i. x i ∷ y i ∷ same-choices pool input n xs ys s.1.1 (omega (arith, l)) (omega (arith, m)) i

pub same_row : (pool input : List ℕ) (f t n : ℕ) (os : List ℕ) (a b c : ℕ) (ys : List ℕ) → length os ≡ n * 2 → length ys ≡ length os
    → SameFields pool input (plan lift_shape) (f ∷ t ∷ n ∷ os) (a ∷ b ∷ c ∷ ys) → a ∷ b ∷ c ∷ ys ≡ f ∷ t ∷ n ∷ os
unfolding SameFields seq said wide view
same_row pool input f t n os a b c ys l m s =
    let x = same_word a f s.1.1.0 in
    let y = same_word b t s.1.1.1.0 in
    let z = same_word c n s.1.1.1.1.0 in
    λ i. x i ∷ y i ∷ z i ∷ same-choices pool input n os ys s.1.1.1.1.1 l (m ∙ l) i

-- a lift says the same beside any bytes, as it names none
self_options : (pool input : List ℕ) (n : ℕ) (xs : List ℕ) → SameFields pool input (seq (repeated n one ++ field.Nothing ∷ []) end) xs xs
unfolding SameFields seq repeated said wide view
self_options pool input zero xs = (refl, tt)
self_options pool input (suc n) xs = (refl, (refl, self_options pool input n (drop 2 xs)))

pub same_self : (pool input : List ℕ) (f t n : ℕ) (os : List ℕ) → SameFields pool input (plan lift_shape) (f ∷ t ∷ n ∷ os) (f ∷ t ∷ n ∷ os)
unfolding SameFields seq said wide view
same_self pool input f t n os = (refl, (refl, (refl, (refl, (refl, self_options pool input n os)))))

-- ---- read back

words_snoc : (os : List ℕ) (t : ℕ) → Words os → t < 2 ^ 32 → Words (os ++ t ∷ [])
words_snoc [] t fw h zero = h
words_snoc [] t fw h (suc j) = omega arith
words_snoc (a ∷ os) t fw h zero = fw 0
words_snoc (a ∷ os) t fw h (suc j) = words_snoc os t (λ i. fw (suc i)) h j

words-bytes : (k f t n : ℕ) (os : List ℕ) → Words (in_row k f t n os) → Words (in_bytes k f t n os)
words-bytes k f t n os fw zero = fw 0
words-bytes k f t n os fw (suc zero) = fw 1
words-bytes k f t n os fw (suc (suc zero)) = fw 3
words-bytes k f t n os fw (suc (suc (suc j))) = words_snoc os t (λ i. fw (suc (suc (suc (suc i))))) (fw 2) j

options-wide : (pool : List ℕ) (n : ℕ) (xs : List ℕ) → plan_width pool (seq (repeated n one ++ field.Index ∷ []) end) xs ≡ n * 2 + 1
unfolding plan_width seq repeated wide view
options-wide pool zero xs = refl
options-wide pool (suc n) xs = let h = options-wide pool n (drop 2 xs) in omega (arith, h)

lift-wide : (pool : List ℕ) (f t n : ℕ) (os : List ℕ) → plan_width pool (plan lift_bytes) (f ∷ n ∷ (os ++ t ∷ [])) ≡ 3 + n * 2
unfolding plan_width seq wide view
lift-wide pool f t n os = let h = options-wide pool n (os ++ t ∷ []) in omega (arith, h)

module _ (g f t n : ℕ) (os pool : List ℕ) (fw : Words (in_row 256 f t n os)) (h : Lifted (in_row 256 f t n os) pool) (rest input room : List ℕ)
    (q : input ≡ lift (f ∷ t ∷ n ∷ os) ++ rest) (any : 1 ≤ g) (top : g ≤ 3) (short : length input ≤ 2 ^ 30) where
  abbrev m : ℕ
  m = 2 + lifted_size (in_row 256 f t n os)

  sized : Sized lift_bytes (in_bytes 256 f t n os) 1 pool m
  sized =
      let a = accepted (Some lift_bytes) (in_bytes 256 f t n os) pool m (lift_known 256 f t n os pool h) in
      let same : a.shape ≡ lift_bytes = cc a.is in
      subst (λ s. Sized s (in_bytes 256 f t n os) 1 pool m) same a.sized

  reaches : Reaches (judged lift_bytes pool (in_bytes 256 f t n os) 1)
  reaches = subst (λ l. Reaches l) (sym sized.judges) tt

  as_made : input ≡ written lift_bytes pool (in_bytes 256 f t n os) 1 ++ rest
  as_made = q ∙ ap (λ bs. bs ++ rest) (sym (lift_made 256 f t n os pool h))

  abbrev fields : List ℕ
  fields = outs (reader 1 g input) (plan lift_bytes) 0 input

  abbrev scan : Leaf
  scan = scanned 1 g lift_bytes input

  some : length input ≡ 0 → ⊥
  unfolding lift
  some z = omega (arith, sym (ap length q) ∙ z)

  marked : (mk : Mark)
      → Got mk scan (length (written lift_bytes pool (in_bytes 256 f t n os) 1)) (1 + plan_width pool (plan lift_bytes) (f ∷ n ∷ (os ++ t ∷ [])))
      (Retells pool input (plan lift_bytes) (f ∷ n ∷ (os ++ t ∷ [])) fields)
      → ReadBack mk lift_shape pool (in_row 256 f t n os) input room m (roomed scan (type_third (256 ∷ fields)) room)
  unfolding roomed
  marked (At j) b = ap (λ l. roomed l (type_third (256 ∷ fields)) room) b
  marked Clear b = (cramped, whole)
    where
      wide_is : 1 + plan_width pool (plan lift_bytes) (f ∷ n ∷ (os ++ t ∷ [])) ≡ length (in_row 256 f t n os)
      wide_is = omega (arith, lift-wide pool f t n os, h.width)

      ends : scan ≡ Fine m (length (in_row 256 f t n os))
      ends = b.0 ∙ (λ i. Fine (sym (size_is_length sized) i) (wide_is i))

      as_row : type_third (256 ∷ fields) ≡ in_row 256 f t n os
      as_row =
          let says = subst (λ l. SameFields pool input (plan lift_bytes) (f ∷ n ∷ (os ++ t ∷ [])) l) (append-nil fields) (b.1.same []) in
          let is = same-lift pool input f t n os fields (omega (arith, h.width)) says (b.1.long ∙ lift-wide pool f t n os) in
          ap (λ l. type_third (256 ∷ l)) is ∙ third 256 f t n os

      cramped : length room < length (in_row 256 f t n os)
          → roomed scan (type_third (256 ∷ fields)) room ≡ left_row (Refused refusal.Room (length (in_row 256 f t n os))) room
      cramped l = rw ends (simp (le-ltb _ _ h.short, lt-leb _ _ l))

      whole : length (in_row 256 f t n os) ≤ length room
          → Returned lift_shape pool (in_row 256 f t n os) input room m (roomed scan (type_third (256 ∷ fields)) room)
      whole l =
          record {
            words = in_row 256 f t n os;
            leaves = rw ends (simp (le-ltb _ _ h.short, le-leb _ _ l) (ap (λ ws. left_row (Item (length (in_row 256 f t n os)) m) (sets room 0 ws)) as_row));
            same = record { kind = refl; long = refl; says = same_self pool input f t n os };
          }

  pub lift_back : ReadBack (row_mark (Some lift_bytes) 1 g pool (in_bytes 256 f t n os)) lift_shape pool (in_row 256 f t n os) input room m (read_lift g input room)
  unfolding row_mark read_lift
  lift_back =
      simp (le-ltb _ _ short, le-ltb _ _ any, le-ltb _ _ top, ne_eqb _ _ some)
      (marked (first_mark 1 g pool (plan lift_bytes) (f ∷ n ∷ (os ++ t ∷ [])) 0)
      (shape_back 1 g any lift_bytes pool (in_bytes 256 f t n os) 1 (words-bytes 256 f t n os fw) reaches rest input as_made))

-- ---- written again

words-front : (os ys : List ℕ) → Words (os ++ ys) → Words os
words-front [] ys fw i = omega arith
words-front (a ∷ os) ys fw zero = fw 0
words-front (a ∷ os) ys fw (suc j) = words-front os ys (λ i. fw (suc i)) j

words_row : (k f t n : ℕ) (os : List ℕ) → Words (in_bytes k f t n os) → Words (in_row k f t n os)
words_row k f t n os fw zero = fw 0
words_row k f t n os fw (suc zero) = fw 1
words_row k f t n os fw (suc (suc zero)) =
    subst (λ x. x < 2 ^ 32) (get_or-append-add (k ∷ f ∷ n ∷ os) (t ∷ []) 0 0) (fw (length (k ∷ f ∷ n ∷ os) + 0))
words_row k f t n os fw (suc (suc (suc zero))) = fw 2
words_row k f t n os fw (suc (suc (suc (suc j)))) = words-front os (t ∷ []) (λ i. fw (suc (suc (suc i)))) j

-- a last word, and those before it
snoc : (m : ℕ) (xs : List ℕ) → length xs ≡ m + 1 → xs ≡ take m xs ++ word xs m ∷ []
snoc zero [] l = absurd (omega (arith, l))
snoc zero (a ∷ []) l = refl
snoc zero (a ∷ b ∷ xs) l = absurd (omega (arith, l))
snoc (suc m) [] l = absurd (omega (arith, l))
snoc (suc m) (a ∷ xs) l = ap (λ ys. a ∷ ys) (snoc m xs (omega (arith, l)))

-- words as long as a lift's, as its bytes stand
record Parts (ws : List ℕ) : Type 0 where
  function : ℕ
  type : ℕ
  count : ℕ
  options : List ℕ
  is : ws ≡ in_bytes (word ws 0) function type count options
  long : length options ≡ count * 2

parts : (ws : List ℕ) → length ws ≡ row_width lift_bytes ws 1 → Parts ws
unfolding row_width widths wide
parts [] w = absurd (omega (arith, w))
parts (k ∷ []) w = absurd (omega (arith, w))
parts (k ∷ f ∷ []) w = absurd (omega (arith, w))
parts (k ∷ f ∷ n ∷ xs) w =
    let l : length xs ≡ n * 2 + 1 = omega (arith, w) in
    record {
      function = f;
      type = word xs (n * 2);
      count = n;
      options = take (n * 2) xs;
      is = ap (λ ys. k ∷ f ∷ n ∷ ys) (snoc (n * 2) xs l);
      long = length-take-le (n * 2) xs (omega (arith, l));
    }

-- a lift that was read, and the bytes that were taken
pub record LiftAgain (g : ℕ) (taken row : List ℕ) : Type 0 where
  pub function : ℕ
  pub type : ℕ
  pub count : ℕ
  pub options : List ℕ
  pub is : row ≡ in_row 256 function type count options
  pub small : Words (in_row 256 function type count options)
  pub right : Lifted (in_row 256 function type count options) taken
  pub clear : row_mark (Some lift_bytes) 1 g taken (in_bytes 256 function type count options) ≡ Clear
  pub again : Padded taken (lift (function ∷ type ∷ count ∷ options))

refused : {w : Refusal} {n q e : ℕ} {row after : List ℕ} {A : Type 0} → left_row (Refused w n) row ≡ left_row (Item q e) after → A
refused {w} {n} {q} {e} r =
    let a : Refused w n ≡ Item q e = ap (λ l. l.answer) r in
    impossible cc

module _ (g : ℕ) (input room after : List ℕ) (q e : ℕ) where
  abbrev ws : List ℕ
  ws = filled 256 1 g lift_bytes input

  record Ends : Type 0 where
    low : 1 ≤ g
    top : g ≤ 3
    within : length input ≤ 2 ^ 30
    ends : scanned 1 g lift_bytes input ≡ Fine e q
    short : q ≤ 16384
    fits : q ≤ length room
    leaves : after ≡ sets room 0 (type_third ws)

  lift_ends : read_lift g input room ≡ left_row (Item q e) after → Ends
  unfolding read_lift roomed
  lift_ends r = go (ltb (2 ^ 30) (length input)) (ltb g 1) (ltb 3 g) (eqb (length input) 0) refl refl refl r
    where
      fitting : ltb (2 ^ 30) (length input) ≡ false → ltb g 1 ≡ false → ltb 3 g ≡ false → (l : Leaf) → scanned 1 g lift_bytes input ≡ l
          → roomed l (type_third ws) room ≡ left_row (Item q e) after → Ends
      fitting x y z (Err fault) p r = refused r
      fitting x y z (Ok span) p r = fits (ltb 16384 span.made) (leb span.made (length room)) refl refl r
        where
          fits : (long room-there : Bool) → ltb 16384 span.made ≡ long → leb span.made (length room) ≡ room-there
              → cond long (left_row (Refused refusal.Room span.made) room)
              (cond room-there (left_row (Item span.made span.took) (sets room 0 (type_third ws))) (left_row (Refused refusal.Room span.made) room)) ≡ left_row (Item q e) after
              → Ends
          fits true t u v r = refused r
          fits false false u v r = refused r
          fits false true u v r =
              let item : Item span.made span.took ≡ Item q e = ap (λ l. l.answer) r in
              let eb = (item-same item).0 in
              let ea = (item-same item).1 in
              let s = ltb-false 16384 span.made u in
              let t = leb-true span.made (length room) v in
              record {
                low = ltb-false g 1 y;
                top = ltb-false 3 g z;
                within = ltb-false (2 ^ 30) (length input) x;
                ends = p ∙ (λ i. Fine (ea i) (eb i));
                short = omega (arith, s, eb);
                fits = omega (arith, t, eb);
                leaves = sym (ap (λ l. l.row) r);
              }

      go : (a b c d : Bool) → ltb (2 ^ 30) (length input) ≡ a → ltb g 1 ≡ b → ltb 3 g ≡ c
          → cond a (left_row (Refused refusal.Limit 0) room)
          (cond b (left_row (Refused refusal.Limit 0) room)
          (cond c (left_row (Refused refusal.Limit 0) room)
          (cond d (left_row (Refused refusal.Cut 0) room) (roomed (scanned 1 g lift_bytes input) (type_third ws) room)))) ≡ left_row (Item q e) after
          → Ends
      go true b c d x y z r = refused r
      go false true c d x y z r = refused r
      go false false true d x y z r = refused r
      go false false false true x y z r = refused r
      go false false false false x y z r = fitting x y z (scanned 1 g lift_bytes input) refl r

  pub lift_limits : read_lift g input room ≡ left_row (Item q e) after → (1 ≤ g) × (g ≤ 3) × (length input ≤ 2 ^ 30)
  lift_limits r = let t = lift_ends r in (t.low, t.top, t.within)

  pub lift_only : Bytes input → read_lift g input room ≡ left_row (Item q e) after → e ≤ 65536 → LiftAgain g (take e input) (take q after)
  unfolding row_mark Rights widths wide
  lift_only fi r few =
      let t = lift_ends r in
      let pool = take e input in
      let o = shape_only 256 1 g lift_bytes input e q fi t.low (omega (arith, few)) (omega arith) t.ends in
      let size = length (written lift_bytes pool ws 1) in
      let k : Sized lift_bytes ws 1 pool size =
      record {
        width = sym (judged-ends lift_bytes pool ws 1 q size o.judges) ∙ sym o.long;
        short = omega (arith, t.short, o.long);
        small = omega (arith, length-take e input, few);
        end = q;
        judges = o.judges;
      } in
      let held = row_held lift_bytes ws pool (sized-accepted lift_bytes ws pool size k) in
      let p = parts ws held.width in
      let f = p.function in
      let ty = p.type in
      let n = p.count in
      let os = p.options in
      let there : ws ≡ in_bytes 256 f ty n os = p.is in
      let rights = subst (λ l. Rights pool (all_fields lift_bytes l 1) (drop 1 l)) there held.right in
      let chosen : Choices n os =
      choices_less n os (ty ∷ []) p.long
      (rights-choices pool n (os ++ ty ∷ []) (rights-first pool (repeated n one) (field.Index ∷ []) (os ++ ty ∷ []) rights.1.1.1.1.1)) in
      let long : length (in_row 256 f ty n os) ≡ q = omega (arith, ap length there, length-append os (ty ∷ []), o.long) in
      let right : Lifted (in_row 256 f ty n os) pool =
      record {
        small = omega (arith, length-take e input, few);
        short = omega (arith, long, t.short);
        width = omega (arith, p.long);
        right = chosen;
      } in
      let inside : 0 + length (in_row 256 f ty n os) ≤ length room = omega (arith, long, t.fits) in
      let as_row : type_third ws ≡ in_row 256 f ty n os = ap type_third there ∙ third 256 f ty n os in
      record {
        function = f;
        type = ty;
        count = n;
        options = os;
        is = (λ i. take (sym long i) ((t.leaves ∙ ap (λ l. sets room 0 l) as_row) i)) ∙ sets_back (in_row 256 f ty n os) room 0 inside;
        small = words_row 256 f ty n os (subst Words there o.small);
        right = right;
        clear = ap (λ l. first_mark 1 g pool (plan lift_bytes) (drop 1 l) 0) (sym there) ∙ o.clear;
        again = padded_by (sym (ap (λ l. written lift_bytes pool l 1) there ∙ lift_made 256 f ty n os pool right)) o.again refl;
      }
