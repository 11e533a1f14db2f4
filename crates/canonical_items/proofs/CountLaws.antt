-- Canonicals with options: the index and the count behind the first bytes, the options, and a lift's type.
use Rattle.std.specs.Prelude.{Some, None, Err, Ok}
use Prim.Native.Nat.{ℕ, suc, ◌+◌, ◌-◌, ◌*◌, ◌≤◌}
use native.Mathlib.Omega.{arith}
use native.Mathlib.Nat.{add-zero}
use mathlib.Core.Path.{◌≡◌, refl, sym, ap, ◌∙◌, subst}
use mathlib.Core.Bool.{Bool, true, false, cond}
use mathlib.Core.List.{List, [], ◌∷◌, ◌++◌, append-nil}
use lib.Dec.{ltb, leb}
use lib.ListN.{length, take, drop, set, length-append}
use lib.Seq.{sets, drop-drop}
use borrow.Author.Tests.{leb-true, ltb-false}
use Rattle.numbers.specs.Taken.{Taken}
use Rattle.numbers.specs.Taken as taken
use Rattle.numbers.specs.Leb.{take_unsigned}
use Rattle.fields.specs.declared.Field.{Field}
use Rattle.fields.specs.declared.Field.TheVariants as field
use Rattle.fields.specs.Leaf.{Leaf, Fine}
use Rattle.fields.specs.declared.Shape.{Shape}
use Rattle.fields.specs.inside.Run.{along, makes, after}
use Rattle.fields.specs.inside.Stages.{counted_fields}
use Rattle.fields.specs.Shape.{repeated, widths}
use Rattle.fields.specs.Table.{many_of}
use Rattle.fields.specs.Words.{word, wide}
use Rattle.fields.proofs.RunLaws.{makes-append}
use Rattle.fields.proofs.StageLaws.{walk_staged, outs_staged}
use Rattle.fields.proofs.WidthLaws.{repeated_widths}
use Rattle.reading.specs.Fill.{index, fill}
use Rattle.reading.specs.Read.{scanned, filled}
use Rattle.reading.specs.Scan.{scan_index, scan}
use Rattle.reading.specs.Seen.{roomy}
use Rattle.reading.specs.inside.Try.{Tried}
use Rattle.reading.specs.inside.Try as answer
use Rattle.reading.specs.inside.Stages.{counted_scan, counted_fill}
use Rattle.reading.specs.inside.Steps.{scans, fills, end_of}
use Rattle.reading.specs.inside.Tried.{left_tried, tried}
use Rattle.reading.proofs.ScannedLaws.{tells}
use Rattle.reading.proofs.StepLaws.{Wrong, Loose, Open, scans-any, fills-any, open-append, open-repeated, end_fine, end_wrong}
use Rattle.reading.proofs.TriedLaws.{list_of, counted_none, counted_some, counted_words}
use Rattle.canonical_items.specs.declared.options.Head.{Head}
use Rattle.canonical_items.specs.ReadCanonical.{type_third}
use Rattle.canonical_items.specs.inside.Begun.{Begun}
use Rattle.canonical_items.specs.inside.Short.{Opened, Unopened}
use Rattle.numbers.proofs.Impossible.{impossible}

-- ---- what is tried

pub tried-wrong : (l : Leaf) (ws row : List ℕ) → Wrong l → {r : Tried} → r ≡ None → left_tried r row ≡ tried l ws row
unfolding tried
tried-wrong (Ok span) ws row h e = absurd h
tried-wrong (Err fault) ws row h e = ap (λ r. left_tried r row) e

tried_cramped : (e q : ℕ) (ws row : List ℕ) → roomy q (length row) ≡ false → left_tried None row ≡ tried (Fine e q) ws row
unfolding tried
tried_cramped e q ws row h = rw h

tried-stored : (e q : ℕ) (ws row : List ℕ) → roomy q (length row) ≡ true → left_tried (answer.Item q e) (sets row 0 ws) ≡ tried (Fine e q) ws row
unfolding tried
tried-stored e q ws row h = rw h

pub room_fits : (q n : ℕ) → roomy q n ≡ true → (q ≤ 16384) × (q ≤ n)
unfolding roomy
room_fits q n h = go (ltb 16384 q) (leb q n) refl refl h
  where
    go : (a b : Bool) → ltb 16384 q ≡ a → leb q n ≡ b → cond a false b ≡ true → (q ≤ 16384) × (q ≤ n)
    go true b ea eb h = impossible cc
    go false true ea eb h = (ltb-false 16384 q ea, leb-true q n eb)
    go false false ea eb h = impossible cc

after-wrong : (l : Leaf) (k : ℕ → ℕ → Leaf) → Wrong l → Wrong (after l k)
after-wrong (Ok span) k h = absurd h
after-wrong (Err fault) k h = tt

-- ---- the opening, and what is counted

abbrev pub options : ℕ → List Field
options n = repeated n (field.Choice ∷ field.Nothing ∷ [])

module _ (lead g b : ℕ) (z last : Field) (input : List ℕ) (from : ℕ) (begun : Begun lead g b z input from) (loose : Loose last) where
  abbrev shape : Shape
  shape = many_of (field.Fixed b) z field.Index field.Choice field.Nothing last

  abbrev behind : Shape
  behind = list_of field.Choice field.Nothing last

  opens_wrong : ((n t : ℕ) → take_unsigned (drop from input) ≡ taken.Value n t → ⊥)
      → Wrong (along (scan lead g) (field.Index ∷ field.Nothing ∷ []) (drop from input) from 1)
  unfolding along scan scan_index
  opens_wrong h = go (take_unsigned (drop from input)) refl
    where
      go : (x : Taken) → take_unsigned (drop from input) ≡ x
          → Wrong (along (scan lead g) (field.Index ∷ field.Nothing ∷ []) (drop from input) from 1)
      go (Ok got) e = absurd (h got.value got.took e)
      go taken.Cut e = rw e tt
      go taken.Bad e = rw e tt

  opens_right : (n t : ℕ) → take_unsigned (drop from input) ≡ taken.Value n t
      → along (scan lead g) (field.Index ∷ field.Nothing ∷ []) (drop from input) from 1 ≡ Fine (from + t) 2
  unfolding along scan scan_index
  opens_right n t e = rw (e, add-zero (from + t))

  staged : scanned lead g shape input
      ≡ after (along (scan lead g) (field.Index ∷ field.Nothing ∷ []) (drop from input) from 1)
      (λ at made. counted_scan lead g shape input at made)
  staged =
      walk_staged (tells lead g input) shape 0 1
      ∙ ap (λ l. after l (λ at made. counted_scan lead g shape input at made)) (begun.scan_is (field.Index ∷ field.Nothing ∷ []))

  all_open_lem : (n : ℕ) → Open (counted_fields behind n)
  all_open_lem n = (tt, open-append (options n) (last ∷ []) (open-repeated n (field.Choice ∷ field.Nothing ∷ []) (tt, (tt, tt))) (loose, tt))

  whole : (n t : ℕ) → take_unsigned (drop from input) ≡ taken.Value n t → scanned lead g shape input ≡ counted_scan 1 g behind input (from + t) 2
  whole n t e =
      staged ∙ ap (λ l. after l (λ at made. counted_scan lead g shape input at made)) (opens_right n t e)
      ∙ scans-any lead g (counted_fields behind (index (drop (from + t) input))) (drop (from + t) input) (from + t) 2
      (all_open_lem (index (drop (from + t) input)))

  words_of : (n t : ℕ) → take_unsigned (drop from input) ≡ taken.Value n t → (fs : List Field)
      → makes (scan lead g) (fill g) (field.Index ∷ field.Nothing ∷ fs) from (drop from input)
      ≡ n ∷ makes (scan lead g) (fill g) fs (from + t) (drop (from + t) input)
  unfolding makes fill scan scan_index
  words_of n t e fs = rw (e, drop-drop t from input, add-zero (from + t))

  whole_words : (n t : ℕ) → take_unsigned (drop from input) ≡ taken.Value n t → (kind : ℕ)
      → filled kind lead g shape input ≡ kind ∷ n ∷ counted_fill 1 g behind input (from + t)
  whole_words n t e kind =
      ap (λ ws. kind ∷ ws)
      (outs_staged (tells lead g input) shape 0 1 (from + t) 2 (begun.scan_is (field.Index ∷ field.Nothing ∷ []) ∙ opens_right n t e)
      ∙ begun.fill_is (field.Index ∷ field.Nothing ∷ counted_fields shape (index (drop (from + t) input)))
      ∙ words_of n t e (counted_fields shape (index (drop (from + t) input)))
      ∙ ap (λ ws. n ∷ ws)
      (fills-any lead g (counted_fields behind (index (drop (from + t) input))) (from + t) (drop (from + t) input)
      (all_open_lem (index (drop (from + t) input)))))

  -- no index or no count
  pub unopened : Unopened input from → Wrong (scanned lead g shape input)
  unopened h = go (take_unsigned (drop from input)) refl
    where
      go : (x : Taken) → take_unsigned (drop from input) ≡ x → Wrong (scanned lead g shape input)
      go (Ok got) e =
          let k = counted_none 1 g behind input (from + got.took) 2 (λ m u d. h got.value got.took m u e d) in
          subst Wrong (sym (whole got.value got.took e ∙ k.2)) tt
      go taken.Cut e = subst Wrong (sym staged) (after-wrong (along (scan lead g) (field.Index ∷ field.Nothing ∷ []) (drop from input) from 1) (λ at made. counted_scan lead g shape input at made) (opens_wrong (λ n t d. no (sym e ∙ d))))
        where
          no : {n t : ℕ} → taken.Cut ≡ taken.Value n t → ⊥
          no d = impossible cc
      go taken.Bad e = subst Wrong (sym staged) (after-wrong (along (scan lead g) (field.Index ∷ field.Nothing ∷ []) (drop from input) from 1) (λ at made. counted_scan lead g shape input at made) (opens_wrong (λ n t d. no (sym e ∙ d))))
        where
          no : {n t : ℕ} → taken.Bad ≡ taken.Value n t → ⊥
          no d = impossible cc

  module _ (r : Head) (o : Opened input from r) where
    counted : scanned lead g shape input
        ≡ after (scans g input (options r.count) r.next 3) (λ a m. along (scan 1 g) (last ∷ []) (drop a input) a m)
    counted =
        whole r.index o.t o.first ∙ counted_some 1 g behind input (from + o.t) 2 r.count o.u o.second
        ∙ ap (λ j. after (scans g input (options r.count) j 3) (λ a m. along (scan 1 g) (last ∷ []) (drop a input) a m)) (sym o.ends)

    -- an option is not right
    pub options_wrong : end_of (scans g input (options r.count) r.next 0) ≡ None → Wrong (scanned lead g shape input)
    options_wrong e =
        subst Wrong (sym counted)
        (after-wrong (scans g input (options r.count) r.next 3) (λ a m. along (scan 1 g) (last ∷ []) (drop a input) a m)
        (end_wrong g input (options r.count) r.next 3 e))

    module _ (end : ℕ) (right : end_of (scans g input (options r.count) r.next 0) ≡ Some end) where
      fine : (made : ℕ) → scans g input (options r.count) r.next made ≡ Fine end (made + r.count * 2)
      unfolding widths wide
      fine made =
          end_fine g input (options r.count) r.next made end right
          ∙ ap (λ w. Fine end (made + w)) (repeated_widths (field.Choice ∷ field.Nothing ∷ []) r.count)

      -- they are
      pub options_right : scanned lead g shape input ≡ scans g input (last ∷ []) end (3 + r.count * 2)
      options_right = counted ∙ ap (λ l. after l (λ a m. along (scan 1 g) (last ∷ []) (drop a input) a m)) (fine 3)

      pub options_words : (kind : ℕ) → filled kind lead g shape input
          ≡ kind ∷ r.index ∷ r.count ∷ (fills g input (options r.count) r.next ++ fills g input (last ∷ []) end)
      options_words kind =
          whole_words r.index o.t o.first kind
          ∙ ap (λ ws. kind ∷ r.index ∷ ws)
          (counted_words 1 g behind input (from + o.t) r.count o.u o.second
          ∙ ap (λ j. r.count ∷ makes (scan 1 g) (fill g) (options r.count ++ last ∷ []) j (drop j input)) (sym o.ends)
          ∙ ap (λ ws. r.count ∷ ws)
          (makes-append (scan 1 g) (fill g) (options r.count) (last ∷ []) input r.next 0 end (0 + r.count * 2) (fine 0)))

-- ---- options alone

module _ (lead g b : ℕ) (z : Field) (input : List ℕ) (from : ℕ) (begun : Begun lead g b z input from) (r : Head) (o : Opened input from r)
    (end : ℕ) (right : end_of (scans g input (options r.count) r.next 0) ≡ Some end) where
  abbrev alone : Shape
  alone = many_of (field.Fixed b) z field.Index field.Choice field.Nothing field.Nothing

  alone_leaf : scanned lead g alone input ≡ Fine end (3 + r.count * 2)
  unfolding along scan
  alone_leaf =
      options_right lead g b z field.Nothing input from begun tt r o end right
      ∙ (let p : end + 0 ≡ end = add-zero _ in
      let q : 3 + r.count * 2 + 0 ≡ 3 + r.count * 2 = omega arith in
      λ i. Fine (p i) (q i))

  alone_words : (kind : ℕ) → filled kind lead g alone input ≡ kind ∷ r.index ∷ r.count ∷ fills g input (options r.count) r.next
  unfolding makes fill
  alone_words kind =
      options_words lead g b z field.Nothing input from begun tt r o end right kind
      ∙ ap (λ ws. kind ∷ r.index ∷ r.count ∷ ws) (append-nil (fills g input (options r.count) r.next))

  pub alone_cramped : (kind : ℕ) (row : List ℕ) → roomy (3 + r.count * 2) (length row) ≡ false
      → left_tried None row ≡ tried (scanned lead g alone input) (filled kind lead g alone input) row
  alone_cramped kind row h =
      tried_cramped end (3 + r.count * 2) (filled kind lead g alone input) row h
      ∙ ap (λ l. tried l (filled kind lead g alone input) row) (sym alone_leaf)

  pub alone_done : (kind : ℕ) (row new : List ℕ) → roomy (3 + r.count * 2) (length row) ≡ true
      → new ≡ sets (set (set (set row 0 kind) 1 r.index) 2 r.count) 3 (fills g input (options r.count) r.next)
      → left_tried (answer.Item (3 + r.count * 2) end) new ≡ tried (scanned lead g alone input) (filled kind lead g alone input) row
  alone_done kind row new h e =
      let ws : List ℕ = kind ∷ r.index ∷ r.count ∷ fills g input (options r.count) r.next in
      ap (λ l. left_tried (answer.Item (3 + r.count * 2) end) l) e
      ∙ tried-stored end (3 + r.count * 2) ws row h
      ∙ ap (λ l. tried l ws row) (sym alone_leaf)
      ∙ ap (λ l. tried (scanned lead g alone input) l row) (sym (alone_words kind))

-- ---- a lift: its type behind the options, and third in the row

get_last : (ws : List ℕ) (x : ℕ) → word (ws ++ x ∷ []) (length ws) ≡ x
get_last [] x = refl
get_last (w ∷ ws) x = get_last ws x

take_all : (ws vs : List ℕ) → take (length ws) (ws ++ vs) ≡ ws
take_all [] vs = refl
take_all (w ∷ ws) vs = ap (λ l. w ∷ l) (take_all ws vs)

third : (a b c x : ℕ) (ws : List ℕ) → type_third (a ∷ b ∷ c ∷ (ws ++ x ∷ [])) ≡ a ∷ b ∷ x ∷ c ∷ ws
unfolding type_third
third a b c x ws =
    let m : List ℕ = a ∷ b ∷ c ∷ (ws ++ x ∷ []) in
    let size : length (ws ++ x ∷ []) ≡ length ws + 1 = length-append ws (x ∷ []) in
    let p : length m - 1 ≡ suc (suc (suc (length ws))) = omega (arith, size) in
    let q : length m - 3 ≡ suc (length ws) = omega (arith, size) in
    ap (λ j. a ∷ b ∷ word m j ∷ take (length m - 3) (drop 2 m)) p
    ∙ ap (λ j. a ∷ b ∷ word (ws ++ x ∷ []) (length ws) ∷ take j (drop 2 m)) q
    ∙ ap (λ y. a ∷ b ∷ y ∷ c ∷ take (length ws) (ws ++ x ∷ [])) (get_last ws x)
    ∙ ap (λ l. a ∷ b ∷ x ∷ c ∷ l) (take_all ws (x ∷ []))

module _ (g : ℕ) (input : List ℕ) (from : ℕ) (begun : Begun 1 g 0 (field.Fixed 0) input from) (r : Head) (o : Opened input from r)
    (end : ℕ) (right : end_of (scans g input (options r.count) r.next 0) ≡ Some end) where
  abbrev lifted : Shape
  lifted = many_of (field.Fixed 0) (field.Fixed 0) field.Index field.Choice field.Nothing field.Index

  lift_last : scanned 1 g lifted input ≡ scans g input (field.Index ∷ []) end (3 + r.count * 2)
  lift_last = options_right 1 g 0 (field.Fixed 0) field.Index input from begun tt r o end right

  -- no type
  pub lift_open : ((n t : ℕ) → take_unsigned (drop end input) ≡ taken.Value n t → ⊥) → (ws row : List ℕ) {r : Tried} → r ≡ None
      → left_tried r row ≡ tried (scanned 1 g lifted input) ws row
  unfolding along scan scan_index
  lift_open h ws row z = tried-wrong (scanned 1 g lifted input) ws row (subst Wrong (sym lift_last) (go (take_unsigned (drop end input)) refl)) z
    where
      go : (x : Taken) → take_unsigned (drop end input) ≡ x → Wrong (scans g input (field.Index ∷ []) end (3 + r.count * 2))
      go (Ok got) e = absurd (h got.value got.took e)
      go taken.Cut e = rw e tt
      go taken.Bad e = rw e tt

  module _ (n t : ℕ) (e : take_unsigned (drop end input) ≡ taken.Value n t) where
    lift_leaf : scanned 1 g lifted input ≡ Fine (end + t) (4 + r.count * 2)
    unfolding along scan scan_index
    lift_leaf =
        let sum : 3 + r.count * 2 + 1 ≡ 4 + r.count * 2 = omega arith in
        lift_last ∙ rw e (ap (λ j. Fine (end + t) j) sum)

    type_words : fills g input (field.Index ∷ []) end ≡ n ∷ []
    unfolding makes fill
    type_words = rw e

    lift_words_lem : type_third (filled 256 1 g lifted input) ≡ 256 ∷ r.index ∷ n ∷ r.count ∷ fills g input (options r.count) r.next
    lift_words_lem =
        let ws = fills g input (options r.count) r.next in
        ap type_third
        (options_words 1 g 0 (field.Fixed 0) field.Index input from begun tt r o end right 256
        ∙ ap (λ l. 256 ∷ r.index ∷ r.count ∷ (ws ++ l)) type_words)
        ∙ third 256 r.index r.count n ws

    pub lift_cramped : (row : List ℕ) → roomy (4 + r.count * 2) (length row) ≡ false
        → left_tried None row ≡ tried (scanned 1 g lifted input) (type_third (filled 256 1 g lifted input)) row
    lift_cramped row h =
        tried_cramped (end + t) (4 + r.count * 2) (type_third (filled 256 1 g lifted input)) row h
        ∙ ap (λ l. tried l (type_third (filled 256 1 g lifted input)) row) (sym lift_leaf)

    pub lift_done : (row new : List ℕ) → roomy (4 + r.count * 2) (length row) ≡ true
        → new ≡ sets (set (set (set (set row 0 256) 1 r.index) 2 n) 3 r.count) 4 (fills g input (options r.count) r.next)
        → left_tried (answer.Item (4 + r.count * 2) (end + t)) new
        ≡ tried (scanned 1 g lifted input) (type_third (filled 256 1 g lifted input)) row
    lift_done row new h d =
        let ws : List ℕ = 256 ∷ r.index ∷ n ∷ r.count ∷ fills g input (options r.count) r.next in
        ap (λ l. left_tried (answer.Item (4 + r.count * 2) (end + t)) l) d
        ∙ tried-stored (end + t) (4 + r.count * 2) ws row h
        ∙ ap (λ l. tried l ws row) (sym lift_leaf)
        ∙ ap (λ l. tried (scanned 1 g lifted input) l row) (sym lift_words_lem)
