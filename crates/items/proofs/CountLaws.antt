-- Types with a count read in straight code: the count, its groups and a function's result, from the steps and shapes of `reading`.
use Rattle.std.specs.Prelude.{Err, Ok, Option, Some, None}
use Prim.Native.Nat.{ℕ, suc, ◌+◌, ◌-◌, ◌*◌, ◌≤◌, ◌<◌, ◌^◌}
use native.Mathlib.Omega.{arith}
use native.Mathlib.Nat.{add-zero, mul-le-mul}
use mathlib.Core.Path.{◌≡◌, refl, sym, ap, ◌∙◌, subst}
use mathlib.Core.Bool.{Bool, true, false, cond}
use mathlib.Core.List.{List, [], ◌∷◌, ◌++◌, append-nil}
use lib.Dec.{ltb, leb}
use lib.ListN.{length, take, drop, set, length-drop}
use lib.Seq.{sets}
use borrow.Author.Tests.{leb-true, ltb-false}
use Rattle.numbers.specs.declared.leb.Number.{Number}
use Rattle.numbers.specs.Taken as taken
use Rattle.numbers.specs.Integers.{u32}
use Rattle.numbers.specs.Leb.{take_unsigned}
use Rattle.numbers.specs.Seen.{seen}
use Rattle.numbers.proofs.BytesLaws.{to_end, sets_append}
use Rattle.numbers.proofs.SeenLaws.{seen-some, seen_none}
use Rattle.fields.specs.declared.Field.{Field}
use Rattle.fields.specs.declared.Field.TheVariants as field
use Rattle.fields.specs.Leaf.{Leaf, Fine}
use Rattle.fields.specs.declared.Shape.{Shape}
use Rattle.reading.specs.Fill.{fill}
use Rattle.fields.specs.Words.{wide}
use Rattle.reading.specs.Read.{scanned, filled}
use Rattle.reading.specs.inside.Stages.{counted_scan, counted_fill}
use Rattle.fields.specs.inside.Run.{along, makes, after}
use Rattle.reading.specs.Scan.{scan}
use Rattle.fields.specs.Shape.{group, closing, repeated, widths}
use Rattle.fields.specs.Walk.{next}
use Rattle.reading.proofs.FilledLaws.{fills_count}
use Rattle.fields.proofs.RunLaws.{makes-append}
use Rattle.fields.proofs.WidthLaws.{repeated_widths, widths-small}
use Rattle.reading.specs.declared.Pair.{Pair}
use Rattle.reading.specs.inside.Try as answer
use Rattle.reading.specs.Seen.{pair, roomy}
use Rattle.reading.specs.inside.Steps.{scans, fills, end_of}
use Rattle.reading.specs.inside.Tried.{LeftTried, left_tried, tried}
use Rattle.reading.proofs.StepLaws.{Wrong, fill_at, pair-some, pair_none, end_fine, end_wrong}
use Rattle.reading.proofs.TriedLaws.{async_scanned, async_filled, counted_none, counted_some, counted_words, list_of}
use Rattle.items.specs.inside.Group.{group_of, counted_of}
use Rattle.types.specs.inside.Function.{function_shape}
use Rattle.numbers.proofs.Impossible.{impossible}

-- ---- what is not right

-- an item that is not right is not read
pub tried-wrong : (l : Leaf) (ws row : List ℕ) → Wrong l → left_tried None row ≡ tried l ws row
unfolding tried
tried-wrong (Ok span) ws row h = absurd h
tried-wrong (Err fault) ws row h = refl

-- one that is, where it has no room
tried_cramped : (e q : ℕ) (ws row : List ℕ) → roomy q (length row) ≡ false → left_tried None row ≡ tried (Fine e q) ws row
unfolding tried
tried_cramped e q ws row h = rw h

-- and where it has
tried-stored : (e q : ℕ) (ws row : List ℕ) → roomy q (length row) ≡ true → left_tried (answer.Item q e) (sets row 0 ws) ≡ tried (Fine e q) ws row
unfolding tried
tried-stored e q ws row h = rw h

after-wrong : (l : Leaf) (k : ℕ → ℕ → Leaf) → Wrong l → Wrong (after l k)
after-wrong (Ok span) k h = absurd h
after-wrong (Err fault) k h = tt

-- fields of which the first is not right
scans-wrong : (g : ℕ) (input : List ℕ) (f : Field) (fs : List Field) (at made : ℕ) → Wrong (scan 1 g f (drop at input))
    → Wrong (scans g input (f ∷ fs) at made)
unfolding along
scans-wrong g input f fs at made h = go (scan 1 g f (drop at input)) h
  where
    go : (l : Leaf) → Wrong l → Wrong (next l (λ t m. along (scan 1 g) fs (drop t (drop at input)) (at + t) (made + m)) at)
    go (Ok span) h = absurd h
    go (Err fault) h = tt

-- one field that is right, and one that is absent
scans-one : (g : ℕ) (input : List ℕ) (f : Field) (at made t m : ℕ) → scan 1 g f (drop at input) ≡ Fine t m
    → scans g input (f ∷ []) at made ≡ Fine (at + t) (made + m)
unfolding along
scans-one g input f at made t m e = ap (λ l. next l (λ t m. Fine (at + t) (made + m)) at) e

scans_nothing : (g : ℕ) (input : List ℕ) (at made : ℕ) → scans g input (field.Nothing ∷ []) at made ≡ Fine at made
unfolding along scan
scans_nothing g input at made = rw (add-zero at, add-zero made)

-- the words of one field
fills_one : (g : ℕ) (input : List ℕ) (f : Field) (at : ℕ) → fills g input (f ∷ []) at ≡ fill g f at (drop at input)
unfolding makes
fills_one g input f at = append-nil (fill g f at (drop at input))

-- what has room
pub room_fits : (q n : ℕ) → roomy q n ≡ true → (q ≤ 16384) × (q ≤ n)
unfolding roomy
room_fits q n h = go (ltb 16384 q) (leb q n) refl refl h
  where
    go : (a b : Bool) → ltb 16384 q ≡ a → leb q n ≡ b → cond a false b ≡ true → (q ≤ 16384) × (q ≤ n)
    go true b ea eb h = impossible cc
    go false true ea eb h = (ltb-false 16384 q ea, leb-true q n eb)
    go false false ea eb h = impossible cc

-- a group has few words
pub group-words : (kind n w : ℕ) → w ≡ widths (group_of kind) → n < 2 ^ 32 → n * w ≤ 2 ^ 32 * 22
group-words kind n w e h =
    let k : widths (group_of kind) ≤ 22 = widths-small (group_of kind) in
    mul-le-mul {n₂ = 2 ^ 32} {m₂ = 22} (omega arith) (omega (arith, e, k))

-- ---- what is counted

-- the count that a step saw, lent the input from its second byte on, and the result that one saw, lent it from its place on
pub count_there : (input : List ℕ) {o p : Option Number} → o ≡ p → o ≡ seen (take_unsigned (take (length input - 1) (drop 1 input)))
    → p ≡ seen (take_unsigned (drop 1 input))
count_there input was is = sym was ∙ is ∙ ap (λ (s : List ℕ). seen (take_unsigned s)) (to_end input 1)

pub result_there : (g : ℕ) (input : List ℕ) (end : ℕ) {o p : Option Pair} → o ≡ p
    → o ≡ pair g field.Result (take (length input - end) (drop end input)) → p ≡ pair g field.Result (drop end input)
result_there g input end was is = sym was ∙ is ∙ ap (λ (s : List ℕ). pair g field.Result s) (to_end input end)

-- no count
pub count_cut : (g : ℕ) (input : List ℕ) → None ≡ seen (take_unsigned (drop 1 input)) → (s : Shape) (made : ℕ) (ws row : List ℕ)
    → left_tried None row ≡ tried (counted_scan 1 g s input 1 made) ws row
count_cut g input is s made ws row =
    let k = counted_none 1 g s input 1 made (seen_none (take_unsigned (drop 1 input)) (sym is)) in
    tried-wrong _ ws row (subst Wrong (sym k.2) tt)

module _ (g : ℕ) (input : List ℕ) (count : Number) (is : Some count ≡ seen (take_unsigned (drop 1 input))) where
  -- the count, which has few bytes
  pub count_seen : (take_unsigned (drop 1 input) ≡ taken.Value count.value count.took) × (0 < count.took) × (count.took ≤ 5)
      × (count.took ≤ length (drop 1 input)) × (count.value < 2 ^ 32)
  count_seen = seen-some u32 (drop 1 input) count (sym is)

  -- its end lies inside the input
  pub count_inside : 1 + count.took ≤ length input
  count_inside = omega (arith, count_seen.1, count_seen.3, length-drop 1 input)

  module _ (s : Shape) (made : ℕ) where
    abbrev ends : Option ℕ
    ends = end_of (scans g input (repeated count.value (group s)) (1 + count.took) 0)

    -- groups of which one is not right
    pub groups_wrong : (ws row : List ℕ) → None ≡ ends → left_tried None row ≡ tried (counted_scan 1 g s input 1 made) ws row
    groups_wrong ws row e =
        let fs = repeated count.value (group s) in
        let wrong : Wrong (scans g input fs (1 + count.took) (made + 1)) = end_wrong g input fs (1 + count.took) (made + 1) (sym e) in
        tried-wrong (counted_scan 1 g s input 1 made) ws row
        (subst Wrong (sym (counted_some 1 g s input 1 made count.value count.took count_seen.0))
        (after-wrong (scans g input fs (1 + count.took) (made + 1)) (λ b k. along (scan 1 g) (closing s) (drop b input) b k) wrong))

    module _ (end : ℕ) (ended : Some end ≡ ends) where
      -- groups that are right, and what follows them
      pub groups_right : counted_scan 1 g s input 1 made ≡ scans g input (closing s) end (made + 1 + count.value * widths (group s))
      groups_right =
          counted_some 1 g s input 1 made count.value count.took count_seen.0
          ∙ ap (λ l. after l (λ b k. along (scan 1 g) (closing s) (drop b input) b k))
          (end_fine g input (repeated count.value (group s)) (1 + count.took) (made + 1) end (sym ended))
          ∙ ap (λ w. scans g input (closing s) end (made + 1 + w)) (repeated_widths (group s) count.value)

      -- the count, and their words
      pub groups_filled : counted_fill 1 g s input 1
          ≡ count.value ∷ (fills g input (repeated count.value (group s)) (1 + count.took) ++ fills g input (closing s) end)
      groups_filled =
          counted_words 1 g s input 1 count.value count.took count_seen.0
          ∙ ap (λ ws. count.value ∷ ws)
          (makes-append (scan 1 g) (fill g) (repeated count.value (group s)) (closing s) input (1 + count.took) 0 end _
          (end_fine g input (repeated count.value (group s)) (1 + count.took) 0 end (sym ended)))

      -- how many words the groups have
      pub groups_length : length (fills g input (repeated count.value (group s)) (1 + count.took)) ≡ count.value * widths (group s)
      groups_length =
          let fs = repeated count.value (group s) in
          let k = fills_count 1 g input fs (1 + count.took) 0 end _ (end_fine g input fs (1 + count.took) 0 end (sym ended)) in
          let w = repeated_widths (group s) count.value in
          omega (arith, k, w)

  -- a count and groups alone
  module _ (kind : ℕ) where
    pub counted_wrong : (row : List ℕ) → None ≡ end_of (scans g input (repeated count.value (group_of kind)) (1 + count.took) 0)
        → left_tried None row
        ≡ tried (counted_scan 1 g (counted_of kind) input 1 1) (kind ∷ counted_fill 1 g (counted_of kind) input 1) row
    counted_wrong row e = groups_wrong (counted_of kind) 1 _ row e

    module _ (end words : ℕ) (ended : Some end ≡ end_of (scans g input (repeated count.value (group_of kind)) (1 + count.took) 0))
        (sum : words ≡ 2 + count.value * widths (group_of kind)) where
      counted_leaf : counted_scan 1 g (counted_of kind) input 1 1 ≡ Fine end words
      counted_leaf =
          groups_right (counted_of kind) 1 end ended
          ∙ scans_nothing g input _ _
          ∙ ap (λ n. Fine end n) (sym sum)

      counted_row : kind ∷ counted_fill 1 g (counted_of kind) input 1
          ≡ kind ∷ count.value ∷ fills g input (repeated count.value (group_of kind)) (1 + count.took)
      unfolding makes fill
      counted_row =
          ap (λ ws. kind ∷ ws) (groups_filled (counted_of kind) 1 end ended)
          ∙ ap (λ ws. kind ∷ count.value ∷ ws) (append-nil (fills g input (repeated count.value (group_of kind)) (1 + count.took)))

      pub counted_cramped : (row : List ℕ) → roomy words (length row) ≡ false
          → left_tried None row
          ≡ tried (counted_scan 1 g (counted_of kind) input 1 1) (kind ∷ counted_fill 1 g (counted_of kind) input 1) row
      counted_cramped row r =
          tried_cramped end words _ row r
          ∙ ap (λ l. tried l (kind ∷ counted_fill 1 g (counted_of kind) input 1) row) (sym counted_leaf)

      pub counted_done : (row new : List ℕ) → roomy words (length row) ≡ true
          → new ≡ sets (set (set row 0 kind) 1 count.value) 2 (fills g input (repeated count.value (group_of kind)) (1 + count.took))
          → left_tried (answer.Item words end) new
          ≡ tried (counted_scan 1 g (counted_of kind) input 1 1) (kind ∷ counted_fill 1 g (counted_of kind) input 1) row
      counted_done row new r e =
          let ws = kind ∷ count.value ∷ fills g input (repeated count.value (group_of kind)) (1 + count.took) in
          ap (λ l. left_tried (answer.Item words end) l) e
          ∙ tried-stored end words ws row r
          ∙ ap (λ l. tried l ws row) (sym counted_leaf)
          ∙ ap (λ l. tried (counted_scan 1 g (counted_of kind) input 1 1) l row) (sym counted_row)

-- ---- a function

module _ (g a : ℕ) (input : List ℕ) (first : scan 1 g field.Async input ≡ Fine 1 1) (word : fill g field.Async 0 input ≡ a ∷ []) where
  abbrev behind : Shape
  behind = list_of field.Name field.Value field.Result

  abbrev params : ℕ → List Field
  params n = repeated n (field.Name ∷ field.Value ∷ [])

  -- what is read of it behind its first byte
  function_as : (ws row : List ℕ) {l : LeftTried} → l ≡ tried (counted_scan 1 g behind input 1 2) ws row
      → ws ≡ 15 ∷ a ∷ counted_fill 1 g behind input 1
      → l ≡ tried (scanned 1 g function_shape input) (filled 15 1 g function_shape input) row
  function_as ws row e w =
      e ∙ ap (λ x. tried x ws row) (sym (async_scanned 1 g field.Async field.Name field.Value field.Result input first))
      ∙ ap (λ x. tried (scanned 1 g function_shape input) x row)
      (w ∙ ap (λ x. 15 ∷ (x ++ counted_fill 1 g behind input 1)) (sym word)
      ∙ sym (async_filled 1 g field.Async field.Name field.Value field.Result input first 15))

  -- no count
  pub function_cut : (row : List ℕ) → None ≡ seen (take_unsigned (drop 1 input))
      → left_tried None row ≡ tried (scanned 1 g function_shape input) (filled 15 1 g function_shape input) row
  function_cut row is = function_as _ row (count_cut g input is behind 2 _ row) refl

  module _ (count : Number) (is : Some count ≡ seen (take_unsigned (drop 1 input))) where
    -- parameters of which one is not right
    pub function_wrong : (row : List ℕ) → None ≡ end_of (scans g input (params count.value) (1 + count.took) 0)
        → left_tried None row ≡ tried (scanned 1 g function_shape input) (filled 15 1 g function_shape input) row
    function_wrong row e = function_as _ row (groups_wrong g input count is behind 2 _ row e) refl

    module _ (end : ℕ) (ended : Some end ≡ end_of (scans g input (params count.value) (1 + count.took) 0)) where
      -- what follows them
      function_leaf : counted_scan 1 g behind input 1 2 ≡ scans g input (field.Result ∷ []) end (3 + count.value * 4)
      unfolding widths wide
      function_leaf = groups_right g input count is behind 2 end ended

      -- no result
      pub function_open : (row : List ℕ) → None ≡ pair g field.Result (drop end input)
          → left_tried None row ≡ tried (scanned 1 g function_shape input) (filled 15 1 g function_shape input) row
      function_open row e =
          function_as (15 ∷ a ∷ counted_fill 1 g behind input 1) row
          (tried-wrong _ (15 ∷ a ∷ counted_fill 1 g behind input 1) row
          (subst Wrong (sym function_leaf)
          (scans-wrong g input field.Result [] end (3 + count.value * 4) (pair_none g field.Result (drop end input) (sym e)))))
          refl

      module _ (last : Pair) (result : Some last ≡ pair g field.Result (drop end input)) where
        function_whole : counted_scan 1 g behind input 1 2 ≡ Fine (end + last.took) (5 + count.value * 4)
        unfolding wide
        function_whole =
            let sum : 3 + count.value * 4 + 2 ≡ 5 + count.value * 4 = omega arith in
            function_leaf
            ∙ scans-one g input field.Result end (3 + count.value * 4) last.took 2
            (pair-some g field.Result (drop end input) refl last (sym result)).0
            ∙ ap (λ n. Fine (end + last.took) n) sum

        function_words : 15 ∷ a ∷ count.value ∷ (fills g input (params count.value) (1 + count.took) ++ last.a ∷ last.b ∷ [])
            ≡ 15 ∷ a ∷ counted_fill 1 g behind input 1
        unfolding wide
        function_words =
            let ws = fills g input (params count.value) (1 + count.took) in
            let tail : fills g input (field.Result ∷ []) end ≡ last.a ∷ last.b ∷ [] =
            fills_one g input field.Result end ∙ fill_at g field.Result end (drop end input) tt
            ∙ (pair-some g field.Result (drop end input) refl last (sym result)).1 in
            sym
            (ap (λ l. 15 ∷ a ∷ l) (groups_filled g input count is behind 2 end ended)
            ∙ ap (λ l. 15 ∷ a ∷ count.value ∷ (ws ++ l)) tail)

        -- no room
        pub function_cramped : (row : List ℕ) → roomy (5 + count.value * 4) (length row) ≡ false
            → left_tried None row ≡ tried (scanned 1 g function_shape input) (filled 15 1 g function_shape input) row
        function_cramped row r =
            function_as _ row
            (tried_cramped (end + last.took) (5 + count.value * 4) _ row r
            ∙ ap (λ l. tried l (15 ∷ a ∷ counted_fill 1 g behind input 1) row) (sym function_whole))
            refl

        -- all of it stored
        pub function_done : (row mid : List ℕ) → roomy (5 + count.value * 4) (length row) ≡ true
            → mid ≡ sets (set (set (set row 0 15) 1 a) 2 count.value) 3 (fills g input (params count.value) (1 + count.took))
            → left_tried (answer.Item (5 + count.value * 4) (end + last.took))
            (set (set mid (3 + count.value * 4) last.a) (4 + count.value * 4) last.b)
            ≡ tried (scanned 1 g function_shape input) (filled 15 1 g function_shape input) row
        unfolding widths wide
        function_done row mid r e =
            let ws = fills g input (params count.value) (1 + count.took) in
            let base = set (set (set row 0 15) 1 a) 2 count.value in
            let size : length ws ≡ count.value * 4 = groups_length g input count is behind 2 end ended in
            let place : 3 + count.value * 4 ≡ 3 + length ws = ap (λ n. 3 + n) (sym size) in
            let next_place : 4 + count.value * 4 ≡ suc (3 + length ws) = omega (arith, size) in
            let words : List ℕ = 15 ∷ a ∷ count.value ∷ (ws ++ last.a ∷ last.b ∷ []) in
            let kept : set (set mid (3 + count.value * 4) last.a) (4 + count.value * 4) last.b ≡ sets row 0 words =
            ap (λ l. set (set l (3 + count.value * 4) last.a) (4 + count.value * 4) last.b) e
            ∙ ap (λ n. set (set (sets base 3 ws) n last.a) (4 + count.value * 4) last.b) place
            ∙ ap (λ n. set (set (sets base 3 ws) (3 + length ws) last.a) n last.b) next_place
            ∙ sets_append ws (last.a ∷ last.b ∷ []) base 3 in
            function_as words row
            (ap (λ l. left_tried (answer.Item (5 + count.value * 4) (end + last.took)) l) kept
            ∙ tried-stored (end + last.took) (5 + count.value * 4) words row r
            ∙ ap (λ l. tried l words row) (sym function_whole))
            function_words

-- a result that is right lies inside the input
pub result_inside : (g : ℕ) (input : List ℕ) (end : ℕ) (last : Pair) → Some last ≡ pair g field.Result (drop end input)
    → last.took ≤ length input
unfolding wide
result_inside g input end last e =
    let k = (pair-some g field.Result (drop end input) refl last (sym e)).2 in
    omega (arith, k, length-drop end input)
