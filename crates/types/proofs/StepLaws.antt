-- The steps of an open function: words from 0 on are a row behind a kind, and so the laws of rows are theirs.
use Rattle.std.specs.Prelude.{Some}
use Rattle.std.specs.Prelude.{Err, Ok}
use Prim.Native.Nat.{ℕ, ◌+◌, ◌*◌, ◌≤◌, ◌<◌}
use native.Mathlib.Omega.{arith}
use mathlib.Core.Path.{◌≡◌, refl, sym, ap, ◌∙◌, subst}
use mathlib.Core.Bool.{Bool, true, false, cond}
use mathlib.Core.List.{List, [], ◌∷◌, ◌++◌, append-nil}
use borrow.Author.Tests.{leb-false, lt-leb, le-leb, lt-ltb, le-ltb, eq-eqb}
use lib.Dec.{eqb}
use lib.ListN.{length, drop}
use lib.Seq.{sets}
use Rattle.numbers.specs.Bytes as storing
use Rattle.numbers.specs.Bytes.{store}
use Rattle.numbers.specs.Leb.{unsigned}
use Rattle.numbers.specs.Numbers.{value_of}
use Rattle.numbers.specs.Stored.{Stored}
use Rattle.fields.specs.Answer.{Answer}
use Rattle.fields.specs.Answer.{Refused}
use Rattle.fields.specs.declared.Field.{Field}
use Rattle.fields.specs.declared.Field.TheVariants as field
use Rattle.fields.specs.Leaf.{Leaf}
use Rattle.fields.specs.Leaf.{Fine, Bad}
use Rattle.fields.specs.declared.Refusal.{Refusal}
use Rattle.fields.specs.declared.Refusal.TheVariants as refusal
use Rattle.fields.specs.declared.Shape.{Shape}
use Rattle.fields.specs.Words.{word, wide}
use Rattle.fields.proofs.OutcomeLaws.{fine-same}
use Rattle.writing.specs.Binary.{functype, valtype, resultlist, bytes}
use Rattle.writing.specs.Judge.{flaw, judge}
use Rattle.writing.specs.Row.{measured_row, row_bytes}
use Rattle.fields.specs.inside.Run.{along}
use Rattle.fields.specs.inside.Stages.{later}
use Rattle.writing.specs.inside.Wrote.{Wrote}
use Rattle.fields.specs.Shape.{opening, group, repeated, seq, widths, row_width}
use Rattle.fields.specs.Table.{elements}
use Rattle.fields.specs.Walk.{next, outs}
use Rattle.fields.specs.Answers.{left, refuse}
use Rattle.writing.specs.Write.{judged, written, sized, measured, stored, write_shape}
use Rattle.writing.proofs.AnswerLaws.{Sized, measured_sized}
use Rattle.writing.proofs.PutLaws.{all_fields, judged_along}
use Rattle.writing.proofs.TableLaws.{strings, written-right}
use Rattle.writing.proofs.WholeLaws.{Accepted, accepted, sized-accepted, size_is_length}
use Rattle.writing.proofs.WroteLaws.{then, same_size, of-store, room-first, room-then}
use Rattle.writing.specs.Sizes.{within}
use Rattle.writing.specs.inside.Rows.{Rights, Groups}
use Rattle.writing.proofs.GroupLaws.{word_at, labelled_element}
use Rattle.writing.proofs.RowLaws.{nothing_at, async_at, bare_known, many_known, many_held, ManyHeld}
use Rattle.types.specs.inside.Optional.{OptionalKnown}
use Rattle.types.specs.Table.{labelvaltype}
use Rattle.types.specs.Write.{head_shape, result_shape}
use Rattle.types.specs.inside.Function.{head_bytes}
use Rattle.types.proofs.FunctionLaws.{result_length, known_result}
use Rattle.numbers.proofs.Impossible.{impossible}

-- ---- room

pub not_within : (size at room : ℕ) → 0 < size → within size at room ≡ false → room < at + size
unfolding within
not_within size at room h e = leb-false (at + size) room (simp (lt-ltb 0 size h) at e)

-- ---- what a step answers and leaves: refused before, no room, and written

module _ (s : Shape) (row : List ℕ) (start : ℕ) (pool : List ℕ) {found : Answer} (ef : found ≡ measured s row start pool) (out : List ℕ) (at : ℕ) where
  pub write_refused : {why : Refusal} {n : ℕ} → found ≡ Refused why n → refuse why n out ≡ write_shape s row start pool out at
  unfolding write_shape stored
  write_refused e = rw (← ef, e)

  module _ {size : ℕ} (e : found ≡ Ok size) where
    pub write_cramped : length out < at + size → refuse refusal.Room size out ≡ write_shape s row start pool out at
    unfolding write_shape stored
    write_cramped h = rw (← ef, e) (simp (lt-leb _ _ h))

    pub write_whole : at + size ≤ length out → (new : List ℕ) → new ≡ sets out at (written s pool row start)
        → left (Ok size) new ≡ write_shape s row start pool out at
    unfolding write_shape stored
    write_whole h new p = rw (← ef, e) (simp (le-leb _ _ h) (ap (λ l. left (Ok size) l) p))

-- ---- words from 0 on, and behind a kind

-- a walk from the next place on is the same walk, moved
abbrev moved : Leaf → Leaf
moved (Ok span) = Fine (1 + span.took) span.made
moved (Err fault) = Bad fault.why (1 + fault.value)

along-moved : (pool : List ℕ) (fs : List Field) (ws : List ℕ) (at made : ℕ)
    → along (judge pool) fs ws (1 + at) made ≡ moved (along (judge pool) fs ws at made)
unfolding along
along-moved pool [] ws at made = refl
along-moved pool (f ∷ fs) ws at made = go (judge pool f ws) (λ t m. along-moved pool fs (drop t ws) (at + t) (made + m))
  where
    go : (l : Leaf)
        → ((t m : ℕ) → along (judge pool) fs (drop t ws) (1 + (at + t)) (made + m) ≡ moved (along (judge pool) fs (drop t ws) (at + t) (made + m)))
        → next l (λ t m. along (judge pool) fs (drop t ws) (1 + at + t) (made + m)) (1 + at)
        ≡ moved (next l (λ t m. along (judge pool) fs (drop t ws) (at + t) (made + m)) at)
    go (Ok span) ih =
        let p : 1 + at + span.took ≡ 1 + (at + span.took) = omega arith in
        ap (λ k. along (judge pool) fs (drop span.took ws) k (made + span.made)) p ∙ ih span.took span.made
    go (Err fault) ih =
        let p : 1 + at + fault.value ≡ 1 + (at + fault.value) = omega arith in
        ap (Bad fault.why) p

module _ (s : Shape) (pool words : List ℕ) where
  abbrev W : ℕ
  W = widths (opening s)

  -- the count behind the opening
  count_moved : word (0 ∷ words) (1 + W) ≡ word words (0 + W)
  count_moved = let p : W ≡ 0 + W = omega arith in word_at (0 ∷ words) 1 W ∙ ap (λ k. word words k) p

  width_moved : row_width s (0 ∷ words) 1 ≡ 1 + row_width s words 0
  unfolding row_width
  width_moved = omega (arith, ap (λ n. cond s.counted (1 + n * widths (group s)) 0) count_moved)

  judged_moved : judged s pool (0 ∷ words) 1 ≡ moved (judged s pool words 0)
  judged_moved =
      judged_along s pool (0 ∷ words) 1
      ∙ ap (λ n. along (judge pool) (opening s ++ later s n) words 1 0) count_moved
      ∙ along-moved pool (all_fields s words 0) words 0 0
      ∙ ap moved (sym (judged_along s pool words 0))

  module _ {n : ℕ} where
    -- a row behind a kind that has a size: so have its words
    pub row_step : measured_row (Some s) (0 ∷ words) pool ≡ Ok n → measured s words 0 pool ≡ Ok n
    unfolding measured sized
    row_step e = go (judged s pool words 0) refl
      where
        shaped : Accepted (Some s) (0 ∷ words) pool n → Sized s (0 ∷ words) 1 pool n
        shaped a = let h = a.is in let same : a.shape ≡ s = cc in subst (λ x. Sized x (0 ∷ words) 1 pool n) same a.sized

        k : Sized s (0 ∷ words) 1 pool n
        k = shaped (accepted (Some s) (0 ∷ words) pool n e)

        width : row_width s words 0 ≡ length words
        width = omega (arith, k.width, width_moved)

        short : length words ≤ 16384
        short = omega (arith, k.short)

        go : (l : Leaf) → judged s pool words 0 ≡ l → measured s words 0 pool ≡ Ok n
        go (Ok span) p =
            let r : Fine (1 + span.took) span.made ≡ Fine k.end n = ap moved (sym p) ∙ sym judged_moved ∙ k.judges in
            let same : span.made ≡ n = (fine-same r).1 in
            simp (le-ltb _ _ short, le-ltb _ _ k.small, eq-eqb _ _ width, p) (ap Ok same)
        go (Err fault) p =
            let r : Bad fault.why (1 + fault.value) ≡ Fine k.end n = ap moved (sym p) ∙ sym judged_moved ∙ k.judges in
            impossible cc

    -- and the other way, with the same bytes
    pub step_row : Sized s words 0 pool n → length words < 16384
        → (measured_row (Some s) (0 ∷ words) pool ≡ Ok n) × (written s pool words 0 ≡ row_bytes (Some s) pool (0 ∷ words))
    unfolding row_bytes
    step_row k short = (
      sized-accepted s (0 ∷ words) pool n
          (record { width = omega (arith, k.width, width_moved); short = omega arith; small = k.small; end = 1 + k.end; judges = judges }),
      written-right s pool words 0 k.end n k.judges
          ∙ ap (λ n. strings pool (opening s ++ later s n) words) (sym count_moved)
          ∙ sym (written-right s pool (0 ∷ words) 1 (1 + k.end) n judges),
    )
      where
        judges : judged s pool (0 ∷ words) 1 ≡ Fine (1 + k.end) n
        judges = judged_moved ∙ ap moved k.judges

-- ---- the head: the first byte, a count and as many parameters

pub record HeadHeld (words pool : List ℕ) (n : ℕ) : Type 0 where
  pub width : length words ≡ 2 + word words 1 * 4
  pub groups : Rights pool (repeated (word words 1) (field.Name ∷ field.Value ∷ [])) (drop 2 words)
  pub size : n ≡ length (head_bytes pool words)
  pub some : 0 < n
  pub made : written head_shape pool words 0 ≡ head_bytes pool words

module _ (words pool : List ℕ) where
  pub head_known : length pool ≤ 65536 → length words ≤ 16384 → length words ≡ 2 + word words 1 * 4 → word words 0 < 2
      → {base r : ℕ} → base ≡ 1 + length (unsigned (word words 1))
      → Groups pool (field.Name ∷ field.Value ∷ []) (labelvaltype pool) (word words 1) (drop 2 words) base r
      → measured head_shape words 0 pool ≡ Ok r
  unfolding wide widths flaw bytes
  head_known small short width a eb g =
      row_step head_shape pool words
      (many_known field.Nothing field.Nothing field.Async field.Name field.Value field.Nothing refl refl refl (0 ∷ words) pool
      (λ ws. labelled_element pool ws) (λ ws. refl) (λ ws. refl) small (omega arith) (omega arith) (async_at pool (0 ∷ words) 1 refl a)
      (omega arith) g (nothing_at pool (drop (3 + word words 1 * 4) (0 ∷ words))) (omega arith))

  pub head_held : {n : ℕ} → measured head_shape words 0 pool ≡ Ok n → HeadHeld words pool n
  unfolding wide widths bytes row_width
  head_held {n} e =
      record {
        width = width;
        groups = h.groups;
        size = size_is_length k ∙ ap length made;
        some = omega (arith, h.size);
        made = made;
      }
    where
      k : Sized head_shape words 0 pool n
      k = measured_sized head_shape words 0 pool refl n e

      width : length words ≡ 2 + word words 1 * 4
      width = omega (arith, k.width)

      row : (measured_row (Some head_shape) (0 ∷ words) pool ≡ Ok n) × (written head_shape pool words 0 ≡ row_bytes (Some head_shape) pool (0 ∷ words))
      row = step_row head_shape pool words k (omega (arith, k.short, width))

      h : ManyHeld field.Nothing field.Nothing field.Async field.Name field.Value field.Nothing 4 (labelvaltype pool) (0 ∷ words) pool n
      h =
          many_held field.Nothing field.Nothing field.Async field.Name field.Value field.Nothing refl refl refl (0 ∷ words) pool
          (λ ws. labelled_element pool ws) row.0

      made : written head_shape pool words 0 ≡ head_bytes pool words
      made =
          row.1 ∙ h.made
          ∙ ap (λ l. functype (word words 0) ∷ (unsigned (word words 1) ++ l))
          (append-nil (elements (word words 1) 4 (labelvaltype pool) (drop 2 words)))

-- its parts put one after the other
module _ (words pool old : List ℕ) (at : ℕ) (room : at + length (head_bytes pool words) ≤ length old) where
  abbrev U : List ℕ
  U = unsigned (word words 1)

  abbrev G : List ℕ
  G = elements (word words 1) 4 (labelvaltype pool) (drop 2 words)

  pub lead_room : at + 1 ≤ length old
  lead_room = room-first (functype (word words 0) ∷ []) (U ++ G) at (length old) room

  module _ {one : List ℕ} (lead : Wrote old at (functype (word words 0) ∷ []) (at + 1) one) where
    behind_lead : at + 1 + length (U ++ G) ≤ length one
    behind_lead = room-then lead (U ++ G) room

    pub count_wrote : {two : List ℕ} {p : Stored} {s : ℕ} → storing.left p two ≡ store (unsigned (word words 1)) (at + 1) one → s ≡ value_of p
        → Wrote one (at + 1) (unsigned (word words 1)) (at + 1 + s) two
    count_wrote e v = of-store e v (room-first U G (at + 1) (length one) behind_lead)

    module _ {two : List ℕ} {next : ℕ} (count : Wrote one (at + 1) (unsigned (word words 1)) next two) where
      pub fields_room : next + length (elements (word words 1) 4 (labelvaltype pool) (drop 2 words)) ≤ length two
      fields_room = room-then count G behind_lead

      pub count_ends : next ≤ length old
      count_ends = omega (arith, fields_room, same_size lead, same_size count)

      pub head_wrote : {three : List ℕ} {end : ℕ} → Wrote two next (elements (word words 1) 4 (labelvaltype pool) (drop 2 words)) end three
          → three ≡ sets old at (head_bytes pool words)
      head_wrote w = (then lead (then count w)).content

      pub head_length : {three : List ℕ} {end : ℕ} → Wrote two next (elements (word words 1) 4 (labelvaltype pool) (drop 2 words)) end three
          → length three ≡ length old
      head_length w = same_size (then lead (then count w))

-- ---- the result

pub result_written : (tag x : ℕ) → written result_shape [] (tag ∷ x ∷ []) 0 ≡ resultlist tag x
unfolding outs seq bytes judge flaw wide
result_written tag x = append-nil (resultlist tag x)

pub result_measured : {tag x r : ℕ} → OptionalKnown 2 tag x r → measured result_shape (tag ∷ x ∷ []) 0 [] ≡ Ok r
unfolding wide
result_measured {tag} {x} {r} o =
    row_step result_shape [] (tag ∷ x ∷ [])
    (bare_known field.Result field.Nothing (0 ∷ tag ∷ x ∷ []) [] (omega arith) (omega arith) refl (known_result o []) (nothing_at [] [])
    (omega arith))

-- what has a size has the bytes of a result, one at least
pub result_held : (tag x : ℕ) {n : ℕ} → measured result_shape (tag ∷ x ∷ []) 0 [] ≡ Ok n → (n ≡ length (resultlist tag x)) × (0 < n)
result_held tag x {n} e = (size, omega (arith, size, some))
  where
    size : n ≡ length (resultlist tag x)
    size = size_is_length (measured_sized result_shape (tag ∷ x ∷ []) 0 [] refl n e) ∙ ap length (result_written tag x)

    positive : (b : Bool) → 0 < cond b 2 (1 + length (valtype tag x))
    positive true = omega arith
    positive false = omega arith

    some : 0 < length (resultlist tag x)
    some = rw (result_length tag x) (positive (eqb tag 2))
