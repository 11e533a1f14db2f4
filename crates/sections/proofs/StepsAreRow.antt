use Rattle.std.specs.Prelude.{Ok}
use Rattle.sections.specs.Section.{family_bytes, measured_family}
-- A function that is put together in steps is the row: where each step and the row are accepted, they leave the same section and the
-- same body. At 4,095 parameters only the steps can be accepted: the head's words are 16,382, and the row's 16,385, which is LIMIT.
use Prim.Native.Nat.{ℕ, zero, suc, ◌+◌, ◌*◌}
use native.Mathlib.Omega.{arith}
use mathlib.Core.Path.{◌≡◌, refl, sym, ap, ◌∙◌}
use mathlib.Core.List.{List, [], ◌∷◌, ◌++◌, append-nil}
use lib.ListN.{length, drop}
use lib.Seq.{drop-append_seam}
use Rattle.numbers.specs.Leb.{unsigned}
use Rattle.fields.specs.declared.Field.TheVariants as field
use Rattle.fields.specs.Words.{word, wide}
use Rattle.writing.specs.Binary.{bytes, functype, resultlist}
use Rattle.writing.specs.Judge.{flaw, judge}
use Rattle.fields.specs.Shape.{seq, widths, row_width}
use Rattle.fields.specs.Table.{production_in, elements, vec}
use Rattle.fields.specs.Walk.{outs}
use Rattle.writing.specs.Write.{written}
use Rattle.writing.proofs.AnswerLaws.{Sized, measured_sized}
use Rattle.writing.proofs.GroupLaws.{labelled_element}
use Rattle.writing.proofs.RowLaws.{only-groups}
use Rattle.writing.proofs.TableLaws.{strings, written-right}
use Rattle.types.specs.Table.{labelvaltype, table}
use Rattle.types.specs.Write.{head_shape, result_shape, measured_type}
use Rattle.types.proofs.Rows.{type_row}
use Rattle.sections.specs.declared.Phase.TheVariants.{Closed}
use Rattle.sections.specs.declared.Section.{Section}
use Rattle.sections.specs.Steps.{rowing, opening, heading}
use Rattle.sections.specs.Runs.{Row, Open, Head, Result, stand, runs, Accepted, AllAccepted, AsRow}
use Rattle.sections.proofs.TurnLaws.{Grows, accepted_size, accepted_grows, grows_then, row_turns, open_turns, open_family, head_turns, result_turns}

-- ---- the bytes of each step

result_bytes : (tag x : ℕ) → written result_shape [] (tag ∷ x ∷ []) 0 ≡ resultlist tag x
unfolding outs seq judge flaw wide bytes
result_bytes tag x = append-nil (resultlist tag x)

-- a head that is accepted: as many words as the count says, the first byte and the vector of parameters
head_width : (pool words : List ℕ) (size : ℕ) → Sized head_shape words 0 pool size → length words ≡ 2 + word words 1 * 4
unfolding row_width widths wide
head_width pool words size k = omega (arith, k.width)

head_bytes_lem : (pool words : List ℕ) (size : ℕ) → Sized head_shape words 0 pool size
    → written head_shape pool words 0 ≡ functype (word words 0) ∷ vec 4 (labelvaltype pool) (drop 1 words)
unfolding strings widths wide bytes
head_bytes_lem pool [] size k = absurd (omega (arith, head_width pool [] size k))
head_bytes_lem pool (a ∷ []) size k = absurd (omega (arith, head_width pool (a ∷ []) size k))
head_bytes_lem pool (a ∷ n ∷ words) size k =
    written-right head_shape pool (a ∷ n ∷ words) 0 k.end size k.judges
    ∙ ap (λ l. functype a ∷ (unsigned n ++ l))
    (only-groups pool (field.Name ∷ field.Value ∷ []) (labelvaltype pool) (labelled_element pool) n words)

-- ---- the bytes of the row

-- n parameters are those of the first n * 4 words
module _ (pool : List ℕ) where
  front_elements : (n : ℕ) (words rest : List ℕ) → length words ≡ n * 4
      → elements n 4 (labelvaltype pool) (words ++ rest) ≡ elements n 4 (labelvaltype pool) words
  unfolding elements
  front_elements zero words rest e = refl
  front_elements (suc n) [] rest e = absurd (omega arith)
  front_elements (suc n) (p ∷ []) rest e = absurd (omega arith)
  front_elements (suc n) (p ∷ q ∷ []) rest e = absurd (omega arith)
  front_elements (suc n) (p ∷ q ∷ t ∷ []) rest e = absurd (omega arith)
  front_elements (suc n) (p ∷ q ∷ t ∷ x ∷ words) rest e =
      ap (λ l. labelvaltype pool (p ∷ q ∷ t ∷ x ∷ words) ++ l) (front_elements n words rest (omega arith))

  row_production : (words : List ℕ) (tag x : ℕ) → length words ≡ 2 + word words 1 * 4
      → production_in table 15 pool (words ++ tag ∷ x ∷ [])
      ≡ functype (word words 0) ∷ (vec 4 (labelvaltype pool) (drop 1 words) ++ resultlist tag x)
  unfolding production_in
  row_production [] tag x e = absurd (omega arith)
  row_production (a ∷ []) tag x e = absurd (omega arith)
  row_production (a ∷ n ∷ words) tag x e =
      let fits : length words ≡ n * 4 = omega arith in
      let place : 2 + n * 4 ≡ suc (suc (length words)) = omega arith in
      let behind : drop (2 + n * 4) (a ∷ n ∷ (words ++ tag ∷ x ∷ [])) ≡ tag ∷ x ∷ [] =
      ap (λ k. drop k (a ∷ n ∷ (words ++ tag ∷ x ∷ []))) place ∙ drop-append_seam words (tag ∷ x ∷ []) in
      (λ i. functype a
      ∷ ((unsigned n ++ front_elements n words (tag ∷ x ∷ []) fits i) ++ resultlist (word (behind i) 0) (word (behind i) 1)))

-- ---- both ways

-- the row of a function, whose head is `words`: a, a count and as many of (N,V)
abbrev pub function_row : List ℕ → ℕ → ℕ → List ℕ
function_row words tag x = 15 ∷ (words ++ tag ∷ x ∷ [])

-- its bytes
abbrev function_bytes : List ℕ → List ℕ → ℕ → ℕ → List ℕ
function_bytes words pool tag x = functype (word words 0) ∷ (vec 4 (labelvaltype pool) (drop 1 words) ++ resultlist tag x)

both_grow : {s t u : Section} {body new end bs : List ℕ} → s.family ≡ 7 → Grows s body bs (s.count + 1) Closed t new
    → Grows s body bs (s.count + 1) Closed u end → AsRow s (stand t new) (stand u end)
both_grow f g h =
    record {
      same =
          (λ i. record {
            section =
                record {
                  family = (g.family ∙ sym h.family) i;
                  used = (g.used ∙ sym h.used) i;
                  count = (g.counts ∙ sym h.counts) i;
                  phase = (g.stands ∙ sym h.stands) i;
                };
            body = (g.content ∙ sym h.content) i;
          });
      types = h.family ∙ f;
      closed = h.stands;
      counted = h.counts;
    }

module _ (s : Section) (words pool : List ℕ) (tag x : ℕ) (body : List ℕ) where
  row_grows : s.family ≡ 7 → length words ≡ 2 + word words 1 * 4 → Accepted (rowing s (function_row words tag x) pool body)
      → Grows s body (function_bytes words pool tag x) (s.count + 1) Closed
      (rowing s (function_row words tag x) pool body).gave.section (rowing s (function_row words tag x) pool body).body
  unfolding family_bytes measured_family measured_type
  row_grows f w k =
      let row = function_row words tag x in
      let turns = row_turns s body row pool in
      let measures : measured_type row pool ≡ Ok (length (family_bytes s.family pool row)) =
      ap (λ n. measured_family n row pool) (sym f) ∙ accepted_size turns k in
      let same : family_bytes s.family pool row ≡ function_bytes words pool tag x =
      ap (λ n. family_bytes n pool row) f ∙ (type_row row pool _ measures).as_production ∙ row_production pool words tag x w in
      rw same at (accepted_grows turns k)

  -- a function in three steps and in one row
  pub steps_are_row : AllAccepted (Open ∷ Head words pool ∷ Result tag x ∷ []) s body
      → AllAccepted (Row (function_row words tag x) pool ∷ []) s body
      → AsRow s (runs (Open ∷ Head words pool ∷ Result tag x ∷ []) s body) (runs (Row (function_row words tag x) pool ∷ []) s body)
  steps_are_row k row =
      let t = opening s body in
      let u = heading t.gave.section words pool t.body in
      let f = open_family s body k.0 in
      let g = accepted_grows (open_turns s body) k.0 in
      let head = head_turns t.gave.section t.body g.stands words pool in
      let sized = measured_sized head_shape words 0 pool refl _ (accepted_size head k.1.0) in
      let h = accepted_grows head k.1.0 in
      let result = result_turns u.gave.section u.body h.stands tag x in
      let counts = h.counts ∙ g.counts in
      let steps = rw (head_bytes_lem pool words _ sized, result_bytes tag x, counts) at (grows_then g (grows_then h (accepted_grows result k.1.1.0))) in
      both_grow f steps (row_grows f (head_width pool words _ sized) row.0)
