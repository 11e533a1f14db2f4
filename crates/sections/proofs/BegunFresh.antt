-- Rows that are all accepted from a fresh section on: the used part of the body is exactly their bytes, one after the other, and the
-- count is their number. And no step changes a byte of the body outside what it counts.
use Prim.Native.Nat.{ℕ, suc, ◌+◌, ◌≤◌}
use native.Mathlib.Omega.{arith}
use mathlib.Core.Path.{◌≡◌, refl, ap, ◌∙◌}
use mathlib.Core.List.{List, [], ◌∷◌}
use lib.Dec.{ltb}
use lib.ListN.{length}
use lib.Seq.{length-sets}
use Rattle.numbers.proofs.BytesLaws.{sets-outside, sets_back}
use Rattle.fields.specs.Answer.{Answer}
use Rattle.types.specs.Write.{head_shape, result_shape}
use Rattle.sections.specs.declared.Phase.{Phase}
use Rattle.sections.specs.declared.Phase.TheVariants.{Closed, Opened, Headed}
use Rattle.sections.specs.declared.Section.{Section}
use Rattle.sections.specs.Section.{family_bytes, fresh, sounds}
use Rattle.sections.specs.Steps.{Turn, head_in, result_in, abandon_in, heading, resulting, abandoning}
use Rattle.sections.specs.Runs.{Step, Row, Open, Head, Result, Abandon, turn, runs, AllAccepted, Entry, rows, Kept, all_bytes, Begun}
use Rattle.sections.proofs.TurnLaws.{Turns, refuses, stores, Grows, accepted_grows, grows_then, either, shape_turns, row_turns, open_turns}

-- ---- outside what is counted

turns-kept : {s : Section} {body : List ℕ} {r : Answer} {bs : List ℕ} {count : ℕ} {phase : Phase} {t : Turn} → Turns s body r bs count phase t → Kept s body t
turns-kept (refuses w n) = (refl, refl)
turns-kept {s} {body} {r} {bs} (stores e h) = λ i o. sets-outside bs body s.used i o

module _ (s : Section) (body : List ℕ) where
  head_kept : (words pool : List ℕ) (p : Phase) → Kept s body (head_in p s words pool body)
  head_kept words pool Closed = (refl, refl)
  head_kept words pool (Opened start) = turns-kept (shape_turns s body s.count (Headed start) head_shape words pool)
  head_kept words pool (Headed start) = (refl, refl)

  result_kept : (tag x : ℕ) (p : Phase) → Kept s body (result_in p s tag x body)
  result_kept tag x Closed = (refl, refl)
  result_kept tag x (Opened start) = (refl, refl)
  result_kept tag x (Headed start) = turns-kept (shape_turns s body s.count Closed result_shape (tag ∷ x ∷ []) [])

  abandon_kept : (p : Phase) → Kept s body (abandon_in p s body)
  abandon_kept Closed = (refl, refl)
  abandon_kept (Opened start) = λ i o. refl
  abandon_kept (Headed start) = λ i o. refl

-- of each of the five steps
pub outside : (x : Step) (s : Section) (body : List ℕ) → Kept s body (turn x s body)
unfolding heading resulting abandoning
outside (Row row pool) s body = turns-kept (row_turns s body row pool)
outside Open s body = turns-kept (open_turns s body)
outside (Head words pool) s body =
    either (Kept s body) (sounds s (length body)) _ _
    (either (Kept s body) (ltb 16384 (length words)) _ _ (refl, refl)
    (either (Kept s body) (ltb 65536 (length pool)) _ _ (refl, refl) (head_kept s body words pool s.phase)))
    (refl, refl)
outside (Result tag x) s body = either (Kept s body) (sounds s (length body)) _ _ (result_kept s body tag x s.phase) (refl, refl)
outside Abandon s body = either (Kept s body) (sounds s (length body)) _ _ (abandon_kept s body s.phase) (refl, refl)

-- ---- rows one after the other

-- what the rows make of a closed section that can stand over its body
rows_grow : (es : List Entry) (s : Section) (body : List ℕ) → s.phase ≡ Closed → s.used ≤ length body → AllAccepted (rows es) s body
    → Grows s body (all_bytes s.family es) (s.count + length es) Closed (runs (rows es) s body).section (runs (rows es) s body).body
rows_grow [] s body p h a =
    record { room = omega arith; family = refl; used = omega arith; counts = omega arith; stands = p; content = refl }
rows_grow (e ∷ es) s body p h a =
    let t = turn (Row e.row e.pool) s body in
    let g = accepted_grows (row_turns s body e.row e.pool) a.0 in
    let n : t.gave.section.count + length es ≡ s.count + suc (length es) = omega (arith, g.counts) in
    let l : length t.body ≡ length body = ap length g.content ∙ length-sets body s.used (family_bytes s.family e.pool e.row) in
    rw (g.family, n) at
    (grows_then g (rows_grow es t.gave.section t.body g.stands (omega (arith, g.used, g.room, l)) a.1))

pub begun_fresh : (family : ℕ) (es : List Entry) (body : List ℕ) → AllAccepted (rows es) (fresh family) body
    → Begun family es body (runs (rows es) (fresh family) body)
begun_fresh family es body a =
    let g = rows_grow es (fresh family) body refl (omega arith) a in
    let n : (runs (rows es) (fresh family) body).section.used ≡ length (all_bytes family es) = omega (arith, g.used) in
    record {
      family_is = g.family;
      used_is = n;
      count_is = omega (arith, g.counts);
      closed = g.stands;
      content = g.content;
      used_part = rw (n, g.content) (sets_back (all_bytes family es) body 0 g.room);
    }
