-- A function in steps is accepted exactly when its row is: both have the same fields to judge, and their sizes add up.
use Rattle.std.specs.Prelude.{Some, None, Ok, Err}
use Prim.Native.Nat.{ℕ, zero, suc, ◌+◌, ◌*◌, ◌≤◌}
use native.Mathlib.Omega.{arith}
use mathlib.Core.Logic.{◌↔◌}
use mathlib.Core.Path.{◌≡◌, refl, sym, ap, ◌∙◌, subst}
use mathlib.Core.Bool.{Bool, true, false, cond}
use mathlib.Core.List.{List, [], ◌∷◌, ◌++◌}
use borrow.Author.Tests.{eqb-true, le-ltb, le-leb, eq-eqb}
use lib.Dec.{eqb, ltb}
use lib.ListN.{length, drop, length-append}
use lib.Seq.{sets}
use Rattle.numbers.specs.Leb.{unsigned}
use Rattle.fields.specs.Answer.{Answer}
use Rattle.fields.specs.declared.Field.{Field}
use Rattle.fields.specs.declared.Field.TheVariants as field
use Rattle.fields.specs.Flaw.{Flaw, Right}
use Rattle.fields.specs.Leaf.{Fine}
use Rattle.fields.specs.declared.Refusal.TheVariants as refusal
use Rattle.fields.specs.declared.Shape.{Shape}
use Rattle.fields.specs.Words.{word, wide}
use Rattle.writing.specs.Binary.{bytes, resultlist}
use Rattle.writing.specs.Judge.{below, value, optional_value, named, flaw, unless, judge}
use Rattle.writing.specs.Row.{measured_row}
use Rattle.fields.specs.inside.Run.{along}
use Rattle.fields.specs.Shape.{repeated, widths, row_width}
use Rattle.fields.specs.Table.{many_of, shape_in}
use Rattle.fields.specs.Walk.{next}
use Rattle.fields.specs.Answers.{left}
use Rattle.writing.specs.Write.{written, sized, measured, stored, write_shape}
use Rattle.fields.specs.Answers as answers
use Rattle.fields.proofs.OutcomeLaws.{fine-same}
use Rattle.writing.proofs.AnswerLaws.{Sized, measured_sized}
use Rattle.writing.proofs.PutLaws.{all_fields, judged_along}
use Rattle.writing.proofs.TableLaws.{strings}
use Rattle.writing.proofs.WholeLaws as whole
use Rattle.writing.proofs.WholeLaws.{sized-accepted}
use Rattle.types.specs.Write.{head_shape, result_shape, measured_type}
use Rattle.imports.specs.Write.{measured_import}
use Rattle.canonicals.specs.Write.{measured_canonical}
use Rattle.instances.specs.Write.{measured_core_instance, measured_instance}
use Rattle.sections.specs.declared.Phase.{Phase}
use Rattle.sections.specs.declared.Phase.TheVariants.{Closed, Opened, Headed}
use Rattle.sections.specs.declared.Section.{Section}
use Rattle.sections.specs.Runs.{Accepted, AllAccepted}
use Rattle.sections.specs.Section.{Types, Canonicals, Imports, CoreInstances, Instances, None, measured_by, family_bytes, measured_family, opened, sounds, write_family}
use Rattle.sections.specs.Steps.{Turn, refuse, wrote, head_in, result_in, rowing, opening, heading, resulting}
use Rattle.sections.proofs.FamilyLaws.{family-stored}
use Rattle.sections.proofs.TurnLaws.{accepted_size, accepted_grows, grows_then, row_turns, open_turns, head_turns, result_turns}
use Rattle.claims.specs.Steps.{function_row, by_row, by_steps}
use Rattle.claims.proofs.StepsOpen.{Ready, is_closed, open_ready, ready_opens, inside_sounds, grows_inside, open-inside}
use Rattle.numbers.proofs.Impossible.{impossible}

-- ---- fields that are right

abbrev Rights : List ℕ → List Field → List ℕ → Type 0
Rights pool [] ws = Unit {0}
Rights pool (f ∷ fs) ws = (flaw pool f ws ≡ Right) × Rights pool fs (drop (wide f) ws)

-- a walk over fields ends exactly when they are right, and then makes as many bytes as they have
rights-fine : (pool : List ℕ) (fs : List Field) (ws : List ℕ) (at made : ℕ) → Rights pool fs ws
    → along (judge pool) fs ws at made ≡ Fine (at + widths fs) (made + length (strings pool fs ws))
unfolding along judge widths strings
rights-fine pool [] ws at made r =
    let p : at ≡ at + 0 = omega arith in
    let q : made ≡ made + 0 = omega arith in
    λ i. Fine (p i) (q i)
rights-fine pool (f ∷ fs) ws at made r =
    let m = length (bytes pool f ws) in
    let rest = strings pool fs (drop (wide f) ws) in
    let p : at + wide f + widths fs ≡ at + (wide f + widths fs) = omega arith in
    let q : made + m + length rest ≡ made + length (bytes pool f ws ++ rest) = omega (arith, length-append (bytes pool f ws) rest) in
    ap (λ x. next (unless x (Fine (wide f) m)) (λ t n. along (judge pool) fs (drop t ws) (at + t) (made + n)) at) r.0
    ∙ rights-fine pool fs (drop (wide f) ws) (at + wide f) (made + m) r.1
    ∙ (λ i. Fine (p i) (q i))

fine-rights : (pool : List ℕ) (fs : List Field) (ws : List ℕ) (at made e m : ℕ) → along (judge pool) fs ws at made ≡ Fine e m → Rights pool fs ws
unfolding along judge
fine-rights pool [] ws at made e m h = tt
fine-rights pool (f ∷ fs) ws at made e m h =
    go (flaw pool f ws) h (fine-rights pool fs (drop (wide f) ws) (at + wide f) (made + length (bytes pool f ws)) e m)
  where
    go : (x : Flaw)
        → next (unless x (Fine (wide f) (length (bytes pool f ws)))) (λ t n. along (judge pool) fs (drop t ws) (at + t) (made + n)) at ≡ Fine e m
        → (along (judge pool) fs (drop (wide f) ws) (at + wide f) (made + length (bytes pool f ws)) ≡ Fine e m → Rights pool fs (drop (wide f) ws))
        → (x ≡ Right) × Rights pool fs (drop (wide f) ws)
    go Right h ih = (refl, ih h)
    go (Err fault) h ih = impossible cc

-- the same of the fields of a shape
abbrev ShapeRights : Shape → List ℕ → ℕ → List ℕ → Type 0
ShapeRights shape row start pool = Rights pool (all_fields shape row start) (drop start row)

abbrev shape_size : Shape → List ℕ → ℕ → List ℕ → ℕ
shape_size shape row start pool = length (strings pool (all_fields shape row start) (drop start row))

sized-rights : (shape : Shape) (row : List ℕ) (start : ℕ) (pool : List ℕ) (size : ℕ) → Sized shape row start pool size
    → ShapeRights shape row start pool × (size ≡ shape_size shape row start pool)
sized-rights shape row start pool size k =
    let e = sym (judged_along shape pool row start) ∙ k.judges in
    let r = fine-rights pool (all_fields shape row start) (drop start row) start 0 k.end size e in
    let f = sym e ∙ rights-fine pool (all_fields shape row start) (drop start row) start 0 r in
    let n = (fine-same f).1 in
    (r, omega (arith, n))

rights-sized : (shape : Shape) (row : List ℕ) (start : ℕ) (pool : List ℕ) (size : ℕ) → row_width shape row start ≡ length row → length row ≤ 16384
    → length pool ≤ 65536 → ShapeRights shape row start pool → size ≡ shape_size shape row start pool → Sized shape row start pool size
rights-sized shape row start pool size w h k r e =
    let fs = all_fields shape row start in
    let n : 0 + shape_size shape row start pool ≡ size = omega (arith, e) in
    record {
      width = w;
      short = h;
      small = k;
      end = start + widths fs;
      judges = judged_along shape pool row start ∙ rights-fine pool fs (drop start row) start 0 r ∙ ap (λ m. Fine (start + widths fs) m) n;
    }

sized-measured : (shape : Shape) (row : List ℕ) (start : ℕ) (pool : List ℕ) (size : ℕ) → Sized shape row start pool size
    → measured shape row start pool ≡ Ok size
unfolding measured sized
sized-measured shape row start pool size k = simp (le-ltb _ _ k.short, le-ltb _ _ k.small, eq-eqb _ _ k.width, k.judges)

-- ---- the parts of a function

abbrev function_shape : Shape
function_shape = many_of field.Nothing field.Nothing field.Async field.Name field.Value field.Result

abbrev groups : ℕ → Field → List Field
groups n last = repeated n (field.Name ∷ field.Value ∷ []) ++ last ∷ []

-- the size of a head
abbrev head_size : List ℕ → List ℕ → ℕ
head_size words pool = 1 + length (unsigned (word words 1) ++ strings pool (groups (word words 1) field.Nothing) (drop 2 words))

-- what a head asks of its words and its pool, and a result of its two
record RightHead (words pool : List ℕ) : Type 0 where
  width : length words ≡ 2 + word words 1 * 4
  small : length pool ≤ 65536
  async : below 2 words 0 ≡ Right
  params : Rights pool (groups (word words 1) field.Nothing) (drop 2 words)

abbrev RightResult : ℕ → ℕ → Type 0
RightResult tag x = optional_value (tag ∷ x ∷ []) 0 ≡ Right

result_right : (tag x size : ℕ) → Sized result_shape (tag ∷ x ∷ []) 0 [] size → RightResult tag x × (size ≡ length (resultlist tag x))
unfolding flaw wide strings bytes widths
result_right tag x size k =
    let r = sized-rights result_shape (tag ∷ x ∷ []) 0 [] size k in
    (r.0.1.1.0, omega (arith, r.1, length-append (resultlist tag x) []))

right_result : (tag x : ℕ) → RightResult tag x → measured result_shape (tag ∷ x ∷ []) 0 [] ≡ Ok (length (resultlist tag x))
unfolding flaw wide strings bytes widths row_width
right_result tag x r =
    let size = length (resultlist tag x) in
    sized-measured result_shape (tag ∷ x ∷ []) 0 [] size
    (rights-sized result_shape (tag ∷ x ∷ []) 0 [] size refl (omega arith) (omega arith) (refl, (refl, (r, (refl, (refl, tt)))))
    (omega (arith, length-append (resultlist tag x) [])))

head_right : (words pool : List ℕ) (size : ℕ) → Sized head_shape words 0 pool size → RightHead words pool × (size ≡ head_size words pool)
unfolding flaw wide strings bytes widths row_width
head_right [] pool size k = absurd (omega (arith, k.width))
head_right (a ∷ []) pool size k = absurd (omega (arith, k.width))
head_right (a ∷ n ∷ ws) pool size k =
    let r = sized-rights head_shape (a ∷ n ∷ ws) 0 pool size k in
    (record { width = omega (arith, k.width); small = k.small; async = r.0.1.1.0; params = r.0.1.1.1.1.1 }, omega (arith, r.1))

right_head : (words pool : List ℕ) → length words ≤ 16384 → RightHead words pool → measured head_shape words 0 pool ≡ Ok (head_size words pool)
unfolding flaw wide strings bytes widths row_width
right_head [] pool short k = absurd (omega (arith, k.width))
right_head (a ∷ []) pool short k = absurd (omega (arith, k.width))
right_head (a ∷ n ∷ ws) pool short k =
    sized-measured head_shape (a ∷ n ∷ ws) 0 pool (head_size (a ∷ n ∷ ws) pool)
    (rights-sized head_shape (a ∷ n ∷ ws) 0 pool (head_size (a ∷ n ∷ ws) pool) (omega (arith, k.width)) short k.small
    (refl, (refl, (k.async, (refl, (refl, k.params))))) (omega arith))

-- ---- the row

-- the words of n parameters, four each
data Fours : ℕ → List ℕ → Type 0 where
  no_more : Fours zero []
  four : {n : ℕ} {ws : List ℕ} (p q t y : ℕ) → Fours n ws → Fours (suc n) (p ∷ q ∷ t ∷ y ∷ ws)

fours : (n : ℕ) (ws : List ℕ) → length ws ≡ n * 4 → Fours n ws
fours zero [] e = no_more
fours zero (p ∷ ws) e = absurd (omega (arith, e))
fours (suc n) [] e = absurd (omega (arith, e))
fours (suc n) (p ∷ []) e = absurd (omega (arith, e))
fours (suc n) (p ∷ q ∷ []) e = absurd (omega (arith, e))
fours (suc n) (p ∷ q ∷ t ∷ []) e = absurd (omega (arith, e))
fours (suc n) (p ∷ q ∷ t ∷ y ∷ ws) e = four p q t y (fours n ws (omega (arith, e)))

-- the parameters, and the result behind them
module _ (pool : List ℕ) (tag x : ℕ) where
  abbrev both : List ℕ → List ℕ
  both ws = ws ++ tag ∷ x ∷ []

  split : {n : ℕ} {ws : List ℕ} → Fours n ws → Rights pool (groups n field.Result) (both ws)
      → Rights pool (groups n field.Nothing) ws × RightResult tag x
  unfolding flaw wide repeated named value
  split no_more r = ((refl, tt), r.0)
  split (four p q t y f) r = let k = split f r.1.1 in ((r.0, (r.1.0, k.0)), k.1)

  join : {n : ℕ} {ws : List ℕ} → Fours n ws → Rights pool (groups n field.Nothing) ws → RightResult tag x
      → Rights pool (groups n field.Result) (both ws)
  unfolding flaw wide repeated named value
  join no_more r h = (h, tt)
  join (four p q t y f) r h = (r.0, (r.1.0, join f r.1.1 h))

  both_size : {n : ℕ} {ws : List ℕ} → Fours n ws
      → length (strings pool (groups n field.Result) (both ws)) ≡ length (strings pool (groups n field.Nothing) ws) + length (resultlist tag x)
  unfolding strings bytes wide repeated
  both_size no_more = omega (arith, length-append (resultlist tag x) [])
  both_size (four p q t y f) = simp length-append (omega (arith, both_size f))

abbrev row_size : List ℕ → List ℕ → ℕ → ℕ → ℕ
row_size words pool tag x = head_size words pool + length (resultlist tag x)

row-right : (words pool : List ℕ) (tag x size : ℕ) → Sized function_shape (function_row words tag x) 1 pool size
    → RightHead words pool × RightResult tag x × (size ≡ row_size words pool tag x)
unfolding flaw wide strings bytes widths row_width
row-right [] pool tag x size k = absurd (omega (arith, k.width))
row-right (a ∷ []) pool tag x size k = absurd (omega (arith, k.width))
row-right (a ∷ n ∷ ws) pool tag x size k =
    let r = sized-rights function_shape (function_row (a ∷ n ∷ ws) tag x) 1 pool size k in
    let w : length ws ≡ n * 4 = omega (arith, k.width, length-append ws (tag ∷ x ∷ [])) in
    let f = fours n ws w in
    let c = split pool tag x f r.0.1.1.1.1.1 in
    let gs = groups n field.Result in
    let hs = groups n field.Nothing in (
      record { width = omega (arith, w); small = k.small; async = r.0.1.1.0; params = c.0 },
      c.1,
      omega (
        arith,
        r.1,
        length-append (unsigned n) (strings pool gs (ws ++ tag ∷ x ∷ [])),
        length-append (unsigned n) (strings pool hs ws),
        both_size pool tag x f,
      ),
    )

right-row : (words pool : List ℕ) (tag x : ℕ) → length words ≤ 16381 → RightHead words pool → RightResult tag x
    → Sized function_shape (function_row words tag x) 1 pool (row_size words pool tag x)
unfolding flaw wide strings bytes widths row_width
right-row [] pool tag x h rh rr = absurd (omega (arith, rh.width))
right-row (a ∷ []) pool tag x h rh rr = absurd (omega (arith, rh.width))
right-row (a ∷ n ∷ ws) pool tag x h rh rr =
    let w : length ws ≡ n * 4 = omega (arith, rh.width) in
    let f = fours n ws w in
    let l = length-append ws (tag ∷ x ∷ []) in
    let gs = groups n field.Result in
    let hs = groups n field.Nothing in
    rights-sized function_shape (function_row (a ∷ n ∷ ws) tag x) 1 pool (row_size (a ∷ n ∷ ws) pool tag x) (omega (arith, w, l)) (omega (arith, h, l))
    rh.small
    (refl, (refl, (rh.async, (refl, (refl, join pool tag x f rh.params rr)))))
    (omega (
      arith,
      length-append (unsigned n) (strings pool gs (ws ++ tag ∷ x ∷ [])),
      length-append (unsigned n) (strings pool hs ws),
      both_size pool tag x f,
    ))

-- ---- what is accepted

size_same : {m n : ℕ} → ◌≡◌ {A = Answer} (Ok m) (Ok n) → m ≡ n
size_same e = cc

-- what has a size and the room for it is accepted
stored_accepts : (s : Section) (body : List ℕ) (count : ℕ) (phase : Phase) (r : Answer) (bs : List ℕ) (size : ℕ) → r ≡ Ok size
    → s.used + size ≤ length body → Accepted (wrote s count phase (stored r bs body s.used))
unfolding stored
stored_accepts s body count phase r bs size e h =
    rw e
    (subst (λ b. Accepted (wrote s count phase (cond b (left (Ok size) (sets body s.used bs)) (answers.refuse refusal.Room size body))))
    (sym (le-leb (s.used + size) (length body) h)) tt)

shape_accepts : (s : Section) (body : List ℕ) (count : ℕ) (phase : Phase) (shape : Shape) (words pool : List ℕ) (size : ℕ)
    → measured shape words 0 pool ≡ Ok size → s.used + size ≤ length body
    → Accepted (wrote s count phase (write_shape shape words 0 pool body s.used))
unfolding write_shape
shape_accepts s body count phase shape words pool size e h =
    stored_accepts s body count phase (measured shape words 0 pool) (written shape pool words 0) size e h

-- the row: the tests of an opening, and then the parts
module _ (s : Section) (body : List ℕ) (words pool : List ℕ) (tag x : ℕ) where
  abbrev row : List ℕ
  row = function_row words tag x

  abbrev rowed_by : Bool → Bool → Bool → Bool → Bool → Turn
  rowed_by b c d e f =
      cond b
      (cond c (refuse s refusal.Limit body)
      (cond d (refuse s refusal.Limit body)
      (cond e (refuse s refusal.Order body)
      (cond f (refuse s refusal.Count body)
      (wrote s (s.count + 1) Closed (write_family s.family row pool body s.used))))))
      (refuse s refusal.Limit body)

  -- only the types have a kind 15
  row_types : (family size : ℕ) → measured_family family row pool ≡ Ok size → (family ≡ 7) × (measured_row (Some function_shape) row pool ≡ Ok size)
  unfolding measured_family measured_type measured_canonical measured_import measured_core_instance measured_instance shape_in
  row_types family size e = go (eqb family 7) refl (eqb family 8) (eqb family 10) (eqb family 2) (eqb family 5) e
    where
      unknown : measured_row None row pool ≡ Ok size → ⊥
      unknown e = let q = (whole.accepted None row pool size e).is in let z : ◌≡◌ {A = ℕ} 0 1 = cc in omega arith

      go : (b : Bool) → eqb family 7 ≡ b → (c d f g : Bool)
          → measured_by (cond b Types (cond c Canonicals (cond d Imports (cond f CoreInstances (cond g Instances None))))) row pool ≡ Ok size
          → (family ≡ 7) × (measured_row (Some function_shape) row pool ≡ Ok size)
      go true p c d f g e = (eqb-true _ _ p, e)
      go false p true d f g e = absurd (unknown e)
      go false p false true f g e = absurd (unknown e)
      go false p false false true g e = absurd (unknown e)
      go false p false false false true e = absurd (unknown e)
      go false p false false false false e = impossible cc

  row_tests : Accepted (rowing s row pool body) → s.family ≡ 7 → Ready s body
  unfolding rowing
  row_tests k t =
      go (sounds s (length body)) (ltb 16384 (length row)) (ltb 65536 (length pool)) (opened s.phase) (eqb s.count 4294967295) refl refl refl k
    where
      go : (b c d e f : Bool) → sounds s (length body) ≡ b → opened s.phase ≡ e → eqb s.count 4294967295 ≡ f
          → Accepted (rowed_by b c d e f) → Ready s body
      go true false false false false p q r k = record { sound = p; closed = is_closed s.phase q; few = r; types = t }
      go true false false false true p q r k = absurd k
      go true false false true f p q r k = absurd k
      go true false true e f p q r k = absurd k
      go true true d e f p q r k = absurd k
      go false c d e f p q r k = absurd k

  row_accepts : Ready s body → (size : ℕ) → Sized function_shape row 1 pool size → s.used + size ≤ length body → Accepted (rowing s row pool body)
  unfolding rowing measured_family measured_type shape_in widths wide
  row_accepts r size k h =
      let m : measured_family s.family row pool ≡ Ok size =
      ap (λ f. measured_family f row pool) r.types ∙ sized-accepted function_shape row pool size k in
      let closed : opened s.phase ≡ false = ap opened r.closed in
      let e : rowed_by (sounds s (length body)) (ltb 16384 (length row)) (ltb 65536 (length pool)) (opened s.phase) (eqb s.count 4294967295)
      ≡ rowed_by true false false false false =
      λ i. rowed_by (r.sound i) (le-ltb _ _ k.short i) (le-ltb _ _ k.small i) (closed i) (r.few i) in
      subst Accepted (sym e)
      (rw family-stored
      (stored_accepts s body (s.count + 1) Closed (measured_family s.family row pool) (family_bytes s.family pool row) size m h))

  -- what an accepted row says
  record RightRow : Type 0 where
    ready : Ready s body
    head : RightHead words pool
    result : RightResult tag x
    room : s.used + row_size words pool tag x ≤ length body

  RowSays : Accepted (rowing s row pool body) → RightRow
  RowSays k =
      let turns = row_turns s body row pool in
      let t = row_types s.family _ (accepted_size turns k) in
      let g = accepted_grows turns k in
      let found = whole.accepted (Some function_shape) row pool _ t.1 in
      let same : found.shape ≡ function_shape = cc in
      let parts = row-right words pool tag x _ (subst (λ z. Sized z row 1 pool (length (family_bytes s.family pool row))) same found.sized) in
      record {
        ready = row_tests k t.0;
        head = parts.0;
        result = parts.1;
        room = omega (arith, g.room, parts.2);
      }

  says_row : length words ≤ 16381 → RightRow → Accepted (rowing s row pool body)
  says_row h k = row_accepts k.ready (row_size words pool tag x) (right-row words pool tag x h k.head k.result) k.room

-- ---- the steps

-- each in its turn, where the section can stand over the body
module _ (t : Section) (new : List ℕ) (sound : sounds t (length new) ≡ true) (start : ℕ) where
  head_accepts : t.phase ≡ Opened start → (words pool : List ℕ) → length words ≤ 16384 → RightHead words pool
      → t.used + head_size words pool ≤ length new → Accepted (heading t words pool new)
  unfolding heading
  head_accepts p words pool short k h =
      rw (sound, le-ltb 16384 (length words) short, le-ltb 65536 (length pool) k.small, ap (λ q. head_in q t words pool new) p)
      (shape_accepts t new t.count (Headed start) head_shape words pool (head_size words pool) (right_head words pool short k) h)

  result_accepts : t.phase ≡ Headed start → (tag x : ℕ) → RightResult tag x → t.used + length (resultlist tag x) ≤ length new
      → Accepted (resulting t tag x new)
  unfolding resulting
  result_accepts p tag x r h =
      rw (sound, ap (λ q. result_in q t tag x new) p)
      (shape_accepts t new t.count Closed result_shape (tag ∷ x ∷ []) [] (length (resultlist tag x)) (right_result tag x r) h)

module _ (s : Section) (body : List ℕ) (words pool : List ℕ) (tag x : ℕ) (short : length words ≤ 16381) where
  abbrev t₀ : Section
  t₀ = (opening s body).gave.section

  abbrev b₀ : List ℕ
  b₀ = (opening s body).body

  steps_say : AllAccepted (by_steps words pool tag x) s body → RightRow s body words pool tag x
  steps_say k =
      let u = heading t₀ words pool b₀ in
      let g = accepted_grows (open_turns s body) k.0 in
      let head = head_turns t₀ b₀ g.stands words pool in
      let kh = head_right words pool _ (measured_sized head_shape words 0 pool refl _ (accepted_size head k.1.0)) in
      let h = accepted_grows head k.1.0 in
      let result = result_turns u.gave.section u.body h.stands tag x in
      let kr = result_right tag x _ (measured_sized result_shape (tag ∷ x ∷ []) 0 [] refl _ (accepted_size result k.1.1.0)) in
      let all = grows_then g (grows_then h (accepted_grows result k.1.1.0)) in
      let hs = written head_shape pool words 0 in
      let rs = written result_shape [] (tag ∷ x ∷ []) 0 in
      record {
        ready = open_ready s body k.0;
        head = kh.0;
        result = kr.0;
        room = omega (arith, all.room, length-append hs rs, kh.1, kr.1);
      }

  say_steps : RightRow s body words pool tag x → AllAccepted (by_steps words pool tag x) s body
  say_steps k =
      let u = heading t₀ words pool b₀ in
      let k₀ = ready_opens s body k.ready in
      let g = accepted_grows (open_turns s body) k₀ in
      let i = open-inside s body k₀ in
      let short' : length words ≤ 16384 = omega (arith, short) in
      let k₁ : Accepted (heading t₀ words pool b₀) =
      head_accepts t₀ b₀ (inside_sounds i (ap opened g.stands)) s.used g.stands words pool short' k.head
      (omega (arith, k.room, g.used, i.size)) in
      let turns = head_turns t₀ b₀ g.stands words pool in
      let n : head_size words pool ≡ length (written head_shape pool words 0) =
      size_same (sym (right_head words pool short' k.head) ∙ accepted_size turns k₁) in
      let h = accepted_grows turns k₁ in
      let j = grows_inside i h refl in (
        k₀,
        (
          k₁,
          (
            result_accepts u.gave.section u.body (inside_sounds j (ap opened h.stands)) s.used h.stands tag x k.result
                (omega (arith, k.room, g.used, h.used, n, j.size)),
            tt,
          ),
        ),
      )

  pub steps_accepted : AllAccepted (by_steps words pool tag x) s body ↔ AllAccepted (by_row words pool tag x) s body
  steps_accepted =
      ((λ k. (says_row s body words pool tag x short (steps_say k), tt)), (λ k. say_steps (RowSays s body words pool tag x k.0)))
