-- What is seen of a row's fields makes its size and its bytes, and what a row that has a size holds.
use Rattle.std.specs.Prelude.{Some, None, IfSome, Option}
use Rattle.fields.proofs.OutcomeLaws.{fine-same}
use Rattle.std.specs.Prelude.{Ok}
use Rattle.std.specs.Prelude.{Some}
use Rattle.std.specs.Prelude.{Option}
use Rattle.std.specs.Prelude.{Err}
use Prim.Native.Nat.{ℕ, zero, suc, ◌+◌, ◌*◌, ◌≤◌, ◌<◌}
use native.Mathlib.Omega.{arith}
use mathlib.Core.Path.{◌≡◌, refl, sym, ap, ◌∙◌, subst}
use mathlib.Core.Bool.{Bool, true, false, cond}
use mathlib.Core.List.{List, [], ◌∷◌, ◌++◌, append_assoc, append-nil}
use borrow.Author.Tests.{ltb-true, ltb-false, leb-true, leb-false, lt-ltb, le-leb, lt-leb, eq-eqb, ne_eqb}
use lib.Dec.{eqb, ltb, leb}
use lib.ListN.{length, drop, length-append}
use lib.Seq.{sets, drop-drop}
use Rattle.numbers.specs.Leb.{unsigned, signed}
use Rattle.numbers.proofs.LebLaws.{size_bounds}
use Rattle.fields.specs.Answer.{Refused}
use Rattle.fields.specs.declared.Field.{Field}
use Rattle.fields.specs.declared.Field.TheVariants as field
use Rattle.fields.specs.Flaw.{Flaw}
use Rattle.fields.specs.Flaw.{Right}
use Rattle.fields.specs.Leaf.{Fine}
use Rattle.fields.specs.declared.Refusal.{Refusal}
use Rattle.fields.specs.declared.Refusal.TheVariants.{Room}
use Rattle.fields.specs.declared.Shape.{Shape}
use Rattle.fields.specs.Words.{word, wide}
use Rattle.writing.specs.Binary.{primvaltype, valtype, optional, resultlist, destructor, bytes}
use Rattle.writing.specs.Judge.{value, optional_value, named, optional_index, flaw, unless, judge}
use Rattle.writing.specs.Row.{measured_row, row_bytes, write_row}
use Rattle.fields.specs.inside.Run.{along}
use Rattle.fields.specs.Shape.{opening, repeated, widths, row_width}
use Rattle.fields.specs.Table.{elements, two_of, many_of}
use Rattle.fields.specs.Walk.{next}
use Rattle.fields.specs.Answers.{left}
use Rattle.writing.specs.Write.{written, stored}
use Rattle.writing.proofs.AnswerLaws as answer
use Rattle.writing.proofs.FlawLaws.{name-inside}
use Rattle.fields.proofs.NearLaws.{first_word, second_word}
use Rattle.writing.proofs.PutLaws.{all_fields, judged_along}
use Rattle.writing.proofs.SizeLaws.{inside-length}
use Rattle.writing.proofs.TableLaws.{strings, written-right}
use Rattle.writing.proofs.WholeLaws.{Accepted, accepted, sized-accepted}
use Rattle.fields.proofs.WidthLaws.{repeated_widths}
use Rattle.writing.specs.Sizes.{within, size_if, right_size}
use Rattle.writing.specs.inside.Rows.{Known, Rights, Groups, Tried}
use Rattle.numbers.proofs.Impossible.{impossible}

-- ---- room

pub within-fits : (size at room : ℕ) → within size at room ≡ true → (0 < size) × (at + size ≤ room)
unfolding within
within-fits size at room e = go (ltb 0 size) refl e
  where
    go : (a : Bool) → ltb 0 size ≡ a → cond a (leb (at + size) room) false ≡ true → (0 < size) × (at + size ≤ room)
    go true p e = (ltb-true 0 size p, leb-true (at + size) room e)
    go false p e = impossible cc

pub within_not : (size at room : ℕ) → within size at room ≡ false → 0 < size → at + size ≤ room → ⊥
unfolding within
within_not size at room e h = go (ltb 0 size) refl e
  where
    go : (a : Bool) → ltb 0 size ≡ a → cond a (leb (at + size) room) false ≡ false → at + size ≤ room → ⊥
    go true p e k = omega (arith, leb-false (at + size) room e)
    go false p e k = omega (arith, ltb-false 0 size p)

-- ---- fields by their words

pub known_of : {pool : List ℕ} {f : Field} {ws : List ℕ} {r : ℕ} → Some r ≡ right_size pool f ws → Known pool f ws r
unfolding right_size
known_of {pool} {f} {ws} {r} e = go (flaw pool f ws) refl e
  where
    go : (x : Flaw) → flaw pool f ws ≡ x → Some r ≡ size_if x (length (bytes pool f ws)) → Known pool f ws r
    go Right p e = record { right = p; size = cc }
    go (Err fault) p e = impossible cc

-- a value does not look at the pool
pub value-known : {t x r : ℕ} → Some r ≡ right_size [] field.Value (t ∷ x ∷ []) → (pool : List ℕ) → Known pool field.Value (t ∷ x ∷ []) r
unfolding flaw bytes
value-known {t} {x} {r} e pool =
    let s : Known [] field.Value (t ∷ x ∷ []) r = known_of e in
    record { right = s.right; size = s.size }

pub valtype-small : (t x : ℕ) → length (valtype t x) ≤ 5
unfolding valtype
valtype-small t x = go (eqb t 0)
  where
    go : (b : Bool) → length (cond b (primvaltype x ∷ []) (signed x)) ≤ 5
    go true = omega arith
    go false = (size_bounds 64 x).1

pub value-small : (t x : ℕ) → IfSome (right_size [] field.Value (t ∷ x ∷ [])) (λ n. n ≤ 5)
unfolding right_size bytes
value-small t x = go (flaw [] field.Value (t ∷ x ∷ []))
  where
    go : (y : Flaw) → IfSome (size_if y (length (valtype t x))) (λ n. n ≤ 5)
    go Right = valtype-small t x
    go (Err fault) = tt

pub name_small : (pool : List ℕ) (s n : ℕ) → length pool ≤ 65536 → IfSome (right_size pool field.Name (s ∷ n ∷ [])) (λ r. r ≤ 65541)
unfolding right_size bytes flaw
name_small pool s n few = go (flaw pool field.Name (s ∷ n ∷ [])) refl
  where
    go : (y : Flaw) → flaw pool field.Name (s ∷ n ∷ []) ≡ y → IfSome (size_if y (length (bytes pool field.Name (s ∷ n ∷ [])))) (λ r. r ≤ 65541)
    go Right e =
        let h = name-inside pool (s ∷ n ∷ []) 0 e in
        omega (arith, inside-length pool s n h, (size_bounds 128 n).1)
    go (Err fault) e = tt

-- an optional value: right, and how many bytes it has
module _ (t x : ℕ) where
  pub none_right : t ≡ 2 → x ≡ 0 → optional_value (t ∷ x ∷ []) 0 ≡ Right
  unfolding optional_value
  none_right e z = simp (eq-eqb _ _ e, eq-eqb _ _ z)

  pub some_right : (t ≡ 2 → ⊥) → (pool : List ℕ) → flaw pool field.Value (t ∷ x ∷ []) ≡ Right → optional_value (t ∷ x ∷ []) 0 ≡ Right
  unfolding optional_value flaw
  some_right n pool e = simp (ne_eqb _ _ n) e

  pub optional_none : t ≡ 2 → length (optional t x) ≡ 1
  unfolding optional
  optional_none e = simp (eq-eqb _ _ e)

  pub optional_some : (t ≡ 2 → ⊥) → length (optional t x) ≡ 1 + length (valtype t x)
  unfolding optional
  optional_some n = simp (ne_eqb _ _ n) (omega arith)

  pub result_none : t ≡ 2 → length (resultlist t x) ≡ 2
  unfolding resultlist
  result_none e = simp (eq-eqb _ _ e)

  pub result_some : (t ≡ 2 → ⊥) → length (resultlist t x) ≡ 1 + length (valtype t x)
  unfolding resultlist
  result_some n = simp (ne_eqb _ _ n) (omega arith)

  module _ (pool : List ℕ) where
    pub optional_known : {r : ℕ} → optional_value (t ∷ x ∷ []) 0 ≡ Right → r ≡ length (optional t x) → Known pool field.Optional (t ∷ x ∷ []) r
    unfolding flaw bytes
    optional_known e s = record { right = e; size = s }

    pub case_known : {r : ℕ} → optional_value (t ∷ x ∷ []) 0 ≡ Right → r ≡ length (optional t x) + 1 → Known pool field.OptionalThenZero (t ∷ x ∷ []) r
    unfolding flaw bytes
    case_known e s = record { right = e; size = s ∙ sym (length-append (optional t x) (0x00 ∷ [])) }

    pub result_known : {r : ℕ} → optional_value (t ∷ x ∷ []) 0 ≡ Right → r ≡ length (resultlist t x) → Known pool field.Result (t ∷ x ∷ []) r
    unfolding flaw bytes
    result_known e s = record { right = e; size = s }

    -- absent, and present
    pub optional_absent : t ≡ 2 → x ≡ 0 → Known pool field.Optional (t ∷ x ∷ []) 1
    optional_absent e z = optional_known (none_right e z) (sym (optional_none e))

    pub case_absent : t ≡ 2 → x ≡ 0 → Known pool field.OptionalThenZero (t ∷ x ∷ []) 2
    case_absent e z = case_known (none_right e z) (omega (arith, optional_none e))

    pub result_absent : t ≡ 2 → x ≡ 0 → Known pool field.Result (t ∷ x ∷ []) 2
    result_absent e z = result_known (none_right e z) (sym (result_none e))

    module _ (n : t ≡ 2 → ⊥) {r : ℕ} (s : Known pool field.Value (t ∷ x ∷ []) r) where
      value_length : r ≡ length (valtype t x)
      unfolding bytes
      value_length = s.size

      pub optional_present : Known pool field.Optional (t ∷ x ∷ []) (1 + r)
      optional_present = optional_known (some_right n pool s.right) (omega (arith, value_length, optional_some n))

      pub case_present : Known pool field.OptionalThenZero (t ∷ x ∷ []) (2 + r)
      case_present = case_known (some_right n pool s.right) (omega (arith, value_length, optional_some n))

      pub result_present : Known pool field.Result (t ∷ x ∷ []) (1 + r)
      result_present = result_known (some_right n pool s.right) (omega (arith, value_length, result_some n))

    pub destructor_absent : t ≡ 0 → x ≡ 0 → Known pool field.OptionalIndex (t ∷ x ∷ []) 1
    unfolding flaw optional_index bytes destructor
    destructor_absent e z = record { right = simp (eq-eqb _ _ e, eq-eqb _ _ z); size = simp (eq-eqb _ _ e) }

    pub destructor_present : t ≡ 1 → {r : ℕ} → r ≡ length (unsigned x) → Known pool field.OptionalIndex (t ∷ x ∷ []) (1 + r)
    unfolding flaw optional_index bytes destructor
    destructor_present e {r} er =
        let n : t ≡ 0 → ⊥ = λ z. omega arith in
        record { right = simp (ne_eqb _ _ n, eq-eqb _ _ e); size = simp (ne_eqb _ _ n) (omega arith) }

-- ---- fields at their places, of which code has the words

module _ (pool row : List ℕ) (at : ℕ) {a b r : ℕ} (ea : a ≡ word row at) (eb : b ≡ word row (at + 1)) where
  moved : (f : Field) → Known pool f (a ∷ b ∷ []) r → Known pool f (word (drop at row) 0 ∷ word (drop at row) 1 ∷ []) r
  moved f s =
      let x = ea ∙ first_word row at in
      let y = eb ∙ second_word row at in
      subst (λ l. Known pool f l r) (λ i. x i ∷ y i ∷ []) s

  pub value_at_lem : Known pool field.Value (a ∷ b ∷ []) r → Known pool field.Value (drop at row) r
  unfolding flaw value bytes
  value_at_lem s = let t = moved field.Value s in record { right = t.right; size = t.size }

  pub name_at_lem : Known pool field.Name (a ∷ b ∷ []) r → Known pool field.Name (drop at row) r
  unfolding flaw named bytes
  name_at_lem s = let t = moved field.Name s in record { right = t.right; size = t.size }

  pub optional_at : Known pool field.Optional (a ∷ b ∷ []) r → Known pool field.Optional (drop at row) r
  unfolding flaw optional_value value bytes
  optional_at s = let t = moved field.Optional s in record { right = t.right; size = t.size }

  pub case_at : Known pool field.OptionalThenZero (a ∷ b ∷ []) r → Known pool field.OptionalThenZero (drop at row) r
  unfolding flaw optional_value value bytes
  case_at s = let t = moved field.OptionalThenZero s in record { right = t.right; size = t.size }

  pub result_at : Known pool field.Result (a ∷ b ∷ []) r → Known pool field.Result (drop at row) r
  unfolding flaw optional_value value bytes
  result_at s = let t = moved field.Result s in record { right = t.right; size = t.size }

  pub destructor_at : Known pool field.OptionalIndex (a ∷ b ∷ []) r → Known pool field.OptionalIndex (drop at row) r
  unfolding flaw optional_index bytes
  destructor_at s = let t = moved field.OptionalIndex s in record { right = t.right; size = t.size }

module _ (pool row : List ℕ) (at : ℕ) {a : ℕ} (ea : a ≡ word row at) where
  pub index_at : {r : ℕ} → r ≡ length (unsigned a) → Known pool field.Index (drop at row) r
  unfolding flaw bytes
  index_at er = record { right = refl; size = er ∙ ap (λ n. length (unsigned n)) (ea ∙ first_word row at) }

  low : (n : ℕ) → a < n → word (drop at row) 0 < n
  low n h = omega (arith, ea, first_word row at)

  pub async_at : a < 2 → Known pool field.Async (drop at row) 1
  unfolding flaw bytes
  async_at h = record { right = simp (lt-ltb _ _ (low 2 h)); size = refl }

  pub rep_at : a < 2 → Known pool field.Rep (drop at row) 1
  unfolding flaw bytes
  rep_at h = record { right = simp (lt-ltb _ _ (low 2 h)); size = refl }

  pub primitive_at : a < 14 → Known pool field.Primitive (drop at row) 1
  unfolding flaw bytes
  primitive_at h = record { right = simp (lt-ltb _ _ (low 14 h)); size = refl }

pub nothing_at : (pool ws : List ℕ) → Known pool field.Nothing ws 0
unfolding flaw bytes
nothing_at pool ws = record { right = refl; size = refl }

pub fixed_at : (pool ws : List ℕ) (b : ℕ) → Known pool (field.Fixed b) ws 1
unfolding flaw bytes
fixed_at pool ws b = record { right = refl; size = refl }

-- ---- fields and then others

pub strings-append : (pool : List ℕ) (fs gs : List Field) (ws : List ℕ)
    → strings pool (fs ++ gs) ws ≡ strings pool fs ws ++ strings pool gs (drop (widths fs) ws)
unfolding strings widths
strings-append pool [] gs ws = refl
strings-append pool (f ∷ fs) gs ws =
    ap (λ l. bytes pool f ws ++ l)
    (strings-append pool fs gs (drop (wide f) ws)
    ∙ ap (λ l. strings pool fs (drop (wide f) ws) ++ strings pool gs l) (drop-drop (widths fs) (wide f) ws))
    ∙ sym (append_assoc (bytes pool f ws) (strings pool fs (drop (wide f) ws)) (strings pool gs (drop (wide f + widths fs) ws)))

pub rights-first : (pool : List ℕ) (fs gs : List Field) (ws : List ℕ) → Rights pool (fs ++ gs) ws → Rights pool fs ws
unfolding Rights
rights-first pool [] gs ws r = tt
rights-first pool (f ∷ fs) gs ws r = (r.0, rights-first pool fs gs (drop (wide f) ws) r.1)

pub rights-rest : (pool : List ℕ) (fs gs : List Field) (ws : List ℕ) → Rights pool (fs ++ gs) ws → Rights pool gs (drop (widths fs) ws)
unfolding Rights widths
rights-rest pool [] gs ws r = r
rights-rest pool (f ∷ fs) gs ws r =
    subst (λ l. Rights pool gs l) (drop-drop (widths fs) (wide f) ws) (rights-rest pool fs gs (drop (wide f) ws) r.1)

pub rights_join : (pool : List ℕ) (fs gs : List Field) (ws : List ℕ) → Rights pool fs ws → Rights pool gs (drop (widths fs) ws)
    → Rights pool (fs ++ gs) ws
unfolding Rights widths
rights_join pool [] gs ws a b = b
rights_join pool (f ∷ fs) gs ws a b = (
  a.0,
  rights_join pool fs gs (drop (wide f) ws) a.1 (subst (λ l. Rights pool gs l) (sym (drop-drop (widths fs) (wide f) ws)) b),
)

pub one-wide : (f : Field) → widths (f ∷ []) ≡ wide f
unfolding widths
one-wide f = omega arith

pub two-wide : (f g : Field) → widths (f ∷ g ∷ []) ≡ wide f + wide g
unfolding widths
two-wide f g = omega arith

-- n groups, their bytes being elements
pub group-strings : (pool : List ℕ) (g : List Field) (element : List ℕ → List ℕ) → ((ws : List ℕ) → element ws ≡ strings pool g ws)
    → (n : ℕ) (ws : List ℕ) → strings pool (repeated n g) ws ≡ elements n (widths g) element ws
unfolding strings repeated elements
group-strings pool g element same zero ws = refl
group-strings pool g element same (suc n) ws =
    strings-append pool g (repeated n g) ws
    ∙ (λ i. sym (same ws) i ++ group-strings pool g element same n (drop (widths g) ws) i)

-- and no field behind them
pub only-groups : (pool : List ℕ) (g : List Field) (element : List ℕ → List ℕ) → ((ws : List ℕ) → element ws ≡ strings pool g ws)
    → (n : ℕ) (ws : List ℕ) → strings pool (repeated n g ++ field.Nothing ∷ []) ws ≡ elements n (widths g) element ws
unfolding strings bytes
only-groups pool g element same n ws =
    strings-append pool (repeated n g) (field.Nothing ∷ []) ws ∙ append-nil _ ∙ group-strings pool g element same n ws

-- ---- rows that have a size

along-known : (pool : List ℕ) (fs : List Field) (ws : List ℕ) (at made : ℕ) → Rights pool fs ws
    → along (judge pool) fs ws at made ≡ Fine (at + widths fs) (made + length (strings pool fs ws))
unfolding along judge Rights strings widths
along-known pool [] ws at made r =
    let p : at ≡ at + 0 = omega arith in
    let q : made ≡ made + 0 = omega arith in
    λ i. Fine (p i) (q i)
along-known pool (f ∷ fs) ws at made r =
    let bs = bytes pool f ws in
    let rest = strings pool fs (drop (wide f) ws) in
    let p : at + wide f + widths fs ≡ at + (wide f + widths fs) = omega arith in
    let q : made + length bs + length rest ≡ made + length (bs ++ rest) = omega (arith, length-append bs rest) in
    rw r.0 (along-known pool fs (drop (wide f) ws) (at + wide f) (made + length bs) r.1 ∙ (λ i. Fine (p i) (q i)))

pub row-known : (s : Shape) (pool row : List ℕ) → length pool ≤ 65536 → length row ≤ 16384 → length row ≡ row_width s row 1
    → Rights pool (all_fields s row 1) (drop 1 row) → {r : ℕ} → r ≡ length (strings pool (all_fields s row 1) (drop 1 row))
    → measured_row (Some s) row pool ≡ Ok r
row-known s pool row small short width rights {r} er =
    sized-accepted s row pool r
    (record { width = sym width; short = short; small = small; end = _; judges = judged_along s pool row 1 ∙ all })
  where
    same : 0 + length (strings pool (all_fields s row 1) (drop 1 row)) ≡ r
    same = omega arith

    all : along (judge pool) (all_fields s row 1) (drop 1 row) 1 0 ≡ Fine (1 + widths (all_fields s row 1)) r
    all = along-known pool (all_fields s row 1) (drop 1 row) 1 0 rights ∙ ap (λ m. Fine (1 + widths (all_fields s row 1)) m) same

-- ---- what a row that has a size holds

along-rights : (pool : List ℕ) (fs : List Field) (ws : List ℕ) (at made a m : ℕ) → along (judge pool) fs ws at made ≡ Fine a m → Rights pool fs ws
unfolding along judge Rights
along-rights pool [] ws at made a m e = tt
along-rights pool (f ∷ fs) ws at made a m e =
    go (flaw pool f ws) refl e (along-rights pool fs (drop (wide f) ws) (at + wide f) (made + length (bytes pool f ws)) a m)
  where
    go : (x : Flaw) → flaw pool f ws ≡ x
        → next (unless x (Fine (wide f) (length (bytes pool f ws)))) (λ t k. along (judge pool) fs (drop t ws) (at + t) (made + k)) at ≡ Fine a m
        → (along (judge pool) fs (drop (wide f) ws) (at + wide f) (made + length (bytes pool f ws)) ≡ Fine a m → Rights pool fs (drop (wide f) ws))
        → (flaw pool f ws ≡ Right) × Rights pool fs (drop (wide f) ws)
    go Right p e ih = (p, ih e)
    go (Err fault) p e ih = impossible cc

pub record Held (s : Shape) (row pool : List ℕ) (n : ℕ) : Type 0 where
  pub width : length row ≡ row_width s row 1
  pub short : length row ≤ 16384
  pub small : length pool ≤ 65536
  pub right : Rights pool (all_fields s row 1) (drop 1 row)
  pub size : n ≡ length (strings pool (all_fields s row 1) (drop 1 row))
  pub made : written s pool row 1 ≡ strings pool (all_fields s row 1) (drop 1 row)
  pub bytes : row_bytes (Some s) pool row ≡ strings pool (all_fields s row 1) (drop 1 row)

module _ (s : Shape) (row pool : List ℕ) {n : ℕ} (e : measured_row (Some s) row pool ≡ Ok n) where
  shaped : answer.Sized s row 1 pool n
  shaped = go (accepted (Some s) row pool n e)
    where
      go : Accepted (Some s) row pool n → answer.Sized s row 1 pool n
      go k = let h = k.is in let same : k.shape ≡ s = cc in subst (λ x. answer.Sized x row 1 pool n) same k.sized

  all : along (judge pool) (all_fields s row 1) (drop 1 row) 1 0 ≡ Fine shaped.end n
  all = sym (judged_along s pool row 1) ∙ shaped.judges

  rights : Rights pool (all_fields s row 1) (drop 1 row)
  rights = along-rights pool (all_fields s row 1) (drop 1 row) 1 0 shaped.end n all

  length_is : n ≡ length (strings pool (all_fields s row 1) (drop 1 row))
  length_is =
      let h = sym all ∙ along-known pool (all_fields s row 1) (drop 1 row) 1 0 rights in
      let q : n ≡ 0 + length (strings pool (all_fields s row 1) (drop 1 row)) = (fine-same h).1 in
      omega arith

  all_made : written s pool row 1 ≡ strings pool (all_fields s row 1) (drop 1 row)
  all_made = written-right s pool row 1 shaped.end n shaped.judges

  pub row_held : Held s row pool n
  unfolding row_bytes
  row_held =
      record {
        width = sym shaped.width;
        short = shaped.short;
        small = shaped.small;
        right = rights;
        size = length_is;
        made = all_made;
        bytes = all_made;
      }

-- ---- answers

module _ (found : Option Shape) (row pool : List ℕ) where
  module _ {n : ℕ} (e : measured_row found row pool ≡ Ok n) (out : List ℕ) (at : ℕ) where
    pub written_answer : at + n ≤ length out → {new : List ℕ} → new ≡ sets out at (row_bytes found pool row)
        → left (Ok n) new ≡ write_row found row pool out at
    unfolding write_row stored
    written_answer h p = rw e (simp (le-leb _ _ h) (ap (λ l. left (Ok n) l) p))

    pub room_answer : (at + n ≤ length out → ⊥) → left (Refused Room n) out ≡ write_row found row pool out at
    unfolding write_row stored
    room_answer h = let k : length out < at + n = not_room (leb (at + n) (length out)) refl in rw e (simp (lt-leb _ _ k))
      where
        not_room : (b : Bool) → leb (at + n) (length out) ≡ b → length out < at + n
        not_room true p = absurd (h (leb-true (at + n) (length out) p))
        not_room false p = leb-false (at + n) (length out) p

    pub tried_some : 0 < n → at + n ≤ length out → {new : List ℕ} → new ≡ sets out at (row_bytes found pool row)
        → Tried found row pool out at (Some n) new
    tried_some some h {new} p = record { none = λ z. impossible cc; some = λ m q. let same : n ≡ m = cc in subst (λ k. left (Ok k) new ≡ write_row found row pool out at) same (written_answer h p) }

  pub refused_answer : {w : Refusal} {v : ℕ} → measured_row found row pool ≡ Refused w v → (out : List ℕ) (at : ℕ)
      → left (Refused w v) out ≡ write_row found row pool out at
  unfolding write_row stored
  refused_answer e out at = rw e

pub tried_none : (found : Option Shape) (row pool out : List ℕ) (at : ℕ) → Tried found row pool out at None out
tried_none found row pool out at = record { none = λ z. refl; some = λ n h. impossible cc }

-- ---- what stands behind a lead and a byte, which have no words and are always right

abbrev Always : List ℕ → Field → Type 0
Always pool f = (ws : List ℕ) → flaw pool f ws ≡ Right

at_first : (l z : Field) → wide l ≡ 0 → wide z ≡ 0 → (ws : List ℕ) → drop (wide z) (drop (wide l) ws) ≡ ws
at_first l z el ez ws = ap (λ k. drop (wide z) (drop k ws)) el ∙ ap (λ k. drop k ws) ez

at_second : (l z a : Field) → wide l ≡ 0 → wide z ≡ 0 → (row : List ℕ)
    → drop (wide a) (drop (wide z) (drop (wide l) (drop 1 row))) ≡ drop (1 + wide a) row
at_second l z a el ez row = ap (λ v. drop (wide a) v) (at_first l z el ez (drop 1 row)) ∙ drop-drop (wide a) 1 row

-- ---- two fields

pub record TwoHeld (l z a b : Field) (row pool : List ℕ) (n : ℕ) : Type 0 where
  pub width : length row ≡ 1 + wide a + wide b
  pub short : length row ≤ 16384
  pub small : length pool ≤ 65536
  pub first : flaw pool a (drop 1 row) ≡ Right
  pub second : flaw pool b (drop (1 + wide a) row) ≡ Right
  pub size : n ≡ length (bytes pool l (drop 1 row)) + length (bytes pool z (drop 1 row)) + length (bytes pool a (drop 1 row))
      + length (bytes pool b (drop (1 + wide a) row))
  pub made : row_bytes (Some (two_of l z a b)) pool row
      ≡ bytes pool l (drop 1 row) ++ (bytes pool z (drop 1 row) ++ (bytes pool a (drop 1 row) ++ bytes pool b (drop (1 + wide a) row)))

module _ (l z a b : Field) (el : wide l ≡ 0) (ez : wide z ≡ 0) (row pool : List ℕ) where
  pub two_strings : strings pool (all_fields (two_of l z a b) row 1) (drop 1 row)
      ≡ bytes pool l (drop 1 row) ++ (bytes pool z (drop 1 row) ++ (bytes pool a (drop 1 row) ++ bytes pool b (drop (1 + wide a) row)))
  unfolding strings bytes
  two_strings =
      (λ i. bytes pool l (drop 1 row)
      ++ (bytes pool z (drop (el i) (drop 1 row))
      ++ (bytes pool a (at_first l z el ez (drop 1 row) i) ++ (bytes pool b (at_second l z a el ez row i) ++ []))))
      ∙ ap (λ v. bytes pool l (drop 1 row) ++ (bytes pool z (drop 1 row) ++ (bytes pool a (drop 1 row) ++ v)))
      (append-nil (bytes pool b (drop (1 + wide a) row)))

  two_length : length (strings pool (all_fields (two_of l z a b) row 1) (drop 1 row))
      ≡ length (bytes pool l (drop 1 row)) + length (bytes pool z (drop 1 row)) + length (bytes pool a (drop 1 row))
      + length (bytes pool b (drop (1 + wide a) row))
  two_length =
      let x = bytes pool l (drop 1 row) in
      let y = bytes pool z (drop 1 row) in
      let u = bytes pool a (drop 1 row) in
      let v = bytes pool b (drop (1 + wide a) row) in
      omega (arith, ap length two_strings, length-append x (y ++ (u ++ v)), length-append y (u ++ v), length-append u v)

  two_width : row_width (two_of l z a b) row 1 ≡ 1 + wide a + wide b
  unfolding row_width widths wide
  two_width = omega (arith, el, ez)

  pub two_known : Always pool l → Always pool z → length pool ≤ 65536 → length row ≤ 16384 → length row ≡ 1 + wide a + wide b
      → {p q r : ℕ} → Known pool a (drop 1 row) p → Known pool b (drop (1 + wide a) row) q
      → r ≡ length (bytes pool l (drop 1 row)) + length (bytes pool z (drop 1 row)) + p + q
      → measured_row (Some (two_of l z a b)) row pool ≡ Ok r
  unfolding Rights flaw
  two_known rl rz small short width sa sb er =
      row-known (two_of l z a b) pool row small short (width ∙ sym two_width) (
        rl (drop 1 row),
        (
          rz (drop (wide l) (drop 1 row)),
          (
            subst (λ v. flaw pool a v ≡ Right) (sym (at_first l z el ez (drop 1 row))) sa.right,
            (subst (λ v. flaw pool b v ≡ Right) (sym (at_second l z a el ez row)) sb.right, (refl, tt)),
          ),
        ),
      )
      (omega (arith, two_length, sa.size, sb.size))

  pub two_held : {n : ℕ} → measured_row (Some (two_of l z a b)) row pool ≡ Ok n → TwoHeld l z a b row pool n
  unfolding Rights
  two_held e =
      let h = row_held (two_of l z a b) row pool e in
      record {
        width = h.width ∙ two_width;
        short = h.short;
        small = h.small;
        first = subst (λ v. flaw pool a v ≡ Right) (at_first l z el ez (drop 1 row)) h.right.1.1.0;
        second = subst (λ v. flaw pool b v ≡ Right) (at_second l z a el ez row) h.right.1.1.1.0;
        size = h.size ∙ two_length;
        made = h.bytes ∙ two_strings;
      }

-- two fields of a shape behind the bytes `head`
pub record PairHeld (s : Shape) (head : List ℕ) (a b : Field) (row pool : List ℕ) (n : ℕ) : Type 0 where
  pub width : length row ≡ 1 + wide a + wide b
  pub short : length row ≤ 16384
  pub small : length pool ≤ 65536
  pub first : flaw pool a (drop 1 row) ≡ Right
  pub second : flaw pool b (drop (1 + wide a) row) ≡ Right
  pub size : n ≡ length head + length (bytes pool a (drop 1 row)) + length (bytes pool b (drop (1 + wide a) row))
  pub made : row_bytes (Some s) pool row ≡ head ++ (bytes pool a (drop 1 row) ++ bytes pool b (drop (1 + wide a) row))

-- a byte and two fields
module _ (lead : ℕ) (a b : Field) (row pool : List ℕ) where
  pub lead_known : length pool ≤ 65536 → length row ≤ 16384 → length row ≡ 1 + wide a + wide b
      → {p q r : ℕ} → Known pool a (drop 1 row) p → Known pool b (drop (1 + wide a) row) q → r ≡ 1 + p + q
      → measured_row (Some (two_of (field.Fixed lead) field.Nothing a b)) row pool ≡ Ok r
  unfolding wide flaw bytes
  lead_known small short width sa sb er =
      two_known (field.Fixed lead) field.Nothing a b refl refl row pool (λ ws. refl) (λ ws. refl) small short width sa sb (omega arith)

  pub lead_held : {n : ℕ} → measured_row (Some (two_of (field.Fixed lead) field.Nothing a b)) row pool ≡ Ok n
      → PairHeld (two_of (field.Fixed lead) field.Nothing a b) (lead ∷ []) a b row pool n
  unfolding wide bytes
  lead_held e =
      let h = two_held (field.Fixed lead) field.Nothing a b refl refl row pool e in
      record {
        width = h.width;
        short = h.short;
        small = h.small;
        first = h.first;
        second = h.second;
        size = omega (arith, h.size);
        made = h.made;
      }

-- two fields alone
module _ (a b : Field) (row pool : List ℕ) where
  pub bare_known : length pool ≤ 65536 → length row ≤ 16384 → length row ≡ 1 + wide a + wide b
      → {p q r : ℕ} → Known pool a (drop 1 row) p → Known pool b (drop (1 + wide a) row) q → r ≡ p + q
      → measured_row (Some (two_of field.Nothing field.Nothing a b)) row pool ≡ Ok r
  unfolding wide flaw bytes
  bare_known small short width sa sb er =
      two_known field.Nothing field.Nothing a b refl refl row pool (λ ws. refl) (λ ws. refl) small short width sa sb (omega arith)

  pub bare_held : {n : ℕ} → measured_row (Some (two_of field.Nothing field.Nothing a b)) row pool ≡ Ok n
      → PairHeld (two_of field.Nothing field.Nothing a b) [] a b row pool n
  unfolding wide bytes
  bare_held e =
      let h = two_held field.Nothing field.Nothing a b refl refl row pool e in
      record {
        width = h.width;
        short = h.short;
        small = h.small;
        first = h.first;
        second = h.second;
        size = omega (arith, h.size);
        made = h.made;
      }

-- ---- a field, a count and as many groups of two fields, w words each, and a last field

pub record ManyHeld (l z a c d t : Field) (w : ℕ) (element : List ℕ → List ℕ) (row pool : List ℕ) (n : ℕ) : Type 0 where
  pub width : length row ≡ 2 + wide a + word row (1 + wide a) * w + wide t
  pub short : length row ≤ 16384
  pub small : length pool ≤ 65536
  pub first : flaw pool a (drop 1 row) ≡ Right
  pub groups : Rights pool (repeated (word row (1 + wide a)) (c ∷ d ∷ [])) (drop (2 + wide a) row)
  pub last : flaw pool t (drop (2 + wide a + word row (1 + wide a) * w) row) ≡ Right
  pub size : n ≡ length (bytes pool l (drop 1 row)) + length (bytes pool z (drop 1 row)) + length (bytes pool a (drop 1 row))
      + length (unsigned (word row (1 + wide a))) + length (elements (word row (1 + wide a)) w element (drop (2 + wide a) row))
      + length (bytes pool t (drop (2 + wide a + word row (1 + wide a) * w) row))
  pub made : row_bytes (Some (many_of l z a c d t)) pool row
      ≡ bytes pool l (drop 1 row)
      ++ (bytes pool z (drop 1 row)
      ++ (bytes pool a (drop 1 row)
      ++ (unsigned (word row (1 + wide a))
      ++ (elements (word row (1 + wide a)) w element (drop (2 + wide a) row) ++ bytes pool t (drop (2 + wide a + word row (1 + wide a) * w) row)))))

module _ (l z a c d t : Field) (el : wide l ≡ 0) (ez : wide z ≡ 0) {w : ℕ} (ew : w ≡ widths (c ∷ d ∷ [])) (row pool : List ℕ) where
  abbrev N : ℕ
  N = word row (1 + wide a)

  abbrev G : List Field
  G = repeated (word row (1 + wide a)) (c ∷ d ∷ [])

  abbrev X : List ℕ
  X = drop (2 + wide a) row

  abbrev Y : List ℕ
  Y = drop (2 + wide a + word row (1 + wide a) * w) row

  many_place : 1 + widths (opening (many_of l z a c d t)) ≡ 1 + wide a
  unfolding widths wide
  many_place = omega (arith, el, ez)

  many_count : word row (1 + widths (opening (many_of l z a c d t))) ≡ N
  many_count = ap (λ k. word row k) many_place

  many_width : row_width (many_of l z a c d t) row 1 ≡ 2 + wide a + N * w + wide t
  unfolding row_width
  many_width = omega (arith, many_place, product, one)
    where
      product : word row (1 + widths (opening (many_of l z a c d t))) * widths (c ∷ d ∷ []) ≡ N * w
      product = λ i. many_count i * sym ew i

      one : widths (t ∷ []) ≡ wide t
      one = one-wide t

  at_groups : drop 1 (drop (wide a) (drop (wide z) (drop (wide l) (drop 1 row)))) ≡ X
  at_groups =
      let p : 1 + wide a + 1 ≡ 2 + wide a = omega arith in
      ap (λ v. drop 1 v) (at_second l z a el ez row) ∙ drop-drop 1 (1 + wide a) row ∙ ap (λ k. drop k row) p

  at_last : drop (widths G) X ≡ Y
  at_last =
      let p : widths G ≡ N * w = repeated_widths (c ∷ d ∷ []) N ∙ ap (λ k. N * k) (sym ew) in
      drop-drop (widths G) (2 + wide a) row ∙ ap (λ k. drop (2 + wide a + k) row) p

  behind : strings pool (G ++ t ∷ []) X ≡ strings pool G X ++ bytes pool t Y
  unfolding strings
  behind =
      strings-append pool G (t ∷ []) X
      ∙ ap (λ v. strings pool G X ++ v) (append-nil (bytes pool t (drop (widths G) X)) ∙ ap (λ v. bytes pool t v) at_last)

  many_strings : strings pool (all_fields (many_of l z a c d t) row 1) (drop 1 row)
      ≡ bytes pool l (drop 1 row)
      ++ (bytes pool z (drop 1 row) ++ (bytes pool a (drop 1 row) ++ (unsigned N ++ (strings pool G X ++ bytes pool t Y))))
  unfolding strings bytes wide
  many_strings =
      (λ i. bytes pool l (drop 1 row)
      ++ (bytes pool z (drop (el i) (drop 1 row))
      ++ (bytes pool a (at_first l z el ez (drop 1 row) i)
      ++ (unsigned (word (at_second l z a el ez row i) 0) ++ strings pool (repeated (many_count i) (c ∷ d ∷ []) ++ t ∷ []) (at_groups i)))))
      ∙ (λ i. bytes pool l (drop 1 row)
      ++ (bytes pool z (drop 1 row) ++ (bytes pool a (drop 1 row) ++ (unsigned (sym (first_word row (1 + wide a)) i) ++ behind i))))

  many_length : length (strings pool (all_fields (many_of l z a c d t) row 1) (drop 1 row))
      ≡ length (bytes pool l (drop 1 row)) + length (bytes pool z (drop 1 row)) + length (bytes pool a (drop 1 row)) + length (unsigned N)
      + length (strings pool G X) + length (bytes pool t Y)
  many_length =
      let x = bytes pool l (drop 1 row) in
      let y = bytes pool z (drop 1 row) in
      let u = bytes pool a (drop 1 row) in
      let v = unsigned N in
      let g = strings pool G X in
      let e = bytes pool t Y in
      omega (
        arith,
        ap length many_strings,
        length-append x (y ++ (u ++ (v ++ (g ++ e)))),
        length-append y (u ++ (v ++ (g ++ e))),
        length-append u (v ++ (g ++ e)),
        length-append v (g ++ e),
        length-append g e,
      )

  module _ {element : List ℕ → List ℕ} (same : (ws : List ℕ) → element ws ≡ strings pool (c ∷ d ∷ []) ws) where
    many_elements : strings pool G X ≡ elements N w element X
    many_elements = group-strings pool (c ∷ d ∷ []) element same N X ∙ ap (λ k. elements N k element X) (sym ew)

    pub many_made : strings pool (all_fields (many_of l z a c d t) row 1) (drop 1 row)
        ≡ bytes pool l (drop 1 row)
        ++ (bytes pool z (drop 1 row)
        ++ (bytes pool a (drop 1 row)
        ++ (unsigned (word row (1 + wide a))
        ++ (elements (word row (1 + wide a)) w element (drop (2 + wide a) row) ++ bytes pool t (drop (2 + wide a + word row (1 + wide a) * w) row)))))
    many_made =
        many_strings
        ∙ ap (λ v. bytes pool l (drop 1 row)
        ++ (bytes pool z (drop 1 row) ++ (bytes pool a (drop 1 row) ++ (unsigned N ++ (v ++ bytes pool t Y))))) many_elements

    pub many_known : Always pool l → Always pool z → length pool ≤ 65536 → length row ≤ 16384
        → length row ≡ 2 + wide a + word row (1 + wide a) * w + wide t → {p base m q r : ℕ} → Known pool a (drop 1 row) p
        → base ≡ length (bytes pool l (drop 1 row)) + length (bytes pool z (drop 1 row)) + p + length (unsigned (word row (1 + wide a)))
        → Groups pool (c ∷ d ∷ []) element (word row (1 + wide a)) (drop (2 + wide a) row) base m
        → Known pool t (drop (2 + wide a + word row (1 + wide a) * w) row) q → r ≡ m + q
        → measured_row (Some (many_of l z a c d t)) row pool ≡ Ok r
    unfolding Rights flaw wide
    many_known rl rz small short width {p} {base} {m} {q} {r} sa eb sg st er =
        row-known (many_of l z a c d t) pool row small short (width ∙ sym many_width) (
          rl (drop 1 row),
          (
            rz (drop (wide l) (drop 1 row)),
            (
              subst (λ v. flaw pool a v ≡ Right) (sym (at_first l z el ez (drop 1 row))) sa.right,
              (
                refl,
                (
                  refl,
                  subst (λ v. Rights pool (repeated (word row (1 + widths (opening (many_of l z a c d t)))) (c ∷ d ∷ []) ++ t ∷ []) v) (sym at_groups)
                      (subst (λ k. Rights pool (repeated k (c ∷ d ∷ []) ++ t ∷ []) X) (sym many_count)
                      (rights_join pool G (t ∷ []) X sg.right (subst (λ v. flaw pool t v ≡ Right) (sym at_last) st.right, tt))),
                ),
              ),
            ),
          ),
        )
        (omega (arith, many_length, sa.size, sg.size, st.size, ap length (group-strings pool (c ∷ d ∷ []) element same N X)))

    pub many_held : {n : ℕ} → measured_row (Some (many_of l z a c d t)) row pool ≡ Ok n → ManyHeld l z a c d t w element row pool n
    unfolding Rights wide
    many_held e =
        let h = row_held (many_of l z a c d t) row pool e in
        let r : Rights pool (G ++ t ∷ []) X =
        subst (λ k. Rights pool (repeated k (c ∷ d ∷ []) ++ t ∷ []) X) many_count
        (subst (λ v. Rights pool (repeated (word row (1 + widths (opening (many_of l z a c d t)))) (c ∷ d ∷ []) ++ t ∷ []) v) at_groups
        h.right.1.1.1.1.1) in
        record {
          width = h.width ∙ many_width;
          short = h.short;
          small = h.small;
          first = subst (λ v. flaw pool a v ≡ Right) (at_first l z el ez (drop 1 row)) h.right.1.1.0;
          groups = rights-first pool G (t ∷ []) X r;
          last = subst (λ v. flaw pool t v ≡ Right) at_last (rights-rest pool G (t ∷ []) X r).0;
          size = omega (arith, h.size, many_length, ap length many_elements);
          made = h.bytes ∙ many_made;
        }

-- a byte, a count and as many groups
pub record CountedHeld (lead : ℕ) (c d : Field) (w : ℕ) (element : List ℕ → List ℕ) (row pool : List ℕ) (n : ℕ) : Type 0 where
  pub width : length row ≡ 2 + word row 1 * w
  pub short : length row ≤ 16384
  pub small : length pool ≤ 65536
  pub groups : Rights pool (repeated (word row 1) (c ∷ d ∷ [])) (drop 2 row)
  pub size : n ≡ 1 + length (unsigned (word row 1)) + length (elements (word row 1) w element (drop 2 row))
  pub made : row_bytes (Some (many_of (field.Fixed lead) field.Nothing field.Nothing c d field.Nothing)) pool row
      ≡ lead ∷ (unsigned (word row 1) ++ elements (word row 1) w element (drop 2 row))

module _ (lead : ℕ) (c d : Field) {w : ℕ} (ew : w ≡ widths (c ∷ d ∷ [])) (row pool : List ℕ) {element : List ℕ → List ℕ}
    (same : (ws : List ℕ) → element ws ≡ strings pool (c ∷ d ∷ []) ws) where
  pub counted_known : length pool ≤ 65536 → length row ≤ 16384 → length row ≡ 2 + word row 1 * w
      → {base r : ℕ} → base ≡ 1 + length (unsigned (word row 1)) → Groups pool (c ∷ d ∷ []) element (word row 1) (drop 2 row) base r
      → measured_row (Some (many_of (field.Fixed lead) field.Nothing field.Nothing c d field.Nothing)) row pool ≡ Ok r
  unfolding wide flaw bytes
  counted_known small short width {base} {r} eb sg =
      many_known (field.Fixed lead) field.Nothing field.Nothing c d field.Nothing refl refl ew row pool same (λ ws. refl) (λ ws. refl) small short
      (omega arith) (nothing_at pool (drop 1 row)) (omega arith) sg (nothing_at pool (drop (2 + word row 1 * w) row)) (omega arith)

  pub counted_held : {n : ℕ} → measured_row (Some (many_of (field.Fixed lead) field.Nothing field.Nothing c d field.Nothing)) row pool ≡ Ok n
      → CountedHeld lead c d w element row pool n
  unfolding wide bytes
  counted_held e =
      let h = many_held (field.Fixed lead) field.Nothing field.Nothing c d field.Nothing refl refl ew row pool same e in
      record {
        width = omega (arith, h.width);
        short = h.short;
        small = h.small;
        groups = h.groups;
        size = omega (arith, h.size);
        made = h.made ∙ ap (λ v. lead ∷ (unsigned (word row 1) ++ v)) (append-nil (elements (word row 1) w element (drop 2 row)));
      }
