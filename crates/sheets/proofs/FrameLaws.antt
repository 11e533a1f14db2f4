-- The laws of `specs/Frame.antt`: the words of a row, and the rows from a place to the sheet's end, a row at a time.
use Prim.Native.Nat.{ℕ, zero, suc, ◌+◌, ◌*◌, ◌≤◌, ◌<◌}
use native.Mathlib.Omega.{arith}
use mathlib.Core.Path.{◌≡◌, refl, sym, ap, ◌∙◌}
use mathlib.Core.Bool.{Bool, true, false}
use mathlib.Core.List.{List, [], ◌∷◌, ◌++◌}
use borrow.Author.Tests.{eqb-true, eqb-false, ltb-true, ltb-false, eq-eqb, ne_eqb, lt-ltb, le-ltb}
use lib.Dec.{eqb, ltb}
use lib.ListN.{length, take, set, get_or, length-append}
use lib.Seq.{sets}
use Rattle.numbers.proofs.BytesLaws.{sets_append, sets_back}
use Rattle.fields.specs.Words.{word}
use Rattle.sheets.specs.Frame.{Rows, Are, Broken, behind, some, number, words, rows_from, framed, pool_length, listed}
use Rattle.sheets.specs.Sheet.{family_of}
use Rattle.sheets.specs.inside.Steps.{rest, whole, Framed, RowsAt, laid, first_family}
use Rattle.numbers.proofs.Impossible.{impossible}

-- ---- words

pub words-length : (s : List ℕ) (at n : ℕ) → length (words s at n) ≡ n
unfolding words
words-length s at zero = refl
words-length s at (suc n) = ap suc (words-length s (at + 4) n)

words_both : (s : List ℕ) (at m n : ℕ) → words s at (m + n) ≡ words s at m ++ words s (at + 4 * m) n
unfolding words
words_both s at zero n =
    let e : at ≡ at + 4 * 0 = omega arith in
    let f : 0 + n ≡ n = omega arith in
    λ i. words s (e i) (f i)
words_both s at (suc m) n =
    let e : at + 4 + 4 * m ≡ at + 4 * suc m = omega arith in
    let f : suc m + n ≡ suc (m + n) = omega arith in
    ap (words s at) f ∙ ap (λ l. number s at ∷ l) (words_both s (at + 4) m n ∙ ap (λ k. words s (at + 4) m ++ words s k n) e)

-- one word more, behind the others
pub laid_more : (s first row : List ℕ) (at i x : ℕ) → row ≡ sets first 0 (words s at i) → x ≡ number s (at + 4 * i)
    → set row i x ≡ sets first 0 (words s at (i + 1))
unfolding words
laid_more s first row at i x e ex =
    let l : 0 + length (words s at i) ≡ i = omega (arith, words-length s at i) in
    (λ k. set (e k) i (ex k)) ∙ ap (λ k. set (sets first 0 (words s at i)) k (number s (at + 4 * i))) (sym l)
    ∙ sets_append (words s at i) (number s (at + 4 * i) ∷ []) first 0
    ∙ ap (sets first 0) (sym (words_both s at i 1))

-- the family of a row is that of its first word, or of 0 where there is none
first_word : (s : List ℕ) (at n : ℕ) → (n ≡ 0 → ⊥) → word (words s at n) 0 ≡ number s at
unfolding words
first_word s at zero h = absurd (h refl)
first_word s at (suc n) h = refl

module _ (s : List ℕ) (start n : ℕ) (en : n ≡ number s start) where
  pub family_none : n ≡ 0 → 7 ≡ first_family s start
  unfolding words family_of
  family_none e = rw (← en, e)

  pub family_of_lem : (n ≡ 0 → ⊥) → (kind : ℕ) → kind ≡ number s (start + 4) → family_of kind ≡ first_family s start
  family_of_lem h kind ek = ap family_of (ek ∙ sym (first_word s (start + 4) n h) ∙ ap (λ k. word (words s (start + 4) k) 0) en)

-- words that were laid out at the front of a row are the row's front
pub laid_out : (s first row : List ℕ) (at n : ℕ) → row ≡ sets first 0 (words s at n) → n ≤ length first → take n row ≡ words s at n
laid_out s first row at n e h =
    let l = words-length s at n in
    ap (take n) e ∙ ap (λ k. take k (sets first 0 (words s at n))) (sym l) ∙ sets_back (words s at n) first 0 (omega arith)

-- ---- rows

module _ (s : List ℕ) where
  -- where the row at `at` ends
  abbrev pub past : ℕ → ℕ
  past at = at + 4 + 4 * number s at

  rows_done : (k at : ℕ) → at ≡ length s → rows_from k s at ≡ Are []
  unfolding rows_from
  rows_done zero at e = simp (eq-eqb _ _ e)
  rows_done (suc k) at e = simp (eq-eqb _ _ e)

  rows_short : (k at : ℕ) → at < length s → length s < at + 4 → rows_from k s at ≡ Broken
  unfolding rows_from
  rows_short zero at h j = simp (ne_eqb at (length s) (λ e. omega arith))
  rows_short (suc k) at h j = simp (ne_eqb at (length s) (λ e. omega arith), lt-ltb _ _ j)

  rows_long : (k at : ℕ) → at + 4 ≤ length s → length s < past at → rows_from k s at ≡ Broken
  unfolding rows_from
  rows_long zero at h j = simp (ne_eqb at (length s) (λ e. omega arith))
  rows_long (suc k) at h j = simp (ne_eqb at (length s) (λ e. omega arith), le-ltb _ _ h, lt-ltb _ _ j)

  rows_one : (k at : ℕ) → past at ≤ length s → rows_from (suc k) s at ≡ behind (words s (at + 4) (number s at)) (rows_from k s (past at))
  unfolding rows_from
  rows_one k at h =
      let j : at + 4 ≤ length s = omega arith in
      simp (ne_eqb at (length s) (λ e. omega arith), le-ltb _ _ j, le-ltb _ _ h)

  -- a place is the end, or the start of a row that is cut short, or of one that is whole
  data Place (at : ℕ) : Type 0 where
    done : at ≡ length s → Place at
    short : at < length s → length s < at + 4 → Place at
    long : at + 4 ≤ length s → length s < past at → Place at
    one : past at ≤ length s → Place at

  place : (at : ℕ) → at ≤ length s → Place at
  place at h = go (eqb at (length s)) (ltb (length s) (at + 4)) (ltb (length s) (past at)) refl refl refl
    where
      go : (a b c : Bool) → eqb at (length s) ≡ a → ltb (length s) (at + 4) ≡ b → ltb (length s) (past at) ≡ c → Place at
      go true b c p q r = done (eqb-true _ _ p)
      go false true c p q r =
          let n = eqb-false at (length s) p in
          short (less n) (ltb-true _ _ q)
        where
          less : (at ≡ length s → ⊥) → at < length s
          less n = omega arith
      go false false true p q r = long (ltb-false _ _ q) (ltb-true _ _ r)
      go false false false p q r = one (ltb-false _ _ r)

  -- how many rows are allowed does not matter where there are enough, since each takes four bytes at least
  rows_enough : (k j at : ℕ) → at ≤ length s → length s ≤ at + k → length s ≤ at + j → rows_from k s at ≡ rows_from j s at
  rows_enough zero j at h p q = let e : at ≡ length s = omega arith in rows_done zero at e ∙ sym (rows_done j at e)
  rows_enough (suc k) zero at h p q = let e : at ≡ length s = omega arith in rows_done (suc k) at e ∙ sym (rows_done zero at e)
  rows_enough (suc k) (suc j) at h p q = go (place at h) (λ i. rows_enough k j (past at) i (omega arith) (omega arith))
    where
      go : Place at → (past at ≤ length s → rows_from k s (past at) ≡ rows_from j s (past at)) → rows_from (suc k) s at ≡ rows_from (suc j) s at
      go (done e) ih = rows_done (suc k) at e ∙ sym (rows_done (suc j) at e)
      go (short h i) ih = rows_short (suc k) at h i ∙ sym (rows_short (suc j) at h i)
      go (long h i) ih = rows_long (suc k) at h i ∙ sym (rows_long (suc j) at h i)
      go (one h) ih = rows_one k at h ∙ ap (behind (words s (at + 4) (number s at))) (ih h) ∙ sym (rows_one j at h)

  pub rest_done : (at : ℕ) → at ≡ length s → rest s at ≡ Are []
  rest_done at e = rows_done (length s) at e

  pub rest_short : (at : ℕ) → at < length s → length s < at + 4 → rest s at ≡ Broken
  rest_short at h i = rows_short (length s) at h i

  pub rest_long : (at : ℕ) → at + 4 ≤ length s → length s < past at → rest s at ≡ Broken
  rest_long at h i = rows_long (length s) at h i

  pub rest_one : (at : ℕ) → past at ≤ length s → rest s at ≡ behind (words s (at + 4) (number s at)) (rest s (past at))
  rest_one at h = go (length s) refl
    where
      go : (n : ℕ) → length s ≡ n → rows_from n s at ≡ behind (words s (at + 4) (number s at)) (rest s (past at))
      go zero e = absurd (omega arith)
      go (suc k) e =
          rows_one k at h ∙ ap (behind (words s (at + 4) (number s at))) (rows_enough k (length s) (past at) h (omega arith) (omega arith))

-- ---- frames that are whole

whole-behind : (row : List ℕ) (r : Rows) → whole (behind row r) ≡ whole r
whole-behind row (Are rows) = refl
whole-behind row Broken = refl

pub whole-one : (s : List ℕ) (at next : ℕ) → next ≡ past s at → next ≤ length s → whole (rest s at) ≡ whole (rest s next)
whole-one s at next e h =
    ap whole (rest_one s at (omega arith)) ∙ whole-behind (words s (at + 4) (number s at)) (rest s (past s at))
    ∙ ap (λ k. whole (rest s k)) (sym e)

listed-behind : (row : List ℕ) (r : Rows) → whole r ≡ true → listed (behind row r) ≡ row ∷ listed r
listed-behind row (Are rows) e = refl
listed-behind row Broken e = impossible cc

-- the row at the front of a frame that is whole, and the frame behind it
pub record Front (s : List ℕ) (at : ℕ) : Type 0 where
  pub fits : past s at ≤ length s
  pub next : Framed s (past s at)
  pub rows : listed (rest s at) ≡ words s (at + 4) (number s at) ∷ listed (rest s (past s at))

module _ {s : List ℕ} {at : ℕ} (f : Framed s at) where
  pub front : at < length s → Front s at
  front h = go (place s at f.inside)
    where
      never : rest s at ≡ Broken → Front s at
      never e = let w : true ≡ false = sym f.holds ∙ ap whole e in impossible cc

      go : Place s at → Front s at
      go (done e) = absurd (omega arith)
      go (short p q) = never (rest_short s at p q)
      go (long p q) = never (rest_long s at p q)
      go (one p) =
          let row = words s (at + 4) (number s at) in
          let e = rest_one s at p in
          let w : whole (rest s (past s at)) ≡ true = sym (whole-behind row (rest s (past s at))) ∙ ap whole (sym e) ∙ f.holds in
          record {
            fits = p;
            next = record { inside = p; holds = w };
            rows = ap listed e ∙ listed-behind row (rest s (past s at)) w;
          }

  pub no_more : length s ≤ at → listed (rest s at) ≡ []
  no_more h = ap listed (rest_done s at (let i = f.inside in omega arith))

-- the words from `at` to the end are those rows
pub record Layout (s : List ℕ) (at : ℕ) (rows : List (List ℕ)) : Type 0 where
  pub long : at + 4 * length (laid rows) ≡ length s
  pub same : words s at (length (laid rows)) ≡ laid rows

layout_none : (s : List ℕ) (at : ℕ) → at ≡ length s → Layout s at []
unfolding laid words
layout_none s at e = record { long = omega arith; same = refl }

layout-one : (s : List ℕ) (at : ℕ) (rows : List (List ℕ)) → Layout s (past s at) rows → Layout s at (words s (at + 4) (number s at) ∷ rows)
unfolding laid words
layout-one s at rows w =
    let n = number s at in
    let row = words s (at + 4) n in
    let l : length row ≡ n = words-length s (at + 4) n in
    let k : length (row ++ laid rows) ≡ n + length (laid rows) = length-append row (laid rows) ∙ ap (λ i. i + length (laid rows)) l in
    record {
      long = omega (arith, w.long);
      same = λ i. sym l i ∷ (ap (words s (at + 4)) k ∙ words_both s (at + 4) n (length (laid rows)) ∙ ap (λ ws. row ++ ws) w.same) i;
    }

-- where k is enough
layout_from : (s : List ℕ) (k at : ℕ) → length s ≤ at + k → Framed s at → Layout s at (listed (rest s at))
layout_from s zero at p f = let i = f.inside in rw (no_more f (omega arith)) (layout_none s at (omega arith))
layout_from s (suc k) at p f = go (ltb at (length s)) refl (λ i. layout_from s k (past s at) (omega arith) i)
  where
    go : (b : Bool) → ltb at (length s) ≡ b → (Framed s (past s at) → Layout s (past s at) (listed (rest s (past s at))))
        → Layout s at (listed (rest s at))
    go true e ih = let row = front f (ltb-true _ _ e) in rw row.rows (layout-one s at _ (ih row.next))
    go false e ih = let i = f.inside in let h : length s ≤ at = ltb-false _ _ e in rw (no_more f h) (layout_none s at (omega arith))

pub frame_layout : (s : List ℕ) (at : ℕ) → Framed s at → Layout s at (listed (rest s at))
frame_layout s at f = layout_from s (length s) at (omega arith) f

-- ---- the whole frame

some_same : (r : Rows) (row : List ℕ) (rows : List (List ℕ)) → listed r ≡ row ∷ rows → some r ≡ r
some_same (Are []) row rows e = impossible cc
some_same (Are (x ∷ xs)) row rows e = refl
some_same Broken row rows e = impossible cc

none_whole : (r : Rows) → whole r ≡ false → some r ≡ Broken
none_whole (Are rows) e = impossible cc
none_whole Broken e = refl

module _ (s : List ℕ) where
  pub frame_cut : length s < 5 → framed s ≡ Broken
  unfolding framed
  frame_cut h = simp (lt-ltb _ _ h)

  pub frame_version : 5 ≤ length s → (get_or s 0 0 ≡ 1 → ⊥) → framed s ≡ Broken
  unfolding framed
  frame_version h v = simp (le-ltb _ _ h, ne_eqb (get_or s 0 0) 1 v)

  -- the pool ends at `start`
  module _ (start : ℕ) (place : start ≡ 5 + pool_length s) (long : 5 ≤ length s) (version : get_or s 0 0 ≡ 1) where
    frame_rows : start ≤ length s → framed s ≡ some (rest s start)
    unfolding framed
    frame_rows h =
        let k : 5 + pool_length s ≤ length s = omega arith in
        simp (le-ltb _ _ long, eq-eqb _ _ version, le-ltb _ _ k) (ap (λ n. some (rest s n)) (sym place))

    pub frame_empty : length s ≤ start → framed s ≡ Broken
    unfolding framed
    frame_empty h = go (ltb (length s) (5 + pool_length s)) refl
      where
        go : (b : Bool) → ltb (length s) (5 + pool_length s) ≡ b → framed s ≡ Broken
        go true e = simp (le-ltb _ _ long, eq-eqb _ _ version, e)
        go false e =
            let k : 5 + pool_length s ≤ length s = ltb-false _ _ e in
            frame_rows (omega arith) ∙ ap some (rest_done s start (omega arith))

    module _ (inside : start < length s) where
      pub frame_broken : whole (rest s start) ≡ false → framed s ≡ Broken
      frame_broken e = frame_rows (omega arith) ∙ none_whole (rest s start) e

      pub frame_found : whole (rest s start) ≡ true → RowsAt s start
      frame_found e =
          let f : Framed s start = record { inside = omega arith; holds = e } in
          record {
            place = place;
            some = inside;
            fills = f;
            same = frame_rows (omega arith) ∙ some_same (rest s start) _ _ (front f inside).rows;
          }
