-- The laws of rows laid out as words (`specs/Steps.antt`): the rows in them, and those from a place on, a row at a time.
use Prim.Native.Nat.{ℕ, zero, suc, ◌+◌, ◌-◌, ◌≤◌, ◌<◌}
use native.Mathlib.Numerals.{add-one}
use native.Mathlib.Omega.{arith}
use mathlib.Core.Path.{◌≡◌, refl, sym, ap, ◌∙◌}
use mathlib.Core.List.{List, [], ◌∷◌, ◌++◌}
use lib.ListN.{length, get_or, take, drop, length-append, length-drop, drop_of_length-le}
use lib.Seq.{drop-cons, drop-drop, take-append_seam, drop-append_seam}
use Rattle.sheets.specs.inside.Steps.{laid, cut, rows_in, InRows}
use Rattle.numbers.proofs.Impossible.{impossible}

pub laid_count : (rows : List (List ℕ)) → length rows ≤ length (laid rows)
unfolding laid
laid_count [] = omega arith
laid_count (row ∷ rows) = omega (arith, laid_count rows, length-append row (laid rows))

-- the rows in words as which rows are laid out are those rows, where k is enough
rows_back : (rows : List (List ℕ)) (k : ℕ) → length rows ≤ k → cut k (laid rows) ≡ rows
unfolding laid cut
rows_back [] zero h = refl
rows_back [] (suc k) h = refl
rows_back (row ∷ rows) zero h = absurd (omega arith)
rows_back (row ∷ rows) (suc k) h =
    simp (take-append_seam row (laid rows), drop-append_seam row (laid rows)) (ap (λ l. row ∷ l) (rows_back rows k (omega arith)))

-- words in which those rows are, to the end
pub record Lies (ws : List ℕ) (rows : List (List ℕ)) : Type 0 where
  pub whole : InRows ws
  pub same : rows_in ws ≡ rows

pub lies : (ws : List ℕ) (rows : List (List ℕ)) → ws ≡ laid rows → Lies ws rows
lies ws rows e =
    let same : rows_in ws ≡ rows = ap rows_in e ∙ rows_back rows (length (laid rows)) (laid_count rows) in
    record { whole = e ∙ ap laid (sym same); same = same }

module _ (ws : List ℕ) where
  -- the words from `at` on are those rows
  abbrev pub Here : ℕ → List (List ℕ) → Type 0
  Here at rows = drop at ws ≡ laid rows

  -- where the row at `at` ends, and the row
  abbrev pub end_of : ℕ → ℕ
  end_of at = at + 1 + get_or ws at 0

  abbrev pub row_at : ℕ → List ℕ
  row_at at = take (end_of at - (at + 1)) (drop (at + 1) ws)

  -- the row here, and the rows behind it
  pub record Round (at : ℕ) (rows : List (List ℕ)) : Type 0 where
    pub later : List (List ℕ)
    pub fits : end_of at ≤ length ws
    pub next : Here (end_of at) later
    pub are : rows ≡ row_at at ∷ later

  pub no_rows : {at : ℕ} {rows : List (List ℕ)} → Here at rows → length ws ≤ at → rows ≡ []
  unfolding laid
  no_rows {at} {rows = []} e h = refl
  no_rows {at} {rows = row ∷ rows} e h = let none = drop_of_length-le ws h in impossible cc

  pub round : {at : ℕ} {rows : List (List ℕ)} → Here at rows → at < length ws → Round at rows
  unfolding laid
  round {at} {rows = []} e h = let l : length (drop at ws) ≡ 0 = ap length e in absurd (omega (arith, length-drop at ws))
  round {at} {rows = row ∷ rows} e h =
      let both : get_or ws at 0 ∷ drop (at + 1) ws ≡ length row ∷ row ++ laid rows = rw add-one (sym (drop-cons ws at 0 h) ∙ e) in
      let n : get_or ws at 0 ≡ length row = cc in
      let rest : drop (at + 1) ws ≡ row ++ laid rows = cc in
      let size : end_of at - (at + 1) ≡ length row = omega arith in
      record {
        later = rows;
        fits = omega (arith, length-drop (at + 1) ws, ap length rest, length-append row (laid rows));
        next = sym (drop-drop (get_or ws at 0) (at + 1) ws) ∙ (λ i. drop (n i) (rest i)) ∙ drop-append_seam row (laid rows);
        are = ap (λ r. r ∷ rows) (sym ((λ i. take (size i) (rest i)) ∙ take-append_seam row (laid rows)));
      }
