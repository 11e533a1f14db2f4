-- The laws of `specs/Sheet.antt`: rows tried one at a time, what is known of rows that were all taken, and their bytes one after the other.
use Rattle.std.specs.Prelude.{Ok, Err}
use Prim.Native.Nat.{ℕ, ◌+◌, ◌*◌, ◌≤◌, ◌<◌}
use native.Mathlib.Omega.{arith}
use mathlib.Core.Path.{◌≡◌, refl, sym, ap, ◌∙◌, subst}
use mathlib.Core.Bool.{Bool, true, false, cond}
use mathlib.Core.List.{List, [], ◌∷◌}
use borrow.Author.Tests.{le-leb, lt-leb, leb-true}
use lib.Dec.{leb}
use lib.ListN.{length, length-append}
use lib.Seq.{sets}
use Rattle.numbers.proofs.BytesLaws.{sets_append}
use Rattle.fields.specs.Answer.{Answer, Refused}
use Rattle.fields.specs.declared.Refusal.{Refusal}
use Rattle.fields.specs.declared.Refusal.TheVariants as refusal
use Rattle.fields.specs.Leaf.{Leaf, Fine, Bad}
use Rattle.writing.specs.inside.Wrote.{Wrote}
use Rattle.fields.specs.Answers as leaves
use Rattle.fields.proofs.OutcomeLaws.{fine-same}
use Rattle.writing.proofs.WroteLaws.{same_size}
use Rattle.sections.specs.Section.{write_family, measured_family, family_bytes}
use Rattle.sheets.specs.Sheet.{tried, tries, joined}
use Rattle.sheets.specs.inside.Steps.{laid, rows_in, InRows, Fits, Passed}
use Rattle.sheets.proofs.FamilyLaws.{family-row, family-written}
use Rattle.sheets.proofs.LaidLaws.{Here, end_of, row_at, no_rows, round}

-- ---- trying

module _ (family : ℕ) (pool : List ℕ) (room : ℕ) (ws : List ℕ) where
  abbrev all : List (List ℕ) → ℕ → ℕ → Leaf
  all rows r used = tries family pool room rows r used

  -- with r rows tried, those from `at` on come to what all come to
  pub record Trying (at r used : ℕ) : Type 0 where
    pub later : List (List ℕ)
    pub here : Here ws at later
    pub few : r ≤ at
    pub fits : used ≤ room
    pub same : all (rows_in ws) 0 0 ≡ all later r used

  pub try_start : InRows ws → Trying 0 0 0
  try_start e = record { later = rows_in ws; here = e; few = omega arith; fits = omega arith; same = refl }

  module _ {at r used : ℕ} (t : Trying at r used) where
    pub try_end : length ws ≤ at → Fine r used ≡ all (rows_in ws) 0 0
    unfolding tries
    try_end h = sym (t.same ∙ ap (λ rows. all rows r used) (no_rows ws t.here h))

    -- one row more, and its answer
    module _ (h : at < length ws) {a : Answer} (ea : a ≡ measured_family family (row_at ws at) pool) where
      abbrev behind : ℕ → Leaf
      behind u = all (round ws t.here h).later (r + 1) u

      answers : {b : Answer} → a ≡ b → all (rows_in ws) 0 0 ≡ tried b room used r behind
      unfolding tries
      answers e = t.same ∙ ap (λ rows. all rows r used) (round ws t.here h).are ∙ ap (λ x. tried x room used r behind) (sym ea ∙ e)

      pub try_refused : {w : Refusal} {v : ℕ} → a ≡ Refused w v → Bad w r ≡ all (rows_in ws) 0 0
      try_refused e = sym (answers e)

      module _ {size : ℕ} (e : a ≡ Ok size) where
        pub try_cramped : room < used + size → Bad refusal.Room r ≡ all (rows_in ws) 0 0
        try_cramped k = sym (answers e ∙ simp (lt-leb _ _ k))

        pub try_next : used + size ≤ room → Trying (end_of ws at) (r + 1) (used + size)
        try_next k =
            record {
              later = (round ws t.here h).later;
              here = (round ws t.here h).next;
              few = omega (arith, t.few);
              fits = k;
              same = answers e ∙ simp (le-leb _ _ k);
            }

-- ---- rows that were all taken

module _ (family : ℕ) (pool : List ℕ) (room : ℕ) where
  abbrev each : List (List ℕ) → ℕ → ℕ → Leaf
  each rows r used = tries family pool room rows r used

  -- the first of them is, and so are the others behind it
  record Took (row : List ℕ) (rows : List (List ℕ)) (r used : ℕ) : Type 0 where
    first : Fits family row pool room used
    later : each (row ∷ rows) r used ≡ each rows (r + 1) (used + first.size)

  took : (row : List ℕ) (rows : List (List ℕ)) (r used : ℕ) → Passed (each (row ∷ rows) r used) → Took row rows r used
  unfolding tries
  took row rows r used p = go (measured_family family row pool) refl p
    where
      go : (a : Answer) → measured_family family row pool ≡ a → Passed (tried a room used r (λ u. each rows (r + 1) u)) → Took row rows r used
      go (Err fault) e p = absurd p
      go (Ok m) e p = room_for (leb (used + m) room) refl p
        where
          room_for : (b : Bool) → leb (used + m) room ≡ b → Passed (cond b (each rows (r + 1) (used + m)) (Bad refusal.Room r)) → Took row rows r used
          room_for true q p =
              record {
                first = record { size = m; measures = e; fits = leb-true _ _ q };
                later = ap (λ a. tried a room used r (λ u. each rows (r + 1) u)) e ∙ simp q;
              }
          room_for false q p = absurd p

  -- how many they are, and how many bytes they have
  pub record Tried (rows : List (List ℕ)) (r used last end : ℕ) : Type 0 where
    pub count : last ≡ r + length rows
    pub long : end ≡ used + length (joined family pool rows)
    pub fits : end ≤ room
    pub bound : end ≤ used + 32772 * length (laid rows)

  pub tried_all : (rows : List (List ℕ)) (r used last end : ℕ) → used ≤ room → Fine last end ≡ each rows r used → Tried rows r used last end
  unfolding tries joined laid
  tried_all [] r used last end h e =
      let held = fine-same e in
      let p : last ≡ r = held.0 in
      let q : end ≡ used = held.1 in
      record { count = omega arith; long = omega arith; fits = omega arith; bound = omega arith }
  tried_all (row ∷ rows) r used last end h e =
      let t = took row rows r used (subst Passed e tt) in
      let m = t.first.size in
      let ih = tried_all rows (r + 1) (used + m) last end t.first.fits (e ∙ t.later) in
      let k = family-row family row pool m t.first.measures in
      let l = length-append (family_bytes family pool row) (joined family pool rows) in
      let n = length-append row (laid rows) in
      record {
        count = omega (arith, ih.count);
        long = omega (arith, ih.long, k.long);
        fits = ih.fits;
        bound = omega (arith, ih.bound, k.bound);
      }

-- ---- writing

-- a row that is taken is written: what the writer left
module _ (family : ℕ) (row pool body : List ℕ) (used : ℕ) (k : Fits family row pool (length body) used)
    {a : Answer} {new : List ℕ} (e : leaves.left a new ≡ write_family family row pool body used) where
  wrote : leaves.left a new ≡ leaves.left (Ok k.size) (sets body used (family_bytes family pool row))
  wrote = e ∙ family-written family row pool body used k.size k.measures k.fits

  answered : a ≡ Ok k.size
  answered = ap (λ l. l.answer) wrote

  pub row_inside : {m : ℕ} → a ≡ Ok m → used + m ≤ length body
  row_inside {m} p = let f = answered in let q : m ≡ k.size = cc in omega (arith, k.fits)

  pub row_wrote : {m : ℕ} → a ≡ Ok m → Wrote body used (family_bytes family pool row) (used + m) new
  row_wrote {m} p =
      let f = answered in
      let q : m ≡ k.size = cc in
      record { place = omega (arith, (family-row family row pool k.size k.measures).long); content = ap (λ l. l.buffer) wrote }

  pub row_never : {w : Refusal} {v : ℕ} → a ≡ Refused w v → ⊥
  row_never p = let f = answered in let z : ◌≡◌ {A = ℕ} 0 1 = cc in omega arith

-- a row that is put, and those behind it, leave what they leave together
pub put_next : (family : ℕ) (pool : List ℕ) {rows others : List (List ℕ)} {row body new last : List ℕ} {used end : ℕ} → rows ≡ row ∷ others
    → Wrote body used (family_bytes family pool row) end new → sets body used (joined family pool rows) ≡ last
    → sets new end (joined family pool others) ≡ last
unfolding joined
put_next family pool {others} {row} {body} {used} are u e =
    rw (u.content, u.place)
    (sets_append (family_bytes family pool row) (joined family pool others) body used
    ∙ ap (λ rows. sets body used (joined family pool rows)) (sym are) ∙ e)

module _ (family : ℕ) (pool ws first : List ℕ) where
  abbrev string : List (List ℕ) → List ℕ
  string rows = joined family pool rows

  -- the rows from `at` on, put where the loop stands, leave what all leave
  pub record Writing (at used : ℕ) (body : List ℕ) : Type 0 where
    pub later : List (List ℕ)
    pub here : Here ws at later
    pub rows : ℕ
    pub passed : Passed (tries family pool (length first) later rows used)
    pub size : length body ≡ length first
    pub same : sets body used (string later) ≡ sets first 0 (string (rows_in ws))

  pub write_start : InRows ws → Passed (tries family pool (length first) (rows_in ws) 0 0) → Writing 0 0 first
  write_start e p = record { later = rows_in ws; here = e; rows = 0; passed = p; size = refl; same = refl }

  module _ {at used : ℕ} {body : List ℕ} (w : Writing at used body) where
    pub write_end : length ws ≤ at → body ≡ sets first 0 (string (rows_in ws))
    unfolding joined
    write_end h = ap (λ rows. sets body used (string rows)) (sym (no_rows ws w.here h)) ∙ w.same

    module _ (h : at < length ws) where
      abbrev row : List ℕ
      row = row_at ws at

      abbrev others : List (List ℕ)
      others = (round ws w.here h).later

      taken : Took family pool (length first) row others w.rows used
      taken = took family pool (length first) row others w.rows used (rw (round ws w.here h).are at w.passed)

      pub write_fits : Fits family row pool (length body) used
      write_fits = rw w.size taken.first

      pub write_next : {end : ℕ} {new : List ℕ} → Wrote body used (family_bytes family pool row) end new → Writing (end_of ws at) end new
      write_next {end} {new} u =
          let m = taken.first.size in
          let k = family-row family row pool m taken.first.measures in
          let are = (round ws w.here h).are in
          let at-end : end ≡ used + m = omega (arith, u.place, k.long) in
          record {
            later = others;
            here = (round ws w.here h).next;
            rows = w.rows + 1;
            passed = rw at-end (subst Passed (ap (λ l. tries family pool (length first) l w.rows used) are ∙ taken.later) w.passed);
            size = same_size u ∙ w.size;
            same = put_next family pool are u w.same;
          }
