-- Rows made one at a time in a buffer: what the writer's answer says of the row, and where all rows stand then.
use Rattle.std.specs.Prelude.{Ok, Err}
use Prim.Native.Nat.{ℕ, ◌+◌, ◌≤◌, ◌<◌}
use native.Mathlib.Omega.{arith}
use mathlib.Core.Path.{◌≡◌, refl, sym, ap, ◌∙◌}
use mathlib.Core.Bool.{Bool, true, false, cond}
use mathlib.Core.List.{List}
use borrow.Author.Tests.{leb-true}
use lib.Dec.{leb}
use lib.ListN.{length}
use lib.Seq.{sets}
use Rattle.fields.specs.Answer.{Answer, Refused}
use Rattle.fields.specs.declared.Refusal.{Refusal}
use Rattle.fields.specs.declared.Refusal.TheVariants as refusal
use Rattle.fields.specs.Leaf.{Leaf, Bad}
use Rattle.fields.specs.Answers as leaves
use Rattle.writing.specs.Write.{stored}
use Rattle.fields.specs.Answers.{number_of_refusal}
use Rattle.fields.proofs.OutcomeLaws.{refused-same}
use Rattle.writing.proofs.WroteLaws.{same_size}
use Rattle.sections.specs.Section.{write_family, measured_family, family_bytes}
use Rattle.sections.proofs.FamilyLaws.{family-stored}
use Rattle.sheets.specs.Sheet.{tries, joined}
use Rattle.sheets.specs.inside.Steps.{rows_in, InRows, Fits, AllMade}
use Rattle.sheets.proofs.LaidLaws.{Here, end_of, row_at, no_rows, round}
use Rattle.sheets.proofs.SheetLaws.{Trying, try_start, try_end, try_refused, try_cramped, try_next, row_wrote, put_next}
use Rattle.numbers.proofs.Impossible.{impossible}

-- why a row is not written: it is refused, or there is no room for it
data Barred (x : Answer) (w : Refusal) (v : ℕ) : Type 0 where
  Own : x ≡ Refused w v → Barred x w v
  Cramped : w ≡ refusal.Room → x ≡ Ok v → Barred x w v

-- what the writer's answer says of the row
module _ (bs body : List ℕ) (used : ℕ) where
  size_told : (x : Answer) {m : ℕ} {new : List ℕ} → leaves.left (Ok m) new ≡ stored x bs body used → (x ≡ Ok m) × (used + m ≤ length body)
  unfolding stored
  size_told (Err fault) {m} e =
      let other : Ok m ≡ Refused fault.why fault.value = ap (λ l. l.answer) e in
      impossible cc
  size_told (Ok n) {m} {new} e = go (leb (used + n) (length body)) refl e
    where
      go : (b : Bool) → leb (used + n) (length body) ≡ b
          → leaves.left (Ok m) new ≡ cond b (leaves.left (Ok n) (sets body used bs)) (leaves.refuse refusal.Room n body)
          → ◌≡◌ {A = Answer} (Ok n) (Ok m) × (used + m ≤ length body)
      go true q e =
          let same : Ok m ≡ Ok n = ap (λ l. l.answer) e in
          let p : m ≡ n = cc in
          (sym same, omega (arith, leb-true (used + n) (length body) q))
      go false q e =
          let other : Ok m ≡ Refused refusal.Room n = ap (λ l. l.answer) e in
          impossible cc

  refusal_told : (x : Answer) {w : Refusal} {v : ℕ} {new : List ℕ} → leaves.left (Refused w v) new ≡ stored x bs body used → Barred x w v
  unfolding stored
  refusal_told (Err fault) e = Own (sym (ap (λ l. l.answer) e))
  refusal_told (Ok n) {w} {v} {new} e = go (leb (used + n) (length body)) e
    where
      go : (b : Bool) → leaves.left (Refused w v) new ≡ cond b (leaves.left (Ok n) (sets body used bs)) (leaves.refuse refusal.Room n body)
          → Barred (Ok n) w v
      go true e =
          let other : Refused w v ≡ Ok n = ap (λ l. l.answer) e in
          impossible cc
      go false e =
          let same : Refused w v ≡ Refused refusal.Room n = ap (λ l. l.answer) e in
          let held = refused-same same in
          Cramped held.0 (ap Ok (sym held.1))

module _ (family : ℕ) (pool : List ℕ) (room : ℕ) (ws first : List ℕ) where
  abbrev all : Leaf
  all = tries family pool room (rows_in ws) 0 0

  -- r rows are made: those from `at` on come to what all come to, and put where the loop stands leave what all leave
  pub record Making (at r used : ℕ) (made : List ℕ) : Type 0 where
    pub tries : Trying family pool room ws at r used
    pub later : List (List ℕ)
    pub here : Here ws at later
    pub inside : used ≤ length made
    pub size : length made ≡ length first
    pub same : sets made used (joined family pool later) ≡ sets first 0 (joined family pool (rows_in ws))

  pub make_start : InRows ws → Making 0 0 0 first
  make_start e = record { tries = try_start family pool room ws e; later = rows_in ws; here = e; inside = omega arith; size = refl; same = refl }

  module _ {at r used : ℕ} {made : List ℕ} (k : Making at r used made) where
    pub make_end : length ws ≤ at → AllMade family pool room (rows_in ws) r used first made
    unfolding joined
    make_end h =
        record {
          taken = try_end _ _ _ _ k.tries h;
          fits = omega (arith, k.inside, k.size);
          content = ap (λ rows. sets made used (joined family pool rows)) (sym (no_rows ws k.here h)) ∙ k.same;
        }

    -- one row more, and what its writer left
    module _ (h : at < length ws) {a : Answer} {new : List ℕ} (e : leaves.left a new ≡ write_family family (row_at ws at) pool made used) where
      abbrev row : List ℕ
      row = row_at ws at

      left_is : {b : Answer} → a ≡ b → leaves.left b new ≡ stored (measured_family family row pool) (family_bytes family pool row) made used
      left_is p = ap (λ x. leaves.left x new) (sym p) ∙ e ∙ family-stored family row pool made used

      module _ {m : ℕ} (p : a ≡ Ok m) where
        told : (measured_family family row pool ≡ Ok m) × (used + m ≤ length made)
        told = size_told _ made used (measured_family family row pool) (left_is p)

        fitting : Fits family row pool (length made) used
        fitting = record { size = m; measures = told.0; fits = told.1 }

        pub make_cramped : room < used + m → Bad refusal.Room r ≡ all
        make_cramped l = try_cramped _ _ _ _ k.tries h refl told.0 l

        pub make_next : used + m ≤ room → Making (end_of ws at) (r + 1) (used + m) new
        make_next l =
            let u = row_wrote family row pool made used fitting e p in
            record {
              tries = try_next _ _ _ _ k.tries h refl told.0 l;
              later = (round ws k.here h).later;
              here = (round ws k.here h).next;
              inside = omega (arith, told.1, same_size u);
              size = same_size u ∙ k.size;
              same = put_next family pool (round ws k.here h).are u k.same;
            }

      module _ {w : Refusal} {v : ℕ} (p : a ≡ Refused w v) where
        barred : Barred (measured_family family row pool) w v
        barred = refusal_told _ made used (measured_family family row pool) (left_is p)

        -- no room for it in the body either
        pub make_barred : room < used + v → Bad w r ≡ all
        make_barred l = go barred
          where
            go : Barred (measured_family family row pool) w v → Bad w r ≡ all
            go (Own q) = try_refused _ _ _ _ k.tries h refl q
            go (Cramped z q) = ap (λ x. Bad x r) z ∙ try_cramped _ _ _ _ k.tries h refl q l

        -- the row's own refusal
        pub make_refused : (number_of_refusal w ≡ 8 → ⊥) → Bad w r ≡ all
        unfolding number_of_refusal
        make_refused n = go barred
          where
            go : Barred (measured_family family row pool) w v → Bad w r ≡ all
            go (Own q) = try_refused _ _ _ _ k.tries h refl q
            go (Cramped z q) = absurd (n (ap number_of_refusal z))

-- the one refusal of number 8
pub room_of : (w : Refusal) → number_of_refusal w ≡ 8 → w ≡ refusal.Room
unfolding number_of_refusal
room_of refusal.Limit e = impossible cc
room_of refusal.Kind e = impossible cc
room_of refusal.Row e = impossible cc
room_of refusal.Tag e = impossible cc
room_of refusal.Range e = impossible cc
room_of (refusal.Text offset) e = impossible cc
room_of refusal.TooBig e = impossible cc
room_of refusal.Room e = refl
room_of refusal.Order e = impossible cc
room_of refusal.Count e = impossible cc
room_of refusal.Cut e = impossible cc
room_of refusal.Code e = impossible cc
room_of refusal.Number e = impossible cc
room_of refusal.Newer e = impossible cc
room_of refusal.Sheet e = impossible cc
room_of refusal.Frame e = impossible cc
