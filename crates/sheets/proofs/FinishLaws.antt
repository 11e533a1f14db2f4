-- What the rows of a sheet, laid out as words, come to for each way out: refused, without room for the section, and finished; and so the sheet.
use Rattle.std.specs.Prelude.{Ok}
use Prim.Native.Nat.{ℕ, ◌+◌, ◌-◌, ◌/◌, ◌≤◌, ◌<◌}
use native.Mathlib.Omega.{arith}
use mathlib.Core.Path.{◌≡◌, refl, sym, ap, ◌∙◌}
use mathlib.Core.Bool.{Bool, true, false, cond}
use mathlib.Core.List.{List, [], ◌∷◌}
use borrow.Author.Tests.{le-leb, lt-leb, le-ltb}
use lib.Dec.{eqb, leb}
use lib.ListN.{length, take, drop}
use lib.Seq.{sets, length-sets}
use Rattle.numbers.specs.Bytes as numbers
use Rattle.numbers.specs.Bytes.{store}
use Rattle.numbers.specs.Leb.{unsigned}
use Rattle.numbers.specs.Stored.{Stored}
use Rattle.numbers.proofs.BytesLaws.{sets_back, store-fits}
use Rattle.numbers.proofs.LebLaws.{size_bounds}
use Rattle.fields.specs.Answer.{Answer, Refused}
use Rattle.fields.specs.declared.Refusal.{Refusal}
use Rattle.fields.specs.declared.Refusal.TheVariants as refusal
use Rattle.fields.specs.Leaf.{Leaf, Fine, Bad}
use Rattle.fields.specs.Words.{word}
use Rattle.fields.specs.Answers as leaves
use Rattle.sections.specs.Section.{entries_of, known, known_family, sounds}
use Rattle.sections.specs.Finish.{framing, finishing}
use Rattle.sections.proofs.FrameLaws.{frame_size, frame_fits}
use Rattle.sheets.specs.Frame.{Rows, Are, Broken, words, pool_length, pool_of, framed, listed}
use Rattle.sheets.specs.Sheet.{Left, left, family_of, tries, joined, section, finished, written, of_rows}
use Rattle.sheets.specs.inside.Steps.{rest, Framed, RowsAt, laid, rows_in, SheetWords, words_left, first_family, section_size, closed}
use Rattle.sheets.proofs.FrameLaws.{laid_out, front, frame_layout}
use Rattle.sheets.proofs.LaidLaws.{Lies, lies, laid_count}
use Rattle.sheets.proofs.SheetLaws.{Tried, tried_all}
use Rattle.numbers.proofs.Impossible.{impossible}

-- every kind has a section's family
family-known : (kind : ℕ) → known_family (family_of kind) ≡ true
unfolding known_family family_of
family-known kind = go (leb 256 kind) (eqb kind 17) (eqb kind 18) (eqb kind 19) (eqb kind 20) (eqb kind 21)
  where
    go : (a b c d e f : Bool)
        → known (entries_of (cond a 8 (cond b 10 (cond c 2 (cond d 5 (cond e 2 (cond f 5 7))))))) ≡ true
    go true b c d e f = refl
    go false true c d e f = refl
    go false false true d e f = refl
    go false false false true e f = refl
    go false false false false true f = refl
    go false false false false false true = refl
    go false false false false false false = refl

-- rows of which there is one
rows_are : (r : Rows) (row : List ℕ) (later : List (List ℕ)) → listed r ≡ row ∷ later → (pool body out : List ℕ)
    → let family = family_of (word row 0) in
    of_rows r pool body out ≡ written (tries family pool (length body) (listed r) 0 0) family (joined family pool (listed r)) body out
rows_are Broken row later e pool body out = impossible cc
rows_are (Are []) row later e pool body out = impossible cc
rows_are (Are (x ∷ xs)) row later e pool body out =
    let same : x ≡ row = cc in
    ap
    (λ y. written (tries (family_of (word y 0)) pool (length body) (x ∷ xs) 0 0) (family_of (word y 0)) (joined (family_of (word y 0)) pool (x ∷ xs)) body out)
    same

-- the words that were laid out from `start` to the end are the sheet's rows
pub rows_lie : (s first row : List ℕ) (start n : ℕ) → Framed s start → n ≡ (length s - start) / 4 → n ≤ length first
    → row ≡ sets first 0 (words s start n) → Lies (take n row) (listed (rest s start))
rows_lie s first row start n f en h e =
    let w = frame_layout s start f in
    let all : n ≡ length (laid (listed (rest s start))) = omega (arith, w.long) in
    lies (take n row) (listed (rest s start)) (laid_out s first row start n e h ∙ ap (words s start) all ∙ w.same)

-- a sheet whose frame is whole, its rows as words, and the family of the first
module _ {s ws : List ℕ} {start family : ℕ}
    (found : RowsAt s start) (behind : Lies ws (listed (rest s start))) (first : family ≡ first_family s start) where
  pub sheet_words_lem : length s ≤ 65536 → SheetWords family ws
  sheet_words_lem h =
      let l = (frame_layout s start found.fills).long in
      let k = ap length behind.whole ∙ ap (λ rows. length (laid rows)) behind.same in
      record { whole = behind.whole; few = omega arith; known = rw first (family-known _) }

  -- the pool is what stands before the rows
  pub sheet_left : (body out : List ℕ) {l : Left} → l ≡ words_left family ws (take (start - 5) (drop 5 s)) body out
      → l ≡ of_rows (framed s) (pool_of s) body out
  sheet_left body out e =
      let p : start - 5 ≡ pool_length s = omega (arith, found.place) in
      rw (behind.same, first, p) at e
      ∙ rw found.same (sym (rows_are (rest s start) _ _ (front found.fills found.some).rows (pool_of s) body out))

module _ {family : ℕ} {ws : List ℕ} (sheet : SheetWords family ws) (pool body out : List ℕ) where
  abbrev rows : List (List ℕ)
  rows = rows_in ws

  abbrev tried : Leaf
  tried = tries family pool (length body) rows 0 0

  abbrev string : List ℕ
  string = joined family pool rows

  pub words_refused : {w : Refusal} {r : ℕ} → Bad w r ≡ tried → left (Refused w r) body out ≡ words_left family ws pool body out
  words_refused e = ap (λ l. written l family string body out) e

  module _ {r used : ℕ} (e : Fine r used ≡ tried) where
    all : Tried family pool (length body) rows 0 0 r used
    all = tried_all family pool (length body) rows 0 0 r used (omega arith) e

    -- there are few rows, and no more bytes than a section may have
    pub few : (r ≤ 16384) × (used ≤ 4294967290)
    few =
        let l = ap length sheet.whole in
        let k = laid_count rows in
        let short = sheet.few in
        (omega (arith, all.count), omega (arith, all.bound))

    words_fine : finished family r string body out ≡ words_left family ws pool body out
    words_fine = ap (λ l. written l family string body out) e

    long : used ≡ length string
    long = omega (arith, all.long)

    sized : length (section family r string) ≡ section_size r used
    sized = frame_size family (length (unsigned r) + length string) r string ∙ ap (section_size r) (sym long)

    pub words_cramped : length out < section_size r used → left (Refused refusal.Room r) body out ≡ words_left family ws pool body out
    unfolding finished
    words_cramped h =
        let k : length out < length (section family r string) = omega (arith, sized) in
        simp (lt-leb _ _ k) at words_fine

    -- their bytes, where they were put at the front of a buffer
    front_is : (old : List ℕ) {new : List ℕ} → used ≤ length old → new ≡ sets old 0 string → take used new ≡ string
    front_is old h en = ap (take used) en ∙ ap (λ k. take k (sets old 0 string)) long ∙ sets_back string old 0 (omega (arith, long))

    -- and copied from there to the body
    pub words_copied : (old : List ℕ) {new last : List ℕ} {a : Stored} → used ≤ length old → new ≡ sets old 0 string
        → numbers.left a last ≡ store (take used new) 0 body → last ≡ sets body 0 string
    words_copied old h en ea =
        ap (λ l. l.buffer) (ea ∙ ap (λ l. store l 0 body) (front_is old h en) ∙ store-fits string 0 body (omega (arith, long, all.fits)))

    -- the state of the rows that are written is finished as their section
    module _ (h : section_size r used ≤ length out) {new : List ℕ} (en : new ≡ sets body 0 string) where
      finishes : finishing (closed family used r) new out
          ≡ leaves.left (Ok (length (section family r string))) (sets out 0 (section family r string))
      unfolding finishing sounds
      finishes =
          let inside : used ≤ length new = omega (arith, all.fits, ap length en ∙ length-sets body 0 string) in
          let back = front_is body all.fits en in
          let m = length (unsigned r) in
          simp (le-ltb _ _ inside, sheet.known)
          (ap (λ l. framing family r l out) back
          ∙ frame_fits family r string out refl (omega (arith, long, few.1, size_bounds 128 r)) refl (omega (arith, sized, frame_size family (m + length string) r string))
          ∙ ap (λ k. leaves.left (Ok k) (sets out 0 (section family r string))) (sym (frame_size family (m + length string) r string)))

      pub words_finished : {last : List ℕ} {a : Answer}
          → leaves.left a last ≡ finishing (closed family used r) new out
          → left a new last ≡ words_left family ws pool body out
      unfolding finished
      words_finished {last} {a} ea =
          let k : length (section family r string) ≤ length out = omega (arith, sized) in
          let both = ea ∙ finishes in
          (λ i. left (both i).answer (en i) (both i).buffer) ∙ (simp (le-leb _ _ k) at words_fine)
