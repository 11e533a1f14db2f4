-- What is accepted, written again beside the bytes that were taken, gives these bytes, with each number in its shortest form; and it has
-- no byte above the grade: for every plan, from the law of each field.
use Rattle.std.specs.Prelude.{Err, Ok}
use Prim.Native.Nat.{ℕ, ◌+◌, ◌-◌, ◌≤◌}
use native.Mathlib.Omega.{arith}
use mathlib.Core.Path.{◌≡◌, refl, sym, ap, ◌∙◌, subst}
use mathlib.Core.List.{List, ◌++◌, append_assoc}
use lib.ListN.{length, take, drop, length-append}
use lib.Seq.{drop_at, drop-drop, take-add}
use Rattle.fields.specs.declared.Field.{Field}
use Rattle.fields.specs.Flaw.{Right}
use Rattle.fields.specs.Leaf.{Leaf, Fine}
use Rattle.fields.proofs.OutcomeLaws.{fine-same}
use Rattle.writing.specs.Binary.{bytes}
use Rattle.reading.specs.Fill.{fill}
use Rattle.fields.specs.Words.{Words, wide}
use Rattle.writing.specs.Judge.{flaw, judge}
use Rattle.reading.specs.Read.{reader}
use Rattle.reading.specs.Scan.{scan}
use Rattle.fields.specs.View.{view, said}
use Rattle.fields.specs.Walk.{Plan, end, step, Side, next, took, walk, outs}
use Rattle.writing.specs.Write.{writer}
use Rattle.round_trip.specs.Padded.{Padded}
use Rattle.round_trip.proofs.PaddedLaws.{padded-same, padded_by, padded_both}
use Rattle.round_trip.specs.Mark.{Clear, mark, ahead, first_mark, SameFields}
use Rattle.round_trip.proofs.GradeOnly.{no_words, words_and}
use Rattle.round_trip.proofs.SameBytes.{field_same}
use Rattle.numbers.proofs.Impossible.{impossible}

-- a walk ends no earlier than it starts
abbrev pub Past : Leaf → ℕ → Type 0
Past (Ok span) at = at ≤ span.took
Past (Err fault) at = Unit {0}

pub walk-grows : (s : Side) (p : Plan) (xs : List ℕ) (at made : ℕ) → Past (walk s p xs at made) at
unfolding walk
walk-grows s end xs at made = omega arith
walk-grows s (step f k) xs at made = go (s.look f xs) (λ t m. walk-grows s (k (s.tell f at xs)) (drop t xs) (at + t) (made + m))
  where
    less : (w : Leaf) (t : ℕ) → Past w (at + t) → Past w at
    less (Ok span) t h = omega arith
    less (Err fault) t h = tt

    go : (l : Leaf) → ((t m : ℕ) → Past (walk s (k (s.tell f at xs)) (drop t xs) (at + t) (made + m)) (at + t))
        → Past (next l (λ t m. walk s (k (s.tell f at xs)) (drop t xs) (at + t) (made + m)) at) at
    go (Ok span) ih = less (walk s (k (s.tell f at xs)) (drop span.took xs) (at + span.took) (made + span.made)) span.took (ih span.took span.made)
    go (Err fault) ih = tt

-- the words that are read of a field at b, which takes t bytes of xs and makes m words, are right beside the pool, are written again
-- there, say there what they say beside the input, and mark no form above the grade
pub record Only (lead g : ℕ) (pool input : List ℕ) (f : Field) (xs : List ℕ) (t m b : ℕ) : Type 0 where
  pub makes : m ≡ wide f
  pub inside : t ≤ length xs
  pub fills : length (fill g f b xs) ≡ wide f
  pub right : (more : List ℕ) → flaw pool f (fill g f b xs ++ more) ≡ Right
  pub again : (more : List ℕ) → Padded (take t xs) (bytes pool f (fill g f b xs ++ more))
  pub says : (more : List ℕ) → view pool f (fill g f b xs ++ more) ≡ view input f (fill g f b xs)
  pub tells : (more : List ℕ) → said pool f (fill g f b xs ++ more) ≡ said input f (fill g f b xs ++ more)
  pub small : Words (fill g f b xs)
  pub clear : (more : List ℕ) → mark lead g f (fill g f b xs ++ more) ≡ Clear

-- the same from the words that are made
pub only-words : {lead g : ℕ} {pool input : List ℕ} {f : Field} {xs : List ℕ} {t m b : ℕ} (words : List ℕ) → fill g f b xs ≡ words
    → length words ≡ wide f → m ≡ wide f → t ≤ length xs → ((more : List ℕ) → flaw pool f (words ++ more) ≡ Right)
    → ((more : List ℕ) → Padded (take t xs) (bytes pool f (words ++ more)))
    → ((more : List ℕ) → view pool f (words ++ more) ≡ view input f words)
    → ((more : List ℕ) → said pool f (words ++ more) ≡ said input f (words ++ more))
    → Words words → ((more : List ℕ) → mark lead g f (words ++ more) ≡ Clear) → Only lead g pool input f xs t m b
only-words {lead} {g} {pool} {input} {f} words e long makes inside right again says tells small clear =
    record {
      makes = makes;
      inside = inside;
      fills = ap length e ∙ long;
      right = λ more. ap (λ l. flaw pool f (l ++ more)) e ∙ right more;
      again = λ more. padded_by (ap (λ l. bytes pool f (l ++ more)) e) (again more) refl;
      says = λ more. ap (λ l. view pool f (l ++ more)) e ∙ says more ∙ ap (λ l. view input f l) (sym e);
      tells = λ more. subst (λ l. said pool f (l ++ more) ≡ said input f (l ++ more)) (sym e) (tells more);
      small = subst Words (sym e) small;
      clear = λ more. ap (λ l. mark lead g f (l ++ more)) e ∙ clear more;
    }

-- what the writer says of them
pub judges : {lead g : ℕ} {pool input : List ℕ} {f : Field} {xs : List ℕ} {t m b : ℕ} → Only lead g pool input f xs t m b → (more : List ℕ)
    → judge pool f (fill g f b xs ++ more) ≡ Fine m (length (bytes pool f (fill g f b xs ++ more)))
unfolding judge
judges {g = g} {pool} {f = f} {xs} {b = b} h more =
    let makes = sym h.makes in
    rw (h.right more) (λ i. Fine (makes i) (length (bytes pool f (fill g f b xs ++ more))))

module _ (lead g : ℕ) (pool input : List ℕ) (e q : ℕ)
    (only : (f : Field) (b t m : ℕ) → scan lead g f (drop b input) ≡ Fine t m → b + t ≤ e → Only lead g pool input f (drop b input) t m b) where
  -- the words ws that are read of a plan from b on: the writer takes them, whatever follows, and writes the bytes again; and they mark no
  -- form above the grade
  pub record Ends (p : Plan) (b c : ℕ) (ws : List ℕ) : Type 0 where
    pub count : q ≡ c + length ws
    pub small : Words ws
    pub clear : (more : List ℕ) (z : ℕ) → first_mark lead g pool p (ws ++ more) z ≡ Clear
    pub judges : (more : List ℕ) (at made : ℕ)
        → walk (writer pool) p (ws ++ more) at made ≡ Fine (at + length ws) (made + length (outs (writer pool) p at (ws ++ more)))
    pub again : (more : List ℕ) (at : ℕ) → Padded (take (e - b) (drop b input)) (outs (writer pool) p at (ws ++ more))
    -- what says beside the input what a row says, says it beside the pool
    pub tells : (more pool' row : List ℕ) → SameFields pool' input p row (ws ++ more) → SameFields pool' pool p row (ws ++ more)

  pub read_only : (p : Plan) (b c : ℕ) → walk (reader lead g input) p (drop b input) b c ≡ Fine e q
      → Ends p b c (outs (reader lead g input) p b (drop b input))
  unfolding walk outs first_mark SameFields
  read_only end b c r =
      let eb : b ≡ e = (fine-same r).0 in
      let ec : c ≡ q = (fine-same r).1 in
      let z : e - b ≡ 0 = omega arith in
      record {
        count = omega arith;
        small = no_words;
        clear = λ more z. refl;
        judges = λ more at made.
            let u : at ≡ at + 0 = omega arith in
            let v : made ≡ made + 0 = omega arith in
            (λ i. Fine (u i) (v i));
        again = λ more at. padded-same (ap (λ n. take n (drop b input)) (sym z));
        tells = λ more pool' row h. tt;
      }
  read_only (step f k) b c r =
      go (scan lead g f xs) refl (λ t m. read_only (k (view input f (fill g f b (drop b input)))) (b + t) (c + m)) r
    where
      xs : List ℕ
      xs = drop b input

      p : Plan
      p = k (view input f (fill g f b xs))

      U : ℕ → List ℕ
      U t = outs (reader lead g input) p (b + t) (drop (b + t) input)

      go : (l : Leaf) → scan lead g f xs ≡ l
          → ((t m : ℕ) → walk (reader lead g input) p (drop (b + t) input) (b + t) (c + m) ≡ Fine e q → Ends p (b + t) (c + m) (U t))
          → next l (λ t m. walk (reader lead g input) p (drop t xs) (b + t) (c + m)) b ≡ Fine e q
          → Ends (step f k) b c (fill g f b xs ++ outs (reader lead g input) p (b + took l) (drop (took l) xs))
      go (Err fault) s ih r = impossible cc
      go (Ok span) s ih r =
          let x = writer pool in
          let y = reader lead g input in
          let dd : drop span.took xs ≡ drop (b + span.took) input = drop-drop span.took b input in
          let r' : walk y p (drop (b + span.took) input) (b + span.took) (c + span.made) ≡ Fine e q = ap (λ l. walk y p l (b + span.took) (c + span.made)) (sym dd) ∙ r in
          let inside : b + span.took ≤ e = subst (λ w. Past w (b + span.took)) r' (walk-grows y p (drop (b + span.took) input) (b + span.took) (c + span.made)) in
          let h = only f b span.took span.made s inside in
          let i = ih span.took span.made r' in
          let i₀ = i.count in
          let ws = fill g f b xs in
          let n : length ws ≡ span.made = h.fills ∙ sym h.makes in
          let la : length (ws ++ U span.took) ≡ length ws + length (U span.took) = length-append ws (U span.took) in
          let all : (more : List ℕ) → (ws ++ U span.took) ++ more ≡ ws ++ (U span.took ++ more) = append_assoc ws (U span.took) in
          let bs : List ℕ → List ℕ = λ more. bytes pool f (ws ++ (U span.took ++ more)) in
          let lx : (more : List ℕ) → judge pool f ((ws ++ U span.took) ++ more) ≡ Fine span.made (length (bs more)) =
          λ more. ap (λ l. judge pool f l) (all more) ∙ judges h (U span.took ++ more) in
          let vx : (more : List ℕ) → view pool f ((ws ++ U span.took) ++ more) ≡ view input f ws =
          λ more. ap (λ l. view pool f l) (all more) ∙ h.says (U span.took ++ more) in
          let dx : (more : List ℕ) → drop span.made ((ws ++ U span.took) ++ more) ≡ U span.took ++ more =
          λ more. ap (λ l. drop span.made l) (all more) ∙ drop_at ws (U span.took ++ more) span.made n in
          let whole : (more : List ℕ) (at : ℕ) → outs x (step f k) at ((ws ++ U span.took) ++ more) ≡ bs more ++ outs x p (at + span.made) (U span.took ++ more) =
          λ more at.
          ap (λ l. bytes pool f ((ws ++ U span.took) ++ more) ++ outs x (k (view pool f ((ws ++ U span.took) ++ more))) (at + took l) (drop (took l) ((ws ++ U span.took) ++ more))) (lx more)
          ∙ ap (λ v. bytes pool f ((ws ++ U span.took) ++ more) ++ outs x (k v) (at + span.made) (drop span.made ((ws ++ U span.took) ++ more))) (vx more)
          ∙ ap (λ l. bytes pool f ((ws ++ U span.took) ++ more) ++ outs x p (at + span.made) l) (dx more)
          ∙ ap (λ l. bytes pool f l ++ outs x p (at + span.made) (U span.took ++ more)) (all more) in
          let k₁ : span.took + (e - (b + span.took)) ≡ e - b = omega arith in
          subst (λ l. Ends (step f k) b c (ws ++ outs y p (b + span.took) l)) (sym dd)
          (record {
            count = omega arith;
            small = words_and ws (U span.took) h.small i.small;
            clear = λ more z.
                let rest = z + length (bytes pool f ((ws ++ U span.took) ++ more)) in
                ap (λ c. ahead c z (first_mark lead g pool (k (view pool f ((ws ++ U span.took) ++ more))) (drop (wide f) ((ws ++ U span.took) ++ more)) rest))
                (ap (λ l. mark lead g f l) (all more) ∙ h.clear (U span.took ++ more))
                ∙ ap (λ v. first_mark lead g pool (k v) (drop (wide f) ((ws ++ U span.took) ++ more)) rest) (vx more)
                ∙ ap (λ w. first_mark lead g pool p (drop w ((ws ++ U span.took) ++ more)) rest) (sym h.makes)
                ∙ ap (λ l. first_mark lead g pool p l rest) (dx more)
                ∙ i.clear more rest;
            judges = λ more at made.
                let os = outs x p (at + span.made) (U span.took ++ more) in
                let size = length (bs more) in
                let p₁ : at + span.made + length (U span.took) ≡ at + length (ws ++ U span.took) = omega arith in
                let q₁ : made + size + length os ≡ made + length (outs x (step f k) at ((ws ++ U span.took) ++ more)) =
                omega (arith, length-append (bs more) os, ap length (whole more at)) in
                ap (λ l. next l (λ t' m'. walk x (k (view pool f ((ws ++ U span.took) ++ more))) (drop t' ((ws ++ U span.took) ++ more)) (at + t') (made + m')) at) (lx more)
                ∙ ap (λ v. walk x (k v) (drop span.made ((ws ++ U span.took) ++ more)) (at + span.made) (made + size)) (vx more)
                ∙ ap (λ l. walk x p l (at + span.made) (made + size)) (dx more)
                ∙ i.judges more (at + span.made) (made + size)
                ∙ (λ i. Fine (p₁ i) (q₁ i));
            again = λ more at.
                padded_by (whole more at) (padded_both (h.again (U span.took ++ more)) (i.again more (at + span.made)))
                (ap (λ l. take span.took xs ++ take (e - (b + span.took)) l) (sym dd) ∙ sym (take-add span.took (e - (b + span.took)) xs) ∙ ap (λ n. take n xs) k₁);
            tells = λ more pool' row same.
                let vs = (ws ++ U span.took) ++ more in
                let row' = drop (wide f) row in
                let tells : said pool f vs ≡ said input f vs =
                ap (λ l. said pool f l) (all more) ∙ h.tells (U span.took ++ more) ∙ ap (λ l. said input f l) (sym (all more)) in
                let goes : k (view pool' f row) ≡ p =
                ap k (sym (field_same f pool' input row vs same.0).1 ∙ sym (field_same f input pool vs vs tells).1 ∙ vx more) in
                let past : drop (wide f) vs ≡ U span.took ++ more = ap (λ w. drop w vs) (sym h.makes) ∙ dx more in
                let read = subst (λ l. SameFields pool' input p row' l) past (subst (λ z. SameFields pool' input z row' (drop (wide f) vs)) goes same.1) in
                let kept = subst (λ l. SameFields pool' pool p row' l) (sym past) (i.tells more pool' row' read) in
                (tells ∙ same.0, subst (λ z. SameFields pool' pool z row' (drop (wide f) vs)) (sym goes) kept);
          })
