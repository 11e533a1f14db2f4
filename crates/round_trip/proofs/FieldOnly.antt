-- What is read of a field, written again beside the bytes taken, gives the field's bytes, with each number in its shortest form, and has
-- no byte above the grade.
use Rattle.std.specs.Prelude.{Err, Ok}
use Prim.Native.Nat.{ℕ, ◌+◌, ◌^◌, ◌≤◌, ◌<◌}
use native.Mathlib.Omega.{arith}
use native.Mathlib.Numerals.{add-one}
use mathlib.Core.Path.{◌≡◌, refl, sym, ap, ◌∙◌}
use mathlib.Core.Bool.{Bool, true, false, cond}
use mathlib.Core.List.{List, [], ◌∷◌, ◌++◌}
use borrow.Author.Tests.{eqb-true, lt-ltb}
use lib.Dec.{eqb}
use lib.ListN.{length, take, drop, length-take}
use lib.Seq.{take-suc}
use Rattle.numbers.specs.Bytes.{Bytes}
use Rattle.fields.specs.declared.Field.{Field}
use Rattle.fields.specs.declared.Field.TheVariants as field
use Rattle.fields.specs.Flaw.{Right}
use Rattle.fields.specs.declared.Refusal.TheVariants.{Code}
use Rattle.fields.specs.Leaf.{Leaf, Fine, Bad}
use Rattle.fields.proofs.OutcomeLaws.{fine-same}
use Rattle.writing.specs.Binary.{optional, functype, flag, representation, bytes}
use Rattle.reading.specs.Fill.{fill_optional, fill}
use Rattle.fields.specs.Words.{word, wide}
use Rattle.writing.specs.Judge.{below, flaw}
use Rattle.reading.specs.Scan.{byte, asked, then_zero, scan_optional, scan}
use Rattle.fields.specs.View.{Name, view, said}
use Rattle.round_trip.proofs.PaddedLaws.{padded-same, padded_by, padded-before}
use Rattle.round_trip.proofs.ExternOnly.{name_found, name_seen, name-judged, extern_only}
use Rattle.round_trip.proofs.FieldBack.{Optioned, Bit, off, on}
use Rattle.fields.specs.Grades.{grade_of}
use Rattle.fields.specs.declared.Site.TheVariants.{CanonOption}
use Rattle.round_trip.proofs.GradeOnly.{no_words, one_word, two_words, prime_small, value_words, optional-words, bit-words, present-words, choice-words, reference-words, name_words, asked_clear, prime_clear, value_clear, optional_clear, zero_clear, result_clear, async_clear, choice_clear, reference_clear}
use Rattle.round_trip.proofs.Only.{Only, only-words}
use Rattle.round_trip.specs.Mark.{Clear, asks, primitive_grade, value_mark, mark}
use Rattle.round_trip.proofs.ScanOnly.{there-fine, asked-fine, front, bytes-behind, index_seen, prime_seen, PairSeen, value-seen, optional_seen, result_seen, present_seen, choice_seen, bit-seen, reference-seen, prime_judged, value_judged, optional_judged, present_judged, choice_judged, reference_judged, argument-seen, core_sort_seen, sort_seen}
use Rattle.numbers.proofs.Impossible.{impossible}

-- a byte 00 behind an optional value
zero_seen : (g : ℕ) (xs : List ℕ) (t m : ℕ) → Bytes xs → then_zero xs (scan_optional g xs) ≡ Fine t m
    → PairSeen Optioned (λ k x. optional k x ++ 0x00 ∷ []) (fill_optional 0x01 xs) xs t m
zero_seen g xs t m f e = go (scan_optional g xs) refl e
  where
    go : (l : Leaf) → scan_optional g xs ≡ l → then_zero xs l ≡ Fine t m
        → PairSeen Optioned (λ k x. optional k x ++ 0x00 ∷ []) (fill_optional 0x01 xs) xs t m
    go (Err fault) s e = impossible cc
    go (Ok span) s e = let p = there-fine xs span.took _ t m e in zero (eqb (byte xs span.took) 0) refl p.0 p.1
      where
        zero : (b : Bool) → eqb (byte xs span.took) 0 ≡ b → span.took < length xs → cond b (Fine (span.took + 1) span.made) (Bad Code span.took) ≡ Fine t m
            → PairSeen Optioned (λ k x. optional k x ++ 0x00 ∷ []) (fill_optional 0x01 xs) xs t m
        zero true q h e =
            let o = optional_seen g xs span.took span.made f s in
            let et : span.took + 1 ≡ t = (fine-same e).0 in
            let ec : span.made ≡ m = (fine-same e).1 in
            let z = sym (eqb-true (byte xs span.took) 0 q) in
            record {
              a = o.a;
              b = o.b;
              right = o.right;
              fills = o.fills;
              again =
                  padded_by refl (padded-before (0x00 ∷ []) o.again)
                  (ap (λ n. take span.took xs ++ n ∷ []) z ∙ sym (take-suc xs span.took 0 h) ∙ ap (λ k. take k xs) (sym (add-one span.took) ∙ et));
              inside = omega arith;
              makes = sym ec ∙ o.makes;
            }
        zero false q h e = impossible cc

bit-judged : {k : ℕ} (more : List ℕ) → Bit k → below 2 (k ∷ more) 0 ≡ Right
bit-judged more off = refl
bit-judged more on = refl

module _ (lead g e : ℕ) (input : List ℕ) (fi : Bytes input) (any : 1 ≤ g) (few : e < 2 ^ 32) where
  pub field_only : (f : Field) (b t m : ℕ) → scan lead g f (drop b input) ≡ Fine t m → b + t ≤ e
      → Only lead g (take e input) input f (drop b input) t m b
  unfolding flaw bytes scan fill view wide functype flag representation mark said
  field_only field.Nothing b t m s h =
      let et : 0 ≡ t = (fine-same s).0 in
      only-words [] refl refl (sym (fine-same s).1) (omega arith) (λ more. refl) (λ more. padded-same (ap (λ k. take k (drop b input)) et)) (λ more. refl) (λ more. refl) no_words
      (λ more. refl)
  field_only (field.Fixed x) b t m s h =
      let xs = drop b input in
      let p = there-fine xs 0 _ t m s in
      fixed (eqb (byte xs 0) x) refl p.0 p.1
    where
      fixed : (k : Bool) → eqb (byte (drop b input) 0) x ≡ k → 0 < length (drop b input) → cond k (asked g lead 0 (Fine 1 0)) (Bad Code 0) ≡ Fine t m
          → Only lead g (take e input) input (field.Fixed x) (drop b input) t m b
      fixed true q i s =
          let xs = drop b input in
          let s' = asked-fine g lead 0 (Fine 1 0) t m s in
          let et : 1 ≡ t = (fine-same s').0 in
          only-words [] refl refl (sym (fine-same s').1) (omega arith) (λ more. refl)
          (λ more. padded-same (ap (λ n. n ∷ []) (sym (eqb-true _ _ q)) ∙ sym (front xs 0 i) ∙ ap (λ k. take k xs) et)) (λ more. refl)
          (λ more. refl) no_words (λ more. asked_clear g lead 0 (Fine 1 0) t m s 0)
      fixed false q i s = impossible cc
  field_only field.Primitive b t m s h =
      let xs = drop b input in
      let p = there-fine xs 0 _ t m s in
      let v = prime_seen g (byte xs 0) 1 t m p.1 in
      let et = v.took in
      only-words (v.p ∷ []) (ap (λ n. n ∷ []) v.reads) refl v.makes (omega (arith, p.0)) (λ more. prime_judged more v.right)
      (λ more. padded-same (ap (λ n. n ∷ []) v.again ∙ sym (front xs 0 p.0) ∙ ap (λ k. take k xs) (sym et))) (λ more. refl)
      (λ more. refl) (one_word v.p (prime_small v.right))
      (λ more. ap (λ n. asks g (primitive_grade n) 0) (sym v.reads) ∙ prime_clear g any (byte xs 0) 1 t m p.1 0)
  field_only field.Value b t m s h =
      let v = value-seen g (drop b input) t m (bytes-behind input b fi) s in
      only-words (v.a ∷ v.b ∷ []) v.fills refl v.makes v.inside (λ more. value_judged more v.right) (λ more. v.again) (λ more. refl)
      (λ more. refl) (value_words v.right) (λ more. ap (λ l. value_mark g (word l 0) (word l 1) 0) (sym v.fills) ∙ value_clear g any (drop b input) t m s 0)
  field_only field.Optional b t m s h =
      let v = optional_seen g (drop b input) t m (bytes-behind input b fi) s in
      only-words (v.a ∷ v.b ∷ []) v.fills refl v.makes v.inside (λ more. optional_judged more v.right) (λ more. v.again) (λ more. refl)
      (λ more. refl) (optional-words v.right) (λ more. ap (λ l. value_mark g (word l 0) (word l 1) 1) (sym v.fills) ∙ optional_clear g any (drop b input) t m s 1)
  field_only field.OptionalThenZero b t m s h =
      let v = zero_seen g (drop b input) t m (bytes-behind input b fi) s in
      only-words (v.a ∷ v.b ∷ []) v.fills refl v.makes v.inside (λ more. optional_judged more v.right) (λ more. v.again) (λ more. refl)
      (λ more. refl) (optional-words v.right) (λ more. ap (λ l. value_mark g (word l 0) (word l 1) 1) (sym v.fills) ∙ zero_clear g any (drop b input) t m s 1)
  field_only field.Result b t m s h =
      let v = result_seen g (drop b input) t m (bytes-behind input b fi) s in
      only-words (v.a ∷ v.b ∷ []) v.fills refl v.makes v.inside (λ more. optional_judged more v.right) (λ more. v.again) (λ more. refl)
      (λ more. refl) (optional-words v.right) (λ more. ap (λ l. value_mark g (word l 0) (word l 1) 1) (sym v.fills) ∙ result_clear g any (drop b input) t m s 1)
  field_only field.Name b t m s h =
      let xs = drop b input in
      let fx = bytes-behind input b fi in
      let r = name_found xs t m fx s in
      let v = name_seen e input xs b refl fx 0 t m s (omega arith) in
      only-words (v.start ∷ v.size ∷ []) v.fills refl r.makes r.inside
      (λ more. name-judged v.right (v.start ∷ v.size ∷ more) 0 refl refl) (λ more. v.again) (λ more. ap (λ l. v.size ∷ l) v.says)
      (λ more. ap (λ l. Name v.size l ∷ []) v.says)
      (name_words (omega (arith, length-take e input)) v.right) (λ more. refl)
  field_only field.Index b t m s h =
      let v = index_seen (drop b input) 1 t m (bytes-behind input b fi) s in
      only-words (v.x ∷ []) (ap (λ n. n ∷ []) v.reads) refl v.makes v.inside (λ more. refl) (λ more. v.again) (λ more. refl)
      (λ more. refl) (one_word v.x v.small) (λ more. refl)
  field_only field.Async b t m s h =
      let v = bit-seen g 2 0x40 0x43 (drop b input) t m s in
      only-words (v.k ∷ []) (ap (λ n. n ∷ []) v.reads) refl v.makes v.inside (λ more. bit-judged more v.right) (λ more. padded-same v.again) (λ more. refl)
      (λ more. refl) (bit-words v.right) (λ more. ap (λ k. cond (eqb k 0) Clear (asks g 2 0)) (sym v.reads) ∙ async_clear g any (drop b input) t m s)
  field_only field.Flag b t m s h =
      let v = bit-seen g 1 0x00 0x01 (drop b input) t m s in
      only-words (v.k ∷ []) (ap (λ n. n ∷ []) v.reads) refl v.makes v.inside (λ more. bit-judged more v.right) (λ more. padded-same v.again) (λ more. refl)
      (λ more. refl) (bit-words v.right) (λ more. refl)
  field_only field.Rep b t m s h =
      let v = bit-seen g 1 0x7f 0x7e (drop b input) t m s in
      only-words (v.k ∷ []) (ap (λ n. n ∷ []) v.reads) refl v.makes v.inside (λ more. bit-judged more v.right) (λ more. padded-same v.again) (λ more. refl)
      (λ more. refl) (bit-words v.right) (λ more. refl)
  field_only field.OptionalIndex b t m s h =
      let v = present_seen g (drop b input) t m (bytes-behind input b fi) s in
      only-words (v.a ∷ v.b ∷ []) v.fills refl v.makes v.inside (λ more. present_judged more v.right) (λ more. v.again) (λ more. refl)
      (λ more. refl) (present-words v.right) (λ more. refl)
  field_only field.Choice b t m s h =
      let v = choice_seen g (drop b input) t m (bytes-behind input b fi) s in
      only-words (v.a ∷ v.b ∷ []) v.fills refl v.makes v.inside (λ more. choice_judged more v.right) (λ more. v.again) (λ more. refl)
      (λ more. refl) (choice-words v.right)
      (λ more. ap (λ l. asks g (grade_of CanonOption (word l 0)) 0) (sym v.fills) ∙ choice_clear g any (drop b input) t m s)
  field_only field.ExternName b t m s h = extern_only lead g e input b t m few (bytes-behind input b fi) s h
  field_only field.Reference b t m s h =
      let v = reference-seen g (drop b input) t m (bytes-behind input b fi) s in
      only-words (v.s ∷ v.x ∷ v.y ∷ []) v.fills refl v.makes v.inside (λ more. reference_judged more v.right) (λ more. v.again)
      (λ more. refl) (λ more. refl) (reference-words v.right)
      (λ more. ap (λ l. cond (eqb (word l 0) 2) (value_mark g (word l 1) (word l 2) 1) Clear) (sym v.fills) ∙ reference_clear g any (drop b input) t m s)
  field_only field.Argument b t m s h =
      let v = argument-seen (drop b input) t m (bytes-behind input b fi) s in
      only-words (v.x ∷ []) (ap (λ n. n ∷ []) v.reads) refl v.makes v.inside (λ more. refl) (λ more. v.again) (λ more. refl)
      (λ more. refl) (one_word v.x v.small) (λ more. refl)
  field_only field.CoreSortIndex b t m s h =
      let v = core_sort_seen (drop b input) t m (bytes-behind input b fi) s in
      only-words (v.s ∷ v.x ∷ []) v.fills refl v.makes v.inside (λ more. simp (lt-ltb _ _ v.right)) (λ more. v.again) (λ more. refl)
      (λ more. refl) (two_words v.s v.x (omega (arith, v.right)) v.small) (λ more. refl)
  field_only field.SortIndex b t m s h =
      let v = sort_seen (drop b input) t m (bytes-behind input b fi) s in
      only-words (v.s ∷ v.x ∷ []) v.fills refl v.makes v.inside (λ more. simp (lt-ltb _ _ v.right)) (λ more. v.again) (λ more. refl)
      (λ more. refl) (two_words v.s v.x (omega (arith, v.right)) v.small) (λ more. refl)
