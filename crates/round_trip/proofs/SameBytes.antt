-- The same item is written as the same bytes, wherever its names stand.
use Rattle.std.specs.Prelude.{Err}
use Prim.Native.Nat.{ℕ, ◌+◌}
use mathlib.Core.Path.{◌≡◌, refl, ap, ◌∙◌, subst}
use mathlib.Core.Bool.{cond}
use mathlib.Core.List.{List, [], ◌∷◌, ◌++◌}
use lib.Dec.{eqb}
use lib.ListN.{length, drop}
use Rattle.numbers.specs.Leb.{unsigned}
use Rattle.fields.specs.declared.Field.{Field}
use Rattle.fields.specs.declared.Field.TheVariants as field
use Rattle.fields.specs.Flaw.{Flaw, Right}
use Rattle.fields.specs.Leaf.{Fine}
use Rattle.fields.specs.Words.{word, chars, wide}
use Rattle.fields.specs.View.{view, said}
use Rattle.fields.specs.Walk.{Plan, end, step, next, took, walk, outs}
use Rattle.writing.specs.Binary.{name, primvaltype, valtype, optional, resultlist, functype, flag, representation, destructor, canonopt, slot_at, slots_at, slots, externname, externdesc, argument, coresortidx, sortidx, bytes}
use Rattle.writing.specs.Judge.{flaw, unless, judge}
use Rattle.writing.specs.Write.{writer}
use Rattle.round_trip.specs.Mark.{SameFields}
use Rattle.round_trip.proofs.Back.{Reaches}

-- what says the same has the same bytes and the same view
pub field_same : (f : Field) (pool input ws vs : List ℕ) → said input f vs ≡ said pool f ws
    → (bytes input f vs ≡ bytes pool f ws) × (view input f vs ≡ view pool f ws)
unfolding said bytes view name externname slots_at slot_at slots
field_same field.Nothing pool input ws vs e = (refl, refl)
field_same (field.Fixed b) pool input ws vs e = (refl, refl)
field_same field.Primitive pool input ws vs e =
    let a : word vs 0 ≡ word ws 0 = cc in
    ((λ i. primvaltype (a i) ∷ []), (λ i. a i ∷ []))
field_same field.Value pool input ws vs e =
    let a : word vs 0 ≡ word ws 0 = cc in
    let b : word vs 1 ≡ word ws 1 = cc in
    ((λ i. valtype (a i) (b i)), (λ i. a i ∷ b i ∷ []))
field_same field.Optional pool input ws vs e =
    let a : word vs 0 ≡ word ws 0 = cc in
    let b : word vs 1 ≡ word ws 1 = cc in
    ((λ i. optional (a i) (b i)), (λ i. a i ∷ b i ∷ []))
field_same field.OptionalThenZero pool input ws vs e =
    let a : word vs 0 ≡ word ws 0 = cc in
    let b : word vs 1 ≡ word ws 1 = cc in
    ((λ i. optional (a i) (b i) ++ 0x00 ∷ []), (λ i. a i ∷ b i ∷ []))
field_same field.Result pool input ws vs e =
    let a : word vs 0 ≡ word ws 0 = cc in
    let b : word vs 1 ≡ word ws 1 = cc in
    ((λ i. resultlist (a i) (b i)), (λ i. a i ∷ b i ∷ []))
field_same field.Name pool input ws vs e =
    let n : word vs 1 ≡ word ws 1 = cc in
    let c : chars input (word vs 0) (word vs 1) ≡ chars pool (word ws 0) (word ws 1) = cc in
    ((λ i. unsigned (n i) ++ c i), (λ i. n i ∷ c i))
field_same field.Index pool input ws vs e =
    let a : word vs 0 ≡ word ws 0 = cc in
    ((λ i. unsigned (a i)), (λ i. a i ∷ []))
field_same field.Async pool input ws vs e =
    let a : word vs 0 ≡ word ws 0 = cc in
    ((λ i. functype (a i) ∷ []), (λ i. a i ∷ []))
field_same field.Flag pool input ws vs e =
    let a : word vs 0 ≡ word ws 0 = cc in
    ((λ i. flag (a i) ∷ []), (λ i. a i ∷ []))
field_same field.Rep pool input ws vs e =
    let a : word vs 0 ≡ word ws 0 = cc in
    ((λ i. representation (a i) ∷ []), (λ i. a i ∷ []))
field_same field.OptionalIndex pool input ws vs e =
    let a : word vs 0 ≡ word ws 0 = cc in
    let b : word vs 1 ≡ word ws 1 = cc in
    ((λ i. destructor (a i) (b i)), (λ i. a i ∷ b i ∷ []))
field_same field.Choice pool input ws vs e =
    let a : word vs 0 ≡ word ws 0 = cc in
    let b : word vs 1 ≡ word ws 1 = cc in
    ((λ i. canonopt (a i) (b i)), (λ i. a i ∷ b i ∷ []))
field_same field.ExternName pool input ws vs e =
    let n : word vs 1 ≡ word ws 1 = cc in
    let c : chars input (word vs 0) (word vs 1) ≡ chars pool (word ws 0) (word ws 1) = cc in
    let p₀ : word vs 2 ≡ word ws 2 = cc in
    let n₀ : word vs 4 ≡ word ws 4 = cc in
    let c₀ : chars input (word vs 3) (word vs 4) ≡ chars pool (word ws 3) (word ws 4) = cc in
    let p₁ : word vs 5 ≡ word ws 5 = cc in
    let n₁ : word vs 7 ≡ word ws 7 = cc in
    let c₁ : chars input (word vs 6) (word vs 7) ≡ chars pool (word ws 6) (word ws 7) = cc in
    let p₂ : word vs 8 ≡ word ws 8 = cc in
    let n₂ : word vs 10 ≡ word ws 10 = cc in
    let c₂ : chars input (word vs 9) (word vs 10) ≡ chars pool (word ws 9) (word ws 10) = cc in (
      (λ i.
          let many = flag (p₀ i) + (flag (p₁ i) + flag (p₂ i)) in
          cond (eqb many 0) (0x00 ∷ (unsigned (n i) ++ c i))
          ((0x02 ∷ (unsigned (n i) ++ c i))
          ++ (many
          ∷ (cond (eqb (p₀ i) 0) [] (0x00 ∷ (unsigned (n₀ i) ++ c₀ i))
          ++ (cond (eqb (p₁ i) 0) [] (0x01 ∷ (unsigned (n₁ i) ++ c₁ i)) ++ cond (eqb (p₂ i) 0) [] (0x02 ∷ (unsigned (n₂ i) ++ c₂ i))))))),
      (λ i. (n i ∷ c i) ++ ((p₀ i ∷ n₀ i ∷ c₀ i) ++ ((p₁ i ∷ n₁ i ∷ c₁ i) ++ (p₂ i ∷ n₂ i ∷ c₂ i)))),
    )
field_same field.Reference pool input ws vs e =
    let a : word vs 0 ≡ word ws 0 = cc in
    let b : word vs 1 ≡ word ws 1 = cc in
    let c : word vs 2 ≡ word ws 2 = cc in
    ((λ i. externdesc (a i) (b i) (c i)), (λ i. a i ∷ b i ∷ c i ∷ []))
field_same field.Argument pool input ws vs e =
    let a : word vs 0 ≡ word ws 0 = cc in
    ((λ i. argument (a i)), (λ i. a i ∷ []))
field_same field.CoreSortIndex pool input ws vs e =
    let a : word vs 0 ≡ word ws 0 = cc in
    let b : word vs 1 ≡ word ws 1 = cc in
    ((λ i. coresortidx (a i) (b i)), (λ i. a i ∷ b i ∷ []))
field_same field.SortIndex pool input ws vs e =
    let a : word vs 0 ≡ word ws 0 = cc in
    let b : word vs 1 ≡ word ws 1 = cc in
    ((λ i. sortidx (a i) (b i)), (λ i. a i ∷ b i ∷ []))

-- a plan whose fields all say the same, where both writers meet no fault
pub same_bytes : (pool input : List ℕ) (p : Plan) (ws vs : List ℕ) (at made at' made' : ℕ) → Reaches (walk (writer pool) p ws at made)
    → Reaches (walk (writer input) p vs at' made') → SameFields pool input p ws vs → outs (writer input) p at' vs ≡ outs (writer pool) p at ws
unfolding walk outs SameFields judge
same_bytes pool input end ws vs at made at' made' r r' s = refl
same_bytes pool input (step f k) ws vs at made at' made' r r' s =
    go (flaw pool f ws) (flaw input f vs) r r'
    (λ u u'. same_bytes pool input (k (view pool f ws)) (drop (wide f) ws) (drop (wide f) vs) (at + wide f) (made + length (bytes pool f ws)) (at' + wide f)
    (made' + length (bytes input f vs)) u u' s.1)
  where
    Later : Type 0
    Later =
        Reaches (walk (writer pool) (k (view pool f ws)) (drop (wide f) ws) (at + wide f) (made + length (bytes pool f ws)))
        → Reaches (walk (writer input) (k (view pool f ws)) (drop (wide f) vs) (at' + wide f) (made' + length (bytes input f vs)))
        → outs (writer input) (k (view pool f ws)) (at' + wide f) (drop (wide f) vs) ≡ outs (writer pool) (k (view pool f ws)) (at + wide f) (drop (wide f) ws)

    both : (bytes input f vs ≡ bytes pool f ws) × (view input f vs ≡ view pool f ws)
    both = field_same f pool input ws vs s.0

    go : (l l' : Flaw)
        → Reaches (next (unless l (Fine (wide f) (length (bytes pool f ws)))) (λ t m. walk (writer pool) (k (view pool f ws)) (drop t ws) (at + t) (made + m)) at)
        → Reaches (next (unless l' (Fine (wide f) (length (bytes input f vs)))) (λ t m. walk (writer input) (k (view input f vs)) (drop t vs) (at' + t) (made' + m)) at')
        → Later
        → bytes input f vs
        ++ outs (writer input) (k (view input f vs)) (at' + took (unless l' (Fine (wide f) (length (bytes input f vs))))) (drop (took (unless l' (Fine (wide f) (length (bytes input f vs))))) vs)
        ≡ bytes pool f ws
        ++ outs (writer pool) (k (view pool f ws)) (at + took (unless l (Fine (wide f) (length (bytes pool f ws))))) (drop (took (unless l (Fine (wide f) (length (bytes pool f ws))))) ws)
    go (Err fault) l' r r' ih = absurd r
    go Right (Err fault) r r' ih = absurd r'
    go Right Right r r' ih =
        let t = wide f in
        let later = ih r (subst (λ v. Reaches (walk (writer input) (k v) (drop t vs) (at' + t) (made' + length (bytes input f vs)))) both.1 r') in
        ap (λ v. bytes input f vs ++ outs (writer input) (k v) (at' + t) (drop t vs)) both.1 ∙ (λ i. both.0 i ++ later i)
