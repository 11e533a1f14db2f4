-- A kind that is no map, list of fixed length, future or stream begins with a byte of grade 1.
use Rattle.std.specs.Prelude.{Some}
use Prim.Native.Nat.{ℕ}
use mathlib.Core.Path.{◌≡◌, refl}
use mathlib.Core.Bool.{Bool, true, false, cond}
use mathlib.Core.List.{List, [], ◌∷◌}
use borrow.Author.Tests.{eqb-true}
use lib.Dec.{eqb}
use Rattle.fields.specs.declared.Site.TheVariants.{TypeLead}
use Rattle.fields.specs.Grades as grades
use Rattle.fields.specs.Table.{Line, shape_in}
use Rattle.types.specs.Table.{table}
use Rattle.items.specs.ReadType.{lead_grade}

-- the lines of these four kinds, or of a lead of grade 1
abbrev Low : Line → Type 0
Low l = (k : ℕ) → (k ≡ 4 → ⊥) → (k ≡ 5 → ⊥) → (k ≡ 13 → ⊥) → (k ≡ 14 → ⊥) → k ≡ l.kind → grades.lead_grade TypeLead (Some l.shape) ≡ 1

abbrev AllLow : List Line → Type 0
AllLow [] = Unit {0}
AllLow (l ∷ ls) = Low l × AllLow ls

low_in : (ls : List Line) → AllLow ls → (k : ℕ) → (k ≡ 4 → ⊥) → (k ≡ 5 → ⊥) → (k ≡ 13 → ⊥) → (k ≡ 14 → ⊥)
    → grades.lead_grade TypeLead (shape_in ls k) ≡ 1
unfolding shape_in
low_in [] a k n4 n5 n13 n14 = refl
low_in (l ∷ ls) a k n4 n5 n13 n14 = go (eqb k l.kind) refl (low_in ls a.1 k n4 n5 n13 n14)
  where
    go : (b : Bool) → eqb k l.kind ≡ b → grades.lead_grade TypeLead (shape_in ls k) ≡ 1
        → grades.lead_grade TypeLead (cond b (Some l.shape) (shape_in ls k)) ≡ 1
    go true e ih = a.0 k n4 n5 n13 n14 (eqb-true k l.kind e)
    go false e ih = ih

pub grade_else : (k : ℕ) → (k ≡ 4 → ⊥) → (k ≡ 5 → ⊥) → (k ≡ 13 → ⊥) → (k ≡ 14 → ⊥) → lead_grade k ≡ 1
unfolding lead_grade
grade_else = low_in table (
  (λ k n4 n5 n13 n14 e. refl),
  (
    (λ k n4 n5 n13 n14 e. refl),
    (
      (λ k n4 n5 n13 n14 e. refl),
      (
        (λ k n4 n5 n13 n14 e. refl),
        (
          (λ k n4 n5 n13 n14 e. absurd (n4 e)),
          (
            (λ k n4 n5 n13 n14 e. absurd (n5 e)),
            (
              (λ k n4 n5 n13 n14 e. refl),
              (
                (λ k n4 n5 n13 n14 e. refl),
                (
                  (λ k n4 n5 n13 n14 e. refl),
                  (
                    (λ k n4 n5 n13 n14 e. refl),
                    (
                      (λ k n4 n5 n13 n14 e. refl),
                      (
                        (λ k n4 n5 n13 n14 e. refl),
                        (
                          (λ k n4 n5 n13 n14 e. refl),
                          (
                            (λ k n4 n5 n13 n14 e. absurd (n13 e)),
                            ((λ k n4 n5 n13 n14 e. absurd (n14 e)), ((λ k n4 n5 n13 n14 e. refl), ((λ k n4 n5 n13 n14 e. refl), tt))),
                          ),
                        ),
                      ),
                    ),
                  ),
                ),
              ),
            ),
          ),
        ),
      ),
    ),
  ),
)
