-- How many words fields have, one after the other and repeated.
use Prim.Native.Nat.{ℕ, zero, suc, ◌+◌, ◌*◌, ◌≤◌}
use native.Mathlib.Nat.{suc-mul}
use native.Mathlib.Omega.{arith}
use mathlib.Core.Path.{◌≡◌}
use mathlib.Core.List.{List, [], ◌∷◌, ◌++◌}
use lib.ListN.{length, length-append}
use Rattle.fields.specs.declared.Field.{Field}
use Rattle.fields.specs.declared.Field.TheVariants as field
use Rattle.fields.specs.Words.{wide}
use Rattle.fields.specs.Shape.{repeated, widths}

pub wide-small : (f : Field) → wide f ≤ 11
unfolding wide
wide-small field.Nothing = omega arith
wide-small (field.Fixed b) = omega arith
wide-small field.Primitive = omega arith
wide-small field.Value = omega arith
wide-small field.Optional = omega arith
wide-small field.OptionalThenZero = omega arith
wide-small field.Result = omega arith
wide-small field.Name = omega arith
wide-small field.Index = omega arith
wide-small field.Async = omega arith
wide-small field.Flag = omega arith
wide-small field.Rep = omega arith
wide-small field.OptionalIndex = omega arith
wide-small field.Choice = omega arith
wide-small field.ExternName = omega arith
wide-small field.Reference = omega arith
wide-small field.Argument = omega arith
wide-small field.CoreSortIndex = omega arith
wide-small field.SortIndex = omega arith

pub wide_at_most : (f : Field) (n : ℕ) → n ≡ wide f → n ≤ 11
wide_at_most f n e = rw e (wide-small f)

pub widths-small : (fs : List Field) → widths fs ≤ 11 * length fs
unfolding widths
widths-small [] = omega arith
widths-small (f ∷ fs) = omega (arith, wide-small f, widths-small fs)

pub widths-append : (fs gs : List Field) → widths (fs ++ gs) ≡ widths fs + widths gs
unfolding widths
widths-append [] gs = omega arith
widths-append (f ∷ fs) gs = omega (arith, widths-append fs gs)

module _ (g : List Field) where
  pub repeated_widths : (n : ℕ) → widths (repeated n g) ≡ n * widths g
  unfolding widths repeated
  repeated_widths zero = omega arith
  repeated_widths (suc n) = omega (arith, widths-append g (repeated n g), repeated_widths n, suc-mul n (widths g))

  pub repeated_length : (n : ℕ) → length (repeated n g) ≡ n * length g
  unfolding repeated
  repeated_length zero = omega arith
  repeated_length (suc n) = omega (arith, length-append g (repeated n g), repeated_length n, suc-mul n (length g))
