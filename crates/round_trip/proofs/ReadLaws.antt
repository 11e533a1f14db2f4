-- A row of a shape that was written is read back, or refused at its first byte above the grade; and an item that is read is written
-- again beside its own bytes, with each number in its shortest form, and has no byte above the grade.
use Prim.Native.Nat.{ℕ, ◌+◌, ◌-◌, ◌^◌, ◌≤◌, ◌<◌}
use native.Mathlib.Omega.{arith}
use mathlib.Core.Path.{◌≡◌, refl, sym, ap, ◌∙◌, subst}
use mathlib.Core.List.{List, [], ◌++◌, append-nil}
use lib.ListN.{length, take, drop}
use Rattle.numbers.specs.Bytes.{Bytes}
use Rattle.fields.specs.Leaf.{Fine}
use Rattle.fields.specs.declared.Shape.{Shape}
use Rattle.fields.specs.Words.{Words}
use Rattle.round_trip.specs.Padded.{Padded}
use Rattle.round_trip.proofs.PaddedLaws.{padded_by}
use Rattle.round_trip.specs.inside.Width.{plan_width}
use Rattle.round_trip.specs.Mark.{Clear, first_mark, SameFields}
use Rattle.reading.specs.Read.{reader, scanned, filled}
use Rattle.fields.specs.Shape.{plan}
use Rattle.fields.specs.Walk.{walk, outs}
use Rattle.writing.specs.Write.{writer, judged, written}
use Rattle.round_trip.proofs.Back.{Reaches, Got, got, Retells, read_back}
use Rattle.writing.proofs.ByteLaws.{drop-words}
use Rattle.round_trip.proofs.FieldBack.{field_back}
use Rattle.round_trip.proofs.FieldOnly.{field_only}
use Rattle.round_trip.proofs.GradeOnly.{word_and}
use Rattle.round_trip.proofs.Only.{read_only}

pub shape_back : (lead g : ℕ) → 1 ≤ g → (s : Shape) (pool row : List ℕ) (start : ℕ) → Words row → Reaches (judged s pool row start)
    → (rest input : List ℕ) → input ≡ written s pool row start ++ rest
    → Got (first_mark lead g pool (plan s) (drop start row) 0) (scanned lead g s input) (length (written s pool row start))
    (1 + plan_width pool (plan s) (drop start row))
    (Retells pool input (plan s) (drop start row) (outs (reader lead g input) (plan s) 0 input))
shape_back lead g any s pool row start fw r rest input q =
    let xs = written s pool row start ++ rest in
    let none : 0 + length (written s pool row start) ≡ length (written s pool row start) = omega arith in
    let back = read_back lead g pool input (field_back lead g any pool input) (plan s) (drop start row) start 0 (drop-words start row fw) r rest 0 1 q in
    got (first_mark lead g pool (plan s) (drop start row) 0) (walk (reader lead g input) (plan s) xs 0 1) (scanned lead g s input) _ _ _ _
    (Retells pool input (plan s) (drop start row) (outs (reader lead g input) (plan s) 0 xs)) _
    (ap (λ l. walk (reader lead g input) (plan s) l 0 1) q) none refl
    (λ k. subst (λ l. Retells pool input (plan s) (drop start row) (outs (reader lead g input) (plan s) 0 l)) (sym q) k) back

-- the words that are read of a shape, with their kind
pub record ShapeOnly (kind lead g : ℕ) (s : Shape) (input : List ℕ) (e q : ℕ) : Type 0 where
  pub long : length (filled kind lead g s input) ≡ q
  pub small : Words (filled kind lead g s input)
  pub clear : first_mark lead g (take e input) (plan s) (outs (reader lead g input) (plan s) 0 input) 0 ≡ Clear
  pub judges : judged s (take e input) (filled kind lead g s input) 1 ≡ Fine q (length (written s (take e input) (filled kind lead g s input) 1))
  pub again : Padded (take e input) (written s (take e input) (filled kind lead g s input) 1)
  pub tells : (pool row : List ℕ) → SameFields pool input (plan s) row (outs (reader lead g input) (plan s) 0 input)
      → SameFields pool (take e input) (plan s) row (outs (reader lead g input) (plan s) 0 input)

pub shape_only : (kind lead g : ℕ) (s : Shape) (input : List ℕ) (e q : ℕ) → Bytes input → 1 ≤ g → e < 2 ^ 32 → kind < 2 ^ 32
    → scanned lead g s input ≡ Fine e q → ShapeOnly kind lead g s input e q
shape_only kind lead g s input e q fi any few known r =
    let pool = take e input in
    let ws = outs (reader lead g input) (plan s) 0 input in
    let k = read_only lead g pool input e q (field_only lead g e input fi any few) (plan s) 0 1 r in
    let eq : 1 + length ws ≡ q = sym k.count in
    let all : ws ++ [] ≡ ws = append-nil ws in
    let size : 0 + length (outs (writer pool) (plan s) 1 (ws ++ [])) ≡ length (outs (writer pool) (plan s) 1 ws) =
    omega (arith, ap (λ l. length (outs (writer pool) (plan s) 1 l)) all) in
    let ez : e - 0 ≡ e = omega arith in
    record {
      long = omega arith;
      small = word_and kind ws known k.small;
      clear = ap (λ l. first_mark lead g pool (plan s) l 0) (sym all) ∙ k.clear [] 0;
      judges = ap (λ l. walk (writer pool) (plan s) l 1 0) (sym all) ∙ k.judges [] 1 0 ∙ (λ i. Fine (eq i) (size i));
      again = padded_by (ap (λ l. outs (writer pool) (plan s) 1 l) (sym all)) (k.again [] 1) (ap (λ k. take k input) ez);
      tells = λ pool' row same.
          subst (λ l. SameFields pool' pool (plan s) row l) all
          (k.tells [] pool' row (subst (λ l. SameFields pool' input (plan s) row l) (sym all) same));
    }
