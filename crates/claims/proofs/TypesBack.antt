-- Types: what was written is read back, or refused at its first byte above the grade; and what is accepted is written again beside its own
-- bytes.
use Rattle.std.specs.Prelude.{Some, Ok}
use Prim.Native.Nat.{ℕ, ◌-◌, ◌^◌, ◌≤◌, ◌<◌}
use native.Mathlib.Omega.{arith}
use mathlib.Core.Path.{◌≡◌, refl, sym, ap, ◌∙◌, subst}
use mathlib.Core.Bool.{Bool, true, false, cond}
use mathlib.Core.List.{List, [], ◌∷◌, ◌++◌}
use borrow.Author.Tests.{lt-ltb, le-ltb, ltb-true, eqb-true, eqb-false}
use lib.Dec.{eqb, ltb}
use lib.ListN.{length, take, drop, length-append}
use Rattle.numbers.specs.Bytes.{Bytes}
use Rattle.fields.specs.declared.Field.TheVariants as field
use Rattle.fields.specs.Flaw.{Right, Wrong}
use Rattle.fields.specs.Leaf.{Leaf, Fine}
use Rattle.fields.specs.Read.{Item}
use Rattle.fields.specs.declared.Refusal.TheVariants as refusal
use Rattle.fields.specs.declared.Shape.{Shape}
use Rattle.fields.specs.Words.{word, Words, wide}
use Rattle.writing.specs.Binary.{primvaltype, functype, bytes}
use Rattle.writing.specs.Judge.{flaw, unless, judge}
use Rattle.fields.specs.Answers.{left_row}
use Rattle.writing.specs.Row.{row_bytes}
use Rattle.reading.specs.Scan.{byte}
use Rattle.fields.specs.Shape.{seq}
use Rattle.fields.specs.Table.{Line, two_of, shape_in, production_in}
use Rattle.fields.specs.Walk.{next, walk}
use Rattle.writing.specs.Write.{judged}
use Rattle.round_trip.specs.Returned.{ReadsBack}
use Rattle.round_trip.proofs.ItemLaws.{found_back, WrittenAgain, written_again}
use Rattle.writing.specs.Agree.{All}
use Rattle.writing.proofs.WholeLaws.{accepted}
use Rattle.items.specs.ReadType.{First, firsts, kind_in, kind_of, lead_grade, read_type}
use Rattle.types.specs.Table.{table}
use Rattle.types.specs.Write.{shape_of, measured_type}
use Rattle.types.proofs.Rows.{type_row}
use Rattle.claims.specs.Demand3.{type_mark}
use Rattle.numbers.proofs.Impossible.{impossible}

-- the bytes of a type row
abbrev pub type_bytes : List ℕ → List ℕ → List ℕ
type_bytes pool row = row_bytes (shape_of (word row 0)) pool row

-- ---- the first byte of a row that is taken tells its kind

-- a primitive's byte, and a function's
primitive-first : (p : ℕ) → p < 14 → kind_of (primvaltype p) ≡ 0
unfolding primvaltype kind_of kind_in
primitive-first p h = go (eqb p 13) refl
  where
    go : (b : Bool) → eqb p 13 ≡ b
        → cond (ltb (cond b 0x64 (0x7f - p)) 0x73) (kind_in firsts (cond b 0x64 (0x7f - p))) (cond (ltb (cond b 0x64 (0x7f - p)) 0x80) 0 17) ≡ 0
    go true t = refl
    go false t =
        let n = eqb-false p 13 t in
        let low : 0x73 ≤ 0x7f - p = omega arith in
        let high : 0x7f - p < 0x80 = omega arith in
        simp (le-ltb _ _ low, lt-ltb _ _ high)

function-first : (a : ℕ) → kind_of (functype a) ≡ 15
unfolding functype kind_of kind_in
function-first a = go (eqb a 0)
  where
    go : (b : Bool)
        → cond (ltb (cond b 0x40 0x43) 0x73) (kind_in firsts (cond b 0x40 0x43)) (cond (ltb (cond b 0x40 0x43) 0x80) 0 17) ≡ 15
    go true = refl
    go false = refl

-- a primitive that is judged right
primitive-right : (pool row : List ℕ) (e m : ℕ)
    → judged (two_of field.Nothing field.Nothing field.Primitive field.Nothing) pool row 1 ≡ Fine e m → word (drop 1 row) 0 < 14
unfolding walk seq judge flaw wide bytes
primitive-right pool row e m r = go (ltb (word (drop 1 row) 0) 14) _ refl r
  where
    go : (b : Bool) (k : ℕ → ℕ → Leaf) → ltb (word (drop 1 row) 0) 14 ≡ b
        → next (unless (cond b Right (Wrong refusal.Tag 0)) (Fine 1 1)) k 1 ≡ Fine e m
        → word (drop 1 row) 0 < 14
    go true k t r = ltb-true _ _ t
    go false k t r = impossible cc

-- a line's production begins with a byte of its kind
abbrev Begins : Line → Type 0
Begins l =
    (pool row rest : List ℕ) (e m : ℕ) → judged l.shape pool row 1 ≡ Fine e m
    → (kind_of (byte (l.production pool (drop 1 row) ++ rest) 0) ≡ l.kind) × (1 ≤ length (l.production pool (drop 1 row)))

begins_in : (ls : List Line) → All Begins ls → (k : ℕ) (s : Shape) → shape_in ls k ≡ Some s
    → (pool row rest : List ℕ) (e m : ℕ) → judged s pool row 1 ≡ Fine e m
    → (kind_of (byte (production_in ls k pool (drop 1 row) ++ rest) 0) ≡ k) × (1 ≤ length (production_in ls k pool (drop 1 row)))
unfolding shape_in production_in
begins_in [] a k s f pool row rest e m r = impossible cc
begins_in (l ∷ ls) a k s f pool row rest e m r = go (eqb k l.kind) refl f (λ g. begins_in ls a.1 k s g pool row rest e m r)
  where
    bytes : Bool → List ℕ
    bytes b = cond b (l.production pool (drop 1 row)) (production_in ls k pool (drop 1 row))

    go : (b : Bool) → eqb k l.kind ≡ b → cond b (Some l.shape) (shape_in ls k) ≡ Some s
        → (shape_in ls k ≡ Some s
        → (kind_of (byte (production_in ls k pool (drop 1 row) ++ rest) 0) ≡ k) × (1 ≤ length (production_in ls k pool (drop 1 row))))
        → (kind_of (byte (bytes b ++ rest) 0) ≡ k) × (1 ≤ length (bytes b))
    go true t f ih =
        let h : l.shape ≡ s = cc in
        let p = a.0 pool row rest e m (subst (λ x. judged x pool row 1 ≡ Fine e m) (sym h) r) in
        (p.0 ∙ sym (eqb-true k l.kind t), p.1)
    go false t f ih = ih f

types-begin : All Begins table
unfolding kind_of kind_in
types-begin = (
  (λ pool row rest e m r. (primitive-first (word (drop 1 row) 0) (primitive-right pool row e m r), omega arith)),
  (
    (λ pool row rest e m r. (refl, omega arith)),
    (
      (λ pool row rest e m r. (refl, omega arith)),
      (
        (λ pool row rest e m r. (refl, omega arith)),
        (
          (λ pool row rest e m r. (refl, omega arith)),
          (
            (λ pool row rest e m r. (refl, omega arith)),
            (
              (λ pool row rest e m r. (refl, omega arith)),
              (
                (λ pool row rest e m r. (refl, omega arith)),
                (
                  (λ pool row rest e m r. (refl, omega arith)),
                  (
                    (λ pool row rest e m r. (refl, omega arith)),
                    (
                      (λ pool row rest e m r. (refl, omega arith)),
                      (
                        (λ pool row rest e m r. (refl, omega arith)),
                        (
                          (λ pool row rest e m r. (refl, omega arith)),
                          (
                            (λ pool row rest e m r. (refl, omega arith)),
                            (
                              (λ pool row rest e m r. (refl, omega arith)),
                              (
                                (λ pool row rest e m r. (function-first (word (drop 1 row) 0), omega arith)),
                                ((λ pool row rest e m r. (refl, omega arith)), tt),
                              ),
                            ),
                          ),
                        ),
                      ),
                    ),
                  ),
                ),
              ),
            ),
          ),
        ),
      ),
    ),
  ),
)

pub type-first : (row pool rest : List ℕ) (m : ℕ) → measured_type row pool ≡ Ok m
    → (kind_of (byte (type_bytes pool row ++ rest) 0) ≡ word row 0) × (1 ≤ length (type_bytes pool row))
unfolding measured_type
type-first row pool rest m e =
    let a = accepted (shape_of (word row 0)) row pool m e in
    let same = (type_row row pool m e).as_production in
    rw same (begins_in table types-begin (word row 0) a.shape a.is pool row rest a.sized.end m a.sized.judges)

-- ---- reading

pub type-back : (g : ℕ) (row pool : List ℕ) (m : ℕ) → Words row → measured_type row pool ≡ Ok m
    → (rest input room : List ℕ) → input ≡ type_bytes pool row ++ rest → 1 ≤ g → g ≤ 3 → length input ≤ 2 ^ 30
    → ReadsBack (shape_of (word row 0)) (type_mark g pool row) pool row input room m (read_type g input room)
unfolding measured_type read_type type_mark
type-back g row pool m fw e rest input room q any top short =
    let first = type-first row pool rest m e in
    let kind : kind_of (byte input 0) ≡ word row 0 = ap (λ l. kind_of (byte l 0)) q ∙ first.0 in
    let some : 1 ≤ length input = rw q (omega (arith, length-append (type_bytes pool row) rest, first.1)) in
    rw kind (found_back (shape_of (word row 0)) (lead_grade (word row 0)) g row pool m fw e rest input room q any top short some)

-- a kind that a byte tells is a word
abbrev low_kinds : List First → Bool
low_kinds [] = true
low_kinds (f ∷ fs) = cond (ltb f.kind 18) (low_kinds fs) false

kind_in-small : (fs : List First) → low_kinds fs ≡ true → (b : ℕ) → kind_in fs b < 18
unfolding kind_in
kind_in-small [] t b = omega arith
kind_in-small (f ∷ fs) t b = go (ltb f.kind 18) (eqb b f.begins) refl t (λ u. kind_in-small fs u b)
  where
    go : (s e : Bool) → ltb f.kind 18 ≡ s → cond s (low_kinds fs) false ≡ true → (low_kinds fs ≡ true → kind_in fs b < 18)
        → cond e f.kind (kind_in fs b) < 18
    go true true q t later = ltb-true _ _ q
    go true false q t later = later t
    go false e q t later = impossible cc

kind_small : (b : ℕ) → kind_of b < 2 ^ 32
unfolding kind_of
kind_small b = go (ltb b 0x73) (ltb b 0x80) (kind_in-small firsts refl b)
  where
    go : (p q : Bool) → kind_in firsts b < 18 → cond p (kind_in firsts b) (cond q 0 17) < 2 ^ 32
    go true q h = omega arith
    go false true h = omega arith
    go false false h = omega arith

pub type-only : (g : ℕ) (input room after : List ℕ) (q e : ℕ) → Bytes input → 1 ≤ g → read_type g input room ≡ left_row (Item q e) after
    → e ≤ 65536 → WrittenAgain (shape_of (word (take q after) 0)) (lead_grade (word (take q after) 0)) g input (take e input) (take q after)
unfolding read_type
type-only g input room after q e fi any r few =
    written_again shape_of lead_grade (kind_of (byte input 0)) g input room after q e fi any (kind_small (byte input 0)) r few
