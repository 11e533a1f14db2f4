-- The bytes of a row that is judged right, by the families of shapes that tables have: what a line's production is to say.
use Prim.Native.Nat.{ℕ, ◌+◌, ◌*◌}
use mathlib.Core.Path.{◌≡◌, refl, sym, ap, ◌∙◌}
use mathlib.Core.List.{List, [], ◌∷◌, ◌++◌, append-nil}
use lib.ListN.{drop}
use lib.Seq.{drop-drop}
use Rattle.numbers.specs.Leb.{unsigned}
use Rattle.fields.specs.declared.Field.{Field}
use Rattle.fields.specs.declared.Field.TheVariants as field
use Rattle.fields.specs.Leaf.{Fine}
use Rattle.fields.specs.Words.{word, wide}
use Rattle.fields.specs.Shape.{widths}
use Rattle.fields.specs.Table.{two_of, many_of, elements, vec}
use Rattle.writing.specs.Binary.{bytes}
use Rattle.writing.specs.Write.{judged, written}
use Rattle.fields.proofs.NearLaws.{first_word}
use Rattle.writing.proofs.RowLaws.{two_strings, many_made}
use Rattle.writing.proofs.TableLaws.{strings, written-right}

-- a lead, a byte and two fields
pub two_bytes : (pool row : List ℕ) (e m : ℕ) (l z a b : Field) → wide l ≡ 0 → wide z ≡ 0 → judged (two_of l z a b) pool row 1 ≡ Fine e m
    → written (two_of l z a b) pool row 1
    ≡ bytes pool l (drop 1 row) ++ (bytes pool z (drop 1 row) ++ (bytes pool a (drop 1 row) ++ bytes pool b (drop (1 + wide a) row)))
two_bytes pool row e m l z a b el ez r = written-right (two_of l z a b) pool row 1 e m r ∙ two_strings l z a b el ez row pool

-- a lead, a byte and a field, a count, as many groups of two fields, and a last field
pub many-bytes : (pool row : List ℕ) (e m : ℕ) (l z a c d t : Field) → wide l ≡ 0 → wide z ≡ 0 → {w : ℕ} → w ≡ widths (c ∷ d ∷ [])
    → {element : List ℕ → List ℕ} → ((ws : List ℕ) → element ws ≡ strings pool (c ∷ d ∷ []) ws) → judged (many_of l z a c d t) pool row 1 ≡ Fine e m
    → written (many_of l z a c d t) pool row 1
    ≡ bytes pool l (drop 1 row)
    ++ (bytes pool z (drop 1 row)
    ++ (bytes pool a (drop 1 row)
    ++ (unsigned (word row (1 + wide a))
    ++ (elements (word row (1 + wide a)) w element (drop (2 + wide a) row) ++ bytes pool t (drop (2 + wide a + word row (1 + wide a) * w) row)))))
many-bytes pool row e m l z a c d t el ez ew same r =
    written-right (many_of l z a c d t) pool row 1 e m r ∙ many_made l z a c d t el ez ew row pool same

-- a count and its elements are a vector
pub vec_at : (row : List ℕ) (at size : ℕ) (element : List ℕ → List ℕ)
    → unsigned (word row at) ++ elements (word row at) size element (drop (at + 1) row) ≡ vec size element (drop at row)
vec_at row at size element =
    λ i. unsigned (first_word row at i) ++ elements (first_word row at i) size element (sym (drop-drop 1 at row) i)

-- a lead and a vector of groups of two fields
pub vec-bytes : (lead : ℕ) (c d : Field) {w : ℕ} → w ≡ widths (c ∷ d ∷ []) → (element : List ℕ → List ℕ → List ℕ)
    → ((pool ws : List ℕ) → element pool ws ≡ strings pool (c ∷ d ∷ []) ws)
    → (pool row : List ℕ) (e m : ℕ) → judged (many_of (field.Fixed lead) field.Nothing field.Nothing c d field.Nothing) pool row 1 ≡ Fine e m
    → written (many_of (field.Fixed lead) field.Nothing field.Nothing c d field.Nothing) pool row 1 ≡ lead ∷ vec w (element pool) (drop 1 row)
unfolding wide bytes
vec-bytes lead c d {w} ew element same pool row e m r =
    many-bytes pool row e m (field.Fixed lead) field.Nothing field.Nothing c d field.Nothing refl refl ew (same pool) r
    ∙ ap (λ v. lead ∷ (unsigned (word row 1) ++ v)) (append-nil (elements (word row 1) w (element pool) (drop 2 row)))
    ∙ ap (λ v. lead ∷ v) (vec_at row 1 w (element pool))
