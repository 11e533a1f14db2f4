-- Each line of the table of canonicals agrees: what its shape writes is what its production says.
use Prim.Native.Nat.{ℕ}
use mathlib.Core.Path.{◌≡◌, refl, sym, ap, ◌∙◌}
use mathlib.Core.List.{List, ◌∷◌, ◌++◌, append-nil}
use lib.ListN.{drop}
use lib.Seq.{get_or-drop, drop-drop}
use Rattle.numbers.specs.Leb.{unsigned}
use Rattle.fields.specs.declared.Field.{Field}
use Rattle.fields.specs.declared.Field.TheVariants as field
use Rattle.fields.specs.Leaf.{Fine}
use Rattle.fields.specs.Words.{word, wide}
use Rattle.fields.specs.Shape.{widths}
use Rattle.writing.specs.Binary.{canonopt, bytes}
use Rattle.writing.specs.Write.{judged, written}
use Rattle.writing.specs.Agree.{Agrees, All}
use Rattle.writing.proofs.GroupLaws.{choice_element}
use Rattle.writing.proofs.ProductionLaws.{two_bytes, many-bytes, vec_at}
use Rattle.canonicals.specs.Table.{optioned, opts, table}

-- an index and options, behind a lead and perhaps a byte
options-agree : (lead : ℕ) (zero : Field) → wide zero ≡ 0 → (pool row : List ℕ) (e m : ℕ) → judged (optioned lead zero) pool row 1 ≡ Fine e m
    → written (optioned lead zero) pool row 1 ≡ lead ∷ (bytes pool zero (drop 1 row) ++ (unsigned (word (drop 1 row) 0) ++ opts (drop 1 (drop 1 row))))
unfolding widths wide bytes
options-agree lead zero z pool row e m r =
    many-bytes pool row e m (field.Fixed lead) zero field.Index field.Choice field.Nothing field.Nothing refl z {w = 2} refl (choice_element pool) r
    ∙ ap (λ v. lead ∷ (bytes pool zero (drop 1 row) ++ (unsigned (word (drop 1 row) 0) ++ v)))
    (ap (λ v. unsigned (word row 2) ++ v) (append-nil _) ∙ vec_at row 2 2 (λ vs. canonopt (word vs 0) (word vs 1)) ∙ ap opts (sym (drop-drop 1 1 row)))

pub canonicals-agree : All Agrees table
unfolding wide bytes
canonicals-agree = (options-agree 0x01 (field.Fixed 0x00) refl, ((λ pool row e m r. two_bytes pool row e m (field.Fixed 0x02) field.Nothing field.Index field.Nothing refl refl r ∙ simp append-nil), ((λ pool row e m r. two_bytes pool row e m (field.Fixed 0x03) field.Nothing field.Index field.Nothing refl refl r ∙ simp append-nil), ((λ pool row e m r. two_bytes pool row e m (field.Fixed 0x04) field.Nothing field.Index field.Nothing refl refl r ∙ simp append-nil), ((λ pool row e m r. two_bytes pool row e m (field.Fixed 0x05) field.Nothing field.Nothing field.Nothing refl refl r ∙ refl), ((λ pool row e m r. two_bytes pool row e m (field.Fixed 0x06) field.Nothing field.Flag field.Nothing refl refl r ∙ refl), ((λ pool row e m r. two_bytes pool row e m (field.Fixed 0x0a) field.Nothing field.Rep field.Index refl refl r ∙ simp get_or-drop), ((λ pool row e m r. two_bytes pool row e m (field.Fixed 0x0b) field.Nothing field.Rep field.Index refl refl r ∙ simp get_or-drop), ((λ pool row e m r. two_bytes pool row e m (field.Fixed 0x0c) (field.Fixed 0x00) field.Nothing field.Nothing refl refl r ∙ refl), ((λ pool row e m r. two_bytes pool row e m (field.Fixed 0x0d) field.Nothing field.Nothing field.Nothing refl refl r ∙ refl), ((λ pool row e m r. two_bytes pool row e m (field.Fixed 0x0e) field.Nothing field.Index field.Nothing refl refl r ∙ simp append-nil), (options-agree 0x0f field.Nothing refl, ((λ pool row e m r. two_bytes pool row e m (field.Fixed 0x11) field.Nothing field.Index field.Flag refl refl r ∙ simp get_or-drop), ((λ pool row e m r. two_bytes pool row e m (field.Fixed 0x12) field.Nothing field.Index field.Flag refl refl r ∙ simp get_or-drop), ((λ pool row e m r. two_bytes pool row e m (field.Fixed 0x13) field.Nothing field.Index field.Nothing refl refl r ∙ simp append-nil), ((λ pool row e m r. two_bytes pool row e m (field.Fixed 0x14) field.Nothing field.Index field.Nothing refl refl r ∙ simp append-nil), ((λ pool row e m r. two_bytes pool row e m (field.Fixed 0x15) field.Nothing field.Index field.Nothing refl refl r ∙ simp append-nil), (options-agree 0x16 field.Nothing refl, ((λ pool row e m r. two_bytes pool row e m (field.Fixed 0x18) field.Nothing field.Index field.Flag refl refl r ∙ simp get_or-drop), ((λ pool row e m r. two_bytes pool row e m (field.Fixed 0x19) field.Nothing field.Index field.Flag refl refl r ∙ simp get_or-drop), ((λ pool row e m r. two_bytes pool row e m (field.Fixed 0x1a) field.Nothing field.Index field.Nothing refl refl r ∙ simp append-nil), ((λ pool row e m r. two_bytes pool row e m (field.Fixed 0x1b) field.Nothing field.Index field.Nothing refl refl r ∙ simp append-nil), ((λ pool row e m r. two_bytes pool row e m (field.Fixed 0x1e) field.Nothing field.Nothing field.Nothing refl refl r ∙ refl), ((λ pool row e m r. two_bytes pool row e m (field.Fixed 0x1f) field.Nothing field.Nothing field.Nothing refl refl r ∙ refl), ((λ pool row e m r. two_bytes pool row e m (field.Fixed 0x20) (field.Fixed 0x00) field.Index field.Nothing refl refl r ∙ simp append-nil), ((λ pool row e m r. two_bytes pool row e m (field.Fixed 0x21) (field.Fixed 0x00) field.Index field.Nothing refl refl r ∙ simp append-nil), ((λ pool row e m r. two_bytes pool row e m (field.Fixed 0x22) field.Nothing field.Nothing field.Nothing refl refl r ∙ refl), ((λ pool row e m r. two_bytes pool row e m (field.Fixed 0x23) field.Nothing field.Nothing field.Nothing refl refl r ∙ refl), ((λ pool row e m r. two_bytes pool row e m (field.Fixed 0x24) field.Nothing field.Nothing field.Nothing refl refl r ∙ refl), ((λ pool row e m r. two_bytes pool row e m (field.Fixed 0x25) field.Nothing field.Nothing field.Nothing refl refl r ∙ refl), ((λ pool row e m r. two_bytes pool row e m (field.Fixed 0x26) field.Nothing field.Nothing field.Nothing refl refl r ∙ refl), ((λ pool row e m r. two_bytes pool row e m (field.Fixed 0x27) field.Nothing field.Index field.Index refl refl r ∙ simp get_or-drop), ((λ pool row e m r. two_bytes pool row e m (field.Fixed 0x29) (field.Fixed 0x00) field.Nothing field.Nothing refl refl r ∙ refl), ((λ pool row e m r. two_bytes pool row e m (field.Fixed 0x2a) (field.Fixed 0x00) field.Nothing field.Nothing refl refl r ∙ refl), ((λ pool row e m r. two_bytes pool row e m (field.Fixed 0x2b) (field.Fixed 0x00) field.Nothing field.Nothing refl refl r ∙ refl), ((λ pool row e m r. two_bytes pool row e m (field.Fixed 0x2c) (field.Fixed 0x00) field.Nothing field.Nothing refl refl r ∙ refl), ((λ pool row e m r. two_bytes pool row e m (field.Fixed 0x2d) (field.Fixed 0x00) field.Nothing field.Nothing refl refl r ∙ refl), ((λ pool row e m r. two_bytes pool row e m (field.Fixed 0x2e) field.Nothing field.Index field.Nothing refl refl r ∙ simp append-nil), ((λ pool row e m r. two_bytes pool row e m (field.Fixed 0x2f) field.Nothing field.Index field.Nothing refl refl r ∙ simp append-nil), ((λ pool row e m r. two_bytes pool row e m (field.Fixed 0x40) field.Nothing field.Index field.Nothing refl refl r ∙ simp append-nil), ((λ pool row e m r. two_bytes pool row e m (field.Fixed 0x41) field.Nothing field.Index field.Index refl refl r ∙ simp get_or-drop), tt)))))))))))))))))))))))))))))))))))))))))
