-- Each line of the tables of instances agrees: what its shape writes is what its production says.
use Rattle.std.specs.Prelude.{◌≡◌, ℕ, List, [], ◌∷◌, ◌++◌, drop}
use mathlib.Core.Path.{refl, sym, ap, ◌∙◌}
use mathlib.Core.List.{append-nil}
use lib.Seq.{drop-drop}
use Rattle.numbers.specs.Leb.{unsigned}
use Rattle.fields.specs.declared.Field.{Field}
use Rattle.fields.specs.declared.Field.TheVariants as field
use Rattle.fields.specs.Leaf.{Fine}
use Rattle.fields.specs.Words.{word, wide}
use Rattle.fields.specs.Shape.{widths}
use Rattle.fields.specs.Table.{elements, vec}
use Rattle.writing.specs.Agree.{Agrees, All}
use Rattle.writing.specs.Binary.{bytes}
use Rattle.writing.specs.Write.{judged, written}
use Rattle.writing.proofs.ProductionLaws.{many-bytes, vec_at, vec-bytes}
use Rattle.writing.proofs.TableLaws.{strings}
use Rattle.instances.specs.Table.{coreinstantiatearg, coreinlineexport, instantiatearg, inlineexport, core_table, table}
use Rattle.instances.specs.inside.Head.{instantiate_shape}
use Rattle.instances.proofs.InstanceLaws.{core_argument_element, core_item_element, argument_element, item_element}

-- 00, an index and a vector of arguments
instantiate_agrees : (d : Field) {w : ℕ} → w ≡ widths (field.Name ∷ d ∷ []) → (element : List ℕ → List ℕ → List ℕ)
    → ((pool ws : List ℕ) → element pool ws ≡ strings pool (field.Name ∷ d ∷ []) ws)
    → (pool row : List ℕ) (e m : ℕ) → judged (instantiate_shape d) pool row 1 ≡ Fine e m
    → written (instantiate_shape d) pool row 1 ≡ 0x00 ∷ (unsigned (word (drop 1 row) 0) ++ vec w (element pool) (drop 1 (drop 1 row)))
unfolding wide bytes
instantiate_agrees d {w} ew element same pool row e m r =
    many-bytes pool row e m (field.Fixed 0x00) field.Nothing field.Index field.Name d field.Nothing refl refl ew (same pool) r
    ∙ ap (λ v. 0x00 ∷ (unsigned (word (drop 1 row) 0) ++ v))
    (ap (λ v. unsigned (word row 2) ++ v) (append-nil (elements (word row 2) w (element pool) (drop 3 row)))
    ∙ vec_at row 2 w (element pool)
    ∙ ap (λ v. vec w (element pool) v) (sym (drop-drop 1 1 row)))

pub core_instances-agree : All Agrees core_table
unfolding widths wide
core_instances-agree = (instantiate_agrees field.Argument {w = 3} refl coreinstantiatearg core_argument_element, (vec-bytes 0x01 field.Name field.CoreSortIndex {w = 4} refl coreinlineexport core_item_element, tt))

pub instances-agree : All Agrees table
unfolding widths wide
instances-agree = (instantiate_agrees field.SortIndex {w = 4} refl instantiatearg argument_element, (vec-bytes 0x01 field.ExternName field.SortIndex {w = 13} refl inlineexport item_element, tt))
