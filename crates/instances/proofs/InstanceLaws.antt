-- The kinds of instances: the shape of each, and its elements, as fields, seen and put.
use Rattle.std.specs.Prelude.{None, Some}
use Rattle.std.specs.Prelude.{◌≡◌, ℕ, ◌+◌, ◌-◌, ◌<◌, ◌≤◌, List, [], ◌∷◌, ◌++◌, length, take, drop}
use native.Mathlib.Omega.{arith}
use mathlib.Core.Path.{refl, sym, ap, ◌∙◌, subst}
use borrow.Author.Tests.{lt-ltb, eq-eqb, ne_eqb}
use Rattle.numbers.proofs.LebLaws.{size_bounds}
use Rattle.numbers.specs.Bytes.{left, store}
use Rattle.numbers.specs.Leb.{unsigned}
use Rattle.numbers.specs.Numbers.{value_of}
use Rattle.numbers.specs.Stored.{Stored}
use Rattle.fields.specs.declared.Field.{Field}
use Rattle.fields.specs.declared.Field.TheVariants as field
use Rattle.fields.specs.Words.{word, wide}
use Rattle.fields.specs.Shape.{widths}
use Rattle.fields.specs.Table.{elements, shape_in}
use Rattle.fields.proofs.NearLaws.{first_word, second_word}
use Rattle.writing.specs.Binary.{name, externname, extern_part, argument, coresortidx, sortidx, bytes}
use Rattle.writing.specs.Judge.{flaw}
use Rattle.writing.specs.Sizes.{right_size}
use Rattle.writing.specs.inside.Rows.{Known, Rights}
use Rattle.writing.specs.inside.Wrote.{Wrote}
use Rattle.writing.proofs.FlawLaws.{below_is}
use Rattle.writing.proofs.TableLaws.{strings}
use Rattle.writing.proofs.GroupLaws.{Going, Putting, word_at}
use Rattle.instances.specs.Table.{coreinstantiatearg, coreinlineexport, instantiatearg, inlineexport}
use Rattle.instances.specs.Write.{core_shape_of, shape_of}
use Rattle.instances.specs.inside.Head.{instantiate_shape, export_items_shape}
use Rattle.writing.proofs.ElementLaws.{pair-element, known_next, name_at-small, name_at-known, both_right, second_room, second_put}
use Rattle.writing.proofs.ExternLaws.{extern_bound, extern_known, extern_wrote}

-- ---- a line of the table for each kind, and none for any other

pub kind_18 : core_shape_of 18 ≡ Some (instantiate_shape field.Argument)
unfolding shape_in
kind_18 = refl

pub kind_20 : core_shape_of 20 ≡ Some (export_items_shape field.Name field.CoreSortIndex)
unfolding shape_in
kind_20 = refl

pub core_other : {B : Type 0} {k : ℕ} → (B × (k ≡ 18 → ⊥)) × (k ≡ 20 → ⊥) → core_shape_of k ≡ None
unfolding shape_in
core_other ((b, n), m) = simp (ne_eqb _ _ n, ne_eqb _ _ m)

pub kind_19 : shape_of 19 ≡ Some (instantiate_shape field.SortIndex)
unfolding shape_in
kind_19 = refl

pub kind_21 : shape_of 21 ≡ Some (export_items_shape field.ExternName field.SortIndex)
unfolding shape_in
kind_21 = refl

pub kind_other : {B : Type 0} {k : ℕ} → (B × (k ≡ 19 → ⊥)) × (k ≡ 21 → ⊥) → shape_of k ≡ None
unfolding shape_in
kind_other ((b, n), m) = simp (ne_eqb _ _ n, ne_eqb _ _ m)

-- ---- elements as fields

module _ (pool ws : List ℕ) where
  pub core_argument_element : coreinstantiatearg pool ws ≡ strings pool (field.Name ∷ field.Argument ∷ []) ws
  unfolding bytes wide
  core_argument_element =
      ap (λ x. name pool (word ws 0) (word ws 1) ++ argument x) (word_at ws 2 0) ∙ pair-element field.Name field.Argument pool ws

  pub core_item_element : coreinlineexport pool ws ≡ strings pool (field.Name ∷ field.CoreSortIndex ∷ []) ws
  unfolding bytes wide
  core_item_element =
      (λ i. name pool (word ws 0) (word ws 1) ++ coresortidx (word_at ws 2 0 i) (word_at ws 2 1 i))
      ∙ pair-element field.Name field.CoreSortIndex pool ws

  pub argument_element : instantiatearg pool ws ≡ strings pool (field.Name ∷ field.SortIndex ∷ []) ws
  unfolding bytes wide
  argument_element =
      (λ i. name pool (word ws 0) (word ws 1) ++ sortidx (word_at ws 2 0 i) (word_at ws 2 1 i))
      ∙ pair-element field.Name field.SortIndex pool ws

  pub item_element : inlineexport pool ws ≡ strings pool (field.ExternName ∷ field.SortIndex ∷ []) ws
  unfolding bytes wide
  item_element =
      (λ i. externname pool ws ++ sortidx (word_at ws 11 0 i) (word_at ws 11 1 i)) ∙ pair-element field.ExternName field.SortIndex pool ws

-- how many words an element has
pub core_argument-wide : 3 ≡ widths (field.Name ∷ field.Argument ∷ [])
unfolding widths wide
core_argument-wide = refl

pub core_item-wide : 4 ≡ widths (field.Name ∷ field.CoreSortIndex ∷ [])
unfolding widths wide
core_item-wide = refl

pub argument-wide : 4 ≡ widths (field.Name ∷ field.SortIndex ∷ [])
unfolding widths wide
argument-wide = refl

pub item-wide : 13 ≡ widths (field.ExternName ∷ field.SortIndex ∷ [])
unfolding widths wide
item-wide = refl

-- ---- what an item is, and its index

module _ (sort x : ℕ) {n : ℕ} (e : n ≡ length (unsigned x)) (pool : List ℕ) where
  pub core_sort_known : sort < 5 → Known pool field.CoreSortIndex (sort ∷ x ∷ []) (1 + n)
  unfolding flaw bytes coresortidx
  core_sort_known h = record { right = simp (lt-ltb _ _ h); size = omega arith }

  pub module_known : sort ≡ 0 → Known pool field.SortIndex (sort ∷ x ∷ []) (2 + n)
  unfolding flaw bytes sortidx
  module_known z =
      let h : sort < 6 = omega arith in
      record { right = simp (lt-ltb _ _ h); size = simp (eq-eqb _ _ z) (omega arith) }

  pub sort_known : (sort ≡ 0 → ⊥) → sort < 6 → Known pool field.SortIndex (sort ∷ x ∷ []) (1 + n)
  unfolding flaw bytes sortidx
  sort_known z h = record { right = simp (lt-ltb _ _ h); size = simp (ne_eqb _ _ z) (omega arith) }

pub module_bytes : (sort x : ℕ) → sort ≡ 0 → 0x00 ∷ 0x11 ∷ unsigned x ≡ sortidx sort x
unfolding sortidx
module_bytes sort x z = simp (eq-eqb _ _ z)

pub sort_bytes : (sort x : ℕ) → (sort ≡ 0 → ⊥) → sort ∷ unsigned x ≡ sortidx sort x
unfolding sortidx
sort_bytes sort x z = simp (ne_eqb _ _ z)

-- ---- fields at their places, of which code has the words

module _ (pool row : List ℕ) (at : ℕ) where
  pub argument_at : {n : ℕ} → n ≡ length (unsigned (word row at)) → Known pool field.Argument (drop at row) (1 + n)
  unfolding flaw bytes argument
  argument_at e = record { right = refl; size = omega (arith, e, ap (λ x. length (unsigned x)) (first_word row at)) }

  module _ {r : ℕ} where
    moved : (f : Field) → Known pool f (word row at ∷ word row (at + 1) ∷ []) r → Known pool f (word (drop at row) 0 ∷ word (drop at row) 1 ∷ []) r
    moved f s = subst (λ l. Known pool f l r) (λ i. first_word row at i ∷ second_word row at i ∷ []) s

    pub core_sort_at : Known pool field.CoreSortIndex (word row at ∷ word row (at + 1) ∷ []) r → Known pool field.CoreSortIndex (drop at row) r
    unfolding flaw bytes
    core_sort_at s = let t = moved field.CoreSortIndex s in record { right = t.right; size = t.size }

    pub sort_at : Known pool field.SortIndex (word row at ∷ word row (at + 1) ∷ []) r → Known pool field.SortIndex (drop at row) r
    unfolding flaw bytes
    sort_at s = let t = moved field.SortIndex s in record { right = t.right; size = t.size }

-- ---- elements that are seen

-- an extern name of a small pool has few bytes
pub extern_few : (pool row : List ℕ) (at : ℕ) {one : ℕ} → length pool ≤ 65536
    → Some one ≡ right_size pool field.ExternName (take (length row - at) (drop at row)) → one ≤ 360471
extern_few pool row at small e = rw (sym e) at (extern_bound pool (take (length row - at) (drop at row)) small)

module _ {pool row : List ℕ} {from n base at made : ℕ} (i : ℕ) where
  pub core_argument_next : Going pool (field.Name ∷ field.Argument ∷ []) (coreinstantiatearg pool) 65547 row from n base (n - i) at made → i < n
      → length pool ≤ 65536 → {one two : ℕ} → Some one ≡ right_size pool field.Name (word row at ∷ word row (at + 1) ∷ [])
      → two ≡ length (unsigned (word row (at + 2)))
      → Going pool (field.Name ∷ field.Argument ∷ []) (coreinstantiatearg pool) 65547 row from n base (n - (i + 1)) (at + 3) (made + (one + (1 + two)))
  unfolding wide widths
  core_argument_next k h small e d =
      known_next field.Name field.Argument pool (core_argument_element pool) k (omega arith) (name_at-known pool row at e) (argument_at pool row (at + 2) d) refl
      (omega (arith, name_at-small pool row at small e, d, (size_bounds 128 (word row (at + 2))).1)) refl

  pub core_item_next : Going pool (field.Name ∷ field.CoreSortIndex ∷ []) (coreinlineexport pool) 65547 row from n base (n - i) at made → i < n
      → length pool ≤ 65536 → {one two : ℕ} → Some one ≡ right_size pool field.Name (word row at ∷ word row (at + 1) ∷ [])
      → Known pool field.CoreSortIndex (word row (at + 2) ∷ word row (at + 3) ∷ []) two → two ≤ 6
      → Going pool (field.Name ∷ field.CoreSortIndex ∷ []) (coreinlineexport pool) 65547 row from n base (n - (i + 1)) (at + 4) (made + (one + two))
  unfolding wide widths
  core_item_next k h small {one} {two} e s few =
      let next : at + 3 ≡ at + 2 + 1 = omega arith in
      known_next field.Name field.CoreSortIndex pool (core_item_element pool) k (omega arith) (name_at-known pool row at e)
      (core_sort_at pool row (at + 2) (subst (λ j. Known pool field.CoreSortIndex (word row (at + 2) ∷ word row j ∷ []) two) next s)) refl
      (omega (arith, name_at-small pool row at small e)) refl

  pub argument_next : Going pool (field.Name ∷ field.SortIndex ∷ []) (instantiatearg pool) 65548 row from n base (n - i) at made → i < n
      → length pool ≤ 65536 → {one two : ℕ} → Some one ≡ right_size pool field.Name (word row at ∷ word row (at + 1) ∷ [])
      → Known pool field.SortIndex (word row (at + 2) ∷ word row (at + 3) ∷ []) two → two ≤ 7
      → Going pool (field.Name ∷ field.SortIndex ∷ []) (instantiatearg pool) 65548 row from n base (n - (i + 1)) (at + 4) (made + (one + two))
  unfolding wide widths
  argument_next k h small {one} {two} e s few =
      let next : at + 3 ≡ at + 2 + 1 = omega arith in
      known_next field.Name field.SortIndex pool (argument_element pool) k (omega arith) (name_at-known pool row at e)
      (sort_at pool row (at + 2) (subst (λ j. Known pool field.SortIndex (word row (at + 2) ∷ word row j ∷ []) two) next s)) refl
      (omega (arith, name_at-small pool row at small e)) refl

  pub item_next : Going pool (field.ExternName ∷ field.SortIndex ∷ []) (inlineexport pool) 360478 row from n base (n - i) at made → i < n
      → length pool ≤ 65536 → {one two : ℕ} → Some one ≡ right_size pool field.ExternName (take (length row - at) (drop at row))
      → Known pool field.SortIndex (word row (at + 11) ∷ word row (at + 12) ∷ []) two → two ≤ 7
      → Going pool (field.ExternName ∷ field.SortIndex ∷ []) (inlineexport pool) 360478 row from n base (n - (i + 1)) (at + 13) (made + (one + two))
  unfolding wide widths
  item_next k h small {one} {two} e s short =
      let next : at + 12 ≡ at + 11 + 1 = omega arith in
      let few = extern_few pool row at small e in
      known_next field.ExternName field.SortIndex pool (item_element pool) k (omega arith) (extern_known pool row at e)
      (sort_at pool row (at + 11) (subst (λ j. Known pool field.SortIndex (word row (at + 11) ∷ word row j ∷ []) two) next s)) refl (omega arith) refl

-- ---- elements that are put: what code puts behind the name is what the element has there

module _ (row : List ℕ) (at : ℕ) where
  pub core_argument_words : 0x12 ∷ unsigned (word row (at + 2)) ≡ argument (word (drop at row) 2)
  unfolding argument
  core_argument_words = ap (λ x. 0x12 ∷ unsigned x) (word_at row at 2)

  pub core_item_words : word row (at + 2) ∷ unsigned (word row (at + 3)) ≡ coresortidx (word (drop at row) 2) (word (drop at row) 3)
  unfolding coresortidx
  core_item_words = λ i. word_at row at 2 i ∷ unsigned (word_at row at 3 i)

  pub argument_words : sortidx (word row (at + 2)) (word row (at + 3)) ≡ sortidx (word (drop at row) 2) (word (drop at row) 3)
  argument_words = λ i. sortidx (word_at row at 2 i) (word_at row at 3 i)

  item_words_lem : sortidx (word row (at + 11)) (word row (at + 12)) ≡ sortidx (word (drop at row) 11) (word (drop at row) 12)
  item_words_lem = λ i. sortidx (word_at row at 11 i) (word_at row at 12 i)

  module _ (pool : List ℕ) where
    pub core_item_low : Rights pool (field.Name ∷ field.CoreSortIndex ∷ []) (drop at row) → word row (at + 2) < 5
    unfolding Rights flaw wide
    core_item_low r = omega (arith, below_is 5 (drop 2 (drop at row)) 0 r.1.0, word_at (drop at row) 2 0, word_at row at 2)

    pub argument_low : Rights pool (field.Name ∷ field.SortIndex ∷ []) (drop at row) → word row (at + 2) < 6
    unfolding Rights flaw wide
    argument_low r = omega (arith, below_is 6 (drop 2 (drop at row)) 0 r.1.0, word_at (drop at row) 2 0, word_at row at 2)

    sort_low : Rights pool (field.ExternName ∷ field.SortIndex ∷ []) (drop at row) → word row (at + 11) < 6
    unfolding Rights flaw wide
    sort_low r = omega (arith, below_is 6 (drop 11 (drop at row)) 0 r.1.0, word_at (drop at row) 11 0, word_at row at 11)

-- an extern name is put, and then what it is
module _ {pool row : List ℕ} {from n : ℕ} {old : List ℕ} {base due at to : ℕ} {now mid : List ℕ} {s : ℕ} {r : Stored}
    (k : Putting pool (field.ExternName ∷ field.SortIndex ∷ []) (inlineexport pool) row from n old base due at to now) (h : 0 < due)
    (room : base + length (elements n 13 (inlineexport pool) (drop from row)) ≤ length old)
    (e : left r mid ≡ store (extern_part pool (take (length row - at) (drop at row))) to now) (v : s ≡ value_of r) where
  abbrev second : List ℕ → List ℕ
  second ws = sortidx (word ws 11) (word ws 12)

  put_first : Rights pool (field.ExternName ∷ field.SortIndex ∷ []) (drop at row) → to + length (externname pool (drop at row)) ≤ length now
      → Wrote now to (externname pool (drop at row)) (to + s) mid
  unfolding Rights
  put_first right fits = extern_wrote pool row at right.0 e v fits

  pub item_low : word row (at + 11) < 6
  unfolding widths wide
  item_low = sort_low row at pool (both_right (externname pool) second k h room put_first)

  pub item_room : to + s + length (sortidx (word row (at + 11)) (word row (at + 12))) ≤ length mid
  unfolding widths wide
  item_room = second_room (externname pool) second k h room put_first (item_words_lem row at)

  pub item_put : {new : List ℕ} {next : ℕ} → Wrote mid (to + s) (sortidx (word row (at + 11)) (word row (at + 12))) next new
      → Wrote now to (inlineexport pool (drop at row)) next new
  unfolding widths wide
  item_put w = second_put (externname pool) second k h room put_first (item_words_lem row at) w
