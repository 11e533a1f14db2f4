-- Loops that count down: groups of fields that are seen, and their elements put one after the other; and what they put.
use Prim.Native.Nat.{ℕ, zero, suc, ◌+◌, ◌*◌, ◌≤◌, ◌<◌}
use native.Mathlib.Nat.{suc-mul}
use native.Mathlib.Omega.{arith}
use mathlib.Core.Path.{◌≡◌, refl, sym, ap, ◌∙◌, subst}
use mathlib.Core.List.{List, [], ◌∷◌, ◌++◌, append-nil}
use lib.ListN.{length, drop, set, length-append}
use lib.Seq.{sets, length-sets, drop-drop, get_or-drop}
use Rattle.numbers.specs.Bytes as stored
use Rattle.numbers.specs.Bytes.{store, part_of}
use Rattle.numbers.specs.Leb.{unsigned}
use Rattle.numbers.specs.Numbers.{value_of}
use Rattle.numbers.specs.Stored.{Stored}
use Rattle.numbers.proofs.BytesLaws.{sets_append, store-fits, part-inside}
use Rattle.fields.specs.declared.Field.{Field}
use Rattle.fields.specs.declared.Field.TheVariants as field
use Rattle.fields.specs.Words.{word, wide}
use Rattle.writing.specs.Binary.{name, valtype, optional, canonopt, bytes}
use Rattle.writing.specs.Judge.{flaw}
use Rattle.writing.specs.inside.Wrote.{Wrote}
use Rattle.fields.specs.Shape.{repeated, widths}
use Rattle.fields.specs.Table.{elements}
use Rattle.writing.proofs.FlawLaws.{name-inside}
use Rattle.fields.proofs.NearLaws.{first_word, second_word}
use Rattle.writing.proofs.TableLaws.{strings}
use Rattle.writing.proofs.WroteLaws.{then, then-byte, same_size, of-store}
use Rattle.writing.specs.inside.Rows.{Rights, Groups}
use Rattle.writing.proofs.RowLaws.{rights-first, rights-rest, rights_join}

-- ---- groups that are seen: `due` are still to be seen, each of `most` bytes at most

pub record Going (pool : List ℕ) (g : List Field) (element : List ℕ → List ℕ) (most : ℕ) (row : List ℕ) (from n base due at made : ℕ) : Type 0 where
  pub place : at + due * widths g ≡ from + n * widths g
  pub small : made + due * most ≤ base + n * most
  pub whole : (r : ℕ) → Groups pool g element due (drop at row) made r → Groups pool g element n (drop from row) base r

module _ {pool : List ℕ} {g : List Field} {element : List ℕ → List ℕ} {most : ℕ} {row : List ℕ} {from n base : ℕ} where
  -- m are left when the next one is seen
  pub going_next : {due m at made one at' : ℕ} → Going pool g element most row from n base due at made → due ≡ suc m → Rights pool g (drop at row)
      → one ≡ length (element (drop at row)) → one ≤ most → at' ≡ at + widths g → Going pool g element most row from n base m at' (made + one)
  unfolding repeated elements
  going_next {due} {m} {at} {made} {one} {at'} so e right size few ea =
      record {
        place = omega (arith, k.place, suc-mul m (widths g));
        small = omega (arith, k.small, suc-mul m most);
        whole = λ r c. k.whole r
            (record {
              right = rights_join pool g (repeated m g) (drop at row) right (subst (λ l. Rights pool (repeated m g) l) (sym here) c.right);
              size = c.size ∙ total;
            });
      }
    where
      k : Going pool g element most row from n base (suc m) at made
      k = subst (λ d. Going pool g element most row from n base d at made) e so

      here : drop (widths g) (drop at row) ≡ drop at' row
      here = drop-drop (widths g) at row ∙ ap (λ k. drop k row) (sym ea)

      total : made + one + length (elements m (widths g) element (drop at' row))
          ≡ made + length (element (drop at row) ++ elements m (widths g) element (drop (widths g) (drop at row)))
      total =
          omega (
            arith,
            size,
            ap (λ l. length (elements m (widths g) element l)) here,
            length-append (element (drop at row)) (elements m (widths g) element (drop (widths g) (drop at row))),
          )

  pub going_end : {at made : ℕ} (due : ℕ) → Going pool g element most row from n base due at made → due ≤ 0
      → Groups pool g element n (drop from row) base made
  unfolding repeated elements Rights
  going_end {at} {made} zero k h = k.whole made (record { right = tt; size = omega arith })
  going_end (suc m) k h = absurd (omega arith)

-- ---- elements that are put: `due` are still to be put

pub record Putting (pool : List ℕ) (g : List Field) (element : List ℕ → List ℕ) (row : List ℕ) (from n : ℕ) (old : List ℕ) (base due at to : ℕ)
    (new : List ℕ) : Type 0 where
  pub place : at + due * widths g ≡ from + n * widths g
  pub right : Rights pool (repeated due g) (drop at row)
  pub whole : sets new to (elements due (widths g) element (drop at row)) ≡ sets old base (elements n (widths g) element (drop from row))
  pub ends : to + length (elements due (widths g) element (drop at row)) ≡ base + length (elements n (widths g) element (drop from row))
  pub same : length new ≡ length old

module _ {pool : List ℕ} {g : List Field} {element : List ℕ → List ℕ} {row : List ℕ} {from n : ℕ} {old : List ℕ} {base : ℕ} where
  pub putting_start : {due : ℕ} → due ≡ n → Rights pool (repeated n g) (drop from row) → Putting pool g element row from n old base due from base old
  putting_start e h =
      subst (λ d. Putting pool g element row from n old base d from base old) (sym e)
      (record { place = refl; right = h; whole = refl; ends = refl; same = refl })

  -- the next group is right, and its element has room
  pub putting_round : {at to : ℕ} {new : List ℕ} (due : ℕ) → Putting pool g element row from n old base due at to new → 0 < due
      → base + length (elements n (widths g) element (drop from row)) ≤ length old
      → Rights pool g (drop at row) × (to + length (element (drop at row)) ≤ length new)
  unfolding repeated elements
  putting_round zero p h b = absurd (omega arith)
  putting_round {at} {to} {new} (suc m) p h b = (
    rights-first pool g (repeated m g) (drop at row) p.right,
    omega (
      arith,
      p.ends,
      p.same,
      length-append (element (drop at row)) (elements m (widths g) element (drop (widths g) (drop at row))),
    ),
  )

  -- m are left when it is put
  pub putting_next : {due m at to at' : ℕ} {new : List ℕ} → Putting pool g element row from n old base due at to new → due ≡ suc m
      → {next : ℕ} {more : List ℕ} → Wrote new to (element (drop at row)) next more → at' ≡ at + widths g
      → Putting pool g element row from n old base m at' next more
  unfolding repeated elements
  putting_next {due} {m} {at} {to} {at'} {new} so e {next} {more} w ea =
      record {
        place = omega (arith, p.place, suc-mul m (widths g));
        right = subst (λ l. Rights pool (repeated m g) l) here (rights-rest pool g (repeated m g) (drop at row) p.right);
        whole = ap (λ l. sets more next (elements m (widths g) element l)) (sym here) ∙ stores ∙ p.whole;
        ends = omega (arith, p.ends, w.place, ap (λ l. length (elements m (widths g) element l)) here, length-append (element (drop at row)) rest);
        same = same_size w ∙ p.same;
      }
    where
      p : Putting pool g element row from n old base (suc m) at to new
      p = subst (λ d. Putting pool g element row from n old base d at to new) e so

      rest : List ℕ
      rest = elements m (widths g) element (drop (widths g) (drop at row))

      here : drop (widths g) (drop at row) ≡ drop at' row
      here = drop-drop (widths g) at row ∙ ap (λ k. drop k row) (sym ea)

      stores : sets more next rest ≡ sets new to (element (drop at row) ++ rest)
      stores = rw (w.content, w.place) (sets_append (element (drop at row)) rest new to)

  pub putting_end : {at to : ℕ} {new : List ℕ} (due : ℕ) → Putting pool g element row from n old base due at to new → due ≤ 0
      → Wrote old base (elements n (widths g) element (drop from row)) to new
  unfolding elements
  putting_end zero p h = record { place = omega (arith, p.ends); content = p.whole }
  putting_end (suc m) p h = absurd (omega arith)

-- ---- words at a place

pub word_at : (row : List ℕ) (at k : ℕ) → word row (at + k) ≡ word (drop at row) k
word_at row at k = sym (get_or-drop at row k 0)

module _ (row : List ℕ) (at : ℕ) where
  pub name_words : (pool : List ℕ) → name pool (word row at) (word row (at + 1)) ≡ name pool (word (drop at row) 0) (word (drop at row) 1)
  name_words pool = λ i. name pool (first_word row at i) (second_word row at i)

  pub value_words : valtype (word row at) (word row (at + 1)) ≡ valtype (word (drop at row) 0) (word (drop at row) 1)
  value_words = λ i. valtype (first_word row at i) (second_word row at i)

  pub second_value_words : valtype (word row (at + 2)) (word row (at + 3)) ≡ valtype (word (drop at row) 2) (word (drop at row) 3)
  second_value_words = λ i. valtype (word_at row at 2 i) (word_at row at 3 i)

  pub second_optional_words : optional (word row (at + 2)) (word row (at + 3)) ≡ optional (word (drop at row) 2) (word (drop at row) 3)
  second_optional_words = λ i. optional (word_at row at 2 i) (word_at row at 3 i)

  -- a name that is right lies in the pool
  pub name_held : (pool : List ℕ) (fs : List Field) → Rights pool (field.Name ∷ fs) (drop at row) → word row at + word row (at + 1) ≤ length pool
  unfolding Rights flaw
  name_held pool fs r = omega (arith, first_word row at, second_word row at, name-inside pool (drop at row) 0 r.0)

pub part_name : (pool : List ℕ) (s n : ℕ) → s + n ≤ length pool → unsigned n ++ part_of pool s n ≡ name pool s n
unfolding name
part_name pool s n h = ap (λ l. unsigned n ++ l) (part-inside pool s n h)

-- ---- elements: the bytes of a group, over its words

module _ (pool ws : List ℕ) where
  pub name_element : name pool (word ws 0) (word ws 1) ≡ strings pool (field.Name ∷ field.Nothing ∷ []) ws
  unfolding strings bytes
  name_element = sym (append-nil (name pool (word ws 0) (word ws 1)))

  pub value_element : valtype (word ws 0) (word ws 1) ≡ strings pool (field.Value ∷ field.Nothing ∷ []) ws
  unfolding strings bytes
  value_element = sym (append-nil (valtype (word ws 0) (word ws 1)))

  pub choice_element : canonopt (word ws 0) (word ws 1) ≡ strings pool (field.Choice ∷ field.Nothing ∷ []) ws
  unfolding strings bytes
  choice_element = sym (append-nil (canonopt (word ws 0) (word ws 1)))

  pub labelled_element : name pool (word ws 0) (word ws 1) ++ valtype (word ws 2) (word ws 3) ≡ strings pool (field.Name ∷ field.Value ∷ []) ws
  unfolding strings bytes wide
  labelled_element =
      (λ i. name pool (word ws 0) (word ws 1) ++ valtype (word_at ws 2 0 i) (word_at ws 2 1 i))
      ∙ ap (λ l. name pool (word ws 0) (word ws 1) ++ l) (sym (append-nil (valtype (word (drop 2 ws) 0) (word (drop 2 ws) 1))))

  pub case_element : name pool (word ws 0) (word ws 1) ++ (optional (word ws 2) (word ws 3) ++ 0x00 ∷ [])
      ≡ strings pool (field.Name ∷ field.OptionalThenZero ∷ []) ws
  unfolding strings bytes wide
  case_element =
      (λ i. name pool (word ws 0) (word ws 1) ++ (optional (word_at ws 2 0 i) (word_at ws 2 1 i) ++ 0x00 ∷ []))
      ∙ ap (λ l. name pool (word ws 0) (word ws 1) ++ l) (sym (append-nil (optional (word (drop 2 ws) 0) (word (drop 2 ws) 1) ++ 0x00 ∷ [])))

-- ---- storing

pub byte-wrote : (l : List ℕ) (i x : ℕ) → Wrote l i (x ∷ []) (i + 1) (set l i x)
byte-wrote l i x = record { place = refl; content = refl }

pub bytes-wrote : (l : List ℕ) (i x y : ℕ) → Wrote l i (x ∷ y ∷ []) (i + 2) (set (set l i x) (i + 1) y)
bytes-wrote l i x y = record { place = refl; content = (then-byte (byte-wrote l i x) (byte-wrote _ (i + 1) y)).content }

pub number_wrote : {old new a : List ℕ} {i : ℕ} {q : Stored} → stored.left q new ≡ store a i old → i + length a ≤ length old
    → Wrote old i a (i + length a) new
number_wrote {old} {new} {a} {i} e h = record { place = refl; content = ap (λ (y : stored.Left). y.buffer) (e ∙ store-fits a i old h) }

module _ (old : List ℕ) (to a : ℕ) (l : List ℕ) {all : List ℕ} (e : all ≡ a ∷ l) (room : to + length all ≤ length old) where
  inside : to + 1 + length l ≤ length (set old to a)
  inside = omega (arith, ap length e, same_size (byte-wrote old to a))

  -- a byte and what was stored behind it
  pub byte_then : {q : Stored} {new : List ℕ} → stored.left q new ≡ store l (to + 1) (set old to a) → new ≡ sets old to all
  byte_then h = (then-byte (byte-wrote old to a) (number_wrote h inside)).content ∙ ap (λ v. sets old to v) (sym e)

  pub byte_stored : {q : Stored} {s : ℕ} {new : List ℕ} → stored.left q new ≡ store l (to + 1) (set old to a) → s ≡ value_of q
      → Wrote old to all (to + 1 + s) new
  byte_stored {q} {s} {new} h v =
      subst (λ b. Wrote old to b (to + 1 + s) new) (sym e) (then-byte (byte-wrote old to a) (of-store h v inside))

-- a byte and a name of the pool
pub byte-named : (old : List ℕ) (to a : ℕ) (pool : List ℕ) (start size : ℕ) → start + size ≤ length pool
    → to + 1 + length (name pool start size) ≤ length old → {q : Stored} {s : ℕ} {new : List ℕ}
    → stored.left q new ≡ store (unsigned size ++ part_of pool start size) (to + 1) (set old to a) → s ≡ value_of q
    → Wrote old to (a ∷ name pool start size) (to + 1 + s) new
byte-named old to a pool start size h room d v =
    byte_stored old to a (name pool start size) refl (omega arith)
    (d ∙ ap (λ l. store l (to + 1) (set old to a)) (part_name pool start size h)) v

module _ (old : List ℕ) (to a b : ℕ) (l : List ℕ) {all : List ℕ} (e : all ≡ a ∷ b ∷ l) (room : to + length all ≤ length old) where
  within : to + 2 + length l ≤ length (set (set old to a) (to + 1) b)
  within = omega (arith, ap length e, same_size (bytes-wrote old to a b))

  pub bytes_then : {q : Stored} {new : List ℕ} → stored.left q new ≡ store l (to + 2) (set (set old to a) (to + 1) b) → new ≡ sets old to all
  bytes_then h = (then (bytes-wrote old to a b) (number_wrote h within)).content ∙ ap (λ v. sets old to v) (sym e)

pub sets-size : (old : List ℕ) (to : ℕ) (all : List ℕ) {new : List ℕ} → new ≡ sets old to all → length new ≡ length old
sets-size old to all e = ap length e ∙ length-sets old to all
