-- Items that are read once: what straight code says of two fields at a place, whatever they are, and behind a byte.
use Rattle.std.specs.Prelude.{Err, Ok, Option, Some, None}
use Prim.Native.Nat.{ℕ, ◌+◌, ◌-◌, ◌≤◌, ◌<◌}
use native.Mathlib.Omega.{arith}
use mathlib.Core.Path.{◌≡◌, refl, sym, ap, ◌∙◌, subst}
use mathlib.Core.List.{List, [], ◌∷◌, ◌++◌, append-nil}
use lib.ListN.{length, take, drop, length-drop}
use lib.Seq.{drop-drop}
use Rattle.numbers.specs.declared.leb.Number.{Number}
use Rattle.numbers.specs.Leb.{take_unsigned}
use Rattle.numbers.specs.Seen.{seen}
use Rattle.numbers.proofs.BytesLaws.{to_end}
use Rattle.fields.specs.declared.Field.{Field}
use Rattle.fields.specs.declared.Field.TheVariants as field
use Rattle.fields.specs.Leaf.{Leaf, Fine}
use Rattle.reading.specs.Fill.{fill}
use Rattle.fields.specs.Words.{wide}
use Rattle.fields.specs.inside.Run.{along, makes}
use Rattle.reading.specs.Scan.{scan}
use Rattle.fields.specs.Walk.{next, took}
use Rattle.reading.specs.declared.Pair.{Pair}
use Rattle.reading.specs.Seen.{one, pair}
use Rattle.reading.specs.inside.Steps.{scans, fills}
use Rattle.reading.proofs.StepLaws.{Wrong, Taking, Still, scan-takes, pair-some, pair_none, one-some, one_none, index-one, fill_at}
use Rattle.items.specs.declared.item.Item.{Item}
use Rattle.items.specs.inside.Item.{item_words, Told}

-- ---- an item by where its fields end

-- where they are not right, there is none
pub told-wrong : (l : Leaf) (ws : List ℕ) {r : Option Item} → Wrong l → r ≡ None → Told l ws r
told-wrong (Ok span) ws h z = absurd h
told-wrong (Err fault) ws h z = z

-- where they are, it takes their bytes and has their words
pub told-fine : {l : Leaf} {t m : ℕ} {ws vs : List ℕ} → l ≡ Fine t m → ws ≡ vs → (r : Item) → 0 < r.took → r.took ≡ t → r.words ≡ m
    → item_words r ≡ vs → Told l ws (Some r)
told-fine {l} {t} {m} {ws} {vs} e v r some bytes words content =
    subst (λ x. Told x ws (Some r)) (sym e) (some, bytes, words, content ∙ sym v)

-- ---- two fields at a place

module _ (g : ℕ) (input : List ℕ) (at made : ℕ) (f h : Field) where
  -- the first is not right
  pub two_first : Wrong (scan 1 g f (drop at input)) → Wrong (scans g input (f ∷ h ∷ []) at made)
  unfolding along
  two_first w = go (scan 1 g f (drop at input)) w
    where
      go : (l : Leaf) → Wrong l → Wrong (next l (λ t m. along (scan 1 g) (h ∷ []) (drop t (drop at input)) (at + t) (made + m)) at)
      go (Ok span) w = absurd w
      go (Err fault) w = tt

  module _ (t m : ℕ) (e : scan 1 g f (drop at input) ≡ Fine t m) where
    -- the first is, and the second stands behind it
    two_next : scans g input (f ∷ h ∷ []) at made
        ≡ next (scan 1 g h (drop (at + t) input)) (λ u k. Fine (at + t + u) (made + m + k)) (at + t)
    unfolding along
    two_next =
        ap (λ l. next l (λ t m. along (scan 1 g) (h ∷ []) (drop t (drop at input)) (at + t) (made + m)) at) e
        ∙ ap (λ xs. next (scan 1 g h xs) (λ u k. Fine (at + t + u) (made + m + k)) (at + t)) (drop-drop t at input)

    -- the second is not right
    pub two_second : Wrong (scan 1 g h (drop (at + t) input)) → Wrong (scans g input (f ∷ h ∷ []) at made)
    two_second w = subst Wrong (sym two_next) (go (scan 1 g h (drop (at + t) input)) w)
      where
        go : (l : Leaf) → Wrong l → Wrong (next l (λ u k. Fine (at + t + u) (made + m + k)) (at + t))
        go (Ok span) w = absurd w
        go (Err fault) w = tt

    -- both are
    pub two_both : (u k : ℕ) → scan 1 g h (drop (at + t) input) ≡ Fine u k
        → scans g input (f ∷ h ∷ []) at made ≡ Fine (at + t + u) (made + m + k)
    two_both u k d = two_next ∙ ap (λ l. next l (λ u k. Fine (at + t + u) (made + m + k)) (at + t)) d

    -- their words
    pub two_words : fills g input (f ∷ h ∷ []) at ≡ fill g f at (drop at input) ++ fill g h (at + t) (drop (at + t) input)
    unfolding makes
    two_words =
        ap (λ l. fill g f at (drop at input) ++ (fill g h (at + took l) (drop (took l) (drop at input)) ++ [])) e
        ∙ ap (λ xs. fill g f at (drop at input) ++ (fill g h (at + t) xs ++ [])) (drop-drop t at input)
        ∙ ap (λ ws. fill g f at (drop at input) ++ ws) (append-nil (fill g h (at + t) (drop (at + t) input)))

-- one field at a place
module _ (g : ℕ) (input : List ℕ) (at made : ℕ) (f : Field) (t m : ℕ) (e : scan 1 g f (drop at input) ≡ Fine t m) where
  pub lone_fine : scans g input (f ∷ field.Nothing ∷ []) at made ≡ Fine (at + t) (made + m)
  unfolding scan
  lone_fine =
      two_both g input at made f field.Nothing t m e 0 0 refl
      ∙ (let p : at + t + 0 ≡ at + t = omega arith in
      let q : made + m + 0 ≡ made + m = omega arith in
      λ i. Fine (p i) (q i))

  pub lone_words : fills g input (f ∷ field.Nothing ∷ []) at ≡ fill g f at (drop at input)
  unfolding fill
  lone_words = two_words g input at made f field.Nothing t m e ∙ append-nil (fill g f at (drop at input))

-- ---- a field by what a step on the rest of the input says of it

-- it takes t bytes, which are there, and makes m words, which are these
pub record Here (g : ℕ) (input : List ℕ) (at : ℕ) (f : Field) (t m : ℕ) (ws : List ℕ) : Type 0 where
  pub right : scan 1 g f (drop at input) ≡ Fine t m
  pub words : fill g f at (drop at input) ≡ ws
  pub some : 0 < t
  pub inside : at + t ≤ length input

-- the fields of two words that these items have
pub data Double : Field → Type 0 where
  value : Double field.Value
  optional : Double field.Optional
  destructor : Double field.OptionalIndex

double : {f : Field} → Double f → (wide f ≡ 2) × Taking f × Still f
unfolding wide
double value = (refl, tt, tt)
double optional = (refl, tt, tt)
double destructor = (refl, tt, tt)

module _ (g : ℕ) (input : List ℕ) {f : Field} (k : Double f) (at : ℕ) where
  -- one that is seen
  pub pair_at : {v : Pair} → Some v ≡ pair g f (drop at input) → Here g input at f v.took 2 (v.a ∷ v.b ∷ [])
  pair_at {v} is =
      let q = pair-some g f (drop at input) (double k).0 v (sym is) in
      let n = scan-takes g f (drop at input) v.took 2 (double k).1 q.0 in
      record {
        right = q.0;
        words = fill_at g f at (drop at input) (double k).2 ∙ q.1;
        some = n.0;
        inside = omega (arith, n.0, q.2, length-drop at input);
      }

  pub pair_here : {v : Pair} → Some v ≡ pair g f (take (length input - at) (drop at input)) → Here g input at f v.took 2 (v.a ∷ v.b ∷ [])
  pair_here is = pair_at (is ∙ ap (λ (s : List ℕ). pair g f s) (to_end input at))

  -- none
  pub pair_wrong : None ≡ pair g f (take (length input - at) (drop at input)) → Wrong (scan 1 g f (drop at input))
  pair_wrong is = pair_none g f (drop at input) (sym (is ∙ ap (λ (s : List ℕ). pair g f s) (to_end input at)))

-- the same of an index
module _ (g : ℕ) (input : List ℕ) (at : ℕ) where
  pub index_here : {n : Number} → Some n ≡ seen (take_unsigned (take (length input - at) (drop at input)))
      → Here g input at field.Index n.took 1 (n.value ∷ [])
  unfolding wide
  index_here {n} is =
      let e = is ∙ ap (λ (s : List ℕ). seen (take_unsigned s)) (to_end input at) ∙ index-one g (drop at input) in
      let q = one-some g field.Index (drop at input) refl n (sym e) in
      let k = scan-takes g field.Index (drop at input) n.took 1 tt q.0 in
      record {
        right = q.0;
        words = fill_at g field.Index at (drop at input) tt ∙ q.1;
        some = k.0;
        inside = omega (arith, k.0, q.2, length-drop at input);
      }

  pub index_wrong : None ≡ seen (take_unsigned (take (length input - at) (drop at input))) → Wrong (scan 1 g field.Index (drop at input))
  index_wrong is =
      one_none g field.Index (drop at input)
      (sym (is ∙ ap (λ (s : List ℕ). seen (take_unsigned s)) (to_end input at) ∙ index-one g (drop at input)))

-- ---- an item of two fields behind a byte, from what the steps say of them

module _ (g : ℕ) (input : List ℕ) where
  -- one field
  pub alone : {f : Field} {t m : ℕ} {ws : List ℕ} → Here g input 1 f t m ws → (r : Item) → r.took ≡ 1 + t → r.words ≡ 1 + m
      → item_words r ≡ ws → Told (scans g input (f ∷ field.Nothing ∷ []) 1 1) (fills g input (f ∷ field.Nothing ∷ []) 1) (Some r)
  alone {f} {t} {m} p r bytes words content =
      told-fine (lone_fine g input 1 1 f t m p.right) (lone_words g input 1 1 f t m p.right ∙ p.words) r (omega arith) bytes words content

  pub both : {f h : Field} {t m u k : ℕ} {ws vs : List ℕ} → Here g input 1 f t m ws → Here g input (1 + t) h u k vs → (r : Item)
      → r.took ≡ 1 + t + u → r.words ≡ 1 + m + k → item_words r ≡ ws ++ vs
      → Told (scans g input (f ∷ h ∷ []) 1 1) (fills g input (f ∷ h ∷ []) 1) (Some r)
  both {f} {h} {t} {m} {u} {k} p q r bytes words content =
      told-fine (two_both g input 1 1 f h t m p.right u k q.right)
      (two_words g input 1 1 f h t m p.right ∙ (λ i. p.words i ++ q.words i)) r (omega arith) bytes words content

  -- none, where the first or the second field is not right
  pub no_first : (f h : Field) → Wrong (scan 1 g f (drop 1 input)) → {r : Option Item} → r ≡ None
      → Told (scans g input (f ∷ h ∷ []) 1 1) (fills g input (f ∷ h ∷ []) 1) r
  no_first f h w z = told-wrong (scans g input (f ∷ h ∷ []) 1 1) (fills g input (f ∷ h ∷ []) 1) (two_first g input 1 1 f h w) z

  pub no_second : {f : Field} (h : Field) {t m : ℕ} {ws : List ℕ} → Here g input 1 f t m ws → Wrong (scan 1 g h (drop (1 + t) input))
      → {r : Option Item} → r ≡ None → Told (scans g input (f ∷ h ∷ []) 1 1) (fills g input (f ∷ h ∷ []) 1) r
  no_second {f} h {t} {m} p w z =
      told-wrong (scans g input (f ∷ h ∷ []) 1 1) (fills g input (f ∷ h ∷ []) 1) (two_second g input 1 1 f h t m p.right w) z

-- each by the widths of its fields: two words; two and two; two and one; one
pub pair-item : (g : ℕ) (input : List ℕ) {f : Field} {v : Pair} → Here g input 1 f v.took 2 (v.a ∷ v.b ∷ [])
    → Told (scans g input (f ∷ field.Nothing ∷ []) 1 1) (fills g input (f ∷ field.Nothing ∷ []) 1)
    (Some (record { took = 1 + v.took; words = 3; a = v.a; b = v.b; c = 0; d = 0 }))
unfolding item_words
pair-item g input {f} {v} p = alone g input p (record { took = 1 + v.took; words = 3; a = v.a; b = v.b; c = 0; d = 0 }) refl refl refl

pub pairs_item : (g : ℕ) (input : List ℕ) {f h : Field} {v w : Pair} → Here g input 1 f v.took 2 (v.a ∷ v.b ∷ [])
    → Here g input (1 + v.took) h w.took 2 (w.a ∷ w.b ∷ [])
    → Told (scans g input (f ∷ h ∷ []) 1 1) (fills g input (f ∷ h ∷ []) 1)
    (Some (record { took = 1 + v.took + w.took; words = 5; a = v.a; b = v.b; c = w.a; d = w.b }))
unfolding item_words
pairs_item g input {f} {h} {v} {w} p q =
    both g input p q (record { took = 1 + v.took + w.took; words = 5; a = v.a; b = v.b; c = w.a; d = w.b }) refl refl refl

pub pair-index-item : (g : ℕ) (input : List ℕ) {f h : Field} {v : Pair} {n : Number} → Here g input 1 f v.took 2 (v.a ∷ v.b ∷ [])
    → Here g input (1 + v.took) h n.took 1 (n.value ∷ [])
    → Told (scans g input (f ∷ h ∷ []) 1 1) (fills g input (f ∷ h ∷ []) 1)
    (Some (record { took = 1 + v.took + n.took; words = 4; a = v.a; b = v.b; c = n.value; d = 0 }))
unfolding item_words
pair-index-item g input {f} {h} {v} {n} p q =
    both g input p q (record { took = 1 + v.took + n.took; words = 4; a = v.a; b = v.b; c = n.value; d = 0 }) refl refl refl

pub number-item : (g : ℕ) (input : List ℕ) {f : Field} {n : Number} → Here g input 1 f n.took 1 (n.value ∷ [])
    → Told (scans g input (f ∷ field.Nothing ∷ []) 1 1) (fills g input (f ∷ field.Nothing ∷ []) 1)
    (Some (record { took = 1 + n.took; words = 2; a = n.value; b = 0; c = 0; d = 0 }))
unfolding item_words
number-item g input {f} {n} p = alone g input p (record { took = 1 + n.took; words = 2; a = n.value; b = 0; c = 0; d = 0 }) refl refl refl

-- a primitive at the front, and none
pub primitive-item : (g : ℕ) (input : List ℕ) {n : Number} → Some n ≡ one g field.Primitive input
    → Told (scans g input (field.Primitive ∷ field.Nothing ∷ []) 0 1) (fills g input (field.Primitive ∷ field.Nothing ∷ []) 0)
    (Some (record { took = n.took; words = 2; a = n.value; b = 0; c = 0; d = 0 }))
unfolding wide item_words
primitive-item g input {n} is =
    let q = one-some g field.Primitive input refl n (sym is) in
    let k = scan-takes g field.Primitive input n.took 1 tt q.0 in
    told-fine (lone_fine g input 0 1 field.Primitive n.took 1 q.0) (lone_words g input 0 1 field.Primitive n.took 1 q.0 ∙ q.1)
    (record { took = n.took; words = 2; a = n.value; b = 0; c = 0; d = 0 }) k.0 (omega arith) refl refl

pub primitive_none : (g : ℕ) (input : List ℕ) → None ≡ one g field.Primitive input → {r : Option Item} → r ≡ None
    → Told (scans g input (field.Primitive ∷ field.Nothing ∷ []) 0 1) (fills g input (field.Primitive ∷ field.Nothing ∷ []) 0) r
primitive_none g input is z =
    told-wrong (scans g input (field.Primitive ∷ field.Nothing ∷ []) 0 1) (fills g input (field.Primitive ∷ field.Nothing ∷ []) 0)
    (two_first g input 0 1 field.Primitive field.Nothing (one_none g field.Primitive input (sym is))) z
