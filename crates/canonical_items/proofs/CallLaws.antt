-- From what the straight code of a class leaves to what the call answers, within the limits and outside.
use Rattle.std.specs.Prelude.{None, Option, Some, Err, Ok}
use Prim.Native.Nat.{ℕ, ◌+◌, ◌-◌, ◌%◌, ◌≤◌, ◌<◌, ◌^◌}
use native.Mathlib.Omega.{arith}
use mathlib.Core.Path.{◌≡◌, refl, sym, ap, ◌∙◌, subst}
use mathlib.Core.Bool.{Bool, true, false, cond}
use mathlib.Core.List.{List, [], ◌∷◌}
use borrow.Author.Tests.{le-ltb, ltb-false, eqb-false, eq-eqb, ne_eqb}
use lib.Dec.{eqb, ltb}
use lib.ListN.{length, take}
use Rattle.fields.specs.declared.Field.{Field}
use Rattle.fields.specs.declared.Field.TheVariants as field
use Rattle.fields.specs.Leaf.{Leaf, Fine, Bad}
use Rattle.fields.specs.Read as read
use Rattle.fields.specs.declared.Refusal.TheVariants as refusal
use Rattle.fields.specs.declared.Shape.{Shape}
use Rattle.fields.specs.declared.Site.TheVariants.{CanonLead}
use Rattle.fields.specs.Answers.{left_row}
use Rattle.fields.specs.Grades as grades
use Rattle.fields.specs.Shape.{widths}
use Rattle.fields.specs.Table.{two_of, shape_in}
use Rattle.fields.specs.Words.{wide}
use Rattle.fields.proofs.OutcomeLaws.{fine-same}
use Rattle.reading.specs.Read.{scanned, filled, roomed, read_item, scanned_found, scanned_item, refusal_of}
use Rattle.reading.specs.Scan.{byte}
use Rattle.reading.specs.Seen.{within, roomy}
use Rattle.reading.specs.declared.Pair.{Pair}
use Rattle.reading.specs.inside.Try.{Tried}
use Rattle.reading.specs.inside.Try as answer
use Rattle.reading.specs.inside.Steps.{scans, fills, end_of}
use Rattle.reading.specs.inside.Tried.{LeftTried, left_tried, tried, tried_found}
use Rattle.reading.proofs.StepLaws.{Open, end_made, end_fine}
use Rattle.reading.proofs.TriedLaws.{read_done, read_not, within-limits, call_done, call_not, call_outside, lead_newer}
use Rattle.canonicals.specs.declared.Class.{Class}
use Rattle.canonicals.specs.declared.Class.TheVariants as class
use Rattle.canonicals.specs.Table.{plain, zeroed, optioned, table, lift_bytes}
use Rattle.canonicals.specs.Write.{shape_of}
use Rattle.canonicals.specs.inside.Class.{shape_for}
use Rattle.canonical_items.specs.declared.short.Short.{Short}
use Rattle.canonical_items.specs.declared.short.Short.TheVariants as short
use Rattle.canonical_items.specs.ReadCanonical.{lead_grade, type_third, read_lift, read_canonical}
use Rattle.canonical_items.specs.inside.Begun.{Begun}
use Rattle.canonical_items.specs.inside.Short.{field_of, short_words, Told, stored}
use Rattle.canonical_items.proofs.BeginLaws.{two_scanned, two_filled}
use Rattle.numbers.proofs.Impossible.{impossible}

-- ---- a class with at most two words

pub record Line (c : Class) (f h : Short) (z : Field) (words : ℕ) : Type 0 where
  pub shape : (b : ℕ) → shape_for c b ≡ Some (two_of (field.Fixed b) z (field_of f) (field_of h))
  pub count : words ≡ 1 + widths (field_of f ∷ field_of h ∷ [])
  pub few : words ≤ 3
  pub same : (r : Pair) → take (words - 1) (r.a ∷ r.b ∷ []) ≡ short_words f h r
  pub all_open_lem : Open (field_of f ∷ field_of h ∷ [])

pub nothing_line : Line class.Nothing short.Nothing short.Nothing field.Nothing 1
unfolding shape_for widths wide
nothing_line = record { shape = λ b. refl; count = refl; few = omega arith; same = λ r. refl; all_open_lem = (tt, (tt, tt)) }

pub zero-line : Line class.Zero short.Nothing short.Nothing (field.Fixed 0) 1
unfolding shape_for widths wide
zero-line = record { shape = λ b. refl; count = refl; few = omega arith; same = λ r. refl; all_open_lem = (tt, (tt, tt)) }

pub index-line : Line class.Index short.Index short.Nothing field.Nothing 2
unfolding shape_for widths wide
index-line = record { shape = λ b. refl; count = refl; few = omega arith; same = λ r. refl; all_open_lem = (tt, (tt, tt)) }

pub zero-index-line : Line class.ZeroIndex short.Index short.Nothing (field.Fixed 0) 2
unfolding shape_for widths wide
zero-index-line = record { shape = λ b. refl; count = refl; few = omega arith; same = λ r. refl; all_open_lem = (tt, (tt, tt)) }

pub indices_line : Line class.Indices short.Index short.Index field.Nothing 3
unfolding shape_for widths wide
indices_line = record { shape = λ b. refl; count = refl; few = omega arith; same = λ r. refl; all_open_lem = (tt, (tt, tt)) }

pub flag-line : Line class.Flag short.Flag short.Nothing field.Nothing 2
unfolding shape_for widths wide
flag-line = record { shape = λ b. refl; count = refl; few = omega arith; same = λ r. refl; all_open_lem = (tt, (tt, tt)) }

pub index-flag-line : Line class.IndexFlag short.Index short.Flag field.Nothing 3
unfolding shape_for widths wide
index-flag-line = record { shape = λ b. refl; count = refl; few = omega arith; same = λ r. refl; all_open_lem = (tt, (tt, tt)) }

pub rep_index-line : Line class.RepIndex short.Rep short.Index field.Nothing 3
unfolding shape_for widths wide
rep_index-line = record { shape = λ b. refl; count = refl; few = omega arith; same = λ r. refl; all_open_lem = (tt, (tt, tt)) }

told_count : (g : ℕ) (input : List ℕ) (fs : List Field) (at t m : ℕ) → scans g input fs at 1 ≡ Fine t m → m ≡ 1 + widths fs
unfolding end_of
told_count g input fs at t m e = (fine-same (sym e ∙ end_fine g input fs at 1 t (end_made g input fs at 0 1 ∙ ap end_of e))).1

-- what is found of a class
pub class_tried : {c d : Class} (b kind lead g : ℕ) (input row : List ℕ) {s : Shape} {x : LeftTried} → c ≡ d → shape_for d b ≡ Some s
    → x ≡ tried (scanned lead g s input) (filled kind lead g s input) row → x ≡ tried_found (shape_for c b) kind lead g input row
class_tried b kind lead g input row e is t =
    t ∙ ap (λ f. tried_found f kind lead g input row) (sym (ap (λ k. shape_for k b) e ∙ is))

module _ {d : Class} {f h : Short} {z : Field} {words : ℕ} (line : Line d f h z words) (g : ℕ) (input : List ℕ) (from : ℕ) (r : Option Pair)
    (told : Told f h (scans g input (field_of f ∷ field_of h ∷ []) from 1) (fills g input (field_of f ∷ field_of h ∷ []) from) r) where
  stored_tried : (kind : ℕ) (row : List ℕ)
      → stored kind words r row ≡ tried (scans g input (field_of f ∷ field_of h ∷ []) from 1) (kind ∷ fills g input (field_of f ∷ field_of h ∷ []) from) row
  unfolding stored tried roomy
  stored_tried kind row = go (scans g input (field_of f ∷ field_of h ∷ []) from 1) refl r told
    where
      ws : List ℕ
      ws = fills g input (field_of f ∷ field_of h ∷ []) from

      go : (l : Leaf) → scans g input (field_of f ∷ field_of h ∷ []) from 1 ≡ l → (o : Option Pair) → Told f h l ws o
          → stored kind words o row ≡ tried l (kind ∷ ws) row
      go (Ok span) e (Some x) k =
          let n = told_count g input (field_of f ∷ field_of h ∷ []) from span.took span.made e in
          let same : words ≡ span.made = line.count ∙ sym n in
          let content : take (words - 1) (x.a ∷ x.b ∷ []) ≡ ws = line.same x ∙ k.1 in
          rw (content, k.0, same, le-ltb 16384 span.made (omega (arith, line.few, same))) refl
      go (Ok span) e None k = absurd k
      go (Err fault) e (Some x) k = impossible cc
      go (Err fault) e None k = refl

  -- an item of a class, read and stored
  pub short_class : {c : Class} → c ≡ d → (kind : ℕ) (row : List ℕ) {x : LeftTried} → x ≡ stored kind words r row → (lead b : ℕ)
      → Begun lead g b z input from → x ≡ tried_found (shape_for c b) kind lead g input row
  short_class e kind row q lead b begun =
      class_tried b kind lead g input row e (line.shape b)
      (q ∙ stored_tried kind row
      ∙ ap (λ l. tried l (kind ∷ fills g input (field_of f ∷ field_of h ∷ []) from) row)
      (sym (two_scanned lead g b z (field_of f) (field_of h) input from begun line.all_open_lem))
      ∙ ap (λ ws. tried (scanned lead g (two_of (field.Fixed b) z (field_of f) (field_of h)) input) ws row)
      (sym (two_filled lead g b z (field_of f) (field_of h) input from begun line.all_open_lem kind)))

-- ---- the lead's grade

abbrev grade : ℕ → ℕ
grade b = grades.grade_of CanonLead b

lead_same : (c : Class) (b kind g : ℕ) (input row : List ℕ)
    → read_item (shape_for c b) kind (grades.lead_grade CanonLead (shape_for c b)) g input row ≡ read_item (shape_for c b) kind (grade b) g input row
unfolding shape_for read_item
lead_same class.Nothing b kind g input row = refl
lead_same class.Zero b kind g input row = refl
lead_same class.Index b kind g input row = refl
lead_same class.ZeroIndex b kind g input row = refl
lead_same class.Indices b kind g input row = refl
lead_same class.Flag b kind g input row = refl
lead_same class.IndexFlag b kind g input row = refl
lead_same class.RepIndex b kind g input row = refl
lead_same class.Options b kind g input row = refl
lead_same class.ZeroOptions b kind g input row = refl
lead_same class.Not b kind g input row = refl

-- an item whose lead is above the grade is not whole
newer : (c : Class) (b g : ℕ) (input : List ℕ) → g < grade b → (e q : ℕ) → scanned_found (shape_for c b) (grade b) g input ≡ Fine e q → ⊥
unfolding shape_for
newer class.Nothing b g input h e q x = lead_newer (grade b) g b (plain b field.Nothing field.Nothing) input refl h e q x
newer class.Zero b g input h e q x = lead_newer (grade b) g b (zeroed b field.Nothing) input refl h e q x
newer class.Index b g input h e q x = lead_newer (grade b) g b (plain b field.Index field.Nothing) input refl h e q x
newer class.ZeroIndex b g input h e q x = lead_newer (grade b) g b (zeroed b field.Index) input refl h e q x
newer class.Indices b g input h e q x = lead_newer (grade b) g b (plain b field.Index field.Index) input refl h e q x
newer class.Flag b g input h e q x = lead_newer (grade b) g b (plain b field.Flag field.Nothing) input refl h e q x
newer class.IndexFlag b g input h e q x = lead_newer (grade b) g b (plain b field.Index field.Flag) input refl h e q x
newer class.RepIndex b g input h e q x = lead_newer (grade b) g b (plain b field.Rep field.Index) input refl h e q x
newer class.Options b g input h e q x = lead_newer (grade b) g b (optioned b field.Nothing) input refl h e q x
newer class.ZeroOptions b g input h e q x = lead_newer (grade b) g b (optioned b (field.Fixed 0x00)) input refl h e q x
newer class.Not b g input h e q x = impossible cc

-- ---- the call

module _ (g : ℕ) (input row : List ℕ) {b : ℕ} (c : Class) (eb : b ≡ byte input 0) (small : b < 256) (some : b ≡ 0 → ⊥)
    (found-is : shape_in table (256 + b) ≡ shape_for c ((256 + b) % 256)) where
  shape_is : shape_of (256 + b) ≡ shape_for c b
  shape_is =
      let n : 256 + b ≡ 256 → ⊥ = λ e. some (omega (arith, e)) in
      let m : (256 + b) % 256 ≡ b = omega (arith, small) in
      simp (ne_eqb (256 + b) 256 n) (found-is ∙ ap (λ j. shape_for c j) m)

  read_as : read_canonical g input row ≡ read_item (shape_for c b) (256 + b) (grade b) g input row
  unfolding read_canonical lead_grade
  read_as =
      ap (λ t. cond t (read_lift g input row) (read_item (shape_of (256 + byte input 0)) (256 + byte input 0) (lead_grade (256 + byte input 0)) g input row))
      (ne_eqb (byte input 0) 0 (λ e. some (eb ∙ e)))
      ∙ ap (λ j. read_item (shape_of (256 + j)) (256 + j) (lead_grade (256 + j)) g input row) (sym eb)
      ∙ ap (λ f. read_item f (256 + b) (grades.lead_grade CanonLead f) g input row) shape_is
      ∙ lead_same c b (256 + b) g input row

  module _ {l : ℕ} (el : l ≡ grade b) where
    module _ (h : within l g input ≡ true) {part : List ℕ} (whole : part ≡ input) where
      -- what reading by the class requires
      pub part_limits : (0 < length part) × (length part ≤ 2 ^ 30) × (1 ≤ g)
      part_limits = let n = within-limits l g input h in rw whole (n.4, n.0, n.1)

      module _ {x : Tried} (new : List ℕ)
          (t : (lead k : ℕ) → lead ≤ g → byte part 0 ≡ k → left_tried x new ≡ tried_found (shape_for c k) (256 + b) lead g part row) where
        same : {y : Tried} → x ≡ y → left_tried y new ≡ tried_found (shape_for c b) (256 + b) (grade b) g input row
        same i =
            ap (λ s. left_tried s new) (sym i)
            ∙ t (grade b) b (subst (λ j. j ≤ g) el (within-limits l g input h).3) (ap (λ s. byte s 0) whole ∙ sym eb)
            ∙ ap (λ s. tried_found (shape_for c b) (256 + b) (grade b) g s row) whole

        limits : within (grade b) g input ≡ true
        limits = subst (λ j. within j g input ≡ true) el h

        pub read_some : (q e : ℕ) → x ≡ answer.Item q e → left_row (read.Item q e) new ≡ read_canonical g input row
        read_some q e i = call_done (shape_for c b) (256 + b) (grade b) g input row limits q e new (same i) ∙ sym read_as

        pub read_none : x ≡ None → left_row (refusal_of (scanned_item (shape_of (256 + b)) l g input)) new ≡ read_canonical g input row
        read_none i =
            ap (λ f. left_row (refusal_of (scanned_item f l g input)) new) shape_is
            ∙ ap (λ j. left_row (refusal_of (scanned_item (shape_for c b) j g input)) new) el
            ∙ call_not (shape_for c b) (256 + b) (grade b) g input row limits new (same i) ∙ sym read_as

    pub read_outside : within l g input ≡ false → left_row (refusal_of (scanned_item (shape_of (256 + b)) l g input)) row ≡ read_canonical g input row
    read_outside h =
        ap (λ f. left_row (refusal_of (scanned_item f l g input)) row) shape_is
        ∙ ap (λ j. left_row (refusal_of (scanned_item (shape_for c b) j g input)) row) el
        ∙ call_outside (shape_for c b) (256 + b) (grade b) g input row (subst (λ j. within j g input ≡ false) el h) (newer c b g input) ∙ sym read_as

-- ---- a lift

pub read_lift_lem : (g : ℕ) (input row : List ℕ) → byte input 0 ≡ 0 → read_lift g input row ≡ read_canonical g input row
unfolding read_canonical
read_lift_lem g input row e = simp (eq-eqb (byte input 0) 0 e)

abbrev lift_words : ℕ → List ℕ → List ℕ
lift_words g input = type_third (filled 256 1 g lift_bytes input)

module _ (g : ℕ) (input row : List ℕ) where
  module _ (h : within 1 g input ≡ true) {part : List ℕ} (whole : part ≡ input) where
    pub lift_limits : byte input 0 ≡ 0 → (0 < length part) × (length part ≤ 2 ^ 30) × (1 ≤ g) × (byte part 0 ≡ 0)
    lift_limits e = let k = within-limits 1 g input h in rw whole (k.4, k.0, k.1, e)

    module _ {x : Tried} (new : List ℕ) (t : left_tried x new ≡ tried (scanned 1 g lift_bytes part) (lift_words g part) row) where
      lifted : {y : Tried} → x ≡ y → left_tried y new ≡ tried (scanned 1 g lift_bytes input) (lift_words g input) row
      lifted i = ap (λ s. left_tried s new) (sym i) ∙ t ∙ ap (λ s. tried (scanned 1 g lift_bytes s) (lift_words g s) row) whole

      pub lift_some : (q e : ℕ) → x ≡ answer.Item q e → left_row (read.Item q e) new ≡ read_lift g input row
      unfolding read_lift
      lift_some q e i =
          let k = within-limits 1 g input h in
          simp (le-ltb _ _ k.0, le-ltb _ _ k.1, le-ltb _ _ k.2, ne_eqb (length input) 0 (λ z. omega (arith, k.4)))
          (read_done (scanned 1 g lift_bytes input) (lift_words g input) row new q e (lifted i))

      pub lift_none : x ≡ None → left_row (refusal_of (scanned_item (Some lift_bytes) 1 g input)) new ≡ read_lift g input row
      unfolding read_lift scanned_item
      lift_none i =
          let k = within-limits 1 g input h in
          simp (le-ltb _ _ k.0, le-ltb _ _ k.1, le-ltb _ _ k.2, ne_eqb (length input) 0 (λ z. omega (arith, k.4)))
          (read_not (scanned 1 g lift_bytes input) (lift_words g input) row new (lifted i))

  pub lift_outside : within 1 g input ≡ false → left_row (refusal_of (scanned_item (Some lift_bytes) 1 g input)) row ≡ read_lift g input row
  unfolding within read_lift scanned_item
  lift_outside h =
      go (ltb (2 ^ 30) (length input)) (ltb g 1) (ltb 3 g) (ltb 0 (length input)) (eqb (length input) 0) refl refl h
    where
      l : Leaf
      l = scanned 1 g lift_bytes input

      go : (a b c z s : Bool) → ltb 0 (length input) ≡ z → eqb (length input) 0 ≡ s
          → cond a false (cond b false (cond c false (cond b false z))) ≡ false
          → left_row
          (refusal_of
          (cond a (Bad refusal.Limit 0) (cond b (Bad refusal.Limit 0) (cond c (Bad refusal.Limit 0) (cond s (Bad refusal.Cut 0) l)))))
          row
          ≡ cond a (left_row (read.Refused refusal.Limit 0) row)
          (cond b (left_row (read.Refused refusal.Limit 0) row)
          (cond c (left_row (read.Refused refusal.Limit 0) row)
          (cond s (left_row (read.Refused refusal.Cut 0) row) (roomed l (lift_words g input) row))))
      go true b c z s ez es h = refl
      go false true c z s ez es h = refl
      go false false true z s ez es h = refl
      go false false false z true ez es h = refl
      go false false false true false ez es h = impossible cc
      go false false false false false ez es h =
          let none : length input ≤ 0 = ltb-false 0 (length input) ez in
          absurd (eqb-false (length input) 0 es (omega arith))
