-- Straight code by class: a row that was seen to be right has its size, one that has a size is right and has its bytes, and these stored are
-- the row written.
use Rattle.std.specs.Prelude.{Option, Some, None, IfSome, Ok}
use Rattle.std.proofs.lemmas.Option.{IfSome_then}
use Prim.Native.Nat.{ℕ, zero, suc, ◌+◌, ◌*◌, ◌≤◌, ◌<◌}
use native.Mathlib.Omega.{arith}
use mathlib.Core.Path.{◌≡◌, refl, sym, ap, subst, ◌∙◌}
use mathlib.Core.List.{List, [], ◌∷◌, ◌++◌, append-nil}
use mathlib.Core.Bool.{Bool, true, false, cond}
use borrow.Author.Tests.{ltb-true, lt-ltb, eq-eqb}
use lib.Dec.{ltb}
use lib.ListN.{length, drop, set, length-append}
use lib.Seq.{sets}
use Rattle.numbers.specs.Bytes as bytes
use Rattle.numbers.specs.Bytes.{store}
use Rattle.numbers.specs.Leb.{unsigned}
use Rattle.numbers.specs.Stored.{Stored}
use Rattle.numbers.proofs.LebLaws.{size_bounds}
use Rattle.fields.specs.Answer.{Refused}
use Rattle.fields.specs.declared.Field.{Field}
use Rattle.fields.specs.declared.Field.TheVariants as field
use Rattle.fields.specs.Flaw.{Right, Wrong}
use Rattle.fields.specs.declared.Refusal.TheVariants.{Tag, Room}
use Rattle.writing.specs.Binary as binary
use Rattle.fields.specs.Words.{word, indexed, wide}
use Rattle.writing.specs.Binary.{flag, representation, canonopt}
use Rattle.writing.specs.Judge.{below, choice, flaw}
use Rattle.writing.specs.inside.Wrote.{Wrote}
use Rattle.writing.specs.Row.{measured_row, row_bytes, write_row}
use Rattle.fields.specs.Shape.{repeated, widths}
use Rattle.fields.specs.Table.{elements}
use Rattle.fields.specs.Answers.{left}
use Rattle.writing.proofs.FlawLaws.{choice-below}
use Rattle.fields.proofs.NearLaws.{first_word, second_word}
use Rattle.writing.proofs.WholeLaws.{accepted}
use Rattle.writing.proofs.WroteLaws.{then, then-byte, same_size}
use Rattle.writing.specs.inside.Rows as writing
use Rattle.writing.specs.Sizes.{within}
use Rattle.writing.specs.inside.Rows.{Rights, Tried}
use Rattle.writing.proofs.GroupLaws as group
use Rattle.writing.proofs.GroupLaws.{choice_element, byte-wrote, bytes-wrote, number_wrote}
use Rattle.writing.proofs.RowLaws.{within-fits, within_not, written_answer, room_answer, index_at, rep_at, nothing_at, lead_known, lead_held, two_known, two_held, many_known, many_held}
use Rattle.canonicals.specs.declared.Class.{Class}
use Rattle.canonicals.specs.declared.Class.TheVariants as class
use Rattle.canonicals.specs.inside.Class.{shape_for, Choices, choices, Chosen, Optioned, optioned_bytes, optioned_size, Good, bytes_for, size_for, Known, Put}
use Rattle.canonicals.specs.Table.{optioned}
use Rattle.numbers.proofs.Impossible.{impossible}

-- ---- storing

pub put_none : {c : Class} {lead : ℕ} {row out : List ℕ} {at : ℕ} → Put c lead row out at None out
put_none = record { none = λ e. refl; seen = λ n e. impossible cc; room = λ n e. impossible cc; content = λ n e. impossible cc }

-- a row that was seen to be right, where its bytes have room
module _ (out : List ℕ) (at : ℕ) {c : Class} {row : List ℕ} {r : ℕ} (known : Known c row r) {b : Bool}
    (e : b ≡ within r at (length out)) (t : b ≡ true) where
  fit : at + r ≤ length out
  fit = (within-fits r at (length out) (sym e ∙ t)).1

  pub put_room : Good c row × (at + size_for c row ≤ length out)
  put_room = (known.right, omega (arith, known.size, fit))

  pub put_some : (lead : ℕ) {new : List ℕ} → new ≡ sets out at (bytes_for c lead row) → Put c lead row out at (Some r) new
  put_some lead p = record {
    none = λ z. impossible cc;
    seen = λ n q. let same : r ≡ n = cc in subst (λ k. Known c row k) same known;
    room = λ n q. let same : r ≡ n = cc in omega (arith, fit);
    content = λ n q. p;
  }

-- the bytes of the classes, one after the other
module _ (lead : ℕ) (out : List ℕ) (to : ℕ) where
  module _ (x : ℕ) (h : to + (1 + length (unsigned x)) ≤ length out) {q : Stored} {mid : List ℕ}
      (e : bytes.left q mid ≡ store (unsigned x) (to + 1) (set out to lead)) where
    pub index_wrote : Wrote out to (lead ∷ unsigned x) (to + 1 + length (unsigned x)) mid
    index_wrote = let w = byte-wrote out to lead in then-byte w (number_wrote e (omega (arith, same_size w)))

    module _ {n : ℕ} (en : n ≡ length (unsigned x)) where
      there : Wrote out to (lead ∷ unsigned x) (to + 1 + n) mid
      there = subst (λ k. Wrote out to (lead ∷ unsigned x) (to + 1 + k) mid) (sym en) index_wrote

      pub indices_wrote : (y : ℕ) → to + (1 + length (unsigned x) + length (unsigned y)) ≤ length out → {t : Stored} {new : List ℕ}
          → bytes.left t new ≡ store (unsigned y) (to + 1 + n) mid
          → Wrote out to (lead ∷ (unsigned x ++ unsigned y)) (to + 1 + n + length (unsigned y)) new
      indices_wrote y k d = then there (number_wrote d (omega (arith, same_size there)))

      pub index_flag_wrote : (y : ℕ) {b : ℕ} → b ≡ flag y
          → Wrote out to (lead ∷ (unsigned x ++ flag y ∷ [])) (to + 1 + n + 1) (set mid (to + 1 + n) b)
      index_flag_wrote y {b} eb =
          subst (λ z. Wrote out to (lead ∷ (unsigned x ++ z ∷ [])) (to + 1 + n + 1) (set mid (to + 1 + n) b)) eb
          (then there (byte-wrote mid (to + 1 + n) b))

  pub pair_wrote : (y x : ℕ) {b : ℕ} → b ≡ y → to + (2 + length (unsigned x)) ≤ length out → {q : Stored} {new : List ℕ}
      → bytes.left q new ≡ store (unsigned x) (to + 2) (set (set out to lead) (to + 1) b)
      → Wrote out to (lead ∷ y ∷ unsigned x) (to + 2 + length (unsigned x)) new
  pair_wrote y x {b} eb h {q} {new} e =
      let w = bytes-wrote out to lead b in
      subst (λ z. Wrote out to (lead ∷ z ∷ unsigned x) (to + 2 + length (unsigned x)) new) eb
      (then w (number_wrote e (omega (arith, same_size w))))

-- an index, a count and options, one after the other
pub optioned-wrote : (row out : List ℕ) (to : ℕ) {one two new : List ℕ} {n m : ℕ} {q t : Stored} {j : ℕ} → to + optioned_size row ≤ length out
    → bytes.left q one ≡ store (unsigned (word row 1)) to out → n ≡ length (unsigned (word row 1))
    → bytes.left t two ≡ store (unsigned (word row 2)) (to + n) one → m ≡ length (unsigned (word row 2))
    → Wrote two (to + n + m) (choices (word row 2) (drop 3 row)) j new → new ≡ sets out to (optioned_bytes row)
optioned-wrote row out to {one} {two} {new} {n} {m} {q} {t} {j} h e en d em w =
    let v = number_wrote e (omega arith) in
    let f = d ∙ ap (λ k. store (unsigned (word row 2)) (to + k) one) en in
    let u = number_wrote f (omega (arith, same_size v)) in
    (then v (then u (subst (λ k. Wrote two k (choices (word row 2) (drop 3 row)) j new) (λ i. to + en i + em i) w))).content

-- ---- options

canonopt-indexed : (k x : ℕ) → indexed k ≡ true → canonopt k x ≡ k ∷ unsigned x
unfolding canonopt
canonopt-indexed k x e = rw e

canonopt-bare : (k x : ℕ) → indexed k ≡ false → canonopt k x ≡ k ∷ []
unfolding canonopt
canonopt-bare k x e = rw e

pub some_option : (k x : ℕ) → 0 < length (canonopt k x)
unfolding canonopt
some_option k x = omega arith

pub indexed-known : (k x : ℕ) → k < 10 → indexed k ≡ true → {n : ℕ} → n ≡ length (unsigned x)
    → (choice (k ∷ x ∷ []) ≡ Right) × (1 + n ≡ length (canonopt k x))
unfolding choice
indexed-known k x h e en = (simp (lt-ltb _ _ h, e), omega (arith, ap length (canonopt-indexed k x e)))

pub bare_known : (k x : ℕ) → k < 10 → indexed k ≡ false → x ≡ 0 → (choice (k ∷ x ∷ []) ≡ Right) × (1 ≡ length (canonopt k x))
unfolding choice
bare_known k x h e z = (simp (lt-ltb _ _ h, e, eq-eqb _ _ z), omega (arith, ap length (canonopt-bare k x e)))

pub indexed-room : (k x : ℕ) → indexed k ≡ true → length (canonopt k x) ≡ 1 + length (unsigned x)
indexed-room k x e = omega (arith, ap length (canonopt-indexed k x e))

pub indexed-wrote : (k x : ℕ) → indexed k ≡ true → {out new : List ℕ} {to n : ℕ} {q : Stored} → to + length (canonopt k x) ≤ length out
    → bytes.left q new ≡ store (unsigned x) (to + 1) (set out to k) → n ≡ length (unsigned x) → Wrote out to (canonopt k x) (to + 1 + n) new
indexed-wrote k x e {out} {new} {to} {n} h s en =
    let b = byte-wrote out to k in
    let w = then-byte b (number_wrote s (omega (arith, same_size b, indexed-room k x e))) in
    subst (λ l. Wrote out to l (to + 1 + n) new) (sym (canonopt-indexed k x e))
    (subst (λ m. Wrote out to (k ∷ unsigned x) (to + 1 + m) new) (sym en) w)

pub bare_wrote : (k x : ℕ) → indexed k ≡ false → {out : List ℕ} {to : ℕ} → Wrote out to (canonopt k x) (to + 1) (set out to k)
bare_wrote k x e {out} {to} = subst (λ l. Wrote out to l (to + 1) (set out to k)) (sym (canonopt-bare k x e)) (byte-wrote out to k)

-- an option by its words, and at its place
choice_at : (row : List ℕ) (at : ℕ) → choice (word row at ∷ word row (at + 1) ∷ []) ≡ Right → choice (drop at row) ≡ Right
unfolding choice
choice_at row at e =
    let x = first_word row at in
    let y = second_word row at in
    subst (λ l. choice l ≡ Right) (λ i. x i ∷ y i ∷ []) e

canonopt_at : (row : List ℕ) (at : ℕ) → canonopt (word row at) (word row (at + 1)) ≡ canonopt (word (drop at row) 0) (word (drop at row) 1)
canonopt_at row at = λ i. canonopt (first_word row at i) (second_word row at i)

-- options are right as fields are, whatever the pool
abbrev pub one : List Field
one = field.Choice ∷ field.Nothing ∷ []

abbrev pub element : List ℕ → List ℕ
element vs = canonopt (word vs 0) (word vs 1)

pub choices-rights : (pool : List ℕ) (n : ℕ) (ws : List ℕ) → Choices n ws → Rights pool (repeated n one) ws
unfolding Choices Rights repeated flaw wide
choices-rights pool zero ws h = tt
choices-rights pool (suc n) ws h = (h.0, (refl, choices-rights pool n (drop 2 ws) h.1))

pub rights-choices : (pool : List ℕ) (n : ℕ) (ws : List ℕ) → Rights pool (repeated n one) ws → Choices n ws
unfolding Choices Rights repeated flaw wide
rights-choices pool zero ws h = tt
rights-choices pool (suc n) ws h = (h.0, rights-choices pool n (drop 2 ws) h.1.1)

-- `due` options are still to be seen
abbrev pub Going : List ℕ → ℕ → ℕ → ℕ → ℕ → ℕ → ℕ → Type 0
Going row from n base due at made = group.Going [] one element 6 row from n base due at made

module _ {row : List ℕ} {from n base due at made : ℕ} (g : Going row from n base due at made) where
  pub going_place : at + due * 2 ≡ from + n * 2
  unfolding widths wide
  going_place = g.place

  pub going_next : {m : ℕ} → due ≡ suc m → {r : ℕ} → (choice (word row at ∷ word row (at + 1) ∷ []) ≡ Right) × (r ≡ length (canonopt (word row at) (word row (at + 1))))
      → r ≤ 6 → Going row from n base m (at + 2) (made + r)
  unfolding Rights flaw widths wide
  going_next e k b = group.going_next g e (choice_at row at k.0, (refl, tt)) (k.1 ∙ ap length (canonopt_at row at)) b refl

  pub going_end : due ≤ 0 → Chosen n (drop from row) base made
  unfolding widths wide
  going_end h = let k = group.going_end due g h in record { right = rights-choices [] n (drop from row) k.right; size = k.size }

-- and so the row
pub optioned-known : (row : List ℕ) (head : ℕ) {a b : ℕ} (o : Option ℕ) → length row ≤ 16384 → length row ≡ 3 + word row 2 * 2
    → a ≡ length (unsigned (word row 1)) → b ≡ length (unsigned (word row 2)) → IfSome o (λ r. Chosen (word row 2) (drop 3 row) (head + a + b) r)
    → IfSome o (λ r. Optioned row × (r ≡ head + optioned_size row))
optioned-known row head {a} {b} o short width ea eb s =
    IfSome_then o s (λ r c. (record { short = short; width = width; right = c.right }, omega (arith, c.size)))

-- as a class says it
pub options_known : {row : List ℕ} {r : ℕ} → Optioned row × (r ≡ 1 + optioned_size row) → Known class.Options row r
options_known k = record { right = k.0; size = k.1 }

pub zero_options_known : {row : List ℕ} {r : ℕ} → Optioned row × (r ≡ 2 + optioned_size row) → Known class.ZeroOptions row r
zero_options_known k = record { right = k.0; size = k.1 }

-- `due` options are still to be put
abbrev pub Putting : List ℕ → ℕ → ℕ → List ℕ → ℕ → ℕ → ℕ → ℕ → List ℕ → Type 0
Putting row from n old base due at to new = group.Putting [] one element row from n old base due at to new

module _ {row : List ℕ} {from n : ℕ} {old : List ℕ} {base due at to : ℕ} {new : List ℕ} (p : Putting row from n old base due at to new) where
  pub putting_place : at + due * 2 ≡ from + n * 2
  unfolding widths wide
  putting_place = p.place

  -- the next option is right, and has room
  pub putting_round : 0 < due → base + length (choices n (drop from row)) ≤ length old
      → (word row at < 10) × (to + length (canonopt (word row at) (word row (at + 1))) ≤ length new)
  unfolding Rights flaw widths wide
  putting_round h b =
      let t = group.putting_round due p h b in
      (omega (arith, choice-below (drop at row) t.0.0, first_word row at), omega (arith, t.1, ap length (canonopt_at row at)))

  pub putting_next : {m : ℕ} → due ≡ suc m → {next : ℕ} {more : List ℕ} → Wrote new to (canonopt (word row at) (word row (at + 1))) next more
      → Putting row from n old base m (at + 2) next more
  unfolding widths wide
  putting_next e {next} {more} w = group.putting_next p e (subst (λ l. Wrote new to l next more) (canonopt_at row at) w) refl

  pub putting_end : due ≤ 0 → Wrote old base (choices n (drop from row)) to new
  unfolding widths wide
  putting_end h = group.putting_end due p h

-- ---- a row that is right has its size

pub number_size : (n : ℕ) → length (unsigned n) ≤ 5
number_size n = (size_bounds 128 n).1

-- an option has six bytes at most
choice-small : (k x : ℕ) → length (canonopt k x) ≤ 6
unfolding canonopt
choice-small k x = go (indexed k)
  where
    go : (b : Bool) → length (k ∷ cond b (unsigned x) []) ≤ 6
    go true = omega (arith, number_size x)
    go false = omega arith

pub choices-small : (n : ℕ) (os : List ℕ) → length (choices n os) ≤ n * 6
unfolding elements
choices-small zero os = omega arith
choices-small (suc n) os =
    omega (
      arith,
      length-append (canonopt (word os 0) (word os 1)) (choices n (drop 2 os)),
      choice-small (word os 0) (word os 1),
      choices-small n (drop 2 os),
    )

flag_at : (pool row : List ℕ) (at : ℕ) → word row at < 2 → writing.Known pool field.Flag (drop at row) 1
unfolding flaw binary.bytes
flag_at pool row at h =
    let k : word (drop at row) 0 < 2 = omega (arith, first_word row at) in
    record { right = simp (lt-ltb _ _ k); size = refl }

module _ (lead : ℕ) (row pool : List ℕ) (small : length pool ≤ 65536) where
  optioned_right : (byte : Field) (m : ℕ) → wide byte ≡ 0 → ((ws : List ℕ) → flaw pool byte ws ≡ Right)
      → m ≡ length (binary.bytes pool byte (drop 1 row))
      → Optioned row → measured_row (Some (optioned lead byte)) row pool ≡ Ok (1 + m + optioned_size row)
  unfolding wide widths flaw binary.bytes
  optioned_right byte m ez always em h =
      many_known (field.Fixed lead) byte field.Index field.Choice field.Nothing field.Nothing refl ez {w = 2} refl row pool (choice_element pool)
      (λ ws. refl) always small h.short (omega (arith, h.width)) (index_at pool row 1 refl refl) refl
      (record { right = choices-rights pool (word row 2) (drop 3 row) h.right; size = refl }) (nothing_at pool (drop (3 + word row 2 * 2) row))
      (omega (arith, em))

  class_right : (c : Class) → Good c row → measured_row (shape_for c lead) row pool ≡ Ok (size_for c row)
  unfolding shape_for wide flaw binary.bytes
  class_right class.Nothing h =
      lead_known lead field.Nothing field.Nothing row pool small (omega arith) h (nothing_at pool (drop 1 row))
      (nothing_at pool (drop 1 row)) refl
  class_right class.Zero h =
      two_known (field.Fixed lead) (field.Fixed 0x00) field.Nothing field.Nothing refl refl row pool (λ ws. refl) (λ ws. refl) small (omega arith) h
      (nothing_at pool (drop 1 row)) (nothing_at pool (drop 1 row)) refl
  class_right class.Index h =
      lead_known lead field.Index field.Nothing row pool small (omega arith) h (index_at pool row 1 refl refl) (nothing_at pool (drop 2 row))
      (omega arith)
  class_right class.ZeroIndex h =
      two_known (field.Fixed lead) (field.Fixed 0x00) field.Index field.Nothing refl refl row pool (λ ws. refl) (λ ws. refl) small (omega arith) h
      (index_at pool row 1 refl refl) (nothing_at pool (drop 2 row)) (omega arith)
  class_right class.Indices h =
      lead_known lead field.Index field.Index row pool small (omega arith) h (index_at pool row 1 refl refl) (index_at pool row 2 refl refl) refl
  class_right class.Flag h =
      lead_known lead field.Flag field.Nothing row pool small (omega (arith, h.0)) h.0 (flag_at pool row 1 h.1)
      (nothing_at pool (drop 2 row)) refl
  class_right class.IndexFlag h =
      lead_known lead field.Index field.Flag row pool small (omega (arith, h.0)) h.0 (index_at pool row 1 refl refl)
      (flag_at pool row 2 h.1) (omega arith)
  class_right class.RepIndex h =
      lead_known lead field.Rep field.Index row pool small (omega (arith, h.0)) h.0 (rep_at pool row 1 refl h.1)
      (index_at pool row 2 refl refl) refl
  class_right class.Options h = optioned_right field.Nothing 0 refl (λ ws. refl) refl h
  class_right class.ZeroOptions h = optioned_right (field.Fixed 0x00) 1 refl (λ ws. refl) refl h
  class_right class.Not h = absurd h

-- ---- a row that has a size is right

record Held (c : Class) (lead : ℕ) (row pool : List ℕ) (n : ℕ) : Type 0 where
  right : Good c row
  size : n ≡ size_for c row
  some : 0 < n
  made : row_bytes (shape_for c lead) pool row ≡ bytes_for c lead row

-- a word that is below 2
low_at : (row : List ℕ) (at : ℕ) → below 2 (drop at row) 0 ≡ Right → word row at < 2
low_at row at e = go (ltb (word (drop at row) 0) 2) refl e
  where
    go : (b : Bool) → ltb (word (drop at row) 0) 2 ≡ b → cond b Right (Wrong Tag 0) ≡ Right → word row at < 2
    go true p e = omega (arith, ltb-true (word (drop at row) 0) 2 p, first_word row at)
    go false p e = impossible cc

-- the words at 1 and 2, of which fields have the first from there on
module _ (row : List ℕ) where
  at_1 : word (drop 1 row) 0 ≡ word row 1
  at_1 = sym (first_word row 1)

  at_2 : word (drop 2 row) 0 ≡ word row 2
  at_2 = sym (first_word row 2)

  size_1 : length (unsigned (word (drop 1 row) 0)) ≡ length (unsigned (word row 1))
  size_1 = ap (λ x. length (unsigned x)) at_1

  size_2 : length (unsigned (word (drop 2 row) 0)) ≡ length (unsigned (word row 2))
  size_2 = ap (λ x. length (unsigned x)) at_2

module _ (lead : ℕ) (row pool : List ℕ) {n : ℕ} where
  optioned_held : (byte : Field) → wide byte ≡ 0 → measured_row (Some (optioned lead byte)) row pool ≡ Ok n
      → Optioned row × (n ≡ 1 + length (binary.bytes pool byte (drop 1 row)) + optioned_size row)
      × (row_bytes (Some (optioned lead byte)) pool row ≡ lead ∷ (binary.bytes pool byte (drop 1 row) ++ optioned_bytes row))
  unfolding wide widths binary.bytes
  optioned_held byte ez e =
      let h = many_held (field.Fixed lead) byte field.Index field.Choice field.Nothing field.Nothing refl ez {w = 2} refl row pool
      (choice_element pool) e in (
        record { short = h.short; width = omega (arith, h.width); right = rights-choices pool (word row 2) (drop 3 row) h.groups },
        omega (arith, h.size, size_1 row),
        h.made
            ∙ (λ i. lead ∷ (binary.bytes pool byte (drop 1 row)
            ++ (unsigned (at_1 row i) ++ (unsigned (word row 2) ++ append-nil (choices (word row 2) (drop 3 row)) i)))),
      )

  class_held : (c : Class) → measured_row (shape_for c lead) row pool ≡ Ok n → Held c lead row pool n
  unfolding shape_for wide flaw binary.bytes
  class_held class.Nothing e =
      let h = lead_held lead field.Nothing field.Nothing row pool e in
      record { right = h.width; size = h.size; some = omega (arith, h.size); made = h.made }
  class_held class.Zero e =
      let h = two_held (field.Fixed lead) (field.Fixed 0x00) field.Nothing field.Nothing refl refl row pool e in
      record { right = h.width; size = h.size; some = omega (arith, h.size); made = h.made }
  class_held class.Index e =
      let h = lead_held lead field.Index field.Nothing row pool e in
      record {
        right = h.width;
        size = omega (arith, h.size, size_1 row);
        some = omega (arith, h.size);
        made = h.made ∙ (λ i. lead ∷ append-nil (unsigned (at_1 row i)) i);
      }
  class_held class.ZeroIndex e =
      let h = two_held (field.Fixed lead) (field.Fixed 0x00) field.Index field.Nothing refl refl row pool e in
      record {
        right = h.width;
        size = omega (arith, h.size, size_1 row);
        some = omega (arith, h.size);
        made = h.made ∙ (λ i. lead ∷ 0x00 ∷ append-nil (unsigned (at_1 row i)) i);
      }
  class_held class.Indices e =
      let h = lead_held lead field.Index field.Index row pool e in
      record {
        right = h.width;
        size = omega (arith, h.size, size_1 row, size_2 row);
        some = omega (arith, h.size);
        made = h.made ∙ (λ i. lead ∷ (unsigned (at_1 row i) ++ unsigned (at_2 row i)));
      }
  class_held class.Flag e =
      let h = lead_held lead field.Flag field.Nothing row pool e in
      record {
        right = (h.width, low_at row 1 h.first);
        size = h.size;
        some = omega (arith, h.size);
        made = h.made ∙ (λ i. lead ∷ flag (at_1 row i) ∷ []);
      }
  class_held class.IndexFlag e =
      let h = lead_held lead field.Index field.Flag row pool e in
      record {
        right = (h.width, low_at row 2 h.second);
        size = omega (arith, h.size, size_1 row);
        some = omega (arith, h.size);
        made = h.made ∙ (λ i. lead ∷ (unsigned (at_1 row i) ++ flag (at_2 row i) ∷ []));
      }
  class_held class.RepIndex e =
      let h = lead_held lead field.Rep field.Index row pool e in
      record {
        right = (h.width, low_at row 1 h.first);
        size = omega (arith, h.size, size_2 row);
        some = omega (arith, h.size);
        made = h.made ∙ (λ i. lead ∷ representation (at_1 row i) ∷ unsigned (at_2 row i));
      }
  class_held class.Options e =
      let h = optioned_held field.Nothing refl e in
      record { right = h.0; size = h.1; some = omega (arith, h.1); made = h.2 }
  class_held class.ZeroOptions e =
      let h = optioned_held (field.Fixed 0x00) refl e in
      record { right = h.0; size = h.1; some = omega (arith, h.1); made = h.2 }
  class_held class.Not e = let h = (accepted None row pool n e).is in impossible cc

-- ---- what straight code answers

known_sized : {c d : Class} → d ≡ c → (row pool : List ℕ) {r : ℕ} → length pool ≤ 65536 → Known c row r → (lead : ℕ)
    → measured_row (shape_for d lead) row pool ≡ Ok r
known_sized {c} e row pool small s lead =
    ap (λ x. measured_row (shape_for x lead) row pool) e ∙ class_right lead row pool small c s.right ∙ ap Ok (sym s.size)

pub class_sized : {c d : Class} → d ≡ c → (row pool : List ℕ) (o : Option ℕ) → length pool ≤ 65536 → IfSome o (λ r. Known c row r)
    → IfSome o (λ r. (lead : ℕ) → measured_row (shape_for d lead) row pool ≡ Ok r)
class_sized e row pool o small s = IfSome_then o s (λ r k. known_sized e row pool small k)

pub tried : {c d : Class} → d ≡ c → {lead : ℕ} {row pool old new : List ℕ} {at : ℕ} {r : Option ℕ} → length pool ≤ 65536
    → Put c lead row old at r new → Tried (shape_for d lead) row pool old at r new
tried {c} {d} e {lead} {row} {pool} {old} {new} {at} {r} small p =
    subst (λ x. Tried (shape_for x lead) row pool old at r new) (sym e) (record {
      none = p.none;
      some = λ n q.
          let m = known_sized {c = c} refl row pool small (p.seen n q) lead in
          written_answer (shape_for c lead) row pool m old at (p.room n q) (p.content n q ∙ ap (sets old at) (sym (class_held lead row pool c m).made));
    })

-- a row that the walk found right, where its bytes have room and where not
module _ (c : Class) (lead : ℕ) (row pool out : List ℕ) (at : ℕ) {n : ℕ} (e : measured_row (shape_for c lead) row pool ≡ Ok n) {b : Bool}
    (f : b ≡ within n at (length out)) where
  held : Held c lead row pool n
  held = class_held lead row pool c e

  pub line_room : b ≡ true → Good c row × (at + size_for c row ≤ length out)
  line_room t = (held.right, omega (arith, held.size, (within-fits n at (length out) (sym f ∙ t)).1))

  pub line_written : b ≡ true → {new : List ℕ} → new ≡ sets out at (bytes_for c lead row)
      → left (Ok n) new ≡ write_row (shape_for c lead) row pool out at
  line_written t p =
      written_answer (shape_for c lead) row pool e out at (within-fits n at (length out) (sym f ∙ t)).1 (p ∙ ap (sets out at) (sym held.made))

  pub line_roomless : b ≡ false → left (Refused Room n) out ≡ write_row (shape_for c lead) row pool out at
  line_roomless t = room_answer (shape_for c lead) row pool e out at (within_not n at (length out) (sym f ∙ t) held.some)
