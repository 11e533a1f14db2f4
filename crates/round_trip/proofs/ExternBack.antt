-- Names and extern names that were written are read back; an extern name with options is refused at its lead below grade 3.
use Rattle.std.specs.Prelude.{Err, Ok}
use Prim.Native.Nat.{ℕ, suc, ◌+◌, ◌-◌, ◌^◌, ◌≤◌, ◌<◌}
use native.Mathlib.Omega.{arith}
use native.Mathlib.Nat.{add-zero}
use mathlib.Core.Path.{◌≡◌, refl, sym, ap, ◌∙◌, subst}
use mathlib.Core.Bool.{Bool, true, false, cond}
use mathlib.Core.Logic.{◌⊎◌, inl, inr}
use mathlib.Core.List.{List, [], ◌∷◌, ◌++◌, append_assoc, append-nil}
use borrow.Author.Tests.{eqb-true, lt-ltb, le-leb, lt-leb, eq-eqb, ne_eqb}
use lib.Dec.{eqb, ltb, leb}
use lib.ListN.{length, get_or, take, drop, length-append, length-drop}
use lib.Seq.{length-take-le, take_at, drop_at, drop-drop, get_or-drop}
use Rattle.numbers.specs.Taken as taken
use Rattle.numbers.specs.Integers.{u32}
use Rattle.numbers.specs.Leb.{unsigned, take_unsigned}
use Rattle.numbers.specs.Text.{text}
use Rattle.numbers.proofs.LebLaws.{taken_back, take-one}
use Rattle.fields.specs.declared.Field.TheVariants as field
use Rattle.fields.specs.Flaw.{Right, Wrong}
use Rattle.fields.specs.declared.Refusal.TheVariants.{Tag, Newer}
use Rattle.fields.specs.Leaf.{Leaf, Fine, Bad}
use Rattle.fields.specs.Words.{word, Words, chars, wide}
use Rattle.writing.specs.Binary.{name, flag, slot_at, slots_at, slots, externname, bytes}
use Rattle.reading.specs.Fill.{size_in, value_in, fill_name, fill_slot, fill_slots, fill_extern, fill}
use Rattle.writing.specs.Judge.{then, named, optional_name}
use Rattle.round_trip.specs.Mark.{Mark, Clear, At, mark}
use Rattle.reading.specs.Scan as scans
use Rattle.reading.specs.Scan.{byte, past, scan_name, onward, string_at, count_at, counted, slot_scan, end_scan, head_scan, first_scan, second_scan, scan_extern, scan}
use Rattle.fields.specs.View.{Word, Name, view, said}
use Rattle.round_trip.proofs.Back.{Back, answer}
use Rattle.writing.proofs.ByteLaws.{flag_small}
use Rattle.writing.proofs.FlawLaws.{name-inside, name_text, ExternRight}
use Rattle.writing.proofs.SizeLaws.{inside-length}
use Rattle.numbers.proofs.Impossible.{impossible}

-- ---- a name

-- words of a name that are right
pub record NameRight (pool : List ℕ) (start size : ℕ) : Type 0 where
  pub inside : start + size ≤ length pool
  pub says : text (chars pool start size) ≡ true
  pub small : size < 2 ^ 32

pub name_right : (pool ws : List ℕ) (i : ℕ) → Words ws → named pool ws i ≡ Right → NameRight pool (word ws i) (word ws (i + 1))
name_right pool ws i fw e = record { inside = name-inside pool ws i e; says = name_text pool ws i e; small = fw (i + 1) }

-- a name at `from` of the bytes, which stand at `at` of the input: it is scanned, and its words say it beside the input
pub record NameBack (pool input bs : List ℕ) (at from start size : ℕ) : Type 0 where
  pub scans : scan_name (drop from bs) ≡ Fine (length (name pool start size)) 2
  pub fills : fill_name at bs from ≡ (at + (from + length (unsigned size))) ∷ size ∷ []
  pub says : chars input (at + (from + length (unsigned size))) size ≡ chars pool start size

pub name_back : {pool : List ℕ} {start size : ℕ} → NameRight pool start size → (input bs rest : List ℕ) (at from : ℕ)
    → drop at input ≡ bs → drop from bs ≡ name pool start size ++ rest → NameBack pool input bs at from start size
unfolding scan_name fill_name name
name_back {pool} {start} {size} r input bs rest at from inp here =
    let cs = chars pool start size in
    let t = length (unsigned size) in
    let l = drop from bs in
    let inside = r.inside in
    let many : length cs ≡ size = length-take-le size (drop start pool) (omega (arith, length-drop start pool)) in
    let whole : l ≡ unsigned size ++ (cs ++ rest) = here ∙ append_assoc (unsigned size) cs rest in
    let found : take_unsigned l ≡ taken.Value size t =
    ap (λ l. take_unsigned l) whole ∙ taken_back u32 size (cs ++ rest) r.small in
    let behind : drop t l ≡ cs ++ rest = ap (λ l. drop t l) whole ∙ drop_at (unsigned size) (cs ++ rest) t refl in
    let front : take size (drop t l) ≡ cs = ap (λ l. take size l) behind ∙ take_at cs rest size many in
    let long : t + size ≤ length l = omega (arith, ap length whole, length-append (unsigned size) (cs ++ rest), length-append cs rest) in
    let place : drop (at + (from + t)) input ≡ drop t l =
    sym (drop-drop (from + t) at input) ∙ ap (λ l. drop (from + t) l) inp ∙ sym (drop-drop t from bs) in
    record {
      scans = ap (λ r. scans.named l r) found ∙ simp (le-leb (t + size) (length l) long, front, r.says)
          (ap (λ n. Fine n 2) (sym (inside-length pool start size inside)));
      fills = ap (λ r. (at + (from + size_in r)) ∷ value_in r ∷ []) found;
      says = ap (λ l. take size l) place ∙ front;
    }

-- ---- at a place of the bytes

module _ (xs : List ℕ) where
  record Stands (at y : ℕ) (ys : List ℕ) : Type 0 where
    pub here : byte xs at ≡ y
    pub inside : at < length xs
    pub rest : drop (at + 1) xs ≡ ys

  stands : (at y : ℕ) (ys : List ℕ) → drop at xs ≡ y ∷ ys → Stands at y ys
  stands at y ys e =
      let due : length xs - at ≡ suc (length ys) = sym (length-drop at xs) ∙ ap length e in
      record {
        here = ap (λ i. get_or xs i 0) (sym (add-zero at)) ∙ sym (get_or-drop at xs 0 0) ∙ ap (λ l. get_or l 0 0) e;
        inside = omega arith;
        rest = sym (drop-drop 1 at xs) ∙ ap (λ l. drop 1 l) e;
      }

  behind : (at n : ℕ) (p r : List ℕ) → drop at xs ≡ p ++ r → length p ≡ n → drop (at + n) xs ≡ r
  behind at n p r e h = sym (drop-drop n at xs) ∙ ap (λ l. drop n l) e ∙ drop_at p r n h

-- ---- an option

-- words of an option that are right
pub data Slot (pool : List ℕ) : ℕ → ℕ → ℕ → Type 0 where
  absent : Slot pool 0 0 0
  present : {start size : ℕ} → NameRight pool start size → Slot pool 1 start size

pub slot_right : (pool ws : List ℕ) (i : ℕ) → Words ws → optional_name pool ws i ≡ Right → Slot pool (word ws i) (word ws (i + 1)) (word ws (i + 2))
unfolding optional_name
slot_right pool ws i fw e = go (eqb w 0) (eqb s 0) (eqb n 0) (eqb w 1) refl refl refl refl e
  where
    w : ℕ
    w = word ws i

    s : ℕ
    s = word ws (i + 1)

    n : ℕ
    n = word ws (i + 2)

    plus : i + 1 + 1 ≡ i + 2
    plus = omega arith

    go : (a b c d : Bool) → eqb w 0 ≡ a → eqb s 0 ≡ b → eqb n 0 ≡ c → eqb w 1 ≡ d
        → cond a (then (cond b Right (Wrong Tag (i + 1))) (cond c Right (Wrong Tag (i + 2)))) (cond d (named pool ws (i + 1)) (Wrong Tag i)) ≡ Right
        → Slot pool w s n
    go true true true d ha hb hc hd e = rw (eqb-true w 0 ha, eqb-true s 0 hb, eqb-true n 0 hc) absent
    go true true false d ha hb hc hd e = impossible cc
    go true false c d ha hb hc hd e = impossible cc
    go false b c true ha hb hc hd e =
        rw (eqb-true w 1 hd) (present (subst (λ k. NameRight pool s (word ws k)) plus (name_right pool ws (i + 1) fw e)))
    go false b c false ha hb hc hd e = impossible cc

-- the bytes of option k with such words
abbrev pub slot_of : List ℕ → ℕ → ℕ → ℕ → ℕ → List ℕ
slot_of pool k w start size = cond (eqb w 0) [] (k ∷ name pool start size)

-- what stands behind option k: no more options, or a byte that is not k
abbrev Ahead : ℕ → ℕ → List ℕ → Type 0
Ahead k due r = (due ≡ 0) ⊎ ((y : ℕ) × (ys : List ℕ) × (r ≡ y ∷ ys) × (y ≡ k → ⊥))

none_more : (n : ℕ) → 0 + n ≡ n
none_more n = omega arith

ahead : {pool : List ℕ} {w s n : ℕ} → Slot pool w s n → (k j due : ℕ) (r : List ℕ) → k < j → Ahead k due r
    → Ahead k (flag w + due) (slot_of pool j w s n ++ r)
unfolding flag
ahead absent k j due r h a = subst (λ p. Ahead k p r) (sym (none_more due)) a
ahead {pool} {w} {s} {n} (present p) k j due r h a = inr (j, name pool s n ++ r, refl, λ z. omega arith)

-- option k is read as it was written, at `at` of xs, which stands at b of the input
record SlotBack (pool xs input : List ℕ) (b k w s n at due : ℕ) (r : List ℕ) : Type 0 where
  pub scans : slot_scan k xs at (flag w + due) ≡ Fine (at + length (slot_of pool k w s n)) due
  pub after : drop (at + length (slot_of pool k w s n)) xs ≡ r
  pub start : ℕ
  pub fills : fill_slot k b xs (Fine at (flag w + due)) ≡ w ∷ start ∷ n ∷ []
  pub says : chars input start n ≡ chars pool s n

module _ (pool xs input : List ℕ) (b : ℕ) (inp : drop b input ≡ xs) where
  slot_back : {w s n : ℕ} → Slot pool w s n → (k at due : ℕ) (r : List ℕ) → drop at xs ≡ slot_of pool k w s n ++ r → Ahead k due r
      → SlotBack pool xs input b k w s n at due r
  unfolding slot_scan fill_slot flag
  slot_back absent k at due r e a = go a
    where
      stays : slot_scan k xs at due ≡ Fine at due → fill_slot k b xs (Fine at due) ≡ 0 ∷ 0 ∷ 0 ∷ [] → SlotBack pool xs input b k 0 0 0 at due r
      stays s g =
          record {
            scans = ap (λ p. slot_scan k xs at p) (none_more due) ∙ s ∙ ap (λ i. Fine i due) (sym (add-zero at));
            after = ap (λ i. drop i xs) (add-zero at) ∙ e;
            start = 0;
            fills = ap (λ p. fill_slot k b xs (Fine at p)) (none_more due) ∙ g;
            says = refl;
          }

      zeros : due ≡ 0 → SlotBack pool xs input b k 0 0 0 at due r
      zeros h = stays (simp h) (simp h)

      go : Ahead k due r → SlotBack pool xs input b k 0 0 0 at due r
      go (inl h) = zeros h
      go (inr h) = test (eqb due 0) refl
        where
          test : (x : Bool) → eqb due 0 ≡ x → SlotBack pool xs input b k 0 0 0 at due r
          test true q = zeros (eqb-true _ _ q)
          test false q =
              let c = stands xs at h.0 h.1 (e ∙ h.2) in
              let d : eqb (byte xs at) k ≡ false = ne_eqb _ _ (λ z. h.3 (sym c.here ∙ z)) in
              stays (simp (q, lt-leb _ _ c.inside, d)) (simp (q, d))
  slot_back {w} {s} {n} (present p) k at due r e a =
      let nm = name pool s n in
      let c = stands xs at k (nm ++ r) e in
      let back = name_back p input xs r b (at + 1) inp c.rest in
      let some : 1 + due ≡ 0 → ⊥ = λ z. omega arith in
      let here : eqb (byte xs at) k ≡ true = eq-eqb _ _ c.here in
      let place : at + 1 + length nm ≡ at + suc (length nm) = omega arith in
      let fewer : 1 + due - 1 ≡ due = omega arith in
      record {
        scans = simp (ne_eqb _ _ some, lt-leb _ _ c.inside, here)
            (ap (λ l. onward (past (at + 1) l) (λ next m. Fine next (1 + due - 1))) back.scans ∙ (λ i. Fine (place i) (fewer i)));
        after = ap (λ i. drop i xs) (sym place) ∙ behind xs (at + 1) (length nm) nm r c.rest refl;
        start = b + (at + 1 + length (unsigned n));
        fills = simp (ne_eqb _ _ some, here) (ap (λ l. 1 ∷ l) back.fills);
        says = back.says;
      }

-- ---- lead, name and count

-- the lead and the name, and the count where there are options
abbrev pub head_of : ℕ → List ℕ → List ℕ
head_of n nm = cond (eqb n 0) (0x00 ∷ nm) (0x02 ∷ (nm ++ n ∷ []))

abbrev option_mark : ℕ → ℕ → Mark
option_mark g n = cond (eqb n 0) Clear (cond (ltb g 3) (At 0) Clear)

module _ {pool : List ℕ} {s size : ℕ} (p : NameRight pool s size) (input xs : List ℕ) (b : ℕ) (inp : drop b input ≡ xs)
    (n : ℕ) (small : n ≤ 3) (r : List ℕ) (e : xs ≡ head_of n (name pool s size) ++ r) where
  -- the name stands behind the lead
  lead_name : (lead : ℕ) (more : List ℕ) → xs ≡ lead ∷ (name pool s size ++ more)
      → (byte xs 0 ≡ lead) × (leb (length xs) 0 ≡ false) × NameBack pool input xs b 1 s size
      × (drop (1 + length (name pool s size)) xs ≡ more)
  lead_name lead more w =
      let c = stands xs 0 lead (name pool s size ++ more) w in (
        c.here,
        lt-leb (length xs) 0 c.inside,
        name_back p input xs more b 1 inp c.rest,
        behind xs 1 (length (name pool s size)) (name pool s size) more c.rest refl,
      )

  string : NameBack pool input xs b 1 s size → string_at xs 1 0 ≡ Fine (1 + length (name pool s size)) 0
  string k = ap (λ l. onward (past 1 l) (λ next m. Fine next 0)) k.scans

  head_name : NameBack pool input xs b 1 s size
  head_name = go (eqb n 0) e
    where
      go : (t : Bool) → xs ≡ cond t (0x00 ∷ name pool s size) (0x02 ∷ (name pool s size ++ n ∷ [])) ++ r → NameBack pool input xs b 1 s size
      go true w = (lead_name 0x00 r w).2
      go false w = (lead_name 0x02 (n ∷ r) (w ∙ ap (λ l. 0x02 ∷ l) (append_assoc (name pool s size) (n ∷ []) r))).2

  head_scans : (g : ℕ) → head_scan g xs ≡ answer (option_mark g n) (length (head_of n (name pool s size))) n
  unfolding head_scan count_at
  head_scans g = go (eqb n 0) refl e
    where
      nm : List ℕ
      nm = name pool s size

      go : (t : Bool) → eqb n 0 ≡ t → xs ≡ cond t (0x00 ∷ nm) (0x02 ∷ (nm ++ n ∷ [])) ++ r
          → head_scan g xs ≡ answer (cond t Clear (cond (ltb g 3) (At 0) Clear)) (length (cond t (0x00 ∷ nm) (0x02 ∷ (nm ++ n ∷ [])))) n
      go true q w =
          let k = lead_name 0x00 r w in
          let z : 0 ≡ n = sym (eqb-true n 0 q) in
          let one : 1 + length nm ≡ suc (length nm) = omega arith in
          simp (k.1, k.0) (string k.2 ∙ (λ i. Fine (one i) (z i)))
      go false q w =
          let k = lead_name 0x02 (n ∷ r) (w ∙ ap (λ l. 0x02 ∷ l) (append_assoc nm (n ∷ []) r)) in
          simp (k.1, k.0) (newer (ltb g 3) (ap (λ l. onward l (λ at due. count_at xs at)) (string k.2) ∙ count k.3))
        where
          last : ℕ
          last = suc (length (nm ++ n ∷ []))

          newer : (t : Bool) → onward (string_at xs 1 0) (λ at due. count_at xs at) ≡ Fine last n
              → cond t (Bad Newer 0) (onward (string_at xs 1 0) (λ at due. count_at xs at)) ≡ answer (cond t (At 0) Clear) last n
          newer true h = refl
          newer false h = h

          count : drop (1 + length nm) xs ≡ n ∷ r → count_at xs (1 + length nm) ≡ Fine last n
          count d =
              let at = 1 + length nm in
              let found : take_unsigned (drop at xs) ≡ taken.Value n 1 = ap (λ l. take_unsigned l) d ∙ take-one u32 n r (omega arith) in
              let four : n < 4 = omega arith in
              let long : at + 1 ≡ last = omega (arith, length-append nm (n ∷ [])) in
              ap (λ r. counted (length xs) r at) found ∙ simp (q, lt-ltb n 4 four) (ap (λ i. Fine i n) long)

-- ---- the whole

slot-long : (k at : ℕ) (bs : List ℕ) (l : Leaf) → length (fill_slot k at bs l) ≡ 3
unfolding fill_slot fill_name
slot-long k at bs (Err fault) = refl
slot-long k at bs (Ok span) = go (eqb span.made 0) (eqb (byte bs span.took) k)
  where
    go : (x y : Bool) → length (cond x (0 ∷ 0 ∷ 0 ∷ []) (cond y (1 ∷ fill_name at bs (span.took + 1)) (0 ∷ 0 ∷ 0 ∷ []))) ≡ 3
    go true y = refl
    go false true = refl
    go false false = refl

pub extern_long : (g at : ℕ) (bs : List ℕ) → length (fill_extern g at bs) ≡ 11
unfolding fill_extern fill_slots fill_name
extern_long g at bs =
    let a = fill_slot 0x00 at bs (head_scan g bs) in
    let b = fill_slot 0x01 at bs (first_scan g bs) in
    let c = fill_slot 0x02 at bs (second_scan g bs) in
    let la = slot-long 0x00 at bs (head_scan g bs) in
    let lb = slot-long 0x01 at bs (first_scan g bs) in
    let lc = slot-long 0x02 at bs (second_scan g bs) in
    omega (arith, length-append a (b ++ c), length-append b c)

pub no_slot : (w : ℕ) (l : List ℕ) → flag w ≡ 0 → cond (eqb w 0) [] l ≡ []
unfolding flag
no_slot w l = go (eqb w 0)
  where
    go : (t : Bool) → ◌≡◌ {A = ℕ} (cond t 0x00 0x01) 0 → cond t [] l ≡ []
    go true h = refl
    go false h = absurd (omega arith)

pub head_and_slots : (n : ℕ) (nm slots : List ℕ) → (n ≡ 0 → slots ≡ [])
    → cond (eqb n 0) (0x00 ∷ nm) ((0x02 ∷ nm) ++ (n ∷ slots)) ≡ head_of n nm ++ slots
head_and_slots n nm slots h = go (eqb n 0) refl
  where
    go : (t : Bool) → eqb n 0 ≡ t → cond t (0x00 ∷ nm) ((0x02 ∷ nm) ++ (n ∷ slots)) ≡ cond t (0x00 ∷ nm) (0x02 ∷ (nm ++ n ∷ [])) ++ slots
    go true q = ap (λ l. 0x00 ∷ l) (sym (append-nil nm) ∙ ap (λ l. nm ++ l) (sym (h (eqb-true n 0 q))))
    go false q = ap (λ l. 0x02 ∷ l) (sym (append_assoc nm (n ∷ []) slots))

pub extern_back : (lead g : ℕ) (pool input ws : List ℕ) → Words ws → ExternRight pool ws → (rest : List ℕ) (b : ℕ)
    → drop b input ≡ externname pool ws ++ rest → Back lead g pool input field.ExternName ws rest b
unfolding externname slots_at slot_at slots scan fill bytes mark view said wide scan_extern first_scan second_scan end_scan fill_extern fill_slots
extern_back lead g pool input ws fw right rest b inp = go (option_mark g n) refl scanned
  where
    nm : List ℕ
    nm = name pool (word ws 0) (word ws 1)

    n : ℕ
    n = flag (word ws 2) + (flag (word ws 5) + flag (word ws 8))

    xs : List ℕ
    xs = externname pool ws ++ rest

    o₂ : List ℕ
    o₂ = slot_of pool 0x00 (word ws 2) (word ws 3) (word ws 4)

    o₅ : List ℕ
    o₅ = slot_of pool 0x01 (word ws 5) (word ws 6) (word ws 7)

    o₈ : List ℕ
    o₈ = slot_of pool 0x02 (word ws 8) (word ws 9) (word ws 10)

    empty : n ≡ 0 → o₂ ++ (o₅ ++ o₈) ≡ []
    empty z =
        let a = no_slot (word ws 2) (0x00 ∷ name pool (word ws 3) (word ws 4)) (omega arith) in
        let c = no_slot (word ws 5) (0x01 ∷ name pool (word ws 6) (word ws 7)) (omega arith) in
        let d = no_slot (word ws 8) (0x02 ∷ name pool (word ws 9) (word ws 10)) (omega arith) in
        λ i. a i ++ (c i ++ d i)

    split : externname pool ws ≡ head_of n nm ++ (o₂ ++ (o₅ ++ o₈))
    split = head_and_slots n nm (o₂ ++ (o₅ ++ o₈)) empty

    r₅ : List ℕ
    r₅ = o₅ ++ (o₈ ++ rest)

    parts : xs ≡ head_of n nm ++ (o₂ ++ r₅)
    parts =
        ap (λ l. l ++ rest) split ∙ append_assoc (head_of n nm) (o₂ ++ (o₅ ++ o₈)) rest
        ∙ ap (λ l. head_of n nm ++ l) (append_assoc o₂ (o₅ ++ o₈) rest ∙ ap (λ l. o₂ ++ l) (append_assoc o₅ o₈ rest))

    few : n ≤ 3
    few = omega (arith, flag_small (word ws 2), flag_small (word ws 5), flag_small (word ws 8))

    itself : NameRight pool (word ws 0) (word ws 1)
    itself = name_right pool ws 0 fw right.itself

    h : ℕ
    h = length (head_of n nm)

    scanned : head_scan g xs ≡ answer (option_mark g n) h n
    scanned = head_scans itself input xs b inp n few (o₂ ++ r₅) parts g

    go : (m : Mark) → option_mark g n ≡ m → head_scan g xs ≡ answer m h n → Back lead g pool input field.ExternName ws rest b
    go (At j) em s =
        record {
          scans =
              ap (λ l. onward (onward (onward (onward l (slot_scan 0x00 xs)) (slot_scan 0x01 xs)) (slot_scan 0x02 xs)) (end_scan xs)) s
              ∙ ap (λ m. answer m (length (externname pool ws)) 11) (sym em);
          fills = extern_long g b xs;
          says = λ c more. impossible cc;
          same = λ c more. impossible cc;
        }
    go Clear em s =
        let p₂ = slot_right pool ws 2 fw right.implements in
        let p₅ = slot_right pool ws 5 fw right.suffix in
        let p₈ = slot_right pool ws 8 fw right.id in
        let f₅ = flag (word ws 5) in
        let f₈ = flag (word ws 8) in
        let a₅ = h + length o₂ in
        let a₈ = a₅ + length o₅ in
        let dh : drop h xs ≡ o₂ ++ r₅ = ap (λ l. drop h l) parts ∙ drop_at (head_of n nm) (o₂ ++ r₅) h refl in
        let g₂ = slot_back pool xs input b inp p₂ 0x00 h (f₅ + (f₈ + 0)) r₅ dh
        (ahead p₅ 0 1 (f₈ + 0) (o₈ ++ rest) (omega arith) (ahead p₈ 0 2 0 rest (omega arith) (inl refl))) in
        let g₅ = slot_back pool xs input b inp p₅ 0x01 a₅ (f₈ + 0) (o₈ ++ rest) g₂.after (ahead p₈ 1 2 0 rest (omega arith) (inl refl)) in
        let g₈ = slot_back pool xs input b inp p₈ 0x02 a₈ 0 rest g₅.after (inl refl) in
        let en : n ≡ flag (word ws 2) + (f₅ + (f₈ + 0)) = omega arith in
        let s₀ : head_scan g xs ≡ Fine h (flag (word ws 2) + (f₅ + (f₈ + 0))) = s ∙ ap (λ n. Fine h n) en in
        let s₁ : first_scan g xs ≡ Fine a₅ (f₅ + (f₈ + 0)) = ap (λ l. onward l (slot_scan 0x00 xs)) s₀ ∙ g₂.scans in
        let s₂ : second_scan g xs ≡ Fine a₈ (f₈ + 0) = ap (λ l. onward l (slot_scan 0x01 xs)) s₁ ∙ g₅.scans in
        let s₃ : onward (second_scan g xs) (slot_scan 0x02 xs) ≡ Fine (a₈ + length o₈) 0 = ap (λ l. onward l (slot_scan 0x02 xs)) s₂ ∙ g₈.scans in
        let long : a₈ + length o₈ ≡ length (externname pool ws) =
        omega (arith, ap length split, length-append (head_of n nm) (o₂ ++ (o₅ ++ o₈)), length-append o₂ (o₅ ++ o₈), length-append o₅ o₈) in
        let v₀ = head_name itself input xs b inp n few (o₂ ++ r₅) parts in
        let w₂ = ap (λ l. fill_slot 0x00 b xs l) s₀ ∙ g₂.fills in
        let w₅ = ap (λ l. fill_slot 0x01 b xs l) s₁ ∙ g₅.fills in
        let w₈ = ap (λ l. fill_slot 0x02 b xs l) s₂ ∙ g₈.fills in
        let words : fill_extern g b xs ≡
        ((b + (1 + length (unsigned (word ws 1)))) ∷ word ws 1 ∷ [])
        ++ ((word ws 2 ∷ g₂.start ∷ word ws 4 ∷ []) ++ ((word ws 5 ∷ g₅.start ∷ word ws 7 ∷ []) ++ (word ws 8 ∷ g₈.start ∷ word ws 10 ∷ []))) =
        λ i. v₀.fills i ++ (w₂ i ++ (w₅ i ++ w₈ i)) in
        let c₂ = g₂.says in
        let c₅ = g₅.says in
        let c₈ = g₈.says in
        let c₀ = v₀.says in
        record {
          scans =
              ap (λ l. onward l (end_scan xs)) s₃
              ∙ ap (λ k. Fine k 11) long
              ∙ ap (λ m. answer m (length (externname pool ws)) 11) (sym em);
          fills = extern_long g b xs;
          says = λ c more.
              ap (λ l. view input field.ExternName (l ++ more)) words
              ∙ (λ i. (word ws 1 ∷ c₀ i)
              ++ ((word ws 2 ∷ word ws 4 ∷ c₂ i) ++ ((word ws 5 ∷ word ws 7 ∷ c₅ i) ++ (word ws 8 ∷ word ws 10 ∷ c₈ i))));
          same = λ c more.
              ap (λ l. said input field.ExternName (l ++ more)) words
              ∙ (λ i. Name (word ws 1) (c₀ i) ∷ Word (word ws 2) ∷ Name (word ws 4) (c₂ i) ∷ Word (word ws 5) ∷ Name (word ws 7) (c₅ i)
              ∷ Word (word ws 8) ∷ Name (word ws 10) (c₈ i) ∷ []);
        }
