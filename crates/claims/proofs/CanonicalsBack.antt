-- Canonicals: what was written is read back, or refused at its first byte above the grade; and what is accepted is written again beside
-- its own bytes. A lift goes by its bytes' order (`LiftBack`).
use Rattle.std.specs.Prelude.{Option, Some, None, Ok}
use Prim.Native.Nat.{ℕ, ◌+◌, ◌-◌, ◌^◌, ◌≤◌, ◌<◌}
use native.Mathlib.Omega.{arith}
use mathlib.Core.Path.{◌≡◌, refl, sym, ap, ◌∙◌, subst}
use mathlib.Core.Bool.{Bool, true, false, cond}
use mathlib.Core.Logic.{inl}
use mathlib.Core.List.{List, [], ◌∷◌, ◌++◌, append-nil}
use borrow.Author.Tests.{eqb-true, eqb-false, ne_eqb, eq-eqb, lt-ltb, le-ltb, ltb-true, ltb-false}
use lib.Dec.{eqb, ltb}
use lib.ListN.{length, take, drop}
use Rattle.numbers.specs.Bytes.{Bytes}
use Rattle.fields.specs.declared.Field.{Field}
use Rattle.fields.specs.declared.Field.TheVariants as field
use Rattle.fields.specs.Read.{Item}
use Rattle.fields.specs.Answers.{left_row}
use Rattle.fields.specs.declared.Shape.{Shape}
use Rattle.fields.specs.declared.Site.TheVariants.{CanonLead}
use Rattle.fields.specs.Grades as grades
use Rattle.fields.specs.Grades.{grade_of, fixed_byte}
use Rattle.fields.specs.Shape.{plan, seq, counts, closing}
use Rattle.fields.specs.Table.{Line, shape_in, production_in}
use Rattle.fields.specs.View.{view}
use Rattle.fields.specs.Walk.{Plan, end, step}
use Rattle.fields.specs.Words.{word, wide, Words}
use Rattle.reading.specs.Read.{read_item}
use Rattle.reading.specs.Scan.{byte}
use Rattle.round_trip.specs.Mark.{Clear, At, mark, ahead, first_mark, row_mark, SameItem}
use Rattle.round_trip.specs.Padded.{Padded}
use Rattle.round_trip.specs.Returned.{ReadBack, ReadsBack}
use Rattle.round_trip.proofs.ItemLaws.{WrittenAgain, item-only}
use Rattle.writing.specs.Agree.{All}
use Rattle.writing.specs.Binary.{bytes}
use Rattle.writing.specs.Row.{measured_row, row_bytes}
use Rattle.writing.proofs.RowLaws.{row_held}
use Rattle.writing.proofs.WholeLaws.{accepted}
use Rattle.canonicals.specs.Table.{table, lift_shape, lift_bytes, lift}
use Rattle.canonicals.specs.Write.{shape_of, measured_canonical, canonical_bytes}
use Rattle.canonicals.specs.inside.Class.{Lifted, lifted_size}
use Rattle.canonicals.proofs.LiftedLaws.{lift-sized}
use Rattle.canonicals.proofs.Rows.{canonical_row}
use Rattle.canonical_items.specs.ReadCanonical.{lead_grade, read_lift, read_canonical}
use Rattle.claims.specs.Demand3.{SameBy, type_last, canonical_mark, Marking}
use Rattle.claims.proofs.MarkLaws.{shape_marks, table_marks, of_table, row_mark_lem}
use Rattle.claims.proofs.KindBack.{Begins, begins_in, by_kind_back}
use Rattle.claims.proofs.LiftBack.{in_row, in_bytes, lift-rows, lift_is, lift_known, lift_made, lift_long, lift_back, same_row, lift_only}
use Rattle.numbers.proofs.Impossible.{impossible}

canonicals-begin : All (Begins (λ b. 256 + b)) table
canonicals-begin = ((λ pool ws rest. (refl, omega arith)), ((λ pool ws rest. (refl, omega arith)), ((λ pool ws rest. (refl, omega arith)), ((λ pool ws rest. (refl, omega arith)), ((λ pool ws rest. (refl, omega arith)), ((λ pool ws rest. (refl, omega arith)), ((λ pool ws rest. (refl, omega arith)), ((λ pool ws rest. (refl, omega arith)), ((λ pool ws rest. (refl, omega arith)), ((λ pool ws rest. (refl, omega arith)), ((λ pool ws rest. (refl, omega arith)), ((λ pool ws rest. (refl, omega arith)), ((λ pool ws rest. (refl, omega arith)), ((λ pool ws rest. (refl, omega arith)), ((λ pool ws rest. (refl, omega arith)), ((λ pool ws rest. (refl, omega arith)), ((λ pool ws rest. (refl, omega arith)), ((λ pool ws rest. (refl, omega arith)), ((λ pool ws rest. (refl, omega arith)), ((λ pool ws rest. (refl, omega arith)), ((λ pool ws rest. (refl, omega arith)), ((λ pool ws rest. (refl, omega arith)), ((λ pool ws rest. (refl, omega arith)), ((λ pool ws rest. (refl, omega arith)), ((λ pool ws rest. (refl, omega arith)), ((λ pool ws rest. (refl, omega arith)), ((λ pool ws rest. (refl, omega arith)), ((λ pool ws rest. (refl, omega arith)), ((λ pool ws rest. (refl, omega arith)), ((λ pool ws rest. (refl, omega arith)), ((λ pool ws rest. (refl, omega arith)), ((λ pool ws rest. (refl, omega arith)), ((λ pool ws rest. (refl, omega arith)), ((λ pool ws rest. (refl, omega arith)), ((λ pool ws rest. (refl, omega arith)), ((λ pool ws rest. (refl, omega arith)), ((λ pool ws rest. (refl, omega arith)), ((λ pool ws rest. (refl, omega arith)), ((λ pool ws rest. (refl, omega arith)), ((λ pool ws rest. (refl, omega arith)), ((λ pool ws rest. (refl, omega arith)), tt)))))))))))))))))))))))))))))))))))))))))

-- a row of kind 256 that has a size
as_lift : (row pool : List ℕ) (m : ℕ) → word row 0 ≡ 256 → measured_canonical row pool ≡ Ok m
    → row ≡ in_row 256 (word row 1) (word row 2) (word row 3) (drop 4 row)
unfolding measured_canonical
as_lift row pool m kind e =
    let e' : measured_row (Some lift_shape) row pool ≡ Ok m = subst (λ x. measured_row (shape_of x) row pool ≡ Ok m) kind e in
    lift-rows row (row_held lift_shape row pool e').width ∙ ap (λ x. in_row x (word row 1) (word row 2) (word row 3) (drop 4 row)) kind

-- ---- read back

-- a lift
lift-case : (g f t n : ℕ) (os pool : List ℕ) (m : ℕ) → Words (in_row 256 f t n os) → measured_canonical (in_row 256 f t n os) pool ≡ Ok m
    → (rest input room : List ℕ) → input ≡ canonical_bytes pool (in_row 256 f t n os) ++ rest → 1 ≤ g → g ≤ 3 → length input ≤ 2 ^ 30
    → ReadsBack (shape_of 256) (canonical_mark g pool (in_row 256 f t n os)) pool (in_row 256 f t n os) input room m (read_canonical g input room)
unfolding measured_canonical canonical_bytes canonical_mark type_last read_canonical lift
lift-case g f t n os pool m fw e rest input room q any top short =
    let h = lift_is 256 f t n os pool e in
    let size : Ok (2 + lifted_size (in_row 256 f t n os)) ≡ Ok m = sym (lift-sized (in_row 256 f t n os) pool h) ∙ e in
    let same : 2 + lifted_size (in_row 256 f t n os) ≡ m = cc in
    let zero : byte input 0 ≡ 0 = ap (λ l. byte l 0) q in
    record {
      shape = lift_shape;
      is = refl;
      reads = simp (eq-eqb _ _ zero)
          (subst (λ s. ReadBack (row_mark (Some lift_bytes) 1 g pool (in_bytes 256 f t n os)) lift_shape pool (in_row 256 f t n os) input room s (read_lift g input room))
          same (lift_back g f t n os pool fw h rest input room q any top short));
    }

-- a canonical of the table
line-mark : (g : ℕ) (row pool : List ℕ) → eqb (word row 0) 256 ≡ false
    → canonical_mark g pool row ≡ row_mark (shape_of (word row 0)) (lead_grade (word row 0)) g pool row
unfolding canonical_mark
line-mark g row pool other =
    ap (λ b. cond b (row_mark (Some lift_bytes) 1 g pool (type_last row)) (row_mark (shape_of (word row 0)) (lead_grade (word row 0)) g pool row)) other

line-case : (g : ℕ) (row pool : List ℕ) (m : ℕ) → eqb (word row 0) 256 ≡ false → Words row → measured_canonical row pool ≡ Ok m
    → (rest input room : List ℕ) → input ≡ canonical_bytes pool row ++ rest → 1 ≤ g → g ≤ 3 → length input ≤ 2 ^ 30
    → ReadsBack (shape_of (word row 0)) (canonical_mark g pool row) pool row input room m (read_canonical g input room)
unfolding measured_canonical canonical_bytes read_canonical
line-case g row pool m other fw e rest input room q any top short =
    let in_table : shape_of (word row 0) ≡ shape_in table (word row 0) = simp other in
    let e' : measured_row (shape_in table (word row 0)) row pool ≡ Ok m = sym (ap (λ s. measured_row s row pool) in_table) ∙ e in
    let as_bytes : cond (eqb (word row 0) 256) (lift (drop 1 row)) (row_bytes (shape_in table (word row 0)) pool row) ≡ row_bytes (shape_of (word row 0)) pool row
    = simp other in
    let q' : input ≡ row_bytes (shape_of (word row 0)) pool row ++ rest = q ∙ ap (λ l. l ++ rest) as_bytes in
    let a = accepted (shape_in table (word row 0)) row pool m e' in
    let made : row_bytes (shape_of (word row 0)) pool row ≡ production_in table (word row 0) pool (drop 1 row)
    = ap (λ s. row_bytes s pool row) in_table ∙ (canonical_row row pool m e').as_production in
    let begins = begins_in (λ b. 256 + b) table canonicals-begin (word row 0) a.shape a.is pool (drop 1 row) rest in
    let first : (256 + byte (row_bytes (shape_of (word row 0)) pool row ++ rest) 0 ≡ word row 0) × (1 ≤ length (row_bytes (shape_of (word row 0)) pool row))
    = subst (λ bs. (256 + byte (bs ++ rest) 0 ≡ word row 0) × (1 ≤ length bs)) (sym made) begins in
    let kind : 256 + byte input 0 ≡ word row 0 = ap (λ l. 256 + byte l 0) q' ∙ first.0 in
    let none : byte input 0 ≡ 0 → ⊥ = λ z. eqb-false (word row 0) 256 other (omega (arith, kind, z)) in
    let read_is : read_canonical g input room
    ≡ read_item (shape_of (256 + byte input 0)) (256 + byte input 0) (lead_grade (256 + byte input 0)) g input room
    = ap
    (λ b. cond b (read_lift g input room) (read_item (shape_of (256 + byte input 0)) (256 + byte input 0) (lead_grade (256 + byte input 0)) g input room))
    (ne_eqb (byte input 0) 0 none) in
    subst (λ mk. ReadsBack (shape_of (word row 0)) mk pool row input room m (read_canonical g input room)) (sym (line-mark g row pool other))
    (subst (λ r. ReadsBack (shape_of (word row 0)) (row_mark (shape_of (word row 0)) (lead_grade (word row 0)) g pool row) pool row input room m r) (sym read_is)
    (by_kind_back shape_of lead_grade (λ b. 256 + b) g row pool m fw e rest input room q' any top short first))

pub canonical_back : (g : ℕ) (row pool : List ℕ) (m : ℕ) → Words row → measured_canonical row pool ≡ Ok m
    → (rest input room : List ℕ) → input ≡ canonical_bytes pool row ++ rest → 1 ≤ g → g ≤ 3 → length input ≤ 2 ^ 30
    → ReadsBack (shape_of (word row 0)) (canonical_mark g pool row) pool row input room m (read_canonical g input room)
unfolding measured_canonical
canonical_back g row pool m fw e rest input room q any top short = go (eqb (word row 0) 256) refl
  where
    go : (b : Bool) → eqb (word row 0) 256 ≡ b
        → ReadsBack (shape_of (word row 0)) (canonical_mark g pool row) pool row input room m (read_canonical g input room)
    go true k =
        let kind = eqb-true (word row 0) 256 k in
        let is = as_lift row pool m kind e in
        subst (λ r. ReadsBack (shape_of (word r 0)) (canonical_mark g pool r) pool r input room m (read_canonical g input room)) (sym is)
        (lift-case g (word row 1) (word row 2) (word row 3) (drop 4 row) pool m (subst Words is fw)
        (subst (λ r. measured_canonical r pool ≡ Ok m) is e) rest input room (subst (λ r. input ≡ canonical_bytes pool r ++ rest) is q) any top short)
    go false k = line-case g row pool m k fw e rest input room q any top short

-- ---- written again

-- a canonical that was read, and the bytes that were taken
pub record CanonicalAgain (g : ℕ) (input taken row : List ℕ) : Type 0 where
  pub small : Words row
  pub clear : canonical_mark g taken row ≡ Clear
  pub accepts : measured_canonical row taken ≡ Ok (length (canonical_bytes taken row))
  pub again : Padded taken (canonical_bytes taken row)
  pub same : (other pool : List ℕ) (m : ℕ) → measured_canonical other pool ≡ Ok m → SameBy (shape_of (word other 0)) pool other input row
      → canonical_bytes taken row ≡ canonical_bytes pool other

-- the same item is of the same kind
same_kind : (found : Option Shape) (pool other input row : List ℕ) → SameBy found pool other input row → word row 0 ≡ word other 0
same_kind (Some s) pool other input row same = same.kind
same_kind None pool other input row same = absurd same

-- a lift that is the same item has the same words
lift-same : (f t n : ℕ) (os input taken : List ℕ) → Lifted (in_row 256 f t n os) taken → (other pool : List ℕ) (m : ℕ) → measured_canonical other pool ≡ Ok m
    → SameBy (shape_of (word other 0)) pool other input (in_row 256 f t n os) → canonical_bytes taken (in_row 256 f t n os) ≡ canonical_bytes pool other
unfolding measured_canonical canonical_bytes
lift-same f t n os input taken h other pool m e same =
    let kind : word other 0 ≡ 256 = sym (same_kind (shape_of (word other 0)) pool other input (in_row 256 f t n os) same) in
    let is = as_lift other pool m kind e in
    let o = lift_is 256 (word other 1) (word other 2) (word other 3) (drop 4 other) pool (subst (λ r. measured_canonical r pool ≡ Ok m) is e) in
    let item : SameItem lift_shape pool (in_row 256 (word other 1) (word other 2) (word other 3) (drop 4 other)) input (in_row 256 f t n os)
    = subst (λ r. SameItem lift_shape pool r input (in_row 256 f t n os)) is
    (subst (λ x. SameBy (shape_of x) pool other input (in_row 256 f t n os)) kind same) in
    let long = item.long in
    let words = same_row pool input (word other 1) (word other 2) (word other 3) (drop 4 other) f t n os (omega (arith, o.width)) (omega (arith, long)) item.says in
    ap lift words
    ∙ ap (λ r. cond (eqb (word r 0) 256) (lift (drop 1 r)) (row_bytes (shape_in table (word r 0)) pool r)) (sym is)

lift-again : (g : ℕ) (input room after : List ℕ) (q e : ℕ) → Bytes input → read_lift g input room ≡ left_row (Item q e) after → e ≤ 65536
    → CanonicalAgain g input (take e input) (take q after)
unfolding measured_canonical canonical_bytes canonical_mark type_last
lift-again g input room after q e fi r few =
    let l = lift_only g input room after q e fi r few in
    let f = l.function in
    let t = l.type in
    let n = l.count in
    let os = l.options in
    let taken = take e input in
    subst (λ row. CanonicalAgain g input taken row) (sym l.is)
    (record {
      small = l.small;
      clear = l.clear;
      accepts = lift-sized (in_row 256 f t n os) taken l.right ∙ ap Ok (lift_long 256 f t n os taken l.right);
      again = l.again;
      same = lift-same f t n os input taken l.right;
    })

line_same : (found : Option Shape) (lead g : ℕ) (input taken row other pool : List ℕ) (m : ℕ) → shape_of (word other 0) ≡ found → word row 0 ≡ word other 0
    → WrittenAgain (shape_of (word row 0)) lead g input taken row → measured_row (shape_of (word other 0)) other pool ≡ Ok m
    → SameBy found pool other input row → row_bytes (shape_of (word row 0)) taken row ≡ row_bytes (shape_of (word other 0)) pool other
line_same (Some s) lead g input taken row other pool m is kind o a same =
    o.same s (ap shape_of kind ∙ is) pool other m (ap (λ k. measured_row (shape_of k) other pool) kind ∙ a) same
    ∙ ap (λ k. row_bytes (shape_of k) pool other) kind
line_same None lead g input taken row other pool m is kind o a same = absurd same

line-again : (g : ℕ) (input room after : List ℕ) (q e : ℕ) → Bytes input → 1 ≤ g → (byte input 0 ≡ 0 → ⊥)
    → read_item (shape_of (256 + byte input 0)) (256 + byte input 0) (lead_grade (256 + byte input 0)) g input room ≡ left_row (Item q e) after → e ≤ 65536
    → CanonicalAgain g input (take e input) (take q after)
unfolding measured_canonical canonical_bytes
line-again g input room after q e fi any some r few =
    let k = 256 + byte input 0 in
    let taken = take e input in
    let row = take q after in
    let b = fi 0 in
    let o = item-only (shape_of k) k (lead_grade k) g input room after q e fi any (omega (arith, b)) r few in
    let kind = o.0 in
    let w : WrittenAgain (shape_of (word row 0)) (lead_grade (word row 0)) g input taken row
    = subst (λ x. WrittenAgain (shape_of x) (lead_grade x) g input taken row) (sym kind) o.1 in
    let other : eqb (word row 0) 256 ≡ false = ne_eqb (word row 0) 256 (λ z. some (omega (arith, kind, z))) in
    let as_bytes : cond (eqb (word row 0) 256) (lift (drop 1 row)) (row_bytes (shape_in table (word row 0)) taken row) ≡ row_bytes (shape_of (word row 0)) taken row
    = simp other in
    record {
      small = w.small;
      clear = line-mark g row taken other ∙ w.clear;
      accepts = w.accepts ∙ ap (λ bs. Ok (length bs)) (sym as_bytes);
      again = subst (λ bs. Padded taken bs) (sym as_bytes) w.again;
      same = λ x pool m a same.
          let alike : word row 0 ≡ word x 0 = same_kind (shape_of (word x 0)) pool x input row same in
          let not : eqb (word x 0) 256 ≡ false = subst (λ z. eqb z 256 ≡ false) alike other in
          let theirs : cond (eqb (word x 0) 256) (lift (drop 1 x)) (row_bytes (shape_in table (word x 0)) pool x) ≡ row_bytes (shape_of (word x 0)) pool x
          = simp not in
          as_bytes ∙ line_same (shape_of (word x 0)) (lead_grade (word row 0)) g input taken row x pool m refl alike w a same ∙ sym theirs;
    }

pub canonical_only : (g : ℕ) (input room after : List ℕ) (q e : ℕ) → Bytes input → 1 ≤ g → read_canonical g input room ≡ left_row (Item q e) after → e ≤ 65536
    → CanonicalAgain g input (take e input) (take q after)
unfolding read_canonical
canonical_only g input room after q e fi any r few = go (eqb (byte input 0) 0) refl r
  where
    go : (b : Bool) → eqb (byte input 0) 0 ≡ b
        → cond b (read_lift g input room) (read_item (shape_of (256 + byte input 0)) (256 + byte input 0) (lead_grade (256 + byte input 0)) g input room)
        ≡ left_row (Item q e) after
        → CanonicalAgain g input (take e input) (take q after)
    go true t r = lift-again g input room after q e fi r few
    go false t r = line-again g input room after q e fi any (eqb-false (byte input 0) 0 t) r few

-- ---- NEWER's place

-- where the lead is not above the grade, only options mark
canonicals-mark : table_marks 8 (λ k. 1) table ≡ true
canonicals-mark = refl

-- a line begins with the byte of its kind
abbrev Leads : Line → Type 0
Leads l = l.shape.lead ≡ field.Fixed (l.kind - 256)

canonicals_lead : All Leads table
canonicals_lead = (refl, (refl, (refl, (refl, (refl, (refl, (refl, (refl, (refl, (refl, (refl, (refl, (refl, (refl, (refl, (refl, (refl, (refl, (refl, (refl, (refl, (refl, (refl, (refl, (refl, (refl, (refl, (refl, (refl, (refl, (refl, (refl, (refl, (refl, (refl, (refl, (refl, (refl, (refl, (refl, (refl, tt)))))))))))))))))))))))))))))))))))))))))

lead_in : (ls : List Line) → All Leads ls → (k : ℕ) (s : Shape) → shape_in ls k ≡ Some s → s.lead ≡ field.Fixed (k - 256)
unfolding shape_in
lead_in [] a k s f = impossible cc
lead_in (l ∷ ls) a k s f = go (eqb k l.kind) refl f (lead_in ls a.1 k s)
  where
    go : (b : Bool) → eqb k l.kind ≡ b → cond b (Some l.shape) (shape_in ls k) ≡ Some s → (shape_in ls k ≡ Some s → s.lead ≡ field.Fixed (k - 256))
        → s.lead ≡ field.Fixed (k - 256)
    go true t f ih =
        let q : l.shape ≡ s = cc in
        sym (ap (λ x. x.lead) q) ∙ a.0 ∙ ap (λ x. field.Fixed (x - 256)) (sym (eqb-true k l.kind t))
    go false t f ih = ih f

-- a lead above the grade marks, and no byte stands before it
lead_first : (lead g : ℕ) (s : Shape) (b : ℕ) (pool row : List ℕ) → s.lead ≡ field.Fixed b → g < lead → row_mark (Some s) lead g pool row ≡ At 0
unfolding row_mark first_mark mark seq
lead_first lead g s b pool row is above =
    ap (λ f. ahead (mark lead g f (drop 1 row)) 0
    (first_mark lead g pool (later s) (drop (wide f) (drop 1 row)) (0 + length (bytes pool f (drop 1 row))))) is
    ∙ simp (lt-ltb g lead above)
  where
    later : Shape → Plan
    later s = seq (s.zero ∷ s.first ∷ s.second ∷ []) (cond s.counted (counts s) (seq (closing s) end))

-- one that is not above it marks nothing
field_low : (lead g : ℕ) → lead ≤ g → 1 ≤ g → (f : Field) (ws : List ℕ) → mark lead g f ws ≡ mark 1 g f ws
unfolding mark
field_low lead g low any field.Nothing ws = refl
field_low lead g low any (field.Fixed b) ws = simp (le-ltb g lead low, le-ltb g 1 any)
field_low lead g low any field.Primitive ws = refl
field_low lead g low any field.Value ws = refl
field_low lead g low any field.Optional ws = refl
field_low lead g low any field.OptionalThenZero ws = refl
field_low lead g low any field.Result ws = refl
field_low lead g low any field.Name ws = refl
field_low lead g low any field.Index ws = refl
field_low lead g low any field.Async ws = refl
field_low lead g low any field.Flag ws = refl
field_low lead g low any field.Rep ws = refl
field_low lead g low any field.OptionalIndex ws = refl
field_low lead g low any field.Choice ws = refl
field_low lead g low any field.ExternName ws = refl
field_low lead g low any field.Reference ws = refl
field_low lead g low any field.Argument ws = refl
field_low lead g low any field.CoreSortIndex ws = refl
field_low lead g low any field.SortIndex ws = refl

plan-low : (lead g : ℕ) → lead ≤ g → 1 ≤ g → (pool : List ℕ) (p : Plan) (ws : List ℕ) (b : ℕ)
    → first_mark lead g pool p ws b ≡ first_mark 1 g pool p ws b
unfolding first_mark
plan-low lead g low any pool end ws b = refl
plan-low lead g low any pool (step f k) ws b =
    λ i. ahead (field_low lead g low any f ws i) b
    (plan-low lead g low any pool (k (view pool f ws)) (drop (wide f) ws) (b + length (bytes pool f ws)) i)

row_low : (lead g : ℕ) → lead ≤ g → 1 ≤ g → (found : Option Shape) (pool row : List ℕ) → row_mark found lead g pool row ≡ row_mark found 1 g pool row
unfolding row_mark
row_low lead g low any (Some s) pool row = plan-low lead g low any pool (plan s) (drop 1 row) 0
row_low lead g low any None pool row = refl

abbrev Newer : ℕ → ℕ → List ℕ → Type 0
Newer g j bs = (j < length bs) × Marking 8 g (byte bs j)

lift-newer : (f t n : ℕ) (os pool : List ℕ) (m : ℕ) → measured_canonical (in_row 256 f t n os) pool ≡ Ok m → (g j : ℕ) → 1 ≤ g
    → canonical_mark g pool (in_row 256 f t n os) ≡ At j → Newer g j (canonical_bytes pool (in_row 256 f t n os))
unfolding measured_canonical canonical_bytes canonical_mark type_last row_bytes
lift-newer f t n os pool m e g j any k =
    let h = lift_is 256 f t n os pool e in
    subst (Newer g j) (lift_made 256 f t n os pool h)
    (row_mark_lem 8 1 g any (Some lift_bytes) (in_bytes 256 f t n os) pool _ (lift_known 256 f t n os pool h)
    (λ s is. let same : lift_bytes ≡ s = cc in subst (λ x. shape_marks 8 1 x ≡ true) same refl) j k)

-- by whether the lead is above the grade
by_lead : (row pool : List ℕ) (m : ℕ) → measured_row (shape_of (word row 0)) row pool ≡ Ok m → (g j : ℕ) → 1 ≤ g → (s : Shape)
    → shape_of (word row 0) ≡ Some s → s.lead ≡ field.Fixed (word row 0 - 256) → 1 ≤ length (row_bytes (shape_of (word row 0)) pool row)
    → byte (row_bytes (shape_of (word row 0)) pool row) 0 ≡ word row 0 - 256 → lead_grade (word row 0) ≡ grade_of CanonLead (word row 0 - 256)
    → row_mark (shape_of (word row 0)) (lead_grade (word row 0)) g pool row ≡ At j
    → ((s : Shape) → shape_of (word row 0) ≡ Some s → shape_marks 8 1 s ≡ true)
    → (b : Bool) → ltb g (lead_grade (word row 0)) ≡ b → Newer g j (row_bytes (shape_of (word row 0)) pool row)
by_lead row pool m e g j any s is lead some begin grade marked tested true t =
    let above = ltb-true g (lead_grade (word row 0)) t in
    let zero : At 0 ≡ At j
    = sym (ap (λ f. row_mark f (lead_grade (word row 0)) g pool row) is ∙ lead_first (lead_grade (word row 0)) g s (word row 0 - 256) pool row lead above) ∙ marked in
    let at : 0 ≡ j = cc in
    subst (λ i. Newer g i (row_bytes (shape_of (word row 0)) pool row)) at
    (some, inl (subst (λ b. g < grade_of CanonLead b) (sym begin) (subst (λ n. g < n) grade above)))
by_lead row pool m e g j any s is lead some begin grade marked tested false t =
    row_mark_lem 8 1 g any (shape_of (word row 0)) row pool m e tested j
    (sym (row_low (lead_grade (word row 0)) g (ltb-false g (lead_grade (word row 0)) t) any (shape_of (word row 0)) pool row) ∙ marked)

line-newer : (row pool : List ℕ) (m : ℕ) → eqb (word row 0) 256 ≡ false → measured_canonical row pool ≡ Ok m → (g j : ℕ) → 1 ≤ g
    → canonical_mark g pool row ≡ At j → Newer g j (canonical_bytes pool row)
unfolding measured_canonical canonical_bytes lead_grade
line-newer row pool m other e g j any k =
    let in_table : shape_of (word row 0) ≡ shape_in table (word row 0) = simp other in
    let e' : measured_row (shape_in table (word row 0)) row pool ≡ Ok m = sym (ap (λ s. measured_row s row pool) in_table) ∙ e in
    let as_bytes : cond (eqb (word row 0) 256) (lift (drop 1 row)) (row_bytes (shape_in table (word row 0)) pool row) ≡ row_bytes (shape_of (word row 0)) pool row
    = simp other in
    let a = accepted (shape_in table (word row 0)) row pool m e' in
    let made : row_bytes (shape_of (word row 0)) pool row ≡ production_in table (word row 0) pool (drop 1 row)
    = ap (λ s. row_bytes s pool row) in_table ∙ (canonical_row row pool m e').as_production in
    let begins = begins_in (λ b. 256 + b) table canonicals-begin (word row 0) a.shape a.is pool (drop 1 row) [] in
    let first = subst (λ bs. (256 + byte (bs ++ []) 0 ≡ word row 0) × (1 ≤ length bs)) (sym made) begins in
    let begin : byte (row_bytes (shape_of (word row 0)) pool row) 0 ≡ word row 0 - 256
    = omega (arith, first.0, ap (λ l. byte l 0) (append-nil (row_bytes (shape_of (word row 0)) pool row))) in
    let lead = lead_in table canonicals_lead (word row 0) a.shape a.is in
    let is : shape_of (word row 0) ≡ Some a.shape = in_table ∙ a.is in
    let grade : grades.lead_grade CanonLead (shape_of (word row 0)) ≡ grade_of CanonLead (word row 0 - 256)
    = ap (λ f. grades.lead_grade CanonLead f) is ∙ ap (λ f. grade_of CanonLead (fixed_byte f)) lead in
    let marked = sym (line-mark g row pool other) ∙ k in
    subst (Newer g j) (sym as_bytes)
    (by_lead row pool m e g j any a.shape is lead first.1 begin grade marked (λ s f. of_table 8 (λ x. 1) table canonicals-mark (word row 0) s (sym in_table ∙ f))
    (ltb g (lead_grade (word row 0))) refl)

pub canonical_newer : (row pool : List ℕ) (m : ℕ) → measured_canonical row pool ≡ Ok m → (g j : ℕ) → 1 ≤ g → canonical_mark g pool row ≡ At j
    → (j < length (canonical_bytes pool row)) × Marking 8 g (byte (canonical_bytes pool row) j)
unfolding measured_canonical
canonical_newer row pool m e g j any k = go (eqb (word row 0) 256) refl
  where
    go : (b : Bool) → eqb (word row 0) 256 ≡ b → Newer g j (canonical_bytes pool row)
    go true t =
        let kind = eqb-true (word row 0) 256 t in
        let is = as_lift row pool m kind e in
        subst (λ r. Newer g j (canonical_bytes pool r)) (sym is)
        (lift-newer (word row 1) (word row 2) (word row 3) (drop 4 row) pool m (subst (λ r. measured_canonical r pool ≡ Ok m) is e) g j any
        (subst (λ r. canonical_mark g pool r ≡ At j) is k))
    go false t = line-newer row pool m t e g j any k
