-- No second outcome meets the contract of a public call: the clauses name one value, and an outcome is read off it.
use Prim.Native.Nat.{ℕ, ◌%◌}
use native.Mathlib.Omega.{arith}
use mathlib.Core.Path.{◌≡◌, refl, sym, ◌∙◌, ap}
use mathlib.Core.Logic.{∥∥₁_elim, ∥∥₁_map}
use mathlib.Core.HLevel.{⊥_prop}
use mathlib.Core.List.{List, [], ◌∷◌}
use base.Logic.{ent}
use contract.Monad.{conj, conj_l, conj_r, fact, fact_i, fact_use}
use denote.Ref.{Bor}
use borrow.Fn.World.{World, w₀}
use Rattle.numbers.specs.Bytes.{part_of}
use Rattle.numbers.specs.contracts.bytes.part as call-part
use Rattle.canonicals.specs.inside.Class.{shape_for}
use Rattle.claims.specs.One.{OneOutcome}
use Rattle.claims.specs.OneCalls.{NoSecondOutcome}
use Rattle.claims.proofs.ClassOne.{one_class}

-- of two values that are the same third, what one determines the other does
pub one : (w : World) {S R : Type 0} {b c v : S} (f : S → R)
    → ent w.𝓤 (conj w.𝓤 (fact w.𝓤 (b ≡ v)) (fact w.𝓤 (c ≡ v))) (fact w.𝓤 (f b ≡ f c))
one w {b = b} {c} {v} f =
    let both = conj w.𝓤 (fact w.𝓤 (b ≡ v)) (fact w.𝓤 (c ≡ v)) in
    fact_use w.𝓤 (b ≡ v) (conj_l w.𝓤 (fact w.𝓤 (b ≡ v)) (fact w.𝓤 (c ≡ v))) (λ p.
    fact_use w.𝓤 (c ≡ v) (conj_r w.𝓤 (fact w.𝓤 (b ≡ v)) (fact w.𝓤 (c ≡ v))) (λ q.
    fact_i w.𝓤 (f b ≡ f c) both (ap f (p ∙ sym q))))

-- of two values of which a third is made alike, where it is made of one alone
pub one_by : (w : World) {S R T : Type 0} {b c : R} {v : S} (make : R → S) → ((b c : R) → make b ≡ make c → b ≡ c) → (f : R → T)
    → ent w.𝓤 (conj w.𝓤 (fact w.𝓤 (v ≡ make b)) (fact w.𝓤 (v ≡ make c))) (fact w.𝓤 (f b ≡ f c))
one_by w {b = b} {c} {v} make alone f =
    let both = conj w.𝓤 (fact w.𝓤 (v ≡ make b)) (fact w.𝓤 (v ≡ make c)) in
    fact_use w.𝓤 (v ≡ make b) (conj_l w.𝓤 (fact w.𝓤 (v ≡ make b)) (fact w.𝓤 (v ≡ make c))) (λ p.
    fact_use w.𝓤 (v ≡ make c) (conj_r w.𝓤 (fact w.𝓤 (v ≡ make b)) (fact w.𝓤 (v ≡ make c))) (λ q.
    fact_i w.𝓤 (f b ≡ f c) both (ap f (alone b c (sym p ∙ q)))))

-- the bytes 61 61 at the front of a block, and the first byte or the second as a part of one byte
abbrev twice : Bor (List ℕ)
twice = record { ref_ptr = (0, 0); now = 0x61 ∷ 0x61 ∷ [] }

abbrev byte_at : ℕ → Bor (List ℕ)
byte_at p = record { ref_ptr = (0, p); now = 0x61 ∷ [] }

pub part-two : OneOutcome call-part.ended (λ M 𝓤. call-part.clauses) → ⊥
unfolding part_of
part-two h =
    ∥∥₁_elim
    ((h w₀ ([], tt) (twice, (0, (1, tt))) tt (byte_at 0, (tt, (tt, (tt, tt)))) (byte_at 1, (tt, (tt, (tt, tt))))).apply w₀.𝓤.one
    (∣ (refl, tt) ∣₁, ∣ (refl, tt) ∣₁))
    ⊥_prop (λ t. let z : ◌≡◌ {A = ℕ} 0 1 = ap (λ x. x.0.ref_ptr.1) t.0 in omega arith)

pub no_second_outcome : NoSecondOutcome
no_second_outcome = record {
  copy = λ w κs a g x y. one w (λ l. (l.answer, (tt, (tt, (l.buffer, tt)))));
  stored_size = λ w κs a g x y. one w (λ l. (l, (tt, tt)));
  unsigned_size = λ w κs a g x y. one w (λ l. (l, (tt, tt)));
  signed_size = λ w κs a g x y. one w (λ l. (l, (tt, tt)));
  put_unsigned = λ w κs a g x y. one w (λ l. (l.answer, (tt, (tt, (l.buffer, tt)))));
  put_signed = λ w κs a g x y. one w (λ l. (l.answer, (tt, (tt, (l.buffer, tt)))));
  take_unsigned = λ w κs a g x y. one w (λ l. (l, (tt, tt)));
  take_signed = λ w κs a g x y. one w (λ l. (l, (tt, tt)));
  seen_unsigned = λ w κs a g x y. one w (λ l. (l, (tt, tt)));
  seen_signed = λ w κs a g x y. one w (λ l. (l, (tt, tt)));
  short_signed = λ w κs a g x y. one w (λ l. (l, (tt, tt)));
  is_text = λ w κs a g x y. one w (λ l. (l, (tt, tt)));
  spelling_of = λ w κs a g x y. one w (λ l. (l, (tt, tt)));
  grade_of = λ w κs a g x y. one w (λ l. (l, (tt, (tt, tt))));
  is_indexed = λ w κs a g x y. one w (λ l. (l, (tt, tt)));
  kind_of = λ w κs a g x y. one w (λ l. (l, (tt, tt)));
  two_of = λ w κs a g x y. one w (λ l. (l, (tt, (tt, (tt, (tt, tt))))));
  many_of = λ w κs a g x y. one w (λ l. (l, (tt, (tt, (tt, (tt, (tt, (tt, tt))))))));
  measure_row = λ w κs a g x y. one w (λ l. (l, (tt, (tt, (tt, tt)))));
  number_of = λ w κs a g x y. one w (λ l. (l, (tt, tt)));
  offset_of = λ w κs a g x y. one w (λ l. (l, (tt, tt)));
  byte_of = λ w κs a g x y. one w (λ l. (l, (tt, tt)));
  measure_shape = λ w κs a g x y. one w (λ l. (l, (tt, (tt, (tt, (tt, tt))))));
  first_of = λ w κs a g x y. one w (λ l. (l, (tt, tt)));
  item_refusal = λ w κs a g x y. one w (λ l. (l, (tt, (tt, (tt, (tt, tt))))));
  fits = λ w κs a g x y. one w (λ l. (l, (tt, (tt, (tt, tt)))));
  value_size = λ w κs a g x y. one w (λ l. (l, (tt, (tt, tt))));
  name_size = λ w κs a g x y. one w (λ l. (l, (tt, (tt, (tt, tt)))));
  put_value = λ w κs a g x y. one w (λ l. (l.answer, (tt, (tt, (tt, (l.buffer, tt))))));
  put_name = λ w κs a g x y. one w (λ l. (l.answer, (tt, (tt, (tt, (tt, (l.buffer, tt)))))));
  extern_size = λ w κs a g x y. one w (λ l. (l, (tt, (tt, tt))));
  put_extern = λ w κs a g x y. one w (λ l. (l.answer, (tt, (tt, (tt, (l.buffer, tt))))));
  read_primitive = λ w κs a g x y. one w (λ l. (l, (tt, (tt, tt))));
  read_value = λ w κs a g x y. one w (λ l. (l, (tt, (tt, tt))));
  read_optional = λ w κs a g x y. one w (λ l. (l, (tt, (tt, tt))));
  read_result = λ w κs a g x y. one w (λ l. (l, (tt, (tt, tt))));
  read_name = λ w κs a g x y. one w (λ l. (l, (tt, tt)));
  is_within = λ w κs a g x y. one w (λ l. (l, (tt, (tt, (tt, tt)))));
  has_room = λ w κs a g x y. one w (λ l. (l, (tt, (tt, tt))));
  shape_of_type = λ w κs a g x y. one w (λ l. (l, (tt, tt)));
  measure_type = λ w κs a g x y. one w (λ l. (l, (tt, (tt, tt))));
  write_type = λ w κs a g x y. one w (λ l. (l.answer, (tt, (tt, (l.buffer, (tt, tt))))));
  read_type = λ w κs a g x y. one w (λ l. (l.answer, (tt, (tt, (l.row, tt)))));
  write_head = λ w κs a g x y. one w (λ l. (l.answer, (tt, (tt, (l.buffer, (tt, tt))))));
  write_result = λ w κs a g x y. one w (λ l. (l.answer, (tt, (tt, (l.buffer, (tt, tt))))));
  shape_of_import = λ w κs a g x y. one w (λ l. (l, (tt, tt)));
  measure_import = λ w κs a g x y. one w (λ l. (l, (tt, (tt, tt))));
  write_import = λ w κs a g x y. one w (λ l. (l.answer, (tt, (tt, (l.buffer, (tt, tt))))));
  read_import = λ w κs a g x y. one w (λ l. (l.answer, (tt, (tt, (l.row, tt)))));
  class_of = λ w κs a g x y. one_by w (λ c. shape_for c (a.0 % 256)) (one_class (a.0 % 256)) (λ l. (l, (tt, tt)));
  shape_of_canonical = λ w κs a g x y. one w (λ l. (l, (tt, tt)));
  measure_canonical = λ w κs a g x y. one w (λ l. (l, (tt, (tt, tt))));
  write_canonical = λ w κs a g x y. one w (λ l. (l.answer, (tt, (tt, (l.buffer, (tt, tt))))));
  shape_of_core_instance = λ w κs a g x y. one w (λ l. (l, (tt, tt)));
  shape_of_instance = λ w κs a g x y. one w (λ l. (l, (tt, tt)));
  measure_core_instance = λ w κs a g x y. one w (λ l. (l, (tt, (tt, tt))));
  write_core_instance = λ w κs a g x y. one w (λ l. (l.answer, (tt, (tt, (l.buffer, (tt, tt))))));
  measure_instance = λ w κs a g x y. one w (λ l. (l, (tt, (tt, tt))));
  write_instance = λ w κs a g x y. one w (λ l. (l.answer, (tt, (tt, (l.buffer, (tt, tt))))));
  read_canonical = λ w κs a g x y. one w (λ l. (l.answer, (tt, (tt, (l.row, tt)))));
  read_core_instance = λ w κs a g x y. one w (λ l. (l.answer, (tt, (tt, (l.row, tt)))));
  read_instance = λ w κs a g x y. one w (λ l. (l.answer, (tt, (tt, (l.row, tt)))));
  write_by = λ w κs a g x y. one w (λ l. (l.answer, (tt, (tt, (tt, (l.buffer, (tt, tt)))))));
  new = λ w κs a g x y. one w (λ l. (l, (tt, tt)));
  row = λ w κs a g x y. one w (λ l. (l.gave, (tt, (tt, (tt, (l.body, tt))))));
  open_entry = λ w κs a g x y. one w (λ l. (l.gave, (tt, (l.body, tt))));
  head = λ w κs a g x y. one w (λ l. (l.gave, (tt, (tt, (tt, (l.body, tt))))));
  result = λ w κs a g x y. one w (λ l. (l.gave, (tt, (tt, (tt, (l.body, tt))))));
  abandon = λ w κs a g x y. one w (λ l. (l.gave, (tt, (l.body, tt))));
  finish = λ w κs a g x y. one w (λ l. (l.answer, (tt, (tt, (l.buffer, tt)))));
  sheet = λ w κs a g x y. one w (λ l. (l.answer, (tt, (l.body, (l.out, tt)))));
  lent_row = λ w κs a g x y. one w (λ l. (l.gave.answer, (l.gave.section, (tt, (tt, (l.body, tt))))));
  lent_open = λ w κs a g x y. one w (λ l. (l.gave.answer, (l.gave.section, (l.body, tt))));
  lent_head = λ w κs a g x y. one w (λ l. (l.gave.answer, (l.gave.section, (tt, (tt, (l.body, tt))))));
  lent_result = λ w κs a g x y. one w (λ l. (l.gave.answer, (l.gave.section, (tt, (tt, (l.body, tt))))));
  lent_abandon = λ w κs a g x y. one w (λ l. (l.gave.answer, (l.gave.section, (l.body, tt))));
  lent_finish = λ w κs a g x y. one w (λ l. (l.answer, (tt, (tt, (l.buffer, tt)))));
  tb_sheet = λ w κs a g x y. one w (λ l. (l.reply, (tt, (l.body, (l.out, tt)))));
  tb_read_type = λ w κs a g x y. one w (λ l. (l.reply, (tt, (tt, (l.row, tt)))));
  tb_read_import = λ w κs a g x y. one w (λ l. (l.reply, (tt, (tt, (l.row, tt)))));
  tb_row = λ w κs a g x y. one w (λ l. (l.reply, (l.state, (tt, (tt, (l.body, tt))))));
  tb_open = λ w κs a g x y. one w (λ l. (l.reply, (l.state, (l.body, tt))));
  tb_head = λ w κs a g x y. one w (λ l. (l.reply, (l.state, (tt, (tt, (l.body, tt))))));
  tb_result = λ w κs a g x y. one w (λ l. (l.reply, (l.state, (tt, (tt, (l.body, tt))))));
  tb_abandon = λ w κs a g x y. one w (λ l. (l.reply, (l.state, (l.body, tt))));
  tb_finish = λ w κs a g x y. one w (λ l. (l.reply, (tt, (tt, (l.out, tt)))));
  say = λ w κs a g x y. one w (λ l. (l, (tt, (tt, tt))));
  say_line = λ w κs a g x y. one w (λ l. (l, (tt, (tt, tt))));
  say_number = λ w κs a g x y. one w (λ l. (l, (tt, (tt, tt))));
  say_field = λ w κs a g x y. one w (λ l. (l, (tt, (tt, (tt, tt)))));
  say_count = λ w κs a g x y. one w (λ l. (l, (tt, (tt, (tt, (tt, tt))))));
  say_bytes = λ w κs a g x y. one w (λ l. (l, (tt, (tt, tt))));
  say_name = λ w κs a g x y. one w (λ l. (l, (tt, (tt, tt))));
  say_meaning = λ w κs a g x y. one w (λ l. (l, (tt, (tt, tt))));
  say_byte = λ w κs a g x y. one w (λ l. (l, (tt, (tt, tt))));
  say_refusal = λ w κs a g x y. one w (λ l. (l, (tt, (tt, (tt, tt)))));
  starts_with = λ w κs a g x y. one w (λ l. (l, (tt, (tt, tt))));
  next_of = λ w κs a g x y. one w (λ l. (l, (tt, (tt, (tt, tt)))));
  size_after = λ w κs a g x y. one w (λ l. (l, (tt, (tt, tt))));
  number_at = λ w κs a g x y. one w (λ l. (l, (tt, (tt, tt))));
  words_of = λ w κs a g x y. one w (λ l. (l.count, (tt, (l.row, tt))));
  word = λ w κs a g x y. one w (λ l. (l, (tt, (tt, tt))));
  word_of = λ w κs a g x y. one w (λ l. (l, (tt, tt)));
  pattern = λ w κs a g x y. one w (λ l. (l, (tt, (tt, tt))));
  fill = λ w κs a g x y. one w (λ l. (tt, (l, (tt, tt))));
  is_kept = λ w κs a g x y. one w (λ l. (l, (tt, (tt, (tt, (tt, tt))))));
  end_line = λ w κs a g x y. one w (λ l. (l, (tt, (tt, tt))));
  part = λ w κs a g x y. one w (λ l. l);
  part_is_an_exception = part-two;
  plainly = λ T C h κs a g x y m p q. ∥∥₁_map ((h w₀ κs a g x y).apply m (p, q)) (λ t. t.0);
  write_type_tied = λ w. refl;
  row_tied = λ w. refl;
}
