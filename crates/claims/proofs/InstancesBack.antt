-- Core instances and instances: what was written is read back, or refused at its first byte above the grade; and what is accepted is
-- written again beside its own bytes.
use Rattle.std.specs.Prelude.{Ok}
use Prim.Native.Nat.{ℕ, ◌^◌, ◌≤◌, ◌<◌}
use native.Mathlib.Omega.{arith}
use mathlib.Core.Path.{◌≡◌, refl}
use mathlib.Core.Bool.{Bool, true, false, cond}
use mathlib.Core.List.{List, ◌++◌}
use lib.Dec.{eqb}
use lib.ListN.{length, take, drop}
use Rattle.numbers.specs.Bytes.{Bytes}
use Rattle.fields.specs.Read.{Item}
use Rattle.fields.specs.Answers.{left_row}
use Rattle.fields.specs.Words.{word, Words}
use Rattle.reading.specs.Scan.{byte}
use Rattle.round_trip.specs.Returned.{ReadsBack}
use Rattle.round_trip.proofs.ItemLaws.{WrittenAgain, written_again}
use Rattle.writing.specs.Agree.{All}
use Rattle.writing.specs.Row.{row_bytes}
use Rattle.writing.proofs.WholeLaws.{accepted}
use Rattle.instances.specs.Table.{core_table, table}
use Rattle.instances.specs.Write.{core_shape_of, shape_of, measured_core_instance, measured_instance}
use Rattle.instances.proofs.Rows.{core_instance-row, instance_row}
use Rattle.instance_items.specs.ReadInstance.{core_kind_of, kind_of, read_core_instance, read_instance}
use Rattle.claims.specs.Demand3.{core_instance_mark, instance_mark}
use Rattle.claims.proofs.KindBack.{Begins, begins_in, by_kind_back}

-- ---- the first byte of a line's production tells its kind

core_begin : All (Begins core_kind_of) core_table
unfolding core_kind_of
core_begin = ((λ pool ws rest. (refl, omega arith)), ((λ pool ws rest. (refl, omega arith)), tt))

instances-begin : All (Begins kind_of) table
unfolding kind_of
instances-begin = ((λ pool ws rest. (refl, omega arith)), ((λ pool ws rest. (refl, omega arith)), tt))

-- ---- reading

pub core_instance-back : (g : ℕ) (row pool : List ℕ) (m : ℕ) → Words row → measured_core_instance row pool ≡ Ok m
    → (rest input room : List ℕ) → input ≡ row_bytes (core_shape_of (word row 0)) pool row ++ rest → 1 ≤ g → g ≤ 3 → length input ≤ 2 ^ 30
    → ReadsBack (core_shape_of (word row 0)) (core_instance_mark g pool row) pool row input room m (read_core_instance g input room)
unfolding measured_core_instance read_core_instance core_instance_mark
core_instance-back g row pool m fw e rest input room q any top short =
    let a = accepted (core_shape_of (word row 0)) row pool m e in
    by_kind_back core_shape_of (λ k. 1) core_kind_of g row pool m fw e rest input room q any top short
    (rw (core_instance-row row pool m e).as_production (begins_in core_kind_of core_table core_begin (word row 0) a.shape a.is pool (drop 1 row) rest))

pub instance_back : (g : ℕ) (row pool : List ℕ) (m : ℕ) → Words row → measured_instance row pool ≡ Ok m
    → (rest input room : List ℕ) → input ≡ row_bytes (shape_of (word row 0)) pool row ++ rest → 1 ≤ g → g ≤ 3 → length input ≤ 2 ^ 30
    → ReadsBack (shape_of (word row 0)) (instance_mark g pool row) pool row input room m (read_instance g input room)
unfolding measured_instance read_instance instance_mark
instance_back g row pool m fw e rest input room q any top short =
    let a = accepted (shape_of (word row 0)) row pool m e in
    by_kind_back shape_of (λ k. 1) kind_of g row pool m fw e rest input room q any top short
    (rw (instance_row row pool m e).as_production (begins_in kind_of table instances-begin (word row 0) a.shape a.is pool (drop 1 row) rest))

-- ---- written again

core_small : (b : ℕ) → core_kind_of b < 2 ^ 32
unfolding core_kind_of
core_small b = go (eqb b 0x00) (eqb b 0x01)
  where
    go : (p q : Bool) → cond p 18 (cond q 20 0) < 2 ^ 32
    go true q = omega arith
    go false true = omega arith
    go false false = omega arith

pub core_instance-only : (g : ℕ) (input room after : List ℕ) (q e : ℕ) → Bytes input → 1 ≤ g → read_core_instance g input room ≡ left_row (Item q e) after
    → e ≤ 65536 → WrittenAgain (core_shape_of (word (take q after) 0)) 1 g input (take e input) (take q after)
unfolding read_core_instance
core_instance-only g input room after q e fi any r few =
    written_again core_shape_of (λ k. 1) (core_kind_of (byte input 0)) g input room after q e fi any (core_small (byte input 0)) r few

small : (b : ℕ) → kind_of b < 2 ^ 32
unfolding kind_of
small b = go (eqb b 0x00) (eqb b 0x01)
  where
    go : (p q : Bool) → cond p 19 (cond q 21 0) < 2 ^ 32
    go true q = omega arith
    go false true = omega arith
    go false false = omega arith

pub instance_only : (g : ℕ) (input room after : List ℕ) (q e : ℕ) → Bytes input → 1 ≤ g → read_instance g input room ≡ left_row (Item q e) after
    → e ≤ 65536 → WrittenAgain (shape_of (word (take q after) 0)) 1 g input (take e input) (take q after)
unfolding read_instance
instance_only g input room after q e fi any r few =
    written_again shape_of (λ k. 1) (kind_of (byte input 0)) g input room after q e fi any (small (byte input 0)) r few
