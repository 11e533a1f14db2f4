-- `types::first::by_first` meets its contract: each arm is a line of the table (`ArmLaws`), and what it stores is what its shape says.
use native.Mathlib.Omega.{arith}
use mathlib.Core.Path.{◌∙◌, refl}
use mathlib.Core.List.{◌∷◌, []}
use Rattle.fields.specs.declared.Field.TheVariants as field
use Rattle.fields.specs.Words.{wide}
use Rattle.fields.specs.Shape.{widths}
use Rattle.items.specs.inside.Group.{group_one, group_two}
use Rattle.items.proofs.ArmLaws.{told_words, two-arm, many-arm, async_absent, async_newer, async_not, rest_arm, record_arm, variant_arm, list_arm, map-arm, fixed_arm, tuple_arm, flags_arm, enum_arm, option_arm, result_arm, own_arm, borrow_arm, future_arm, stream_arm, function-arm, async_arm, resource_arm, arm_tried}
use Rattle.items.proofs.first.by_first.Goals as goal

pub store_item-requires : goal.store_item-requires
unfolding widths wide
store_item-requires c =
    let a = c.args in
    told_words a.grade a.input.now (field.Value ∷ field.Nothing ∷ []) 1 (omega arith) (omega arith) _ _ c.value_item.ensures

pub store_item-requires-in-99 : goal.store_item-requires-in-99
unfolding widths wide
store_item-requires-in-99 c =
    let a = c.args in
    told_words a.grade a.input.now (field.Value ∷ field.Value ∷ []) 1 (omega arith) (omega arith) _ _ c.values_item.ensures

pub store_item-requires-in-103 : goal.store_item-requires-in-103
unfolding widths wide
store_item-requires-in-103 c =
    let a = c.args in
    told_words a.grade a.input.now (field.Value ∷ field.Index ∷ []) 1 (omega arith) (omega arith) _ _ c.fixed_item.ensures

pub store_item-requires-in-107 : goal.store_item-requires-in-107
unfolding widths wide
store_item-requires-in-107 c =
    let a = c.args in
    told_words a.grade a.input.now (field.Value ∷ field.Nothing ∷ []) 1 (omega arith) (omega arith) _ _ c.value_item-in-107.ensures

pub store_item-requires-in-106 : goal.store_item-requires-in-106
unfolding widths wide
store_item-requires-in-106 c =
    let a = c.args in
    told_words a.grade a.input.now (field.Optional ∷ field.Optional ∷ []) 1 (omega arith) (omega arith) _ _ c.optionals_item.ensures

pub store_item-requires-in-105 : goal.store_item-requires-in-105
unfolding widths wide
store_item-requires-in-105 c =
    let a = c.args in
    told_words a.grade a.input.now (field.Index ∷ field.Nothing ∷ []) 1 (omega arith) (omega arith) _ _ (c.index_item.ensures a.grade)

pub store_item-requires-in-104 : goal.store_item-requires-in-104
unfolding widths wide
store_item-requires-in-104 c =
    let a = c.args in
    told_words a.grade a.input.now (field.Index ∷ field.Nothing ∷ []) 1 (omega arith) (omega arith) _ _ (c.index_item-in-104.ensures a.grade)

pub store_item-requires-in-101 : goal.store_item-requires-in-101
unfolding widths wide
store_item-requires-in-101 c =
    let a = c.args in
    told_words a.grade a.input.now (field.Optional ∷ field.Nothing ∷ []) 1 (omega arith) (omega arith) _ _ c.optional_item.ensures

pub store_item-requires-in-102 : goal.store_item-requires-in-102
unfolding widths wide
store_item-requires-in-102 c =
    let a = c.args in
    told_words a.grade a.input.now (field.Optional ∷ field.Nothing ∷ []) 1 (omega arith) (omega arith) _ _ c.optional_item-in-102.ensures

pub read_function-requires-clause-input_nonzero : goal.read_function-requires-clause-input_nonzero
read_function-requires-clause-input_nonzero c =
    let a = c.args in
    (c.requires.input_nonzero.0, c.requires.input_nonzero.1)

pub read_function-requires-clause-input_value : goal.read_function-requires-clause-input_value
read_function-requires-clause-input_value c =
    let a = c.args in
    async_absent a.grade a.input.now c.requires.input_nonzero.0 (c.requires.input_nonzero.2 ∙ c.in-64.is)

pub returns-then-grade-lt2 : goal.returns-then-grade-lt2
returns-then-grade-lt2 c =
    let a = c.args in
    async_not a.grade a.input.now _ c.requires.input_nonzero.0 c.in-67.is c.requires.input_nonzero.2 c.if-grade-lt2.true

pub read_function-requires-in-67 : goal.read_function-requires-in-67
read_function-requires-in-67 c =
    let a = c.args in
    record {
      input_nonzero = (c.requires.input_nonzero.0, c.requires.input_nonzero.1);
      input_value = async_newer a.grade a.input.now c.requires.input_nonzero.0 (c.requires.input_nonzero.2 ∙ c.in-67.is) c.if-grade-lt2.false;
    }

pub store_item-requires-in-63 : goal.store_item-requires-in-63
unfolding widths wide
store_item-requires-in-63 c =
    let a = c.args in
    told_words a.grade a.input.now (field.Rep ∷ field.OptionalIndex ∷ []) 1 (omega arith) (omega arith) _ _ (c.resource_item.ensures a.grade c.requires.le_grade.0)

pub store_item-requires-in_default : goal.store_item-requires-in_default
unfolding widths wide
store_item-requires-in_default c =
    let a = c.args in
    told_words a.grade a.input.now (field.Primitive ∷ field.Nothing ∷ []) 0 (omega arith) (omega arith) _ _ c.primitive_item.ensures

pub returns-in-114 : goal.returns-in-114
unfolding group_one group_two
returns-in-114 c =
    let a = c.args in
    c.read_counted.ensures
    ∙ many-arm record_arm refl refl c.in-114.is a.grade a.input.now c.requires.input_nonzero.0 c.requires.input_nonzero.2 c.requires.le_grade.1 _

pub returns-in-113 : goal.returns-in-113
unfolding group_one group_two
returns-in-113 c =
    let a = c.args in
    c.read_counted-in-113.ensures
    ∙ many-arm variant_arm refl refl c.in-113.is a.grade a.input.now c.requires.input_nonzero.0 c.requires.input_nonzero.2 c.requires.le_grade.1 _

pub returns-in-112 : goal.returns-in-112
unfolding widths wide
returns-in-112 c =
    let a = c.args in
    c.store_item.ensures
    ∙ two-arm list_arm c.in-112.is a.grade a.input.now c.requires.input_nonzero.0 c.requires.input_nonzero.2 c.requires.le_grade.1 (tt, (tt, tt))
    (omega arith) _ _ c.value_item.ensures

pub returns-in-99 : goal.returns-in-99
unfolding widths wide
returns-in-99 c =
    let a = c.args in
    c.store_item-in-99.ensures
    ∙ two-arm map-arm c.in-99.is a.grade a.input.now c.requires.input_nonzero.0 c.requires.input_nonzero.2 c.requires.le_grade.1 (tt, (tt, tt))
    (omega arith) _ _ c.values_item.ensures

pub returns-in-103 : goal.returns-in-103
unfolding widths wide
returns-in-103 c =
    let a = c.args in
    c.store_item-in-103.ensures
    ∙ two-arm fixed_arm c.in-103.is a.grade a.input.now c.requires.input_nonzero.0 c.requires.input_nonzero.2 c.requires.le_grade.1 (tt, (tt, tt))
    (omega arith) _ _ c.fixed_item.ensures

pub returns-in-111 : goal.returns-in-111
unfolding group_one group_two
returns-in-111 c =
    let a = c.args in
    c.read_counted-in-111.ensures
    ∙ many-arm tuple_arm refl refl c.in-111.is a.grade a.input.now c.requires.input_nonzero.0 c.requires.input_nonzero.2 c.requires.le_grade.1 _

pub returns-in-110 : goal.returns-in-110
unfolding group_one group_two
returns-in-110 c =
    let a = c.args in
    c.read_counted-in-110.ensures
    ∙ many-arm flags_arm refl refl c.in-110.is a.grade a.input.now c.requires.input_nonzero.0 c.requires.input_nonzero.2 c.requires.le_grade.1 _

pub returns-in-109 : goal.returns-in-109
unfolding group_one group_two
returns-in-109 c =
    let a = c.args in
    c.read_counted-in-109.ensures
    ∙ many-arm enum_arm refl refl c.in-109.is a.grade a.input.now c.requires.input_nonzero.0 c.requires.input_nonzero.2 c.requires.le_grade.1 _

pub returns-in-107 : goal.returns-in-107
unfolding widths wide
returns-in-107 c =
    let a = c.args in
    c.store_item-in-107.ensures
    ∙ two-arm option_arm c.in-107.is a.grade a.input.now c.requires.input_nonzero.0 c.requires.input_nonzero.2 c.requires.le_grade.1 (tt, (tt, tt))
    (omega arith) _ _ c.value_item-in-107.ensures

pub returns-in-106 : goal.returns-in-106
unfolding widths wide
returns-in-106 c =
    let a = c.args in
    c.store_item-in-106.ensures
    ∙ two-arm result_arm c.in-106.is a.grade a.input.now c.requires.input_nonzero.0 c.requires.input_nonzero.2 c.requires.le_grade.1 (tt, (tt, tt))
    (omega arith) _ _ c.optionals_item.ensures

pub returns-in-105 : goal.returns-in-105
unfolding widths wide
returns-in-105 c =
    let a = c.args in
    c.store_item-in-105.ensures
    ∙ two-arm own_arm c.in-105.is a.grade a.input.now c.requires.input_nonzero.0 c.requires.input_nonzero.2 c.requires.le_grade.1 (tt, (tt, tt))
    (omega arith) _ _ (c.index_item.ensures a.grade)

pub returns-in-104 : goal.returns-in-104
unfolding widths wide
returns-in-104 c =
    let a = c.args in
    c.store_item-in-104.ensures
    ∙ two-arm borrow_arm c.in-104.is a.grade a.input.now c.requires.input_nonzero.0 c.requires.input_nonzero.2 c.requires.le_grade.1 (tt, (tt, tt))
    (omega arith) _ _ (c.index_item-in-104.ensures a.grade)

pub returns-in-101 : goal.returns-in-101
unfolding widths wide
returns-in-101 c =
    let a = c.args in
    c.store_item-in-101.ensures
    ∙ two-arm future_arm c.in-101.is a.grade a.input.now c.requires.input_nonzero.0 c.requires.input_nonzero.2 c.requires.le_grade.1 (tt, (tt, tt))
    (omega arith) _ _ c.optional_item.ensures

pub returns-in-102 : goal.returns-in-102
unfolding widths wide
returns-in-102 c =
    let a = c.args in
    c.store_item-in-102.ensures
    ∙ two-arm stream_arm c.in-102.is a.grade a.input.now c.requires.input_nonzero.0 c.requires.input_nonzero.2 c.requires.le_grade.1 (tt, (tt, tt))
    (omega arith) _ _ c.optional_item-in-102.ensures

pub returns-in-64 : goal.returns-in-64
returns-in-64 c =
    let a = c.args in
    c.read_function.ensures ∙ arm_tried function-arm c.in-64.is a.grade a.input.now _

pub returns-else-grade-lt2 : goal.returns-else-grade-lt2
returns-else-grade-lt2 c =
    let a = c.args in
    c.read_function-in-67.ensures ∙ arm_tried async_arm c.in-67.is a.grade a.input.now _

pub returns-in-63 : goal.returns-in-63
unfolding widths wide
returns-in-63 c =
    let a = c.args in
    c.store_item-in-63.ensures
    ∙ two-arm resource_arm c.in-63.is a.grade a.input.now c.requires.input_nonzero.0 c.requires.input_nonzero.2 c.requires.le_grade.1 (tt, (tt, tt))
    (omega arith) _ _ (c.resource_item.ensures a.grade c.requires.le_grade.0)

pub returns-in_default : goal.returns-in_default
returns-in_default c =
    let a = c.args in
    c.store_item-in_default.ensures
    ∙ rest_arm a.grade a.input.now _ c.requires.input_nonzero.0 a.first c.requires.input_nonzero.2 _ c.primitive_item.ensures
    c.in_default.in_default-own.rest.0.0.0.0.0.0.0.0.0.0.0.0.0.0.0.0.1 c.in_default.in_default-own.rest.0.0.0.0.0.0.0.0.0.0.0.0.0.0.0.1 c.in_default.in_default-own.rest.0.0.0.0.0.0.0.0.0.0.0.0.0.0.1 c.in_default.in_default-own.rest.0.0.0.0.0.0.0.0.0.0.0.0.0.1 c.in_default.in_default-own.rest.0.0.0.0.0.0.0.0.0.0.0.0.1 c.in_default.in_default-own.rest.0.0.0.0.0.0.0.0.0.0.0.1 c.in_default.in_default-own.rest.0.0.0.0.0.0.0.0.0.0.1 c.in_default.in_default-own.rest.0.0.0.0.0.0.0.0.0.1 c.in_default.in_default-own.rest.0.0.0.0.0.0.0.0.1 c.in_default.in_default-own.rest.0.0.0.0.0.0.0.1 c.in_default.in_default-own.rest.0.0.0.0.0.0.1 c.in_default.in_default-own.rest.0.0.0.0.0.1 c.in_default.in_default-own.rest.0.0.0.0.1 c.in_default.in_default-own.rest.0.0.0.1 c.in_default.in_default-own.rest.0.0.1 c.in_default.in_default-own.rest.0.1 c.in_default.in_default-own.rest.1
