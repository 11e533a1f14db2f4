-- `put_row` meets its contract: in each arm the row fits its kind's shape, and what is put are its bytes.
use mathlib.Core.Path.{sym, ap, ◌∙◌}
use Rattle.types.specs.Write.{shape_of}
use Rattle.writing.proofs.GroupLaws.{name_element, value_element, labelled_element, case_element}
use Rattle.writing.proofs.KindLaws.{put_as, put_not}
use Rattle.types.proofs.KindLaws.{as_kind, kind_other, kind_0, kind_1, kind_2, kind_3, kind_4, kind_5, kind_6, kind_7, kind_8, kind_9, kind_10, kind_11, kind_12, kind_13, kind_14, kind_15, kind_16, label-wide, value-wide, labelled_wide, case-wide, counted_fits, counted_bytes_lem, primitive_fits, primitive_bytes, value_fits, value_bytes, values_fits, values_bytes, fixed_fits, fixed_bytes, optionals_fits, optionals_bytes, index_fits, index_bytes, optional_fits, optional_bytes, resource_fits, resource_bytes, function_fits, function_bytes_lem}
use Rattle.types.proofs.straight.put_row.Goals as goal

pub put_primitive-requires : goal.put_primitive-requires
put_primitive-requires c =
    primitive_fits (as_kind kind_0 c.kind_of.ensures c.in-0.is) c.requires

pub put_record-requires-clause-row_len : goal.put_record-requires-clause-row_len
put_record-requires-clause-row_len c = (counted_fits labelled_wide (labelled_element _)
    (as_kind kind_1 c.kind_of.ensures c.in-1.is)
    c.requires).0

pub put_record-requires-clause-rights : goal.put_record-requires-clause-rights
put_record-requires-clause-rights c = (counted_fits labelled_wide (labelled_element _)
    (as_kind kind_1 c.kind_of.ensures c.in-1.is)
    c.requires).1.0

pub put_record-requires-clause-row_in_bounds : goal.put_record-requires-clause-row_in_bounds
put_record-requires-clause-row_in_bounds c = (counted_fits labelled_wide (labelled_element _)
    (as_kind kind_1 c.kind_of.ensures c.in-1.is)
    c.requires).1.1

pub put_variant-requires-clause-row_len : goal.put_variant-requires-clause-row_len
put_variant-requires-clause-row_len c = (counted_fits case-wide (case_element _) (as_kind kind_2 c.kind_of.ensures c.in-2.is) c.requires).0

pub put_variant-requires-clause-rights : goal.put_variant-requires-clause-rights
put_variant-requires-clause-rights c = (counted_fits case-wide (case_element _) (as_kind kind_2 c.kind_of.ensures c.in-2.is) c.requires).1.0

pub put_variant-requires-clause-row_in_bounds : goal.put_variant-requires-clause-row_in_bounds
put_variant-requires-clause-row_in_bounds c = (counted_fits case-wide (case_element _) (as_kind kind_2 c.kind_of.ensures c.in-2.is) c.requires).1.1

pub put_value_row-requires-clause-row_len : goal.put_value_row-requires-clause-row_len
put_value_row-requires-clause-row_len c = (value_fits (as_kind kind_3 c.kind_of.ensures c.in-3.is) c.requires).0

pub put_value_row-requires-clause-row_in_bounds : goal.put_value_row-requires-clause-row_in_bounds
put_value_row-requires-clause-row_in_bounds c = (value_fits (as_kind kind_3 c.kind_of.ensures c.in-3.is) c.requires).1

pub put_values_row-requires-clause-row_len : goal.put_values_row-requires-clause-row_len
put_values_row-requires-clause-row_len c = (values_fits (as_kind kind_4 c.kind_of.ensures c.in-4.is) c.requires).0

pub put_values_row-requires-clause-row_in_bounds : goal.put_values_row-requires-clause-row_in_bounds
put_values_row-requires-clause-row_in_bounds c = (values_fits (as_kind kind_4 c.kind_of.ensures c.in-4.is) c.requires).1

pub put_fixed_row-requires-clause-row_len : goal.put_fixed_row-requires-clause-row_len
put_fixed_row-requires-clause-row_len c = (fixed_fits (as_kind kind_5 c.kind_of.ensures c.in-5.is) c.requires).0

pub put_fixed_row-requires-clause-row_in_bounds : goal.put_fixed_row-requires-clause-row_in_bounds
put_fixed_row-requires-clause-row_in_bounds c = (fixed_fits (as_kind kind_5 c.kind_of.ensures c.in-5.is) c.requires).1

pub put_tuple-requires-clause-row_len : goal.put_tuple-requires-clause-row_len
put_tuple-requires-clause-row_len c =
    let k = as_kind kind_6 c.kind_of.ensures c.in-6.is in
    let h = counted_fits value-wide (value_element _) k c.requires in
    h.0

pub put_tuple-requires-clause-row_in_bounds : goal.put_tuple-requires-clause-row_in_bounds
put_tuple-requires-clause-row_in_bounds c =
    let k = as_kind kind_6 c.kind_of.ensures c.in-6.is in
    let h = counted_fits value-wide (value_element _) k c.requires in
    h.1.1

pub put_labels_row-requires-clause-row_len : goal.put_labels_row-requires-clause-row_len
put_labels_row-requires-clause-row_len c = (counted_fits label-wide (name_element _) (as_kind kind_7 c.kind_of.ensures c.in-7.is) c.requires).0

pub put_labels_row-requires-clause-rights : goal.put_labels_row-requires-clause-rights
put_labels_row-requires-clause-rights c = (counted_fits label-wide (name_element _) (as_kind kind_7 c.kind_of.ensures c.in-7.is) c.requires).1.0

pub put_labels_row-requires-clause-row_in_bounds : goal.put_labels_row-requires-clause-row_in_bounds
put_labels_row-requires-clause-row_in_bounds c = (counted_fits label-wide (name_element _) (as_kind kind_7 c.kind_of.ensures c.in-7.is) c.requires).1.1

pub put_labels_row-requires-in-8 : goal.put_labels_row-requires-in-8
put_labels_row-requires-in-8 c =
    let h = counted_fits label-wide (name_element _) (as_kind kind_8 c.kind_of.ensures c.in-8.is) c.requires in
    record { row_len = h.0; rights = h.1.0; row_in_bounds = h.1.1 }

pub put_value_row-requires-in-9 : goal.put_value_row-requires-in-9
put_value_row-requires-in-9 c =
    let h = value_fits (as_kind kind_9 c.kind_of.ensures c.in-9.is) c.requires in
    record { row_len = h.0; row_in_bounds = h.1 }

pub put_optionals_row-requires-clause-row_len : goal.put_optionals_row-requires-clause-row_len
put_optionals_row-requires-clause-row_len c = (optionals_fits (as_kind kind_10 c.kind_of.ensures c.in-10.is) c.requires).0

pub put_optionals_row-requires-clause-row_in_bounds : goal.put_optionals_row-requires-clause-row_in_bounds
put_optionals_row-requires-clause-row_in_bounds c = (optionals_fits (as_kind kind_10 c.kind_of.ensures c.in-10.is) c.requires).1

pub put_index_row-requires-clause-row_len : goal.put_index_row-requires-clause-row_len
put_index_row-requires-clause-row_len c = (index_fits (as_kind kind_11 c.kind_of.ensures c.in-11.is) c.requires).0

pub put_index_row-requires-clause-row_in_bounds : goal.put_index_row-requires-clause-row_in_bounds
put_index_row-requires-clause-row_in_bounds c = (index_fits (as_kind kind_11 c.kind_of.ensures c.in-11.is) c.requires).1

pub put_index_row-requires-in-12 : goal.put_index_row-requires-in-12
put_index_row-requires-in-12 c =
    let h = index_fits (as_kind kind_12 c.kind_of.ensures c.in-12.is) c.requires in
    record { row_len = h.0; row_in_bounds = h.1 }

pub put_optional_row-requires-clause-row_len : goal.put_optional_row-requires-clause-row_len
put_optional_row-requires-clause-row_len c = (optional_fits (as_kind kind_13 c.kind_of.ensures c.in-13.is) c.requires).0

pub put_optional_row-requires-clause-row_in_bounds : goal.put_optional_row-requires-clause-row_in_bounds
put_optional_row-requires-clause-row_in_bounds c = (optional_fits (as_kind kind_13 c.kind_of.ensures c.in-13.is) c.requires).1

pub put_optional_row-requires-in-14 : goal.put_optional_row-requires-in-14
put_optional_row-requires-in-14 c =
    let h = optional_fits (as_kind kind_14 c.kind_of.ensures c.in-14.is) c.requires in
    record { row_len = h.0; row_in_bounds = h.1 }

pub put_function-requires-clause-row_len : goal.put_function-requires-clause-row_len
put_function-requires-clause-row_len c = (function_fits (as_kind kind_15 c.kind_of.ensures c.in-15.is) c.requires).0

pub put_function-requires-clause-rights : goal.put_function-requires-clause-rights
put_function-requires-clause-rights c = (function_fits (as_kind kind_15 c.kind_of.ensures c.in-15.is) c.requires).1.0

pub put_function-requires-clause-row_in_bounds : goal.put_function-requires-clause-row_in_bounds
put_function-requires-clause-row_in_bounds c = (function_fits (as_kind kind_15 c.kind_of.ensures c.in-15.is) c.requires).1.1

pub put_resource-requires-clause-row_len : goal.put_resource-requires-clause-row_len
put_resource-requires-clause-row_len c = (resource_fits (as_kind kind_16 c.kind_of.ensures c.in-16.is) c.requires).0

pub put_resource-requires-clause-row_in_bounds : goal.put_resource-requires-clause-row_in_bounds
put_resource-requires-clause-row_in_bounds c = (resource_fits (as_kind kind_16 c.kind_of.ensures c.in-16.is) c.requires).1

pub returns-in-0 : goal.returns-in-0
returns-in-0 c =
    put_as c.args.out.now c.args.to
    (primitive_bytes (as_kind kind_0 c.kind_of.ensures c.in-0.is) c.requires)
    c.put_primitive.ensures

pub returns-in-1 : goal.returns-in-1
returns-in-1 c =
    put_as c.args.out.now c.args.to
    (counted_bytes_lem labelled_wide (labelled_element _) (as_kind kind_1 c.kind_of.ensures c.in-1.is) c.requires)
    c.put_record.ensures

pub returns-in-2 : goal.returns-in-2
returns-in-2 c =
    put_as c.args.out.now c.args.to
    (counted_bytes_lem case-wide (case_element _) (as_kind kind_2 c.kind_of.ensures c.in-2.is) c.requires)
    c.put_variant.ensures

pub returns-in-3 : goal.returns-in-3
returns-in-3 c =
    put_as c.args.out.now c.args.to
    (value_bytes (as_kind kind_3 c.kind_of.ensures c.in-3.is) c.requires)
    c.put_value_row.ensures

pub returns-in-4 : goal.returns-in-4
returns-in-4 c =
    put_as c.args.out.now c.args.to
    (values_bytes (as_kind kind_4 c.kind_of.ensures c.in-4.is) c.requires)
    c.put_values_row.ensures

pub returns-in-5 : goal.returns-in-5
returns-in-5 c =
    put_as c.args.out.now c.args.to
    (fixed_bytes (as_kind kind_5 c.kind_of.ensures c.in-5.is) c.requires)
    c.put_fixed_row.ensures

pub returns-in-6 : goal.returns-in-6
returns-in-6 c =
    put_as c.args.out.now c.args.to
    (counted_bytes_lem value-wide (value_element _) (as_kind kind_6 c.kind_of.ensures c.in-6.is) c.requires)
    c.put_tuple.ensures

pub returns-in-7 : goal.returns-in-7
returns-in-7 c =
    put_as c.args.out.now c.args.to
    (counted_bytes_lem label-wide (name_element _) (as_kind kind_7 c.kind_of.ensures c.in-7.is) c.requires)
    c.put_labels_row.ensures

pub returns-in-8 : goal.returns-in-8
returns-in-8 c =
    put_as c.args.out.now c.args.to
    (counted_bytes_lem label-wide (name_element _) (as_kind kind_8 c.kind_of.ensures c.in-8.is) c.requires)
    c.put_labels_row-in-8.ensures

pub returns-in-9 : goal.returns-in-9
returns-in-9 c =
    put_as c.args.out.now c.args.to
    (value_bytes (as_kind kind_9 c.kind_of.ensures c.in-9.is) c.requires)
    c.put_value_row-in-9.ensures

pub returns-in-10 : goal.returns-in-10
returns-in-10 c =
    put_as c.args.out.now c.args.to
    (optionals_bytes (as_kind kind_10 c.kind_of.ensures c.in-10.is) c.requires)
    c.put_optionals_row.ensures

pub returns-in-11 : goal.returns-in-11
returns-in-11 c =
    put_as c.args.out.now c.args.to
    (index_bytes (as_kind kind_11 c.kind_of.ensures c.in-11.is) c.requires)
    c.put_index_row.ensures

pub returns-in-12 : goal.returns-in-12
returns-in-12 c =
    put_as c.args.out.now c.args.to
    (index_bytes (as_kind kind_12 c.kind_of.ensures c.in-12.is) c.requires)
    c.put_index_row-in-12.ensures

pub returns-in-13 : goal.returns-in-13
returns-in-13 c =
    put_as c.args.out.now c.args.to
    (optional_bytes (as_kind kind_13 c.kind_of.ensures c.in-13.is) c.requires)
    c.put_optional_row.ensures

pub returns-in-14 : goal.returns-in-14
returns-in-14 c =
    put_as c.args.out.now c.args.to
    (optional_bytes (as_kind kind_14 c.kind_of.ensures c.in-14.is) c.requires)
    c.put_optional_row-in-14.ensures

pub returns-in-15 : goal.returns-in-15
returns-in-15 c =
    put_as c.args.out.now c.args.to
    (function_bytes_lem (as_kind kind_15 c.kind_of.ensures c.in-15.is) c.requires)
    c.put_function.ensures

pub returns-in-16 : goal.returns-in-16
returns-in-16 c =
    put_as c.args.out.now c.args.to
    (resource_bytes (as_kind kind_16 c.kind_of.ensures c.in-16.is) c.requires)
    c.put_resource.ensures

pub returns-in_default : goal.returns-in_default
returns-in_default c =
    let a = c.args in
    put_not (ap shape_of (sym c.kind_of.ensures) ∙ kind_other c.in_default.in_default-own.rest) a.row.now a.pool.now a.out.now a.to
