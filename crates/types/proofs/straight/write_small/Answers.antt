-- `write_small` meets its contract: in each arm a size that was found, room for it, and the bytes of the kind's shape.
use mathlib.Core.Path.{refl, sym, ◌∙◌}
use Rattle.writing.proofs.KindLaws.{put_as, sized-fits}
use Rattle.types.proofs.KindLaws.{tried_as, sized-tried}
use Rattle.types.proofs.KindLaws.{kind_0, kind_3, kind_4, kind_5, kind_9, kind_10, kind_11, kind_12, kind_13, kind_14, kind_16}
use Rattle.types.proofs.KindLaws.{fixed_fits, index_fits, optional_fits, optionals_fits, primitive_fits, resource_fits, value_fits, values_fits}
use Rattle.types.proofs.KindLaws.{fixed_bytes, index_bytes, optional_bytes, optionals_bytes, primitive_bytes, resource_bytes, value_bytes, values_bytes}
use Rattle.types.proofs.straight.write_small.Goals as goal

pub put_primitive-requires : goal.put_primitive-requires
put_primitive-requires c =
    let a = c.args in
    primitive_fits refl
    (sized-fits (λ h. (rw c.in_ok-size-in-0.was at c.primitive_size.ensures) a.pool.now c.if-pool-gt-POOL_BYTES.false)
    (sym c.fits.ensures ∙ c.if-fits.true))

pub returns-then-fits : goal.returns-then-fits
returns-then-fits c =
    let a = c.args in
    tried_as kind_0 c.kind_of.ensures c.in-0.is
    (sized-tried ((rw c.in_ok-size-in-0.was at c.primitive_size.ensures) a.pool.now c.if-pool-gt-POOL_BYTES.false)
    (sym c.fits.ensures ∙ c.if-fits.true)
    (λ f. put_as a.out.now a.at (primitive_bytes refl f) c.put_primitive.ensures))

pub put_value_row-requires-clause-row_len : goal.put_value_row-requires-clause-row_len
put_value_row-requires-clause-row_len c =
    let a = c.args in
    (value_fits refl
    (sized-fits (λ h. (rw c.in_ok-size-in-3.was at c.value_row_size.ensures) 0x70 a.pool.now c.if-pool-gt-POOL_BYTES.false)
    (sym c.fits-in-3.ensures ∙ c.if-fits-2.true))).0

pub put_value_row-requires-clause-row_in_bounds : goal.put_value_row-requires-clause-row_in_bounds
put_value_row-requires-clause-row_in_bounds c =
    let a = c.args in
    (value_fits refl
    (sized-fits (λ h. (rw c.in_ok-size-in-3.was at c.value_row_size.ensures) 0x70 a.pool.now c.if-pool-gt-POOL_BYTES.false)
    (sym c.fits-in-3.ensures ∙ c.if-fits-2.true))).1

pub returns-then-fits-2 : goal.returns-then-fits-2
returns-then-fits-2 c =
    let a = c.args in
    tried_as kind_3 c.kind_of.ensures c.in-3.is
    (sized-tried ((rw c.in_ok-size-in-3.was at c.value_row_size.ensures) 0x70 a.pool.now c.if-pool-gt-POOL_BYTES.false)
    (sym c.fits-in-3.ensures ∙ c.if-fits-2.true)
    (λ f. put_as a.out.now a.at (value_bytes refl f) c.put_value_row.ensures))

pub put_values_row-requires-clause-row_len : goal.put_values_row-requires-clause-row_len
put_values_row-requires-clause-row_len c =
    let a = c.args in
    (values_fits refl
    (sized-fits (λ h. (rw c.in_ok-size-in-4.was at c.values_row_size.ensures) 0x63 a.pool.now c.if-pool-gt-POOL_BYTES.false)
    (sym c.fits-in-4.ensures ∙ c.if-fits-3.true))).0

pub put_values_row-requires-clause-row_in_bounds : goal.put_values_row-requires-clause-row_in_bounds
put_values_row-requires-clause-row_in_bounds c =
    let a = c.args in
    (values_fits refl
    (sized-fits (λ h. (rw c.in_ok-size-in-4.was at c.values_row_size.ensures) 0x63 a.pool.now c.if-pool-gt-POOL_BYTES.false)
    (sym c.fits-in-4.ensures ∙ c.if-fits-3.true))).1

pub returns-then-fits-3 : goal.returns-then-fits-3
returns-then-fits-3 c =
    let a = c.args in
    tried_as kind_4 c.kind_of.ensures c.in-4.is
    (sized-tried ((rw c.in_ok-size-in-4.was at c.values_row_size.ensures) 0x63 a.pool.now c.if-pool-gt-POOL_BYTES.false)
    (sym c.fits-in-4.ensures ∙ c.if-fits-3.true)
    (λ f. put_as a.out.now a.at (values_bytes refl f) c.put_values_row.ensures))

pub put_fixed_row-requires-clause-row_len : goal.put_fixed_row-requires-clause-row_len
put_fixed_row-requires-clause-row_len c =
    let a = c.args in
    (fixed_fits refl
    (sized-fits (λ h. (rw c.in_ok-size-in-5.was at c.fixed_row_size.ensures) 0x67 a.pool.now c.if-pool-gt-POOL_BYTES.false)
    (sym c.fits-in-5.ensures ∙ c.if-fits-4.true))).0

pub put_fixed_row-requires-clause-row_in_bounds : goal.put_fixed_row-requires-clause-row_in_bounds
put_fixed_row-requires-clause-row_in_bounds c =
    let a = c.args in
    (fixed_fits refl
    (sized-fits (λ h. (rw c.in_ok-size-in-5.was at c.fixed_row_size.ensures) 0x67 a.pool.now c.if-pool-gt-POOL_BYTES.false)
    (sym c.fits-in-5.ensures ∙ c.if-fits-4.true))).1

pub returns-then-fits-4 : goal.returns-then-fits-4
returns-then-fits-4 c =
    let a = c.args in
    tried_as kind_5 c.kind_of.ensures c.in-5.is
    (sized-tried ((rw c.in_ok-size-in-5.was at c.fixed_row_size.ensures) 0x67 a.pool.now c.if-pool-gt-POOL_BYTES.false)
    (sym c.fits-in-5.ensures ∙ c.if-fits-4.true)
    (λ f. put_as a.out.now a.at (fixed_bytes refl f) c.put_fixed_row.ensures))

pub put_value_row-requires-then-fits-5 : goal.put_value_row-requires-then-fits-5
put_value_row-requires-then-fits-5 c =
    let a = c.args in
    let h = value_fits refl
    (sized-fits (λ h. (rw c.in_ok-size-in-9.was at c.value_row_size-in-9.ensures) 0x6b a.pool.now c.if-pool-gt-POOL_BYTES.false)
    (sym c.fits-in-9.ensures ∙ c.if-fits-5.true)) in
    record { row_len = h.0; row_in_bounds = h.1 }

pub returns-then-fits-5 : goal.returns-then-fits-5
returns-then-fits-5 c =
    let a = c.args in
    tried_as kind_9 c.kind_of.ensures c.in-9.is
    (sized-tried ((rw c.in_ok-size-in-9.was at c.value_row_size-in-9.ensures) 0x6b a.pool.now c.if-pool-gt-POOL_BYTES.false)
    (sym c.fits-in-9.ensures ∙ c.if-fits-5.true)
    (λ f. put_as a.out.now a.at (value_bytes refl f) c.put_value_row-then-fits-5.ensures))

pub put_optionals_row-requires-clause-row_len : goal.put_optionals_row-requires-clause-row_len
put_optionals_row-requires-clause-row_len c =
    let a = c.args in
    (optionals_fits refl
    (sized-fits (λ h. (rw c.in_ok-size-in-10.was at c.optionals_row_size.ensures) 0x6a a.pool.now c.if-pool-gt-POOL_BYTES.false)
    (sym c.fits-in-10.ensures ∙ c.if-fits-6.true))).0

pub put_optionals_row-requires-clause-row_in_bounds : goal.put_optionals_row-requires-clause-row_in_bounds
put_optionals_row-requires-clause-row_in_bounds c =
    let a = c.args in
    (optionals_fits refl
    (sized-fits (λ h. (rw c.in_ok-size-in-10.was at c.optionals_row_size.ensures) 0x6a a.pool.now c.if-pool-gt-POOL_BYTES.false)
    (sym c.fits-in-10.ensures ∙ c.if-fits-6.true))).1

pub returns-then-fits-6 : goal.returns-then-fits-6
returns-then-fits-6 c =
    let a = c.args in
    tried_as kind_10 c.kind_of.ensures c.in-10.is
    (sized-tried ((rw c.in_ok-size-in-10.was at c.optionals_row_size.ensures) 0x6a a.pool.now c.if-pool-gt-POOL_BYTES.false)
    (sym c.fits-in-10.ensures ∙ c.if-fits-6.true)
    (λ f. put_as a.out.now a.at (optionals_bytes refl f) c.put_optionals_row.ensures))

pub put_index_row-requires-clause-row_len : goal.put_index_row-requires-clause-row_len
put_index_row-requires-clause-row_len c =
    let a = c.args in
    (index_fits refl
    (sized-fits (λ h. (rw c.in_ok-size-in-11.was at c.index_row_size.ensures) 0x69 a.pool.now c.if-pool-gt-POOL_BYTES.false)
    (sym c.fits-in-11.ensures ∙ c.if-fits-7.true))).0

pub put_index_row-requires-clause-row_in_bounds : goal.put_index_row-requires-clause-row_in_bounds
put_index_row-requires-clause-row_in_bounds c =
    let a = c.args in
    (index_fits refl
    (sized-fits (λ h. (rw c.in_ok-size-in-11.was at c.index_row_size.ensures) 0x69 a.pool.now c.if-pool-gt-POOL_BYTES.false)
    (sym c.fits-in-11.ensures ∙ c.if-fits-7.true))).1

pub returns-then-fits-7 : goal.returns-then-fits-7
returns-then-fits-7 c =
    let a = c.args in
    tried_as kind_11 c.kind_of.ensures c.in-11.is
    (sized-tried ((rw c.in_ok-size-in-11.was at c.index_row_size.ensures) 0x69 a.pool.now c.if-pool-gt-POOL_BYTES.false)
    (sym c.fits-in-11.ensures ∙ c.if-fits-7.true)
    (λ f. put_as a.out.now a.at (index_bytes refl f) c.put_index_row.ensures))

pub put_index_row-requires-then-fits-8 : goal.put_index_row-requires-then-fits-8
put_index_row-requires-then-fits-8 c =
    let a = c.args in
    let h = index_fits refl
    (sized-fits (λ h. (rw c.in_ok-size-in-12.was at c.index_row_size-in-12.ensures) 0x68 a.pool.now c.if-pool-gt-POOL_BYTES.false)
    (sym c.fits-in-12.ensures ∙ c.if-fits-8.true)) in
    record { row_len = h.0; row_in_bounds = h.1 }

pub returns-then-fits-8 : goal.returns-then-fits-8
returns-then-fits-8 c =
    let a = c.args in
    tried_as kind_12 c.kind_of.ensures c.in-12.is
    (sized-tried ((rw c.in_ok-size-in-12.was at c.index_row_size-in-12.ensures) 0x68 a.pool.now c.if-pool-gt-POOL_BYTES.false)
    (sym c.fits-in-12.ensures ∙ c.if-fits-8.true)
    (λ f. put_as a.out.now a.at (index_bytes refl f) c.put_index_row-then-fits-8.ensures))

pub put_optional_row-requires-clause-row_len : goal.put_optional_row-requires-clause-row_len
put_optional_row-requires-clause-row_len c =
    let a = c.args in
    (optional_fits refl
    (sized-fits (λ h. (rw c.in_ok-size-in-13.was at c.optional_row_size.ensures) 0x65 a.pool.now c.if-pool-gt-POOL_BYTES.false)
    (sym c.fits-in-13.ensures ∙ c.if-fits-9.true))).0

pub put_optional_row-requires-clause-row_in_bounds : goal.put_optional_row-requires-clause-row_in_bounds
put_optional_row-requires-clause-row_in_bounds c =
    let a = c.args in
    (optional_fits refl
    (sized-fits (λ h. (rw c.in_ok-size-in-13.was at c.optional_row_size.ensures) 0x65 a.pool.now c.if-pool-gt-POOL_BYTES.false)
    (sym c.fits-in-13.ensures ∙ c.if-fits-9.true))).1

pub returns-then-fits-9 : goal.returns-then-fits-9
returns-then-fits-9 c =
    let a = c.args in
    tried_as kind_13 c.kind_of.ensures c.in-13.is
    (sized-tried ((rw c.in_ok-size-in-13.was at c.optional_row_size.ensures) 0x65 a.pool.now c.if-pool-gt-POOL_BYTES.false)
    (sym c.fits-in-13.ensures ∙ c.if-fits-9.true)
    (λ f. put_as a.out.now a.at (optional_bytes refl f) c.put_optional_row.ensures))

pub put_optional_row-requires-then-fits-10 : goal.put_optional_row-requires-then-fits-10
put_optional_row-requires-then-fits-10 c =
    let a = c.args in
    let h = optional_fits refl
    (sized-fits (λ h. (rw c.in_ok-size-in-14.was at c.optional_row_size-in-14.ensures) 0x66 a.pool.now c.if-pool-gt-POOL_BYTES.false)
    (sym c.fits-in-14.ensures ∙ c.if-fits-10.true)) in
    record { row_len = h.0; row_in_bounds = h.1 }

pub returns-then-fits-10 : goal.returns-then-fits-10
returns-then-fits-10 c =
    let a = c.args in
    tried_as kind_14 c.kind_of.ensures c.in-14.is
    (sized-tried ((rw c.in_ok-size-in-14.was at c.optional_row_size-in-14.ensures) 0x66 a.pool.now c.if-pool-gt-POOL_BYTES.false)
    (sym c.fits-in-14.ensures ∙ c.if-fits-10.true)
    (λ f. put_as a.out.now a.at (optional_bytes refl f) c.put_optional_row-then-fits-10.ensures))

pub put_resource-requires-clause-row_len : goal.put_resource-requires-clause-row_len
put_resource-requires-clause-row_len c =
    let a = c.args in
    (resource_fits refl
    (sized-fits (λ h. (rw c.in_ok-size-in-16.was at c.resource_size.ensures) 0x3f a.pool.now c.if-pool-gt-POOL_BYTES.false)
    (sym c.fits-in-16.ensures ∙ c.if-fits-11.true))).0

pub put_resource-requires-clause-row_in_bounds : goal.put_resource-requires-clause-row_in_bounds
put_resource-requires-clause-row_in_bounds c =
    let a = c.args in
    (resource_fits refl
    (sized-fits (λ h. (rw c.in_ok-size-in-16.was at c.resource_size.ensures) 0x3f a.pool.now c.if-pool-gt-POOL_BYTES.false)
    (sym c.fits-in-16.ensures ∙ c.if-fits-11.true))).1

pub returns-then-fits-11 : goal.returns-then-fits-11
returns-then-fits-11 c =
    let a = c.args in
    tried_as kind_16 c.kind_of.ensures c.in-16.is
    (sized-tried ((rw c.in_ok-size-in-16.was at c.resource_size.ensures) 0x3f a.pool.now c.if-pool-gt-POOL_BYTES.false)
    (sym c.fits-in-16.ensures ∙ c.if-fits-11.true)
    (λ f. put_as a.out.now a.at (resource_bytes refl f) c.put_resource.ensures))
