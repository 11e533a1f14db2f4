-- `class_of` meets its contract: each arm is a line of the table.
use borrow.Author.Tests.{ne_eqb}
use Rattle.fields.specs.Table.{shape_in}
use Rattle.canonicals.specs.inside.Class.{shape_for}
use Rattle.canonicals.proofs.class_of.Goals as goal

pub returns-in-257 : goal.returns-in-257
unfolding shape_in shape_for
returns-in-257 c = rw c.in-257.is

pub returns-in-258 : goal.returns-in-258
unfolding shape_in shape_for
returns-in-258 c = rw c.in-258.is

pub returns-in-259 : goal.returns-in-259
unfolding shape_in shape_for
returns-in-259 c = rw c.in-259.is

pub returns-in-260 : goal.returns-in-260
unfolding shape_in shape_for
returns-in-260 c = rw c.in-260.is

pub returns-in-261 : goal.returns-in-261
unfolding shape_in shape_for
returns-in-261 c = rw c.in-261.is

pub returns-in-262 : goal.returns-in-262
unfolding shape_in shape_for
returns-in-262 c = rw c.in-262.is

pub returns-in-266 : goal.returns-in-266
unfolding shape_in shape_for
returns-in-266 c = rw c.in-266.is

pub returns-in-267 : goal.returns-in-267
unfolding shape_in shape_for
returns-in-267 c = rw c.in-267.is

pub returns-in-268 : goal.returns-in-268
unfolding shape_in shape_for
returns-in-268 c = rw c.in-268.is

pub returns-in-269 : goal.returns-in-269
unfolding shape_in shape_for
returns-in-269 c = rw c.in-269.is

pub returns-in-270 : goal.returns-in-270
unfolding shape_in shape_for
returns-in-270 c = rw c.in-270.is

pub returns-in-271 : goal.returns-in-271
unfolding shape_in shape_for
returns-in-271 c = rw c.in-271.is

pub returns-in-273 : goal.returns-in-273
unfolding shape_in shape_for
returns-in-273 c = rw c.in-273.is

pub returns-in-274 : goal.returns-in-274
unfolding shape_in shape_for
returns-in-274 c = rw c.in-274.is

pub returns-in-275 : goal.returns-in-275
unfolding shape_in shape_for
returns-in-275 c = rw c.in-275.is

pub returns-in-276 : goal.returns-in-276
unfolding shape_in shape_for
returns-in-276 c = rw c.in-276.is

pub returns-in-277 : goal.returns-in-277
unfolding shape_in shape_for
returns-in-277 c = rw c.in-277.is

pub returns-in-278 : goal.returns-in-278
unfolding shape_in shape_for
returns-in-278 c = rw c.in-278.is

pub returns-in-280 : goal.returns-in-280
unfolding shape_in shape_for
returns-in-280 c = rw c.in-280.is

pub returns-in-281 : goal.returns-in-281
unfolding shape_in shape_for
returns-in-281 c = rw c.in-281.is

pub returns-in-282 : goal.returns-in-282
unfolding shape_in shape_for
returns-in-282 c = rw c.in-282.is

pub returns-in-283 : goal.returns-in-283
unfolding shape_in shape_for
returns-in-283 c = rw c.in-283.is

pub returns-in-286 : goal.returns-in-286
unfolding shape_in shape_for
returns-in-286 c = rw c.in-286.is

pub returns-in-287 : goal.returns-in-287
unfolding shape_in shape_for
returns-in-287 c = rw c.in-287.is

pub returns-in-288 : goal.returns-in-288
unfolding shape_in shape_for
returns-in-288 c = rw c.in-288.is

pub returns-in-289 : goal.returns-in-289
unfolding shape_in shape_for
returns-in-289 c = rw c.in-289.is

pub returns-in-290 : goal.returns-in-290
unfolding shape_in shape_for
returns-in-290 c = rw c.in-290.is

pub returns-in-291 : goal.returns-in-291
unfolding shape_in shape_for
returns-in-291 c = rw c.in-291.is

pub returns-in-292 : goal.returns-in-292
unfolding shape_in shape_for
returns-in-292 c = rw c.in-292.is

pub returns-in-293 : goal.returns-in-293
unfolding shape_in shape_for
returns-in-293 c = rw c.in-293.is

pub returns-in-294 : goal.returns-in-294
unfolding shape_in shape_for
returns-in-294 c = rw c.in-294.is

pub returns-in-295 : goal.returns-in-295
unfolding shape_in shape_for
returns-in-295 c = rw c.in-295.is

pub returns-in-297 : goal.returns-in-297
unfolding shape_in shape_for
returns-in-297 c = rw c.in-297.is

pub returns-in-298 : goal.returns-in-298
unfolding shape_in shape_for
returns-in-298 c = rw c.in-298.is

pub returns-in-299 : goal.returns-in-299
unfolding shape_in shape_for
returns-in-299 c = rw c.in-299.is

pub returns-in-300 : goal.returns-in-300
unfolding shape_in shape_for
returns-in-300 c = rw c.in-300.is

pub returns-in-301 : goal.returns-in-301
unfolding shape_in shape_for
returns-in-301 c = rw c.in-301.is

pub returns-in-302 : goal.returns-in-302
unfolding shape_in shape_for
returns-in-302 c = rw c.in-302.is

pub returns-in-303 : goal.returns-in-303
unfolding shape_in shape_for
returns-in-303 c = rw c.in-303.is

pub returns-in-320 : goal.returns-in-320
unfolding shape_in shape_for
returns-in-320 c = rw c.in-320.is

pub returns-in-321 : goal.returns-in-321
unfolding shape_in shape_for
returns-in-321 c = rw c.in-321.is

pub returns-in_default : goal.returns-in_default
unfolding shape_in shape_for
returns-in_default c = simp (ne_eqb _ _ c.in_default.in_default-own.rest.1, ne_eqb _ _ c.in_default.in_default-own.rest.0.1, ne_eqb _ _ c.in_default.in_default-own.rest.0.0.1, ne_eqb _ _ c.in_default.in_default-own.rest.0.0.0.1, ne_eqb _ _ c.in_default.in_default-own.rest.0.0.0.0.1, ne_eqb _ _ c.in_default.in_default-own.rest.0.0.0.0.0.1, ne_eqb _ _ c.in_default.in_default-own.rest.0.0.0.0.0.0.1, ne_eqb _ _ c.in_default.in_default-own.rest.0.0.0.0.0.0.0.1, ne_eqb _ _ c.in_default.in_default-own.rest.0.0.0.0.0.0.0.0.1, ne_eqb _ _ c.in_default.in_default-own.rest.0.0.0.0.0.0.0.0.0.1, ne_eqb _ _ c.in_default.in_default-own.rest.0.0.0.0.0.0.0.0.0.0.1, ne_eqb _ _ c.in_default.in_default-own.rest.0.0.0.0.0.0.0.0.0.0.0.1, ne_eqb _ _ c.in_default.in_default-own.rest.0.0.0.0.0.0.0.0.0.0.0.0.1, ne_eqb _ _ c.in_default.in_default-own.rest.0.0.0.0.0.0.0.0.0.0.0.0.0.1, ne_eqb _ _ c.in_default.in_default-own.rest.0.0.0.0.0.0.0.0.0.0.0.0.0.0.1, ne_eqb _ _ c.in_default.in_default-own.rest.0.0.0.0.0.0.0.0.0.0.0.0.0.0.0.1, ne_eqb _ _ c.in_default.in_default-own.rest.0.0.0.0.0.0.0.0.0.0.0.0.0.0.0.0.1, ne_eqb _ _ c.in_default.in_default-own.rest.0.0.0.0.0.0.0.0.0.0.0.0.0.0.0.0.0.1, ne_eqb _ _ c.in_default.in_default-own.rest.0.0.0.0.0.0.0.0.0.0.0.0.0.0.0.0.0.0.1, ne_eqb _ _ c.in_default.in_default-own.rest.0.0.0.0.0.0.0.0.0.0.0.0.0.0.0.0.0.0.0.1, ne_eqb _ _ c.in_default.in_default-own.rest.0.0.0.0.0.0.0.0.0.0.0.0.0.0.0.0.0.0.0.0.1, ne_eqb _ _ c.in_default.in_default-own.rest.0.0.0.0.0.0.0.0.0.0.0.0.0.0.0.0.0.0.0.0.0.1, ne_eqb _ _ c.in_default.in_default-own.rest.0.0.0.0.0.0.0.0.0.0.0.0.0.0.0.0.0.0.0.0.0.0.1, ne_eqb _ _ c.in_default.in_default-own.rest.0.0.0.0.0.0.0.0.0.0.0.0.0.0.0.0.0.0.0.0.0.0.0.1, ne_eqb _ _ c.in_default.in_default-own.rest.0.0.0.0.0.0.0.0.0.0.0.0.0.0.0.0.0.0.0.0.0.0.0.0.1, ne_eqb _ _ c.in_default.in_default-own.rest.0.0.0.0.0.0.0.0.0.0.0.0.0.0.0.0.0.0.0.0.0.0.0.0.0.1, ne_eqb _ _ c.in_default.in_default-own.rest.0.0.0.0.0.0.0.0.0.0.0.0.0.0.0.0.0.0.0.0.0.0.0.0.0.0.1, ne_eqb _ _ c.in_default.in_default-own.rest.0.0.0.0.0.0.0.0.0.0.0.0.0.0.0.0.0.0.0.0.0.0.0.0.0.0.0.1, ne_eqb _ _ c.in_default.in_default-own.rest.0.0.0.0.0.0.0.0.0.0.0.0.0.0.0.0.0.0.0.0.0.0.0.0.0.0.0.0.1, ne_eqb _ _ c.in_default.in_default-own.rest.0.0.0.0.0.0.0.0.0.0.0.0.0.0.0.0.0.0.0.0.0.0.0.0.0.0.0.0.0.1, ne_eqb _ _ c.in_default.in_default-own.rest.0.0.0.0.0.0.0.0.0.0.0.0.0.0.0.0.0.0.0.0.0.0.0.0.0.0.0.0.0.0.1, ne_eqb _ _ c.in_default.in_default-own.rest.0.0.0.0.0.0.0.0.0.0.0.0.0.0.0.0.0.0.0.0.0.0.0.0.0.0.0.0.0.0.0.1, ne_eqb _ _ c.in_default.in_default-own.rest.0.0.0.0.0.0.0.0.0.0.0.0.0.0.0.0.0.0.0.0.0.0.0.0.0.0.0.0.0.0.0.0.1, ne_eqb _ _ c.in_default.in_default-own.rest.0.0.0.0.0.0.0.0.0.0.0.0.0.0.0.0.0.0.0.0.0.0.0.0.0.0.0.0.0.0.0.0.0.1, ne_eqb _ _ c.in_default.in_default-own.rest.0.0.0.0.0.0.0.0.0.0.0.0.0.0.0.0.0.0.0.0.0.0.0.0.0.0.0.0.0.0.0.0.0.0.1, ne_eqb _ _ c.in_default.in_default-own.rest.0.0.0.0.0.0.0.0.0.0.0.0.0.0.0.0.0.0.0.0.0.0.0.0.0.0.0.0.0.0.0.0.0.0.0.1, ne_eqb _ _ c.in_default.in_default-own.rest.0.0.0.0.0.0.0.0.0.0.0.0.0.0.0.0.0.0.0.0.0.0.0.0.0.0.0.0.0.0.0.0.0.0.0.0.1, ne_eqb _ _ c.in_default.in_default-own.rest.0.0.0.0.0.0.0.0.0.0.0.0.0.0.0.0.0.0.0.0.0.0.0.0.0.0.0.0.0.0.0.0.0.0.0.0.0.1, ne_eqb _ _ c.in_default.in_default-own.rest.0.0.0.0.0.0.0.0.0.0.0.0.0.0.0.0.0.0.0.0.0.0.0.0.0.0.0.0.0.0.0.0.0.0.0.0.0.0.1, ne_eqb _ _ c.in_default.in_default-own.rest.0.0.0.0.0.0.0.0.0.0.0.0.0.0.0.0.0.0.0.0.0.0.0.0.0.0.0.0.0.0.0.0.0.0.0.0.0.0.0.1, ne_eqb _ _ c.in_default.in_default-own.rest.0.0.0.0.0.0.0.0.0.0.0.0.0.0.0.0.0.0.0.0.0.0.0.0.0.0.0.0.0.0.0.0.0.0.0.0.0.0.0.0.1)
