-- `numbers::text::sequence_at` meets its contract: an arm is a row of the table (`found`), and `_` is between two rows or past the last one
-- (`missed`).
use Rattle.std.specs.Prelude.{Ok}
use Rattle.std.proofs.Common.{◌+◌, [], get_or, refl, arith}
use Rattle.numbers.proofs.TextRows.{nth, found, missed, began, unbegun, whole}
use Rattle.numbers.proofs.text.sequence_at.Goals as goal

pub returns-in-224 : goal.returns-in-224
returns-in-224 c =
    let a = c.args in
    let s = a.name.now in
    began (nth 2).later s a.i c.three.result (omega arith) (found 2 (get_or s a.i 0) tt tt (omega arith) (omega arith)) c.three.ensures

pub returns-in-237 : goal.returns-in-237
returns-in-237 c =
    let a = c.args in
    let s = a.name.now in
    began (nth 4).later s a.i c.three-in-237.result (omega arith) (found 4 (get_or s a.i 0) tt tt (omega arith) (omega arith)) c.three-in-237.ensures

pub returns-in-240 : goal.returns-in-240
returns-in-240 c =
    let a = c.args in
    let s = a.name.now in
    began (nth 6).later s a.i c.four.result (omega arith) (found 6 (get_or s a.i 0) tt tt (omega arith) (omega arith)) c.four.ensures

pub returns-in-244 : goal.returns-in-244
returns-in-244 c =
    let a = c.args in
    let s = a.name.now in
    began (nth 8).later s a.i c.four-in-244.result (omega arith) (found 8 (get_or s a.i 0) tt tt (omega arith) (omega arith)) c.four-in-244.ensures

pub returns-in-0-to-127 : goal.returns-in-0-to-127
returns-in-0-to-127 c =
    let a = c.args in
    let s = a.name.now in
    began [] s a.i (Ok 1) (omega arith) (found 0 (get_or s a.i 0) tt tt (omega arith) (omega arith))
    (whole s (a.i + 1) a.i 1 refl (omega arith) (omega arith))

pub returns-in-194-to-223 : goal.returns-in-194-to-223
returns-in-194-to-223 c =
    let a = c.args in
    let s = a.name.now in
    began (nth 1).later s a.i c.two.result (omega arith) (found 1 (get_or s a.i 0) tt tt (omega arith) (omega arith)) c.two.ensures

pub returns-in-225-to-236 : goal.returns-in-225-to-236
returns-in-225-to-236 c =
    let a = c.args in
    let s = a.name.now in
    began (nth 3).later s a.i c.three-in-225-to-236.result (omega arith) (found 3 (get_or s a.i 0) tt tt (omega arith) (omega arith)) c.three-in-225-to-236.ensures

pub returns-in-238-to-239 : goal.returns-in-238-to-239
returns-in-238-to-239 c =
    let a = c.args in
    let s = a.name.now in
    began (nth 5).later s a.i c.three-in-238-to-239.result (omega arith) (found 5 (get_or s a.i 0) tt tt (omega arith) (omega arith)) c.three-in-238-to-239.ensures

pub returns-in-241-to-243 : goal.returns-in-241-to-243
returns-in-241-to-243 c =
    let a = c.args in
    let s = a.name.now in
    began (nth 7).later s a.i c.four-in-241-to-243.result (omega arith) (found 7 (get_or s a.i 0) tt tt (omega arith) (omega arith)) c.four-in-241-to-243.ensures

pub returns-in_default : goal.returns-in_default
returns-in_default c =
    let a = c.args in
    let s = a.name.now in
    unbegun s a.i (omega arith) (missed 1 0x80 0xc2 (get_or s a.i 0) tt tt (omega arith) (omega arith))

pub returns-in_default-2 : goal.returns-in_default-2
returns-in_default-2 c =
    let a = c.args in
    let s = a.name.now in
    unbegun s a.i (omega arith) (missed 9 0xf5 (get_or s a.i 0 + 1) (get_or s a.i 0) tt tt (omega arith) (omega arith))
