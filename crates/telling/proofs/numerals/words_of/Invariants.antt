-- The words of the parts so far are put.
use Rattle.std.proofs.Common.{◌≡◌, ◌%◌, ◌^◌, length, map}
use Rattle.std.proofs.Math.Seq.{sets}
use Rattle.telling.specs.Numerals.{number_from}
use Rattle.telling.proofs.numerals.words_of.Given as goal

abbrev pub invariant-loop-part : goal.invariant-loop-part
invariant-loop-part l = (l.words ≡ length l.yielded) × (l.row ≡ sets l.initial.row 0 (map (λ part. number_from 0 part.now % 2 ^ 32) l.yielded))
