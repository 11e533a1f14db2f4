-- Each byte said takes one place of the text, and the places left are enough for the bytes left.
use Rattle.std.proofs.Common.{◌≡◌, ◌+◌, ◌*◌, ◌≤◌, length}
use Rattle.std.specs.Iterator.Adapters.{zip_first, zip_second}
use Rattle.std.specs.Slice.Iter.{iter_rest, chunks_exact_mut_rest, chunks_exact_mut_size}
use Rattle.telling.proofs.text.say_some.Given as goal

abbrev pub invariant-loop-place : goal.invariant-loop-place
invariant-loop-place l =
    let places = zip_first l.place-iterator in
    let left = iter_rest (zip_second l.place-iterator) in
    (l.said + length left ≡ length l.bytes)
    × (chunks_exact_mut_size places ≡ 2)
    × (2 * length left ≤ length (chunks_exact_mut_rest places))
