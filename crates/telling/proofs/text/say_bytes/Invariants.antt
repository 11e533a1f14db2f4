-- The bytes said and those that the chunks still have are all the bytes; the chunks' size stays.
use Rattle.std.proofs.Common.{◌≡◌, ◌+◌, length}
use Rattle.std.specs.Slice.Iter.{chunks_rest, chunks_size}
use Rattle.telling.proofs.text.say_bytes.Given as goal

abbrev pub invariant-loop-part : goal.invariant-loop-part
invariant-loop-part l =
    (l.said + length (chunks_rest l.part-iterator) ≡ length l.bytes)
    × (chunks_size l.part-iterator ≡ chunks_size l.initial.part-iterator)
