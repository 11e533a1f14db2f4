-- Bytes stored at a place of a lent buffer, and a part of the caller's bytes.
use Rattle.std.specs.Prelude.{Ok, ℕ, ◌+◌, ◌^◌, ◌<◌, cond, List, [], length, take, drop, nat_le, slice_index}
use Rattle.std.proofs.lemmas.List.Edits.{sets}
use Rattle.numbers.specs.Stored.{Stored, Room}

-- each element is a byte
abbrev pub Bytes : List ℕ → Type 0
Bytes s = (i : ℕ) → slice_index s i < 2 ^ 8

-- what a call leaves: its answer, and the buffer
pub record Left : Type 0 where
  pub answer : Stored
  pub buffer : List ℕ

abbrev pub left : Stored → List ℕ → Left
left r out = record { answer = r; buffer = out }

-- the bytes from place `at` of the buffer on, or nothing at all where they do not fit
unfoldable pub store : List ℕ → ℕ → List ℕ → Left
store bytes at out =
    cond (nat_le (at + length bytes) (length out)) (left (Ok (length bytes)) (sets out at bytes)) (left (Room (length bytes)) out)

-- the `size` bytes from `start` on, or the empty part where they run past the input
unfoldable pub part_of : List ℕ → ℕ → ℕ → List ℕ
part_of input start size = cond (nat_le (start + size) (length input)) (take size (drop start input)) []
