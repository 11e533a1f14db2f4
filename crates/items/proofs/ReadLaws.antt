-- An item that is read has few words.
use Prim.Native.Nat.{ℕ}
use mathlib.Core.List.{List}
use Rattle.reading.specs.inside.Few.{Few}
use Rattle.items.specs.ReadImport.{read_import}
use Rattle.reading.proofs.TakenLaws.{item-few}
use Rattle.items.specs.ReadType.{read_type}

-- an item that is read has few words
pub import-few : (g : ℕ) (input room : List ℕ) → Few (read_import g input room).answer
unfolding read_import
import-few g input room = item-few _ _ _ g input room

pub type-few : (g : ℕ) (input room : List ℕ) → Few (read_type g input room).answer
unfolding read_type
type-few g input room = item-few _ _ _ g input room
