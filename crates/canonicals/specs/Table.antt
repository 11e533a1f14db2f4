-- Kinds 256 + lead: the canonical definitions of the component binary document, a production a line.
use Rattle.std.specs.Prelude.{ℕ, ◌+◌, true, List, [], ◌∷◌, ◌++◌, drop}
use Rattle.numbers.specs.Leb.{unsigned}
use Rattle.fields.specs.declared.Field.{Field}
use Rattle.fields.specs.declared.Field.TheVariants as field
use Rattle.fields.specs.declared.Shape.{Shape}
use Rattle.fields.specs.Words.{word}
use Rattle.writing.specs.Binary.{flag, representation, canonopt}
use Rattle.fields.specs.Table.{Line, line, two_of, many_of, vec}

-- behind a lead: two fields; a byte 00 and a field; a byte 00 or none, an index and options
abbrev pub plain : ℕ → Field → Field → Shape
plain lead a b = two_of (field.Fixed lead) field.Nothing a b

abbrev pub zeroed : ℕ → Field → Shape
zeroed lead a = two_of (field.Fixed lead) (field.Fixed 0x00) a field.Nothing

abbrev pub optioned : ℕ → Field → Shape
optioned lead zero = many_of (field.Fixed lead) zero field.Index field.Choice field.Nothing field.Nothing

-- opts ::= opt*:vec(<canonopt>)
abbrev pub opts : List ℕ → List ℕ
opts ws = vec 2 (λ vs. canonopt (word vs 0) (word vs 1)) ws

abbrev pub table : List Line
table =
    -- canon ::= 0x01 0x00 f:<funcidx> opts:<opts> => (canon lower ..)
    line (256 + 0x01) (optioned 0x01 (field.Fixed 0x00)) (λ pool ws. 0x01 ∷ 0x00 ∷ (unsigned (word ws 0) ++ opts (drop 1 ws)))
    -- | 0x02 t:<typeidx> => (canon resource.new ..)
    ∷ line (256 + 0x02) (plain 0x02 field.Index field.Nothing) (λ pool ws. 0x02 ∷ unsigned (word ws 0))
    -- | 0x03 t:<typeidx> => (canon resource.drop ..)
    ∷ line (256 + 0x03) (plain 0x03 field.Index field.Nothing) (λ pool ws. 0x03 ∷ unsigned (word ws 0))
    -- | 0x04 t:<typeidx> => (canon resource.rep ..)
    ∷ line (256 + 0x04) (plain 0x04 field.Index field.Nothing) (λ pool ws. 0x04 ∷ unsigned (word ws 0))
    -- | 0x05 => (canon task.cancel ..)
    ∷ line (256 + 0x05) (plain 0x05 field.Nothing field.Nothing) (λ pool ws. 0x05 ∷ [])
    -- | 0x06 async?:<async?> => (canon subtask.cancel ..)
    ∷ line (256 + 0x06) (plain 0x06 field.Flag field.Nothing) (λ pool ws. 0x06 ∷ flag (word ws 0) ∷ [])
    -- | 0x0a rep i:<u32> => (canon context.get ..)
    ∷ line (256 + 0x0a) (plain 0x0a field.Rep field.Index) (λ pool ws. 0x0a ∷ representation (word ws 0) ∷ unsigned (word ws 1))
    -- | 0x0b rep i:<u32> => (canon context.set ..)
    ∷ line (256 + 0x0b) (plain 0x0b field.Rep field.Index) (λ pool ws. 0x0b ∷ representation (word ws 0) ∷ unsigned (word ws 1))
    -- | 0x0c 0x00 => (canon thread.yield ..)
    ∷ line (256 + 0x0c) (zeroed 0x0c field.Nothing) (λ pool ws. 0x0c ∷ 0x00 ∷ [])
    -- | 0x0d => (canon subtask.drop ..)
    ∷ line (256 + 0x0d) (plain 0x0d field.Nothing field.Nothing) (λ pool ws. 0x0d ∷ [])
    -- | 0x0e t:<typeidx> => (canon stream.new ..)
    ∷ line (256 + 0x0e) (plain 0x0e field.Index field.Nothing) (λ pool ws. 0x0e ∷ unsigned (word ws 0))
    -- | 0x0f t:<typeidx> opts:<opts> => (canon stream.read ..)
    ∷ line (256 + 0x0f) (optioned 0x0f field.Nothing) (λ pool ws. 0x0f ∷ (unsigned (word ws 0) ++ opts (drop 1 ws)))
    -- | 0x11 t:<typeidx> async?:<async?> => (canon stream.cancel-read ..)
    ∷ line (256 + 0x11) (plain 0x11 field.Index field.Flag) (λ pool ws. 0x11 ∷ (unsigned (word ws 0) ++ flag (word ws 1) ∷ []))
    -- | 0x12 t:<typeidx> async?:<async?> => (canon stream.cancel-write ..)
    ∷ line (256 + 0x12) (plain 0x12 field.Index field.Flag) (λ pool ws. 0x12 ∷ (unsigned (word ws 0) ++ flag (word ws 1) ∷ []))
    -- | 0x13 t:<typeidx> => (canon stream.drop-readable ..)
    ∷ line (256 + 0x13) (plain 0x13 field.Index field.Nothing) (λ pool ws. 0x13 ∷ unsigned (word ws 0))
    -- | 0x14 t:<typeidx> => (canon stream.drop-writable ..)
    ∷ line (256 + 0x14) (plain 0x14 field.Index field.Nothing) (λ pool ws. 0x14 ∷ unsigned (word ws 0))
    -- | 0x15 t:<typeidx> => (canon future.new ..)
    ∷ line (256 + 0x15) (plain 0x15 field.Index field.Nothing) (λ pool ws. 0x15 ∷ unsigned (word ws 0))
    -- | 0x16 t:<typeidx> opts:<opts> => (canon future.read ..)
    ∷ line (256 + 0x16) (optioned 0x16 field.Nothing) (λ pool ws. 0x16 ∷ (unsigned (word ws 0) ++ opts (drop 1 ws)))
    -- | 0x18 t:<typeidx> async?:<async?> => (canon future.cancel-read ..)
    ∷ line (256 + 0x18) (plain 0x18 field.Index field.Flag) (λ pool ws. 0x18 ∷ (unsigned (word ws 0) ++ flag (word ws 1) ∷ []))
    -- | 0x19 t:<typeidx> async?:<async?> => (canon future.cancel-write ..)
    ∷ line (256 + 0x19) (plain 0x19 field.Index field.Flag) (λ pool ws. 0x19 ∷ (unsigned (word ws 0) ++ flag (word ws 1) ∷ []))
    -- | 0x1a t:<typeidx> => (canon future.drop-readable ..)
    ∷ line (256 + 0x1a) (plain 0x1a field.Index field.Nothing) (λ pool ws. 0x1a ∷ unsigned (word ws 0))
    -- | 0x1b t:<typeidx> => (canon future.drop-writable ..)
    ∷ line (256 + 0x1b) (plain 0x1b field.Index field.Nothing) (λ pool ws. 0x1b ∷ unsigned (word ws 0))
    -- | 0x1e => (canon error-context.drop ..)
    ∷ line (256 + 0x1e) (plain 0x1e field.Nothing field.Nothing) (λ pool ws. 0x1e ∷ [])
    -- | 0x1f => (canon waitable-set.new ..)
    ∷ line (256 + 0x1f) (plain 0x1f field.Nothing field.Nothing) (λ pool ws. 0x1f ∷ [])
    -- | 0x20 0x00 m:<core:memidx> => (canon waitable-set.wait ..)
    ∷ line (256 + 0x20) (zeroed 0x20 field.Index) (λ pool ws. 0x20 ∷ 0x00 ∷ unsigned (word ws 0))
    -- | 0x21 0x00 m:<core:memidx> => (canon waitable-set.poll ..)
    ∷ line (256 + 0x21) (zeroed 0x21 field.Index) (λ pool ws. 0x21 ∷ 0x00 ∷ unsigned (word ws 0))
    -- | 0x22 => (canon waitable-set.drop ..)
    ∷ line (256 + 0x22) (plain 0x22 field.Nothing field.Nothing) (λ pool ws. 0x22 ∷ [])
    -- | 0x23 => (canon waitable.join ..)
    ∷ line (256 + 0x23) (plain 0x23 field.Nothing field.Nothing) (λ pool ws. 0x23 ∷ [])
    -- | 0x24 => (canon backpressure.inc ..)
    ∷ line (256 + 0x24) (plain 0x24 field.Nothing field.Nothing) (λ pool ws. 0x24 ∷ [])
    -- | 0x25 => (canon backpressure.dec ..)
    ∷ line (256 + 0x25) (plain 0x25 field.Nothing field.Nothing) (λ pool ws. 0x25 ∷ [])
    -- | 0x26 => (canon thread.index ..)
    ∷ line (256 + 0x26) (plain 0x26 field.Nothing field.Nothing) (λ pool ws. 0x26 ∷ [])
    -- | 0x27 ft:<typeidx> tbl:<core:tableidx> => (canon thread.new-indirect ..)
    ∷ line (256 + 0x27) (plain 0x27 field.Index field.Index) (λ pool ws. 0x27 ∷ (unsigned (word ws 0) ++ unsigned (word ws 1)))
    -- | 0x29 0x00 => (canon thread.suspend ..)
    ∷ line (256 + 0x29) (zeroed 0x29 field.Nothing) (λ pool ws. 0x29 ∷ 0x00 ∷ [])
    -- | 0x2a 0x00 => (canon thread.suspend-then-resume ..)
    ∷ line (256 + 0x2a) (zeroed 0x2a field.Nothing) (λ pool ws. 0x2a ∷ 0x00 ∷ [])
    -- | 0x2b 0x00 => (canon thread.yield-then-resume ..)
    ∷ line (256 + 0x2b) (zeroed 0x2b field.Nothing) (λ pool ws. 0x2b ∷ 0x00 ∷ [])
    -- | 0x2c 0x00 => (canon thread.suspend-then-promote ..)
    ∷ line (256 + 0x2c) (zeroed 0x2c field.Nothing) (λ pool ws. 0x2c ∷ 0x00 ∷ [])
    -- | 0x2d 0x00 => (canon thread.yield-then-promote ..)
    ∷ line (256 + 0x2d) (zeroed 0x2d field.Nothing) (λ pool ws. 0x2d ∷ 0x00 ∷ [])
    -- | 0x2e t:<typeidx> => (canon stream.forward ..)
    ∷ line (256 + 0x2e) (plain 0x2e field.Index field.Nothing) (λ pool ws. 0x2e ∷ unsigned (word ws 0))
    -- | 0x2f t:<typeidx> => (canon future.forward ..)
    ∷ line (256 + 0x2f) (plain 0x2f field.Index field.Nothing) (λ pool ws. 0x2f ∷ unsigned (word ws 0))
    -- | 0x40 t:<typeidx> => (canon thread.spawn-ref ..)
    ∷ line (256 + 0x40) (plain 0x40 field.Index field.Nothing) (λ pool ws. 0x40 ∷ unsigned (word ws 0))
    -- | 0x41 ft:<typeidx> tbl:<core:tableidx> => (canon thread.spawn-indirect ..)
    ∷ line (256 + 0x41) (plain 0x41 field.Index field.Index) (λ pool ws. 0x41 ∷ (unsigned (word ws 0) ++ unsigned (word ws 1)))
    ∷ []

-- lift: its words are function, type, n and the options, and all but the type are judged in the order written
abbrev pub lift_shape : Shape
lift_shape =
    record {
      lead = field.Fixed 0x00;
      zero = field.Fixed 0x00;
      first = field.Index;
      second = field.Index;
      counted = true;
      one = field.Choice;
      two = field.Nothing;
      last = field.Nothing;
    }

-- lift as its bytes stand, the type last
abbrev pub lift_bytes : Shape
lift_bytes = many_of (field.Fixed 0x00) (field.Fixed 0x00) field.Index field.Choice field.Nothing field.Index

-- canon ::= 0x00 0x00 f:<core:funcidx> opts:<opts> ft:<typeidx> => (canon lift f opts type-index-space[ft])
unfoldable pub lift : List ℕ → List ℕ
lift ws = 0x00 ∷ 0x00 ∷ (unsigned (word ws 0) ++ (opts (drop 2 ws) ++ unsigned (word ws 1)))
