-- The refusals' numbers and what each carries: RULES 7. Assumes nothing.
use Rattle.std.specs.Prelude.{ℕ}
use Rattle.refusal.specs.declared.Field.{Field}
use Rattle.refusal.specs.declared.Refusal.{Refusal}

-- RULES 7.2: what 22 carries for each field
abbrev pub field_number : Field → ℕ
field_number Field.Sequence = 1
field_number Field.Message = 2
field_number Field.KeyFlags = 3
field_number Field.HandshakeFlags = 4
field_number Field.GroupFlags = 5

abbrev pub number_of : Refusal → ℕ
number_of Refusal.NotEnoughData = 1
number_of Refusal.ControlBit = 2
number_of (Refusal.BadDataEncryption _) = 3
number_of Refusal.BadSrtExtensionMessage = 4
number_of (Refusal.BadKeyPacketType _) = 5
number_of (Refusal.BadKeySign _) = 6
number_of (Refusal.BadCipherKind _) = 7
number_of (Refusal.BadAuth _) = 8
number_of (Refusal.BadStreamEncapsulation _) = 9
number_of Refusal.StreamEncapsulationNotSrt = 10
number_of (Refusal.BadCryptoLength _) = 11
number_of (Refusal.UnsupportedSrtExtensionType _) = 12
number_of (Refusal.LaterType _) = 13
number_of (Refusal.TooLong _) = 14
number_of (Refusal.NotSequence _) = 15
number_of (Refusal.NotIncreasing _) = 16
number_of (Refusal.OpenRange _) = 17
number_of (Refusal.FlaggedEnd _) = 18
number_of (Refusal.BackwardRange _) = 19
number_of (Refusal.TooManyNumbers _) = 20
number_of (Refusal.NoRoom _) = 21
number_of (Refusal.FieldTooWide _) = 22
number_of Refusal.NoKey = 23
number_of (Refusal.BadSaltLength _) = 24
number_of (Refusal.BadWrapLength _) = 25
number_of (Refusal.BadSheet _) = 26
number_of (Refusal.SheetEdition _) = 27
number_of (Refusal.OutsideWindow _) = 29

abbrev pub carried_by : Refusal → ℕ
carried_by Refusal.NotEnoughData = 0
carried_by Refusal.ControlBit = 0
carried_by (Refusal.BadDataEncryption bits) = bits
carried_by Refusal.BadSrtExtensionMessage = 0
carried_by (Refusal.BadKeyPacketType bits) = bits
carried_by (Refusal.BadKeySign sign) = sign
carried_by (Refusal.BadCipherKind byte) = byte
carried_by (Refusal.BadAuth byte) = byte
carried_by (Refusal.BadStreamEncapsulation byte) = byte
carried_by Refusal.StreamEncapsulationNotSrt = 0
carried_by (Refusal.BadCryptoLength bytes) = bytes
carried_by (Refusal.UnsupportedSrtExtensionType kind) = kind
carried_by (Refusal.LaterType kind) = kind
carried_by (Refusal.TooLong limit) = limit
carried_by (Refusal.NotSequence place) = place
carried_by (Refusal.NotIncreasing place) = place
carried_by (Refusal.OpenRange place) = place
carried_by (Refusal.FlaggedEnd place) = place
carried_by (Refusal.BackwardRange place) = place
carried_by (Refusal.TooManyNumbers place) = place
carried_by (Refusal.NoRoom needed) = needed
carried_by (Refusal.FieldTooWide field) = field_number field
carried_by Refusal.NoKey = 0
carried_by (Refusal.BadSaltLength length) = length
carried_by (Refusal.BadWrapLength length) = length
carried_by (Refusal.BadSheet lines) = lines
carried_by (Refusal.SheetEdition edition) = edition
carried_by (Refusal.OutsideWindow place) = place
