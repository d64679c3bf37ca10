-- Bits and numbers of some bytes, worked by hand.
use Rattle.std.proofs.Common.{◌≡◌, true, [], ◌∷◌, refl}
use Rattle.rx_model.specs.Bits.{bits, bit_at, number, place_bits, number_at, ordered}

-- hexadecimal 4142 is 0100 0001, 0100 0010
bits_of_4142 : bits (0x41 ∷ 0x42 ∷ []) ≡ 0 ∷ 1 ∷ 0 ∷ 0 ∷ 0 ∷ 0 ∷ 0 ∷ 1 ∷ 0 ∷ 1 ∷ 0 ∷ 0 ∷ 0 ∷ 0 ∷ 1 ∷ 0 ∷ []
bits_of_4142 = refl

bit_14_of_4142 : bit_at (0x41 ∷ 0x42 ∷ []) 14 ≡ 1
bit_14_of_4142 = refl

second_byte_of_4142 : number (place_bits 8 8 (0x41 ∷ 0x42 ∷ [])) ≡ 66
second_byte_of_4142 = refl

-- twelve bits from bit 4 on of hexadecimal ABCD are BCD
twelve_bits_of_abcd : number (place_bits 4 12 (0xAB ∷ 0xCD ∷ [])) ≡ 0xBCD
twelve_bits_of_abcd = refl

-- five bits from bit 6 on of hexadecimal 0380 are all ones but the last two
across_bytes : number_at (0x03 ∷ 0x80 ∷ []) 6 5 ≡ 28
across_bytes = refl

-- hexadecimal 0102 of low order is hexadecimal 0201
two_bytes_of_low_order : number (ordered true (place_bits 0 16 (0x01 ∷ 0x02 ∷ []))) ≡ 513
two_bytes_of_low_order = refl
