-- Worked examples, by computation: what the definitions say of single sets.
-- Assumes nothing.
use Rattle.std.specs.Prelude.{Some, None}
use mathlib.Core.List.{[], ◌∷◌}
use mathlib.Core.Path.{◌≡◌, refl}
use mathlib.Core.Bool.{true, false}
use Rattle.bits.specs.Word.{bit_of, set_bit, clear_bit}
use Rattle.bits.specs.Members.{has, marked, cleared, highest_below}
use Rattle.bits.specs.Sets.{Bits64, Bits256, has_number, no_numbers, mark_number, clear_number, highest_number}

-- the set of no numbers, in one word and in four
abbrev none64 : Bits64
none64 = no_numbers

abbrev none256 : Bits256
none256 = no_numbers

-- vector 255, the last, is the highest of three
last_vector : highest_number (mark_number (mark_number (mark_number none256 32) 255) 64) ≡ Some 255
unfolding highest_number mark_number no_numbers marked set_bit highest_below has bit_of
last_vector = refl

-- to mark 33 marks neither 1, which has its low five bits, nor 97, which has its bit in another word
marks_33_alone : (has_number (mark_number none256 33) 33 ≡ true) × (has_number (mark_number none256 33) 1 ≡ false) × (has_number (mark_number none256 33) 97 ≡ false)
unfolding has_number mark_number no_numbers marked set_bit has bit_of
marks_33_alone = (refl, refl, refl)

-- with the highest cleared, the next one is the highest; with that cleared, there is none
next_vector : highest_number (clear_number (mark_number (mark_number none256 200) 49) 200) ≡ Some 49
unfolding highest_number clear_number mark_number no_numbers marked cleared set_bit clear_bit highest_below has bit_of
next_vector = refl

no_vector : highest_number (clear_number (mark_number none256 49) 49) ≡ None
unfolding highest_number clear_number mark_number no_numbers marked cleared set_bit clear_bit highest_below has bit_of
no_vector = refl

-- event 31, the last of a subject's, is the highest of two, and event 0 is kept when it is marked
last_event : (highest_number (mark_number (mark_number none64 0) 31) ≡ Some 31) × (has_number (mark_number (mark_number none64 0) 31) 0 ≡ true)
unfolding highest_number has_number mark_number no_numbers marked set_bit highest_below has bit_of
last_event = (refl, refl)

-- line 23, the last IRQ line, masked and then not
last_line : (mark_number none64 23 ≡ record { words = 8388608 ∷ [] }) × (clear_number (mark_number none64 23) 23 ≡ none64)
unfolding clear_number mark_number no_numbers marked cleared set_bit clear_bit
last_line = (refl, refl)

-- a number of 64 or more is in no set of one word
past_the_word : (mark_number none64 64 ≡ none64) × (has_number {n = 1} (record { words = 1 ∷ [] }) 64 ≡ false)
unfolding mark_number has_number no_numbers marked has bit_of
past_the_word = (refl, refl)
