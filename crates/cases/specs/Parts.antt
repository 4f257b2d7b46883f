-- Where the first line of a text ends, and where those begin that begin with a mark.
use Rattle.std.specs.Prelude.{ℕ, suc, ◌+◌, ◌-◌, Bool, ◌&&◌, ◌||◌, List, length, get_or, drop, eqb}
use Rattle.std.specs.List.{starts_with, position_or_len, range_with_len}
use Rattle.hexline.specs.Digits.{newline}

-- whether a line that begins with the mark begins at this place
unfoldable pub begins_line : List ℕ → List ℕ → ℕ → Bool
begins_line text mark at = (eqb at 0 || eqb (get_or text (at - 1) 0) newline) && starts_with eqb (drop at text) mark

-- where the first such line begins from a place on; the text's end where there is none
unfoldable pub marked_from : List ℕ → List ℕ → ℕ → ℕ
marked_from text mark from = from + position_or_len (begins_line text mark) (range_with_len from (length text - from))

-- past the first newline, or past the text where there is none
unfoldable pub line_end : List ℕ → ℕ
line_end text = suc (position_or_len (λ b. eqb b newline) text)
