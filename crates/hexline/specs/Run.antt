-- How the line reader goes: it counts the digits that a text begins with, and looks at the byte behind them. No public contract
-- cites this; `proofs/LineLaws.antt` says what the count tells of the line.
use Rattle.std.specs.Prelude.{ℕ, List}
use Rattle.std.specs.List.{prefix_len}
use Rattle.hexline.specs.Digits.{is_digit}

-- how many digits a text begins with
abbrev pub run_of : List ℕ → ℕ
run_of text = prefix_len is_digit text
