-- A refusal as it is printed.
use Rattle.std.specs.Prelude.{ℕ, ◌/◌, ◌%◌, List, [], ◌∷◌}
use Rattle.hexline.specs.Writes.{pairs_of}
use Rattle.rules.specs.Refusals.{number_of, line_of}
use Rattle.rules.specs.declared.refusal.Refusal.{Refusal}

-- FF, the number, the line in two bytes, high byte first
unfoldable pub refusal_text : Refusal → List ℕ
refusal_text why = pairs_of (255 ∷ number_of why ∷ line_of why / 256 ∷ line_of why % 256 ∷ [])
