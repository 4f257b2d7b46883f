-- The row that stands in a text.
use Rattle.std.specs.Prelude.{ℕ, List, [], ◌∷◌}
use Rattle.std.specs.Int.{w64, from_be_bytes}
use Rattle.hexline.specs.Lines.{byte_at}

-- eight bytes, high byte first
unfoldable pub row_of : List ℕ → ℕ
row_of digits =
    from_be_bytes w64
    (byte_at digits 0 ∷ byte_at digits 1 ∷ byte_at digits 2 ∷ byte_at digits 3
    ∷ byte_at digits 4 ∷ byte_at digits 5 ∷ byte_at digits 6 ∷ byte_at digits 7 ∷ [])
