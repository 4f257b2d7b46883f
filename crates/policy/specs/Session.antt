-- The policy text of document 01's "One bench session", line by line as bytes. A core that refuses all is shut out by this text.
use Rattle.std.specs.Prelude.{ℕ, List, [], ◌∷◌, ◌++◌}
use Rattle.hexline.specs.Writes.{line_text}

-- the lines' bytes
unfoldable pub session_bytes : List (List ℕ)
session_bytes =
    (1 ∷ 2 ∷ 3 ∷ 3 ∷ 2 ∷ 1 ∷ [])
    ∷ (2 ∷ 0 ∷ 0 ∷ [])
    ∷ (2 ∷ 1 ∷ 1 ∷ [])
    ∷ (3 ∷ 0 ∷ 0 ∷ [])
    ∷ (3 ∷ 1 ∷ 0 ∷ [])
    ∷ (3 ∷ 2 ∷ 1 ∷ [])
    ∷ (4 ∷ 0 ∷ 0 ∷ 0 ∷ [])
    ∷ (4 ∷ 1 ∷ 1 ∷ 0 ∷ [])
    ∷ (4 ∷ 2 ∷ 2 ∷ 0 ∷ [])
    ∷ (5 ∷ 0 ∷ 0 ∷ 0 ∷ 0 ∷ 2 ∷ [])
    ∷ (5 ∷ 0 ∷ 1 ∷ 1 ∷ 0 ∷ 2 ∷ [])
    ∷ (6 ∷ 0 ∷ 0 ∷ 2 ∷ 255 ∷ 255 ∷ 255 ∷ 0 ∷ [])
    ∷ (6 ∷ 0 ∷ 1 ∷ 0 ∷ 255 ∷ 2 ∷ 5 ∷ 1 ∷ [])
    ∷ (6 ∷ 2 ∷ 0 ∷ 1 ∷ 255 ∷ 255 ∷ 255 ∷ 0 ∷ [])
    ∷ (8 ∷ 2 ∷ 5 ∷ 1 ∷ 48 ∷ [])
    ∷ (9 ∷ 33 ∷ 1 ∷ 64 ∷ 10 ∷ [])
    ∷ (10 ∷ 0 ∷ 16 ∷ [])
    ∷ []

-- lines one after the other
unfoldable pub text_of_all : List (List ℕ) → List ℕ
text_of_all [] = []
text_of_all (bytes ∷ lines) = line_text bytes ++ text_of_all lines

unfoldable pub session_text : List ℕ
session_text = text_of_all session_bytes
