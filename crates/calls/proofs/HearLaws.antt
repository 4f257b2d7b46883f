-- What the code goes by: of a line of at most four bytes, the first four bytes of the text hold them all; no call has more.
use Rattle.std.specs.Prelude.{None}
use Prim.Native.Nat.{ℕ, zero, suc, ◌≤◌, ◌<◌}
use mathlib.Core.List.{List, [], ◌∷◌}
use mathlib.Core.Path.{◌≡◌, refl}
use native.Mathlib.Omega.{arith}
use lib.ListN.{length, get_or, take}
use Rattle.calls.specs.Calls.{heard_in}

pub front : (n : ℕ) (bytes : List ℕ) → n ≤ length bytes → n ≤ 4
    → take n (get_or bytes 0 0 ∷ get_or bytes 1 0 ∷ get_or bytes 2 0 ∷ get_or bytes 3 0 ∷ []) ≡ take n bytes
front zero bytes l s = refl
front (suc zero) (a ∷ bytes) l s = refl
front (suc (suc zero)) (a ∷ b ∷ bytes) l s = refl
front (suc (suc (suc zero))) (a ∷ b ∷ c ∷ bytes) l s = refl
front (suc (suc (suc (suc zero)))) (a ∷ b ∷ c ∷ d ∷ bytes) l s = refl
front n bytes l s = absurd (omega arith)

pub no_call : (n : ℕ) (bytes : List ℕ) → n ≤ length bytes → 4 < n → heard_in (take n bytes) ≡ None
unfolding heard_in
no_call (suc (suc (suc (suc (suc n))))) (a ∷ b ∷ c ∷ d ∷ e ∷ bytes) l m = refl
no_call n bytes l m = absurd (omega arith)
