-- Reasoning by a test: what holds of both branches holds of the choice.
use mathlib.Core.Bool.{Bool, true, false, cond, ◌&&◌}
use mathlib.Core.Path.{◌≡◌, refl, sym}

pub by_cond : {A : Type 0} (P : A → Type 0) (t : Bool) (x y : A) → (t ≡ true → P x) → (t ≡ false → P y) → P (cond t x y)
by_cond P true x y f g = f refl
by_cond P false x y f g = g refl

-- both of two tests hold where their `&&` does
pub both : (a b : Bool) → (a && b) ≡ true → (a ≡ true) × (b ≡ true)
both true true e = (refl, refl)
both true false e = (refl, e)
both false b e = (e, absurd_of b e)
  where
    absurd_of : (c : Bool) → false ≡ true → c ≡ true
    absurd_of true q = refl
    absurd_of false q = q

-- two tests that hold together are equal
pub same_test : (a b : Bool) → (a ≡ true → b ≡ true) → (b ≡ true → a ≡ true) → a ≡ b
same_test true b f g = sym (f refl)
same_test false true f g = g refl
same_test false false f g = refl
