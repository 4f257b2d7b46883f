-- `ill_formed` meets its contract: the newline is sought in what is left.
use native.Mathlib.Omega.{arith}
use Prim.Native.Nat.{ℕ, ◌-◌}
use mathlib.Core.List.{List}
use mathlib.Core.Path.{◌≡◌, sym, ◌∙◌}
use lib.ListN.{length, take, drop, length-drop}
use lib.Seq.{take_all}
use Rattle.hexline.proofs.LineLaws.{ended_here, ended_never}
use Rattle.hexline.proofs.read.ill_formed.Goals as goal

left : (text : List ℕ) (from : ℕ) → take (length text - from) (drop from text) ≡ drop from text
left text from = take_all _ (drop from text) (omega (arith, length-drop from text))

pub returns-in-Some : goal.returns-in-Some
returns-in-Some c = ended_here _ _ c.requires _ (rw left at (sym c.to_newline.ensures ∙ c.in-Some.is))

pub returns-in-None : goal.returns-in-None
returns-in-None c = ended_never _ _ c.requires (rw left at (sym c.to_newline.ensures ∙ c.in-None.is))
