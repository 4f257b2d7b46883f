-- The table that accepted lines fill: it is tied to the lines, its verdict is theirs, and one line more, where it is accepted, keeps the tie.
use Rattle.std.specs.Prelude.{Ok}
use Prim.Native.Nat.{◌≤◌}
use mathlib.Core.List.{List, [], ◌∷◌}
use mathlib.Core.Path.{◌≡◌, refl, sym, ◌∙◌}
use Rattle.records.specs.declared.kind.Record.{Record}
use Rattle.rows.specs.Places.{row_count, place_of}
use Rattle.rules.specs.Rules.{verdict}
use Rattle.rules.proofs.Tied.{Tied, tied_start, tied_verdict, tied_put, place_within}
use Rattle.policy.specs.declared.table.Table.{Table}
use Rattle.policy.specs.Steps.{no_lines, verdict_by, progress_after, with_line}

abbrev pub Holds : Table → List Record → Type 0
Holds t e = Tied t.rows t.done.kind t.done.next t.done.lines e

pub holds_none : Holds no_lines []
unfolding no_lines
holds_none = tied_start

module _ (t : Table) (e : List Record) (h : Holds t e) (r : Record) where
  pub by_lines : verdict_by t r ≡ verdict e r
  unfolding verdict_by
  by_lines = tied_verdict _ _ _ _ _ e h refl r

  pub place_fits : verdict_by t r ≡ Ok tt → place_of t.done.next r ≤ row_count
  place_fits v = rw h.next (place_within e r h.fair (sym by_lines ∙ v))

  pub holds_more : verdict e r ≡ Ok tt → Holds (with_line t r (Ok tt)) (r ∷ e)
  unfolding with_line progress_after
  holds_more v = tied_put _ _ _ _ e h r v
