-- What stands in the table of accepted lines: at the place of a line its row, at every other place 0, and in the eight places of a major
-- and CPU its 05 lines. Places rise from line to line, so no later line's row stands over an earlier one's; a last 0A line stands
-- past the table.
use Prim.Native.Nat.{ℕ, ◌+◌, ◌≤◌, ◌<◌}
use mathlib.Core.List.{List, [], ◌∷◌}
use mathlib.Core.Logic.{◌⊎◌, inl, inr}
use mathlib.Core.Path.{◌≡◌, refl, ap, sym, ◌∙◌}
use native.Mathlib.Omega.{arith}
use native.Mathlib.Decide.{ℕ_discrete}
use lib.ListN.{length, get_or}
use Rattle.records.specs.declared.kind.FrameLine.{FrameLine}
use Rattle.records.specs.declared.kind.Record.{Record}
use Rattle.records.specs.declared.kind.Record.TheVariants.{Header, Partition, Group, Subject, Frame, Event, Trap, Target, Route, End}
use Rattle.records.specs.Kinds.{kind_of}
use Rattle.rows.specs.Places.{row_count, frames_place, place_of}
use Rattle.rows.specs.Rows.{row_of, record_at}
use Rattle.rows.specs.Lawful.{Fits}
use Rattle.rows.specs.Lines.{next_in, row_in, table_of, Placed}
use Rattle.rows.proofs.PlaceLaws.{place_next}
use Rattle.rows.proofs.RowLaws.{back}
use Rattle.rows.proofs.LineTableLaws.{row_here, row_other, get_row, within}
use Rattle.rules.specs.Said.{last_kind, frames_of}
use Rattle.rules.proofs.Fine.{fine}
use Rattle.rules.proofs.Frames.{Steady, placed_of, counted_of, frames_skip}
use Rattle.rules.proofs.FrameRows.{row_behind, frame_rows}
use Rattle.rules.proofs.Steady.{unended, steady}
use Rattle.rules.specs.Rules.{Fair}
use Rattle.meaning.specs.Means.{Has}

-- a line that stands at the place of its key
pub record Keyed (r : Record) : Type 0 where
  pub own : (f : FrameLine) → r ≡ Frame f → ⊥
  pub rowed : kind_of r ≡ 10 → ⊥

-- a line among lines that stands at a place
pub record Stands (e : List Record) (place row : ℕ) : Type 0 where
  pub line : Record
  pub among : Has line e
  pub read : record_at place row ≡ line

pub record Here (r : Record) (row : ℕ) : Type 0 where
  pub fits : Fits r
  pub place : place_of 0 r < row_count
  pub is : row ≡ row_of r

pub record Laid (e : List Record) : Type 0 where
  pub here : (r : Record) → Has r e → Keyed r → Here r (get_or (table_of e) (place_of 0 r) 0)
  pub there : (i : ℕ) → i < row_count → (get_or (table_of e) i 0 ≡ 0) ⊎ Stands e i (get_or (table_of e) i 0)
  pub frames : (m c i : ℕ) → m < 4 → c < 4 → i < 8 → get_or (table_of e) (frames_place m c + i) 0 ≡ row_behind (frames_of m c e) i
  pub few : (m c : ℕ) → m < 4 → c < 4 → length (frames_of m c e) ≤ 8

-- ---- lines whose places rise

row_kept : (e : List Record) → Placed e → (r : Record) → Has r e → Keyed r → (row_in e (place_of 0 r) ≡ row_of r) × ((place_of 0 r < next_in e) × Fits r)
unfolding Placed next_in Has
row_kept [] p r h k = absurd h
row_kept (x ∷ e) p r (inl q) k =
    let at : place_of (next_in e) r ≡ place_of 0 r = place_next (next_in e) 0 r k.own in
    let f : Fits r = rw (← q) at p.1.0 in
    rw (← q) (ap (row_in (r ∷ e)) (sym at) ∙ row_here r e, (omega (arith, at), f))
row_kept (x ∷ e) p r (inr h) k =
    let b = row_kept e p.0 r h k in
    (row_other x e (place_of 0 r) (λ z. omega (arith, p.1.1.1)) ∙ b.0, (omega (arith, b.1.0, p.1.1.1), b.1.1))

no_row : (i : ℕ) → row_in [] i ≡ 0
unfolding row_in
no_row i = refl

row_read : (e : List Record) → Placed e → (i : ℕ) → (row_in e i ≡ 0) ⊎ Stands e i (row_in e i)
unfolding Placed Has
row_read [] p i = inl (no_row i)
row_read (x ∷ e) p i = go (ℕ_discrete (place_of (next_in e) x) i) (row_read e p.0 i)
  where
    go : Dec (place_of (next_in e) x ≡ i) → (row_in e i ≡ 0) ⊎ Stands e i (row_in e i) → (row_in (x ∷ e) i ≡ 0) ⊎ Stands (x ∷ e) i (row_in (x ∷ e) i)
    go (yes q) s =
        inr (record {
          line = x;
          among = inl refl;
          read = rw (← q) (ap (record_at (place_of (next_in e) x)) (row_here x e) ∙ back (next_in e) x p.1.0 p.1.1.0);
        })
    go (no d) (inl z) = inl (row_other x e i d ∙ z)
    go (no d) (inr s) =
        inr (record { line = s.line; among = inr s.among; read = ap (record_at i) (row_other x e i d) ∙ s.read })

frames_within : (m c i : ℕ) → m < 4 → c < 4 → i < 8 → frames_place m c + i < row_count
unfolding frames_place
frames_within m c i lm lc li = omega arith

laid_steady : (e : List Record) → Steady e → Laid e
laid_steady e s =
    let p = placed_of e s in
    record {
      here = λ r h k.
          let b = row_kept e p r h k in
          let l : place_of 0 r < row_count = omega (arith, b.1.0, within e p) in
          record { fits = b.1.1; place = l; is = get_row e (place_of 0 r) l ∙ b.0 };
      there = λ i l. rw (get_row e i l) (row_read e p i);
      frames = λ m c i lm lc li. get_row e (frames_place m c + i) (frames_within m c i lm lc li) ∙ frame_rows e s m c i lm lc li;
      few = λ m c lm lc. (counted_of e s m c lm lc).few;
    }

-- ---- a last line

-- stands past the table
end_row : (k : ℕ) (e : List Record) (i : ℕ) → i < row_count → get_or (table_of (End k ∷ e)) i 0 ≡ get_or (table_of e) i 0
unfolding place_of
end_row k e i l = get_row (End k ∷ e) i l ∙ row_other (End k) e i (λ q. omega arith) ∙ sym (get_row e i l)

not_end : (k : ℕ) (e : List Record) (r : Record) → Keyed r → Has r (End k ∷ e) → Has r e
unfolding Has kind_of
not_end k e r w (inl q) = absurd (w.rowed (ap kind_of q))
not_end k e r w (inr h) = h

end_has : (k : ℕ) (e : List Record) (r : Record) → Has r e → Has r (End k ∷ e)
unfolding Has
end_has k e r h = inr h

end_frames : (k : ℕ) (e : List Record) (m c : ℕ) → frames_of m c (End k ∷ e) ≡ frames_of m c e
unfolding kind_of
end_frames k e m c = frames_skip m c (End k) e (λ q. omega arith)

laid_end : (k : ℕ) (e : List Record) → Laid e → Laid (End k ∷ e)
laid_end k e l =
    record {
      here = λ r h w.
          let b = l.here r (not_end k e r w h) w in
          record { fits = b.fits; place = b.place; is = end_row k e (place_of 0 r) b.place ∙ b.is };
      there = λ i u. rw (end_row k e i u) (more i (l.there i u));
      frames = λ m c i lm lc li. end_row k e (frames_place m c + i) (frames_within m c i lm lc li) ∙ l.frames m c i lm lc li ∙ ap (λ (x : List (List ℕ)). row_behind x i) (sym (end_frames k e m c));
      few = λ m c lm lc. rw (end_frames k e m c) (l.few m c lm lc);
    }
  where
    more : (i : ℕ) → (get_or (table_of e) i 0 ≡ 0) ⊎ Stands e i (get_or (table_of e) i 0) → (get_or (table_of e) i 0 ≡ 0) ⊎ Stands (End k ∷ e) i (get_or (table_of e) i 0)
    more i (inl z) = inl z
    more i (inr s) = inr (record { line = s.line; among = end_has k e s.line s.among; read = s.read })

end_or : (r : Record) → ((k : ℕ) × (r ≡ End k)) ⊎ (kind_of r ≡ 10 → ⊥)
unfolding kind_of
end_or (Header x) = inr (λ q. omega arith)
end_or (Partition x) = inr (λ q. omega arith)
end_or (Group x) = inr (λ q. omega arith)
end_or (Subject x) = inr (λ q. omega arith)
end_or (Frame x) = inr (λ q. omega arith)
end_or (Event x) = inr (λ q. omega arith)
end_or (Trap x) = inr (λ q. omega arith)
end_or (Target x) = inr (λ q. omega arith)
end_or (Route x) = inr (λ q. omega arith)
end_or (End k) = inl (k, refl)

-- ---- accepted lines

pub laid : (e : List Record) → Fair e → Laid e
unfolding Fair last_kind
laid [] f = laid_steady [] (steady [] f (λ q. omega arith))
laid (r ∷ e) f = go (end_or r)
  where
    go : ((k : ℕ) × (r ≡ End k)) ⊎ (kind_of r ≡ 10 → ⊥) → Laid (r ∷ e)
    go (inl (k, q)) = rw q (laid_end k e (laid_steady e (steady e f.0 (unended e r (fine e r f.1).kind))))
    go (inr d) = laid_steady (r ∷ e) (steady (r ∷ e) f d)
