-- One law for every kind with a key: the row at the place of a line's key is that line's, and a place that no line of the kind has holds
-- 0. So a lookup that says what the row at a key's place says tells the lines of the kind.
use Prim.Native.Nat.{ℕ, ◌<◌}
use mathlib.Core.Bool.{Bool, true, false, cond, not, true≢false}
use mathlib.Core.List.{List}
use mathlib.Core.Logic.{◌⊎◌, inl, inr, ◌↔◌}
use mathlib.Core.Path.{◌≡◌, refl, ap, ap₂, sym, ◌∙◌}
use native.Mathlib.Omega.{arith}
use lib.Dec.{eqb}
use lib.ListN.{get_or}
use borrow.Author.Tests.{eq-eqb, ne_eqb}
use Rattle.records.specs.declared.kind.Record.{Record}
use Rattle.records.specs.declared.kind.Record.TheVariants.{Header, Partition, Group, Subject, Frame, Event, Trap, Target, Route, End}
use Rattle.records.specs.Kinds.{kind_of}
use Rattle.rows.specs.Places.{row_count, place_of}
use Rattle.rows.specs.Rows.{row_of, record_at}
use Rattle.rows.specs.Lawful.{Fits, Room}
use Rattle.rows.specs.Lines.{table_of}
use Rattle.rows.proofs.RowLaws.{back, some}
use Rattle.rules.specs.Rules.{Fair}
use Rattle.meaning.specs.Means.{Has, Listed, Unlisted, Tells}
use Rattle.meaning.proofs.Laid.{Keyed, Stands, Laid}

-- how a kind keeps its lines: which keys a line may have, the place of each, and the line of a key that has a row
pub record Kept {Line Key : Type 0} (line : Line → Record) (key : Line → Key) (may : Key → Bool) (place : Key → ℕ) (build : Key → ℕ → Line) : Type 0 where
  pub one : (a b : Line) → line a ≡ line b → a ≡ b
  pub own : (w : Line) → Keyed (line w)
  pub placed : (w : Line) → place_of 0 (line w) ≡ place (key w)
  pub allowed : (w : Line) → Fits (line w) → may (key w) ≡ true
  pub inside : (k : Key) → may k ≡ true → place k < row_count
  pub built : (k : Key) (row : ℕ) → may k ≡ true → record_at (place k) row ≡ line (build k row)
  pub keyed : (k : Key) (row : ℕ) → may k ≡ true → key (build k row) ≡ k

room : (r : Record) → Keyed r → Room 0 r
unfolding Room kind_of
room (Header x) k = tt
room (Partition x) k = tt
room (Group x) k = tt
room (Subject x) k = tt
room (Frame x) k = absurd (k.own x refl)
room (Event x) k = tt
room (Trap x) k = tt
room (Target x) k = tt
room (Route x) k = tt
room (End x) k = tt

-- ---- the row of a line

-- what stands at the place of a line's key
pub record Held {Line : Type 0} (w : Line) (allowed : Bool) (row : ℕ) (build : ℕ → Line) : Type 0 where
  pub may : allowed ≡ true
  pub there : row ≡ 0 → ⊥
  pub same : build row ≡ w

module _ {Line Key : Type 0} (line : Line → Record) (key : Line → Key) (may : Key → Bool) (place : Key → ℕ) (build : Key → ℕ → Line)
    (kept : Kept line key may place build) (e : List Record) (l : Laid e) where
  pub held : (w : Line) → Has (line w) e → Held w (may (key w)) (get_or (table_of e) (place (key w)) 0) (build (key w))
  held w h =
      let b = l.here (line w) h (kept.own w) in
      let at : place_of 0 (line w) ≡ place (key w) = kept.placed w in
      let row = get_or (table_of e) (place (key w)) 0 in
      let is : row ≡ row_of (line w) = ap (λ (n : ℕ). get_or (table_of e) n 0) (sym at) ∙ b.is in
      let ok = kept.allowed w b.fits in
      record {
        may = ok;
        there = λ z. omega (arith, (some (line w) b.fits).0, is);
        same = kept.one (build (key w) row) w (sym (kept.built (key w) row ok) ∙ ap₂ record_at (sym at) is ∙ back 0 (line w) b.fits (room (line w) (kept.own w)));
      }

  -- each key that a line may have is one of a line, or its place holds 0
  pub listed_or : (k : Key) → may k ≡ true → Listed line key e k ⊎ (Unlisted line key e k × (get_or (table_of e) (place k) 0 ≡ 0))
  listed_or k m = go (l.there (place k) (kept.inside k m))
    where
      go : (get_or (table_of e) (place k) 0 ≡ 0) ⊎ Stands e (place k) (get_or (table_of e) (place k) 0)
          → Listed line key e k ⊎ (Unlisted line key e k × (get_or (table_of e) (place k) 0 ≡ 0))
      go (inl z) = inr (λ w h q. (held w h).there (ap (λ (x : Key). get_or (table_of e) (place x) 0) q ∙ z), z)
      go (inr s) =
          let row = get_or (table_of e) (place k) 0 in
          let q : s.line ≡ line (build k row) = sym s.read ∙ kept.built k row m in
          inl (record { said = build k row; among = rw q at s.among; keyed = kept.keyed k row m })

  -- a key has a row exactly if it is that of a line
  pub given_exactly : (k : Key) → may k ≡ true → Listed line key e k ↔ (not (eqb (get_or (table_of e) (place k) 0) 0) ≡ true)
  given_exactly k m = (λ t. there t, λ g. listed g (listed_or k m))
    where
      there : Listed line key e k → not (eqb (get_or (table_of e) (place k) 0) 0) ≡ true
      there t =
          ap not (ne_eqb (get_or (table_of e) (place k) 0) 0 (λ z. (held t.said t.among).there (ap (λ (x : Key). get_or (table_of e) (place x) 0) t.keyed ∙ z)))

      listed : not (eqb (get_or (table_of e) (place k) 0) 0) ≡ true → Listed line key e k ⊎ (Unlisted line key e k × (get_or (table_of e) (place k) 0 ≡ 0)) → Listed line key e k
      listed g (inl t) = t
      listed g (inr (u, z)) = absurd (true≢false (sym g ∙ ap not (eq-eqb (get_or (table_of e) (place k) 0) 0 z)))

-- ---- a lookup by the row

-- the row of a key that a line may have
unfoldable pub row_for : {Key : Type 0} → (Key → Bool) → (Key → ℕ) → List Record → Key → ℕ
row_for may place e k = cond (may k) (get_or (table_of e) (place k) 0) 0

module _ {Line Key Answer : Type 0} (line : Line → Record) (key : Line → Key) (may : Key → Bool) (place : Key → ℕ) (build : Key → ℕ → Line)
    (kept : Kept line key may place build) (e : List Record) (f : Fair e) (l : Laid e) (says : Line → Answer) (nothing look : Key → Answer)
    (shape : (k : Key) → look k ≡ cond (eqb (row_for may place e k) 0) (nothing k) (says (build k (row_for may place e k))))
    (spoken : (w : Line) → Has (line w) e → says w ≡ nothing (key w) → ⊥)
    (unsaid : Key → Answer → Line) (whole : (d : List Record) → Fair d → (w : Line) → Has (line w) d → unsaid (key w) (says w) ≡ w) where
  answer : (k : Key) (row : ℕ) → row_for may place e k ≡ row → look k ≡ cond (eqb row 0) (nothing k) (says (build k row))
  answer k row q = shape k ∙ ap (λ (n : ℕ). cond (eqb n 0) (nothing k) (says (build k n))) q

  allowed_row : (k : Key) → may k ≡ true → row_for may place e k ≡ get_or (table_of e) (place k) 0
  unfolding row_for
  allowed_row k m = rw m

  other_row : (k : Key) → may k ≡ false → row_for may place e k ≡ 0
  unfolding row_for
  other_row k m = rw m

  found : (w : Line) → Has (line w) e → look (key w) ≡ says w
  found w h =
      let b = held line key may place build kept e l w h in
      let row = get_or (table_of e) (place (key w)) 0 in
      answer (key w) row (allowed_row (key w) b.may) ∙ rw (ne_eqb row 0 b.there) (ap says b.same)

  -- each key is one of a line that says what is said, or of none, and nothing is said
  every : (k : Key) → ((listed : Listed line key e k) × (says listed.said ≡ look k)) ⊎ (Unlisted line key e k × (look k ≡ nothing k))
  every k = go (may k) refl
    where
      of : Listed line key e k ⊎ (Unlisted line key e k × (get_or (table_of e) (place k) 0 ≡ 0)) → may k ≡ true
          → ((listed : Listed line key e k) × (says listed.said ≡ look k)) ⊎ (Unlisted line key e k × (look k ≡ nothing k))
      of (inl t) m = inl (t, sym (found t.said t.among) ∙ ap look t.keyed)
      of (inr (u, z)) m = inr (u, answer k 0 (allowed_row k m ∙ z))

      go : (t : Bool) → may k ≡ t → ((listed : Listed line key e k) × (says listed.said ≡ look k)) ⊎ (Unlisted line key e k × (look k ≡ nothing k))
      go true m = of (listed_or line key may place build kept e l k m) m
      go false m =
          inr (λ w h q. true≢false (sym (held line key may place build kept e l w h).may ∙ ap may q ∙ m), answer k 0 (other_row k m))

  pub tells : Tells line key says nothing look e
  tells =
      record {
        found = found;
        by = λ k d. by k d (every k);
        unlisted = λ k. (λ u. none k u (every k), λ z w h q. spoken w h (sym (found w h) ∙ ap look q ∙ z ∙ ap nothing (sym q)));
        exactly = λ d g w h n q. exactly d g w h n q (every (key w));
      }
    where
      by : (k : Key) → (look k ≡ nothing k → ⊥) → ((listed : Listed line key e k) × (says listed.said ≡ look k)) ⊎ (Unlisted line key e k × (look k ≡ nothing k))
          → (listed : Listed line key e k) × (says listed.said ≡ look k)
      by k d (inl t) = t
      by k d (inr u) = absurd (d u.1)

      none : (k : Key) → Unlisted line key e k → ((listed : Listed line key e k) × (says listed.said ≡ look k)) ⊎ (Unlisted line key e k × (look k ≡ nothing k)) → look k ≡ nothing k
      none k u (inl t) = absurd (u t.0.said t.0.among t.0.keyed)
      none k u (inr t) = t.1

      exactly : (d : List Record) → Fair d → (w : Line) → Has (line w) d → (look (key w) ≡ nothing (key w) → ⊥) → look (key w) ≡ says w
          → ((listed : Listed line key e (key w)) × (says listed.said ≡ look (key w))) ⊎ (Unlisted line key e (key w) × (look (key w) ≡ nothing (key w))) → Has (line w) e
      exactly d g w h n q (inl (t, r)) =
          let same : line t.said ≡ line w = ap line (sym (whole e f t.said t.among) ∙ ap₂ unsaid t.keyed (r ∙ q) ∙ whole d g w h) in
          rw same at t.among
      exactly d g w h n q (inr u) = absurd (n u.1)
