-- A line among accepted lines was accepted after the lines before it, and what these said of partitions, groups and subjects is what all
-- lines say: kinds never go down, so no later line is of a lower kind.
use Rattle.std.specs.Prelude.{Ok}
use Prim.Native.Nat.{ℕ, ◌≤◌, ◌<◌}
use mathlib.Core.List.{List, [], ◌∷◌}
use mathlib.Core.Logic.{◌⊎◌, inl, inr}
use mathlib.Core.Path.{◌≡◌, ap, sym, ◌∙◌}
use native.Mathlib.Omega.{arith}
use borrow.Author.Tests.{ne_eqb}
use Rattle.records.specs.declared.kind.Record.{Record}
use Rattle.records.specs.Kinds.{kind_of}
use Rattle.rules.specs.Said.{last_kind, line_with, header_line}
use Rattle.rules.specs.Rules.{verdict, Fair}
use Rattle.rules.proofs.Fine.{fine}
use Rattle.rules.proofs.Order.{kind_may, kind_some}
use Rattle.rules.proofs.Same.{header_skip}
use Rattle.meaning.specs.Means.{Has}

pub record WhenRead (r : Record) (e : List Record) : Type 0 where
  pub before : List Record
  pub fair : Fair before
  pub accepted : verdict before r ≡ Ok tt
  pub lines : (kind n : ℕ) → kind < kind_of r → line_with kind n before ≡ line_with kind n e
  pub header : (kind_of r ≡ 1 → ⊥) → header_line before ≡ header_line e

line_skip : (kind n : ℕ) (x : Record) (e : List Record) → (kind_of x ≡ kind → ⊥) → line_with kind n (x ∷ e) ≡ line_with kind n e
unfolding line_with
line_skip kind n x e d = rw (ne_eqb (kind_of x) kind d)

-- kinds never go down
kind_above : (e : List Record) (x : Record) → verdict e x ≡ Ok tt → last_kind e ≤ kind_of x
unfolding last_kind
kind_above [] x v = omega arith
kind_above (last ∷ e) x v = (kind_may (kind_of last) (kind_of x) (kind_some last) (fine (last ∷ e) x v).kind).least

-- and only the first line is a header
no_header : (e : List Record) (x r : Record) → verdict e x ≡ Ok tt → Has r e → kind_of x ≡ 1 → ⊥
unfolding last_kind Has
no_header [] x r v h q = h
no_header (last ∷ e) x r v h q = (kind_may (kind_of last) (kind_of x) (kind_some last) (fine (last ∷ e) x v).kind).second q

pub below_last : (e : List Record) (r : Record) → Fair e → Has r e → kind_of r ≤ last_kind e
unfolding Fair Has last_kind
below_last [] r f h = absurd h
below_last (x ∷ e) r f h = go h (below_last e r f.0)
  where
    go : (r ≡ x) ⊎ Has r e → (Has r e → kind_of r ≤ last_kind e) → kind_of r ≤ kind_of x
    go (inl q) k = rw q (omega arith)
    go (inr g) k = omega (arith, k g, kind_above e x f.1)

pub when_read : (e : List Record) (r : Record) → Fair e → Has r e → WhenRead r e
unfolding Fair Has
when_read [] r f h = absurd h
when_read (x ∷ e) r f h = go h (when_read e r f.0)
  where
    go : (r ≡ x) ⊎ Has r e → (Has r e → WhenRead r e) → WhenRead r (x ∷ e)
    go (inl q) k =
        let s : kind_of r ≡ kind_of x = ap kind_of q in
        record {
          before = e;
          fair = f.0;
          accepted = rw q f.1;
          lines = λ kind n l. sym (line_skip kind n x e (λ z. omega arith));
          header = λ d. sym (header_skip x e (λ z. d (s ∙ z)));
        }
    go (inr g) k =
        let w = k g in
        let b = below_last e r f.0 g in
        let a = kind_above e x f.1 in
        record {
          before = w.before;
          fair = w.fair;
          accepted = w.accepted;
          lines = λ kind n l. w.lines kind n l ∙ sym (line_skip kind n x e (λ z. omega arith));
          header = λ d. w.header d ∙ sym (header_skip x e (no_header e x r f.1 g));
        }
