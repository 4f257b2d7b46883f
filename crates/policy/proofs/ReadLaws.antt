-- Reading, step by step: a text that is not at its end is its first line and the rest, and the reading is the verdict of that line and
-- the reading of the rest. `Going` is what the reader's loop keeps.
use Rattle.std.specs.Prelude.{Result, Ok, Err}
use Rattle.records.specs.declared.read.NoRecord.TheVariants.{IllFormed as IllFormedLine, WrongKind as WrongKindLine}
use Rattle.records.specs.declared.read.NoRecord.{NoRecord}
use Prim.Native.Nat.{ℕ, zero, suc, ◌+◌, ◌-◌, ◌≤◌, ◌<◌}
use mathlib.Core.List.{List, [], ◌∷◌}
use mathlib.Core.Path.{◌≡◌, refl, ap, sym, ◌∙◌}
use native.Mathlib.Omega.{arith}
use lib.Seq.{take_all, drop-drop}
use lib.ListN.{length, take, drop, length-drop}
use borrow.Author.Tests.{eq-eqb, ne_eqb, lt-ltb, le-ltb}
use Rattle.records.specs.declared.kind.Record.{Record}
use Rattle.records.specs.Lawful.{GotLine}
use Rattle.records.specs.RecordLines.{record_line}
use Rattle.records.proofs.LineLaws.{got}
use Rattle.rows.specs.Places.{row_count, place_of}
use Rattle.rules.specs.declared.refusal.Refusal.{Refusal}
use Rattle.rules.specs.declared.refusal.Refusal.TheVariants.{TooLong, WrongKind}
use Rattle.rules.specs.Said.{last_kind}
use Rattle.rules.specs.Rules.{verdict}
use Rattle.rules.proofs.Tied.{tied_table}
use Rattle.policy.specs.declared.table.Table.{Table}
use Rattle.policy.specs.Steps.{no_lines, verdict_by, progress_after, with_line}
use Rattle.policy.proofs.TableLaws.{Holds, holds_none, by_lines, place_fits, holds_more}
use Rattle.policy.specs.Reads.{longest_text, used_of, lines_up_to, lines_of, refusal, handed_up, acceptance, policy_of, at_end, onward, no_record, judge, read_of}

-- ---- a text falls into its first line and the rest

used_some : (text : List ℕ) (n : ℕ) → 1 ≤ used_of (record_line text) (suc n)
unfolding used_of
used_some text n = go (record_line text) refl
  where
    go : (l : Result (Record × ℕ) NoRecord) → record_line text ≡ l → 1 ≤ used_of l (suc n)
    go (Ok (r, end)) q = (got text r end q).some
    go (Err IllFormedLine) q = omega arith
    go (Err WrongKindLine) q = omega arith

-- any bound on the length serves
bounds : (m n : ℕ) (text : List ℕ) → length text ≤ m → length text ≤ n → lines_up_to m text ≡ lines_up_to n text
unfolding lines_up_to
bounds zero zero text p q = refl
bounds zero (suc n) [] p q = refl
bounds zero (suc n) (b ∷ text) p q = absurd (omega arith)
bounds (suc m) zero [] p q = refl
bounds (suc m) zero (b ∷ text) p q = absurd (omega arith)
bounds (suc m) (suc n) [] p q = refl
bounds (suc m) (suc n) (b ∷ text) p q =
    let u = used_of (record_line (b ∷ text)) (suc (length text)) in
    let h : length (drop u (b ∷ text)) ≤ length text = rw length-drop (omega (arith, used_some (b ∷ text) (length text))) in
    ap (λ (ls : List (Result (Record × ℕ) NoRecord)). record_line (b ∷ text) ∷ ls) (bounds m n (drop u (b ∷ text)) (omega arith) (omega arith))

pub lines_cons : (text : List ℕ) → 0 < length text → lines_of text ≡ record_line text ∷ lines_of (drop (used_of (record_line text) (length text)) text)
unfolding lines_of lines_up_to
lines_cons [] h = absurd (omega arith)
lines_cons (b ∷ text) h =
    let u = used_of (record_line (b ∷ text)) (suc (length text)) in
    let h : length (drop u (b ∷ text)) ≤ length text = rw length-drop (omega (arith, used_some (b ∷ text) (length text))) in
    ap (λ (ls : List (Result (Record × ℕ) NoRecord)). record_line (b ∷ text) ∷ ls) (bounds (length text) (length (drop u (b ∷ text))) (drop u (b ∷ text)) (omega arith) (omega arith))

pub lines_none : lines_of [] ≡ []
unfolding lines_of lines_up_to
lines_none = refl

-- ---- the reading of a text that is not at its end

module _ (e : List Record) (text : List ℕ) (h : 0 < length text) where
  pub judge_ill_formed : record_line text ≡ Err IllFormedLine → judge e (lines_of text) ≡ no_record (Err IllFormedLine) (length e + 1)
  unfolding judge
  judge_ill_formed q = rw (lines_cons text h, q)

  pub judge_wrong_kind : record_line text ≡ Err WrongKindLine → judge e (lines_of text) ≡ no_record (Err WrongKindLine) (length e + 1)
  unfolding judge
  judge_wrong_kind q = rw (lines_cons text h, q)

  pub judge_got : (r : Record) (end : ℕ) → record_line text ≡ Ok (r, end) → judge e (lines_of text) ≡ onward (verdict e r) (judge (r ∷ e) (lines_of (drop end text)))
  unfolding judge used_of
  judge_got r end q = rw (lines_cons text h, q)

judge_end : (e : List Record) (text : List ℕ) → length text ≡ 0 → judge e (lines_of text) ≡ at_end e
unfolding judge lines_of lines_up_to
judge_end e [] q = refl
judge_end e (b ∷ text) q = absurd (omega arith)

-- ---- the loop

-- where the reader stands: at a place of the text, with its table tied to the lines read so far
pub record Going (text : List ℕ) (t : Table) (at : ℕ) : Type 0 where
  pub earlier : List Record
  pub tied : Holds t earlier
  pub within : at ≤ length text
  pub counted : t.done.lines ≤ at
  pub left : read_of text ≡ judge earlier (lines_of (drop at text))

pub too_long : (text : List ℕ) → longest_text < length text → read_of text ≡ refusal TooLong
unfolding read_of
too_long text h = rw (lt-ltb longest_text (length text) h)

pub going_start : (text : List ℕ) → length text ≤ longest_text → Going text no_lines 0
unfolding read_of no_lines
going_start text h =
    record { earlier = []; tied = holds_none; within = omega arith; counted = omega arith; left = rw (le-ltb longest_text (length text) h) }

module _ (text : List ℕ) (t : Table) (at : ℕ) (g : Going text t at) where
  line_number : length g.earlier + 1 ≡ t.done.lines + 1
  line_number = ap (λ (n : ℕ). n + 1) (sym g.tied.lines)

  pub going_fits : (r : Record) → verdict_by t r ≡ Ok tt → place_of t.done.next r ≤ row_count
  going_fits = place_fits t g.earlier g.tied

  -- the line of the part that begins there
  module _ (l : at < length text) where
    some_left : 0 < length (drop at text)
    some_left = omega (arith, length-drop at text)

    -- what comes of it where it is no record
    pub going_no_record : (line : Result (Record × ℕ) NoRecord) → record_line (drop at text) ≡ line → ((r : Record) (end : ℕ) → line ≡ Ok (r, end) → ⊥)
        → read_of text ≡ no_record line (t.done.lines + 1)
    going_no_record (Ok (r, end)) q d = absurd (d r end refl)
    going_no_record (Err IllFormedLine) q d = g.left ∙ judge_ill_formed g.earlier (drop at text) some_left q ∙ ap (no_record (Err IllFormedLine)) line_number
    going_no_record (Err WrongKindLine) q d = g.left ∙ judge_wrong_kind g.earlier (drop at text) some_left q ∙ ap (no_record (Err WrongKindLine)) line_number

    -- and where it is one
    module _ (r : Record) (end : ℕ) (q : record_line (drop at text) ≡ Ok (r, end)) where
      got_line : GotLine (drop at text) r end
      got_line = got (drop at text) r end q

      going_within : at + end ≤ length text
      going_within = omega (arith, got_line.within, length-drop at text, g.within)

      onward_is : read_of text ≡ onward (verdict g.earlier r) (judge (r ∷ g.earlier) (lines_of (drop end (drop at text))))
      onward_is = g.left ∙ judge_got g.earlier (drop at text) some_left r end q

      pub going_refused : (why : Refusal) → verdict g.earlier r ≡ Err why → read_of text ≡ refusal why
      unfolding onward
      going_refused why v = onward_is ∙ rw v

      pub going_on : verdict g.earlier r ≡ Ok tt → Going text (with_line t r (Ok tt)) (at + end)
      unfolding onward with_line progress_after
      going_on v =
          record {
            earlier = r ∷ g.earlier;
            tied = holds_more t g.earlier g.tied r v;
            within = going_within;
            counted = omega (arith, got_line.some, g.counted);
            left = onward_is ∙ rw v (ap (λ (s : List ℕ). judge (r ∷ g.earlier) (lines_of s)) (drop-drop end at text));
          }

    -- the same of what the code has: the line that it read, and the answer of its table
    module _ (line : Result (Record × ℕ) NoRecord) (e : line ≡ record_line (take (length text - at) (drop at text))) where
      line_is : record_line (drop at text) ≡ line
      line_is = sym (e ∙ ap record_line (take_all (length text - at) (drop at text) (omega (arith, length-drop at text))))

      pub read_no_record : ((x : Record × ℕ) → line ≡ Ok x → ⊥) → no_record line (t.done.lines + 1) ≡ read_of text
      read_no_record d = sym (going_no_record line line_is (λ r end q. d (r, end) q))

      module _ (r : Record) (end : ℕ) (q : line ≡ Ok (r, end)) where
        pub read_some : 0 < end
        read_some = (got_line r end (line_is ∙ q)).some

        pub read_within : at + end ≤ length text
        read_within = going_within r end (line_is ∙ q)

        pub read_refused : (answer : Result Unit Refusal) → answer ≡ verdict_by t r → ((x : Unit) → answer ≡ Ok x → ⊥) → handed_up answer ≡ read_of text
        unfolding handed_up refusal
        read_refused (Ok done) v d = absurd (d done refl)
        read_refused (Err why) v d = sym (going_refused r end (line_is ∙ q) why (sym (by_lines t g.earlier g.tied r) ∙ sym v))

        pub read_on : Ok tt ≡ verdict_by t r → Going text (with_line t r (Ok tt)) (at + end)
        read_on v = going_on r end (line_is ∙ q) (sym (by_lines t g.earlier g.tied r) ∙ sym v)

  module _ (l : length text ≤ at) where
    going_end : read_of text ≡ at_end g.earlier
    going_end = g.left ∙ judge_end g.earlier (drop at text) (omega (arith, length-drop at text))

    pub end_accepted : t.done.kind ≡ 10 → acceptance (record { rows = t.rows }) ≡ read_of text
    unfolding at_end policy_of
    end_accepted k =
        let q : last_kind g.earlier ≡ 10 = sym g.tied.kind ∙ k in
        let e : read_of text ≡ acceptance (policy_of g.earlier) = going_end ∙ rw (eq-eqb (last_kind g.earlier) 10 q) in
        ap (λ (rows : List ℕ). acceptance (record { rows = rows })) (tied_table _ _ _ _ _ g.tied) ∙ sym e

    pub end_missing : (t.done.kind ≡ 10 → ⊥) → read_of text ≡ refusal (WrongKind (t.done.lines + 1))
    unfolding at_end
    end_missing h =
        let q : last_kind g.earlier ≡ 10 → ⊥ = λ z. h (g.tied.kind ∙ z) in
        going_end ∙ rw (ne_eqb (last_kind g.earlier) 10 q) (ap (λ (n : ℕ). refusal (WrongKind n)) line_number)
