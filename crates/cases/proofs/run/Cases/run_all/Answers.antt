-- `run_all` runs the cases of its input: each turn runs the first of those that are left.
use Rattle.std.proofs.Common.{◌≡◌, ◌+◌, ◌-◌, ◌≤◌, List, ℕ, ◌++◌, length, take, drop, ap, subst, ◌∙◌, rules, arith}
use Rattle.std.proofs.lemmas.List.{places, nil_from_length}
use borrow.Rule.Slice.PartMut.{put_mid}
use Rattle.cases.specs.Parts.{marked_from}
use Rattle.cases.specs.declared.run.TheConstants.{ROOM, MOST_CASES}
use Rattle.cases.proofs.CaseLaws.{Held, marked_within, held_read, held_case, held_most, held_end, shifted, by_lines}
use Rattle.cases.proofs.run.Cases.run_all.Goals as goal

pub loop-ran-preserved : goal.loop-ran-preserved
loop-ran-preserved g c =
    let was_run = g.Self.Cases.was_run in
    let mark = g.Self.Cases.mark in
    let old = g.R.Read.remaining c.args.reader.now in
    let new = g.R.Read.remaining c.fill.new.reader in
    let ran = c.loop-ran.ran in
    let count = c.in_ok-have.field-0 in
    let have = c.loop-ran.have + count in
    let room = put_mid c.loop-ran.have (131072 - c.loop-ran.have) c.loop-ran.room c.fill.new.room in
    let window = take have room in
    let case = c.split_at_line.result.0.now in
    let bytes = c.shift.new.bytes in
    let end = marked_from window mark 1 in
    let fits : have ≤ 131072 = search rules in
    let long : length window ≡ have = search (rules, places) in
    let within : end ≤ length window = marked_within window mark (omega arith) in
    let cut : case ≡ take end window =
    c.split_at_line.ensures.before ∙ ap (λ (m : List ℕ). take (marked_from window m 1) window) (search rules) in
    let rest : drop end window ≡ take (have - length case) (bytes ++ drop have room) =
    shifted have end window case bytes _ long (omega arith) cut (search rules) (search rules) in
    let run = by_lines was_run case _ _ (take end window) cut c.split_line.ensures.line c.split_line.ensures.rest c.in_ok-run.ensures in
    let read = held_read was_run ROOM MOST_CASES mark ran c.loop-ran.have _ count c.loop-ran.room c.fill.new.room old _ new
    (omega arith) c.in_ok-have.ensures.within c.in_ok-have.ensures.bytes c.loop-ran.invariant.2 in
    let held = held_case was_run ROOM MOST_CASES mark window ran old new
    (omega arith) (omega arith) (omega arith) (λ less. c.in_ok-have.ensures.end (search rules)) run read in
    (omega arith, search (rules, places), subst (λ (l : List ℕ). Held was_run ROOM MOST_CASES mark l (ran + 1) old new) rest held)

pub returns-then-have-eq0-clause-count : goal.returns-then-have-eq0-clause-count
returns-then-have-eq0-clause-count g c =
    let read = held_read g.Self.Cases.was_run ROOM MOST_CASES g.Self.Cases.mark c.loop-ran.ran c.loop-ran.have (131072 - c.loop-ran.have)
    c.in_ok-have.field-0 c.loop-ran.room c.fill.new.room _ _ _
    (omega arith) c.in_ok-have.ensures.within c.in_ok-have.ensures.bytes c.loop-ran.invariant.2 in
    (held_end _ ROOM MOST_CASES _ _ _ _ _ (nil_from_length _ (search (rules, places))) (c.in_ok-have.ensures.end (search rules)) read).0

pub returns-then-have-eq0-clause-each : goal.returns-then-have-eq0-clause-each
returns-then-have-eq0-clause-each g c =
    let read = held_read g.Self.Cases.was_run ROOM MOST_CASES g.Self.Cases.mark c.loop-ran.ran c.loop-ran.have (131072 - c.loop-ran.have)
    c.in_ok-have.field-0 c.loop-ran.room c.fill.new.room _ _ _
    (omega arith) c.in_ok-have.ensures.within c.in_ok-have.ensures.bytes c.loop-ran.invariant.2 in
    (held_end _ ROOM MOST_CASES _ _ _ _ _ (nil_from_length _ (search (rules, places))) (c.in_ok-have.ensures.end (search rules)) read).1

pub returns-clause-count : goal.returns-clause-count
returns-clause-count g c =
    (held_most g.Self.Cases.was_run ROOM MOST_CASES _ _ _ _ _ (omega arith) c.loop-ran.invariant.2).0

pub returns-clause-each : goal.returns-clause-each
returns-clause-each g c =
    (held_most g.Self.Cases.was_run ROOM MOST_CASES _ _ _ _ _ (omega arith) c.loop-ran.invariant.2).1
