-- `all_given` meets its contract: each partition, each group and each subject is asked for its line.
use mathlib.Core.Path.{◌≡◌, ◌∙◌}
use borrow.Author.Tests.{tests}
use Rattle.std.proofs.Common.{rules}
use Rattle.rows.specs.Lookups.{partition_given, group_given, subject_given}
use Rattle.rules.specs.Rules.{all_below, all_given}
use Rattle.rules.specs.Tables.{said_by}
use Rattle.rules.proofs.Below.{ranged_all}
use Rattle.rules.proofs.ends.all_given.Goals.{then-all, else-all}
use Rattle.rules.proofs.ends.all_given.Goals as goal

pub returns-then-all-2 : goal.returns-then-all-2
unfolding all_given said_by
returns-then-all-2 c =
    let p : c.all.result ≡ all_below c.counts_of-n.result.partitions (partition_given c.args.rows.now) = ranged_all c.all.ensures.ran (λ x b q k. search (rules, tests)) in
    let s : c.all-then-all-2.result ≡ all_below c.counts_of-n.result.subjects (subject_given c.args.rows.now) = ranged_all c.all-then-all-2.ensures.ran (λ x b q k. search (rules, tests)) in
    rw (← c.counts_of-n.ensures)
    (elim c.if-all.branch [
      | then-all w ↦ let g : w.all-then-all.result ≡ all_below c.counts_of-n.result.groups (group_given c.args.rows.now) = ranged_all w.all-then-all.ensures.ran (λ x b q k. search (rules, tests)) in
          rw (← p, ← g, ← s, w.if-all.true, ← w.value-is, c.if-all-2.true)
      | else-all w ↦ search rules
    ])

pub returns-else-all-2 : goal.returns-else-all-2
unfolding all_given said_by
returns-else-all-2 c =
    let p : c.all.result ≡ all_below c.counts_of-n.result.partitions (partition_given c.args.rows.now) = ranged_all c.all.ensures.ran (λ x b q k. search (rules, tests)) in
    rw (← c.counts_of-n.ensures)
    (elim c.if-all.branch [
      | then-all w ↦ let g : w.all-then-all.result ≡ all_below c.counts_of-n.result.groups (group_given c.args.rows.now) = ranged_all w.all-then-all.ensures.ran (λ x b q k. search (rules, tests)) in
          rw (← p, ← g, w.if-all.true, ← w.value-is, c.if-all-2.false)
      | else-all w ↦ rw (← p, w.if-all.false) (w.value-is ∙ w.if-all.false)
    ])
