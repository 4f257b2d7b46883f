-- `all_used` meets its contract: each partition is asked for a group, and each group for a subject.
use mathlib.Core.Path.{◌≡◌}
use borrow.Author.Tests.{tests}
use Rattle.std.proofs.Common.{rules, eqb}
use Rattle.rows.specs.Lookups.{partition_of, group_of}
use Rattle.rules.specs.Rules.{all_below, any_below, has_group, has_subject, all_used}
use Rattle.rules.specs.Tables.{said_by}
use Rattle.rules.proofs.Below.{ranged_all}
use Rattle.rules.proofs.ends.all_used.Goals as goal

pub returns-then-all : goal.returns-then-all
unfolding all_used has_group has_subject said_by
returns-then-all c =
    let n = c.counts_of-n.result in
    let p : c.all.result ≡ all_below n.partitions (λ q. any_below n.groups (λ g. eqb (partition_of c.args.rows.now g) q)) = ranged_all c.all.ensures.ran (λ x b q k. search (rules, tests)) in
    let g : c.all-then-all.result ≡ all_below n.groups (λ g. any_below n.subjects (λ s. eqb (group_of c.args.rows.now s) g)) = ranged_all c.all-then-all.ensures.ran (λ x b q k. search (rules, tests)) in
    rw (← c.counts_of-n.ensures, ← p, c.if-all.true) g

pub returns-else-all : goal.returns-else-all
unfolding all_used has_group has_subject said_by
returns-else-all c =
    let n = c.counts_of-n.result in
    let p : c.all.result ≡ all_below n.partitions (λ q. any_below n.groups (λ g. eqb (partition_of c.args.rows.now g) q)) = ranged_all c.all.ensures.ran (λ x b q k. search (rules, tests)) in
    rw (← c.counts_of-n.ensures, ← p, c.if-all.false)
