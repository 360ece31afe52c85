-- By the laws of counting, at the tests of the loop.
use Rattle.std.proofs.Common.{inl, inr}
use borrow.Author.Tests.{lt-ltb}
use Rattle.merging.proofs.MergingLaws.{accepted-walkable}
use Rattle.pooling.proofs.CountLaws.{counting-start, listed-pair, counted-turn, counted-end}
use Rattle.pooling.proofs.count_walked.Goals as goal
use Rattle.pooling.proofs.count_walked.Goals.{then-loop-i-test+else-j-k, else-loop-i-test}

pub loop-i-init : goal.loop-i-init
loop-i-init c =
    counting-start c.args.first.words.now c.args.second.words.now (accepted-walkable _ c.requires.0.accepted) (accepted-walkable _ c.requires.1.accepted)

pub written-p-requires : goal.written-p-requires
written-p-requires c = listed-pair c.requires.0 c.loop-i-test.true

pub written-q-requires : goal.written-q-requires
written-q-requires c = listed-pair c.requires.1 c.if-j-k.true

pub loop-i-smaller : goal.loop-i-smaller
loop-i-smaller c =
    (counted-turn c.requires.0 c.requires.1 c.loop-i.invariant c.loop-i-test.true (lt-ltb _ _ c.if-j-k.true)
    c.written-p.ensures c.written-q.ensures c.past-i.ensures c.past-j.ensures).1

pub loop-i-preserved : goal.loop-i-preserved
loop-i-preserved c =
    (counted-turn c.requires.0 c.requires.1 c.loop-i.invariant c.loop-i-test.true (lt-ltb _ _ c.if-j-k.true)
    c.written-p.ensures c.written-q.ensures c.past-i.ensures c.past-j.ensures).0

pub returns : goal.returns
returns c =
    counted-end c.requires.0 c.requires.1 c.loop-i.invariant
    (elim c.loop-i-test.branch [ then-loop-i-test+else-j-k w ↦ inr w.if-j-k.false | else-loop-i-test w ↦ inl w.loop-i-test.false ])
