use Rattle.many.proofs.batch.Batch.take_bytes.Given as goal

abbrev pub decreases-loop-self : goal.decreases-loop-self
decreases-loop-self l = l.left
