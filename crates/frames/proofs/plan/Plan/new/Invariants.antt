use Rattle.std.proofs.Common.{◌≡◌, take}
use Rattle.frames.specs.Replies.{numbers_of}
use Rattle.frames.proofs.plan.Plan.new.Given as goal

abbrev pub invariant-loop-train : goal.invariant-loop-train
invariant-loop-train g l = l.numbers ≡ numbers_of (take l.train-index l.train-items)
