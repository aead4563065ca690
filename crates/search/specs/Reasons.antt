-- Why a plan call is declined, where its search has no sheet.
use Rattle.track.specs.declared.refusal.Refusal.{Refusal}
use Rattle.track.specs.declared.refusal.Refusal.TheVariants.{BeyondReach as Reach, NoLawfulSheet}
use Rattle.search.specs.declared.answer.Unplanned.{Unplanned}
use Rattle.search.specs.declared.answer.Unplanned.TheVariants.{BeyondReach, NoSheet}

abbrev pub reason : Unplanned → Refusal
reason BeyondReach = Reach
reason NoSheet = NoLawfulSheet
