use Rattle.coupons.proofs.Room.{within}
use Rattle.coupons.proofs.write_dates.Goals as goal

pub returns : goal.returns
returns c = within _ _ _ _ c.schedule.ensures.rule
