use Rattle.register.proofs.Carries.{by_law}
use Rattle.register.proofs.state.Register.redeem.Goals as goal

pub returns : goal.returns
returns g c = by_law g.D.DayCount.counted g.D.DayCount.per g.met.D.DayCount.lawful _ _ _ _ c.make_redemption.ensures
