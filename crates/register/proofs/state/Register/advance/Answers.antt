use Rattle.register.proofs.Carries.{by_law}
use Rattle.register.proofs.state.Register.advance.Goals as goal

pub returns-clause-made : goal.returns-clause-made
returns-clause-made g c = by_law g.D.DayCount.counted g.D.DayCount.per g.met.D.DayCount.lawful _ _ _ _ c.make_advance.ensures
