-- What is seen of a register.
-- Assumes nothing.
use Rattle.register.specs.declared.state.Register.{Register}
use Rattle.register.specs.Calls.{State}
use Rattle.register.specs.Rules.{View, seen_state}

abbrev pub view_of : {D : Type 0} → Register D → View
view_of r =
    record {
      dates = r.terms.dates.items;
      rate = r.terms.rate;
      holders = r.holders;
      rows = r.book.rows;
      today = r.today;
      period = r.book.period;
      tally = r.book.tally;
    }

-- and what its calls are judged by
abbrev pub judged_by : {D : Type 0} → Register D → State
judged_by r = seen_state (view_of r)
