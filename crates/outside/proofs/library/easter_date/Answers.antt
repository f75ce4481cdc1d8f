use Rattle.outside.proofs.Dates.{easter_found}
use Rattle.outside.proofs.library.easter_date.Goals as goal

pub returns : goal.returns
returns c =
    let easter = c.in_ok-sunday.ensures in
    easter_found easter.sunday c.args.year c.in_ok-sunday.sunday c.date_of.result easter.value c.date_of.ensures
