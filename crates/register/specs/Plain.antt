-- A call of the program as a call of the journal.
-- Assumes nothing.
use Rattle.std.specs.Prelude.{ℕ, List, map, length, take, Result}
use Rattle.days.specs.declared.refusal.Refusal.{Refusal}
use Rattle.register.specs.declared.call.Call.{Call as Made}
use Rattle.register.specs.declared.call.Call.TheVariants.{Post, Open, Advance, Transfer, Redeem, Pay}
use Rattle.register.specs.Calls.{Call, opening, advance, transfer, redemption, posting, payment}

abbrev pub plain : Made → Call
plain Post = posting
plain (Open dates rate holdings) = opening dates.now rate holdings.now
plain (Advance day) = advance day
plain (Transfer from to amount) = transfer from to amount
plain (Redeem holder amount) = redemption holder amount
plain (Pay holder) = payment holder

-- the calls that are played: as many as there is room for answers
abbrev pub played : List Made → List (Result ℕ Refusal) → List Call
played calls answers = take (length answers) (map plain calls)
