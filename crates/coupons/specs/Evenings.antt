-- What calls and evenings do to an account.
-- Assumes nothing.
use Rattle.std.specs.Prelude.{ℕ, ◌+◌, ◌-◌, ◌*◌, ◌^◌, min}
use Rattle.coupons.specs.declared.journal.Account.{Account}

abbrev pub opened : ℕ → Account
opened holding = record { holding = holding; interest = 0 }

abbrev pub none_held : Account
none_held = opened 0

-- the interest grows by holding, rate and step, up to the largest number of 128 bits
abbrev pub after_evening : ℕ → ℕ → Account → Account
after_evening rate step a =
    record {
      holding = a.holding;
      interest = min (a.interest + a.holding * rate * step) (2 ^ 128 - 1);
    }

-- a holding grows up to the largest number of 64 bits
abbrev pub gained : ℕ → Account → Account
gained amount a = record { holding = min (a.holding + amount) (2 ^ 64 - 1); interest = a.interest }

abbrev pub lost : ℕ → Account → Account
lost amount a = record { holding = a.holding - amount; interest = a.interest }
