use Rattle.std.proofs.Common.{arith, rules}
use Rattle.days.proofs.EasterTable.{easter_sunday, no_easter, easter_found}
use Rattle.days.proofs.Round.{lossless}
use Rattle.days.proofs.computus.easter.Goals as goal

pub returns-in_err-march_21 : goal.returns-in_err-march_21
returns-in_err-march_21 c =
    record {
      value = rw c.from_residual.ensures (no_easter c.args.year (rw c.new.ensures at c.in_err-march_21.ensures.value));
      sunday = easter_sunday;
    }

pub overflow_add-result : goal.overflow_add-result
overflow_add-result c =
    let march = rw c.new.ensures at c.in_ok-march_21.ensures.value in
    omega (arith, march.1, lossless.each_date_has_a_number c.args.year 3 21 march.0, c.days_after_march_21.ensures.few)

pub returns : goal.returns
returns c =
    let march = rw c.new.ensures at c.in_ok-march_21.ensures.value in
    record {
      value = easter_found c.args.year _ _ march.0 march.1 (search rules);
      sunday = easter_sunday;
    }
