use Rattle.std.proofs.Common.{arith}
use Rattle.report.proofs.OpenText.{read_well, lines_good}
use Rattle.report.proofs.api.read_lines.Goals as goal

pub returns-clause-within : goal.returns-clause-within
returns-clause-within c =
    let text = c.args.text.now in
    let table = c.args.lines.now in
    let n = c.in_ok-count.count in
    let after = c.read.new.lines in
    let well = read_well text table n after c.in_ok-count.ensures.value in
    let good = lines_good text table n after well c.in_ok-count.ensures.law in
    (well.all.within, omega arith, good.1)

pub returns-clause-good : goal.returns-clause-good
returns-clause-good c =
    let text = c.args.text.now in
    let table = c.args.lines.now in
    let n = c.in_ok-count.count in
    let after = c.read.new.lines in
    let well = read_well text table n after c.in_ok-count.ensures.value in
    (lines_good text table n after well c.in_ok-count.ensures.law).0
