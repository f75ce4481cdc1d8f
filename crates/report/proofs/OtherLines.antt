-- A line that is not of one sort has nothing of it.
-- Assumes nothing.
use Rattle.std.proofs.Common.{◌≡◌, ℕ, None, refl}
use Rattle.text.specs.declared.at.At.{At}
use Rattle.text.specs.declared.line.Line.{Line}
use Rattle.text.specs.declared.line.Line.TheVariants as line
use Rattle.report.specs.Parts.{part, pattern_in, holding_in}

pub no_pattern : (l : Line) → ((it : At ℕ) → l ≡ line.Pattern it → ⊥) → pattern_in (part l) ≡ None
no_pattern line.Posting other = refl
no_pattern (line.Pattern it) other = absurd (other it refl)
no_pattern (line.ClosedDay it) other = refl
no_pattern (line.Offset it) other = refl
no_pattern (line.Deal it) other = refl
no_pattern (line.Holding it) other = refl
no_pattern (line.Advance it) other = refl
no_pattern (line.Transfer from to amount) other = refl
no_pattern (line.Redemption holder amount) other = refl
no_pattern (line.Payment it) other = refl

pub no_holding : (l : Line) → ((it : At ℕ) → l ≡ line.Holding it → ⊥) → holding_in (part l) ≡ None
no_holding line.Posting other = refl
no_holding (line.Pattern it) other = refl
no_holding (line.ClosedDay it) other = refl
no_holding (line.Offset it) other = refl
no_holding (line.Deal it) other = refl
no_holding (line.Holding it) other = absurd (other it refl)
no_holding (line.Advance it) other = refl
no_holding (line.Transfer from to amount) other = refl
no_holding (line.Redemption holder amount) other = refl
no_holding (line.Payment it) other = refl
