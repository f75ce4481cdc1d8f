-- From what was found of a figure to what is decided of its line.
-- Assumes nothing.
use Rattle.std.proofs.Common.{◌≡◌, ℕ, Bool, true, false, not, is_some, Some, None, Decides, Option, MatchOption, refl, sym, ◌∙◌, subst}
use Rattle.std.proofs.lemmas.Bool.{false≢true, true≢false}
use Rattle.outside.specs.Exactly.{Exactly}

-- the line is right just where the one figure on it is
pub judged :
    {T : Type 0} {P Q : T → Type 0} (figure : Option T) (right : Bool) → Exactly figure P →
    MatchOption figure (right ≡ false) (λ y. Decides right (Q y)) → Decides right ((x : T) × P x × Q x)
judged None right unread wrong = (λ e. absurd (false≢true (sym wrong ∙ e)), λ found. absurd (unread found.0 found.1))
judged {T} {P} {Q} (Some y) right (read, only) decided =
    (λ e. (y, read, decided.0 e), λ found. decided.1 (subst Q (only found.0 found.1) found.2))

pub none_decides :
    {P : Type 0} (n : ℕ) (r : Option ℕ) (b : Bool) → is_some r ≡ not b → Exactly r (λ k. P × (n ≡ k)) →
    Decides b (P → ⊥)
none_decides n None true e h = (λ t p. h n (p, refl), λ never. refl)
none_decides n None false e h = absurd (false≢true e)
none_decides n (Some k) true e h = absurd (true≢false e)
none_decides n (Some k) false e h = (λ t. absurd (false≢true t), λ never. absurd (never h.0.0))
