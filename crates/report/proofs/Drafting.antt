-- A draft that one piece after another is put behind: as long as all of it is short, nothing is cut off.
-- Assumes nothing.
use Rattle.std.proofs.Common.{◌≡◌, ℕ, ◌≤◌, List, [], ◌++◌, length, take, ap, ◌∙◌}
use Rattle.std.proofs.lemmas.List.{take_all}
use Rattle.writing.proofs.Cuts.{cut_again}

-- what was put behind an empty draft, and is not yet cut
pub record Drafted (xs t : List ℕ) : Type 0 where
  pub is : t ≡ take 128 xs

-- the first piece, in an empty draft
pub begun : {t t' : List ℕ} (xs : List ℕ) → t ≡ [] → t' ≡ take 128 (t ++ xs) → Drafted xs t'
begun xs none put = record { is = put ∙ ap (λ s. take 128 (s ++ xs)) none }

pub then : {t t' xs : List ℕ} (ys : List ℕ) → Drafted xs t → t' ≡ take 128 (t ++ ys) → Drafted (xs ++ ys) t'
then {xs = xs} ys so_far put =
    record { is = put ∙ ap (λ s. take 128 (s ++ ys)) so_far.is ∙ cut_again 128 xs ys }

pub whole : {t xs line : List ℕ} → Drafted xs t → xs ≡ line → length line ≤ 128 → t ≡ line
whole {line = line} so_far same short = so_far.is ∙ ap (take 128) same ∙ take_all 128 line short
