-- A line is its words with a space before each but the first, and each word knows the column where it begins.
-- Assumes nothing.
use Rattle.std.proofs.Common.{◌≡◌, ℕ, ◌+◌, Bool, true, false, cond, eqb, List, [], ◌∷◌, ◌++◌, length, sym, refl, ap, ◌∙◌, subst, ap₂, arith}
use Rattle.std.proofs.lemmas.Bool.{eqb-true, ne_eqb}
use Rattle.text.specs.Cuts.{space, Word, longer, words, Without, Splits}
use Rattle.text.specs.Left.{word_at}

-- words, each behind a space
abbrev pub joined_words : List Word → List ℕ
joined_words [] = []
joined_words (word ∷ later) = space ∷ (word.bytes ++ joined_words later)

-- the first of these words begins at the column, and each other one behind the one before it and a space
abbrev pub Placed : ℕ → List Word → Type 0
Placed column [] = Unit {0}
Placed column (word ∷ later) = (word.column ≡ column) × Placed (column + length word.bytes + 1) later

-- what words say of their line, which begins at the column
abbrev pub WordsOf : ℕ → List ℕ → List Word → Type 0
WordsOf column line [] = ⊥
WordsOf column line (word ∷ later) =
    (word.bytes ++ joined_words later ≡ line) × Placed column (word ∷ later)

one_byte_words :
    (column b : ℕ) (bs : List ℕ) (t : Bool) (later : List Word) → eqb b space ≡ t → WordsOf (column + 1) bs later →
    WordsOf column (b ∷ bs) (cond t (word_at column [] ∷ later) (longer column b later))
one_byte_words column b bs t [] e of = absurd of
one_byte_words column b bs true (word ∷ later) e of =
    let behind : column + 1 ≡ column + length {A = ℕ} [] + 1 = omega arith in
    (ap₂ ◌∷◌ (sym (eqb-true b space e)) of.0, (refl, subst (λ k. Placed k (word ∷ later)) behind of.1))
one_byte_words column b bs false (word ∷ later) e of =
    let further : column + 1 + length word.bytes + 1 ≡ column + length (b ∷ word.bytes) + 1 = omega arith in
    (ap (λ cs. b ∷ cs) of.0, (refl, rw further at of.1.1))

pub words_of : (column : ℕ) (line : List ℕ) → WordsOf column line (words column line)
unfolding words
words_of column [] = (refl, (refl, tt))
words_of column (b ∷ bs) =
    one_byte_words column b bs (eqb b space) (words (column + 1) bs) refl (words_of (column + 1) bs)

-- a word that ends the line
pub words_last :
    (column : ℕ) (word : List ℕ) → Without space word → words column word ≡ word_at column word ∷ []
unfolding words
words_last column [] clean = refl
words_last column (b ∷ bs) clean =
    rw (ne_eqb b space clean.0) (ap (longer column b) (words_last (column + 1) bs clean.1))

-- a word with a space behind it
pub words_first :
    (column : ℕ) (word rest : List ℕ) → Without space word →
    words column (word ++ space ∷ rest) ≡ word_at column word ∷ words (column + length word + 1) rest
unfolding words
words_first column [] rest clean =
    let behind : column + 1 ≡ column + length {A = ℕ} [] + 1 = omega arith in
    ap (λ n. word_at column [] ∷ words n rest) behind
words_first column (b ∷ bs) rest clean =
    let further : column + 1 + length bs + 1 ≡ column + length (b ∷ bs) + 1 = omega arith in
    rw (ne_eqb b space clean.0)
    (ap (longer column b) (words_first (column + 1) bs rest clean.1)
    ∙ ap (λ n. word_at column (b ∷ bs) ∷ words n rest) further)

-- the words of what is cut at its first space
pub words_cut :
    (column : ℕ) (rest word later : List ℕ) → Splits space rest word later →
    words column rest ≡ word_at column word ∷ words (column + (length word + 1)) later
words_cut column rest word later split =
    let behind : column + length word + 1 ≡ column + (length word + 1) = omega arith in
    ap (words column) split.joins ∙ words_first column word later split.clean
    ∙ ap (λ n. word_at column word ∷ words n later) behind
