-- A line is cut into its words in one way only.
-- Assumes nothing.
use Rattle.std.proofs.Common.{◌≡◌, ℕ, zero, suc, ◌<◌, Bool, true, false, cond, eqb, List, length, get_or, drop, Some, None, sym, refl, subst, one-add, arith, lit<, length-drop, get_or-drop, Bor, eqb-true}
use Rattle.std.specs.Str.Pattern.{FindsChar}
use Rattle.std.specs.Int.{IsInRange}
use Rattle.std.specs.Str.Parse.{AllDigits}
use Rattle.std.proofs.lemmas.Str.Parse.{digit_at}
use Rattle.std.proofs.lemmas.Str.Pattern.{IsSplitOnceResult, split_after}
use Rattle.outside.specs.Lines.{Spells, Leads}

digits_only : (ds : List ℕ) → AllDigits 10 ds → (i : ℕ) → i < length ds → get_or ds i 0 ≡ 32 → ⊥
digits_only ds h i l e = let d : IsInRange 48 57 (get_or ds i 0) = digit_at ds i h l in omega arith

-- digits, after a plus where b is true
signed_only :
    (word : List ℕ) (b : Bool) → (b ≡ true → get_or word 0 0 ≡ 43) → AllDigits 10 (drop (cond b 1 0) word) →
    (i : ℕ) → i < length word → get_or word i 0 ≡ 32 → ⊥
signed_only word false plus h i l e = digits_only word h i l e
signed_only word true plus h zero l e = omega (arith, plus refl)
signed_only word true plus h (suc i) l e =
    let short : i < length (drop 1 word) = rw length-drop (omega arith) in
    digits_only (drop 1 word) h i short (rw (get_or-drop 1 word i 0, one-add) e)

no_space : (word : List ℕ) (n : ℕ) → Spells word n → (i : ℕ) → i < length word → get_or word i 0 ≡ 32 → ⊥
no_space word n s =
    signed_only word (eqb (get_or word 0 0) 43) (eqb-true (get_or word 0 0) 43) s.numeral.1

-- a text with no space in it leads with nothing
pub not_led : (text : List ℕ) → FindsChar 32 text None → (n : ℕ) (rest : List ℕ) → Leads text n rest → ⊥
not_led text h n rest l = split_after 32 text l.word rest None h (lit< tt) l.cut (no_space l.word n l.spells)

-- the first space ends the leading word
pub led_by :
    (text : List ℕ) (x : Bor (List ℕ) × Bor (List ℕ)) → IsSplitOnceResult 32 text (Some x) →
    (n : ℕ) (rest : List ℕ) → Leads text n rest → Spells x.0.now n × (rest ≡ x.1.now)
led_by text x h n rest l =
    let same = split_after 32 text l.word rest (Some x) h (lit< tt) l.cut (no_space l.word n l.spells) in
    (subst (λ (w : List ℕ). Spells w n) (sym same.0) l.spells, sym same.1)

pub leads_at : {a b : List ℕ} {n : ℕ} {rest : List ℕ} → a ≡ b → Leads a n rest → Leads b n rest
leads_at {a} {b} {n} {rest} e l = subst (λ (t : List ℕ). Leads t n rest) e l

pub spells_at : {a b : List ℕ} {n : ℕ} → a ≡ b → Spells a n → Spells b n
spells_at {a} {b} {n} e s = subst (λ (t : List ℕ). Spells t n) e s

-- whatever leads the text is n, and what follows is the rest
abbrev pub Cut : List ℕ → ℕ → List ℕ → Type 0
Cut text n rest = (m : ℕ) (tail : List ℕ) → Leads text m tail → (m ≡ n) × (tail ≡ rest)

pub two_led :
    {t u v a b : List ℕ} {n m x y : ℕ} → Cut t n u → Cut u m v → Leads t x a → Leads a y b →
    (x ≡ n) × (y ≡ m) × (b ≡ v)
two_led first second l k =
    let p = first _ _ l in
    let q = second _ _ (leads_at p.1 k) in
    (p.0, q.0, q.1)

pub three_led :
    {t u v w a b d : List ℕ} {n m k x y z : ℕ} → Cut t n u → Cut u m v → Cut v k w → Leads t x a → Leads a y b → Leads b z d →
    (x ≡ n) × (y ≡ m) × (z ≡ k) × (d ≡ w)
three_led first second third l i j =
    let p = two_led first second l i in
    let q = third _ _ (leads_at p.2 j) in
    (p.0, p.1, q.0, q.1)

pub four_led :
    {t u v w s a b d e : List ℕ} {n m k h x y z o : ℕ} → Cut t n u → Cut u m v → Cut v k w → Cut w h s →
    Leads t x a → Leads a y b → Leads b z d → Leads d o e →
    (x ≡ n) × (y ≡ m) × (z ≡ k) × (o ≡ h) × (e ≡ s)
four_led first second third fourth l i j g =
    let p = three_led first second third l i j in
    let q = fourth _ _ (leads_at p.3 g) in
    (p.0, p.1, p.2, q.0, q.1)
