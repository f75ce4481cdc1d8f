-- What an answer says of the steps that it came through: of `and_then`, and of the first field of several.
-- Assumes nothing.
use Rattle.std.proofs.Common.{◌≡◌, List, ◌∷◌, Some, None, Ok, Err, Option, Result, sym, refl, ap, ◌∙◌}
use Rattle.days.specs.declared.refusal.Refusal.{Refusal}
use Rattle.text.specs.declared.fault.Fault.{Fault}
use Rattle.text.specs.Cuts.{Word}
use Rattle.text.specs.Fields.{placed, Each, Ending, read_word, and_then, fields, settle_at, settle_each}
use Rattle.text.specs.Kinds.{Kind, Said, Value, said, settled}
use Rattle.text.proofs.Chosen.{same_from_ok}

pub err_same : {A E : Type 0} (x y : E) → ◌≡◌ {A = Result A E} (Err x) (Err y) → x ≡ y
err_same x y e = cc

pub never_both : {A E : Type 0} (x : A) (y : E) → ◌≡◌ {A = Result A E} (Ok x) (Err y) → ⊥
never_both x y e = cc

pub then_ok :
    {A B : Type 0} (r : Result A Fault) (f : A → Result B Fault) (b : B) → and_then r f ≡ Ok b →
    (a : A) × (r ≡ Ok a) × (f a ≡ Ok b)
then_ok (Ok a) f b e = (a, refl, e)
then_ok (Err fault) f b e = cc

module _ (kind : Kind) (kinds : List Kind) where
  -- the first word says something, and the others are read behind it
  pub record FirstRead (end : Ending) (word : Word) (later : List Word) (read : Each Said (kind ∷ kinds)) : Type 0 where
    pub says : Said kind
    pub said_is : said kind word.bytes ≡ Some says
    pub first_is : read.0 ≡ placed says end.line word.column
    pub others_are : fields kinds end later ≡ Ok read.1

  first_said :
      (end : Ending) (word : Word) (later : List Word) (read : Each Said (kind ∷ kinds)) (o : Option (Said kind)) →
      said kind word.bytes ≡ o →
      and_then (read_word end.line word later o)
      (λ one. and_then (fields kinds end one.1) (λ others. Ok (one.0, others)))
      ≡ Ok read → FirstRead end word later read
  first_said end word later read None e read_is = cc
  first_said end word later read (Some s) e read_is =
      let rest = then_ok (fields kinds end later) (λ others. Ok (placed s end.line word.column, others)) read read_is in
      let same = same_from_ok rest.2 in
      record {
        says = s;
        said_is = e;
        first_is = ap (λ (x : Each Said (kind ∷ kinds)). x.0) (sym same);
        others_are = rest.1 ∙ ap (λ (x : Each Said (kind ∷ kinds)). Ok x.1) same;
      }

  pub first_read :
      (end : Ending) (word : Word) (later : List Word) (read : Each Said (kind ∷ kinds)) →
      fields (kind ∷ kinds) end (word ∷ later) ≡ Ok read → FirstRead end word later read
  first_read end word later read = first_said end word later read (said kind word.bytes) refl

  -- the first value is settled, and the others behind it
  pub record FirstSettled (read : Each Said (kind ∷ kinds)) (each : Each Value (kind ∷ kinds)) : Type 0 where
    pub value : Value kind
    pub settled_is : settled kind read.0.value ≡ Ok value
    pub first_is : each.0 ≡ placed value read.0.line read.0.column
    pub others_are : settle_each kinds read.1 ≡ Ok each.1

  first_judged :
      (read : Each Said (kind ∷ kinds)) (each : Each Value (kind ∷ kinds)) (r : Result (Value kind) Refusal) →
      settled kind read.0.value ≡ r →
      and_then (settle_at read.0 r)
      (λ first. and_then (settle_each kinds read.1) (λ others. Ok (first, others)))
      ≡ Ok each → FirstSettled read each
  first_judged read each (Err refusal) e each_is = cc
  first_judged read each (Ok v) e each_is =
      let rest =
      then_ok (settle_each kinds read.1) (λ others. Ok (placed v read.0.line read.0.column, others)) each each_is
      in
      let same = same_from_ok rest.2 in
      record {
        value = v;
        settled_is = e;
        first_is = ap (λ (x : Each Value (kind ∷ kinds)). x.0) (sym same);
        others_are = rest.1 ∙ ap (λ (x : Each Value (kind ∷ kinds)). Ok x.1) same;
      }

  pub first_settled :
      (read : Each Said (kind ∷ kinds)) (each : Each Value (kind ∷ kinds)) →
      settle_each (kind ∷ kinds) read ≡ Ok each → FirstSettled read each
  first_settled read each = first_judged read each (settled kind read.0.value) refl
