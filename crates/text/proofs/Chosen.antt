-- What a test chose, from the answer that it led to.
-- Assumes nothing.
use Rattle.std.proofs.Common.{◌≡◌, Bool, true, false, cond, ◌⊎◌, Some, None, Ok, Err, Option, Result, refl, inl, inr}

pub same_from_some : {T : Type 0} {x s : T} → Some x ≡ Some s → x ≡ s
same_from_some e = cc

pub same_from_ok : {T E : Type 0} {x v : T} → ◌≡◌ {A = Result T E} (Ok x) (Ok v) → x ≡ v
same_from_ok e = cc

-- a value came from this test, or from those behind it
pub some_from_cond :
    {T : Type 0} {s : T} (b : Bool) (x : T) (other : Option T) → cond b (Some x) other ≡ Some s →
    ((b ≡ true) × (x ≡ s)) ⊎ (other ≡ Some s)
some_from_cond true x other e = inl (refl, same_from_some e)
some_from_cond false x other e = inr e

-- a value came from the only test
pub some_from_only : {T : Type 0} {s : T} (b : Bool) (x : T) → cond b (Some x) None ≡ Some s → (b ≡ true) × (x ≡ s)
some_from_only true x e = (refl, same_from_some e)
some_from_only false x e = cc

pub ok_from_only :
    {T E : Type 0} {v : T} (b : Bool) (x : T) (refusal : E) → cond b (Ok x) (Err refusal) ≡ Ok v → (b ≡ true) × (x ≡ v)
ok_from_only true x refusal e = (refl, same_from_ok e)
ok_from_only false x refusal e = cc
