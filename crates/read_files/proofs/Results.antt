-- What holds of a result, from several facts.
use Rattle.std.proofs.Common.{◌≡◌, false}
use Rattle.std.specs.Prelude.{IfOk, OnOk, Result, Ok, Err}
use Rattle.std.specs.Result.{is_err}
use Rattle.std.proofs.lemmas.Bool.{true≢false}

-- what holds where there is a value, from three such facts
pub on_ok_three : {T E P Q R S : Type 0} (r : Result T E) → (P → Q → R → S) → OnOk r P → OnOk r Q → OnOk r R → OnOk r S
on_ok_three (Ok x) f p q s = f p q s
on_ok_three (Err x) f p q s = tt

-- the same of that value
pub if_ok_three : {X Y : Type 0} (r : Result X Y) (P Q R S : X → Type 0) → ((x : X) → P x → Q x → R x → S x) → IfOk r P → IfOk r Q → IfOk r R → IfOk r S
if_ok_three (Ok x) P Q R S f p q r = f x p q r
if_ok_three (Err y) P Q R S f p q r = tt

-- what holds of a value that is no error
pub ok_holds : {T E P : Type 0} (r : Result T E) → is_err r ≡ false → OnOk r P → P
ok_holds (Ok x) e h = h
ok_holds (Err x) e h = absurd (true≢false e)
