-- Two clauses of one result.
use Rattle.std.proofs.Common.{Result, Ok, Err, OnOk}

pub on_ok_both : {A E : Type 0} {P Q R : Type 0} (r : Result A E) → (P → Q → R) → OnOk r P → OnOk r Q → OnOk r R
on_ok_both (Ok value) both p q = both p q
on_ok_both (Err e) both p q = tt
